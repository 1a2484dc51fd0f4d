-- The values of a product modulo X^N + 1: where X^N is -1, the value of a b is the product of the values of a and b. Assumes nothing.
use mathlib.Core.Path.{◌≡◌, refl, sym, ap, ap₂, ◌∙◌}
use mathlib.Core.List.{List, [], ◌∷◌, ◌++◌}
use Prim.Native.Nat.{ℕ, zero, suc, ◌+◌, ◌-◌, ◌*◌, ◌^◌, ◌≤◌, ◌<◌}
use native.Mathlib.Nat.{add-zero, zero-add, add_assoc, add_comm, mul_assoc, mul_comm, mul_left_comm, mul-add, mul-zero, one-mul, pow-zero, pow-succ'}
use native.Mathlib.Omega.{arith}
use lib.Pow.{pow-add}
use lib.ListN.{length}
use Rattle.codec.specs.Lists.{list}
use Rattle.codec.proofs.Lists.{length_list}
use Rattle.modular.specs.Modulo.{Same}
use Rattle.modular.proofs.Congruence.{same_refl, same_eq, same_sym, same_mod, same_add, same_mul, ◌then◌}
use Rattle.ring.specs.Poly.{Poly, sum, turn, coefficient, mul, modulo}
use Rattle.ring.proofs.Sums.{sum_cong, sum_same, sum_scale, sum_split, sum_swap}
use Rattle.ring.proofs.Coefficients.{turn_low, turn_high}
use Rattle.ring.proofs.Polynomials.{mul_at}
use Rattle.ring_transform.proofs.Vectors.{eval}

-- a list's value with one number more at its end
eval_end : (x : ℕ) (s : List ℕ) (c : ℕ) → eval x (s ++ (c ∷ [])) ≡ eval x s + x ^ length s * c
unfolding eval
eval_end x [] c = ap (λ (n : ℕ). c + n) (mul-zero x) ∙ add-zero c ∙ sym (zero-add (x ^ 0 * c) ∙ ap (λ (n : ℕ). n * c) (pow-zero x) ∙ one-mul c)
eval_end x (b ∷ s) c = ap (λ (n : ℕ). b + x * n) (eval_end x s c) ∙ regroup (eval x s) (x ^ length s) ∙ ap (λ (n : ℕ). b + x * eval x s + n * c) (sym (pow-succ' x (length s)))
  where
    regroup : (s p : ℕ) → b + x * (s + p * c) ≡ b + x * s + x * p * c
    regroup s p = simp (mul-add, mul_assoc, add_assoc)

pub eval_list : (x n : ℕ) (f : Poly) → eval x (list n f) ≡ sum n (λ i. x ^ i * f i)
unfolding list sum eval
eval_list x zero f = refl
eval_list x (suc n) f = eval_end x (list n f) (f n) ∙ ap₂ (λ (s m : ℕ). s + x ^ m * f n) (eval_list x n f) (length_list n f)

module _ {q : ℕ} (x N : ℕ) (e : Same q (x ^ N) (q - 1)) where
  -- the value of b
  abbrev value : Poly → ℕ
  value b = sum N (λ k. x ^ k * b k)

  -- the part of X^i b that went over the end and came back negated
  turned : (b : Poly) (i k : ℕ) → i ≤ N → k < i → Same q (x ^ k * turn q N b k i) (x ^ i * (x ^ (N - i + k) * b (N - i + k)))
  turned b i k h l =
      let j : N + k - i ≡ N - i + k = omega arith in
      let m : k + N ≡ i + (N - i + k) = omega arith in
      same_eq (ap (λ (n : ℕ). x ^ k * n) (turn_high q N b k i l ∙ ap (λ (n : ℕ). (q - 1) * b n) j) ∙ sym (mul_assoc (x ^ k) (q - 1) (b (N - i + k))))
      then same_mul (same_mul (same_refl {x = x ^ k}) (same_sym e)) same_refl
      then same_eq (ap (λ (n : ℕ). n * b (N - i + k)) (sym (pow-add x k N) ∙ ap (λ (n : ℕ). x ^ n) m ∙ pow-add x i (N - i + k)) ∙ mul_assoc (x ^ i) (x ^ (N - i + k)) (b (N - i + k)))

  moved : (b : Poly) (i k : ℕ) → x ^ (i + k) * turn q N b (i + k) i ≡ x ^ i * (x ^ k * b k)
  moved b i k =
      let j : i + k - i ≡ k = omega arith in
      ap₂ (λ (m n : ℕ). m * n) (pow-add x i k) (turn_low q N b (i + k) i (omega arith) ∙ ap b j) ∙ mul_assoc (x ^ i) (x ^ k) (b k)

  -- the value of X^i b
  shifted : (b : Poly) (i : ℕ) → i < N → Same q (sum N (λ k. x ^ k * turn q N b k i)) (x ^ i * value b)
  shifted b i h =
      let m : i + (N - i) ≡ N = omega arith in
      let n : N - i + i ≡ N = omega arith in
      same_eq (ap (λ (z : ℕ). sum z (λ k. x ^ k * turn q N b k i)) (sym m) ∙ sum_split i (N - i) (λ k. x ^ k * turn q N b k i))
      then same_add (sum_same q i (λ k l. turned b i k (omega arith) l) then same_eq (sum_scale i (x ^ i) (λ k. x ^ (N - i + k) * b (N - i + k))))
      (same_eq (sum_cong (N - i) (λ k l. moved b i k) ∙ sum_scale (N - i) (x ^ i) (λ k. x ^ k * b k)))
      then same_eq (add_comm _ _ ∙ sym (mul-add (x ^ i) (sum (N - i) (λ k. x ^ k * b k)) (sum i (λ k. x ^ (N - i + k) * b (N - i + k))))
      ∙ ap (λ (z : ℕ). x ^ i * z) (sym (sum_split (N - i) i (λ k. x ^ k * b k)) ∙ ap (λ (z : ℕ). sum z (λ k. x ^ k * b k)) n))

  pub value_mul : (a b : Poly) → Same q (value (modulo q (mul q N a b))) (value a * value b)
  unfolding modulo coefficient
  value_mul a b =
      sum_same q N (λ k l. same_mul (same_refl {x = x ^ k}) (same_mod then same_eq (mul_at q N a b k l)))
      then same_eq (sum_cong N (λ k l. sym (sum_scale N (x ^ k) (λ i. a i * turn q N b k i))) ∙ sum_swap N N (λ k i. x ^ k * (a i * turn q N b k i))
      ∙ sum_cong N (λ i l. sum_cong N (λ k m. mul_left_comm (x ^ k) (a i) (turn q N b k i)) ∙ sum_scale N (a i) (λ k. x ^ k * turn q N b k i)))
      then sum_same q N (λ i l. same_mul (same_refl {x = a i}) (shifted b i l))
      then same_eq (sum_cong N (λ i l. regroup (a i) (x ^ i) (value b)) ∙ sum_scale N (value b) (λ i. x ^ i * a i) ∙ mul_comm (value b) (value a))
    where
      regroup : (a p v : ℕ) → a * (p * v) ≡ v * (p * a)
      regroup a p v = simp (mul_comm, mul_left_comm)

  -- the same of the lists
  pub eval_mul : (a b : Poly) → Same q (eval x (list N (modulo q (mul q N a b)))) (eval x (list N a) * eval x (list N b))
  eval_mul a b = same_eq (eval_list x N (modulo q (mul q N a b))) then value_mul a b then same_eq (ap₂ (λ (m n : ℕ). m * n) (sym (eval_list x N a)) (sym (eval_list x N b)))
