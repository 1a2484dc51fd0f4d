-- The transform takes products to products entry by entry: what has the values of a product is taken to the product of the transforms. Assumes nothing.
use mathlib.Core.Path.{◌≡◌, refl, sym, ap, ap₂, ◌∙◌}
use mathlib.Core.List.{List, [], ◌∷◌, ◌++◌}
use Prim.Native.Nat.{ℕ, zero, suc, ◌+◌, ◌-◌, ◌*◌, ◌/◌, ◌%◌, ◌^◌, ◌<◌}
use native.Mathlib.Nat.{add-zero, mul_assoc, mul_comm, mul_left_comm, mul-zero, one-mul, mod-lt, mod-eq_of_lt, pow-zero}
use native.Mathlib.Omega.{arith}
use lib.Pow.{pow-add}
use lib.ListN.{take, drop}
use Rattle.modular.specs.Modulo.{Same}
use Rattle.modular.specs.Roots.{Root}
use Rattle.modular.proofs.Congruence.{same_refl, same_eq, same_sym, same_mod, same_add, same_mul, same_negative, ◌then◌}
use Rattle.vector.specs.Vector.{none, more}
use Rattle.vector.specs.Internal.{Vector}
use Rattle.vector.proofs.Vectors.{append_each, take_each, drop_each, each_length}
use Rattle.ring_transform.specs.Internal.{zip}
use Rattle.ring_transform.specs.Internal.{two_to, plus_twiddled, minus_twiddled, transform}
use Rattle.ring_transform.proofs.Vectors.{zip_each, zip_join, eval, eval_zip, eval_parts}

pub plus_same : {q : ℕ} (z a b : ℕ) → Same q (plus_twiddled q z a b) (a + z * b)
plus_same z a b = same_mod then same_add same_refl same_mod

pub minus_same : {q : ℕ} (z a b : ℕ) → 0 < q → Same q (minus_twiddled q z a b) (a + (q - 1) * z * b)
minus_same {q} z a b h =
    same_mod then same_add same_refl (same_negative (z * b % q) (omega (arith, mod-lt (z * b) {m = q} h)) h then same_mul (same_refl {x = q - 1}) same_mod then same_eq (sym (mul_assoc (q - 1) z b)))

-- -1 times -1 is 1
pub minus_squared : (q : ℕ) → 0 < q → Same q ((q - 1) * (q - 1)) 1
minus_squared q h = same_sym (same_eq e then same_negative (q - 1) (omega arith) h)
  where
    e : 1 ≡ q - (q - 1)
    e = omega arith

below : {q : ℕ} (n : ℕ) → 0 < q → n % q < q
below n h = mod-lt n h

-- the two_to halves of a level
pub plus_vec : {q : ℕ} (m z : ℕ) {s : List ℕ} → 0 < q → Vector q (m + m) s → Vector q m (zip (plus_twiddled q z) (take m s) (drop m s))
plus_vec {q} m z h v = zip_each (plus_twiddled q z) (λ u v _ _. below (u + z * v % q) h) (take_each m m refl v) (drop_each m m refl v)

pub minus_vec : {q : ℕ} (m z : ℕ) {s : List ℕ} → 0 < q → Vector q (m + m) s → Vector q m (zip (minus_twiddled q z) (take m s) (drop m s))
minus_vec {q} m z h v = zip_each (minus_twiddled q z) (λ u v _ _. below (u + (q - z * v % q)) h) (take_each m m refl v) (drop_each m m refl v)

pub transform_vec : {q : ℕ} (w N : ℕ) → 0 < q → (l e : ℕ) {s : List ℕ} → Vector q (two_to l) s → Vector q (two_to l) (transform q w N l e s)
unfolding two_to transform
transform_vec w N h zero e v = v
transform_vec w N h (suc l) e v =
    append_each (transform_vec w N h l (e / 2) (plus_vec (two_to l) (w ^ (e / 2)) h v)) (transform_vec w N h l (e / 2 + N) (minus_vec (two_to l) (w ^ (e / 2)) h v))

pub root_pos : {q N w : ℕ} → Root q N w → 0 < q
root_pos r = omega (arith, r.below)

-- c has the values of u a b, where X ^ n is d
pub record Values (q n d u : ℕ) (a b c : List ℕ) : Type 0 where
  pub at : (x : ℕ) → Same q (x ^ n) d → Same q (eval x c) (u * (eval x a * eval x b))

module _ {q w N : ℕ} (r : Root q N w) (u : ℕ) where
  -- s modulo X ^ m - z has the value of s where X ^ m is z
  fold : (m : ℕ) {s : List ℕ} (x z : ℕ) (f : ℕ → ℕ → ℕ) → ((u v : ℕ) → Same q (f u v) (u + z * v)) → Vector q (m + m) s → Same q (x ^ m) z
      → Same q (eval x (zip f (take m s) (drop m s))) (eval x s)
  fold m {s} x z f h v e =
      eval_zip x z f (λ a b _ _. h a b) (take_each m m refl v) (drop_each m m refl v)
      then same_add same_refl (same_mul (same_sym e) same_refl)
      then same_eq (sym (eval_parts x m s (let n = each_length v in omega arith)))

  down : (m : ℕ) {d : ℕ} {a b c : List ℕ} (z : ℕ) (f : ℕ → ℕ → ℕ) → ((u v : ℕ) → Same q (f u v) (u + z * v)) → Same q (z * z) d
      → Vector q (m + m) a → Vector q (m + m) b → Vector q (m + m) c → Values q (m + m) d u a b c
      → Values q m z u (zip f (take m a) (drop m a)) (zip f (take m b) (drop m b)) (zip f (take m c) (drop m c))
  down m z f h e va vb vc p =
      record {
        at = λ x k.
            fold m x z f h vc k then p.at x (same_eq (pow-add x m m) then same_mul k k then e)
            then same_mul same_refl (same_mul (same_sym (fold m x z f h va k)) (same_sym (fold m x z f h vb k)));
      }

  -- the squares of w ^ (e / 2) and of -w ^ (e / 2) are w ^ e
  square : (k e : ℕ) → k + k ≡ e → Same q (w ^ k * w ^ k) (w ^ e)
  square k e h = same_eq (sym (pow-add w k k) ∙ ap (λ (n : ℕ). w ^ n) h)

  minus_square : (k e : ℕ) → k + k ≡ e → Same q ((q - 1) * w ^ k * ((q - 1) * w ^ k)) (w ^ e)
  minus_square k e h = same_eq (regroup (q - 1) (w ^ k)) then same_mul (minus_squared q (root_pos r)) (square k e h) then same_eq (one-mul (w ^ e))
    where
      regroup : (a b : ℕ) → a * b * (a * b) ≡ a * a * (b * b)
      regroup a b = simp (mul_assoc, mul_left_comm)

  turned : (k : ℕ) → Same q ((q - 1) * w ^ k) (w ^ (k + N))
  turned k = same_mul (same_sym r.minus_one) same_refl then same_eq (mul_comm (w ^ N) (w ^ k) ∙ sym (pow-add w k N))

  pub recast : {n d d' : ℕ} {a b c : List ℕ} → Same q d d' → Values q n d u a b c → Values q n d' u a b c
  recast s p = record { at = λ x k. p.at x (k then same_sym s) }

  pub convolve : (l e k j : ℕ) → e ≡ two_to l * k → N ≡ two_to l * j → {a b c : List ℕ} → Vector q (two_to l) a → Vector q (two_to l) b → Vector q (two_to l) c
      → Values q (two_to l) (w ^ e) u a b c → transform q w N l e c ≡ zip (λ x y. u * (x * y) % q) (transform q w N l e a) (transform q w N l e b)
  unfolding two_to transform zip eval
  convolve zero e k j _ _ (more {x = a} ha none) (more {x = b} hb none) (more {x = c} hc none) p =
      let x : ℕ = w ^ e in
      let s : Same q (c + x * 0) (u * ((a + x * 0) * (b + x * 0))) = p.at x (same_eq (one_power x)) in
      ap (λ (n : ℕ). n ∷ []) (sym (mod-eq_of_lt hc) ∙ ap (λ (n : ℕ). n % q) (plain c x) ∙ s.is ∙ ap₂ (λ (m n : ℕ). u * (m * n) % q) (sym (plain a x)) (sym (plain b x)))
    where
      plain : (c x : ℕ) → c ≡ c + x * 0
      plain c x = omega arith

      one_power : (x : ℕ) → x ^ 1 ≡ x
      one_power x = native.Mathlib.Nat.pow-suc x 0 ∙ ap (λ (n : ℕ). n * x) (pow-zero x) ∙ one-mul x
  convolve (suc l) e k j he hN {a} {b} {c} va vb vc p =
      let z : ℕ = w ^ (e / 2) in
      let half : e / 2 ≡ two_to l * k = omega arith in
      let twice : e / 2 + e / 2 ≡ e = omega arith in
      let jj : N ≡ two_to l * (j + j) = omega arith in
      let sum : e / 2 + N ≡ two_to l * (k + (j + j)) = omega arith in
      ap₂ ◌++◌
      (convolve l (e / 2) k (j + j) half jj (plus_vec (two_to l) z (root_pos r) va) (plus_vec (two_to l) z (root_pos r) vb) (plus_vec (two_to l) z (root_pos r) vc) (down (two_to l) z (plus_twiddled q z) (plus_same z) (square (e / 2) e twice) va vb vc p))
      (convolve l (e / 2 + N) (k + (j + j)) (j + j) sum jj (minus_vec (two_to l) z (root_pos r) va) (minus_vec (two_to l) z (root_pos r) vb) (minus_vec (two_to l) z (root_pos r) vc)
      (recast (turned (e / 2)) (down (two_to l) ((q - 1) * z) (minus_twiddled q z) (λ u v. minus_same z u v (root_pos r)) (minus_square (e / 2) e twice) va vb vc p)))
      ∙ sym (zip_join (λ x y. u * (x * y) % q) _ _ (transform_vec w N (root_pos r) l (e / 2) (plus_vec (two_to l) z (root_pos r) va)) (transform_vec w N (root_pos r) l (e / 2) (plus_vec (two_to l) z (root_pos r) vb)))
