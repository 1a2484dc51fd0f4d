-- Division by p modulo q, where p and q have no common factor: it undoes multiplication by p. Assumes nothing.
use Rattle.std.proofs.Common.{◌≡◌, ℕ, zero, suc, ◌+◌, ◌-◌, ◌*◌, ◌/◌, ◌%◌, ◌<◌, ◌≤◌, Bool, true, false, cond, eqb, ◌≢◌, sym, refl, ap, ◌∙◌, subst, mod-lt, mod-eq_of_lt, mul_assoc, mul_comm, div-lt_iff_lt-mul, add-mul, mul-le-mul_left, mul-zero, div-add-mod', mul-one, mul-suc, mul-add, mul_left_comm, sub-one, arith, eq-eqb, ne_eqb, eqb-true}
use native.Mathlib.Nat.{mod-mod, mod_self, mod-one, zero-mod, mod-zero}
use native.Mathlib.Decide.{ℕ_discrete}
use borrow.Author.Tests.{eqb-false}
use Rattle.modular.specs.Modulo.{Same}
use Rattle.modular.specs.Division.{multiplier, inverse, divide}
use Rattle.modular.specs.Internal.{Coprime}
use Rattle.modular.proofs.Congruence.{same_refl, same_eq, same_sym, ◌then◌, same_mod, same_add, same_mul, same_more, with_opposite}

-- ---- Euclid: some multiple of q is -1 modulo p

pub record Reaches (q p : ℕ) : Type 0 where
  pub k : ℕ
  pub below : k < p
  pub divides : (1 + q * k) % p ≡ 0

euclid_step : (q p j y : ℕ) → 0 < p → (q % p) * y ≡ 1 + p * j → Reaches q p
euclid_step q p j y h exact = record { k = (p - 1) * y % p; below = mod-lt ((p - 1) * y) h; divides = found.is ∙ zero-mod p }
  where
    sorted : (q % p) * ((p - 1) * y) ≡ (p - 1) * (1 + p * j)
    sorted = mul_left_comm (q % p) (p - 1) y ∙ ap (λ (n : ℕ). (p - 1) * n) exact

    tidy : 1 + (p - 1) * (1 + p * j) ≡ (1 + (p - 1) * j) * p + 0
    tidy = omega (arith, with_opposite p 1 h, mul-one (p - 1), mul-add (p - 1) 1 (p * j), mul_left_comm (p - 1) p j, mul_comm p ((p - 1) * j), add-mul 1 ((p - 1) * j) p)

    found : Same p (1 + q * ((p - 1) * y % p)) 0
    found =
        same_add (same_refl {x = 1}) (same_mul (same_sym same_mod) same_mod then same_eq sorted) then same_eq tidy then same_more 0 (1 + (p - 1) * j)

zero_same : {f x : ℕ} → x % f ≡ 0 → Same f x 0
zero_same {f} e = record { is = e ∙ sym (zero-mod f) }

euclid : (fuel p q : ℕ) → p < fuel → 0 < p → Coprime p q → Reaches q p
euclid zero p q l h c = absurd (omega arith)
euclid (suc fuel) p q l h c = go (λ (m : 0 < q % p) (d : Coprime (q % p) p). euclid fuel (q % p) p (omega (arith, mod-lt q h)) m d) (ℕ_discrete (q % p) 0)
  where
    lift : (f : ℕ) → (q % p) % f ≡ 0 → p % f ≡ 0 → q % f ≡ 0
    lift f x y =
        (same_eq {q = f} (sym (div-add-mod' q p)) then same_add (same_mul (same_refl {x = q / p}) (zero_same y)) (zero_same x)
        then same_eq {y = 0} (omega (arith, mul-zero (q / p)))).is ∙ zero-mod f

    go : (0 < q % p → Coprime (q % p) p → Reaches p (q % p)) → Dec (q % p ≡ 0) → Reaches q p
    go rec (yes e) = let one : p ≡ 1 = c p (mod_self p) e in record { k = 0; below = h; divides = rw one (mod-one _) }
    go rec (no e) =
        let t = rec (omega arith) (λ f x y. c f y (lift f x y)) in
        euclid_step q p t.k ((1 + p * t.k) / (q % p)) h
        (omega (arith, t.divides, div-add-mod' (1 + p * t.k) (q % p), mul_comm ((1 + p * t.k) / (q % p)) (q % p)))

-- ---- the search finds it

multiplier_works : (q p n k : ℕ) → k < n → (1 + q * k) % p ≡ 0 → (1 + q * multiplier q p n) % p ≡ 0
unfolding multiplier
multiplier_works q p zero k l e = absurd (omega arith)
multiplier_works q p (suc n) k l e = go (λ (m : k < n). multiplier_works q p n k m e) (eqb ((1 + q * n) % p) 0) refl
  where
    go : (k < n → (1 + q * multiplier q p n) % p ≡ 0) → (t : Bool) → eqb ((1 + q * n) % p) 0 ≡ t → (1 + q * cond t n (multiplier q p n)) % p ≡ 0
    go rec true t = eqb-true _ _ t
    go rec false t = rec (less (ℕ_discrete k n))
      where
        less : Dec (k ≡ n) → k < n
        less (yes s) = absurd (eqb-false _ _ t (rw s at e))
        less (no s) = omega arith

multiplier_exact : (q p : ℕ) → 0 < p → Coprime p q → (1 + q * multiplier q p p) % p ≡ 0
multiplier_exact q p h c = let t = euclid (suc p) p q (omega arith) h c in multiplier_works q p p t.k t.below t.divides

module _ {q p : ℕ} (h : 0 < p) (c : Coprime p q) where
  pub inverse_works : Same q (p * inverse q p) 1
  unfolding inverse
  inverse_works = same_eq (omega (arith, multiplier_exact q p h c, div-add-mod' (1 + q * multiplier q p p) p, mul_comm ((1 + q * multiplier q p p) / p) p, mul_comm q (multiplier q p p))) then same_more 1 (multiplier q p p)

  -- p (x / p) = x
  pub times_divide : (x : ℕ) → Same q (p * divide q p x) x
  unfolding divide
  times_divide x =
      same_mul (same_refl {x = p}) same_mod then same_eq (mul_left_comm p x (inverse q p)) then same_mul (same_refl {x = x}) inverse_works then same_eq (mul-one x)

  -- p x / p = x
  pub divide_times : (x y : ℕ) → Same q x (p * y) → Same q (divide q p x) y
  unfolding divide
  divide_times x y e =
      same_mod then same_mul e (same_refl {x = inverse q p}) then same_eq {y = y * (p * inverse q p)} (simp (mul_assoc, mul_left_comm))
      then same_mul (same_refl {x = y}) inverse_works then same_eq (mul-one y)

  -- x / p is the one number below q that times p is x
  pub divide_unique : (x r : ℕ) → r < q → Same q x (p * r) → divide q p x ≡ r
  unfolding divide
  divide_unique x r l e = sym (mod-mod _ q) ∙ (divide_times x r e).is ∙ mod-eq_of_lt l

-- ---- a test: some multiple of q is -1 modulo p only if they have no factor in common

one_factor : (f : ℕ) → 1 % f ≡ 0 → f ≡ 1
one_factor zero e = absurd (omega (arith, mod-zero 1))
one_factor (suc zero) e = refl
one_factor (suc (suc f)) e = absurd (omega (arith, mod-eq_of_lt {n = 1} {m = suc (suc f)} (omega arith)))

pub reaches_coprime : (q p k : ℕ) → (1 + q * k) % p ≡ 0 → Coprime p q
reaches_coprime q p k e f x y = one_factor f (one.is ∙ zero-mod f)
  where
    multiple : Same f (1 + q * k) 0
    multiple =
        same_eq (sym (div-add-mod' (1 + q * k) p)) then same_add (same_mul (same_refl {x = (1 + q * k) / p}) (zero_same x)) (same_eq e)
        then same_eq {y = 0} (omega (arith, mul-zero ((1 + q * k) / p)))

    one : Same f 1 0
    one = same_eq {y = 1 + 0 * k} (omega arith) then same_add (same_refl {x = 1}) (same_mul (same_sym (zero_same y)) (same_refl {x = k})) then multiple

-- ---- how code divides

pub odd_coprime : (q : ℕ) → q % 2 ≡ 1 → Coprime 2 q
odd_coprime q odd = reaches_coprime q 2 1 (omega (arith, mul-one q))

pub multiplier_less : (q p n : ℕ) → 0 < n → multiplier q p n < n
unfolding multiplier
multiplier_less q p zero h = absurd (omega arith)
multiplier_less q p (suc n) h = go (λ (l : 0 < n). multiplier_less q p n l) (eqb ((1 + q * n) % p) 0) (ℕ_discrete n 0)
  where
    go : (0 < n → multiplier q p n < n) → (t : Bool) → Dec (n ≡ 0) → cond t n (multiplier q p n) < suc n
    go rec true d = omega arith
    go rec false (yes e) = subst (λ (i : ℕ). multiplier q p i < suc i) (sym e) (omega arith)
    go rec false (no e) = omega (arith, rec (omega arith))

-- one step of the search
multiplier_step : (q p k : ℕ) → 0 < k → multiplier q p k ≡ cond (eqb ((1 + q * (k - 1)) % p) 0) (k - 1) (multiplier q p (k - 1))
unfolding multiplier
multiplier_step q p zero h = absurd (omega arith)
multiplier_step q p (suc k) h = rw (sub-one (suc k))

pub multiplier_found : (q p k : ℕ) → 0 < k → (1 + q * (k - 1)) % p ≡ 0 → multiplier q p k ≡ k - 1
multiplier_found q p k h e = multiplier_step q p k h ∙ rw (eq-eqb _ _ e)

pub multiplier_below : (q p k : ℕ) → 0 < k → (1 + q * (k - 1)) % p ≢ 0 → multiplier q p k ≡ multiplier q p (k - 1)
multiplier_below q p k h e = multiplier_step q p k h ∙ rw (ne_eqb _ _ e)

pub multiplier_none : (q p k : ℕ) → k ≤ 0 → multiplier q p k ≡ 0
unfolding multiplier
multiplier_none q p zero h = refl
multiplier_none q p (suc k) h = absurd (omega arith)

-- x + q (x m modulo p) is p times x / p
module _ (q p : ℕ) (h : 0 < p) (c : Coprime p q) (x : ℕ) (l : x < q) where
  abbrev t : ℕ
  t = (x % p) * multiplier q p p % p

  multiple : (x + q * t) % p ≡ 0
  multiple =
      (same_add (same_refl {x = x}) (same_mul (same_refl {x = q}) (same_mod then same_mul (same_mod {x = x}) (same_refl {x = multiplier q p p})))
      then same_eq {y = x * (1 + q * multiplier q p p)} (simp (mul-add, mul-one, mul_left_comm))
      then same_mul (same_refl {x = x}) (zero_same (multiplier_exact q p h c))
      then same_eq {y = 0} (mul-zero x)).is ∙ zero-mod p

  pub quotient_less : (x + q * t) / p < q
  quotient_less =
      let few : suc t ≤ p = mod-lt ((x % p) * multiplier q p p) h in
      (div-lt_iff_lt-mul h).1 (omega (arith, mul-le-mul_left q few, mul-suc q t))

  pub divided : (x + q * t) / p ≡ divide q p x
  divided = sym (divide_unique h c x ((x + q * t) / p) quotient_less (same_sym (same_more x t) then same_eq (omega (arith, multiple, div-add-mod' (x + q * t) p, mul_comm ((x + q * t) / p) p, mul_comm t q))))
