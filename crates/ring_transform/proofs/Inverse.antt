-- The inverse transform of the transform of s is 2^l s. Assumes nothing.
use mathlib.Core.Path.{◌≡◌, refl, sym, ap, ap₂, ◌∙◌}
use mathlib.Core.List.{List, ◌∷◌, ◌++◌, map}
use Prim.Native.Nat.{ℕ, zero, suc, ◌+◌, ◌-◌, ◌*◌, ◌/◌, ◌%◌, ◌^◌, ◌≤◌, ◌<◌}
use native.Mathlib.Nat.{add-zero, zero-add, add_assoc, add_left_comm, mul_assoc, mul_comm, mul_left_comm, mul-add, add-mul, mul-zero, one-mul, mod-lt, mod-eq_of_lt}
use native.Mathlib.Omega.{arith}
use lib.Pow.{pow-add}
use lib.ListN.{take, drop, take-append-drop}
use Rattle.modular.specs.Modulo.{Same}
use Rattle.modular.specs.Roots.{Root}
use Rattle.modular.proofs.Congruence.{same_refl, same_eq, same_mod, same_add, same_mul, same_negative, same_opposite, ◌then◌}
use Rattle.vector.specs.Vector.{Each, none, more}
use Rattle.vector.specs.Internal.{Vector}
use Rattle.vector.proofs.Vectors.{take_each, drop_each}
use Rattle.ring_transform.specs.Internal.{zip}
use Rattle.ring_transform.specs.Internal.{two_to, plus_twiddled, minus_twiddled, transform, back_sum, back_twiddled, united, untransform}
use Rattle.ring_transform.proofs.Vectors.{take_join, drop_join, zip_map, map_join, zip_left, zip_right}
use Rattle.ring_transform.proofs.Convolve.{root_pos, plus_same, minus_same, minus_squared, plus_vec, minus_vec, transform_vec}

sum_of : (p t z a b : ℕ) → t * (a + z * b) + t * (a + p * z * b) ≡ (t + t) * a + (t * z * b + p * (t * z * b))
sum_of p t z a b = simp (mul-add, add-mul, mul_assoc, mul_left_comm, add_assoc, add_left_comm)

difference_of : (p t y z a b : ℕ) → y * (t * (a + p * z * b) + p * (t * (a + z * b))) ≡ y * t * (a + p * a) + p * (z * y) * ((t + t) * b)
difference_of p t y z a b = simp (mul-add, add-mul, mul_assoc, mul_comm, mul_left_comm, add_assoc, add_left_comm)

module _ {q : ℕ} (h : 0 < q) (t z : ℕ) where
  -- t times a number
  abbrev pub scaled : ℕ → ℕ
  scaled v = t * v % q

  scaled_plus : (a b : ℕ) → Same q (scaled (plus_twiddled q z a b)) (t * (a + z * b))
  scaled_plus a b = same_mod then same_mul (same_refl {x = t}) (plus_same z a b)

  scaled_minus : (a b : ℕ) → Same q (scaled (minus_twiddled q z a b)) (t * (a + (q - 1) * z * b))
  scaled_minus a b = same_mod then same_mul (same_refl {x = t}) (minus_same z a b h)

  first_is : (a b : ℕ) → back_sum q (scaled (plus_twiddled q z a b)) (scaled (minus_twiddled q z a b)) ≡ (t + t) * a % q
  first_is a b =
      (same_add (scaled_plus a b) (scaled_minus a b) then same_eq (sum_of (q - 1) t z a b)
      then same_add same_refl (same_opposite (t * z * b) h) then same_eq (add-zero ((t + t) * a))).is

  second_is : (y a b : ℕ) → Same q (z * y) (q - 1) → back_twiddled q y (scaled (plus_twiddled q z a b)) (scaled (minus_twiddled q z a b)) ≡ (t + t) * b % q
  second_is y a b e =
      (same_mul (same_refl {x = y})
      (same_mod then same_add (scaled_minus a b) (same_negative (scaled (plus_twiddled q z a b)) (omega (arith, mod-lt (t * plus_twiddled q z a b) {m = q} h)) h then same_mul (same_refl {x = q - 1}) (scaled_plus a b)))
      then same_eq (difference_of (q - 1) t y z a b)
      then same_add (same_mul (same_refl {x = y * t}) (same_opposite a h)) (same_mul (same_mul (same_refl {x = q - 1}) e then minus_squared q h) same_refl)
      then same_eq (ap₂ (λ (m n : ℕ). m + n) (mul-zero (y * t)) (one-mul ((t + t) * b)) ∙ zero-add ((t + t) * b))).is

map_same : {P : ℕ → Type 0} (f : ℕ → ℕ) {n : ℕ} {x : List ℕ} → ((a : ℕ) → P a → a ≡ f a) → Each P n x → x ≡ map f x
map_same f e none = refl
map_same f e (more hx vx) = ap₂ ◌∷◌ (e _ hx) (map_same f e vx)

module _ {q w N : ℕ} (r : Root q N w) where
  -- w ^ k w ^ (N - k) is -1
  opposite : (k : ℕ) → k ≤ N → Same q (w ^ k * w ^ (N - k)) (q - 1)
  opposite k h = same_eq (sym (pow-add w k (N - k)) ∙ ap (λ (n : ℕ). w ^ n) (omega arith)) then r.minus_one

  joined : (z y t : ℕ) → Same q (z * y) (q - 1) → {n : ℕ} {a b : List ℕ} → Vector q n a → Vector q n b
      → united q y (map (λ v. t * v % q) (zip (plus_twiddled q z) a b)) (map (λ v. t * v % q) (zip (minus_twiddled q z) a b)) ≡ map (λ v. (t + t) * v % q) a ++ map (λ v. (t + t) * v % q) b
  unfolding united
  joined z y t e va vb =
      ap₂ ◌++◌
      (zip_map (back_sum q) (λ v. t * v % q) _ _ ∙ zip_left (λ u v. back_sum q (t * u % q) (t * v % q)) (plus_twiddled q z) (minus_twiddled q z) (λ v. (t + t) * v % q) (λ a b _ _. first_is (root_pos r) t z a b) va vb)
      (zip_map (back_twiddled q y) (λ v. t * v % q) _ _ ∙ zip_right (λ u v. back_twiddled q y (t * u % q) (t * v % q)) (plus_twiddled q z) (minus_twiddled q z) (λ v. (t + t) * v % q) (λ a b _ _. second_is (root_pos r) t z y a b e) va vb)

  pub back_and_forth : (l e : ℕ) → e ≤ N + N → {s : List ℕ} → Vector q (two_to l) s → untransform q w N l e (transform q w N l e s) ≡ map (λ v. two_to l * v % q) s
  unfolding two_to transform untransform
  back_and_forth zero e he v = map_same (λ v. 1 * v % q) (λ a l. sym (mod-eq_of_lt l) ∙ ap (λ (n : ℕ). n % q) (sym (one-mul a))) v
  back_and_forth (suc l) e he {s} v =
      let z : ℕ = w ^ (e / 2) in
      let y : ℕ = w ^ (N - e / 2) in
      let t : ℕ = two_to l in
      let lo = take_each t t refl v in
      let hi = drop_each t t refl v in
      let pv = plus_vec t z (root_pos r) v in
      let mv = minus_vec t z (root_pos r) v in
      let fp = transform_vec w N (root_pos r) l (e / 2) pv in
      let ih1 = back_and_forth l (e / 2) (omega arith) pv in
      let ih2 = back_and_forth l (e / 2 + N) (omega arith) mv in
      ap₂ (united q y) (ap (untransform q w N l (e / 2)) (take_join _ fp) ∙ ih1) (ap (untransform q w N l (e / 2 + N)) (drop_join _ fp) ∙ ih2)
      ∙ joined z y t (opposite (e / 2) (omega arith)) lo hi
      ∙ sym (map_join (λ v. (t + t) * v % q) (take t s) (drop t s)) ∙ ap (map (λ v. (t + t) * v % q)) (take-append-drop t s)
