-- The product by transforms is the ring's. Assumes nothing.
use mathlib.Core.Path.{◌≡◌, refl, sym, ap, ap₂, ◌∙◌}
use mathlib.Core.List.{List, ◌∷◌, map}
use Prim.Native.Nat.{ℕ, zero, suc, ◌-◌, ◌*◌, ◌%◌, ◌<◌}
use native.Mathlib.Nat.{mul_assoc, mul-one, one-mul, mod-lt, mod-eq_of_lt}
use native.Mathlib.Numerals.{add-one}
use native.Mathlib.Omega.{arith}
use Rattle.codec.specs.Lists.{list}
use Rattle.modular.specs.Modulo.{Same}
use Rattle.modular.specs.Roots.{Root}
use Rattle.modular.proofs.Congruence.{same_refl, same_eq, same_sym, same_mod, same_mul, ◌then◌}
use Rattle.ring.specs.Poly.{Poly, mul, modulo}
use Rattle.vector.specs.Vector.{Each, none, more}
use Rattle.vector.specs.Internal.{Vector}
use Rattle.vector.proofs.Vectors.{append_each}
use Rattle.ring_transform.specs.Internal.{zip, two_to, transform, untransform}
use Rattle.ring_transform.proofs.Vectors.{map_each, eval_map}
use Rattle.ring_transform.proofs.Values.{eval_mul}
use Rattle.ring_transform.proofs.Convolve.{Values, root_pos, recast, convolve}
use Rattle.ring_transform.proofs.Inverse.{back_and_forth}

-- n coefficients that have a property
pub list_each : {P : ℕ → Type 0} (n : ℕ) (f : Poly) → ((k : ℕ) → k < n → P (f k)) → Each P n (list n f)
unfolding list
list_each zero f h = none
list_each (suc n) f h = rw (sym (add-one n)) (append_each (list_each n f (λ k l. h k (omega arith))) (more (h n (omega arith)) none))

modulo_each : {q : ℕ} (n : ℕ) (f : Poly) → 0 < q → Vector q n (list n (modulo q f))
unfolding modulo
modulo_each {q} n f h = list_each n (modulo q f) (λ k l. mod-lt (f k) h)

-- three multiples that undo each other
map_thrice : {P : ℕ → Type 0} (f g h : ℕ → ℕ) {n : ℕ} {x : List ℕ} → ((a : ℕ) → P a → f (g (h a)) ≡ a) → Each P n x → map f (map g (map h x)) ≡ x
map_thrice f g h e none = refl
map_thrice f g h e (more hx vx) = ap₂ ◌∷◌ (e _ hx) (map_thrice f g h e vx)

-- the products of the values come divided by something, as u has it, and h makes up for that and for 2^l
pub product_is : {q w : ℕ} (l u h : ℕ) → Root q (two_to l) w → Same q (h * (two_to l * u)) 1 → (a b : Poly) → Vector q (two_to l) (list (two_to l) a) → Vector q (two_to l) (list (two_to l) b)
    → map (λ v. h * v % q) (untransform q w (two_to l) l (two_to l) (zip (λ x y. u * (x * y) % q) (transform q w (two_to l) l (two_to l) (list (two_to l) a)) (transform q w (two_to l) l (two_to l) (list (two_to l) b))))
    ≡ list (two_to l) (modulo q (mul q (two_to l) a b))
product_is {q} {w} l u h r e a b va vb =
    let N : ℕ = two_to l in
    let pos = root_pos r in
    let c : List ℕ = list N (modulo q (mul q N a b)) in
    let one : N ≡ N * 1 = sym (mul-one N) in
    ap (λ (s : List ℕ). map (λ v. h * v % q) (untransform q w N l N s)) (sym (convolve r u l N 1 1 one one va vb vd (recast r u (same_sym r.minus_one) values)))
    ∙ ap (map (λ v. h * v % q)) (back_and_forth r l N (omega arith) vd)
    ∙ map_thrice (λ v. h * v % q) (λ v. N * v % q) (λ v. u * v % q) undo vc
  where
    vc : Vector q (two_to l) (list (two_to l) (modulo q (mul q (two_to l) a b)))
    vc = modulo_each (two_to l) (mul q (two_to l) a b) (root_pos r)

    vd : Vector q (two_to l) (map (λ v. u * v % q) (list (two_to l) (modulo q (mul q (two_to l) a b))))
    vd = map_each {P = λ v. v < q} (λ v. u * v % q) (λ v m. mod-lt (u * v) (root_pos r)) vc

    values : Values q (two_to l) (q - 1) u (list (two_to l) a) (list (two_to l) b) (map (λ v. u * v % q) (list (two_to l) (modulo q (mul q (two_to l) a b))))
    values = record { at = λ x s. eval_map x u (list (two_to l) (modulo q (mul q (two_to l) a b))) then same_mul (same_refl {x = u}) (eval_mul x (two_to l) s a b) }

    undo : (v : ℕ) → v < q → h * (two_to l * (u * v % q) % q) % q ≡ v
    undo v k =
        (same_mul (same_refl {x = h}) (same_mod then same_mul (same_refl {x = two_to l}) same_mod) then same_eq (regroup (two_to l)) then same_mul e same_refl then same_eq (one-mul v)).is
        ∙ mod-eq_of_lt k
      where
        regroup : (t : ℕ) → h * (t * (u * v)) ≡ h * (t * u) * v
        regroup t = simp mul_assoc
