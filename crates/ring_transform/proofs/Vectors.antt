-- Lists entry by entry, and the value of a polynomial: of a sum, of a part, of a product by X. Assumes nothing.
use mathlib.Core.Path.{◌≡◌, refl, sym, ap, ap₂, ◌∙◌}
use mathlib.Core.List.{List, [], ◌∷◌, ◌++◌, map}
use Prim.Native.Nat.{ℕ, zero, suc, ◌+◌, ◌*◌, ◌%◌, ◌^◌, ◌≤◌}
use native.Mathlib.Nat.{add_assoc, add_left_comm, mul_assoc, mul_left_comm, mul-add, mul-zero, pow-zero, pow-succ'}
use native.Mathlib.Omega.{arith}
use lib.ListN.{length, take, drop}
use Rattle.modular.specs.Modulo.{Same}
use Rattle.modular.proofs.Congruence.{same_refl, same_eq, same_mod, same_add, same_mul, ◌then◌}
use Rattle.vector.specs.Vector.{Each, none, more}
use Rattle.ring_transform.specs.Internal.{zip}

-- ---- lists

pub zip_each : {P Q : ℕ → Type 0} (f : ℕ → ℕ → ℕ) {n : ℕ} {x y : List ℕ} → ((a b : ℕ) → P a → P b → Q (f a b)) → Each P n x → Each P n y → Each Q n (zip f x y)
unfolding zip
zip_each f h none none = none
zip_each f h (more hx vx) (more hy vy) = more (h _ _ hx hy) (zip_each f h vx vy)

pub map_each : {P Q : ℕ → Type 0} (f : ℕ → ℕ) {n : ℕ} {x : List ℕ} → ((a : ℕ) → P a → Q (f a)) → Each P n x → Each Q n (map f x)
map_each f h none = none
map_each f h (more hx vx) = more (h _ hx) (map_each f h vx)

pub take_join : {P : ℕ → Type 0} {n : ℕ} {x : List ℕ} (y : List ℕ) → Each P n x → take n (x ++ y) ≡ x
take_join y none = refl
take_join y (more {x = a} h v) = ap (λ (l : List ℕ). a ∷ l) (take_join y v)

pub drop_join : {P : ℕ → Type 0} {n : ℕ} {x : List ℕ} (y : List ℕ) → Each P n x → drop n (x ++ y) ≡ y
drop_join y none = refl
drop_join y (more h v) = drop_join y v

pub zip_join : {P : ℕ → Type 0} (f : ℕ → ℕ → ℕ) {n : ℕ} {x z : List ℕ} (y w : List ℕ) → Each P n x → Each P n z → zip f (x ++ y) (z ++ w) ≡ zip f x z ++ zip f y w
unfolding zip
zip_join f y w none none = refl
zip_join f y w (more {x = a} hx vx) (more {x = b} hz vz) = ap (λ (l : List ℕ). f a b ∷ l) (zip_join f y w vx vz)

pub zip_map : (f : ℕ → ℕ → ℕ) (g : ℕ → ℕ) (x y : List ℕ) → zip f (map g x) (map g y) ≡ zip (λ a b. f (g a) (g b)) x y
unfolding zip
zip_map f g [] y = refl
zip_map f g (x ∷ xs) [] = refl
zip_map f g (x ∷ xs) (y ∷ ys) = ap (λ (l : List ℕ). f (g x) (g y) ∷ l) (zip_map f g xs ys)

pub map_join : (f : ℕ → ℕ) (x y : List ℕ) → map f (x ++ y) ≡ map f x ++ map f y
map_join f [] y = refl
map_join f (x ∷ xs) y = ap (λ (l : List ℕ). f x ∷ l) (map_join f xs y)

-- f of (g a b) and (h a b) is k of a; and of b
pub zip_left : {P : ℕ → Type 0} (f g h : ℕ → ℕ → ℕ) (k : ℕ → ℕ) {n : ℕ} {x y : List ℕ} → ((a b : ℕ) → P a → P b → f (g a b) (h a b) ≡ k a)
    → Each P n x → Each P n y → zip f (zip g x y) (zip h x y) ≡ map k x
unfolding zip
zip_left f g h k e none none = refl
zip_left f g h k e (more hx vx) (more hy vy) = ap₂ ◌∷◌ (e _ _ hx hy) (zip_left f g h k e vx vy)

pub zip_right : {P : ℕ → Type 0} (f g h : ℕ → ℕ → ℕ) (k : ℕ → ℕ) {n : ℕ} {x y : List ℕ} → ((a b : ℕ) → P a → P b → f (g a b) (h a b) ≡ k b)
    → Each P n x → Each P n y → zip f (zip g x y) (zip h x y) ≡ map k y
unfolding zip
zip_right f g h k e none none = refl
zip_right f g h k e (more hx vx) (more hy vy) = ap₂ ◌∷◌ (e _ _ hx hy) (zip_right f g h k e vx vy)

-- f (g a) is a
pub map_back : {P : ℕ → Type 0} (f g : ℕ → ℕ) {n : ℕ} {x : List ℕ} → ((a : ℕ) → P a → f (g a) ≡ a) → Each P n x → map f (map g x) ≡ x
map_back f g e none = refl
map_back f g e (more hx vx) = ap₂ ◌∷◌ (e _ hx) (map_back f g e vx)

-- ---- values

-- the polynomial with these coefficients, lowest first, at x
unfoldable pub eval : ℕ → List ℕ → ℕ
eval x [] = 0
eval x (c ∷ cs) = c + x * eval x cs

-- the value of a sum a + z b
step : (a b x z s t : ℕ) → a + z * b + x * (s + z * t) ≡ a + x * s + z * (b + x * t)
step a b x z s t = simp (mul-add, mul_left_comm, add_assoc, add_left_comm)

pub eval_zip : {P : ℕ → Type 0} {q : ℕ} (x z : ℕ) (f : ℕ → ℕ → ℕ) {n : ℕ} {a b : List ℕ} → ((u v : ℕ) → P u → P v → Same q (f u v) (u + z * v))
    → Each P n a → Each P n b → Same q (eval x (zip f a b)) (eval x a + z * eval x b)
unfolding eval zip
eval_zip x z f h none none = same_eq (omega (arith, mul-zero z))
eval_zip {q} x z f h (more {x = u} {xs = us} hu vu) (more {x = v} {xs = vs} hv vv) =
    same_add (h u v hu hv) (same_mul (same_refl {x = x}) (eval_zip x z f h vu vv)) then same_eq (step u v x z (eval x us) (eval x vs))

pub eval_map : {q : ℕ} (x c : ℕ) (a : List ℕ) → Same q (eval x (map (λ v. c * v % q) a)) (c * eval x a)
unfolding eval
eval_map x c [] = same_eq (sym (mul-zero c))
eval_map {q} x c (u ∷ us) =
    same_add same_mod (same_mul (same_refl {x = x}) (eval_map x c us)) then same_eq (regroup u (eval x us))
  where
    regroup : (u s : ℕ) → c * u + x * (c * s) ≡ c * (u + x * s)
    regroup u s = simp (mul-add, mul_left_comm)

-- the value of a list, by its backSum m numbers and the others
pub eval_parts : (x m : ℕ) (s : List ℕ) → m ≤ length s → eval x s ≡ eval x (take m s) + x ^ m * eval x (drop m s)
unfolding eval
eval_parts x zero s h = rw (pow-zero x) (omega arith)
eval_parts x (suc m) [] h = absurd (omega arith)
eval_parts x (suc m) (c ∷ cs) h =
    ap (λ (k : ℕ). c + x * k) (eval_parts x m cs (omega arith)) ∙ regroup (eval x (take m cs)) (x ^ m) (eval x (drop m cs))
    ∙ ap (λ (k : ℕ). c + x * eval x (take m cs) + k * eval x (drop m cs)) (sym (pow-succ' x m))
  where
    regroup : (s p t : ℕ) → c + x * (s + p * t) ≡ c + x * s + x * p * t
    regroup s p t = simp (mul-add, mul_assoc, add_assoc)
