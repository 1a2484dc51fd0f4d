-- What a product by Montgomery's reduction comes to. Assumes nothing.
use mathlib.Core.Path.{◌≡◌, sym, ap, ap₂, ◌∙◌}
use Prim.Native.Nat.{ℕ, zero, suc, ◌+◌, ◌*◌, ◌/◌, ◌%◌, ◌^◌, ◌≤◌, ◌<◌}
use native.Mathlib.Nat.{add_comm, mul_assoc, mul_comm, mul_left_comm, mul-add, mul-zero, one-mul, div-add-mod', mul-le-mul, pow-zero, pow-succ'}
use native.Mathlib.Omega.{arith}
use Rattle.modular.specs.Modulo.{Same}
use Rattle.modular.proofs.Congruence.{same_refl, same_eq, same_sym, same_mod, same_add, same_mul, same_more, ◌then◌}
use Rattle.montgomery.specs.Internal.{half, radix_inverse, Modulus}

-- ---- Montgomery

cleared : (t q i : ℕ) → (q * i + 1) % 268435456 ≡ 0 → (t + t % 268435456 * i % 268435456 * (q % 268435456)) % 268435456 ≡ 0
cleared t q i e =
    (same_add (same_refl {q = 268435456} {x = t}) (same_mul (same_mod then same_mul same_mod (same_refl {x = i})) (same_mod {x = q}))
    then same_eq (regroup t i q) then same_mul (same_refl {x = t}) (record { is = e }) then same_eq (mul-zero t)).is
  where
    regroup : (t i q : ℕ) → t + t * i * q ≡ t * (q * i + 1)
    regroup t i q = omega (arith, ap (λ (n : ℕ). t * n) (mul_comm q i), mul_assoc t i q, mul-add t (q * i) 1)

columns : (x0 x1 y0 y1 q0 q1 m0 m1 u0 u1 : ℕ) → x0 * y0 + m0 * q0 ≡ u0 * 268435456 → x0 * y1 + x1 * y0 + m0 * q1 + u0 + m1 * q0 ≡ u1 * 268435456
    → (x1 * y1 + m1 * q1 + u1) * 72057594037927936 ≡ (x1 * 268435456 + x0) * (y1 * 268435456 + y0) + (m1 * 268435456 + m0) * (q1 * 268435456 + q0)
columns x0 x1 y0 y1 q0 q1 m0 m1 u0 u1 d e = omega arith

module _ (q i x y : ℕ) where
  abbrev pub t0 : ℕ
  t0 = x % 268435456 * (y % 268435456)

  abbrev pub m0 : ℕ
  m0 = t0 % 268435456 * i % 268435456

  abbrev pub u0 : ℕ
  u0 = (t0 + m0 * (q % 268435456)) / 268435456

  abbrev pub t1 : ℕ
  t1 = x % 268435456 * (y / 268435456) + x / 268435456 * (y % 268435456) + m0 * (q / 268435456) + u0

  abbrev pub m1 : ℕ
  m1 = t1 % 268435456 * i % 268435456

  abbrev pub u1 : ℕ
  u1 = (t1 + m1 * (q % 268435456)) / 268435456

  unfoldable pub reduced : ℕ
  reduced = x / 268435456 * (y / 268435456) + m1 * (q / 268435456) + u1

whole : (n : ℕ) → n % 268435456 ≡ 0 → n ≡ n / 268435456 * 268435456
whole n e = omega arith

pub exact : (q i x y : ℕ) → (q * i + 1) % 268435456 ≡ 0 → reduced q i x y * 72057594037927936 ≡ x * y + (m1 q i x y * 268435456 + m0 q i x y) * q
unfolding reduced
exact q i x y e =
    columns (x % 268435456) (x / 268435456) (y % 268435456) (y / 268435456) (q % 268435456) (q / 268435456) (m0 q i x y) (m1 q i x y) (u0 q i x y) (u1 q i x y)
    (whole (t0 q i x y + m0 q i x y * (q % 268435456)) (cleared (t0 q i x y) q i e)) (whole (t1 q i x y + m1 q i x y * (q % 268435456)) (cleared (t1 q i x y) q i e))
    ∙ ap₂ (λ (a b : ℕ). a + (m1 q i x y * 268435456 + m0 q i x y) * b) (ap₂ (λ (a b : ℕ). a * b) (div-add-mod' x 268435456) (div-add-mod' y 268435456)) (div-add-mod' q 268435456)

pub bound : (q i x y : ℕ) → Modulus q i → x < q → y < q → reduced q i x y < q + q
bound q i x y m hx hy =
    go (reduced q i x y) (m1 q i x y * 268435456 + m0 q i x y) (exact q i x y m.inverse) (omega arith)
  where
    go : (r k : ℕ) → r * 72057594037927936 ≡ x * y + k * q → k ≤ 72057594037927935 → r < q + q
    go r k e l =
        let a : x * y ≤ q * 72057594037927936 = mul-le-mul (omega arith) (omega (arith, m.small)) in
        let b : k * q ≤ 72057594037927935 * q = mul-le-mul l (omega arith) in
        omega arith

-- ---- 1 / 2^k modulo an odd q: (q + 1) / 2 to the k

pub halves : {q : ℕ} (k : ℕ) → q % 2 ≡ 1 → Same q (half q ^ k * 2 ^ k) 1
unfolding half
halves {q} zero o = same_eq (ap (λ (n : ℕ). n * 1) (pow-zero ((q + 1) / 2)))
halves {q} (suc k) o =
    same_eq (ap₂ (λ (m n : ℕ). m * n) (pow-succ' ((q + 1) / 2) k) (pow-succ' 2 k) ∙ regroup ((q + 1) / 2) (((q + 1) / 2) ^ k) (2 ^ k))
    then same_mul (same_eq e then same_more 1 1) (halves k o)
  where
    regroup : (h p t : ℕ) → h * p * (2 * t) ≡ h * 2 * (p * t)
    regroup h p t = simp (mul_assoc, mul_comm, mul_left_comm)

    e : (q + 1) / 2 * 2 ≡ 1 * q + 1
    e = omega arith

-- 2^56 times radix_inverse is 1
pub radix_times : (q : ℕ) → q % 2 ≡ 1 → Same q (radix_inverse q * 72057594037927936) 1
unfolding radix_inverse
radix_times q o = halves 56 o

pub reduced_is : (q i x y : ℕ) → Modulus q i → reduced q i x y % q ≡ y * radix_inverse q * x % q
reduced_is q i x y m =
    (same_eq (sym (one-mul (reduced q i x y))) then same_mul (same_sym (radix_times q m.odd)) same_refl
    then same_eq (mul_assoc (radix_inverse q) 72057594037927936 (reduced q i x y) ∙ ap (λ (n : ℕ). radix_inverse q * n) (mul_comm 72057594037927936 (reduced q i x y) ∙ exact q i x y m.inverse))
    then same_mul (same_refl {x = radix_inverse q}) (same_eq (add_comm (x * y) ((m1 q i x y * 268435456 + m0 q i x y) * q)) then same_more (x * y) (m1 q i x y * 268435456 + m0 q i x y))
    then same_eq (regroup (radix_inverse q))).is
  where
    regroup : (u : ℕ) → u * (x * y) ≡ y * u * x
    regroup u = simp (mul_assoc, mul_comm, mul_left_comm)

-- the steps of the code are those of `reduced`
pub assembled : (q i x y : ℕ) {a b c d e f g h j k : ℕ} → a ≡ x % 268435456 * (y % 268435456) → b ≡ a % 268435456 * i → c ≡ b % 268435456 * (q % 268435456)
    → d ≡ x % 268435456 * (y / 268435456) → e ≡ x / 268435456 * (y % 268435456) → f ≡ b % 268435456 * (q / 268435456)
    → g ≡ (d + e + f + (a + c) / 268435456) % 268435456 * i → h ≡ g % 268435456 * (q % 268435456) → j ≡ x / 268435456 * (y / 268435456) → k ≡ g % 268435456 * (q / 268435456)
    → j + k + (d + e + f + (a + c) / 268435456 + h) / 268435456 ≡ reduced q i x y
unfolding reduced
assembled q i x y p1 p2 p3 p4 p5 p6 p7 p8 p9 p10 = cc
