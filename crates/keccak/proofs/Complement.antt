-- Complemented lanes: how a complement goes through the operations on lanes. Assumes nothing.
use mathlib.Core.Path.{◌≡◌, refl, sym, ap, ◌∙◌}
use mathlib.Core.Bool.{Bool, true, false, not}
use Prim.Native.Nat.{ℕ, zero, suc, ◌+◌, ◌-◌, ◌*◌, ◌/◌, ◌%◌, ◌^◌, max, ◌<◌}
use native.Mathlib.Nat.{div-one}
use native.Mathlib.Numerals.{one-add}
use native.Mathlib.Omega.{arith}
use lib.Bits.{bit_xor, bit_and, bit_or, or_shr, or_mod, xor_lt, and_lt, or_lt, xor_comm}
use lib.Pow.{shr-shr}
use Rattle.keccak.specs.Keccak.{bit, rotate, complement}
use Rattle.keccak.specs.Internal.{flip, ◌⊻◌}
use Rattle.keccak.proofs.Bits.{on_bits, bit_xor_lem, bit_and_lem, bit_complement, rotate_lt, bit_rotate}
use Rattle.keccak.proofs.Lanes.{complement_lt}

-- ---- numbers are equal by their bits

bit_lt : (l z : ℕ) → bit l z < 2
unfolding bit
bit_lt l z = omega arith

up : (l z : ℕ) → bit (l / 2) z ≡ bit l (suc z)
unfolding bit
up l z = ap (λ (n : ℕ). n % 2) (shr-shr l 1 z ∙ ap (λ (k : ℕ). l / 2 ^ k) (one-add z))

lowest : (l : ℕ) → bit l 0 ≡ l % 2
unfolding bit
lowest l = ap (λ (n : ℕ). n % 2) (div-one l)

pub by_bits : (n a b : ℕ) → a < 2 ^ n → b < 2 ^ n → ((z : ℕ) → z < n → bit a z ≡ bit b z) → a ≡ b
by_bits zero a b ha hb e = omega arith
by_bits (suc n) a b ha hb e =
    let h : a / 2 ≡ b / 2 = by_bits n (a / 2) (b / 2) (omega arith) (omega arith) (λ z l. up a z ∙ e (suc z) (omega arith) ∙ sym (up b z)) in
    let l : a % 2 ≡ b % 2 = sym (lowest a) ∙ e 0 (omega arith) ∙ lowest b in
    omega arith

or_bits : (a b : ℕ) → a < 2 → b < 2 → bit_or a b ≡ max a b
or_bits = on_bits bit_or max refl refl refl refl

bit_or_lem : (a b z : ℕ) → bit (bit_or a b) z ≡ max (bit a z) (bit b z)
unfolding bit
bit_or_lem a b z =
    ap (λ (n : ℕ). n % 2) (or_shr a b z) ∙ or_mod (a / 2 ^ z) (b / 2 ^ z) 1 ∙ or_bits (a / 2 ^ z % 2) (b / 2 ^ z % 2) (omega arith) (omega arith)

-- ---- a complement through each operation

pub twice : (l : ℕ) → l < 2 ^ 64 → complement (complement l) ≡ l
unfolding complement
twice l h = omega arith

through_xor : (a b : ℕ) → a < 2 ^ 64 → b < 2 ^ 64 → bit_xor (complement a) b ≡ complement (bit_xor a b)
through_xor a b ha hb =
    by_bits 64 (bit_xor (complement a) b) (complement (bit_xor a b)) (xor_lt 64 _ _ (complement_lt a) hb) (complement_lt (bit_xor a b))
    (λ z l.
    bit_xor_lem (complement a) b z ∙ ap (λ (v : ℕ). (v + bit b z) % 2) (bit_complement a z ha l) ∙ mixed (bit a z) (bit b z)
    ∙ sym (bit_complement (bit_xor a b) z (xor_lt 64 a b ha hb) l ∙ ap (λ (v : ℕ). (v + 1) % 2) (bit_xor_lem a b z)))
  where
    mixed : (x y : ℕ) → ((x + 1) % 2 + y) % 2 ≡ ((x + y) % 2 + 1) % 2
    mixed x y = omega arith

through_rotate : (l n : ℕ) → l < 2 ^ 64 → n < 64 → rotate (complement l) n ≡ complement (rotate l n)
through_rotate l n hl hn =
    by_bits 64 (rotate (complement l) n) (complement (rotate l n)) (rotate_lt (complement l) n (complement_lt l) hn) (complement_lt (rotate l n))
    (λ z h.
    bit_rotate (complement l) n (complement_lt l) hn z h ∙ bit_complement l ((z + (64 - n)) % 64) hl (omega arith)
    ∙ sym (bit_complement (rotate l n) z (rotate_lt l n hl hn) h ∙ ap (λ (v : ℕ). (v + 1) % 2) (bit_rotate l n hl hn z h)))

de_morgan : (a b : ℕ) → a < 2 ^ 64 → b < 2 ^ 64 → bit_or a (complement b) ≡ complement (bit_and (complement a) b)
de_morgan a b ha hb =
    by_bits 64 (bit_or a (complement b)) (complement (bit_and (complement a) b)) (or_lt 64 a (complement b) ha (complement_lt b)) (complement_lt (bit_and (complement a) b))
    (λ z l.
    bit_or_lem a (complement b) z ∙ ap (max (bit a z)) (bit_complement b z hb l) ∙ cases (bit a z) (bit b z) (bit_lt a z) (bit_lt b z)
    ∙ sym (bit_complement (bit_and (complement a) b) z (and_lt 64 (complement a) b (complement_lt a) hb) l
    ∙ ap (λ (v : ℕ). (v + 1) % 2) (bit_and_lem (complement a) b z ∙ ap (λ (v : ℕ). v * bit b z) (bit_complement a z ha l))))
  where
    cases : (x y : ℕ) → x < 2 → y < 2 → max x ((y + 1) % 2) ≡ ((x + 1) % 2 * y + 1) % 2
    cases zero zero hx hy = refl
    cases zero (suc zero) hx hy = refl
    cases zero (suc (suc y)) hx hy = absurd (omega arith)
    cases (suc zero) zero hx hy = refl
    cases (suc zero) (suc zero) hx hy = refl
    cases (suc zero) (suc (suc y)) hx hy = absurd (omega arith)
    cases (suc (suc x)) y hx hy = absurd (omega arith)

-- ---- a lane that may stand complemented

pub flip_lt : (f : Bool) (l : ℕ) → l < 2 ^ 64 → flip f l < 2 ^ 64
flip_lt true l h = complement_lt l
flip_lt false l h = h

pub flip_flip : (f : Bool) (l : ℕ) → l < 2 ^ 64 → flip f (flip f l) ≡ l
flip_flip true l h = twice l h
flip_flip false l h = refl

pub flip_xor : (f g : Bool) (a b : ℕ) → a < 2 ^ 64 → b < 2 ^ 64 → bit_xor (flip f a) (flip g b) ≡ flip (f ⊻ g) (bit_xor a b)
flip_xor false false a b ha hb = refl
flip_xor true false a b ha hb = through_xor a b ha hb
flip_xor false true a b ha hb = xor_comm a (complement b) ∙ through_xor b a hb ha ∙ ap complement (xor_comm b a)
flip_xor true true a b ha hb =
    through_xor a (complement b) ha (complement_lt b)
    ∙ ap complement (xor_comm a (complement b) ∙ through_xor b a hb ha ∙ ap complement (xor_comm b a))
    ∙ twice (bit_xor a b) (xor_lt 64 a b ha hb)

pub flip_rotate : (f : Bool) (l n : ℕ) → l < 2 ^ 64 → n < 64 → rotate (flip f l) n ≡ flip f (rotate l n)
flip_rotate true l n hl hn = through_rotate l n hl hn
flip_rotate false l n hl hn = refl

-- ---- one lane of chi, by the lanes a, b and c

abbrev pub chi_lane : ℕ → ℕ → ℕ → ℕ
chi_lane a b c = bit_xor a (bit_and (complement b) c)

-- b stands complemented, c not
pub by_and : (f : Bool) (a b c : ℕ) → a < 2 ^ 64 → b < 2 ^ 64 → c < 2 ^ 64 → bit_xor (flip f a) (bit_and (complement b) c) ≡ flip f (chi_lane a b c)
by_and false a b c ha hb hc = refl
by_and true a b c ha hb hc = through_xor a (bit_and (complement b) c) ha (and_lt 64 (complement b) c (complement_lt b) hc)

-- c stands complemented, b not
pub by_or : (f : Bool) (a b c : ℕ) → a < 2 ^ 64 → b < 2 ^ 64 → c < 2 ^ 64 → bit_xor (flip f a) (bit_or b (complement c)) ≡ flip (not f) (chi_lane a b c)
by_or f a b c ha hb hc =
    ap (bit_xor (flip f a)) (de_morgan b c hb hc)
    ∙ flip_xor f true a (bit_and (complement b) c) ha (and_lt 64 (complement b) c (complement_lt b) hc)
    ∙ ap (λ (g : Bool). flip g (chi_lane a b c)) (turned f)
  where
    turned : (f : Bool) → (f ⊻ true) ≡ not f
    turned true = refl
    turned false = refl
