-- What the conditions on a sheet's numbers say in plain terms, and the bounds of what is computed from them. Assumes nothing.
use mathlib.Core.Path.{◌≡◌, refl, sym, ap, ap₂}
use mathlib.Core.Logic.{◌↔◌}
use mathlib.Core.Bool.{Bool, true, false, cond, not, ◌||◌}
use mathlib.Core.List.{List, [], ◌∷◌}
use Prim.Native.Nat.{ℕ, zero, suc, ◌+◌, ◌*◌, ◌-◌, ◌/◌, ◌%◌, ◌≤◌, ◌<◌, ◌^◌}
use native.Mathlib.Nat.{mul-le-mul, mul_left_comm, one-mul, div-add-mod'}
use native.Mathlib.Omega.{arith}
use native.Mathlib.Decide.{dec_lt, ℕ_discrete}
use borrow.Author.Tests.{eqb-true, eq-eqb, le-ltb, lt-ltb, ltb-true, ltb-false, lt-leb, leb-false, not-false}
use lib.Dec.{ltb, eqb}
use lib.Pow.{pow-lt}
use Rattle.codec.specs.Lists.{all}
use Rattle.codec.proofs.Lists.{all_sound}
use Rattle.modular.specs.Internal.{Coprime}
use Rattle.modular.proofs.Division.{odd_coprime}
use Rattle.sheet_numbers.specs.Bounds.{power, least}
use Rattle.sheet_numbers.specs.Plain.{plain, noise_bound_of}
use Rattle.sheet_numbers.specs.Internal.{Usable}
use Rattle.sheet_numbers.specs.Ranges.{NumbersInRange, NumbersSound}
use Rattle.sheet_numbers.specs.Rules.{any, ranges, outside, conditions, unsound}
use Rattle.sheet_numbers.specs.declared.Numbers.{Numbers}
use Rattle.sheet_numbers.proofs.Least.{least_largest}

-- ---- a ring is a power of two

-- from 4 to 2048, a power of two and a divisor of 2048 are the same
alike : ℕ → Bool
alike n = ltb n 4 || cond (eqb (2048 % n) 0) (power 12 n) (not (power 12 n))

alike_below : all 2049 alike ≡ true
unfolding alike power all
alike_below = refl

pub divides : (n : ℕ) → 4 ≤ n → n ≤ 2048 → power 12 n ≡ eqb (2048 % n) 0
unfolding alike
divides n low high = go (eqb (2048 % n) 0) (power 12 n) (rw (le-ltb n 4 low) at (all_sound 2049 alike alike_below n (omega arith)))
  where
    go : (d p : Bool) → cond d p (not p) ≡ true → p ≡ d
    go true p e = e
    go false true e = sym e
    go false false e = refl

-- ---- a list of tests, none of which holds

abbrev Nones : List Bool → Type 0
Nones [] = Unit
Nones (t ∷ ts) = (t ≡ false) × Nones ts

none_of : (ts : List Bool) → Nones ts → any ts ≡ false
unfolding any
none_of [] h = refl
none_of (t ∷ ts) h = ap₂ ◌||◌ h.0 (none_of ts h.1)

nones : (ts : List Bool) → any ts ≡ false → Nones ts
unfolding any
nones [] e = tt
nones (true ∷ ts) e = absurd (let z : ◌≡◌ {A = ℕ} 0 1 = cc in omega arith)
nones (false ∷ ts) e = (refl, nones ts e)

-- what is found is a power of two
pub power_of : (k n : ℕ) → power k n ≡ true → (j : ℕ) × (n ≡ 2 ^ j)
unfolding power
power_of zero n e = absurd (let z : ◌≡◌ {A = ℕ} 0 1 = cc in omega arith)
power_of (suc k) n e = go (eqb n (2 ^ k)) refl e (λ f. power_of k n f)
  where
    go : (b : Bool) → eqb n (2 ^ k) ≡ b → cond b true (power k n) ≡ true → (power k n ≡ true → (j : ℕ) × (n ≡ 2 ^ j)) → (j : ℕ) × (n ≡ 2 ^ j)
    go true q e f = (k, eqb-true n (2 ^ k) q)
    go false q e f = f e

-- a power of two below 2^k is found
pub power_found : (k n j : ℕ) → j < k → n ≡ 2 ^ j → power k n ≡ true
unfolding power
power_found zero n j l e = absurd (omega arith)
power_found (suc k) n j l e = go (ℕ_discrete j k) (λ h. power_found k n j h e)
  where
    at : (b : Bool) → power k n ≡ true → cond b true (power k n) ≡ true
    at true h = refl
    at false h = h

    go : Dec (j ≡ k) → (j < k → power k n ≡ true) → cond (eqb n (2 ^ k)) true (power k n) ≡ true
    go (yes i) f = ap (λ (b : Bool). cond b true (power k n)) (eq-eqb n (2 ^ k) (rw (sym i) e))
    go (no i) f = at (eqb n (2 ^ k)) (f (omega arith))

-- one that is at most 2048 is below 2^12
pub low_power : (n j : ℕ) → n ≤ 2048 → n ≡ 2 ^ j → j < 12
low_power n j h e = go (dec_lt j 12)
  where
    go : Dec (j < 12) → j < 12
    go (yes l) = l
    go (no l) = absurd (let z : 2 ^ 11 < 2 ^ j = pow-lt {i = 11} {j = j} (omega arith) in omega arith)

-- ---- numbers in their ranges

-- repeats are at least the largest number of the rule exactly if they are at least every number that it has
repeats_least : (rounds repeats : ℕ) → 1 ≤ rounds → rounds ≤ 128 → (least rounds ≤ repeats) ↔ ((m : ℕ) → 3 ^ m ≤ 2 ^ (rounds + m) → m ≤ repeats)
repeats_least rounds repeats low high = (λ h m e. go h m e (dec_lt (least rounds) m), λ h. h (least rounds) (least_largest rounds low high).met_at)
  where
    go : least rounds ≤ repeats → (m : ℕ) → 3 ^ m ≤ 2 ^ (rounds + m) → Dec (least rounds < m) → m ≤ repeats
    go h m e (yes l) = absurd (let z = (least_largest rounds low high).missed_above m l in omega arith)
    go h m e (no l) = omega arith

plain_range : (k : Numbers) → (2 ≤ plain k) × (plain k ≤ 251)
unfolding plain
plain_range k = (omega arith, omega arith)

pub range_exactly : (k : Numbers) → (outside k ≡ false) ↔ NumbersInRange k
range_exactly k = (says, holds)
  where
    says : outside k ≡ false → NumbersInRange k
    says e =
        let n = nones (ranges k) (unfold outside in e) in
        let low = ltb-false k.rounds 1 n.1.1.1.1.1.1.0 in
        let high = ltb-false 128 k.rounds n.1.1.1.1.1.1.1.0 in
        record {
          ring_low = ltb-false k.ring 4 n.0;
          ring_high = ltb-false 2048 k.ring n.1.0;
          ring_power = power_of 12 k.ring (not-false (power 12 k.ring) n.1.1.0);
          modulus_low = ltb-false k.modulus 3 n.1.1.1.0;
          modulus_high = leb-false (2 ^ 56) k.modulus n.1.1.1.1.0;
          plain_low = (plain_range k).0;
          plain_high = (plain_range k).1;
          drown_high = ltb-false 40 k.drown n.1.1.1.1.1.0;
          rounds_low = low;
          rounds_high = high;
          repeats_low = (repeats_least k.rounds k.repeats low high).0 (ltb-false k.repeats (least k.rounds) n.1.1.1.1.1.1.1.1.0);
          repeats_high = ltb-false 256 k.repeats n.1.1.1.1.1.1.1.1.1.0;
        }

    holds : NumbersInRange k → outside k ≡ false
    holds r = unfold outside in
        none_of (ranges k) (
          le-ltb k.ring 4 r.ring_low,
          (
            le-ltb 2048 k.ring r.ring_high,
            (
              ap not (power_found 12 k.ring r.ring_power.0 (low_power k.ring r.ring_power.0 r.ring_high r.ring_power.1) r.ring_power.1),
              (
                le-ltb k.modulus 3 r.modulus_low,
                (
                  lt-leb (2 ^ 56) k.modulus r.modulus_high,
                  (
                    le-ltb 40 k.drown r.drown_high,
                    (
                      le-ltb k.rounds 1 r.rounds_low,
                      (
                        le-ltb 128 k.rounds r.rounds_high,
                        (
                          le-ltb k.repeats (least k.rounds) ((repeats_least k.rounds k.repeats r.rounds_low r.rounds_high).1 r.repeats_low),
                          (le-ltb 256 k.repeats r.repeats_high, tt),
                        ),
                      ),
                    ),
                  ),
                ),
              ),
            ),
          ),
        )

pub in_range : (k : Numbers) → outside k ≡ false → NumbersInRange k
in_range k e = (range_exactly k).0 e

-- ---- the conditions

pub sound_exactly : (k : Numbers) → (unsound k ≡ false) ↔ NumbersSound k
sound_exactly k = (
  λ e. let n = nones (conditions k) (unfold unsound in e) in record { divided = eqb-true _ _ (not-false _ n.0); noise_fits = ltb-true _ _ (not-false _ n.1.0) },
  λ r. unfold unsound in
      none_of (conditions k) (
        ap not (eq-eqb ((k.modulus - 1) % (2 * k.ring)) 0 r.divided),
        (ap not (lt-ltb ((1 + 2 ^ k.drown) * noise_bound_of k) ((k.modulus - 1) / 2) r.noise_fits), tt),
      ),
)

-- ---- what the functions that are lent a sheet's numbers rely on

module _ (k : Numbers) (i : NumbersInRange k) (s : NumbersSound k) where
  abbrev q : ℕ
  q = k.modulus

  -- 2N divides q - 1
  odd : q % 2 ≡ 1
  odd = omega (arith, i.modulus_low, s.divided, div-add-mod' (q - 1) (2 * k.ring), mul_left_comm ((q - 1) / (2 * k.ring)) 2 k.ring)

  apart : Coprime (plain k) q
  unfolding plain
  apart = odd_coprime q odd

  -- D is below (q - 1)/2, and p at most D
  plain_below : plain k < q
  unfolding plain
  plain_below = omega (arith, s.noise_fits, mul-le-mul {n₁ = 1} {m₁ = noise_bound_of k} {n₂ = 1 + 2 ^ k.drown} {m₂ = noise_bound_of k} (omega arith) (omega arith), one-mul (noise_bound_of k))

  pub usable : Usable k
  usable = record {
    in_range = i;
    ring_found = power_found 12 k.ring i.ring_power.0 (low_power k.ring i.ring_power.0 i.ring_high i.ring_power.1) i.ring_power.1;
    odd = odd;
    plain_below = plain_below;
    apart = apart;
  }
