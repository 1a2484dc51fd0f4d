-- Signed 64-bit numbers: what a word means, and that no two words mean the same number. Assumes nothing.
use mathlib.Core.Path.{◌≡◌, sym, ap, ◌∙◌}
use Prim.Native.Nat.{ℕ, ◌-◌, ◌^◌, ◌≤◌, ◌<◌}
use native.Mathlib.Decide.{dec_lt}
use native.Mathlib.Omega.{arith}
use borrow.Author.Tests.{le-ltb, lt-ltb}
use lib.IntN.{ℤ, negsuc}
use mir.Syntax.{w64}
use mir.Val.{SFits, to_z, of_z}
use mir.ValLaws.{to_z-of_z, to_z_pos}
use Rattle.codec.specs.Bytes.{signed}

-- a word below 2^63 means itself
pub signed_up : (v : ℕ) → v < 2 ^ 63 → to_z w64 v ≡ signed v
unfolding signed
signed_up v h = to_z_pos w64 v h ∙ rw (lt-ltb v (2 ^ 63) h)

-- another means a number below 0
module _ (v : ℕ) (h : 2 ^ 63 ≤ v) (l : v < 2 ^ 64) where
  pub signed_negative : signed v ≡ negsuc (18446744073709551615 - v)
  unfolding signed
  signed_negative = rw (le-ltb v (2 ^ 63) h, lt-ltb v (2 ^ 64) l) (ap negsuc (omega arith))

  pub negative_fits : SFits w64 (negsuc (18446744073709551615 - v))
  negative_fits = record { sfits = omega arith }

-- the word that means a number: no two words mean the same
pub word_signed : (v : ℕ) → v < 2 ^ 64 → of_z w64 (signed v) ≡ v
word_signed v l = go (dec_lt v (2 ^ 63))
  where
    go : Dec (v < 2 ^ 63) → of_z w64 (signed v) ≡ v
    go (yes h) = ap (of_z w64) (sym (signed_up v h) ∙ to_z_pos w64 v h)
    go (no h) = ap (of_z w64) (signed_negative v (omega arith) l) ∙ omega arith

-- a word read as a signed number is what it means
pub signed_word : (v : ℕ) → v < 2 ^ 64 → to_z w64 v ≡ signed v
signed_word v l = go (dec_lt v (2 ^ 63))
  where
    go : Dec (v < 2 ^ 63) → to_z w64 v ≡ signed v
    go (yes h) = signed_up v h
    go (no h) =
        let e = signed_negative v (omega arith) l in
        ap (to_z w64) (sym (word_signed v l))
        ∙ ap (λ (z : ℤ). to_z w64 (of_z w64 z)) e
        ∙ to_z-of_z w64 (negsuc (18446744073709551615 - v)) (negative_fits v (omega arith) l)
        ∙ sym e

pub signed_injective : (v w : ℕ) → v < 2 ^ 64 → w < 2 ^ 64 → signed v ≡ signed w → v ≡ w
signed_injective v w lv lw e = sym (word_signed v lv) ∙ ap (of_z w64) e ∙ word_signed w lw
