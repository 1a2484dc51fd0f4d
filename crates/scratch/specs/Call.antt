-- What the calls that are lent the sheet have in common (document 01, "Refused because of the state"): scratch of one length, zeroed whole by every call that
-- neither 31 nor 1 refuses; and the sheet's polynomials. Assumes nothing.
use Rattle.std.specs.Prelude.{Bool, true, cond, not, ◌&&◌, ◌||◌, List, [], ◌∷◌, ℕ, eqb, length, get_or}
use Rattle.codec.specs.Bytes.{Bytes, zeros, same}
use Rattle.codec.specs.Reply.{Test, test, number_of, Reply}
use Rattle.codec.specs.Lists.{list, all_below}
use Rattle.ring.specs.Poly.{Poly}
use Rattle.ring.specs.Slots.{poly}

-- scratch: 64 slots of 16,384 bytes, each with room for a polynomial of 2048 coefficients
abbrev pub scratch_length : ℕ
scratch_length = 1048576

-- what a call leaves in scratch, of any length
unfoldable pub zeroized : Reply → Bytes → Bytes
zeroized r w = cond (eqb (number_of r) 1 || eqb (number_of r) 31) w (zeros (length w))

-- ---- tests of lent slices

-- 1: the lengths are not those that are wanted
abbrev pub length_test : List ℕ → List ℕ → Test
length_test lengths wanted = test 1 0 (not (same lengths wanted))

-- whether every byte of each slice is below v: v = 3 for ternary bytes
abbrev pub bytes_below : ℕ → List Bytes → Bool
bytes_below v [] = true
bytes_below v (s ∷ ss) = all_below v s && bytes_below v ss

-- whether every coefficient of each polynomial is below q
abbrev pub coefficients_below : (q n : ℕ) → List Bytes → Bool
coefficients_below q n [] = true
coefficients_below q n (s ∷ ss) = all_below q (list n (poly s)) && coefficients_below q n ss

-- ---- polynomials

-- the polynomial of a list of coefficients
abbrev pub coefficients : List ℕ → Poly
coefficients xs i = get_or xs i 0
