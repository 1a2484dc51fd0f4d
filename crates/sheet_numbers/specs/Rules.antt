-- Document 01, "Sheet", the refusals 3 and 4: the ranges of a sheet's numbers, and the conditions on them. Assumes nothing.
use Rattle.std.specs.Prelude.{Bool, false, not, ◌||◌, List, [], ◌∷◌, ◌+◌, ◌*◌, ◌-◌, ◌/◌, ◌%◌, ◌^◌, ltb, leb, eqb}
use Rattle.sheet_numbers.specs.Bounds.{least, power}
use Rattle.sheet_numbers.specs.Plain.{noise_bound_of}
use Rattle.sheet_numbers.specs.declared.Numbers.{Numbers}

-- any of the tests holds
unfoldable pub any : List Bool → Bool
any [] = false
any (t ∷ ts) = t || any ts

-- 3: a number outside its range, or a ring that is no power of two
abbrev pub ranges : Numbers → List Bool
ranges k =
    ltb k.ring 4 ∷ ltb 2048 k.ring ∷ not (power 12 k.ring)
    ∷ ltb k.modulus 3 ∷ leb (2 ^ 56) k.modulus
    ∷ ltb 40 k.drown
    ∷ ltb k.rounds 1 ∷ ltb 128 k.rounds
    ∷ ltb k.repeats (least k.rounds) ∷ ltb 256 k.repeats ∷ []

unfoldable pub outside : Numbers → Bool
outside k = any (ranges k)

-- 4: 2N does not divide q - 1, or (1 + 2^d) D is not below (q - 1)/2
abbrev pub conditions : Numbers → List Bool
conditions k =
    not (eqb ((k.modulus - 1) % (2 * k.ring)) 0)
    ∷ not (ltb ((1 + 2 ^ k.drown) * noise_bound_of k) ((k.modulus - 1) / 2)) ∷ []

unfoldable pub unsound : Numbers → Bool
unsound k = any (conditions k)
