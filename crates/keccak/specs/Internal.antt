-- What the contracts of inner functions and the proofs go by: no exported contract and no claim cites this file. Assumes nothing.
use Rattle.std.specs.Prelude.{List, [], ◌∷◌, ℕ, ◌<◌, get_or, Bool, true, false, not}
use Rattle.std.specs.Int.Bits.{bit_xor, bit_and, bit_or}
use Rattle.keccak.specs.Steps.{Row, StateArray, complement, lane, five, lanes, xor_row, theta, rho, pi, iota}

-- ---- chi on a state of which some lanes stand complemented, so that few complements are needed: `flipped six` after theta, rho and pi

-- chi on the rows that theta, rho and pi leave of such a state
unfoldable pub chi_row0 : Row → Row
chi_row0 r =
    let b : ℕ → ℕ = λ x. get_or r x 0 in
    bit_xor (b 0) (bit_or (b 1) (b 2)) ∷ bit_xor (b 1) (bit_or (complement (b 2)) (b 3)) ∷ bit_xor (b 2) (bit_and (b 3) (b 4))
    ∷ bit_xor (b 3) (bit_or (b 4) (b 0)) ∷ bit_xor (b 4) (bit_and (b 0) (b 1)) ∷ []

unfoldable pub chi_row1 : Row → Row
chi_row1 r =
    let b : ℕ → ℕ = λ x. get_or r x 0 in
    bit_xor (b 0) (bit_or (b 1) (b 2)) ∷ bit_xor (b 1) (bit_and (b 2) (b 3)) ∷ bit_xor (b 2) (bit_or (b 3) (complement (b 4)))
    ∷ bit_xor (b 3) (bit_or (b 4) (b 0)) ∷ bit_xor (b 4) (bit_and (b 0) (b 1)) ∷ []

unfoldable pub chi_row2 : Row → Row
chi_row2 r =
    let b : ℕ → ℕ = λ x. get_or r x 0 in
    bit_xor (b 0) (bit_or (b 1) (b 2)) ∷ bit_xor (b 1) (bit_and (b 2) (b 3)) ∷ bit_xor (b 2) (bit_and (complement (b 3)) (b 4))
    ∷ bit_xor (complement (b 3)) (bit_or (b 4) (b 0)) ∷ bit_xor (b 4) (bit_and (b 0) (b 1)) ∷ []

unfoldable pub chi_row3 : Row → Row
chi_row3 r =
    let b : ℕ → ℕ = λ x. get_or r x 0 in
    bit_xor (b 0) (bit_and (b 1) (b 2)) ∷ bit_xor (b 1) (bit_or (b 2) (b 3)) ∷ bit_xor (b 2) (bit_or (complement (b 3)) (b 4))
    ∷ bit_xor (complement (b 3)) (bit_and (b 4) (b 0)) ∷ bit_xor (b 4) (bit_or (b 0) (b 1)) ∷ []

unfoldable pub chi_row4 : Row → Row
chi_row4 r =
    let b : ℕ → ℕ = λ x. get_or r x 0 in
    bit_xor (b 0) (bit_and (complement (b 1)) (b 2)) ∷ bit_xor (complement (b 1)) (bit_or (b 2) (b 3)) ∷ bit_xor (b 2) (bit_and (b 3) (b 4))
    ∷ bit_xor (b 3) (bit_or (b 4) (b 0)) ∷ bit_xor (b 4) (bit_and (b 0) (b 1)) ∷ []

unfoldable pub chi_flipped : StateArray → StateArray
chi_flipped s =
    chi_row0 (get_or s 0 []) ∷ chi_row1 (get_or s 1 []) ∷ chi_row2 (get_or s 2 []) ∷ chi_row3 (get_or s 3 []) ∷ chi_row4 (get_or s 4 []) ∷ []

-- ---- keccak-f[1600] on a state of which six lanes stand complemented, so that chi needs few complements

infixl 30 ◌⊻◌
abbrev pub ◌⊻◌ : Bool → Bool → Bool
true ⊻ b = not b
false ⊻ b = b

-- a lane, or its complement
abbrev pub flip : Bool → ℕ → ℕ
flip true l = complement l
flip false l = l

-- a state with the lanes complemented that P names
unfoldable pub flipped : (ℕ → ℕ → Bool) → StateArray → StateArray
flipped P s = lanes (λ x y. flip (P x y) (lane s x y))

-- the six lanes
abbrev pub six : ℕ → ℕ → Bool
six x y =
    get_or
    (get_or
    ((false ∷ true ∷ true ∷ false ∷ false ∷ [])
    ∷ (false ∷ false ∷ false ∷ true ∷ false ∷ [])
    ∷ (false ∷ false ∷ true ∷ false ∷ false ∷ [])
    ∷ (false ∷ false ∷ true ∷ false ∷ false ∷ [])
    ∷ (true ∷ false ∷ false ∷ false ∷ false ∷ [])
    ∷ [])
    y [])
    x false

-- a state with d xored into each of its rows: theta, where d is its effect
unfoldable pub affected : StateArray → Row → StateArray
affected s d = five (λ y. xor_row (get_or s y []) d)

-- a round of a state with the six lanes complemented
unfoldable pub round_flipped : StateArray → ℕ → StateArray
round_flipped s c = iota (chi_flipped (pi (rho (theta s)))) c

-- ---- rho

-- each of a row's offsets is below 64
pub record Offsets (n : List ℕ) : Type 0 where
  pub n0 : get_or n 0 0 < 64
  pub n1 : get_or n 1 0 < 64
  pub n2 : get_or n 2 0 < 64
  pub n3 : get_or n 3 0 < 64
  pub n4 : get_or n 4 0 < 64
