-- The step mappings of FIPS 202, section 3.2, on lanes (3.1.4): bit z of the lane in column x of row y is the bit A[x, y, z] of the state array.
-- Rows are FIPS 202's planes. Assumes nothing.
use Rattle.std.specs.Prelude.{ℕ, ◌+◌, ◌-◌, ◌*◌, ◌/◌, ◌%◌, ◌^◌, List, [], ◌∷◌, get_or, set}
use Rattle.std.specs.Int.Bits.{bit_xor, bit_and}

-- ---- lanes, rows and states

-- five lanes, x = 0 .. 4
abbrev pub Row : Type 0
Row = List ℕ

-- five rows, y = 0 .. 4
abbrev pub StateArray : Type 0
StateArray = List Row

-- the lane in column x of row y
abbrev pub lane : StateArray → ℕ → ℕ → ℕ
lane s x y = get_or (get_or s y []) x 0

-- f at 0, 1, 2, 3, 4
abbrev pub five : {A : Type 0} → (ℕ → A) → List A
five f = f 0 ∷ f 1 ∷ f 2 ∷ f 3 ∷ f 4 ∷ []

-- the state whose lane in column x of row y is f x y
abbrev pub lanes : (ℕ → ℕ → ℕ) → StateArray
lanes f = five (λ y. five (λ x. f x y))

-- bit z of a lane
unfoldable pub bit : ℕ → ℕ → ℕ
bit l z = l / 2 ^ z % 2

-- a lane rotated left by n of its 64 places
unfoldable pub rotate : ℕ → ℕ → ℕ
rotate l n = l * 2 ^ n % 2 ^ 64 + l / 2 ^ (64 - n)

-- each of a lane's 64 bits changed
unfoldable pub complement : ℕ → ℕ
complement l = 2 ^ 64 - 1 - l

-- two rows, lane by lane
unfoldable pub xor_row : Row → Row → Row
xor_row r d = five (λ x. bit_xor (get_or r x 0) (get_or d x 0))

-- ---- 3.2.1, theta

-- C, the parity of each column
unfoldable pub parity : StateArray → Row
parity s = xor_row (xor_row (xor_row (xor_row (get_or s 0 []) (get_or s 1 [])) (get_or s 2 [])) (get_or s 3 [])) (get_or s 4 [])

-- D, what theta adds to each lane of a column
unfoldable pub effect : Row → Row
effect c = five (λ x. bit_xor (get_or c ((x + 4) % 5) 0) (rotate (get_or c ((x + 1) % 5) 0) 1))

unfoldable pub theta : StateArray → StateArray
theta s = five (λ y. xor_row (get_or s y []) (effect (parity s)))

-- ---- 3.2.2, rho

-- the offsets of Table 2, modulo 64: row y, column x
abbrev pub offsets : List (List ℕ)
offsets =
    (0 ∷ 1 ∷ 62 ∷ 28 ∷ 27 ∷ [])
    ∷ (36 ∷ 44 ∷ 6 ∷ 55 ∷ 20 ∷ [])
    ∷ (3 ∷ 10 ∷ 43 ∷ 25 ∷ 39 ∷ [])
    ∷ (41 ∷ 45 ∷ 15 ∷ 21 ∷ 8 ∷ [])
    ∷ (18 ∷ 2 ∷ 61 ∷ 56 ∷ 14 ∷ [])
    ∷ []

unfoldable pub rho_row : Row → List ℕ → Row
rho_row r n = five (λ x. rotate (get_or r x 0) (get_or n x 0))

unfoldable pub rho : StateArray → StateArray
rho s = five (λ y. rho_row (get_or s y []) (get_or offsets y []))

-- ---- 3.2.3, pi

abbrev pub pi : StateArray → StateArray
pi s = lanes (λ x y. lane s ((x + 3 * y) % 5) x)

-- ---- 3.2.4, chi

unfoldable pub chi_row : Row → Row
chi_row r = five (λ x. bit_xor (get_or r x 0) (bit_and (complement (get_or r ((x + 1) % 5) 0)) (get_or r ((x + 2) % 5) 0)))

unfoldable pub chi : StateArray → StateArray
chi s = five (λ y. chi_row (get_or s y []))

-- ---- 3.2.5, iota, with the round's constant c

unfoldable pub iota : StateArray → ℕ → StateArray
iota s c = set s 0 (set (get_or s 0 []) 0 (bit_xor (lane s 0 0) c))
