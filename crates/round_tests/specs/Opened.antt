-- Ballot j's opened share (document 01, "Layouts"): the stretch of whichever side's slice was opened, or an empty one. Assumes nothing.
use Rattle.std.specs.Prelude.{Bool, cond, ◌&&◌, ℕ, ◌+◌, ◌*◌, ◌/◌, ◌%◌, ◌^◌, ltb, leb, eqb}
use Rattle.sheet_numbers.specs.Bounds.{power}

-- whether there is one: side is 0 or 1, N a ring size, the slices are equal and whole ballots, and j is not past them
unfoldable pub is_opened : (side N length0 length1 j : ℕ) → Bool
is_opened side N length0 length1 j =
    leb side 1
    && (leb 4 N
    && (leb N 2048
    && (power 12 N
    && (eqb length0 length1
    && (eqb (length0 % (8 * N)) 0
    && ltb j (length0 / (8 * N)))))))

-- the place of its first byte in that slice plus one; 0 for an empty stretch
unfoldable pub opened_place : (side N length0 length1 j : ℕ) → ℕ
opened_place side N length0 length1 j = cond (is_opened side N length0 length1 j) (8 * N * j + 1) 0

-- as the C host is answered: the place is the value of the reply, which has 56 bits; one that does not fit is told as none
abbrev pub opened_reply : (side N length0 length1 j : ℕ) → ℕ
opened_reply side N length0 length1 j = cond (ltb (opened_place side N length0 length1 j) (2 ^ 56)) (256 * opened_place side N length0 length1 j) 0
