-- What the contracts of inner functions and the proofs go by: no exported contract and no claim cites this file. Assumes nothing.
use Rattle.std.specs.Prelude.{◌≡◌, List, ℕ, ◌*◌, ◌≤◌, ◌<◌, ◌^◌, length}
use Rattle.codec.specs.Bytes.{Bytes, part, zeros}
use Rattle.codec.specs.Reply.{Test, first, leaves, Reply, Taken, Refused}
use Rattle.ring.specs.Poly.{Poly, Below}
use Rattle.ring.specs.Slots.{coefficient_bytes, poly}
use Rattle.sheet.specs.Sheet.{Reading}
use Rattle.sheet.specs.Sheet as sheets

-- scratch that a function leaves free, for its caller to zero or to use on: it is as long as before
abbrev pub Free : (scratch scratch' : Bytes) → Type 0
Free scratch scratch' = length scratch' ≡ length scratch

-- what a call with one output comes to once the sheet is taken: the reply is that of its tests, the output is written and scratch zeroed where it is taken, and a refusal leaves both
pub record Computed (tests : List Test) (writes : Bytes) (reply : Reply) (out out' scratch scratch' : Bytes) : Type 0 where
  pub replied : reply ≡ first tests
  pub written : out' ≡ leaves reply writes out
  pub cleared : scratch' ≡ leaves reply (zeros (length scratch)) scratch

-- the reply is that of the tests, and scratch is given back zeroed
pub record Judged (tests : List Test) (reply : Reply) (scratch scratch' : Bytes) : Type 0 where
  pub replied : reply ≡ first tests
  pub cleared : scratch' ≡ zeros (length scratch)

-- an inner step, which leaves scratch free
pub record Tried (tests : List Test) (reply : Reply) (scratch scratch' : Bytes) : Type 0 where
  pub replied : reply ≡ first tests
  pub kept : Free scratch scratch'

-- what a call's inner part is given: a ring size, a modulus, and a polynomial in 8n bytes, the sheet's or a secret one
pub record Polynomial (n q : ℕ) (a : Bytes) : Type 0 where
  pub ring_low : 4 ≤ n
  pub ring_high : n ≤ 2048
  pub modulus_low : 3 ≤ q
  pub modulus_high : q < 2 ^ 56
  pub sized : length a ≡ 8 * n
  pub below : Below q n (poly a)

-- the polynomial f modulo q stands at the head of scratch, in bytes; the rest is free
pub record InSlot (q n : ℕ) (f : Poly) (w w' : Bytes) : Type 0 where
  pub sized : Free w w'
  pub bytes : part w' 0 (8 * n) ≡ coefficient_bytes q n f

-- the reply of a call whose sheet is refused: the sheet's own
abbrev pub refusal : Reading → Reply
refusal (sheets.Taken k) = Taken
refusal (sheets.Refused number) = Refused number 0
