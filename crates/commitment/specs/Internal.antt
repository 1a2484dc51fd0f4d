-- What the contracts of inner functions and the proofs go by: no exported contract and no claim cites this file. Assumes nothing.
use Rattle.std.specs.Prelude.{◌≡◌, ℕ, ◌*◌, ◌≤◌, length}
use Rattle.codec.specs.Bytes.{Bytes, part, put, zeros}
use Rattle.ring.specs.Poly.{Poly, plus, mul}
use Rattle.ring.specs.Slots.{coefficient_bytes, slot, encode}
use Rattle.ring.specs.Internal.{store}
use Rattle.scratch.specs.Internal.{Free, Polynomial}
use Rattle.commitment.specs.Commitment.{Three, Pair}
use Rattle.commitment.specs.Loaded.{a_of, b_of, key_bytes}
use Rattle.sheet_numbers.specs.declared.Numbers.{Numbers}
use Rattle.sheet_numbers.specs.Internal.{Usable}

-- the sheet's k1, k2, k3 in 24n bytes
pub record PublicKeys (n q : ℕ) (k : Bytes) : Type 0 where
  pub sized : length k ≡ 24 * n
  pub one : Polynomial n q (part k 0 (8 * n))
  pub two : Polynomial n q (part k (8 * n) (8 * n))
  pub three : Polynomial n q (part k (16 * n) (8 * n))

-- the slot at `to` with the product of a and what stands at `from` added; the product is left at `from`, and its room is zeroed
unfoldable pub with_product : (q n : ℕ) (w : Bytes) (to from : ℕ) → Poly → Bytes
with_product q n w to from a =
    let f = mul q n (slot w from) a in
    store q n (put (store q n w from f) 81920 (zeros (24 * n))) to (plus (slot w to) f)

-- the three r put into the first three slots
unfoldable pub with_three : (n : ℕ) → Bytes → Three → Bytes
with_three n w r = put (put (put w 0 (encode n r.r1)) 16384 (encode n r.r2)) 32768 (encode n r.r3)

-- slots hold r1, r2, r3 and m in this order, from 0 on
abbrev pub three_at : Bytes → Three
three_at w = record { r1 = slot w 0; r2 = slot w 16384; r3 = slot w 32768 }

-- a pair stands in scratch, in bytes: its first half where r1 stood, its second where m stood; the rest is free
pub record PairInSlots (q N : ℕ) (c : Pair) (w w' : Bytes) : Type 0 where
  pub sized : Free w w'
  pub one : part w' 0 (8 * N) ≡ coefficient_bytes q N c.one
  pub two : part w' 49152 (8 * N) ≡ coefficient_bytes q N c.two

-- a sheet that was taken with the numbers k, and the bytes that its polynomials were put into
pub record Loaded (k : Numbers) (public : Bytes) : Type 0 where
  pub numbers : Usable k
  pub a : Polynomial k.ring k.modulus (a_of k public)
  pub b : Polynomial k.ring k.modulus (b_of k public)
  pub keys : PublicKeys k.ring k.modulus (key_bytes k public)
  pub sized : 40 * k.ring ≤ length public
