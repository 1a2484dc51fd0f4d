-- What the contracts of inner functions and the proofs go by: no exported contract and no claim cites this file. Assumes nothing.
use Rattle.std.specs.Borrow.{MutBor}
use Rattle.std.specs.Prelude.{◌≡◌, ℕ, ◌+◌, ◌*◌, ◌≤◌, ◌<◌, length}
use Rattle.codec.specs.Bytes.{Bytes, part, put, zeros}
use Rattle.codec.specs.Lists.{list}
use Rattle.ring.specs.Poly.{Poly, plus, scale, modulo, Below}
use Rattle.ring.specs.Slots.{coefficient_bytes, encode, slot}
use Rattle.sheet_numbers.specs.Plain.{plain}
use Rattle.sheet_numbers.specs.declared.Numbers.{Numbers}
use Rattle.scratch.specs.Call.{scratch_length}
use Rattle.scratch.specs.Internal.{Free}
use Rattle.bgv.specs.Scheme.{residues, decrypted, other, lent_mask, share}
use Rattle.round.specs.Layout.{ballot_length, u_at}
use Rattle.codec.specs.Slices.{MutSlice, lent, left}
use Rattle.round.specs.Producer.{shares_bytes, claims_bytes}

-- ---- what the writing of shares and claims is given and lent, what it comes to, and what stands in scratch on the way

-- the ballots, and E of both sides
pub record Masked (q N count : ℕ) (ballots masks0 masks1 : Bytes) : Type 0 where
  pub ballots_sized : length ballots ≡ ballot_length N * count
  pub masks0_sized : length masks0 ≡ 8 * N * count
  pub masks1_sized : length masks1 ≡ 8 * N * count
  pub below : (j : ℕ) → j < count → Below q (2 * N) (u_at N ballots j)

-- the room for shares and claims, and scratch
pub record Room : Type 0 where
  pub shares0 : Bytes
  pub shares1 : Bytes
  pub claims : Bytes
  pub scratch : Bytes

abbrev pub room_of : (shares0 shares1 claims scratch : Bytes) → Room
room_of shares0 shares1 claims scratch = record { shares0 = shares0; shares1 = shares1; claims = claims; scratch = scratch }

abbrev pub room_now : (shares0 shares1 claims scratch : MutBor Bytes) → Room
room_now shares0 shares1 claims scratch = room_of shares0.now shares1.now claims.now scratch.now

module _ (shares0 shares1 claims scratch : MutSlice) where
  abbrev pub room_in : Room
  room_in = room_of (lent shares0) (lent shares1) (lent claims) (lent scratch)

  abbrev pub room_out : Room
  room_out = room_of (left shares0) (left shares1) (left claims) (left scratch)

-- one ballot at a place, in range, and E of both sides at another
pub record BallotPlaces (q n at sent : ℕ) (ballots masks0 masks1 : Bytes) : Type 0 where
  pub ballot_ends : at + 4 + 16 * n ≤ length ballots
  pub below : Below q (2 * n) (slot ballots (at + 4))
  pub ends0 : sent + 8 * n ≤ length masks0
  pub ends1 : sent + 8 * n ≤ length masks1

-- the shares of one ballot fit at a place, its claim at another
pub record Fits (n at claim : ℕ) (room : Room) : Type 0 where
  pub shares0 : at + 8 * n ≤ length room.shares0
  pub shares1 : at + 8 * n ≤ length room.shares1
  pub claims : claim + n ≤ length room.claims
  pub scratch : length room.scratch ≡ scratch_length

-- the shares and the claim of one ballot u, v are written there, for s and its half s0; what stands in scratch is free
pub record BallotWritten (k : Numbers) (s s0 u v : Poly) (mask0 mask1 : Bytes) (at claim : ℕ) (before after : Room) : Type 0 where
  pub shares0 : after.shares0 ≡ put before.shares0 at (coefficient_bytes k.modulus k.ring (share k.modulus k.ring (plain k) s0 u (lent_mask mask0)))
  pub shares1 : after.shares1 ≡ put before.shares1 at (coefficient_bytes k.modulus k.ring (share k.modulus k.ring (plain k) (other k.modulus s s0) u (lent_mask mask1)))
  pub claims : after.claims ≡ put before.claims claim (list k.ring (decrypted k.modulus k.ring (plain k) s u v))
  pub kept : Free before.scratch after.scratch

-- the shares and the claims of m ballots are written over the whole room, and scratch is zeroed
pub record BallotsWritten (k : Numbers) (m : ℕ) (secrets s0 masks0 masks1 ballots : Bytes) (before after : Room) : Type 0 where
  pub shares0 : after.shares0 ≡ shares_bytes k.modulus k.ring (plain k) m secrets s0 masks0 ballots 0
  pub shares1 : after.shares1 ≡ shares_bytes k.modulus k.ring (plain k) m secrets s0 masks1 ballots 1
  pub claims : after.claims ≡ claims_bytes k.modulus k.ring (plain k) m secrets ballots
  pub cleared : after.scratch ≡ zeros (length before.scratch)

-- f + p E, for a lent mask E
abbrev pub masked_product : (q p : ℕ) → Poly → (mask : Bytes) → Poly
masked_product q p f mask = plus f (scale p (residues q (lent_mask mask)))

-- two polynomials modulo q stand in the first two slots of scratch, in bytes; the length is as before
pub record TwoStand (q n : ℕ) (f g : Poly) (w w' : Bytes) : Type 0 where
  pub sized : Free w w'
  pub one : part w' 0 (8 * n) ≡ encode n (modulo q f)
  pub two : part w' 16384 (8 * n) ≡ encode n (modulo q g)
