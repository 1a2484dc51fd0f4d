-- What the contracts of inner functions and the proofs go by: no exported contract and no claim cites this file. Assumes nothing.
use Rattle.std.specs.Prelude.{◌≡◌, cond, not, List, [], ◌∷◌, ℕ, ◌+◌, ◌*◌, ◌≤◌, length}
use Rattle.codec.specs.Bytes.{Bytes, part, same}
use Rattle.codec.specs.Reply.{Test, test}
use Rattle.codec.specs.Lists.{list}
use Rattle.ring.specs.Poly.{Poly, Below}
use Rattle.ring.specs.Slots.{slot}
use Rattle.bgv.specs.Scheme.{recovered_mask, within, reconstructed}
use Rattle.round.specs.Round.{of_side}
use Rattle.round_tests.specs.Opened.{is_opened}

-- ballot j's opened share: its stretch of the opened side's slice, or an empty one
unfoldable pub opened_share : (side N : ℕ) (shares0 shares1 : Bytes) (j : ℕ) → Bytes
opened_share side N shares0 shares1 j = cond (is_opened side N (length shares0) (length shares1) j) (part (of_side side shares0 shares1) (8 * N * j) (8 * N)) []

-- ---- the tests of one ballot, by its polynomials wherever they stand: 12, 13; and what one is given where it stands

-- s is the opened half of the secret, t the share of its side, t0 and t1 the shares of both
abbrev pub vote_tests : (q n p B place : ℕ) (s u t : Poly) (claim : Bytes) (v t0 t1 : Poly) → List Test
vote_tests q n p B place s u t claim v t0 t1 =
    test 12 place (not (within B n (recovered_mask q n p s u t))) ∷ test 13 place (not (same claim (list n (reconstructed q p v t0 t1)))) ∷ []

-- a ballot, its claim and its shares at places of their slices, in range; and its number j, by which its opened share is had
pub record BallotAt (q n : ℕ) (ballots : Bytes) (at : ℕ) (claims : Bytes) (claim side : ℕ) (shares0 shares1 : Bytes) (share j : ℕ) : Type 0 where
  pub ballot_ends : at + 4 + 16 * n ≤ length ballots
  pub claim_ends : claim + n ≤ length claims
  pub ends0 : share + 8 * n ≤ length shares0
  pub ends1 : share + 8 * n ≤ length shares1
  pub ends : share + 8 * n ≤ length (of_side side shares0 shares1)
  pub below : Below q (2 * n) (slot ballots (at + 4))
  pub below0 : Below q n (slot shares0 share)
  pub below1 : Below q n (slot shares1 share)
  pub below_opened : Below q n (slot (of_side side shares0 shares1) share)
  pub opened : opened_share side n shares0 shares1 j ≡ part (of_side side shares0 shares1) share (8 * n)
