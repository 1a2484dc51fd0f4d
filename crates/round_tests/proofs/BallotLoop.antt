-- The loop over ballots: where ballot j, its claim and its shares stand, and what its reply adds. Assumes nothing.
use mathlib.Core.Path.{◌≡◌, refl, sym, ap, ap₂, ◌∙◌}
use mathlib.Core.Bool.{Bool, true, not}
use mathlib.Core.List.{List, [], ◌∷◌}
use Prim.Native.Nat.{ℕ, zero, suc, ◌+◌, ◌-◌, ◌*◌, ◌≤◌, ◌<◌}
use native.Mathlib.Nat.{mul-le-mul}
use native.Mathlib.Omega.{arith}
use lib.ListN.{length, take, drop}
use Rattle.codec.specs.Bytes.{Bytes, part, same}
use Rattle.codec.specs.Reply.{Test, test, first, None, Reply, Taken, Refused}
use Rattle.ring.specs.Poly.{Poly, Alike}
use Rattle.ring.specs.Slots.{poly, slot}
use Rattle.sheet_numbers.specs.Bounds.{power}
use Rattle.round.specs.Layout.{joined, ballot_length}
use Rattle.round.specs.Round.{of_side}
use Rattle.round.specs.Internal.{Batch, SharesLent}
use Rattle.round_tests.specs.Internal.{vote_tests, BallotAt}
use Rattle.round.proofs.Compared.{within_alike, vote_alike, lent_alike}
use Rattle.round_tests.proofs.OpenedPlaces.{share_of_lem}
use Rattle.round.proofs.Many.{each_more, each_refused, each_taken, stretch}

-- the shares of a side
of_side_lem : (q n count side : ℕ) {shares0 shares1 : Bytes} → SharesLent q n count shares0 → SharesLent q n count shares1 → SharesLent q n count (of_side side shares0 shares1)
of_side_lem q n count zero s0 s1 = s0
of_side_lem q n count (suc i) s0 s1 = s1

module _ (q n p bound : ℕ) (s ballots claims : Bytes) (side : ℕ) (shares0 shares1 : Bytes) where
  abbrev opened : Bytes
  opened = of_side side shares0 shares1

  -- the tests of the ballot, claim and shares at places
  abbrev at_places : (at claim share place : ℕ) → List Test
  at_places at claim share place =
      vote_tests q n p bound place (poly s) (slot ballots (at + 4)) (slot opened share) (part claims claim n) (slot ballots (at + 4 + 8 * n)) (slot shares0 share) (slot shares1 share)

  -- the same from parts that are lent with lengths that are differences of places
  module _ (at claim share place : ℕ) (lb : at + 4 + 16 * n ≤ length ballots) (l0 : share + 8 * n ≤ length shares0) (l1 : share + 8 * n ≤ length shares1) (lo : share + 8 * n ≤ length opened) where
    abbrev lent : Bytes → Poly
    lent x = poly (take (share + 8 * n - share) (drop share x))

    alike_at : (x : Bytes) → share + 8 * n ≤ length x → Alike q n (lent x) (slot x share)
    alike_at x l = lent_alike n q x share (share + 8 * n - share) (omega arith) l

    abbrev lent_u : Poly
    lent_u = poly (take (at + 4 + 8 * n - (at + 4)) (drop (at + 4) ballots))

    abbrev lent_v : Poly
    lent_v = poly (take (at + 4 + 16 * n - (at + 4 + 8 * n)) (drop (at + 4 + 8 * n) ballots))

    alike_u : Alike q n lent_u (slot ballots (at + 4))
    alike_u = lent_alike n q ballots (at + 4) (at + 4 + 8 * n - (at + 4)) (omega arith) (omega arith)

    alike_v : Alike q n lent_v (slot ballots (at + 4 + 8 * n))
    alike_v = lent_alike n q ballots (at + 4 + 8 * n) (at + 4 + 16 * n - (at + 4 + 8 * n)) (omega arith) (omega arith)

    -- the opened share, handed back as that part
    alike_opened : {t : Bytes} → t ≡ part opened share (8 * n) → Alike q n (poly t) (slot opened share)
    alike_opened e = rw e (lent_alike n q opened share (8 * n) refl lo)

    pub lent_tests_lem : {t : Bytes} → t ≡ part opened share (8 * n) → {r : Reply}
        → r ≡ first (vote_tests q n p bound place (poly s) lent_u (poly t) (take (claim + n - claim) (drop claim claims)) lent_v (lent shares0) (lent shares1))
        → r ≡ first (at_places at claim share place)
    lent_tests_lem o e =
        let m : claim + n - claim ≡ n = omega arith in
        e
        ∙ ap₂ (λ (y z : Bool). first (test 12 place (not y) ∷ test 13 place (not z) ∷ [])) (within_alike q n p bound (poly s) alike_u (alike_opened o))
        (ap₂ same (ap (λ (k : ℕ). take k (drop claim claims)) m) (vote_alike q n p alike_v (alike_at shares0 l0) (alike_at shares1 l1)))

  -- of ballot j
  abbrev pub ballot_tests : ℕ → List Test
  ballot_tests j = at_places (ballot_length n * j) (n * j) (8 * n * j) j

  -- where the loop stands before ballot j, with nothing refused so far
  pub record Reached (j : ℕ) (w : Bytes) : Type 0 where
    pub long : length w ≡ 1048576
    pub none : None (joined j ballot_tests)

  pub reached_first : (w : Bytes) → length w ≡ 1048576 → Reached 0 w
  unfolding joined
  reached_first w l = record { long = l; none = tt }

  module _ (count j : ℕ) (h : j < count) where
    pub reached_more : {w w' : Bytes} → Reached j w → length w' ≡ length w → Taken ≡ first (ballot_tests j) → Reached (j + 1) w'
    reached_more r l e = record { long = l ∙ r.long; none = each_more ballot_tests j r.none (sym e) }

    pub reached_refused : {w : Bytes} → Reached j w → (number place : ℕ) → Refused number place ≡ first (ballot_tests j) → Refused number place ≡ first (joined count ballot_tests)
    reached_refused r number place e = sym (each_refused count ballot_tests j number place h r.none (sym e))

    -- the places are far below 2^64
    pub places_fit : n ≤ 2048 → count ≤ 4096 → (ballot_length n * j ≤ 134234112) × (n * j ≤ 8388608) × (8 * n * j ≤ 67108864)
    places_fit high few = (
      omega (arith, stretch (ballot_length n) j count h, mul-le-mul {n₁ = ballot_length n} {m₁ = count} {n₂ = 32772} {m₂ = 4096} (omega arith) few),
      omega (arith, stretch n j count h, mul-le-mul {n₁ = n} {m₁ = count} {n₂ = 2048} {m₂ = 4096} high few),
      omega (arith, stretch (8 * n) j count h, mul-le-mul {n₁ = 8 * n} {m₁ = count} {n₂ = 16384} {m₂ = 4096} (omega arith) few),
    )

    pub ballot_stands : side < 2 → 4 ≤ n → n ≤ 2048 → power 12 n ≡ true → Batch q n count ballots claims → SharesLent q n count shares0 → SharesLent q n count shares1
        → BallotAt q n ballots (ballot_length n * j) claims (n * j) side shares0 shares1 (8 * n * j) j
    ballot_stands one low high size b s0 s1 = let so = of_side_lem q n count side s0 s1 in record {
      ballot_ends = omega (arith, b.ballots_sized, stretch (ballot_length n) j count h);
      claim_ends = omega (arith, b.claims_sized, stretch n j count h);
      ends0 = omega (arith, s0.sized, stretch (8 * n) j count h);
      ends1 = omega (arith, s1.sized, stretch (8 * n) j count h);
      ends = omega (arith, so.sized, stretch (8 * n) j count h);
      below = b.below j h;
      below0 = s0.below j h;
      below1 = s1.below j h;
      below_opened = so.below j h;
      opened = share_of_lem side n shares0 shares1 j count one low high size s0.sized s1.sized h;
    }

  pub reached_all : {count j : ℕ} {w : Bytes} → Reached j w → j ≡ count → Taken ≡ first (joined count ballot_tests)
  reached_all {count} {j} r e = sym (ap (λ (k : ℕ). first (joined k ballot_tests)) (sym e) ∙ each_taken j ballot_tests r.none)
