-- What is known of what the extractor is lent once the tests of lengths and ranges are passed. Assumes nothing.
use mathlib.Core.Path.{◌≡◌}
use mathlib.Core.Bool.{true}
use Prim.Native.Nat.{ℕ}
use borrow.Author.Tests.{ltb-true}
use lib.Dec.{ltb}
use Rattle.codec.specs.Bytes.{Bytes}
use Rattle.codec.proofs.Laws.{both}
use Rattle.codec.specs.Lists.{all_below}
use Rattle.scratch.specs.Internal.{Polynomial}
use Rattle.vector.specs.Vector.{vector}
use Rattle.stern.specs.Shortness.{in_range}
use Rattle.round.specs.Round.{ballots_ranged, opening_ranged, head_ranged}
use Rattle.round.specs.Extractor.{Openings, Lent, lent_ranged}
use Rattle.round_side.proofs.Passed.{opening_passed, head_passed, batch_passed, shares_passed}
use Rattle.round_sides.specs.Internal.{OpeningsInRange}
use Rattle.commitment.specs.Parameters.{Parameters}

-- for a ring size and a modulus that some polynomial of the sheet has
module _ (P : Parameters) (m : ℕ) {a : Bytes} (p : Polynomial P.N P.q a) where
  open P use {q, N, repeats}

  pub openings_passed : (x : Openings) → Lent P m x → lent_ranged P m x ≡ true → OpeningsInRange q N m repeats x
  unfolding lent_ranged
  openings_passed x l t =
      let a1 = both (ltb x.repetition repeats) _ t in
      let a2 = both (ballots_ranged P m x.ballots) _ a1.1 in
      let a3 = both (all_below P.p x.claims) _ a2.1 in
      let a4 = both (head_ranged P.q P.N x.head) _ a3.1 in
      let a5 = both (all_below q (vector x.shares0)) _ a4.1 in
      let a6 = both (all_below q (vector x.shares1)) _ a5.1 in
      let a7 = both (opening_ranged P.q P.N x.opening0) _ a6.1 in
      let a8 = both (opening_ranged P.q P.N x.opening1) _ a7.1 in
      let a9 = both (in_range q N 1 x.answer1) _ a8.1 in
      let a10 = both (in_range q N 2 x.answer2) (in_range q N 3 x.answer3) a9.1 in
      record {
        repetition = ltb-true x.repetition repeats a1.0;
        batch = batch_passed P m p x.ballots x.claims l.ballots l.claims a2.0;
        head = head_passed P m p x.head l.head a4.0;
        shares0 = shares_passed P m p x.shares0 l.shares0 a5.0;
        shares1 = shares_passed P m p x.shares1 l.shares1 a6.0;
        opening0 = opening_passed P m p x.opening0 l.opening0 a7.0;
        opening1 = opening_passed P m p x.opening1 l.opening1 a8.0;
        answer1 = record { sized = l.answer1; ranged = a9.0 };
        answer2 = record { sized = l.answer2; ranged = a10.0 };
        answer3 = record { sized = l.answer3; ranged = a10.1 };
      }
