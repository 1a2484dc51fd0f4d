-- What the search of the extractor is given where its tests take what is lent: lengths, ranges and permutations. Assumes nothing.
use mathlib.Core.Path.{◌≡◌}
use mathlib.Core.Bool.{true}
use Prim.Native.Nat.{ℕ, ◌*◌, ◌≤◌}
use native.Mathlib.Omega.{arith}
use borrow.Author.Tests.{not-false}
use lib.ListN.{length}
use Rattle.codec.specs.Bytes.{Bytes, Octets}
use Rattle.codec.specs.Reply.{first, None, Taken}
use Rattle.codec.proofs.Replies.{taken_exactly}
use Rattle.codec.specs.Lists.{all_below}
use Rattle.scratch.specs.Call.{scratch_length}
use Rattle.scratch.specs.Internal.{Polynomial}
use Rattle.vector.specs.Vector.{vector}
use Rattle.vector.specs.Permutation.{entries, permutes}
use Rattle.stern.specs.Shortness.{answer2_of, answer3_of}
use Rattle.round.specs.Layout.{pairs_of}
use Rattle.commitment.specs.Parameters.{Parameters}
use Rattle.round.specs.Extractor.{Openings, ExtractRoom, Lent, open0, open1, lent_ranged, side_tests, extract_tests}
use Rattle.round.proofs.Many.{append_none}
use Rattle.round_sides.proofs.Passed.{openings_passed}
use Rattle.round_collision.specs.Internal.{ThreeAnswers}
use Rattle.round_lengths.specs.Calls.{count_of, openings_tests}
use Rattle.round_lengths.proofs.Sizes.{all_right}
use Rattle.round_extract.proofs.Tested.{lent_message_lem, lent_openings, extract_lengths}

-- the ranges, and the permutations of answers 2 and 3: of each answer's two tests the first
extract_passed : (P : Parameters) (m : ℕ) (x : Openings) → None (extract_tests P m x)
    → (lent_ranged P m x ≡ true) × (permutes (42 * P.N) (entries (answer2_of P.N x.answer2).p) ≡ true) × (permutes (42 * P.N) (entries (answer3_of P.N x.answer3).p) ≡ true)
unfolding extract_tests
extract_passed P m x none =
    let after0 = append_none (side_tests P m x.head x.ballots x.claims x.shares0 x.shares1 0 x.shares0 (open0 P m x)) _ none.1.1 in
    let after1 = append_none (side_tests P m x.head x.ballots x.claims x.shares0 x.shares1 1 x.shares1 (open1 P m x)) _ after0.1 in
    let later = after1.1.1.1 in
    (not-false (lent_ranged P m x) none.0, not-false (permutes _ _) later.0, not-false (permutes _ _) later.1.1.0)

module _ (P : Parameters) (x : Openings) (room : ExtractRoom) {a : Bytes} (public : Polynomial P.N P.q a) (octets : Octets x.head)
    (taken : first (openings_tests P x room) ≡ Taken) where
  open P use {q, N}

  abbrev m : ℕ
  m = count_of N x.ballots

  lengths : (Lent P m x × (length room.out ≡ 24 * N) × (length room.scratch ≡ scratch_length)) × None (extract_tests P m x)
  unfolding openings_tests
  lengths =
      let r = all_right m (lent_message_lem P x room m) (lent_openings P x room m) (extract_tests P m x) taken in
      (extract_lengths P x room m octets r.1 r.2, (taken_exactly (extract_tests P m x)).0 r.3)

  pub search_ready : ((length room.scratch ≡ scratch_length) × (length room.out ≡ 24 * N) × (80 * N ≤ length x.head) × (length x.opening0 ≡ 22 * N) × (length x.opening1 ≡ 22 * N))
      × ((all_below q (vector (pairs_of N x.head)) ≡ true) × ThreeAnswers q N x.answer1 x.answer2 x.answer3)
  search_ready =
      let l = lengths.0.0 in
      let p = extract_passed P m x lengths.1 in
      let r = openings_passed P m public x l p.0 in (
        (lengths.0.2, lengths.0.1, omega (arith, l.head), l.opening0, l.opening1),
        (
          r.head.pairs,
          record {
            sized1 = l.answer1;
            sized2 = l.answer2;
            sized3 = l.answer3;
            below1 = r.answer1.ranged;
            below2 = r.answer2.ranged;
            below3 = r.answer3.ranged;
            permutes2 = p.1;
            permutes3 = p.2;
          },
        ),
      )
