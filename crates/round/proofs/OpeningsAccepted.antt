-- The extractor refuses nothing exactly of openings and answers that are `OpeningsAccepted`, for a head of the right length. Assumes nothing.
use mathlib.Core.Path.{◌≡◌, ap, ap₂, sym, ◌∙◌}
use mathlib.Core.Logic.{◌↔◌}
use mathlib.Core.Bool.{Bool, true, not, ◌&&◌}
use mathlib.Core.List.{List, ◌++◌}
use Prim.Native.Nat.{ℕ, ◌^◌, ◌≤◌, ◌<◌}
use native.Mathlib.Omega.{arith}
use borrow.Author.Tests.{ltb-true, lt-ltb, not-false}
use lib.Dec.{ltb}
use Rattle.codec.specs.Bytes.{Bytes}
use Rattle.codec.specs.Reply.{Test, None}
use Rattle.codec.proofs.Laws.{both}
use Rattle.stern.specs.Shortness.{in_range, answer_tests}
use Rattle.round.specs.Layout.{Opening}
use Rattle.round.specs.Round.{of_side, opening_ranged}
use Rattle.round.specs.Accepted.{Answered, HeadRanged, SideOpened}
use Rattle.round.specs.Extractor.{Openings, Lent, pairs, digests, open0, open1, lent_ranged, side_tests, extract_tests}
use Rattle.round.specs.OpeningsAccepted.{OpeningsRanged, OpeningsAccepted}
use Rattle.round.proofs.Many.{none_append, append_none}
use Rattle.round.proofs.Ranged.{opening_exactly, answer_exactly, message, message_and, message_exactly}
use Rattle.round.proofs.Answered.{answered_exactly}
use Rattle.round.proofs.Tests.{splits_exactly}
use Rattle.round.proofs.Sides.{side_exactly}
use Rattle.commitment.specs.Parameters.{Parameters}

module _ (P : Parameters) (m : ℕ) (x : Openings) where
  open P use {q, N, repeats, k}

  -- ---- 5

  abbrev lent_message_lem : Bool
  lent_message_lem = message P m x.ballots x.claims x.head x.shares0 x.shares1

  abbrev in_answers : Bool
  in_answers = in_range q N 1 x.answer1 && (in_range q N 2 x.answer2 && in_range q N 3 x.answer3)

  abbrev in_openings : Bool
  in_openings = opening_ranged P.q P.N x.opening0 && (opening_ranged P.q P.N x.opening1 && in_answers)

  pub openings_ranged : (lent_ranged P m x ≡ true) ↔ OpeningsRanged P m x
  unfolding lent_ranged
  openings_ranged = (
    λ e.
        let r = both (ltb x.repetition repeats) _ e in
        let h = both lent_message_lem in_openings (sym (message_and P m x.ballots x.claims x.head x.shares0 x.shares1 in_openings) ∙ r.1) in
        let f = both (opening_ranged P.q P.N x.opening0) (opening_ranged P.q P.N x.opening1 && in_answers) h.1 in
        let g = both (opening_ranged P.q P.N x.opening1) in_answers f.1 in
        let a = both (in_range q N 1 x.answer1) (in_range q N 2 x.answer2 && in_range q N 3 x.answer3) g.1 in
        let b = both (in_range q N 2 x.answer2) (in_range q N 3 x.answer3) a.1 in
        record {
          repetition = ltb-true x.repetition repeats r.0;
          message = (message_exactly P m x.ballots x.claims x.head x.shares0 x.shares1).0 h.0;
          opening0 = (opening_exactly P m x.opening0).0 f.0;
          opening1 = (opening_exactly P m x.opening1).0 g.0;
          answer1 = (answer_exactly q N x.answer1 1 (omega arith) (omega arith)).0 a.0;
          answer2 = (answer_exactly q N x.answer2 2 (omega arith) (omega arith)).0 b.0;
          answer3 = (answer_exactly q N x.answer3 3 (omega arith) (omega arith)).0 b.1;
        },
    λ r.
        ap₂ ◌&&◌ (lt-ltb x.repetition repeats r.repetition)
        (message_and P m x.ballots x.claims x.head x.shares0 x.shares1 in_openings
        ∙ ap₂ ◌&&◌ ((message_exactly P m x.ballots x.claims x.head x.shares0 x.shares1).1 r.message)
        (ap₂ ◌&&◌ ((opening_exactly P m x.opening0).1 r.opening0)
        (ap₂ ◌&&◌ ((opening_exactly P m x.opening1).1 r.opening1)
        (ap₂ ◌&&◌ ((answer_exactly q N x.answer1 1 (omega arith) (omega arith)).1 r.answer1)
        (ap₂ ◌&&◌ ((answer_exactly q N x.answer2 2 (omega arith) (omega arith)).1 r.answer2) ((answer_exactly q N x.answer3 3 (omega arith) (omega arith)).1 r.answer3)))))),
  )

  -- ---- the order, group by group: the sides, and the answers

  abbrev pub side_tests_lem : (side : ℕ) → Opening → List Test
  side_tests_lem side o = side_tests P m x.head x.ballots x.claims x.shares0 x.shares1 side (of_side side x.shares0 x.shares1) o

  abbrev pub answer_group : (challenge : ℕ) (answer : Bytes) → List Test
  answer_group challenge answer = answer_tests q N k (pairs P m x) (digests P m x) x.repetition challenge answer

  abbrev last_two : List Test
  last_two = answer_group 2 x.answer2 ++ answer_group 3 x.answer3

  abbrev all_three : List Test
  all_three = answer_group 1 x.answer1 ++ last_two

  pub groups : None (extract_tests P m x) → None (side_tests_lem 0 (open0 P m x)) × None (side_tests_lem 1 (open1 P m x)) × None (answer_group 1 x.answer1) × None (answer_group 2 x.answer2) × None (answer_group 3 x.answer3)
  unfolding extract_tests
  groups none =
      let f = append_none (side_tests_lem 0 (open0 P m x)) (side_tests_lem 1 (open1 P m x) ++ all_three) none.1.1 in
      let g = append_none (side_tests_lem 1 (open1 P m x)) all_three f.1 in
      let h = append_none (answer_group 1 x.answer1) last_two g.1 in
      let i = append_none (answer_group 2 x.answer2) (answer_group 3 x.answer3) h.1 in
      (f.0, g.0, h.0, i.0, i.1)

  -- ---- both ways

  module _ (positive : 0 < P.q) (fits : P.q ≤ 2 ^ 64) (lent : Lent P m x) where
    side_means : HeadRanged P m x.head → (side : ℕ) → side < 2 → (o : Opening)
        → None (side_tests_lem side o) ↔ SideOpened P m x.ballots x.claims x.head x.shares0 x.shares1 side o
    side_means = side_exactly P m positive fits x.ballots x.claims x.head x.shares0 x.shares1 lent.head lent.octets

    answer_means : (c : ℕ) → 1 ≤ c → c ≤ 3 → (answer : Bytes) → None (answer_group c answer) ↔ Answered q N k (pairs P m x) (digests P m x) c answer
    answer_means c low high answer = answered_exactly q N k (pairs P m x) (digests P m x) x.repetition answer c low high

    accepted : None (extract_tests P m x) → OpeningsAccepted P m x
    unfolding extract_tests
    accepted none =
        let in_range = openings_ranged.0 (not-false (lent_ranged P m x) none.0) in
        let g = groups none in
        record {
          in_range = in_range;
          key_splits = (splits_exactly P m positive fits x.head).0 (not-false _ none.1.0);
          side0 = (side_means in_range.message.in_head 0 (omega arith) (open0 P m x)).0 g.0;
          side1 = (side_means in_range.message.in_head 1 (omega arith) (open1 P m x)).0 g.1;
          answered1 = (answer_means 1 (omega arith) (omega arith) x.answer1).0 g.2;
          answered2 = (answer_means 2 (omega arith) (omega arith) x.answer2).0 g.3;
          answered3 = (answer_means 3 (omega arith) (omega arith) x.answer3).0 g.4;
        }

    refuses_none : OpeningsAccepted P m x → None (extract_tests P m x)
    unfolding extract_tests
    refuses_none c =
        let head = c.in_range.message.in_head in (
          ap not (openings_ranged.1 c.in_range),
          (
            ap not ((splits_exactly P m positive fits x.head).1 c.key_splits),
            none_append (side_tests_lem 0 (open0 P m x)) (side_tests_lem 1 (open1 P m x) ++ all_three) ((side_means head 0 (omega arith) (open0 P m x)).1 c.side0)
                (none_append (side_tests_lem 1 (open1 P m x)) all_three ((side_means head 1 (omega arith) (open1 P m x)).1 c.side1)
                (none_append (answer_group 1 x.answer1) last_two ((answer_means 1 (omega arith) (omega arith) x.answer1).1 c.answered1)
                (none_append (answer_group 2 x.answer2) (answer_group 3 x.answer3) ((answer_means 2 (omega arith) (omega arith) x.answer2).1 c.answered2)
                ((answer_means 3 (omega arith) (omega arith) x.answer3).1 c.answered3)))),
          ),
        )

    pub openings_exactly : None (extract_tests P m x) ↔ OpeningsAccepted P m x
    openings_exactly = (accepted, refuses_none)
