-- The extractor refuses exactly where a check of those openings and answers would: its tests are those of such checks, met with the same number and place. So it takes
-- whatever checks accepted, and nothing that a check of an opening or an answer would refuse. Assumes nothing.
use mathlib.Core.Path.{◌≡◌, refl, sym, ap, ap₂, ◌∙◌}
use mathlib.Core.Logic.{◌↔◌}
use mathlib.Core.Bool.{Bool, true, not, ◌&&◌}
use mathlib.Core.List.{List, ◌∷◌, ◌++◌}
use Prim.Native.Nat.{ℕ, zero, suc, ◌≤◌, ◌<◌}
use native.Mathlib.Omega.{arith}
use borrow.Author.Tests.{ltb-true, ltb-false, lt-ltb, le-leb, not-false}
use lib.Dec.{ltb}
use lib.ListN.{length, get_or, replicate, length-replicate, get_or-replicate}
use Rattle.codec.specs.Reply.{Test, test, first, None, Refused}
use Rattle.codec.proofs.Laws.{both}
use Rattle.codec.proofs.Lists.{all_sound, all_complete}
use Rattle.stern.specs.Shortness.{answer_length, in_range, answer_tests}
use Rattle.round.specs.Layout.{joined, answer_at}
use Rattle.round.specs.Round.{Round, challenge_at, is_challenge, opening_ranged, answers_ranged, ranged, splits, round_tests}
use Rattle.round.specs.Extractor.{Openings, Lent, pairs, digests, open0, open1, lent_ranged, side_tests, extract_tests}
use Rattle.round.specs.Lending.{opening_by, answer_by, OfLent, OpensLent, AnswersLent, lent_round, Lending}
use Rattle.round.specs.Internal.{opened_ranged, opening_tests, repetition_tests, ChecksTake, ChecksRefuse, no_repetition, opening, answer}
use Rattle.round.proofs.Answers.{answers_at}
use Rattle.round.proofs.Ranged.{message, message_and}
use Rattle.round.proofs.Orders.{swap, opening_order, answer_order, one_order, order_parts, parts_order, order_first}
use Rattle.round.proofs.Tests.{answer_tests_lem, ballot_tests_lem}
use Rattle.round.proofs.Many.{for_challenges, none_append, append_none, each_none, none_each}
use Rattle.commitment.specs.Parameters.{Parameters}

-- ---- a check is its two parts

module _ (P : Parameters) (m : ℕ) (r : Round) where
  open P use {q, N, k, repeats}

  ranged_parts : ranged P m r ≡ (answers_ranged P.q P.N P.repeats r.challenges r.answers && opened_ranged P m r)
  unfolding ranged opened_ranged
  ranged_parts = swap (ltb r.side 2) (answers_ranged P.q P.N P.repeats r.challenges r.answers) _

  abbrev answer_in_range : ℕ → Bool
  answer_in_range i = is_challenge (challenge_at r i) && in_range q N (challenge_at r i) (answer_at N r.challenges r.answers i)

  parted : None (round_tests P m r) → None (opening_tests P m r) × ((i : ℕ) → i < repeats → None (repetition_tests P m r i))
  unfolding round_tests opening_tests repetition_tests answers_ranged
  parted none =
      let range = both (answers_ranged P.q P.N P.repeats r.challenges r.answers) (opened_ranged P m r) (sym ranged_parts ∙ not-false (ranged P m r) none.0) in
      let rest = append_none (joined repeats (answer_tests_lem P m r)) (joined m (ballot_tests_lem P m r)) none.1.1.1.1 in (
        (ap not range.1, (none.1.0, (none.1.1.0, (none.1.1.1.0, rest.1)))),
        λ i l. (ap not (all_sound repeats (λ j. answer_in_range j) range.0 i l), none_each repeats (answer_tests_lem P m r) rest.0 i l),
      )

  whole : None (opening_tests P m r) × ((i : ℕ) → i < repeats → None (repetition_tests P m r i)) → None (round_tests P m r)
  unfolding round_tests opening_tests repetition_tests answers_ranged
  whole parts =
      let o = parts.0 in
      let answered = all_complete repeats (λ i. answer_in_range i) (λ i l. not-false (answer_in_range i) (parts.1 i l).0) in (
        ap not (ranged_parts ∙ ap₂ ◌&&◌ answered (not-false (opened_ranged P m r) o.0)),
        (
          o.1.0,
          (
            o.1.1.0,
            (o.1.1.1.0, none_append (joined repeats (answer_tests_lem P m r)) (joined m (ballot_tests_lem P m r)) (each_none repeats (answer_tests_lem P m r) (λ i l. (parts.1 i l).1)) o.1.1.1.1),
          ),
        ),
      )

  -- a check refuses nothing exactly if it refuses nothing of the opening and nothing of any repetition's answer
  pub parts_exactly : None (round_tests P m r) ↔ (None (opening_tests P m r) × ((i : ℕ) → i < repeats → None (repetition_tests P m r i)))
  parts_exactly = (parted, whole)

-- ---- the extractor's order is such a one

module _ (P : Parameters) (m : ℕ) (x : Openings) where
  open P use {q, N, p, k, repeats}

  abbrev in_repeats : Bool
  in_repeats = ltb x.repetition repeats

  abbrev lent_message_lem : Bool
  lent_message_lem = message P m x.ballots x.claims x.head x.shares0 x.shares1

  abbrev adds : Bool
  adds = splits P x.head

  abbrev opening_ranged_lem : ℕ → Bool
  opening_ranged_lem i = opening_ranged P.q P.N (opening_by x i)

  abbrev answer_ranged : ℕ → Bool
  answer_ranged c = in_range q N c (answer_by x c)

  abbrev side_tests_lem : ℕ → List Test
  side_tests_lem zero = side_tests P m x.head x.ballots x.claims x.shares0 x.shares1 0 x.shares0 (open0 P m x)
  side_tests_lem (suc i) = side_tests P m x.head x.ballots x.claims x.shares0 x.shares1 1 x.shares1 (open1 P m x)

  abbrev answer_tests_of : ℕ → List Test
  answer_tests_of c = answer_tests q N k (pairs P m x) (digests P m x) x.repetition c (answer_by x c)

  extract_order : extract_tests P m x ≡ one_order in_repeats lent_message_lem adds opening_ranged_lem answer_ranged side_tests_lem answer_tests_of
  unfolding extract_tests lent_ranged
  extract_order =
      ap (λ (b : Bool). test 5 0 (not (in_repeats && b)) ∷ test 6 0 (not adds) ∷ (side_tests_lem 0 ++ (side_tests_lem 1 ++ (answer_tests_of 1 ++ (answer_tests_of 2 ++ answer_tests_of 3)))))
      (message_and P m x.ballots x.claims x.head x.shares0 x.shares1 (opening_ranged_lem 0 && (opening_ranged_lem 1 && (answer_ranged 1 && (answer_ranged 2 && answer_ranged 3)))))

  -- a check that opens a side as lent
  opens_lent : (i : ℕ) → i < 2 → (r : Round) → OpensLent x i r → opening_tests P m r ≡ opening_order lent_message_lem adds (opening_ranged_lem i) (side_tests_lem i)
  unfolding opening_tests opened_ranged
  opens_lent zero l r o =
      let e = o.of_lent in
      rw (o.side_is, o.opening, e.head, e.shares0, e.shares1, e.ballots, e.claims, message_and P m x.ballots x.claims x.head x.shares0 x.shares1 (opening_ranged_lem 0))
  opens_lent (suc zero) l r o =
      let e = o.of_lent in
      rw (o.side_is, o.opening, e.head, e.shares0, e.shares1, e.ballots, e.claims, message_and P m x.ballots x.claims x.head x.shares0 x.shares1 (opening_ranged_lem 1))
  opens_lent (suc (suc i)) l r o = absurd (omega arith)

  -- a check that answers a challenge as lent
  answers_lent : (c : ℕ) → 1 ≤ c → c ≤ 3 → (r : Round) → AnswersLent N x c r → repetition_tests P m r x.repetition ≡ answer_order (answer_ranged c) (answer_tests_of c)
  unfolding repetition_tests
  answers_lent c low high r o = rw (o.answer, o.challenge, o.of_lent.head, le-leb 1 c low, le-leb c 3 high)

  -- ---- what the extractor takes, every such check of a side or an answer takes

  module _ (none : None (extract_tests P m x)) where
    parts : (in_repeats ≡ true) × ((i : ℕ) → i < 2 → None (opening_order lent_message_lem adds (opening_ranged_lem i) (side_tests_lem i)))
        × ((c : ℕ) → 1 ≤ c → c ≤ 3 → None (answer_order (answer_ranged c) (answer_tests_of c)))
    parts = order_parts in_repeats lent_message_lem adds opening_ranged_lem answer_ranged side_tests_lem answer_tests_of (rw extract_order at none)

    pub opening_taken : (i : ℕ) → i < 2 → (r : Round) → OpensLent x i r → None (opening_tests P m r)
    opening_taken i l r o = rw (opens_lent i l r o) (parts.1 i l)

    pub answer_taken : (c : ℕ) → 1 ≤ c → c ≤ 3 → (r : Round) → AnswersLent N x c r → None (repetition_tests P m r x.repetition)
    answer_taken c low high r o = rw (answers_lent c low high r o) (parts.2 c low high)

  -- ---- both ways, for rounds that open each side and answer each challenge as lent

  module _ (opened answered : ℕ → Round) (lent : Lending P m x opened answered) where
    opening_is : (i : ℕ) → i < 2 → opening_tests P m (opened i) ≡ opening_order lent_message_lem adds (opening_ranged_lem i) (side_tests_lem i)
    opening_is i l = opens_lent i l (opened i) (lent.sides i l)

    answer_is : (c : ℕ) → 1 ≤ c → c ≤ 3 → repetition_tests P m (answered c) x.repetition ≡ answer_order (answer_ranged c) (answer_tests_of c)
    answer_is c low high = answers_lent c low high (answered c) (lent.challenges c low high)

    checks_take : None (extract_tests P m x) → ChecksTake P m x opened answered
    checks_take none = record {
      repetition = ltb-true x.repetition repeats (parts none).0;
      openings = λ i l. opening_taken none i l (opened i) (lent.sides i l);
      answers = λ c low high. answer_taken none c low high (answered c) (lent.challenges c low high);
    }

    extractor_takes : ChecksTake P m x opened answered → None (extract_tests P m x)
    extractor_takes t =
        rw extract_order
        (parts_order in_repeats lent_message_lem adds opening_ranged_lem answer_ranged side_tests_lem answer_tests_of (lt-ltb x.repetition repeats t.repetition) (λ i l. rw (opening_is i l) at (t.openings i l))
        (λ c low high. rw (answer_is c low high) at (t.answers c low high)))

    -- the extractor refuses nothing exactly if the repetition is in range and the checks refuse nothing of those openings and answers
    pub refuses_exactly : None (extract_tests P m x) ↔ ChecksTake P m x opened answered
    refuses_exactly = (checks_take, extractor_takes)

    -- so it takes what checks accepted
    pub takes_accepted : x.repetition < repeats → ((i : ℕ) → i < 2 → None (round_tests P m (opened i))) → ((c : ℕ) → 1 ≤ c → c ≤ 3 → None (round_tests P m (answered c))) → None (extract_tests P m x)
    takes_accepted l openings answers =
        extractor_takes (record {
          repetition = l;
          openings = λ i h. ((parts_exactly P m (opened i)).0 (openings i h)).0;
          answers = λ c low high. ((parts_exactly P m (answered c)).0 (answers c low high)).1 x.repetition l;
        })

    -- and where it refuses, with a number and a place, the check of one of them does so too
    pub refuses_alike : (number place : ℕ) → first (extract_tests P m x) ≡ Refused number place → ChecksRefuse P m x opened answered number place
    refuses_alike number place e =
        order_first in_repeats lent_message_lem adds opening_ranged_lem answer_ranged side_tests_lem answer_tests_of (λ r f. no_repetition (ltb-false x.repetition repeats r) f)
        (λ i l f. opening i l (rw (opening_is i l) f)) (λ c low high f. answer c low high (rw (answer_is c low high) f)) (rw extract_order at e)

-- there are such rounds
module _ (P : Parameters) (m : ℕ) (x : Openings) (lent : Lent P m x) where
  open P use {N, repeats}

  of_lent : (side c : ℕ) → OfLent x (lent_round P x side c)
  of_lent side c = record { head = refl; shares0 = refl; shares1 = refl; ballots = refl; claims = refl }

  asked : (c i : ℕ) → i < repeats → get_or (replicate repeats c) i 0 ≡ c
  asked c i h = get_or-replicate {A = ℕ} repeats i c 0 h

  sized : (c : ℕ) → 1 ≤ c → c ≤ 3 → length (answer_by x c) ≡ answer_length N c
  sized = for_challenges (λ c. length (answer_by x c) ≡ answer_length N c) lent.answer1 lent.answer2 lent.answer3

  pub lending : x.repetition < repeats → Lending P m x (λ i. lent_round P x i 1) (λ c. lent_round P x 0 c)
  lending l = record {
    sides = λ i h. record { of_lent = of_lent i 1; side_is = refl; opening = refl };
    challenges = λ c low high. record {
      of_lent = of_lent 0 c;
      challenge = asked c x.repetition l;
      answer =
          answers_at N (replicate repeats c) (λ i. answer_by x c) repeats (omega (arith, length-replicate {A = ℕ} repeats c)) (λ i h. sized c low high ∙ ap (answer_length N) (sym (asked c i h)))
          x.repetition l;
    };
  }
