-- The extractor takes two openings and three answers that checks accepted (`AcceptedYields`, specs/Demands.antt): what an accepted check found of its round, and from that
-- the lengths and the tests of the extractor. Assumes nothing.
use mathlib.Core.Path.{◌≡◌, sym, ap, subst, ◌∙◌}
use mathlib.Core.Bool.{cond}
use Prim.Native.Nat.{ℕ, zero, suc, ◌*◌, ◌≤◌, ◌<◌}
use native.Mathlib.Nat.{div-eq_of_eq-mul_right}
use native.Mathlib.Decide.{dec_lt}
use native.Mathlib.Omega.{arith}
use lib.Dec.{eqb}
use lib.ListN.{length, take, get_or, get_or-eq_default}
use Rattle.codec.specs.Bytes.{Bytes, Octets}
use Rattle.codec.specs.Reply.{first, None, Taken}
use Rattle.codec.proofs.Laws.{length_part}
use Rattle.codec.proofs.Replies.{taken_exactly}
use Rattle.sheet.specs.Sheet.{order}
use Rattle.scratch.specs.Call.{scratch_length}
use Rattle.stern.specs.Shortness.{answer_length}
use Rattle.round.specs.Layout.{answers_length}
use Rattle.round.specs.Round.{Round, challenge_at, round_tests}
use Rattle.round.specs.Internal.{Lengths}
use Rattle.round.specs.Extractor.{Openings, extract_room, Lent, extract_tests}
use Rattle.round.specs.Lending.{opening_by, answer_by, OfLent, OpensLent, AnswersLent}
use Rattle.round.proofs.Answers.{answers_length_more, prefix_le}
use Rattle.round.proofs.Many.{for_sides, for_challenges, append_none}
use Rattle.round.proofs.Refuses.{takes_accepted}
use Rattle.round_lengths.specs.Sheets.{ballots_in}
use Rattle.round_extract.specs.Replies.{extract_reply}
use Rattle.session_check.specs.Check.{late_tests}
use Rattle.session_check.proofs.Laws.{round_sized, early_exactly}
use Rattle.session.specs.declared.Session.{Session}
use Rattle.session.specs.Steps.{stored_for, check_early, check_late, check_tests}
use Rattle.session_image.specs.Image.{decode}
use Rattle.session.specs.Machine.{reply}
use Rattle.session_image.specs.Images.{host_reply}
use Rattle.session_histories.proofs.Valid.{ready, sheet_exactly}
use Rattle.claims.proofs.Images.{lent_exactly, not_1}
use Rattle.claims.proofs.Extracts.{lent_takes}
use Rattle.claims.specs.Demands.{AcceptedCheck, checked_round, AcceptedOpening, AcceptedAnswer}
use Rattle.commitment.specs.Parameters.{Parameters, parameters_of}
use Rattle.session_check.specs.Stored.{Inputs, drawn_round}

-- ---- what an accepted check found, for m ballots

record Passed (text : Bytes) (m : ℕ) (r : Round) : Type 0 where
  sheet : None (order text)
  few : m ≤ 4096
  lengths : Lengths (parameters_of text) m r
  tests : None (round_tests (parameters_of text) m r)

passed_by : (s : Session) (round : ℕ) (x : Inputs) → first (check_tests s round x) ≡ Taken → Passed x.sheet s.progress.closed (drawn_round (stored_for s round) x)
unfolding check_tests check_early check_late late_tests
passed_by s round x e =
    let n = append_none (check_early s round x) (check_late s round x) ((taken_exactly _).0 e) in
    let h = (early_exactly (stored_for s round) x).0 n.0.1 in
    let numbers = h.2.numbers in
    record {
      sheet = h.0;
      few = (ready s _ n.0.0).0.closed;
      lengths = round_sized (stored_for s round) x (parameters_of x.sheet) (rw numbers) (rw numbers) h.1;
      tests = n.1;
    }

-- the count of its session is that of the lent ballots
passed : {text : Bytes} (x : Openings) (c : AcceptedCheck text) → OfLent x (checked_round c) → Passed text (ballots_in text x.ballots) (checked_round c)
unfolding host_reply reply
passed {text} x c o =
    let s = decode c.image in
    let taken = ((lent_exactly c.image (λ t. first (check_tests t c.round c.inputs)) Taken not_1).0 c.taken).1 in
    let held = subst (λ (t : Bytes). Passed t s.progress.closed (checked_round c)) c.sheet (passed_by s c.round c.inputs taken) in
    let count : ballots_in text x.ballots ≡ s.progress.closed = div-eq_of_eq-mul_right (omega arith) (sym (ap length o.ballots) ∙ held.lengths.ballots) in
    subst (λ (m : ℕ). Passed text m (checked_round c)) (sym count) held

-- ---- the extractor over two openings and three answers that were accepted

module _ (text : Bytes) (x : Openings) (o0 : AcceptedOpening text x 0) (o1 : AcceptedOpening text x 1)
    (a1 : AcceptedAnswer text x 1) (a2 : AcceptedAnswer text x 2) (a3 : AcceptedAnswer text x 3) where
  abbrev P : Parameters
  P = parameters_of text

  abbrev m : ℕ
  m = ballots_in text x.ballots

  abbrev opened : ℕ → Round
  opened zero = checked_round o0.check
  opened (suc i) = checked_round o1.check

  abbrev answered : ℕ → Round
  answered c = cond (eqb c 1) (checked_round a1.check) (cond (eqb c 2) (checked_round a2.check) (checked_round a3.check))

  opens : (i : ℕ) → i < 2 → OpensLent x i (opened i)
  opens = for_sides (λ i. OpensLent x i (opened i)) o0.opens o1.opens

  answers : (c : ℕ) → 1 ≤ c → c ≤ 3 → AnswersLent P.N x c (answered c)
  answers = for_challenges (λ c. AnswersLent P.N x c (answered c)) a1.answers a2.answers a3.answers

  opens_passed : (i : ℕ) → i < 2 → Passed text m (opened i)
  opens_passed = for_sides (λ i. Passed text m (opened i)) (passed x o0.check o0.opens.of_lent) (passed x o1.check o1.opens.of_lent)

  answers_passed : (c : ℕ) → 1 ≤ c → c ≤ 3 → Passed text m (answered c)
  answers_passed =
      for_challenges (λ c. Passed text m (answered c)) (passed x a1.check a1.answers.of_lent) (passed x a2.check a2.answers.of_lent) (passed x a3.check a3.answers.of_lent)

  -- a challenge was drawn in the lent repetition, so there is one
  within : x.repetition < P.repeats
  within = go (dec_lt x.repetition P.repeats)
    where
      go : Dec (x.repetition < P.repeats) → x.repetition < P.repeats
      go (yes l) = l
      go (no l) =
          let long = (answers_passed 1 (omega arith) (omega arith)).lengths.challenges in
          let drawn = a1.answers.challenge in
          let none : get_or (answered 1).challenges x.repetition 0 ≡ 0 = get_or-eq_default (answered 1).challenges 0 (omega arith) in
          absurd (omega arith)

  none : None (extract_tests P m x)
  none =
      takes_accepted P m x opened answered (record { sides = opens; challenges = answers }) within (λ i l. (opens_passed i l).tests) (λ c low high. (answers_passed c low high).tests)

  -- ---- the lengths

  opening_size : (i : ℕ) → i < 2 → length (opening_by x i) ≡ 22 * P.N
  opening_size i l = sym (ap length (opens i l).opening) ∙ (opens_passed i l).lengths.opening

  answer_size : (c : ℕ) → 1 ≤ c → c ≤ 3 → length (answer_by x c) ≡ answer_length P.N c
  answer_size c low high =
      let r = answered c in
      let l = (answers_passed c low high).lengths in
      let i = x.repetition in
      let inside : i < length r.challenges = omega (arith, within, l.challenges) in
      sym (ap length (answers c low high).answer)
      ∙ length_part r.answers (answers_length P.N (take i r.challenges)) (answer_length P.N (challenge_at r i))
      (omega (arith, answers_length_more P.N r.challenges i inside, prefix_le P.N r.challenges (suc i), l.answers))
      ∙ ap (answer_length P.N) (answers c low high).challenge

  lengths_right : Octets x.head → Lent P m x
  lengths_right octets =
      let e = o0.opens.of_lent in
      let l = (opens_passed 0 (omega arith)).lengths in
      record {
        head = sym (ap length e.head) ∙ l.head;
        octets = octets;
        shares0 = sym (ap length e.shares0) ∙ l.shares0;
        shares1 = sym (ap length e.shares1) ∙ l.shares1;
        ballots = sym (ap length e.ballots) ∙ l.ballots;
        claims = sym (ap length e.claims) ∙ l.claims;
        opening0 = opening_size 0 (omega arith);
        opening1 = opening_size 1 (omega arith);
        answer1 = answer_size 1 (omega arith) (omega arith);
        answer2 = answer_size 2 (omega arith) (omega arith);
        answer3 = answer_size 3 (omega arith) (omega arith);
      }

  pub extractor_takes : Octets x.head → (out scratch : Bytes) → length out ≡ 24 * P.N → length scratch ≡ scratch_length → extract_reply text x (extract_room out scratch) ≡ Taken
  extractor_takes octets out scratch e f =
      let first_opened = opens_passed 0 (omega arith) in
      lent_takes text x out scratch ((sheet_exactly text).0 first_opened.sheet) first_opened.few (lengths_right octets) e f none
