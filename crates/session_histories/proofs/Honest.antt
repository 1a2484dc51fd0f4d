-- The third demand's last sentence: a round that the producer wrote for the session's sheet and batch, lodged, is accepted at its turn. Assumes nothing.
use mathlib.Core.Path.{◌≡◌, sym, ap, subst, ◌∙◌}
use mathlib.Core.List.{List}
use Prim.Native.Nat.{ℕ}
use native.Mathlib.Omega.{arith}
use lib.ListN.{length}
use Rattle.codec.specs.Bytes.{Bytes}
use Rattle.codec.specs.Reply.{None, first, Reply, Taken}
use Rattle.codec.proofs.Replies.{taken_exactly}
use Rattle.sha3.specs.Sponge.{sha3}
use Rattle.sheet.specs.Reader.{sheet_of}
use Rattle.sheet.specs.Sheet.{order, reading_by, reading}
use Rattle.sheet_numbers.specs.declared.Numbers.{Numbers}
use Rattle.sheet.specs.Sheet as reading
use Rattle.bgv.proofs.Sheets.{sheet_sound}
use Rattle.round.specs.Layout.{ballot_length}
use Rattle.commitment.specs.Parameters.{Parameters, parameters_of}
use Rattle.round.specs.Producer.{Material, produced_round}
use Rattle.round.proofs.Many.{none_append}
use Rattle.round.proofs.Produced.{length_produced_head, length_produced_shares, length_produced_claims, length_produced_opening, length_produced_answers}
use Rattle.round.proofs.Passed.{producer_exactly}
use Rattle.round.proofs.Honest.{honest_round}
use Rattle.session_check.specs.Stored.{Inputs, drawn_round}
use Rattle.session_digests.specs.Digests.{ballot_digests, closing_digest, claim_digest}
use Rattle.session_digests.specs.Draw.{drawn_side, drawn_challenges}
use Rattle.session_digests.proofs.Range.{side_range, length_challenges, challenge_range}
use Rattle.session_check.specs.Check.{late_tests}
use Rattle.session_check.specs.Equations.{InputsSized, Held}
use Rattle.session.specs.declared.Session.{Session}
use Rattle.session.specs.Session.{trail_at}
use Rattle.session.specs.Steps.{Beginning, stored_for, check_early, check_late, check_tests}
use Rattle.session.specs.Machine.{check, state, reply}
use Rattle.session_histories.specs.Runs.{Call}
use Rattle.session_histories.specs.Internal.{Trace, Begins, trace, initial_trace}
use Rattle.session_histories.specs.Conditions.{SheetTaken}
use Rattle.session_histories.specs.Claims.{Produced, Turn}
use Rattle.session_histories.proofs.Valid.{sheet_exactly}
use Rattle.session_histories.proofs.Kept.{Kept, message_digest, kept}
use Rattle.session_histories.proofs.Checked.{reaches_exactly}

pub reads : (text : Bytes) → SheetTaken text → reading text ≡ reading.Taken (sheet_of text).numbers
unfolding reading
reads text t = ap (λ (r : Reply). reading_by r (sheet_of text).numbers) ((taken_exactly (order text)).1 ((sheet_exactly text).1 t))

-- ---- the round's own tests, in any session whose numbers are the sheet's and whose closed count is that of the ballots

module _ (s : Session) (material : Material) (round : ℕ) (x : Inputs) (sheet_taken : SheetTaken x.sheet) (numbers : (sheet_of x.sheet).numbers ≡ s.numbers)
    (made : Produced (parameters_of x.sheet) s.progress.closed material s.seed round x) where
  abbrev P : Parameters
  P = parameters_of x.sheet

  abbrev m : ℕ
  m = s.progress.closed

  abbrev side : ℕ
  side = drawn_side s.seed round

  abbrev challenges : Bytes
  challenges = drawn_challenges s.seed round P.repeats

  round_is : drawn_round (stored_for s round) x ≡ produced_round P m material side challenges
  round_is = λ d. record {
    side = side;
    challenges = ap (λ (n : Numbers). drawn_challenges s.seed round n.repeats) (sym numbers) d;
    ballots = made.ballots d;
    claims = made.claims d;
    head = made.head d;
    shares0 = made.shares0 d;
    shares1 = made.shares1 d;
    opening = made.opening d;
    answers = made.answers d;
  }

  pub late_none : None (check_late s round x)
  unfolding check_late late_tests
  late_none =
      let r = sheet_taken.inside in
      rw round_is
      (honest_round P m material (sheet_sound x.sheet (sheet_of x.sheet).numbers (reads x.sheet sheet_taken)) (omega (arith, r.modulus_low)) (omega (arith, r.modulus_high)) made.sized
      ((producer_exactly P m material (omega (arith, r.modulus_low)) (omega (arith, r.modulus_high))).1 made.suitable)
      side (side_range s.seed round) challenges (length_challenges s.seed round P.repeats) (challenge_range s.seed round P.repeats))

-- ---- at its turn

module _ (l : Trace) (k : Kept l.session l.history) (material : Material) (round : ℕ) (x : Inputs) (turn : Turn l.session l.history material round x) where
  abbrev s : Session
  s = l.session

  abbrev Q : Parameters
  Q = parameters_of x.sheet

  abbrev count : ℕ
  count = length l.history.batch

  abbrev made : Produced Q count material s.seed round x
  made = turn.made

  sheet_taken : SheetTaken x.sheet
  sheet_taken = rw turn.sheet k.origin.taken

  numbers : (sheet_of x.sheet).numbers ≡ s.numbers
  numbers = rw turn.sheet (sym k.origin.numbers)

  closed : s.progress.closed ≡ count
  closed = let phase = turn.phase in k.digests.closed (omega arith)

  -- ---- the lengths

  lengths : InputsSized (stored_for s round) x
  lengths = rw (closed, ← numbers) (record {
    head = ap length made.head ∙ length_produced_head Q count material;
    shares0 = ap length made.shares0 ∙ length_produced_shares Q count material 0;
    shares1 = ap length made.shares1 ∙ length_produced_shares Q count material 1;
    ballots = ap length made.ballots ∙ made.sized.ballots;
    claims = ap length made.claims ∙ length_produced_claims Q count material;
    opening = ap length made.opening ∙ length_produced_opening Q count material made.sized (drawn_side s.seed round) (side_range s.seed round);
    answers = ap length made.answers ∙ length_produced_answers Q count material made.sized (drawn_challenges s.seed round Q.repeats) (length_challenges s.seed round Q.repeats);
    scratch = turn.scratch;
  })

  -- ---- what the session holds

  matches : Held (stored_for s round) x
  unfolding trail_at
  matches =
      let phase = turn.phase in
      let next = k.counts.next phase in
      let due = turn.due in
      let all = k.counts.whole (omega arith) in
      let batch : ballot_digests (ballot_length s.numbers.ring) s.progress.closed x.ballots ≡ l.history.batch = rw (closed, ← numbers) turn.batch in
      record {
        sheet = ap sha3 turn.sheet ∙ sym k.origin.sheet;
        numbers = numbers;
        ballots = ap (closing_digest s.sheet) batch ∙ sym (k.digests.closing (omega arith));
        claims = ap (claim_digest s.closing) turn.claims ∙ sym (k.digests.claim (omega arith));
        message = ap (message_digest s.claim round) turn.first_message ∙ sym (k.digests.trail (omega arith) round (omega arith));
      }

  pub turn_accepted : first (check_tests s round x) ≡ Taken
  unfolding check_tests
  turn_accepted =
      let next = k.counts.next turn.phase in
      let due = turn.due in
      (taken_exactly (check_tests s round x)).1
      (none_append (check_early s round x) (check_late s round x) ((reaches_exactly s round x).1 (record { sound = k.sound; phase = turn.phase; due = due; within = omega arith; sheet = sheet_taken; lengths = lengths; matches = matches }))
      (late_none s material round x sheet_taken numbers (subst (λ (n : ℕ). Produced Q n material s.seed round x) (sym closed) made)))

-- a round that the producer wrote for the session's sheet and batch, lodged, is accepted at its turn, whatever was drawn
pub honest_accepted : (b : Beginning) (cs : List Call) → Begins b
    → let l = trace cs (initial_trace b) in
    (register : Bytes) (material : Material) (round : ℕ) (x : Inputs) → Turn l.session l.history material round x → reply (check round x) (state l.session register) ≡ Taken
unfolding reply
honest_accepted b cs e register material round x turn = turn_accepted (trace cs (initial_trace b)) (kept b cs e) material round x turn
