-- Turns come: every step of an election (specs/Elections.antt) is taken, every round comes to its turn, and the session ends accepted. Assumes nothing.
use mathlib.Core.Path.{◌≡◌, refl, sym, ap, subst, ◌∙◌}
use mathlib.Core.Bool.{Bool, true, false, cond}
use Prim.Native.Nat.{ℕ, suc, ◌+◌, ◌*◌, ◌^◌, ◌≤◌, ◌<◌}
use native.Mathlib.Omega.{arith}
use lib.Dec.{eqb}
use lib.ListN.{length, length-replicate}
use borrow.Author.Tests.{eqb-true, eqb-false, eq-eqb, ne_eqb}
use Rattle.codec.specs.Bytes.{Bytes}
use Rattle.codec.specs.Lists.{list}
use Rattle.codec.specs.Reply.{Taken}
use Rattle.sheet.specs.Reader.{sheet_of}
use Rattle.sheet_numbers.specs.declared.Numbers.{Numbers}
use Rattle.scratch.specs.Call.{scratch_length}
use Rattle.commitment.specs.Parameters.{Parameters, parameters_of}
use Rattle.round.specs.Producer.{Material, produced_head, produced_shares}
use Rattle.round.specs.Accepted.{EachBelow}
use Rattle.round.proofs.Produced.{length_produced_head, length_produced_shares, length_produced_claims}
use Rattle.round.proofs.Passed.{producer_exactly}
use Rattle.round.proofs.Accepted.{honest_accepted}
use Rattle.codec.proofs.Replies.{taken_exactly}
use Rattle.sheet.specs.Sheet.{order}
use Rattle.bgv.proofs.Sheets.{sheet_sound}
use Rattle.session_digests.specs.Draw.{drawn_side, drawn_challenges}
use Rattle.session_digests.proofs.Range.{side_range, length_challenges, challenge_range}
use Rattle.session_check.specs.Stored.{Inputs}
use Rattle.session.specs.Steps.{on, claimed_by, committed_by, drawn_by, accepted_by}
use Rattle.session.specs.Machine.{Step, admit, withdraw, close, claim, draw, reply}
use Rattle.session_histories.specs.Runs.{history_after, Message, message}
use Rattle.session_histories.specs.Internal.{Trace, OwnTrace, Begins, own_initial, own_extend, own_trace}
use Rattle.session_histories.specs.Conditions.{SheetTaken}
use Rattle.session_histories.specs.Claims.{Produced, Turn}
use Rattle.session_histories.specs.Elections.{batch_bytes, Countable, inputs_for, commits, checks, election}
use Rattle.session_histories.proofs.Exact.{claimed_exactly, committed_exactly, drawn_exactly}
use Rattle.session_histories.proofs.Honest.{reads, turn_accepted}
use Rattle.session_histories.proofs.Valid.{sheet_exactly}
use Rattle.session_histories.proofs.Stages.{trace_append, trace_cons, trace_none, trace_next, extend_is, up_to, by_last, On, numbers, Closed, closed_next}
use Rattle.session_histories.proofs.Gathered as gathering

module _ (sheet : Bytes) (m : ℕ) (ballot : ℕ → Bytes) (material : ℕ → Material) (claims seed : Bytes) (e : ℕ) (early : ℕ → ℕ)
    (c : Countable sheet m ballot material claims seed e early) (readable : Begins (on sheet)) where
  abbrev P : Parameters
  P = parameters_of sheet

  abbrev k : Numbers
  k = (sheet_of sheet).numbers

  abbrev ballots : Bytes
  ballots = batch_bytes sheet m ballot material claims seed

  abbrev start : OwnTrace
  start = own_initial (on sheet)

  abbrev admitting : ℕ → Step
  admitting i = admit (ballot i)

  abbrev withdrawing : ℕ → Step
  withdrawing i = withdraw (early i)

  -- withdrawn, admitted, and closed
  abbrev warned : OwnTrace
  warned = own_trace (list e withdrawing) start

  abbrev gathered : OwnTrace
  gathered = own_trace (list m admitting) warned

  abbrev shut : OwnTrace
  shut = own_extend close gathered

  shut_phase : shut.now.session.progress.phase ≡ 1
  shut_phase = gathering.shut_phase sheet m ballot material claims seed e early c readable

  shut_closed : Closed sheet m ballots shut
  shut_closed = gathering.shut_closed sheet m ballot material claims seed e early c readable

  shut_on : On sheet shut
  shut_on = shut_closed.on_sheet

  sheet_taken : SheetTaken sheet
  sheet_taken = (sheet_exactly sheet).0 ((taken_exactly (order sheet)).0 readable)

  some_rounds : 0 < k.rounds
  some_rounds = let l = sheet_taken.inside.rounds_low in omega arith

  -- the claims have a vote for each coefficient
  votes_in_range : EachBelow P.p claims
  votes_in_range =
      let r = sheet_taken.inside in
      let three : 2 < P.q = omega (arith, r.modulus_low) in
      let fits : P.q ≤ 2 ^ 64 = omega (arith, r.modulus_high) in
      let x = material 0 in
      let a = honest_accepted P m x (sheet_sound sheet k (reads sheet sheet_taken)) three fits (c.sized 0 some_rounds) ((producer_exactly P m x (omega arith) fits).1 (c.suitable 0 some_rounds))
      (drawn_side seed 0) (side_range seed 0) (drawn_challenges seed 0 P.repeats) (length_challenges seed 0 P.repeats) (challenge_range seed 0 P.repeats) in
      subst (EachBelow P.p) (c.votes 0 some_rounds) a.in_range.message.in_claims

  claims_size : length claims ≡ k.ring * m
  claims_size = sym (ap length (c.votes 0 some_rounds)) ∙ length_produced_claims P m (material 0)

  claims_taken : reply (claim claims) shut.now ≡ Taken
  unfolding reply
  claims_taken =
      (claimed_exactly shut.now.session claims).1 (record {
        sound = shut_on.kept.sound;
        phase = shut_phase;
        size = rw (numbers sheet shut shut_on, shut_closed.closed) claims_size;
        votes = rw (numbers sheet shut shut_on) votes_in_range;
      })

  -- ---- commit

  abbrev first : ℕ → Message
  first j = message (produced_head P m (material j)) (produced_shares P m (material j) 0) (produced_shares P m (material j) 1)

  record Committing (n : ℕ) (t : OwnTrace) : Type 0 where
    closed : Closed sheet m ballots t
    phase : t.now.session.progress.phase ≡ 2
    committed : t.now.session.progress.committed ≡ n
    claimed : t.history.claims ≡ claims
    firsts : (j : ℕ) → j < n → t.history.firsts j ≡ first j

  abbrev with_claims_trace : OwnTrace
  with_claims_trace = own_extend (claim claims) shut

  claimed_now : Committing 0 with_claims_trace
  unfolding claimed_by history_after
  claimed_now =
      let zero_committed = shut_on.kept.counts.uncommitted (let one = shut_phase in omega arith) in
      subst (Committing 0) (sym (extend_is (claim claims) shut claims_taken)) (record {
        closed = closed_next sheet m ballots (claim claims) shut shut_closed claims_taken refl refl refl;
        phase = refl;
        committed = zero_committed;
        claimed = refl;
        firsts = λ j l. absurd (omega arith);
      })

  abbrev committing : ℕ → Step
  committing = commits sheet m ballot material claims seed

  commit_taken : (n : ℕ) (t : OwnTrace) → n < k.rounds → Committing n t → reply (committing n) t.now ≡ Taken
  unfolding reply
  commit_taken n t l h =
      let o = h.closed.on_sheet in
      (committed_exactly t.now.session n (produced_head P m (material n)) (produced_shares P m (material n) 0) (produced_shares P m (material n) 1)).1 (record {
        sound = o.kept.sound;
        phase = h.phase;
        due = sym h.committed;
        within = rw (numbers sheet t o) l;
        head_size = rw (numbers sheet t o) (length_produced_head P m (material n));
        shares0_size = rw (numbers sheet t o, h.closed.closed) (length_produced_shares P m (material n) 0);
        shares1_size = rw (numbers sheet t o, h.closed.closed) (length_produced_shares P m (material n) 1);
      })

  commit_next : (n : ℕ) (t : OwnTrace) → n < k.rounds → Committing n t → Committing (suc n) (own_extend (committing n) t)
  unfolding committed_by history_after
  commit_next n t l h =
      let e = commit_taken n t l h in
      let count = h.committed in
      subst (Committing (suc n)) (sym (extend_is (committing n) t e)) (record {
        closed = closed_next sheet m ballots (committing n) t h.closed e refl refl refl;
        phase = h.phase;
        committed = omega arith;
        claimed = h.claimed;
        firsts = λ j g. by_last (λ i. cond (eqb i n) (first n) (t.history.firsts i) ≡ first i) n j g (λ i. rw (ne_eqb j n (λ q. omega arith)) (h.firsts j i)) (rw (eq-eqb n n refl));
      })

  abbrev with_messages : OwnTrace
  with_messages = own_trace (list k.rounds committing) with_claims_trace

  all_committed : Committing k.rounds with_messages
  all_committed =
      up_to (λ n. Committing n (own_trace (list n committing) with_claims_trace)) k.rounds (subst (Committing 0) (sym (trace_none committing with_claims_trace)) claimed_now)
      (λ n l h. subst (Committing (suc n)) (sym (trace_next n committing with_claims_trace)) (commit_next n (own_trace (list n committing) with_claims_trace) l h)) k.rounds (omega arith)

  -- ---- draw

  draw_taken : reply (draw seed) with_messages.now ≡ Taken
  unfolding reply
  draw_taken =
      let o = all_committed.closed.on_sheet in
      (drawn_exactly with_messages.now.session seed).1
      (record { sound = o.kept.sound; phase = all_committed.phase; all = all_committed.committed ∙ sym (ap (λ (n : Numbers). n.rounds) (numbers sheet with_messages o)); size = c.seed_size })

  -- ---- check

  record Checking (n : ℕ) (t : OwnTrace) : Type 0 where
    closed : Closed sheet m ballots t
    checked : t.now.session.progress.checked ≡ n
    going : n < k.rounds → t.now.session.progress.phase ≡ 3
    done : n ≡ k.rounds → t.now.session.progress.phase ≡ 5
    drawn : t.now.session.seed ≡ seed
    claimed : t.history.claims ≡ claims
    firsts : (j : ℕ) → j < k.rounds → t.history.firsts j ≡ first j

  abbrev with_seed_trace : OwnTrace
  with_seed_trace = own_extend (draw seed) with_messages

  drawn_now : Checking 0 with_seed_trace
  unfolding drawn_by history_after
  drawn_now =
      let h = all_committed in
      let two = h.phase in
      let none_checked = h.closed.on_sheet.kept.counts.unchecked (omega arith) in
      subst (Checking 0) (sym (extend_is (draw seed) with_messages draw_taken)) (record {
        closed = closed_next sheet m ballots (draw seed) with_messages h.closed draw_taken refl refl refl;
        checked = none_checked;
        going = λ l. refl;
        done = λ e. absurd (let l = some_rounds in omega arith);
        drawn = refl;
        claimed = h.claimed;
        firsts = h.firsts;
      })

  abbrev checking : ℕ → Step
  checking = checks sheet m ballot material claims seed

  module _ (n : ℕ) (t : OwnTrace) (l : n < k.rounds) (h : Checking n t) where
    abbrev x : Inputs
    x = inputs_for sheet m ballot material claims seed n

    abbrev reached : Trace
    reached = record { session = t.now.session; history = t.history }

    made : Produced P m (material n) seed n x
    made = record {
      sized = c.sized n l;
      suitable = c.suitable n l;
      ballots = sym (c.over_batch n l);
      claims = sym (c.votes n l);
      head = refl;
      shares0 = refl;
      shares1 = refl;
      opening = refl;
      answers = refl;
    }

    turn : Turn reached.session reached.history (material n) n x
    turn = record {
      phase = h.going l;
      due = sym h.checked;
      sheet = sym h.closed.on_sheet.sheet_is;
      batch = h.closed.batched;
      claims = sym h.claimed;
      first_message = sym (h.firsts n l);
      made = rw (h.closed.count, h.drawn) made;
      scratch = length-replicate {A = ℕ} scratch_length 0;
    }

    check_taken : reply (checking n) t.now ≡ Taken
    unfolding reply
    check_taken = turn_accepted reached h.closed.on_sheet.kept (material n) n x turn

    total : t.now.session.numbers.rounds ≡ k.rounds
    total = ap (λ (z : Numbers). z.rounds) (numbers sheet t h.closed.on_sheet)

    phase_next : (b : Bool) → eqb (t.now.session.progress.checked + 1) t.now.session.numbers.rounds ≡ b → (suc n < k.rounds → ◌≡◌ {A = ℕ} (cond b 5 3) 3) × (suc n ≡ k.rounds → ◌≡◌ {A = ℕ} (cond b 5 3) 5)
    phase_next true e =
        let z = eqb-true (t.now.session.progress.checked + 1) t.now.session.numbers.rounds e in
        let at = h.checked in
        (λ g. absurd (omega (arith, total)), λ g. refl)
    phase_next false e =
        let z = eqb-false (t.now.session.progress.checked + 1) t.now.session.numbers.rounds e in
        let at = h.checked in
        let all = total in
        (λ g. refl, λ g. absurd (z (omega arith)))

    check_next : Checking (suc n) (own_extend (checking n) t)
    unfolding accepted_by history_after
    check_next =
        let at = h.checked in
        let p = phase_next (eqb (t.now.session.progress.checked + 1) t.now.session.numbers.rounds) refl in
        subst (Checking (suc n)) (sym (extend_is (checking n) t check_taken)) (record {
          closed = closed_next sheet m ballots (checking n) t h.closed check_taken refl refl refl;
          checked = omega arith;
          going = p.0;
          done = p.1;
          drawn = h.drawn;
          claimed = h.claimed;
          firsts = h.firsts;
        })

  all_checked : Checking k.rounds (own_trace (list k.rounds checking) with_seed_trace)
  all_checked =
      up_to (λ n. Checking n (own_trace (list n checking) with_seed_trace)) k.rounds (subst (Checking 0) (sym (trace_none checking with_seed_trace)) drawn_now)
      (λ n l h. subst (Checking (suc n)) (sym (trace_next n checking with_seed_trace)) (check_next n (own_trace (list n checking) with_seed_trace) l h)) k.rounds (omega arith)

  -- ---- all of it

  whole : own_trace (election sheet m ballot material claims seed e early) start ≡ own_trace (list k.rounds checking) with_seed_trace
  unfolding election
  whole =
      trace_append (list e withdrawing) _ start ∙ trace_append (list m admitting) _ warned ∙ trace_cons close _ gathered ∙ trace_cons (claim claims) _ shut ∙ trace_append (list k.rounds committing) _ with_claims_trace
      ∙ trace_cons (draw seed) _ with_messages

  pub ends_accepted : (own_trace (election sheet m ballot material claims seed e early) start).now.session.progress.phase ≡ 5
  ends_accepted = ap (λ (t : OwnTrace). t.now.session.progress.phase) whole ∙ all_checked.done refl
