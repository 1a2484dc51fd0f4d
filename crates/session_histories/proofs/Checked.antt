-- A check is taken exactly if its conditions hold, in every round, and so is every step. Assumes nothing.
use mathlib.Core.Path.{◌≡◌, refl}
use mathlib.Core.Logic.{◌↔◌}
use Prim.Native.Nat.{ℕ}
use native.Mathlib.Omega.{arith}
use Rattle.codec.specs.Bytes.{Octets}
use Rattle.codec.specs.Reply.{None, first, Taken}
use Rattle.codec.proofs.Replies.{taken_exactly}
use Rattle.round.specs.Accepted.{Accepted}
use Rattle.round.proofs.Many.{none_append, append_none}
use Rattle.round.proofs.Accepted.{none_exactly}
use Rattle.commitment.specs.Parameters.{parameters_of}
use Rattle.session_check.specs.Check.{late_tests}
use Rattle.session_check.proofs.Laws.{early_exactly}
use Rattle.session.specs.declared.Session.{Session}
use Rattle.session.specs.Steps.{stored_for, check_early, check_late, check_tests}
use Rattle.session.specs.Machine.{Step, clear, admit, withdraw, close, claim, commit, draw, check, State, reply}
use Rattle.session_histories.specs.Conditions.{Reaches, Checks, HeadIsBytes, Takes}
use Rattle.session_histories.proofs.ExactGathering.{admitted_exactly, withdrawn_exactly, closed_exactly}
use Rattle.session_histories.proofs.Exact.{cleared_exactly, claimed_exactly, committed_exactly, drawn_exactly}
use Rattle.session_histories.proofs.Valid.{ready, is_ready, on_turn, is_turn, sheet_exactly}
use Rattle.session_check.specs.Stored.{Inputs, drawn_round}

module _ (s : Session) (round : ℕ) (x : Inputs) where
  -- ---- before the round is looked at

  pub reaches_exactly : None (check_early s round x) ↔ Reaches s round x
  unfolding check_early
  reaches_exactly = (
    λ n.
        let r = ready s _ n.0 in
        let t = on_turn s.progress.phase 3 round s.progress.checked s.numbers.rounds r.1 in
        let h = (early_exactly (stored_for s round) x).0 n.1 in
        record { sound = r.0; phase = t.0; due = t.1; within = t.2; sheet = (sheet_exactly x.sheet).0 h.0; lengths = h.1; matches = h.2 },
    λ r. (is_ready s r.sound (is_turn r.phase r.due r.within), (early_exactly (stored_for s round) x).1 ((sheet_exactly x.sheet).1 r.sheet, r.lengths, r.matches)),
  )

  -- the parameters of a sheet in range are those that the round's theorem asks for
  module _ (octets : Octets x.head) where
    late_exactly : Reaches s round x → None (check_late s round x) ↔ Accepted (parameters_of x.sheet) s.progress.closed (drawn_round (stored_for s round) x)
    unfolding check_late late_tests
    late_exactly reaches =
        let r = reaches.sheet.inside in
        none_exactly (parameters_of x.sheet) s.progress.closed (omega (arith, r.modulus_low)) (omega (arith, r.modulus_high)) (drawn_round (stored_for s round) x)
        (rw reaches.matches.numbers reaches.lengths.head) octets

    checks_exactly : None (check_tests s round x) ↔ Checks s round x
    unfolding check_tests
    checks_exactly = (
      λ n.
          let h = append_none (check_early s round x) (check_late s round x) n in
          let reaches = reaches_exactly.0 h.0 in
          record { reaches = reaches; accepted = (late_exactly reaches).0 h.1 },
      λ c. none_append (check_early s round x) (check_late s round x) (reaches_exactly.1 c.reaches) ((late_exactly c.reaches).1 c.accepted),
    )

pub accepted_exactly : (s : Session) (round : ℕ) (x : Inputs) → Octets x.head → (first (check_tests s round x) ≡ Taken) ↔ Checks s round x
accepted_exactly s round x octets =
    let t = taken_exactly (check_tests s round x) in
    let c = checks_exactly s round x octets in
    (λ e. c.0 (t.0 e), λ h. t.1 (c.1 h))

pub step_exactly : (x : Step) (st : State) → HeadIsBytes x → (reply x st ≡ Taken) ↔ Takes x st
unfolding reply
step_exactly (clear b) st lent = cleared_exactly st.register b
step_exactly (admit ballot) st lent = admitted_exactly st.session st.register ballot
step_exactly (withdraw mark) st lent = withdrawn_exactly st.session st.register mark
step_exactly close st lent = closed_exactly st.session st.register
step_exactly (claim claims) st lent = claimed_exactly st.session claims
step_exactly (commit k head shares0 shares1) st lent = committed_exactly st.session k head shares0 shares1
step_exactly (draw seed) st lent = drawn_exactly st.session seed
step_exactly (check k x) st lent = accepted_exactly st.session k x (lent k x refl)
