-- Sessions reached from a clear taken are valid, so that 31 is met only for wrong phase or round. Assumes nothing.
use mathlib.Core.Path.{◌≡◌}
use mathlib.Core.Bool.{Bool, true, false, not, ◌&&◌}
use mathlib.Core.List.{List, ◌∷◌, ◌++◌}
use Prim.Native.Nat.{ℕ}
use native.Mathlib.Omega.{arith}
use borrow.Author.Tests.{eqb-false, not-true}
use Rattle.codec.specs.Bytes.{Bytes}
use Rattle.codec.specs.Reply.{Test, test, first, Taken, Refused}
use Rattle.codec.proofs.Replies.{taken_exactly}
use Rattle.sheet.specs.Reader.{sheet_of}
use Rattle.sheet.specs.Sheet.{order}
use Rattle.commitment.specs.Parameters.{parameters_of}
use Rattle.round_lengths.proofs.Zeroized.{later_round}
use Rattle.session_check.specs.Check.{inputs_sized, stored_tests, early_tests, late_tests}
use Rattle.session.specs.declared.Session.{Session}
use Rattle.session.specs.Session.{valid}
use Rattle.session.specs.Steps.{Beginning, due_test, stored_for, clear_tests, admit_tests, withdraw_tests, close_tests, claim_tests, commit_tests, draw_tests, check_early, check_late, check_tests}
use Rattle.session.specs.Machine.{Step, clear, admit, withdraw, close, claim, commit, draw, check, State, state, reply, after}
use Rattle.session_histories.specs.Runs.{Call}
use Rattle.session_histories.specs.Internal.{Begins, own_initial, initial_trace, trace}
use Rattle.session_histories.specs.Conditions.{ValidSession}
use Rattle.session_histories.specs.Claims.{Undue}
use Rattle.session_histories.proofs.Replies.{Others, others, others_append, later_others, head_holds}
use Rattle.session_histories.proofs.Valid.{off_both, off_turn, valid_holds, sheet_exactly}
use Rattle.session_histories.proofs.Stepped.{after_taken}
use Rattle.session_histories.proofs.Exact.{cleared_exactly}
use Rattle.session_histories.proofs.Kept.{kept}
use Rattle.session_histories.proofs.Ended.{undue_refused}
use Rattle.session_check.specs.Stored.{Inputs, drawn_round}

pub reachable_valid : (b : Beginning) (cs : List Call) → Begins b
    → let l = trace cs (initial_trace b) in
    ValidSession l.session × (l.session.numbers ≡ (sheet_of l.history.sheet).numbers)
reachable_valid b cs e = let k = kept b cs e in (k.sound, k.origin.numbers)

-- a clear that is taken leaves what a list of steps starts from
pub clear_taken : (start : State) (b : Beginning) → reply (clear b) start ≡ Taken → Begins b × (after (clear b) start ≡ (own_initial b).now)
unfolding reply own_initial
clear_taken st b e = (
  (taken_exactly (order b.sheet)).1 ((sheet_exactly b.sheet).1 ((cleared_exactly st.register b).0 e).sheet),
  after_taken st (clear b) e,
)

-- where a valid session is not taken for valid and due, it is not due
undue : (v d : Bool) → v ≡ true → not (v && d) ≡ true → d ≡ false
undue true d e h = not-true d h
undue false d e h = absurd (let z : ◌≡◌ {A = ℕ} 0 1 = cc in omega arith)

module _ (s : Session) (reg : Bytes) (place : ℕ) (v : valid s ≡ true) where
  -- the order of a check after 31
  check_others : (round : ℕ) (x : Inputs) → Others 31 (early_tests (stored_for s round) x ++ check_late s round x)
  unfolding early_tests stored_tests check_late late_tests
  check_others round x =
      others_append 31 (order x.sheet ++ (test 1 0 (not (inputs_sized (stored_for s round) x)) ∷ stored_tests (stored_for s round) x)) (check_late s round x)
      (omega arith)
      (later_others (check_late s round x) (later_round (parameters_of x.sheet) s.progress.closed (drawn_round (stored_for s round) x)))

  -- the first test of an order holds, with 31: the step is not due
  not_due : (due : Bool) (ts : List Test) → Others 31 ts → first (due_test s due ∷ ts) ≡ Refused 31 place → due ≡ false
  not_due due ts o e = undue (valid s) due v (head_holds 31 place _ ts o e)

  only_31 : (x : Step) → reply x (state s reg) ≡ Refused 31 place → Undue x s
  unfolding reply Undue clear_tests admit_tests withdraw_tests close_tests claim_tests commit_tests draw_tests check_early check_tests
  only_31 (clear b) e = absurd (others 31 place (clear_tests reg b) (omega arith) e)
  only_31 (admit ballot) e = eqb-false _ _ (not_due _ _ (omega arith) e)
  only_31 (withdraw mark) e = eqb-false _ _ (not_due _ _ (omega arith) e)
  only_31 close e = eqb-false _ _ (not_due _ _ (omega arith) e)
  only_31 (claim claims) e = eqb-false _ _ (not_due _ _ (omega arith) e)
  only_31 (commit k head shares0 shares1) e = off_turn _ _ _ _ _ (not_due _ _ (omega arith) e)
  only_31 (draw seed) e = off_both _ _ _ _ (not_due _ _ (omega arith) e)
  only_31 (check k x) e = off_turn _ _ _ _ _ (not_due _ (early_tests (stored_for s k) x ++ check_late s k x) (check_others k x) e)

-- so 31 is met for wrong phase or round, and for nothing else
pub only_phase_or_round : (b : Beginning) (cs : List Call) → Begins b
    → (x : Step) (register : Bytes) (place : ℕ)
    → let s = (trace cs (initial_trace b)).session in
    (reply x (state s register) ≡ Refused 31 place → Undue x s) × (Undue x s → reply x (state s register) ≡ Refused 31 0)
only_phase_or_round b cs e x reg place =
    let s = (trace cs (initial_trace b)).session in
    (only_31 s reg place (valid_holds s (reachable_valid b cs e).0) x, undue_refused s reg x)
