-- The claims of specs/Withdrawals.antt over the steps of a session, from session_histories, proofs/Withdrawn.antt and proofs/Refusals.antt. Assumes nothing.
use mathlib.Core.Path.{◌≡◌, refl, sym, ap, subst, ◌∙◌}
use mathlib.Core.Logic.{◌↔◌, ◌≢◌, ⊎_elim, inr}
use mathlib.Core.List.{List, [], ◌∷◌, ◌++◌, Memᴰ}
use Prim.Native.Nat.{ℕ}
use Rattle.codec.specs.Bytes.{Bytes}
use Rattle.codec.specs.Reply.{leaves, Taken, Refused}
use Rattle.register.specs.Register.{standing, mark_of, appended, withdrawn, withdrawn_early}
use Rattle.session.specs.declared.Session.{Session}
use Rattle.session.specs.Steps.{entered_by}
use Rattle.session.specs.Machine.{Step, clear, admit, withdraw, close, State, reply, after}
use Rattle.session_histories.specs.Runs.{roll_after}
use Rattle.session_histories.specs.Internal.{run, OwnTrace, own_initial, own_extend, own_trace}
use Rattle.session_histories.specs.Conditions.{NoEntry, Presents}
use Rattle.session_histories.specs.Claims.{ClosedWithout}
use Rattle.session_histories.proofs.Stepped as steps
use Rattle.session_histories.proofs.Stepped.{none, more, after_taken}
use Rattle.session_histories.proofs.ExactGathering.{withdrawn_exactly, next_standing, next_early}
use Rattle.session_histories.proofs.Refusals.{withdraw_31, withdraw_1, withdraw_33, withdraw_35, admit_32, admit_33, admit_35, close_36}
use Rattle.session_histories.proofs.Withdrawn as steps_withdrawn
use Rattle.session_histories.proofs.Reach.{clear_taken}
use Rattle.session_histories.proofs.Roll.{off_the_roll}
use Rattle.claims.specs.HostSteps.{session_steps, after_all, NoClearTaken, roll_of}
use Rattle.claims.specs.Withdrawals.{OneEntryMore, WithdrawExactly, WithdrawalLeaves, AdmitExactly, CloseExactly, WithdrawnSince, at_withdrawal, at_the_end, WithdrawalClaims}
use Rattle.claims.proofs.Replies.{step_not_34}

-- ---- one step of a session

with_unit : {A B : Type 0} → A ↔ B → ◌↔◌ {0, 0} A (Unit × B)
with_unit i = (λ a. (tt, i.0 a), λ h. i.1 h.1)

module _ (st : State) where
  abbrev s : Session
  s = st.session

  abbrev reg : Bytes
  reg = st.register

  pub session_withdraw_exactly : (mark : ℕ) → WithdrawExactly session_steps st mark
  unfolding reply
  session_withdraw_exactly mark = record {
    taken = with_unit (withdrawn_exactly s reg mark);
    undue = with_unit (withdraw_31 s reg mark);
    unsized = (λ e. inr (tt, (withdraw_1 s reg mark).0 e), ⊎_elim (λ n. absurd (n tt)) (λ h. (withdraw_1 s reg mark).1 h.1));
    already = with_unit (withdraw_33 s reg mark);
    full = with_unit (withdraw_35 s reg mark);
  }

  pub session_admit_exactly : (ballot : Bytes) → AdmitExactly session_steps st ballot
  unfolding reply
  session_admit_exactly ballot = record { standing = with_unit (admit_32 s reg ballot); withdrawn = with_unit (admit_33 s reg ballot); full = with_unit (admit_35 s reg ballot) }

  pub session_close_exactly : CloseExactly session_steps st
  unfolding reply
  session_close_exactly = with_unit (close_36 s reg)

  pub session_leaves : (mark : ℕ) → reply (withdraw mark) st ≡ Taken → WithdrawalLeaves session_steps st mark
  unfolding withdrawn withdrawn_early appended entered_by
  session_leaves mark e = record {
    stood = λ f.
        let l = after_taken st (withdraw mark) e ∙ next_standing s reg mark f in
        (ap (λ (z : State). z.session) l, ap (λ (z : State). z.register) l);
    early = λ unknown.
        let l = after_taken st (withdraw mark) e ∙ next_early s reg mark unknown in (
          subst (OneEntryMore s) (sym (ap (λ (z : State). z.session) l))
              (record { used = refl; phase = refl; counts = (refl, refl, refl); sheet = (refl, refl); digests = (refl, refl, refl); seed = refl }),
          ap (λ (z : State). z.register) l,
        );
  }

-- ---- lists of steps of a session

after_run : (xs : List Step) (st : State) → after_all session_steps xs st ≡ run xs st
unfolding after_all run
after_run [] st = refl
after_run (x ∷ xs) st = after_run xs (after x st)

uncleared_run : (xs : List Step) (st : State) → NoClearTaken session_steps xs st → steps.Uncleared xs st
unfolding NoClearTaken
uncleared_run [] st u = none
uncleared_run (x ∷ xs) st u = more u.0 (uncleared_run xs (after x st) u.1)

-- the roll of a session's steps, from a clear that is taken
own_roll : (xs : List Step) (st : State) (t : OwnTrace) → st ≡ t.now → roll_of session_steps xs st t.roll ≡ (own_trace xs t).roll
unfolding roll_of own_trace own_extend
own_roll [] st t e = refl
own_roll (x ∷ xs) st t e =
    ap (λ (z : State). roll_of session_steps xs (after x z) (leaves (reply x z) (roll_after x t.roll) t.roll)) e ∙ own_roll xs (after x t.now) (own_extend x t) refl

-- the entry of a mark that had none where s was, with this register, does not stand where t is
abbrev pub NotStanding : (mark : ℕ) → Session → Bytes → Session → Bytes → Type 0
NotStanding mark s reg t reg' = NoEntry reg mark s.progress.used → Memᴰ s.progress.used (standing reg' t.progress.used) → ⊥

pub not_standing_in : (mark : ℕ) {s s' t t' : Session} {a a' b b' : Bytes} → s ≡ s' → a ≡ a' → t ≡ t' → b ≡ b' → NotStanding mark s' a' t' b' → NotStanding mark s a t b
not_standing_in mark es ea et eb h = rw (es, ea, et, eb) h

-- a late ballot is refused, and changes nothing
abbrev Late : Bytes → State → Type 0
Late ballot st = Presents st.session st.register ballot → (reply (admit ballot) st ≡ Refused 33 0) × (after (admit ballot) st ≡ st)

pub late_kept : (ballot : Bytes) (st : State) → reply (admit ballot) st ≡ Refused 33 0 → after (admit ballot) st ≡ st
unfolding after leaves
late_kept ballot st e = rw e

module _ (mark : ℕ) (w : WithdrawnSince session_steps mark) where
  abbrev begun : State
  begun = after (clear w.beginning) w.start

  abbrev there : State
  there = run w.before begun

  abbrev gone : State
  gone = after (withdraw mark) there

  at_found : at_withdrawal session_steps w ≡ there
  at_found = after_run w.before begun

  at_last : at_the_end session_steps w ≡ run w.since gone
  at_last = after_run w.since _ ∙ ap (λ (st : State). run w.since (after (withdraw mark) st)) at_found

  taken : reply (withdraw mark) there ≡ Taken
  taken = subst (λ (st : State). reply (withdraw mark) st ≡ Taken) at_found w.taken

  still : steps.Uncleared w.since gone
  still = subst (λ (st : State). steps.Uncleared w.since (after (withdraw mark) st)) at_found (uncleared_run w.since _ w.uncleared)

  session_stays_out : let last = at_the_end session_steps w in reply close last ≡ Taken → ClosedWithout mark last.session.progress.used last.register (after close last).session
  session_stays_out =
      subst (λ (st : State). reply close st ≡ Taken → ClosedWithout mark st.session.progress.used st.register (after close st).session) (sym at_last)
      (steps_withdrawn.withdrawn_stays_out w.start w.beginning w.before w.since mark w.mark_size w.clear_taken taken still)

  session_off : (ballot : Bytes) → Memᴰ ballot (roll_of session_steps (w.before ++ (withdraw mark ∷ w.since)) begun []) → mark_of ballot ≢ mark
  unfolding own_initial
  session_off ballot m =
      off_the_roll w.start w.beginning w.before w.since mark w.mark_size w.clear_taken taken still ballot
      (subst (Memᴰ ballot) (own_roll (w.before ++ (withdraw mark ∷ w.since)) begun (own_initial w.beginning) (clear_taken w.start w.beginning w.clear_taken).1) m)

  session_late : (ballot : Bytes) → mark_of ballot ≡ mark → Late ballot (at_the_end session_steps w)
  session_late ballot m =
      subst (Late ballot) (sym at_last) (λ p.
      let e = steps_withdrawn.late_refused w.start w.beginning w.before w.since mark w.mark_size w.clear_taken taken still ballot m p in
      (e, late_kept ballot _ e))

  session_early : let found = at_withdrawal session_steps w in let last = at_the_end session_steps w in NotStanding mark found.session found.register last.session last.register
  session_early =
      not_standing_in mark (ap (λ (st : State). st.session) at_found) (ap (λ (st : State). st.register) at_found) (ap (λ (st : State). st.session) at_last) (ap (λ (st : State). st.register) at_last)
      (steps_withdrawn.early_down w.start w.beginning w.before w.since mark w.mark_size w.clear_taken taken still)

pub over_sessions : WithdrawalClaims session_steps
over_sessions = record {
  never_34 = step_not_34;
  withdraw_exactly = session_withdraw_exactly;
  withdrawal_leaves = λ st mark _. session_leaves st mark;
  admit_exactly = session_admit_exactly;
  close_exactly = session_close_exactly;
  stays_out = session_stays_out;
  off_the_roll = session_off;
  late_refused = λ ballot w p.
      let l = session_late (mark_of ballot) w ballot refl p in
      (l.0, ap (λ (st : State). st.session) l.1, ap (λ (st : State). st.register) l.1);
  early_never_stands = session_early;
}
