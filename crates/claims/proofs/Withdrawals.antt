-- The claims of specs/Withdrawals.antt over the exported calls, from those over the steps of a session. Assumes nothing.
use mathlib.Core.Path.{◌≡◌, refl, sym, ap, subst, ◌∙◌}
use mathlib.Core.Logic.{◌↔◌, ◌≢◌, ⊎_elim, inl, inr}
use mathlib.Core.Bool.{Bool, true, false, cond}
use mathlib.Core.List.{[], ◌∷◌, ◌++◌, Memᴰ}
use Prim.Native.Nat.{ℕ, ◌%◌}
use native.Mathlib.Omega.{arith}
use lib.Dec.{eqb}
use lib.ListN.{length}
use Rattle.codec.specs.Bytes.{Bytes, Octets}
use Rattle.codec.specs.Reply.{packed, Reply, Taken, Refused}
use Rattle.register.specs.Register.{mark_of}
use Rattle.session.specs.declared.Session.{Session}
use Rattle.session.specs.Machine.{Step, clear, admit, withdraw, close, State, state, reply, after}
use Rattle.session_image.specs.Image.{image_length, decode}
use Rattle.session_image.specs.Images.{Host, host_reply, host_after}
use Rattle.session_histories.specs.Internal.{run, own_initial}
use Rattle.session_histories.specs.Conditions.{Presents}
use Rattle.session_histories.specs.Claims.{ClosedWithout}
use Rattle.session_histories.proofs.Stepped as steps
use Rattle.session_histories.proofs.Withdrawn as steps_withdrawn
use Rattle.session_histories.proofs.Roll.{off_the_roll}
use Rattle.claims.specs.HostSteps.{step_calls, host_roll}
use Rattle.claims.specs.Withdrawals.{OneEntryMore, WithdrawExactly, WithdrawalLeaves, AdmitExactly, CloseExactly, Never34, WithdrawnSince, at_withdrawal, at_the_end, WithdrawalClaims}
use Rattle.claims.proofs.HostSteps.{bytes_hold, Keeps, over_step, over_run, roll_over, uncleared}
use Rattle.claims.proofs.HostClaims as hosts
use Rattle.claims.proofs.Images.{lent_exactly, lent_1, not_1, over_answer}
use Rattle.claims.proofs.Replies.{step_not_34, host_told}
use Rattle.claims.proofs.SessionWithdrawals.{session_withdraw_exactly, session_admit_exactly, session_close_exactly, session_leaves, NotStanding, not_standing_in, late_kept}

without_unit : {A B : Type 0} → ◌↔◌ {0, 0} A (Unit × B) → A ↔ B
without_unit i = (λ a. (i.0 a).1, λ b. i.1 (tt, b))

-- ---- one exported call

module _ (h : Host) where
  abbrev asked : Step → Session → Reply
  asked x z = reply x (state z h.register)

  other_than_1 : (n : ℕ) → n ≢ 1 → Refused n 0 ≢ Refused 1 0
  other_than_1 n d e = d (cc)

  call_withdraw_exactly : (mark : ℕ) → WithdrawExactly step_calls h mark
  unfolding host_reply
  call_withdraw_exactly mark =
      let e = session_withdraw_exactly (state (decode h.image) h.register) mark in
      let l = lent_1 h.image (asked (withdraw mark)) in
      record {
        taken = over_answer h.image (asked (withdraw mark)) Taken not_1 (without_unit e.taken);
        undue = over_answer h.image (asked (withdraw mark)) (Refused 31 0) (other_than_1 31 (λ z. omega arith)) (without_unit e.undue);
        unsized = (
          λ t. ⊎_elim inl (λ r. inr (r.0, ⊎_elim (λ n. absurd (n tt)) (λ u. u.1) (e.unsized.0 r.1))) (l.0 t),
          λ d. l.1 (⊎_elim inl (λ r. inr (r.0, e.unsized.1 (inr (tt, r.1)))) d),
        );
        already = over_answer h.image (asked (withdraw mark)) (Refused 33 0) (other_than_1 33 (λ z. omega arith)) (without_unit e.already);
        full = over_answer h.image (asked (withdraw mark)) (Refused 35 0) (other_than_1 35 (λ z. omega arith)) (without_unit e.full);
      }

  call_admit_exactly : (ballot : Bytes) → AdmitExactly step_calls h ballot
  unfolding host_reply
  call_admit_exactly ballot =
      let e = session_admit_exactly (state (decode h.image) h.register) ballot in
      record {
        standing = over_answer h.image (asked (admit ballot)) (Refused 32 0) (other_than_1 32 (λ z. omega arith)) (without_unit e.standing);
        withdrawn = over_answer h.image (asked (admit ballot)) (Refused 33 0) (other_than_1 33 (λ z. omega arith)) (without_unit e.withdrawn);
        full = over_answer h.image (asked (admit ballot)) (Refused 35 0) (other_than_1 35 (λ z. omega arith)) (without_unit e.full);
      }

  call_close_exactly : CloseExactly step_calls h
  unfolding host_reply
  call_close_exactly =
      over_answer h.image (asked close) (Refused 36 0) (other_than_1 36 (λ z. omega arith)) (without_unit (session_close_exactly (state (decode h.image) h.register)))

  call_leaves : (mark : ℕ) → Octets h.image → host_reply (withdraw mark) h ≡ Taken → WithdrawalLeaves step_calls h mark
  call_leaves mark octets e =
      let st = state (decode h.image) h.register in
      let sized = ((lent_exactly h.image (asked (withdraw mark)) Taken not_1).0 (unfold host_reply in e)).0 in
      let o = over_step (withdraw mark) h st (record { image = bytes_hold h.image sized octets; register = refl }) in
      let l = session_leaves st mark (sym o.0 ∙ e) in
      record {
        stood = λ f. (o.1.image.session ∙ (l.stood f).0, o.1.register ∙ (l.stood f).1);
        early = λ unknown. (subst (OneEntryMore (decode h.image)) (sym o.1.image.session) (l.early unknown).0, o.1.register ∙ (l.early unknown).1);
      }

-- ---- lists of exported calls

module _ (mark : ℕ) (w : WithdrawnSince step_calls mark) where
  abbrev from : State
  from = hosts.st w.start w.beginning w.clear_taken

  abbrev kept_found : State
  kept_found = run w.before (after (clear w.beginning) from)

  abbrev kept_last : State
  kept_last = run w.since (after (withdraw mark) kept_found)

  abbrev found : Host
  found = at_withdrawal step_calls w

  abbrev last : Host
  last = at_the_end step_calls w

  found_keeps : Keeps found kept_found
  found_keeps = over_run w.before (host_after (clear w.beginning) w.start) (after (clear w.beginning) from) (hosts.newly w.start w.beginning w.clear_taken)

  stepped : (host_reply (withdraw mark) found ≡ reply (withdraw mark) kept_found) × Keeps (host_after (withdraw mark) found) (after (withdraw mark) kept_found)
  stepped = over_step (withdraw mark) found kept_found found_keeps

  last_keeps : Keeps last kept_last
  last_keeps = over_run w.since (host_after (withdraw mark) found) (after (withdraw mark) kept_found) stepped.1

  begins : reply (clear w.beginning) from ≡ Taken
  begins = hosts.taken w.start w.beginning w.clear_taken

  withdrawn_there : reply (withdraw mark) kept_found ≡ Taken
  withdrawn_there = sym stepped.0 ∙ w.taken

  uncleared_there : steps.Uncleared w.since (after (withdraw mark) kept_found)
  uncleared_there = uncleared w.since (host_after (withdraw mark) found) (after (withdraw mark) kept_found) stepped.1 w.uncleared

  host_stays_out : host_reply close last ≡ Taken → ClosedWithout mark (decode last.image).progress.used last.register (decode (host_after close last).image)
  host_stays_out d =
      let c = over_step close last kept_last last_keeps in
      rw (c.1.image.session, last_keeps.image.session, last_keeps.register)
      (steps_withdrawn.withdrawn_stays_out from w.beginning w.before w.since mark w.mark_size begins withdrawn_there uncleared_there (sym c.0 ∙ d))

  host_off : (ballot : Bytes) → Memᴰ ballot (host_roll (w.before ++ (withdraw mark ∷ w.since)) (host_after (clear w.beginning) w.start) []) → mark_of ballot ≢ mark
  unfolding own_initial
  host_off ballot m =
      off_the_roll from w.beginning w.before w.since mark w.mark_size begins withdrawn_there uncleared_there ballot
      (subst (Memᴰ ballot) (roll_over (w.before ++ (withdraw mark ∷ w.since)) (host_after (clear w.beginning) w.start) (own_initial w.beginning)
      (hosts.keeps_initial w.start w.beginning w.clear_taken)) m)

  host_late : (ballot : Bytes) → mark_of ballot ≡ mark → Presents (decode last.image) last.register ballot
      → (host_reply (admit ballot) last ≡ Refused 33 0) × (decode (host_after (admit ballot) last).image ≡ decode last.image) × ((host_after (admit ballot) last).register ≡ last.register)
  host_late ballot m p =
      let o = over_step (admit ballot) last kept_last last_keeps in
      let e = steps_withdrawn.late_refused from w.beginning w.before w.since mark w.mark_size begins withdrawn_there uncleared_there ballot m
      (rw (last_keeps.image.session, last_keeps.register) at p) in
      let k = late_kept ballot kept_last e in (
        o.0 ∙ e,
        o.1.image.session ∙ ap (λ (st : State). st.session) k ∙ sym last_keeps.image.session,
        o.1.register ∙ ap (λ (st : State). st.register) k ∙ sym last_keeps.register,
      )

  host_early : NotStanding mark (decode found.image) found.register (decode last.image) last.register
  host_early =
      not_standing_in mark found_keeps.image.session found_keeps.register last_keeps.image.session last_keeps.register
      (steps_withdrawn.early_down from w.beginning w.before w.since mark w.mark_size begins withdrawn_there uncleared_there)

host_not_34 : Never34 step_calls
unfolding host_reply
host_not_34 x h place = go (eqb (length h.image) image_length)
  where
    go : (b : Bool) → cond b (reply x (state (decode h.image) h.register)) (Refused 1 0) ≢ Refused 34 place
    go true e = step_not_34 x (state (decode h.image) h.register) place e
    go false e = absurd (let z : ◌≡◌ {A = ℕ} 1 34 = cc in omega arith)

pub over_calls : WithdrawalClaims step_calls
over_calls = record {
  never_34 = host_not_34;
  withdraw_exactly = call_withdraw_exactly;
  withdrawal_leaves = call_leaves;
  admit_exactly = call_admit_exactly;
  close_exactly = call_close_exactly;
  stays_out = host_stays_out;
  off_the_roll = host_off;
  late_refused = λ ballot w. host_late (mark_of ballot) w ballot refl;
  early_never_stands = host_early;
}

-- the number that C is told is that of the reply
pub never_told_34 : (x : Step) (h : Host) → packed (host_reply x h) % 256 ≢ 34
never_told_34 x h = go (host_reply x h) refl
  where
    go : (r : Reply) → host_reply x h ≡ r → packed (host_reply x h) % 256 ≢ 34
    go Taken e t = absurd (let z = (host_told x h).taken.1 e in omega arith)
    go (Refused number place) e t =
        let n = ((host_told x h).refused number place e).0 in
        let same : number ≡ 34 = sym n ∙ t in
        host_not_34 x h place (e ∙ ap (λ (k : ℕ). Refused k place) same)
