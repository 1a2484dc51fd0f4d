-- A check that is refused for its round ends the session, and in an ended session no step but clear is taken and none changes anything. Assumes nothing.
use mathlib.Core.Path.{◌≡◌, refl}
use mathlib.Core.Logic.{◌≢◌, ◌⊎◌, inl, inr}
use mathlib.Core.Bool.{Bool, true, false, ◌&&◌}
use mathlib.Core.List.{List, ◌∷◌}
use Prim.Native.Nat.{ℕ, ◌≤◌, ◌<◌}
use native.Mathlib.Omega.{arith}
use lib.Dec.{ltb, eqb}
use borrow.Author.Tests.{ne_eqb, le-ltb}
use Rattle.codec.specs.Bytes.{Bytes}
use Rattle.codec.specs.Reply.{Test, first, leaves, Reply, Taken, Refused}
use Rattle.codec.proofs.Replies.{taken_exactly}
use Rattle.session_check.specs.Stored.{Inputs}
use Rattle.session.specs.declared.Session.{Session}
use Rattle.session.specs.Session.{valid}
use Rattle.session.specs.Steps.{due_test, admit_tests, withdraw_tests, close_tests, claim_tests, commit_tests, draw_tests, check_early, check_tests, refused_by}
use Rattle.session.specs.Machine.{Step, clear, admit, withdraw, close, claim, commit, draw, check, State, state, next, still, reply, after}
use Rattle.session_histories.specs.Runs.{clears}
use Rattle.session_histories.specs.Conditions.{Reaches}
use Rattle.session_histories.specs.Claims.{Undue}
use Rattle.session_histories.proofs.Checked.{reaches_exactly}

-- ---- a step that is not taken, and looked at no round, leaves everything

module _ (st : State) where
  kept_still : (y : Step) → ((round : ℕ) (x : Inputs) → y ≡ check round x → Reaches st.session round x → ⊥) → still y st ≡ st
  unfolding leaves
  kept_still (clear b) none = refl
  kept_still (admit ballot) none = refl
  kept_still (withdraw mark) none = refl
  kept_still close none = refl
  kept_still (claim claims) none = refl
  kept_still (commit k head shares0 shares1) none = refl
  kept_still (draw seed) none = refl
  kept_still (check k x) none = go (first (check_early st.session k x)) refl
    where
      go : (r : Reply) → first (check_early st.session k x) ≡ r → leaves r (state (refused_by st.session) st.register) st ≡ st
      go Taken e = absurd (none k x refl ((reaches_exactly st.session k x).0 ((taken_exactly (check_early st.session k x)).0 e)))
      go (Refused number place) e = refl

  pub refused_keeps : (y : Step) → ((round : ℕ) (x : Inputs) → y ≡ check round x → Reaches st.session round x → ⊥) → reply y st ≢ Taken → after y st ≡ st
  unfolding after leaves
  refused_keeps y none h = go (reply y st) h
    where
      go : (r : Reply) → r ≢ Taken → leaves r (next y st) (still y st) ≡ st
      go Taken h = absurd (h refl)
      go (Refused number place) h = kept_still y none

-- ---- a step whose phase or round is not its own is refused 31

and_false : (a : Bool) → (a && false) ≡ false
and_false true = refl
and_false false = refl

not_due : (s : Session) (due : Bool) (ts : List Test) → due ≡ false → first (due_test s due ∷ ts) ≡ Refused 31 0
unfolding first
not_due s due ts e = rw (e, and_false (valid s))

both_off : (a b c d : ℕ) → (a ≢ b) ⊎ (c ≢ d) → (eqb a b && eqb c d) ≡ false
both_off a b c d (inl h) = rw (ne_eqb a b h)
both_off a b c d (inr h) = rw (ne_eqb c d h) (and_false (eqb a b))

turn_off : (phase at r k n : ℕ) → (phase ≢ at) ⊎ (r ≢ k) ⊎ (n ≤ r) → (eqb phase at && (eqb r k && ltb r n)) ≡ false
turn_off phase at r k n (inl h) = rw (ne_eqb phase at h)
turn_off phase at r k n (inr (inl h)) = rw (ne_eqb r k h) (and_false (eqb phase at))
turn_off phase at r k n (inr (inr h)) = rw (le-ltb r n h, and_false (eqb r k)) (and_false (eqb phase at))

module _ (s : Session) (reg : Bytes) where
  pub undue_refused : (y : Step) → Undue y s → reply y (state s reg) ≡ Refused 31 0
  unfolding reply Undue admit_tests withdraw_tests close_tests claim_tests commit_tests draw_tests check_tests check_early
  undue_refused (clear b) u = absurd u
  undue_refused (admit ballot) u = not_due s _ _ (ne_eqb _ _ u)
  undue_refused (withdraw mark) u = not_due s _ _ (ne_eqb _ _ u)
  undue_refused close u = not_due s _ _ (ne_eqb _ _ u)
  undue_refused (claim claims) u = not_due s _ _ (ne_eqb _ _ u)
  undue_refused (commit k head shares0 shares1) u = not_due s _ _ (turn_off _ _ _ _ _ u)
  undue_refused (draw seed) u = not_due s _ _ (both_off _ _ _ _ u)
  undue_refused (check k x) u = not_due s _ _ (turn_off _ _ _ _ _ u)

-- ---- in an ended session every step but clear is such a one

module _ (s : Session) (reg : Bytes) (ended : 3 < s.progress.phase) where
  ended_undue : (y : Step) → clears y Taken ≡ false → Undue y s
  unfolding Undue
  ended_undue (clear b) e = absurd (let z : ◌≡◌ {A = ℕ} 0 1 = cc in omega arith)
  ended_undue (admit ballot) e = λ h. omega arith
  ended_undue (withdraw mark) e = λ h. omega arith
  ended_undue close e = λ h. omega arith
  ended_undue (claim claims) e = λ h. omega arith
  ended_undue (commit k head shares0 shares1) e = inl (λ h. omega arith)
  ended_undue (draw seed) e = inl (λ h. omega arith)
  ended_undue (check k x) e = inl (λ h. omega arith)

  pub ended_refuses : (y : Step) → clears y Taken ≡ false → reply y (state s reg) ≡ Refused 31 0
  ended_refuses y e = undue_refused s reg y (ended_undue y e)

  -- a clear that is refused changes nothing either
  pub refused_stays : (y : Step) → reply y (state s reg) ≢ Taken → after y (state s reg) ≡ state s reg
  refused_stays y h = refused_keeps (state s reg) y (λ round x e r. let was = r.phase in omega arith) h

-- ---- a check that is refused for its round

pub check_ends : (s : Session) (reg : Bytes) (round : ℕ) (x : Inputs) → Reaches s round x → reply (check round x) (state s reg) ≢ Taken → after (check round x) (state s reg) ≡ state (refused_by s) reg
unfolding after leaves
check_ends s reg round x r h = go (reply (check round x) (state s reg)) h
  where
    early : first (check_early s round x) ≡ Taken
    early = (taken_exactly (check_early s round x)).1 ((reaches_exactly s round x).1 r)

    go : (z : Reply) → z ≢ Taken → leaves z (next (check round x) (state s reg)) (still (check round x) (state s reg)) ≡ state (refused_by s) reg
    go Taken h = absurd (h refl)
    go (Refused number place) h = rw early
