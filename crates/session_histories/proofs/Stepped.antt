-- What holds after a step, from what holds of a step taken and of what was there before. Assumes nothing.
use mathlib.Core.Path.{◌≡◌, refl}
use mathlib.Core.Bool.{false}
use mathlib.Core.List.{List, [], ◌∷◌}
use Prim.Native.Nat.{ℕ, ◌<◌}
use native.Mathlib.Omega.{arith}
use Rattle.codec.specs.Reply.{first, leaves, Reply, Taken, Refused}
use Rattle.codec.proofs.Replies.{taken_exactly}
use Rattle.round.proofs.Many.{append_none}
use Rattle.session_check.specs.Stored.{Inputs}
use Rattle.session.specs.declared.Session.{Session}
use Rattle.session.specs.Steps.{check_early, check_late, check_tests, refused_by}
use Rattle.session.specs.Machine.{Step, clear, admit, withdraw, close, claim, commit, draw, check, State, state, next, still, reply, after}
use Rattle.session_histories.specs.Runs.{clears}
use Rattle.session_histories.proofs.Replies.{left}
use Rattle.session_histories.proofs.Valid.{ready, on_turn}

-- ---- a check

module _ (s : Session) (round : ℕ) (x : Inputs) where
  -- one that is not stopped early finds its round due
  turn : first (check_early s round x) ≡ Taken → (s.progress.phase ≡ 3) × (round ≡ s.progress.checked) × (round < s.numbers.rounds)
  unfolding check_early
  turn e = on_turn s.progress.phase 3 round s.progress.checked s.numbers.rounds (ready s _ ((taken_exactly _).0 e).0).1

  pub drawn_now : first (check_early s round x) ≡ Taken → (s.progress.phase ≡ 3) × (s.progress.checked < s.numbers.rounds)
  drawn_now e = let t = turn e in (t.0, omega (arith, t.1, t.2))

  -- and one that is taken was not stopped early
  pub early_taken : first (check_tests s round x) ≡ Taken → first (check_early s round x) ≡ Taken
  unfolding check_tests
  early_taken e = (taken_exactly _).1 (append_none (check_early s round x) (check_late s round x) ((taken_exactly _).0 e)).0

  pub taken_turn : first (check_tests s round x) ≡ Taken → (s.progress.phase ≡ 3) × (round ≡ s.progress.checked) × (round < s.numbers.rounds)
  taken_turn e = turn (early_taken e)

-- ---- any step

-- a step that is refused clears nothing
pub clears_refused : (x : Step) (r : Reply) (number place : ℕ) → r ≡ Refused number place → clears x r ≡ false
clears_refused (clear b) r number place e = rw e
clears_refused (admit ballot) r number place e = refl
clears_refused (withdraw mark) r number place e = refl
clears_refused close r number place e = refl
clears_refused (claim claims) r number place e = refl
clears_refused (commit k head shares0 shares1) r number place e = refl
clears_refused (draw seed) r number place e = refl
clears_refused (check k x) r number place e = refl

-- no clear is taken
pub data Uncleared : List Step → State → Type 0 where
  none : {st : State} → Uncleared [] st
  more : {x : Step} {xs : List Step} {st : State} → clears x (reply x st) ≡ false → Uncleared xs (after x st) → Uncleared (x ∷ xs) st

module _ (st : State) where
  -- what a refused step leaves: what was there, or of a check whose round was due a session that is ended
  refused : (P : State → Type 0) (x : Step) → P st → (st.session.progress.phase ≡ 3 → st.session.progress.checked < st.session.numbers.rounds → P (state (refused_by st.session) st.register)) → P (still x st)
  refused P (clear b) h ends = h
  refused P (admit ballot) h ends = h
  refused P (withdraw mark) h ends = h
  refused P close h ends = h
  refused P (claim claims) h ends = h
  refused P (commit k head shares0 shares1) h ends = h
  refused P (draw seed) h ends = h
  refused P (check k x) h ends = left P (first (check_early st.session k x)) (λ e. let d = drawn_now st.session k x e in ends d.0 d.1) h

  -- of the state and two things that a step taken changes with it
  pub stepped_all : {A B : Type 0} (P : State → A → B → Type 0) (x : Step) {a a' : A} {b b' : B} → (reply x st ≡ Taken → P (next x st) a b)
      → ((number place : ℕ) → reply x st ≡ Refused number place → P st a' b')
      → ((number place : ℕ) → reply x st ≡ Refused number place → st.session.progress.phase ≡ 3 → st.session.progress.checked < st.session.numbers.rounds → P (state (refused_by st.session) st.register) a' b')
      → P (after x st) (leaves (reply x st) a a') (leaves (reply x st) b b')
  unfolding after leaves
  stepped_all P x {a} {a'} {b} {b'} takes keeps ends = go (reply x st) refl
    where
      go : (r : Reply) → reply x st ≡ r → P (leaves r (next x st) (still x st)) (leaves r a a') (leaves r b b')
      go Taken e = takes e
      go (Refused number place) e = refused (λ (z : State). P z a' b') x (keeps number place e) (ends number place e)

  pub stepped_with : {A : Type 0} (P : State → A → Type 0) (x : Step) {a a' : A} → (reply x st ≡ Taken → P (next x st) a) → ((number place : ℕ) → reply x st ≡ Refused number place → P st a')
      → ((number place : ℕ) → reply x st ≡ Refused number place → st.session.progress.phase ≡ 3 → st.session.progress.checked < st.session.numbers.rounds → P (state (refused_by st.session) st.register) a')
      → P (after x st) (leaves (reply x st) a a')
  stepped_with P x = stepped_all (λ (z : State) a (u : ℕ). P z a) x {b = 0} {b' = 0}

  pub stepped : (P : State → Type 0) (x : Step) → (reply x st ≡ Taken → P (next x st)) → ((number place : ℕ) → reply x st ≡ Refused number place → P st)
      → ((number place : ℕ) → reply x st ≡ Refused number place → st.session.progress.phase ≡ 3 → st.session.progress.checked < st.session.numbers.rounds → P (state (refused_by st.session) st.register))
      → P (after x st)
  stepped P x = stepped_all (λ (z : State) (t u : ℕ). P z) x {a = 0} {a' = 0} {b = 0} {b' = 0}

  -- a step that is taken
  pub after_taken : (x : Step) → reply x st ≡ Taken → after x st ≡ next x st
  unfolding after leaves
  after_taken x e = rw e
