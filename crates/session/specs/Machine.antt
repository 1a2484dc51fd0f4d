-- One step of a session (document 01, "Register and session"): what each is lent, what it answers and what it leaves. The methods of `Session`, the calls over an image and
-- lists of steps all cite these. Assumes nothing.
use Rattle.std.specs.Prelude.{List, ℕ}
use Rattle.codec.specs.Bytes.{Bytes, zeros}
use Rattle.codec.specs.Reply.{Test, first, leaves, Reply}
use Rattle.register.specs.Register.{register_length, admitted, after_withdrawal}
use Rattle.session_check.specs.Stored.{Inputs}
use Rattle.session.specs.declared.Session.{Session}
use Rattle.session.specs.Steps.{Beginning, clear_tests, cleared, admit_tests, entered_by, withdraw_tests, withdrawn_by, close_tests, closed_by, claim_tests, claimed_by, commit_tests, committed_by, draw_tests, drawn_by, check_early, check_tests, accepted_by, refused_by}

-- a step, with what it is lent beside session and register
pub data Step : Type 0 where
  clear : Beginning → Step
  admit : (ballot : Bytes) → Step
  withdraw : (mark : ℕ) → Step
  close : Step
  claim : (claims : Bytes) → Step
  commit : (round : ℕ) (head shares0 shares1 : Bytes) → Step
  draw : (seed : Bytes) → Step
  check : (round : ℕ) → Inputs → Step

-- a session, and the register lent with it
pub record State : Type 0 where
  pub session : Session
  pub register : Bytes

abbrev pub state : Session → Bytes → State
state s reg = record { session = s; register = reg }

-- the tests of each step, in its order
abbrev pub tests : Step → State → List Test
tests (clear b) st = clear_tests st.register b
tests (admit ballot) st = admit_tests st.session st.register ballot
tests (withdraw mark) st = withdraw_tests st.session st.register mark
tests close st = close_tests st.session st.register
tests (claim claims) st = claim_tests st.session claims
tests (commit k head shares0 shares1) st = commit_tests st.session k head shares0 shares1
tests (draw seed) st = draw_tests st.session seed
tests (check k x) st = check_tests st.session k x

-- what a step that is taken leaves
abbrev pub next : Step → State → State
next (clear b) st = state (cleared b) (zeros register_length)
next (admit ballot) st = state (entered_by st.session) (admitted st.register st.session.progress.used ballot)
next (withdraw mark) st = state (withdrawn_by st.session st.register mark) (after_withdrawal st.register st.session.progress.used mark)
next close st = state (closed_by st.session st.register) st.register
next (claim claims) st = state (claimed_by st.session claims) st.register
next (commit k head shares0 shares1) st = state (committed_by st.session k head shares0 shares1) st.register
next (draw seed) st = state (drawn_by st.session seed) st.register
next (check k x) st = state (accepted_by st.session) st.register

-- what a step that is refused leaves: everything, but for a check that is refused for its round, which ends the session refused
abbrev pub still : Step → State → State
still (clear b) st = st
still (admit ballot) st = st
still (withdraw mark) st = st
still close st = st
still (claim claims) st = st
still (commit k head shares0 shares1) st = st
still (draw seed) st = st
still (check k x) st = leaves (first (check_early st.session k x)) (state (refused_by st.session) st.register) st

unfoldable pub reply : Step → State → Reply
reply x st = first (tests x st)

unfoldable pub after : Step → State → State
after x st = leaves (reply x st) (next x st) (still x st)
