-- When each step of a session is taken (document 01, the orders under "Refused because of the state"; document 02, L1), in conditions to hold against the
-- paper and not as its order again; the numbers beside them are those of the refusals that they exclude. Assumes nothing.
use Rattle.std.specs.Prelude.{◌≡◌, ◌≢◌, ◌⊎◌, ℕ, ◌+◌, ◌*◌, ◌≤◌, ◌<◌, length, drop}
use Rattle.codec.specs.Bytes.{Bytes, Octets}
use Rattle.sheet_lines.specs.Form.{AllPlain}
use Rattle.sheet.specs.Form.{rows_of, written}
use Rattle.sheet.specs.Reader.{sheet_of}
use Rattle.sheet_numbers.specs.Plain.{plain}
use Rattle.vector.specs.Vector.{vector}
use Rattle.round.specs.Layout.{head_length}
use Rattle.round.specs.Accepted.{EachBelow, Accepted}
use Rattle.commitment.specs.Parameters.{parameters_of}
use Rattle.register.specs.Register.{mark_at, state_at, mark_of}
use Rattle.session_check.specs.Stored.{Inputs, drawn_round}
use Rattle.session_check.specs.Equations.{InputsSized, Held}
use Rattle.session.specs.declared.Session.{Session}
use Rattle.sheet_numbers.specs.Ranges.{NumbersInRange, NumbersSound}
use Rattle.session_progress.specs.Progress.{gathering, closed, claimed, drawn}
use Rattle.session_progress.specs.Limits.{WithinLimits}
use Rattle.session.specs.Steps.{Beginning, stored_for}
use Rattle.session.specs.Machine.{Step, clear, admit, withdraw, close, claim, commit, draw, check, State}
use Rattle.session_histories.specs.Sheets.{ListsFit}

-- a sheet that is taken
pub record SheetTaken (text : Bytes) : Type 0 where
  pub some : 0 < length text  -- 1
  pub few : length text ≤ 262144  -- 1
  pub form : text ≡ written (sheet_of text)  -- 2, the ten lines
  pub decimals : AllPlain (rows_of (sheet_of text))  -- 2, at least one number in each, of at most 17 digits
  pub inside : NumbersInRange (sheet_of text).numbers  -- 3
  pub sound : NumbersSound (sheet_of text).numbers  -- 4
  pub fit : ListsFit (sheet_of text)  -- 5

-- a session with a known phase, counts within their limits, and numbers that 3 and 4 take
abbrev pub ValidSession : Session → Type 0
ValidSession s = WithinLimits s.numbers s.progress

pub record Clears (reg : Bytes) (b : Beginning) : Type 0 where
  pub register_size : length reg ≡ 163840  -- 1
  pub sheet : SheetTaken b.sheet  -- 1 to 5

-- ---- while ballots are gathered

-- a valid session that gathers, lent a register
pub record Gathers (s : Session) (reg : Bytes) : Type 0 where
  pub sound : ValidSession s  -- 31
  pub phase : s.progress.phase ≡ gathering  -- 31
  pub register_size : length reg ≡ 163840  -- 1

-- none of the first n entries has the mark
abbrev pub NoEntry : (reg : Bytes) (mark n : ℕ) → Type 0
NoEntry reg mark n = (i : ℕ) → i < n → mark_at reg i ≢ mark

-- `at` is the first of them that has it, and its state is as `Of` says
pub record FirstEntry (reg : Bytes) (mark n : ℕ) (Of : ℕ → Type 0) : Type 0 where
  pub at : ℕ
  pub within : at < n
  pub marked : mark_at reg at ≡ mark
  pub earlier : NoEntry reg mark at
  pub state : Of (state_at reg at)

abbrev pub MarkStands : (reg : Bytes) (mark n : ℕ) → Type 0
MarkStands reg mark n = FirstEntry reg mark n (λ state. state ≡ 1)

abbrev pub MarkWithdrawn : (reg : Bytes) (mark n : ℕ) → Type 0
MarkWithdrawn reg mark n = FirstEntry reg mark n (λ state. state ≢ 1)

-- no entry has the mark, and one is free
pub record MayEnter (reg : Bytes) (mark n : ℕ) : Type 0 where
  pub unknown : NoEntry reg mark n
  pub room : n < 4096  -- 35

-- a ballot that meets none of 31, 1, 5: its mark decides
pub record Presents (s : Session) (reg ballot : Bytes) : Type 0 where
  pub gathers : Gathers s reg  -- 31, 1
  pub ballot_size : length ballot ≡ 4 + 16 * s.numbers.ring  -- 1
  pub coefficients : EachBelow s.numbers.modulus (vector (drop 4 ballot))  -- 5, u and v

pub record Admits (s : Session) (reg ballot : Bytes) : Type 0 where
  pub presents : Presents s reg ballot  -- 31, 1, 5
  pub enters : MayEnter reg (mark_of ballot) s.progress.used  -- 32, 33, 35

-- a mark that stands, or that has no entry while one is free
pub record Withdraws (s : Session) (reg : Bytes) (mark : ℕ) : Type 0 where
  pub gathers : Gathers s reg  -- 31, 1
  pub marked : MarkStands reg mark s.progress.used ⊎ MayEnter reg mark s.progress.used  -- 33, 35

-- `at` is an entry that stands
pub record Closes (s : Session) (reg : Bytes) : Type 0 where
  pub gathers : Gathers s reg  -- 31, 1
  pub at : ℕ
  pub within : at < s.progress.used  -- 36
  pub stands : state_at reg at ≡ 1  -- 36

-- ---- from closing on

pub record Claims (s : Session) (claims : Bytes) : Type 0 where
  pub sound : ValidSession s  -- 31
  pub phase : s.progress.phase ≡ closed  -- 31
  pub size : length claims ≡ s.numbers.ring * s.progress.closed  -- 1
  pub votes : EachBelow (plain s.numbers) claims  -- 5

pub record Commits (s : Session) (round : ℕ) (head shares0 shares1 : Bytes) : Type 0 where
  pub sound : ValidSession s  -- 31
  pub phase : s.progress.phase ≡ claimed  -- 31
  pub due : round ≡ s.progress.committed  -- 31
  pub within : round < s.numbers.rounds  -- 31
  pub head_size : length head ≡ head_length s.numbers.ring s.numbers.repeats  -- 1
  pub shares0_size : length shares0 ≡ 8 * s.numbers.ring * s.progress.closed  -- 1
  pub shares1_size : length shares1 ≡ 8 * s.numbers.ring * s.progress.closed  -- 1

pub record Draws (s : Session) (seed : Bytes) : Type 0 where
  pub sound : ValidSession s  -- 31
  pub phase : s.progress.phase ≡ claimed  -- 31
  pub all : s.progress.committed ≡ s.numbers.rounds  -- 31
  pub size : length seed ≡ 32  -- 1

-- a check that looks at the round itself: nothing that comes before it in the order of check holds. Lengths and digests, in equations: session_check, specs/Equations.antt
pub record Reaches (s : Session) (round : ℕ) (x : Inputs) : Type 0 where
  pub sound : ValidSession s  -- 31
  pub phase : s.progress.phase ≡ drawn  -- 31
  pub due : round ≡ s.progress.checked  -- 31
  pub within : round < s.numbers.rounds  -- 31
  pub sheet : SheetTaken x.sheet  -- 1 to 5
  pub lengths : InputsSized (stored_for s round) x  -- 1, by the session's numbers and closed count
  pub matches : Held (stored_for s round) x  -- 16, what is lent is what the session holds the digests of

-- all that an accepted check has found, in any round; what a round is accepted for, in propositions: round, specs/Accepted.antt
pub record Checks (s : Session) (round : ℕ) (x : Inputs) : Type 0 where
  pub reaches : Reaches s round x  -- 31, the sheet's 1 to 5, 1, 16
  pub accepted : Accepted (parameters_of x.sheet) s.progress.closed (drawn_round (stored_for s round) x)  -- 5 to 13

-- ---- by the step

abbrev pub Takes : Step → State → Type 0
Takes (clear b) st = Clears st.register b
Takes (admit ballot) st = Admits st.session st.register ballot
Takes (withdraw mark) st = Withdraws st.session st.register mark
Takes close st = Closes st.session st.register
Takes (claim claims) st = Claims st.session claims
Takes (commit k head shares0 shares1) st = Commits st.session k head shares0 shares1
Takes (draw seed) st = Draws st.session seed
Takes (check k x) st = Checks st.session k x

-- the head of the first message that a check is lent is bytes
abbrev pub HeadIsBytes : Step → Type 0
HeadIsBytes x = (k : ℕ) (y : Inputs) → x ≡ check k y → Octets y.head
