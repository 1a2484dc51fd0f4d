-- Lists of a session's steps: what the proofs about lists of the exported calls go by. No claim cites this file. Assumes nothing.
use Rattle.std.specs.Prelude.{◌≡◌, false, ℕ, ◌<◌, length}
use mathlib.Core.List.{List, [], ◌∷◌, ◌++◌, Memᴰ, map, flatten}
use Rattle.codec.specs.Bytes.{Bytes, Octets, zeros}
use Rattle.codec.specs.Reply.{first, leaves, Taken}
use Rattle.sha3.specs.Sponge.{sha3}
use Rattle.sheet.specs.Sheet.{order}
use Rattle.round.specs.Layout.{ballot_length}
use Rattle.register.specs.Register.{register_length}
use Rattle.session_digests.specs.Digests.{ballot_digests}
use Rattle.session_check.specs.Stored.{Inputs}
use Rattle.session.specs.declared.Session.{Session}
use Rattle.session.specs.Steps.{Beginning, cleared, stored_for}
use Rattle.session.specs.Machine.{Step, check, State, state, reply, after}
use Rattle.session_histories.specs.Runs.{History, empty_history, history_after, roll_after, clears, Call, call}
use Rattle.session_histories.specs.Conditions.{Checks}
use Rattle.session_histories.specs.Bound.{Bound, BoundBytes, LodgesAll, LentBytes}

-- a session, and what was taken
pub record Trace : Type 0 where
  pub session : Session
  pub history : History

abbrev pub lent : Trace → Call → State
lent l c = state l.session c.register

-- a session with its register, what was taken, and the roll
pub record OwnTrace : Type 0 where
  pub now : State
  pub history : History
  pub roll : List Bytes

-- a clear with this is taken, lent a register
abbrev pub Begins : Beginning → Type 0
Begins b = first (order b.sheet) ≡ Taken

-- newly cleared
unfoldable pub initial_trace : Beginning → Trace
initial_trace b = record { session = cleared b; history = empty_history b }

-- with the register that clear leaves
unfoldable pub own_initial : Beginning → OwnTrace
own_initial b = record { now = state (cleared b) (zeros register_length); history = empty_history b; roll = [] }

-- ---- each step is given the session and the register that the last one left

unfoldable pub run : List Step → State → State
run [] st = st
run (x ∷ xs) st = run xs (after x st)

-- the same with the history and the roll
unfoldable pub own_extend : Step → OwnTrace → OwnTrace
own_extend x t = record {
  now = after x t.now;
  history = leaves (reply x t.now) (history_after x t.now t.history) t.history;
  roll = leaves (reply x t.now) (roll_after x t.roll) t.roll;
}

unfoldable pub own_trace : List Step → OwnTrace → OwnTrace
own_trace [] t = t
own_trace (x ∷ xs) t = own_trace xs (own_extend x t)

-- ---- each step is given the session that the last one left, and any register

unfoldable pub extend_trace : Call → Trace → Trace
extend_trace c l = record {
  session = (after c.step (lent l c)).session;
  history = leaves (reply c.step (lent l c)) (history_after c.step (lent l c) l.history) l.history;
}

unfoldable pub trace : List Call → Trace → Trace
trace [] l = l
trace (c ∷ cs) l = trace cs (extend_trace c l)

-- no clear is taken
unfoldable pub NoClear : List Call → Trace → Type 0
NoClear [] l = Unit
NoClear (c ∷ cs) l = (clears c.step (reply c.step (lent l c)) ≡ false) × NoClear cs (extend_trace c l)

-- steps as calls that are lent the register that the last step left
unfoldable pub calls : List Step → State → List Call
calls [] st = []
calls (x ∷ xs) st = call x st.register ∷ calls xs (after x st)

-- ---- from a newly cleared session, each step lent any register

-- a check of a round that was taken, since the last clear taken: `before` are the calls before it, `later` those behind it
pub record StepChecked (b : Beginning) (cs : List Call) (round : ℕ) : Type 0 where
  pub before : List Call
  pub register : Bytes
  pub inputs : Inputs
  pub later : List Call
  pub listed : cs ≡ before ++ (call (check round inputs) register ∷ later)
  pub uncleared : NoClear later (extend_trace (call (check round inputs) register) (trace before (initial_trace b)))
  -- it was taken, so all that a check of this round asks for was found
  pub taken : reply (check round inputs) (state (trace before (initial_trace b)).session register) ≡ Taken
  pub checks : Octets inputs.head → Checks (trace before (initial_trace b)).session round inputs
  -- what it was held against is what the session holds at the end: numbers, closed count, the digests of sheet, closing, claims and the round's first message, and the seed
  pub stored : stored_for (trace before (initial_trace b)).session round ≡ stored_for (trace cs (initial_trace b)).session round

-- without host writing, the ballots admitted and not withdrawn are the batch: its digests are theirs, in order, and each has a ballot's length
abbrev pub RollIsBatch : Type 0
RollIsBatch = (b : Beginning) (steps : List Step)
    → let t = own_trace steps (own_initial b) in
    0 < t.now.session.progress.phase
    → (t.history.batch ≡ map sha3 t.roll) × ((y : Bytes) → Memᴰ y t.roll → length y ≡ ballot_length t.now.session.numbers.ring)
    × (ballot_digests (ballot_length t.now.session.numbers.ring) (length t.history.batch) (flatten t.roll) ≡ t.history.batch)

-- and a list in which each step is lent the register that the last one left is one of those above, so that a turn's batch can be that roll
abbrev pub OwnRegister : Type 0
OwnRegister = (b : Beginning) (steps : List Step)
    → let t = own_trace steps (own_initial b) in
    let l = trace (calls steps (own_initial b).now) (initial_trace b) in
    (l.session ≡ t.now.session) × (l.history ≡ t.history)

-- every check that is taken is bound
abbrev pub ChecksBound : Type 0
ChecksBound = (b : Beginning) (cs : List Call) → Begins b
    → let l = trace cs (initial_trace b) in
    (register : Bytes) (k : ℕ) (x : Inputs) → reply (check k x) (state l.session register) ≡ Taken → Bound l.history k x

-- by strings of bytes, where what is lent is bytes
abbrev pub ChecksHashed : Type 0
ChecksHashed = (b : Beginning) (cs : List Call) → Octets b.sheet → LodgesAll cs → (k : ℕ) (x : Inputs) → LentBytes x → BoundBytes (trace cs (initial_trace b)).history k x
