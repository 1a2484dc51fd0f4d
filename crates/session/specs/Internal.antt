-- What the contracts of inner functions and the proofs go by: no exported contract and no claim cites this file. Assumes nothing.
use Rattle.std.specs.Prelude.{◌≡◌, ℕ}
use Rattle.codec.specs.Bytes.{Bytes}
use Rattle.codec.specs.Reply.{Reply}
use Rattle.codec.specs.Refusal.{as_reply}
use Rattle.codec.specs.declared.Refusal.{Refusal}
use Rattle.session.specs.declared.Stepped as code
use Rattle.scratch.specs.Call.{zeroized}
use Rattle.session_check.specs.Stored.{Inputs}
use Rattle.session.specs.declared.Session.{Session}
use Rattle.session.specs.Steps.{accepted_by, refused_by}
use Rattle.session.specs.Machine.{check, Step, State, state, reply, after}
use Rattle.session_check.specs.Internal.{Verdict, Stopped, Failed, Passed}

-- the session that a step leaves, and what it answers
pub record Stepped : Type 0 where
  pub session : Session
  pub reply : Reply

-- what the code hands back
abbrev pub as_stepped : code.Stepped Refusal → Stepped
as_stepped r = record { session = r.session; reply = as_reply r.reply }

pub record Done (x : Step) (st : State) (r : Stepped) (register : Bytes) : Type 0 where
  pub replied : r.reply ≡ reply x st
  pub session : r.session ≡ (after x st).session
  pub register_left : register ≡ (after x st).register

-- the same of a step that is lent no register: with any, which it leaves
abbrev pub DoneAlone : Step → Session → Stepped → Type 0
DoneAlone x s r = (register : Bytes) → Done x (state s register) r register

-- and of a check, with what it leaves in scratch
pub record CheckDone (round : ℕ) (x : Inputs) (s : Session) (r : Stepped) (scratch : Bytes) : Type 0 where
  pub done : DoneAlone (check round x) s r
  pub cleared : scratch ≡ zeroized r.reply x.scratch

-- what a check leaves, by the verdict that it comes to
abbrev pub judged_by : Verdict → Session → Session
judged_by (Stopped number place) s = s
judged_by (Failed number place) s = refused_by s
judged_by Passed s = accepted_by s
