-- What the contracts of inner functions and the proofs go by: no exported contract and no claim cites this file. Assumes nothing.
use Rattle.std.specs.Prelude.{◌≡◌, Bool, true, false, not, List, ℕ, Result, Ok, Err}
use Rattle.codec.specs.Bytes.{Bytes}
use Rattle.codec.specs.Reply.{Test, first, leaves, Reply}
use Rattle.register.specs.Register.{known, after_withdrawal}
use Rattle.register.specs.Orders.{withdrawal_tests}
use Rattle.codec.specs.Refusal.{as_reply}
use Rattle.codec.specs.declared.Refusal.{Refusal}
use Rattle.register.specs.declared.Withdrawn.{Withdrawn}
use Rattle.register.specs.declared.Withdrawn.TheVariants.{Entered, Struck}

-- what a call that writes to one lent slice comes to, for an order of tests and what it writes
pub record Wrote (tests : List Test) (writes : Bytes) (reply : Reply) (out out' : Bytes) : Type 0 where
  pub replied : reply ≡ first tests
  pub written : out' ≡ leaves (first tests) writes out

-- what a withdrawal answers, and whether the mark got an entry
pub record Withdrawal : Type 0 where
  pub reply : Reply
  pub entered : Bool

abbrev pub has_entered : Result Withdrawn Refusal → Bool
has_entered (Ok Entered) = true
has_entered (Ok Struck) = false
has_entered (Err why) = false

-- what a result of the code stands for
abbrev pub as_withdrawal : Result Withdrawn Refusal → Withdrawal
as_withdrawal r = record { reply = as_reply r; entered = has_entered r }

-- what a withdrawal comes to, with whether the mark got an entry
pub record Withdrew (reg : Bytes) (used mark : ℕ) (r : Withdrawal) (reg' : Bytes) : Type 0 where
  pub wrote : Wrote (withdrawal_tests reg used mark) (after_withdrawal reg used mark) r.reply reg reg'
  pub entered : r.entered ≡ leaves r.reply (not (known reg mark used)) false
