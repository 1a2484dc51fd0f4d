-- What an exported call with one output comes to: the one number that the host is answered, and what it leaves in each slice. Assumes nothing.
use Rattle.std.specs.Prelude.{◌≡◌, List, ℕ}
use Rattle.codec.specs.Bytes.{Bytes}
use Rattle.codec.specs.Reply.{Test, first, leaves, packed}
use Rattle.sha3.specs.Digest.{digest_reply, digest_out}
use Rattle.scratch.specs.Call.{zeroized}
use Rattle.sheet.specs.Calls.{describe_reply, describe_out}

-- for an order of tests and what is written
pub record CallReplied (tests : List Test) (writes : Bytes) (answer : ℕ) (out out' scratch scratch' : Bytes) : Type 0 where
  pub replied : answer ≡ packed (first tests)
  pub written : out' ≡ leaves (first tests) writes out
  pub cleared : scratch' ≡ zeroized (first tests) scratch

-- the plain digest of a message
pub record Digested (message : Bytes) (answer : ℕ) (out out' : Bytes) : Type 0 where
  pub replied : answer ≡ packed (digest_reply out)
  pub written : out' ≡ digest_out message out

-- a sheet that is read for its numbers
pub record Described (sheet : Bytes) (answer : ℕ) (out out' : Bytes) : Type 0 where
  pub replied : answer ≡ packed (describe_reply sheet out)
  pub written : out' ≡ describe_out sheet out
