-- What the contracts of inner functions and the proofs go by: no exported contract and no claim cites this file. Assumes nothing.
use Rattle.std.specs.Prelude.{◌≡◌, ℕ, length}
use Rattle.codec.specs.Bytes.{Bytes, put, zeros}

-- bytes are written at a place of an output, and scratch is given back zeroed
pub record WrittenAt (at : ℕ) (bytes out out' scratch scratch' : Bytes) : Type 0 where
  pub written : out' ≡ put out at bytes
  pub cleared : scratch' ≡ zeros (length scratch)
