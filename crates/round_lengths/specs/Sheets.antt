-- How many ballots are lent, by a sheet's ring size. Assumes nothing.
use Rattle.std.specs.Prelude.{ℕ}
use Rattle.codec.specs.Bytes.{Bytes}
use Rattle.sheet.specs.Reader.{sheet_of}
use Rattle.round_lengths.specs.Calls.{count_of}

abbrev pub ballots_in : (text ballots : Bytes) → ℕ
ballots_in text ballots = count_of (sheet_of text).numbers.ring ballots
