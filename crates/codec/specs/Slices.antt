-- A lent slice as an `ensures` sees it: one that is read, with what it holds; and one that is written, with what it holds when the call begins (`lent`) and what the call leaves
-- in it (`left`). Assumes nothing.
use Rattle.std.specs.Borrow.{Bor, MutBor}
use denote.Triple.Both.{Both}
use Rattle.codec.specs.Bytes.{Bytes}

abbrev pub Slice : Type 0
Slice = Both (Bor Bytes) (Bor Bytes)

abbrev pub given : Slice → Bytes
given s = s.entry.now

abbrev pub MutSlice : Type 0
MutSlice = Both (MutBor Bytes) (MutBor Bytes)

abbrev pub lent : MutSlice → Bytes
lent s = s.entry.now

abbrev pub left : MutSlice → Bytes
left s = s.exit.now
