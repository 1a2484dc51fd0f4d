-- The invariants of `scan_lines`. Assumes nothing.
use mathlib.Core.Path.{◌≡◌}
use mathlib.Core.List.{List, ◌++◌}
use Prim.Native.Nat.{ℕ}
use lib.ListN.{length, take, drop}
use Rattle.codec.specs.Bytes.{Bytes}
use Rattle.sheet_lines.specs.Form.{number_keys, list_keys}
use Rattle.sheet_lines.proofs.Blocks.{Passed}
use Rattle.sheet_lines.proofs.scan_lines.Given as goal

abbrev pub keys : ℕ → List Bytes
keys from = take 5 (drop from (number_keys ++ list_keys))

abbrev pub invariant-loop-i : goal.invariant-loop-i
invariant-loop-i l =
    (length l.counts ≡ 5) × (length l.largest ≡ 5) × Passed (keys l.from) l.text l.at l.i l.next l.counts l.largest
