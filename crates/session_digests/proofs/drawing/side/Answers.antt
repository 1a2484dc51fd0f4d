-- `drawing::side` meets its contract. Assumes nothing.
use mathlib.Core.Path.{ap, ◌∙◌}
use Prim.Native.Nat.{ℕ, ◌%◌}
use native.Mathlib.Omega.{arith}
use Rattle.codec.specs.Bytes.{Bytes, number, part}
use Rattle.session_digests.specs.Draw as def
use Rattle.session_digests.proofs.drawing.side.Goals as goal

pub returns : goal.returns
unfolding def.drawn_side def.stream
returns c = (ap (λ (v : ℕ). v % 2) (c.read64.ensures ∙ ap (λ (s : Bytes). number (part s 0 8)) c.block-first.ensures), omega arith)
