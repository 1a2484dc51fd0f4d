-- Scratch that was given back zeroed: it keeps its length, and is zeroed once more. Assumes nothing.
use mathlib.Core.Path.{◌≡◌, ap, ◌∙◌}
use Prim.Native.Nat.{ℕ}
use lib.ListN.{length, length-replicate}
use Rattle.codec.specs.Bytes.{Bytes, zeros}

pub still : {w' : Bytes} {l : ℕ} → w' ≡ zeros l → length w' ≡ l
still {w'} {l} e = ap length e ∙ length-replicate {A = ℕ} l 0

pub again : {w' w'' : Bytes} (l : ℕ) → w' ≡ zeros l → w'' ≡ zeros (length w') → w'' ≡ zeros l
again {w'} l e f = f ∙ ap zeros (still {w' = w'} {l = l} e)

-- used in between, with its length kept
pub wiped : {w'' : Bytes} {l m : ℕ} → l ≡ m → w'' ≡ zeros l → w'' ≡ zeros m
wiped e f = f ∙ ap zeros e
