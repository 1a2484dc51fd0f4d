-- The parts of an answer, written one behind the other, are the answer's bytes. Assumes nothing.
use mathlib.Core.Path.{◌≡◌, ap, ◌∙◌}
use mathlib.Core.List.{◌++◌, append_assoc}
use Prim.Native.Nat.{ℕ, ◌+◌, ◌≤◌}
use native.Mathlib.Omega.{arith}
use lib.ListN.{length, length-append}
use Rattle.codec.specs.Bytes.{Bytes, put}
use Rattle.codec.proofs.Laws.{put_whole, written_behind}

module _ (d d1 d2 d3 a b s t : Bytes) (i j : ℕ) (li : i ≡ length a) (lj : j ≡ length a + length b) (e1 : d1 ≡ put d 0 a) (e2 : d2 ≡ put d1 i b) where
  -- three parts, the last of which is two salts side by side
  pub three_parts : length d ≡ length a + length b + length (s ++ t) → d3 ≡ put d2 j (s ++ t) → d3 ≡ a ++ (b ++ (s ++ t))
  three_parts l e3 =
      let p2 = written_behind d d1 d2 a b 0 i (omega arith) (omega arith) e1 e2 in
      let p3 = written_behind d d2 d3 (a ++ b) (s ++ t) 0 j (omega (arith, length-append a b)) (omega arith) p2 e3 in
      p3 ∙ put_whole d ((a ++ b) ++ (s ++ t)) (length-append (a ++ b) (s ++ t) ∙ omega (arith, length-append a b)) ∙ append_assoc a b (s ++ t)

  -- four parts
  pub four_parts : (d4 : Bytes) (k : ℕ) → k ≡ length a + length b + length s → length d ≡ length a + length b + length s + length t → d3 ≡ put d2 j s → d4 ≡ put d3 k t → d4 ≡ a ++ (b ++ (s ++ t))
  four_parts d4 k lk l e3 e4 =
      let p2 = written_behind d d1 d2 a b 0 i (omega arith) (omega arith) e1 e2 in
      let p3 = written_behind d d2 d3 (a ++ b) s 0 j (omega (arith, length-append a b)) (omega arith) p2 e3 in
      let p4 = written_behind d d3 d4 ((a ++ b) ++ s) t 0 k (omega (arith, length-append (a ++ b) s, length-append a b)) (omega arith) p3 e4 in
      p4 ∙ put_whole d (((a ++ b) ++ s) ++ t) (length-append ((a ++ b) ++ s) t ∙ omega (arith, length-append (a ++ b) s, length-append a b))
      ∙ append_assoc (a ++ b) s t ∙ append_assoc a b (s ++ t)

-- three digests side by side
pub three_at_lem : (d d1 d2 d3 a b e : Bytes) (at : ℕ) → at + 96 ≤ length d → length a ≡ 32 → length b ≡ 32 → length e ≡ 32 → d1 ≡ put d at a → d2 ≡ put d1 (at + 32) b → d3 ≡ put d2 (at + 64) e → d3 ≡ put d at (a ++ (b ++ e))
three_at_lem d d1 d2 d3 a b e at h la lb le e1 e2 e3 =
    let p2 = written_behind d d1 d2 a b at (at + 32) (omega arith) (omega arith) e1 e2 in
    written_behind d d2 d3 (a ++ b) e at (at + 64) (omega (arith, length-append a b)) (omega arith) p2 e3 ∙ ap (put d at) (append_assoc a b e)
