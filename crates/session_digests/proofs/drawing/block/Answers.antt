-- `drawing::block` meets its contract. Assumes nothing.
use mathlib.Core.Path.{◌≡◌, ap, ◌∙◌}
use mathlib.Core.List.{◌++◌}
use Prim.Native.Nat.{ℕ, ◌+◌}
use native.Mathlib.Omega.{arith}
use lib.ListN.{length, replicate, length-append, length-replicate}
use Rattle.codec.specs.Bytes.{Bytes, bytes, put}
use Rattle.codec.proofs.Laws.{length_put, put_append, put_whole}
use Rattle.codec.proofs.Numbers.{length_bytes}
use Rattle.sha3.specs.Sponge.{sha3}
use Rattle.session_digests.specs.Draw as def
use Rattle.session_digests.proofs.drawing.block.Goals as goal

-- three writes side by side fill the message
message : (d seed : Bytes) (k c : ℕ) → length d ≡ 36 → length seed ≡ 32
    → put (put (put d 0 seed) 32 (bytes 2 k)) 34 (bytes 2 c) ≡ seed ++ (bytes 2 k ++ bytes 2 c)
message d seed k c h l =
    let a = length_bytes 2 k in
    let b = length_bytes 2 c in
    let m : length (put d 0 seed) ≡ length d = length_put d 0 seed (omega arith) in
    let e : length (bytes 2 k ++ bytes 2 c) ≡ 4 = simp length-append (omega arith) in
    let p : 34 ≡ 32 + length (bytes 2 k) = omega arith in
    let r : 32 ≡ 0 + length seed = omega arith in
    ap (λ (i : ℕ). put (put (put d 0 seed) 32 (bytes 2 k)) i (bytes 2 c)) p ∙ put_append (put d 0 seed) 32 (bytes 2 k) (bytes 2 c) (omega arith)
    ∙ ap (λ (i : ℕ). put (put d 0 seed) i (bytes 2 k ++ bytes 2 c)) r ∙ put_append d 0 seed (bytes 2 k ++ bytes 2 c) (omega arith)
    ∙ put_whole d (seed ++ (bytes 2 k ++ bytes 2 c)) (simp length-append (omega arith))

pub returns : goal.returns
unfolding def.block
returns c =
    let a = c.args in
    c.hash.ensures
    ∙ ap sha3
    (rw (c.write16-2.ensures, c.write16.ensures, c.copy.ensures)
    (message (replicate 36 0) a.seed.now a.round a.c (length-replicate {A = ℕ} 36 0) (omega arith)))
