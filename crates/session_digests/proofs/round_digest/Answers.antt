-- `round_digest` meets its contract: the claim digest and the round stand one after the other in 34 bytes. Assumes nothing.
use mathlib.Core.Path.{◌≡◌, ap, ◌∙◌}
use mathlib.Core.List.{◌++◌, append_assoc}
use Prim.Native.Nat.{ℕ}
use native.Mathlib.Omega.{arith}
use borrow.Author.Rules.{rules}
use lib.ListN.{length, length-append}
use Rattle.codec.specs.Bytes.{Bytes, bytes, put, zeros}
use Rattle.codec.proofs.Laws.{put_append, put_whole}
use Rattle.codec.proofs.Numbers.{length_bytes}
use Rattle.sha3.specs.Sponge.{sha3}
use Rattle.session_digests.specs.Digests.{round_digest}
use Rattle.session_digests.proofs.round_digest.Goals as goal

-- the two, written into d
both : (d claim : Bytes) (round : ℕ) → length d ≡ 34 → length claim ≡ 32 → put (put d 0 claim) 32 (bytes 2 round) ≡ claim ++ bytes 2 round
both d claim round k l =
    let m = length_bytes 2 round in
    ap (λ (at : ℕ). put (put d 0 claim) at (bytes 2 round)) (omega arith)
    ∙ put_append d 0 claim (bytes 2 round) (omega arith)
    ∙ put_whole d (claim ++ bytes 2 round) (length-append claim (bytes 2 round) ∙ omega arith)

pub returns : goal.returns
unfolding round_digest
returns c =
    let a = c.args in
    let l : length a.claim.now ≡ 32 = search rules in
    let e = c.write16.ensures ∙ ap (λ (d : Bytes). put d 32 (bytes 2 a.round)) c.copy.ensures ∙ both (zeros 34) a.claim.now a.round (search rules) l in
    c.hash_parts.ensures ∙ ap (λ (t : Bytes). sha3 (t ++ (a.head.now ++ (a.shares0.now ++ a.shares1.now)))) e ∙ ap sha3 (append_assoc a.claim.now (bytes 2 a.round) _)
