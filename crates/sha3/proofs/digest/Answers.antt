-- `sha3::digest` meets its contract. Assumes nothing.
use mathlib.Core.Path.{◌≡◌, ◌∙◌, ap, sym}
use native.Mathlib.Omega.{arith}
use borrow.Author.Tests.{eq-eqb}
use lib.ListN.{length}
use Rattle.codec.specs.Reply.{first, leaves}
use Rattle.codec.proofs.Laws.{put_whole}
use Rattle.sha3.specs.Digest.{digest_reply, digest_out}
use Rattle.sha3.proofs.Squeezing.{length_sha3}
use Rattle.sha3.proofs.digest.Goals as goal

pub returns : goal.returns
unfolding digest_reply digest_out first leaves
returns c =
    let a = c.args in
    let h = c.hash in
    let n : length a.out.now ≡ 32 = omega arith in
    let e = eq-eqb (length a.out.now) 32 n in
    (rw e, rw e (c.copy.ensures ∙ put_whole a.out.now h.result (ap length h.ensures ∙ length_sha3 a.m.now ∙ sym n) ∙ h.ensures))
