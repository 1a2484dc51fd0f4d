-- `test_ring::ring_ternary` meets its contract. Assumes nothing.
use mathlib.Core.Path.{sym, ◌∙◌}
use Prim.Native.Nat.{◌*◌}
use native.Mathlib.Omega.{arith}
use borrow.Author.Tests.{le-ltb, eq-eqb}
use lib.ListN.{length}
use Rattle.codec.proofs.Replies.{order}
use Rattle.codec.proofs.Laws.{put_whole}
use Rattle.codec.specs.Reply.{first, leaves}
use Rattle.ring.proofs.Bridge.{length_encode}
use Rattle.test_ring.specs.Calls.{ternary_reply}
use Rattle.test_ring.proofs.ring_ternary.Goals as goal

pub returns-then-not-is_ternary : goal.returns-then-not-is_ternary
unfolding ternary_reply first leaves
returns-then-not-is_ternary c =
    let a = c.args in
    (rw (le-ltb a.q 2 c.if-q-lt2.false, le-ltb 2048 (length a.t.now) c.if-t-gt2048.false, eq-eqb (length a.work.now) (8 * length a.t.now) c.if-work-t.false, sym c.is_ternary.ensures, c.if-not-is_ternary.true), rw (le-ltb a.q 2 c.if-q-lt2.false, le-ltb 2048 (length a.t.now) c.if-t-gt2048.false, eq-eqb (length a.work.now) (8 * length a.t.now) c.if-work-t.false, sym c.is_ternary.ensures, c.if-not-is_ternary.true))

pub returns : goal.returns
unfolding ternary_reply first leaves
returns c =
    let a = c.args in
    (rw (le-ltb a.q 2 c.if-q-lt2.false, le-ltb 2048 (length a.t.now) c.if-t-gt2048.false, eq-eqb (length a.work.now) (8 * length a.t.now) c.if-work-t.false, sym c.is_ternary.ensures, c.if-not-is_ternary.false), rw (le-ltb a.q 2 c.if-q-lt2.false, le-ltb 2048 (length a.t.now) c.if-t-gt2048.false, eq-eqb (length a.work.now) (8 * length a.t.now) c.if-work-t.false, sym c.is_ternary.ensures, c.if-not-is_ternary.false) (c.load_ternary.ensures ∙ put_whole _ _ (length_encode (length a.t.now) _ ∙ sym c.if-work-t.false)))

pub returns-then-q-lt2 : goal.returns-then-q-lt2
unfolding ternary_reply first leaves
returns-then-q-lt2 c = (grind (arith, order, c.then-q-lt2.either), grind (arith, order, c.then-q-lt2.either))

pub returns-then-work-t : goal.returns-then-work-t
unfolding ternary_reply first leaves
returns-then-work-t c = search order
