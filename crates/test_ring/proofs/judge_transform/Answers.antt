-- `test_ring::judge_transform` meets its contract. Assumes nothing.
use mathlib.Core.Path.{sym, ◌∙◌}
use native.Mathlib.Omega.{arith}
use Rattle.codec.proofs.Replies.{order}
use Rattle.codec.specs.Reply.{first}
use Rattle.test_ring.specs.Calls.{transform_reply}
use Rattle.test_ring.proofs.Transforms.{suited_sound}
use Rattle.test_ring.proofs.judge_transform.Goals as goal

pub returns-then-not-suits : goal.returns-then-not-suits
unfolding transform_reply first
returns-then-not-suits c = rw (sym c.suits.ensures, c.if-not-suits.true) (search order)

pub overflow_mul-n : goal.overflow_mul-n
overflow_mul-n c = let s = suited_sound c.args.n c.args.q (sym c.suits.ensures ∙ c.if-not-suits.false) in omega (arith, s.high)

pub returns-then-work-n : goal.returns-then-work-n
unfolding transform_reply first
returns-then-work-n c = rw (sym c.suits.ensures, c.if-not-suits.false) (search order)

pub overflow_mul-n-2 : goal.overflow_mul-n-2
overflow_mul-n-2 c = let s = suited_sound c.args.n c.args.q (sym c.suits.ensures ∙ c.if-not-suits.false) in omega (arith, s.high)

pub returns-then-a-n : goal.returns-then-a-n
unfolding transform_reply first
returns-then-a-n c = rw (sym c.suits.ensures, c.if-not-suits.false) (search order)

pub overflow_mul-n-3 : goal.overflow_mul-n-3
overflow_mul-n-3 c = let s = suited_sound c.args.n c.args.q (sym c.suits.ensures ∙ c.if-not-suits.false) in omega (arith, s.high)

pub returns-then-b-n : goal.returns-then-b-n
unfolding transform_reply first
returns-then-b-n c = rw (sym c.suits.ensures, c.if-not-suits.false) (search order)

pub is_root-requires : goal.is_root-requires
is_root-requires c = let s = suited_sound c.args.n c.args.q (sym c.suits.ensures ∙ c.if-not-suits.false) in (omega (arith, s.modulus_low), s.modulus_high)

pub returns-then-not-is_root : goal.returns-then-not-is_root
unfolding transform_reply first
returns-then-not-is_root c = rw (sym c.suits.ensures, c.if-not-suits.false, sym c.is_root.ensures, c.if-not-is_root.true) (search order)

pub returns-then-not-both_in_range : goal.returns-then-not-both_in_range
unfolding transform_reply first
returns-then-not-both_in_range c = rw (sym c.suits.ensures, c.if-not-suits.false, sym c.is_root.ensures, c.if-not-is_root.false, sym c.both_in_range.ensures, c.if-not-both_in_range.true) (search order)

pub returns : goal.returns
unfolding transform_reply first
returns c = rw (sym c.suits.ensures, c.if-not-suits.false, sym c.is_root.ensures, c.if-not-is_root.false, sym c.both_in_range.ensures, c.if-not-both_in_range.false) (search order)
