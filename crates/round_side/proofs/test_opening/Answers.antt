-- `round_side::test_opening` meets its contract. Assumes nothing.
use mathlib.Core.Path.{refl, sym, ap, ◌∙◌}
use mathlib.Core.Bool.{not}
use native.Mathlib.Omega.{arith}
use lib.ListN.{length}
use Rattle.stern.proofs.Answered.{first_fails, second_fails, both_hold}
use Rattle.round.proofs.Wiped.{still, again}
use Rattle.round_side.proofs.Parts.{half_ends, pairs_end}
use Rattle.round_side.proofs.test_opening.Goals as goal

pub overflow_mul-n-2 : goal.overflow_mul-n-2
overflow_mul-n-2 c = omega (arith, half_ends c.args.k.ring c.args.side c.requires.4, c.requires.0.numbers.in_range.ring_high)

pub opens_key-requires : goal.opens_key-requires
opens_key-requires c = let p = c.requires in (p.0, p.1, p.2, omega (arith, half_ends c.args.k.ring c.args.side p.4, p.3))

pub overflow_mul-n-5 : goal.overflow_mul-n-5
overflow_mul-n-5 c = omega (arith, pairs_end c.args.k.ring c.args.side c.requires.4, c.requires.0.numbers.in_range.ring_high)

pub overflow_add-n : goal.overflow_add-n
overflow_add-n c = omega (arith, pairs_end c.args.k.ring c.args.side c.requires.4, c.requires.0.numbers.in_range.ring_high)

pub returns-then-not-opens_key : goal.returns-then-not-opens_key
returns-then-not-opens_key c =
    let o = c.opens_key in
    record {
      replied = first_fails 7 8 0 _ _ (ap not (sym (o.ensures.0 c.args.side refl) ∙ c.if-not-opens_key.true));
      cleared = o.ensures.1;
    }

pub opens_pairs-requires : goal.opens_pairs-requires
opens_pairs-requires c = let p = c.requires in (p.0, p.1, still c.opens_key.ensures.1 ∙ p.2, omega (arith, pairs_end c.args.k.ring c.args.side p.4, p.3))

pub returns-then-not-opens_pairs : goal.returns-then-not-opens_pairs
returns-then-not-opens_pairs c =
    let o = c.opens_key in
    let b = c.opens_pairs in
    record {
      replied = second_fails 7 8 0 _ _ (ap not (sym (o.ensures.0 c.args.side refl) ∙ c.if-not-opens_key.false)) (ap not (sym (b.ensures.0 c.args.side refl) ∙ c.if-not-opens_pairs.true));
      cleared = again (length c.args.work.now) o.ensures.1 b.ensures.1;
    }

pub returns : goal.returns
returns c =
    let o = c.opens_key in
    let b = c.opens_pairs in
    record {
      replied = both_hold 7 8 0 _ _ (ap not (sym (o.ensures.0 c.args.side refl) ∙ c.if-not-opens_key.false)) (ap not (sym (b.ensures.0 c.args.side refl) ∙ c.if-not-opens_pairs.false));
      cleared = again (length c.args.work.now) o.ensures.1 b.ensures.1;
    }
