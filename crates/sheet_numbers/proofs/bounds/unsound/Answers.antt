-- `bounds::unsound` meets its contract. Assumes nothing.
use native.Mathlib.Omega.{arith}
use Rattle.sheet_numbers.proofs.Ranges.{in_range}
use Rattle.sheet_numbers.proofs.bounds.unsound.Goals as goal

pub overflow_sub-k : goal.overflow_sub-k
overflow_sub-k c = let i = in_range c.args.k c.requires in omega arith

pub overflow_mul-k : goal.overflow_mul-k
overflow_mul-k c = let i = in_range c.args.k c.requires in omega arith

pub nonzero_rem-k : goal.nonzero_rem-k
nonzero_rem-k c = let i = in_range c.args.k c.requires in omega arith

pub overflow_sub-result : goal.overflow_sub-result
overflow_sub-result c = let i = in_range c.args.k c.requires in omega arith

pub power-requires : goal.power-requires
power-requires c = let i = in_range c.args.k c.requires in omega arith

pub noise_bound-requires : goal.noise_bound-requires
noise_bound-requires c = let i = in_range c.args.k c.requires in (omega arith, omega arith, omega arith)
