-- `sheet_program::show` meets its contract. Assumes nothing.
use native.Mathlib.Omega.{arith}
use Rattle.sheet_numbers.proofs.Ranges.{in_range}
use Rattle.sheet_program.specs.Print.{printed_by}
use Rattle.sheet_program.proofs.Print.{puts_more}
use Rattle.sheet_program.proofs.show.Goals as goal

pub noise_bound-requires : goal.noise_bound-requires
noise_bound-requires c = let i = in_range c.args.k c.requires.0 in (omega arith, omega arith, omega arith)

pub mask_bound-requires : goal.mask_bound-requires
mask_bound-requires c = let i = in_range c.args.k c.requires.0 in (omega arith, omega arith, omega arith, omega arith)

pub unknowns-requires : goal.unknowns-requires
unknowns-requires c = let i = in_range c.args.k c.requires.0 in omega arith

pub returns : goal.returns
unfolding printed_by
returns c =
    let p1 = c.put_line-a1.ensures in
    let p2 = c.put_line-a2.ensures in
    let p3 = c.put_line-a3.ensures in
    let p4 = c.put_line-a4.ensures in
    let p5 = c.put_line.ensures in
    puts_more
    (puts_more
    (puts_more (puts_more p1.0 p2.0 (omega arith)) (rw c.noise_bound.ensures.0 at p3.0) (omega arith))
    (rw c.mask_bound.ensures at p4.0) (omega arith))
    (rw c.unknowns.ensures at p5.0) (omega arith)
