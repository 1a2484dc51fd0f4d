-- `calls::write_description` meets its contract. Assumes nothing.
use native.Mathlib.Omega.{arith}
use Rattle.codec.proofs.Numbers.{length_bytes}
use Rattle.sheet_numbers.proofs.Ranges.{in_range}
use Rattle.sheet.specs.Calls.{description}
use Rattle.sheet.proofs.Answers.{four_words}
use Rattle.sheet.proofs.calls.write_description.Goals as goal

pub noise_bound-requires : goal.noise_bound-requires
noise_bound-requires c = let i = in_range c.args.k c.requires.0 in (omega arith, omega arith, omega arith)

pub mask_bound-requires : goal.mask_bound-requires
mask_bound-requires c = let i = in_range c.args.k c.requires.0 in (omega arith, omega arith, omega arith, omega arith)

pub unknowns-requires : goal.unknowns-requires
unknowns-requires c = let i = in_range c.args.k c.requires.0 in omega arith

pub returns : goal.returns
unfolding description
returns c =
    rw (
      c.write64-4.ensures,
      c.write64-3.ensures,
      c.write64-2.ensures,
      c.write64.ensures,
      c.unknowns.ensures,
      c.mask_bound.ensures,
      c.noise_bound.ensures.0,
    )
    (four_words c.args.out.now _ _ _ _ (length_bytes 8 _) (length_bytes 8 _) (length_bytes 8 _) (length_bytes 8 _) c.requires.1)
