-- `montgomery::product` meets its contract. Assumes nothing.
use mathlib.Core.Path.{◌∙◌, ap}
use Prim.Native.Nat.{ℕ, ◌%◌}
use native.Mathlib.Omega.{arith}
use Rattle.montgomery.proofs.Reduction.{assembled, bound, reduced_is}
use Rattle.montgomery.proofs.product.Goals as goal

pub corrected-requires : goal.corrected-requires
corrected-requires c =
    let e = assembled c.args.q c.args.i c.args.x c.args.y c.digits-t0.ensures.0 c.digits-m0.ensures.0 c.digits.ensures.0 c.digits-2.ensures.0 c.digits-3.ensures.0 c.digits-4.ensures.0 c.digits-m1.ensures.0 c.digits-5.ensures.0 c.digits-6.ensures.0 c.digits-7.ensures.0 in
    (omega (arith, c.requires), c.requires.0.small, rw e (bound c.args.q c.args.i c.args.x c.args.y c.requires.0 c.requires.1 c.requires.2))

pub returns : goal.returns
returns c =
    let e = assembled c.args.q c.args.i c.args.x c.args.y c.digits-t0.ensures.0 c.digits-m0.ensures.0 c.digits.ensures.0 c.digits-2.ensures.0 c.digits-3.ensures.0 c.digits-4.ensures.0 c.digits-m1.ensures.0 c.digits-5.ensures.0 c.digits-6.ensures.0 c.digits-7.ensures.0 in
    (c.corrected.ensures.0 ∙ ap (λ (n : ℕ). n % c.args.q) e ∙ reduced_is c.args.q c.args.i c.args.x c.args.y c.requires.0, c.corrected.ensures.1)
