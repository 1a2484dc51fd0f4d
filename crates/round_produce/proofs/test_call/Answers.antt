-- `round_produce::test_call` meets its contract. Assumes nothing.
use mathlib.Core.Path.{refl, sym, ◌∙◌}
use Rattle.commitment.specs.Parameters.{Parameters, parameters}
use Rattle.round.specs.Producer.{Material}
use Rattle.round.specs.Internal.{material_lent}
use Rattle.round_lengths.proofs.Sizes.{material_sizes}
use Rattle.round_produce.proofs.Testing.{missized, misfit, tried}
use Rattle.round_produce.proofs.test_call.Goals.{Start}
use Rattle.round_produce.proofs.test_call.Goals as goal

abbrev P : Start → Parameters
P s = parameters s.args.k s.args.public.now

abbrev x : Start → Material
x s = material_lent s.args.lent

pub returns-then-not-material_sized : goal.returns-then-not-material_sized
returns-then-not-material_sized c =
    let s = (goal.at.returns-then-not-material_sized c).Start in
    missized (P s) (x s) c.args.asked c.args.fits c.args.scratch.now c.requires.1 refl c.requires.2 c.material_sized.ensures c.if-not-material_sized.true

pub returns-then-not-fits : goal.returns-then-not-fits
returns-then-not-fits c =
    let s = (goal.at.returns-then-not-fits c).Start in
    misfit (P s) (x s) c.args.asked c.args.fits c.args.scratch.now c.requires.1 refl c.requires.2 c.material_sized.ensures c.if-not-material_sized.false c.if-not-fits.true

pub test_material-requires : goal.test_material-requires
test_material-requires c =
    let s = (goal.at.test_material-requires c).Start in
    let sizes = material_sizes (P s) c.args.count (x s) (sym c.material_sized.ensures ∙ c.if-not-material_sized.false) in
    (c.requires.0, c.requires.3.sized c.if-not-fits.false, c.requires.2, sizes)

pub returns : goal.returns
returns c =
    let s = (goal.at.returns c).Start in
    tried (P s) (x s) c.args.asked c.args.fits c.args.scratch.now c.requires.1 c.requires.2 c.material_sized.ensures c.if-not-material_sized.false c.if-not-fits.false c.test_material.ensures
