-- `sheet_lines::all_are` meets its contract. Assumes nothing.
use Rattle.std.proofs.Common.{rules, tests, eqb, ◌∙◌}
use Rattle.std.proofs.lemmas.Iterator.{YieldsList-from_slice}
use Rattle.std.proofs.lemmas.Iterator.Search.{all_from_yields_List}
use Rattle.sheet_lines.proofs.Steps.{every_is}
use Rattle.sheet_lines.proofs.all_are.Goals as goal

pub returns : goal.returns
returns c =
    all_from_yields_List (λ x. eqb x c.args.v) _ _ c.all.result c.all.ensures.ran (YieldsList-from_slice c.args.xs cc) (λ x b q k. search (rules, tests))
    ∙ every_is (λ x. eqb x c.args.v) c.args.xs
