-- `sheet_program::put_line` meets its contract. Assumes nothing.
use mathlib.Core.Path.{sym, ◌∙◌}
use native.Mathlib.Omega.{arith}
use Rattle.sheet_program.proofs.Print.{fewest, few, line_put}
use Rattle.sheet_program.proofs.put_line.Goals as goal

pub returns : goal.returns
returns c =
    let a = c.args in
    let d = c.decimal-k in
    let k = few d.result a.n (omega arith) d.ensures.len in (
      rw (c.write8.ensures, c.copy-2.ensures, c.copy.ensures)
          (line_put a.out.now a.key.now _ a.at d.result a.n (sym d.ensures.in_bounds.1) (d.ensures.digits ∙ fewest 20 d.result a.n k d.ensures.len) c.requires k),
      omega arith,
    )
