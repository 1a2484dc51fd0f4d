-- `sheet_lines::scan_line` meets its contract. Assumes nothing.
use native.Mathlib.Omega.{arith}
use lib.ListN.{drop_of_length-le}
use Rattle.sheet_lines.proofs.Scanning.{line_at, no_key}
use Rattle.sheet_lines.proofs.scan_line.Goals as goal

pub returns-in_err-get : goal.returns-in_err-get
returns-in_err-get c =
    let a = c.args in
    rw (c.from_residual.ensures, drop_of_length-le a.text.now {i = a.at} (omega (arith, c.in_err-get.ensures.lookup.0)), no_key a.key.now)

pub returns-then-starts_with : goal.returns-then-starts_with
returns-then-starts_with c =
    let a = c.args in
    let g = c.in_ok-get.ensures.lookup.0 in
    rw (line_at a.key.now a.text.now _ a.at _ g.0 g.2 c.starts_with.ensures.value, c.if-starts_with.true) c.scan_values.ensures

pub returns-else-starts_with : goal.returns-else-starts_with
returns-else-starts_with c =
    let a = c.args in
    let g = c.in_ok-get.ensures.lookup.0 in
    rw (line_at a.key.now a.text.now _ a.at _ g.0 g.2 c.starts_with.ensures.value, c.if-starts_with.false)
