-- `sheet_program::report` meets its contract. Assumes nothing.
use mathlib.Core.Path.{sym, ◌∙◌}
use borrow.Author.Rules.{rules}
use borrow.Author.Tests.{le-ltb, lt-ltb}
use lib.ListN.{length}
use Rattle.sheet.proofs.Taken.{taken}
use Rattle.sheet_program.specs.Print.{printed_by, printed}
use Rattle.sheet_program.proofs.Print.{puts_head, puts_counts}
use Rattle.sheet_program.proofs.report.Goals as goal

pub returns-then-text-gt-LONGEST : goal.returns-then-text-gt-LONGEST
unfolding printed
returns-then-text-gt-LONGEST c =
    let t = c.args.text.now in
    (puts_counts c.put_line.ensures.0, rw (lt-ltb 65536 (length t) c.if-text-gt-LONGEST.true) (puts_head c.put_line.ensures.0))

pub show-requires : goal.show-requires
show-requires c = ((taken _ (sym c.in-Ok.ensures.0)).inside, search rules)

pub returns-in-Ok : goal.returns-in-Ok
unfolding printed
returns-in-Ok c =
    let e = sym c.in-Ok.ensures.0 in
    (puts_counts c.show.ensures, rw (le-ltb 65536 (length c.args.text.now) c.if-text-gt-LONGEST.false, e) (puts_head c.show.ensures))

pub returns-in-Err : goal.returns-in-Err
unfolding printed printed_by
returns-in-Err c =
    let e = sym c.in-Err.ensures.0 in
    let p = c.put_line-in-Err.ensures.0 in
    (puts_counts p, rw (le-ltb 65536 (length c.args.text.now) c.if-text-gt-LONGEST.false, e, ← c.number.ensures, ← c.from.ensures) (puts_head p))
