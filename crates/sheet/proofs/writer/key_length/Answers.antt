-- `writer::key_length` meets its contract. Assumes nothing.
use mathlib.Core.Path.{sym, ◌∙◌}
use borrow.Author.Tests.{lt-ltb, le-ltb}
use Rattle.sheet.proofs.Filling.{key_size}
use Rattle.sheet.proofs.writer.key_length.Goals as goal

pub returns-then-k-lt2 : goal.returns-then-k-lt2
returns-then-k-lt2 c = sym (key_size c.args.k c.requires ∙ rw (lt-ltb c.args.k 2 c.if-k-lt2.true))

pub returns-else-k-lt2 : goal.returns-else-k-lt2
returns-else-k-lt2 c = sym (key_size c.args.k c.requires ∙ rw (le-ltb c.args.k 2 c.if-k-lt2.false))
