-- `write_second` meets its contract. Assumes nothing.
use mathlib.Core.Path.{ap, ◌∙◌}
use Rattle.codec.specs.Bytes.{zeros}
use Rattle.round_write.proofs.write_second.Goals as goal

pub write_opening-requires : goal.write_opening-requires
write_opening-requires c = let p = c.requires in (p.half_s, p.half_e, p.drawings.secrets_sized, p.scratch, p.sided, p.opening)

pub write_answers-requires : goal.write_answers-requires
write_answers-requires c = let p = c.requires in (p.numbers, p.drawings, p.asked, p.answers)

pub returns : goal.returns
returns c = let o = c.write_opening in record { opening = o.ensures.0; answers = c.write_answers.ensures; cleared = c.wipe.ensures ∙ ap zeros o.ensures.1 }
