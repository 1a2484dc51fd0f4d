-- `codec::write8` meets its contract. Assumes nothing.
use mathlib.Core.Path.{sym}
use Rattle.codec.proofs.Laws.{put_one}
use Rattle.codec.proofs.write8.Goals as goal

pub returns : goal.returns
returns c = sym (put_one c.args.d.now c.args.at c.args.v c.requires)
