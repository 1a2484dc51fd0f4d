-- `register::write_early` meets its contract. Assumes nothing.
use mathlib.Core.Path.{refl}
use native.Mathlib.Omega.{arith}
use Rattle.codec.specs.Bytes.{bytes, zeros}
use Rattle.codec.proofs.Laws.{length_put, put_whole}
use Rattle.codec.proofs.Numbers.{length_bytes}
use Rattle.register.specs.Register as def
use Rattle.register.proofs.write_early.Goals as goal

pub write_entry-requires : goal.write_entry-requires
write_entry-requires c = (c.requires, rw c.write32.ensures (length_put (zeros 4) 0 (bytes 4 c.args.mark) (omega (arith, length_bytes 4 c.args.mark))), refl)

pub returns : goal.returns
unfolding def.withdrawn_early
returns c =
    let a = c.args in
    rw (c.write_entry.ensures, c.write32.ensures, put_whole (zeros 4) (bytes 4 a.mark) (length_bytes 4 a.mark))
