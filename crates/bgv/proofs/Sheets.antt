-- A sheet that is taken has the room that the theorems ask for: its D and B are the bounds of noise and masks. Assumes nothing.
use mathlib.Core.Path.{◌≡◌}
use native.Mathlib.Omega.{arith}
use Rattle.codec.specs.Bytes.{Bytes}
use Rattle.sheet_numbers.specs.Plain.{plain, noise_bound_of, mask_bound_of}
use Rattle.sheet_numbers.proofs.Ranges.{usable}
use Rattle.sheet.specs.Sheet.{reading, Taken}
use Rattle.sheet_numbers.specs.declared.Numbers.{Numbers}
use Rattle.sheet.proofs.Taken.{taken}
use Rattle.bgv.specs.Internal.{Sound}
use Rattle.bgv.proofs.Round.{sound}

pub sheet_sound : (text : Bytes) (k : Numbers) → reading text ≡ Taken k → Sound k.modulus (plain k) (noise_bound_of k) (mask_bound_of k)
sheet_sound text k e =
    let t = taken text e in
    let u = usable k t.ranged t.sound in
    sound k.modulus (plain k) (noise_bound_of k) k.drown u.odd (omega (arith, t.ranged.plain_low)) u.apart t.sound.noise_fits
