-- The words that the contracts of inner functions share, from the files that define them, so that a file of code names them in a line or two. Defines nothing. Assumes nothing.
pub use Rattle.codec.specs.Bytes.{part, put, same, words}
pub use Rattle.codec.specs.Lists.{all_below}
pub use Rattle.codec.specs.Reply.{first}
pub use Rattle.codec.specs.Slices.{given, left}
pub use Rattle.ring.specs.Poly.{Below, minus, plus}
pub use Rattle.ring.specs.Slots.{poly, slot}
pub use Rattle.sheet_numbers.specs.Internal.{Usable}
pub use Rattle.scratch.specs.Call.{bytes_below, coefficients_below, scratch_length}
pub use Rattle.scratch.specs.Internal.{Computed, Free, Polynomial}
