-- The words that the contracts of inner functions share, from the files that define them, so that a file of code names them in a line or two. Defines nothing. Assumes nothing.
pub use Rattle.codec.specs.Bytes.{Bytes, part, put, same, zeros}
pub use Rattle.codec.specs.Lists.{all, all_below, list}
pub use Rattle.codec.specs.Reply.{first}
pub use Rattle.codec.specs.Slices.{given, left}
pub use Rattle.ring.specs.Poly.{Below, modulo}
pub use Rattle.ring.specs.Slots.{coefficient_bytes, encode, poly, slot}
pub use Rattle.ring.specs.Ternary.{ternary}
pub use Rattle.vector.specs.Vector.{vector}
pub use Rattle.sheet_numbers.specs.Internal.{Usable}
pub use Rattle.sheet_numbers.specs.Plain.{mask_bound_of, noise_bound_of, plain}
pub use Rattle.scratch.specs.Call.{scratch_length, zeroized}
pub use Rattle.scratch.specs.Internal.{Free, Judged, Polynomial, Tried}
pub use Rattle.bgv.specs.Scheme.{other, within}
pub use Rattle.commitment.specs.Commitment.{keys_of, three_of}
pub use Rattle.commitment.specs.Internal.{Loaded, PublicKeys}
pub use Rattle.commitment.specs.Loaded.{key_bytes}
pub use Rattle.commitment.specs.Parameters.{parameters}
pub use Rattle.stern.specs.Internal.{RepetitionMaterial}
pub use Rattle.stern.specs.Shortness.{answer_length, answer_tests, drawn_of, in_range}
pub use Rattle.round.specs.Internal.{Batch, SharesLent, material_lent, round_in}
pub use Rattle.round.specs.Layout.{answers_length, ballot_length, head_length, opening_of, pairs_of}
pub use Rattle.round.specs.Lent.{first_in, first_out, second_in, second_out}
pub use Rattle.round.specs.Producer.{mask_tests, noise_tests, permutation_tests, s_in}
pub use Rattle.round.specs.Round.{answers_tests, is_challenge, of_side, votes_tests}
pub use Rattle.round.specs.RoundSlices.{extract_in, openings_in}
