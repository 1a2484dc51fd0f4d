-- The check of a round against what a session holds (document 01, "Refused because of the state", the order of check after 31): the sheet's 1 to 5, then 1, 16, and the
-- round's own 5 to 13. What is held, what is lent, 1 and 16 stand in specs/Stored.antt. Assumes nothing.
use Rattle.std.specs.Prelude.{List, ◌++◌}
use Rattle.codec.specs.Slices.{Slice, MutSlice, given, lent}
use Rattle.codec.specs.Reply.{Test}
use Rattle.sheet.specs.Sheet.{order}
use Rattle.round.specs.Round.{round_tests}
use Rattle.commitment.specs.Parameters.{parameters_of}
use Rattle.session_check.specs.declared.stored.Stored.{Stored}
use Rattle.session_check.specs.Stored.{lent_tests}
use Rattle.session_check.specs.Stored.{Inputs, inputs_of, drawn_round}
unfoldable pub use Rattle.session_check.specs.Stored.{inputs_sized, stored_tests}

module _ (s : Stored) where
  -- before the round itself is looked at
  unfoldable pub early_tests : Inputs → List Test
  early_tests x = order x.sheet ++ lent_tests s x

  -- the round itself: 5 to 13
  unfoldable pub late_tests : Inputs → List Test
  late_tests x = round_tests (parameters_of x.sheet) s.closed (drawn_round s x)

-- what is lent, from the names of its slices in a contract
abbrev pub inputs_in : (sheet ballots claims head shares0 shares1 opening answers : Slice) (scratch : MutSlice) → Inputs
inputs_in sheet ballots claims head shares0 shares1 opening answers scratch =
    inputs_of (given sheet) (given ballots) (given claims) (given head) (given shares0) (given shares1) (given opening) (given answers) (lent scratch)
