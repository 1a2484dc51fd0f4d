-- What a check and the extractor are lent, from the names of their slices in a contract: what stands in them at entry, and in its room at exit. Assumes nothing.
use Rattle.std.specs.Prelude.{ℕ}
use Rattle.codec.specs.Slices.{Slice, MutSlice, given, lent, left}
use Rattle.round.specs.Extractor.{Openings, openings_of, ExtractRoom, extract_room}

abbrev pub openings_in : (head shares0 shares1 ballots claims opening0 opening1 : Slice) (repetition : ℕ) (answer1 answer2 answer3 : Slice) → Openings
openings_in head shares0 shares1 ballots claims opening0 opening1 repetition answer1 answer2 answer3 =
    openings_of (given head) (given shares0) (given shares1) (given ballots) (given claims) (given opening0) (given opening1) repetition (given answer1) (given answer2) (given answer3)

abbrev pub extract_in : (out scratch : MutSlice) → ExtractRoom
extract_in out scratch = extract_room (lent out) (lent scratch)

abbrev pub extract_out : (out scratch : MutSlice) → ExtractRoom
extract_out out scratch = extract_room (left out) (left scratch)
