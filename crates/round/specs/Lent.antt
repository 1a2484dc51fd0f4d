-- What the producer's calls are lent, from the names of their slices in a contract: what stands in them at entry (`..In`) and at exit (`..Out`). Assumes nothing.
use Rattle.codec.specs.Slices.{Slice, MutSlice, given, lent, left}
use Rattle.round.specs.Producer.{Material, material_of}
use Rattle.round.specs.Writes.{FirstRoom, first_room, SecondRoom, second_room}

abbrev pub material_in : (secrets s0 e0 masks0 masks1 vectors permutations salts ballots : Slice) → Material
material_in secrets s0 e0 masks0 masks1 vectors permutations salts ballots =
    material_of (given secrets) (given s0) (given e0) (given masks0) (given masks1) (given vectors) (given permutations) (given salts) (given ballots)

module _ (head shares0 shares1 claims scratch : MutSlice) where
  abbrev pub first_in : FirstRoom
  first_in = first_room (lent head) (lent shares0) (lent shares1) (lent claims) (lent scratch)

  abbrev pub first_out : FirstRoom
  first_out = first_room (left head) (left shares0) (left shares1) (left claims) (left scratch)

module _ (opening answers scratch : MutSlice) where
  abbrev pub second_in : SecondRoom
  second_in = second_room (lent opening) (lent answers) (lent scratch)

  abbrev pub second_out : SecondRoom
  second_out = second_room (left opening) (left answers) (left scratch)
