-- Document 01's number of each kind of what openings and answers give away. Assumes nothing.
use Rattle.std.specs.Prelude.{ℕ}
use Rattle.round_collision.specs.Digests.{number_of_digest}
use Rattle.round_search.specs.declared.Finding.{Finding}
use Rattle.round_search.specs.declared.Finding.TheVariants.{Collision, VectorForS, VectorForE, Key}

abbrev pub number_of_finding : Finding → ℕ
number_of_finding (Collision digest) = number_of_digest digest
number_of_finding VectorForS = 4
number_of_finding VectorForE = 5
number_of_finding Key = 6
