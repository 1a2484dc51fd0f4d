-- What the contracts of inner functions and the proofs go by: no exported contract and no claim cites this file. Assumes nothing.
use Rattle.codec.specs.Reply.{first}
use Rattle.commitment.specs.Parameters.{Parameters}
use Rattle.round.specs.Extractor.{Openings, ExtractRoom}
use Rattle.round_lengths.specs.Calls.{openings_tests}
use Rattle.round_extract.specs.Extraction.{Extraction, ExtractLeft}

abbrev pub ExtractWritten : Parameters → Openings → (before : ExtractRoom) → Extraction → (after : ExtractRoom) → Type 0
ExtractWritten P x before answer after = ExtractLeft P x before (first (openings_tests P x before)) answer after
