-- The extractor over the sheet and lent bytes (document 01, the paragraph on the extractor): its reply, which is the sheet's own order and then that of the call, and
-- what it answers and leaves. Assumes nothing.
use Rattle.std.specs.Prelude.{◌++◌}
use Rattle.codec.specs.Bytes.{Bytes}
use Rattle.codec.specs.Reply.{first, Reply}
use Rattle.sheet.specs.Sheet.{order}
use Rattle.round.specs.Extractor.{Openings, ExtractRoom, kind}
use Rattle.round_lengths.specs.Calls.{openings_tests}
use Rattle.round_lengths.specs.Sheets.{ballots_in}
use Rattle.round_extract.specs.Extraction.{Extraction, extraction, ExtractLeft}
use Rattle.commitment.specs.Parameters.{parameters_of}

unfoldable pub extract_reply : (text : Bytes) → Openings → ExtractRoom → Reply
extract_reply text x room = first (order text ++ openings_tests (parameters_of text) x room)

-- what it finds, or its refusal
abbrev pub extract_found : (text : Bytes) → Openings → ExtractRoom → Extraction
extract_found text x room = extraction (extract_reply text x room) (kind (parameters_of text) (ballots_in text x.ballots) x)

pub record ExtractCalled (text : Bytes) (x : Openings) (before : ExtractRoom) (answer : Extraction) (after : ExtractRoom) : Type 0 where
  pub left : ExtractLeft (parameters_of text) x before (extract_reply text x before) answer after
