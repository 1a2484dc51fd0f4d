-- What the extractor's call answers (document 01, the extractor's paragraph and "Refused because of the state"): what it found, or its refusal; and what it comes to
-- once the sheet is taken: its answer, its output and scratch. Assumes nothing.
use Rattle.std.specs.Prelude.{◌≡◌, ℕ, ◌+◌, ◌*◌, Result, Ok, Err}
use Rattle.codec.specs.Reply.{leaves, Reply}
use Rattle.codec.specs.Reply as reply
use Rattle.codec.specs.Refusal.{number_of_refusal, place_of_refusal}
use Rattle.codec.specs.declared.Refusal.{Refusal}
use Rattle.scratch.specs.Call.{zeroized}
use Rattle.commitment.specs.Parameters.{Parameters}
use Rattle.round.specs.Extractor.{Openings, ExtractRoom, kind, extracted}
use Rattle.round_lengths.specs.Calls.{count_of}
use Rattle.round_search.specs.declared.Finding.{Finding}
use Rattle.round_search.specs.Finding.{number_of_finding}

-- what the call answers: the kind of what it found; or refused, with document 01's number and place
pub data Extraction : Type 0 where
  Found : ℕ → Extraction
  Refused : ℕ → ℕ → Extraction

-- the one that a result is, by the kind of what is found, and the number and the place of what refuses
abbrev pub extraction_by : {K E : Type 0} → (K → ℕ) → (E → ℕ) → (E → ℕ) → Result K E → Extraction
extraction_by kind number place (Ok found) = Found (kind found)
extraction_by kind number place (Err why) = Refused (number why) (place why)

-- the one that a result of the code is
abbrev pub as_extraction : Result Finding Refusal → Extraction
as_extraction = extraction_by number_of_finding number_of_refusal place_of_refusal

-- by the reply of its tests, and the kind of what openings and answers give where they are taken
unfoldable pub extraction : Reply → (kind : ℕ) → Extraction
extraction reply.Taken kind = Found kind
extraction (reply.Refused number place) kind = Refused number place

-- the one number that the C host is answered: 256 times the kind, or a refusal's number and 256 times its place
abbrev pub answered : Extraction → ℕ
answered (Found kind) = 256 * kind
answered (Refused number place) = number + 256 * place

-- with the reply of the tests of what is lent
pub record ExtractLeft (P : Parameters) (x : Openings) (before : ExtractRoom) (reply : Reply) (answer : Extraction) (after : ExtractRoom) : Type 0 where
  pub told : answer ≡ extraction reply (kind P (count_of P.N x.ballots) x)
  pub out : after.out ≡ leaves reply (extracted P (count_of P.N x.ballots) x) before.out
  pub scratch : after.scratch ≡ zeroized reply before.scratch
