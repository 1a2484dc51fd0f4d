-- What the extractor promises once the sheet is taken, and the same over the sheet. Assumes nothing.
use mathlib.Core.Path.{◌≡◌, refl, ap, subst, ◌∙◌}
use Prim.Native.Nat.{ℕ}
use lib.ListN.{replicate}
use Rattle.codec.specs.Bytes.{Bytes}
use Rattle.codec.specs.Reply.{leaves, packed, Reply}
use Rattle.sheet.specs.Sheet.{reading, Reading, Taken, Refused}
use Rattle.sheet.specs.Internal.{loaded}
use Rattle.sheet_numbers.specs.declared.Numbers.{Numbers}
use Rattle.scratch.specs.Call.{zeroized}
use Rattle.scratch.specs.Internal.{refusal}
use Rattle.scratch.proofs.Lent.{lent, order_taken, order_refused}
use Rattle.commitment.specs.Parameters.{Parameters, parameters, parameters_of}
use Rattle.commitment.proofs.Sheets.{parameters_are}
use Rattle.round.specs.Extractor.{Openings, ExtractRoom, extract_room}
use Rattle.round_lengths.specs.Calls.{openings_tests}
use Rattle.round_extract.specs.Extraction.{Extraction, extraction, answered, ExtractLeft}
use Rattle.round_extract.specs.Extraction as found
use Rattle.round_extract.specs.Internal.{ExtractWritten}
use Rattle.round_extract.specs.Replies.{extract_reply, extract_found, ExtractCalled}

-- the sheet is taken
pub extract_over : (text : Bytes) {public : Bytes} {s : Reading} {k : Numbers} → (s ≡ reading text) × (public ≡ loaded text (replicate 81920 0)) → s ≡ Taken k
    → (x : Openings) (before : ExtractRoom) {answer : Extraction} {after : ExtractRoom} → ExtractWritten (parameters k public) x before answer after → ExtractCalled text x before answer after
unfolding extract_reply
extract_over text load e x before {answer} {after} f = record {
  left =
      subst (λ (r : Reply). ExtractLeft (parameters_of text) x before r answer after) (order_taken text (openings_tests (parameters_of text) x before) (lent text load e).said refl)
      (subst (λ (P : Parameters). ExtractWritten P x before answer after) (parameters_are text load e) f);
}

-- with what it finds packed into an answer
pub extract_packed : {text : Bytes} {x : Openings} {before after : ExtractRoom} {found : Extraction} {answer : ℕ} → answer ≡ answered found → ExtractCalled text x before found after
    → (answer ≡ answered (extract_found text x before)) × ExtractCalled text x before (extract_found text x before) after
extract_packed {text} {x} {before} {after} e f = (e ∙ ap answered f.left.told, subst (λ (z : Extraction). ExtractCalled text x before z after) f.left.told f)

-- the sheet is refused
pub extract_unread : (text : Bytes) {s : Reading} {i : ℕ} → s ≡ reading text → s ≡ Refused i → (x : Openings) (room : ExtractRoom) {r : Reply} {w : Bytes} {answer : ℕ}
    → (r ≡ refusal s) × (w ≡ zeroized (refusal s) room.scratch) → answer ≡ packed r → (answer ≡ answered (extract_found text x room)) × ExtractCalled text x room (extract_found text x room) (extract_room room.out w)
unfolding extract_reply extraction leaves
extract_unread text {s} {i} f e x room {w = w} z is =
    extract_packed {found = found.Refused i 0} (is ∙ ap packed (z.0 ∙ ap refusal e)) (record {
      left =
          subst (λ (r : Reply). ExtractLeft (parameters_of text) x room r (found.Refused i 0) (extract_room room.out w)) (order_refused text (openings_tests (parameters_of text) x room) f e)
          (record { told = refl; out = refl; scratch = z.1 ∙ ap (λ (q : Reading). zeroized (refusal q) room.scratch) e });
    })
