-- What the producer's calls promise once the sheet is taken, and the same over the sheet. Assumes nothing.
use mathlib.Core.Path.{◌≡◌, refl, sym, ap, subst, ◌∙◌}
use Prim.Native.Nat.{ℕ}
use lib.ListN.{replicate}
use Rattle.codec.specs.Bytes.{Bytes}
use Rattle.codec.specs.Reply.{packed, leaves, Reply}
use Rattle.sheet.specs.Sheet.{reading, Reading, Taken, Refused}
use Rattle.sheet.specs.Internal.{loaded}
use Rattle.sheet_numbers.specs.declared.Numbers.{Numbers}
use Rattle.scratch.specs.Call.{zeroized}
use Rattle.scratch.specs.Internal.{refusal}
use Rattle.scratch.proofs.Lent.{lent, order_taken, order_refused}
use Rattle.commitment.specs.Parameters.{Parameters, parameters}
use Rattle.commitment.proofs.Sheets.{parameters_are}
use Rattle.round.specs.Producer.{Material}
use Rattle.round.specs.Writes.{FirstRoom, first_room, SecondRoom, second_room}
use Rattle.round_produce.specs.Internal.{FirstWritten, SecondWritten}
use Rattle.round_produce.specs.Replies.{first_reply, FirstCalled, second_reply, SecondCalled}

-- ---- the sheet is taken

module _ (text : Bytes) {public : Bytes} {s : Reading} {k : Numbers} (load : (s ≡ reading text) × (public ≡ loaded text (replicate 81920 0))) (e : s ≡ Taken k) (x : Material) where
  pub first_over : (before : FirstRoom) {after : FirstRoom} {r : Reply} → FirstWritten (parameters k public) x before r after → FirstCalled text x before r after
  unfolding first_reply
  first_over before {after} {r} f =
      let g = subst (λ (P : Parameters). FirstWritten P x before r after) (parameters_are text load e) f in
      record { replied = order_taken text _ (lent text load e).said g.replied; left = g.left; cleared = g.cleared }

  pub second_over : (side : ℕ) (challenges : Bytes) (before : SecondRoom) {after : SecondRoom} {r : Reply} → SecondWritten (parameters k public) x side challenges before r after
      → SecondCalled text x side challenges before r after
  unfolding second_reply
  second_over side challenges before {after} {r} f =
      let g = subst (λ (P : Parameters). SecondWritten P x side challenges before r after) (parameters_are text load e) f in
      record { replied = order_taken text _ (lent text load e).said g.replied; left = g.left; cleared = g.cleared }

-- ---- it is refused

module _ (text : Bytes) {s : Reading} {i : ℕ} (f : s ≡ reading text) (e : s ≡ Refused i) (x : Material) where
  pub first_unread : (room : FirstRoom) {r : Reply} {w : Bytes} → (r ≡ refusal s) × (w ≡ zeroized (refusal s) room.scratch) → FirstCalled text x room r (first_room room.head room.shares0 room.shares1 room.claims w)
  unfolding first_reply leaves
  first_unread room {w = w} z =
      subst (λ (q : Reply). FirstCalled text x room q (first_room room.head room.shares0 room.shares1 room.claims w)) (sym (z.0 ∙ ap refusal e))
      (record { replied = order_refused text _ f e; left = record { head = refl; shares0 = refl; shares1 = refl; claims = refl }; cleared = z.1 ∙ ap (λ (q : Reading). zeroized (refusal q) room.scratch) e })

  pub second_unread : (side : ℕ) (challenges : Bytes) (room : SecondRoom) {r : Reply} {w : Bytes} → (r ≡ refusal s) × (w ≡ zeroized (refusal s) room.scratch) → SecondCalled text x side challenges room r (second_room room.opening room.answers w)
  unfolding second_reply leaves
  second_unread side challenges room {w = w} z =
      subst (λ (q : Reply). SecondCalled text x side challenges room q (second_room room.opening room.answers w)) (sym (z.0 ∙ ap refusal e))
      (record { replied = order_refused text _ f e; left = record { opening = refl; answers = refl }; cleared = z.1 ∙ ap (λ (q : Reading). zeroized (refusal q) room.scratch) e })

-- ---- with the reply packed into an answer

pub first_packed : {text : Bytes} {x : Material} {before after : FirstRoom} {r : Reply} {answer : ℕ} → answer ≡ packed r → FirstCalled text x before r after
    → (answer ≡ packed (first_reply text x before)) × FirstCalled text x before (first_reply text x before) after
first_packed {text} {x} {before} {after} e f = (e ∙ ap packed f.replied, subst (λ (r : Reply). FirstCalled text x before r after) f.replied f)

pub second_packed : {text : Bytes} {x : Material} {side : ℕ} {challenges : Bytes} {before after : SecondRoom} {r : Reply} {answer : ℕ} → answer ≡ packed r → SecondCalled text x side challenges before r after
    → (answer ≡ packed (second_reply text x side challenges before)) × SecondCalled text x side challenges before (second_reply text x side challenges before) after
second_packed {text} {x} {side} {challenges} {before} {after} e f = (e ∙ ap packed f.replied, subst (λ (r : Reply). SecondCalled text x side challenges before r after) f.replied f)
