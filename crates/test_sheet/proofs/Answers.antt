-- The replies of the call, and what a sheet leaves in a buffer. Assumes nothing.
use mathlib.Core.Path.{◌≡◌, ap, ◌∙◌}
use mathlib.Core.Bool.{not}
use mathlib.Core.List.{List, [], ◌∷◌}
use Prim.Native.Nat.{ℕ, ◌+◌, ◌*◌, ◌≤◌}
use native.Mathlib.Omega.{arith}
use borrow.Author.Tests.{eq-eqb, ne_eqb}
use lib.Dec.{eqb}
use lib.ListN.{length, take}
use Rattle.codec.specs.Bytes.{Bytes, put}
use Rattle.codec.specs.Reply.{Test, test, first}
use Rattle.codec.specs.Reply as reply
use Rattle.codec.proofs.Laws.{length_put, part_put}
use Rattle.sheet.specs.Reader.{sheet_of}
use Rattle.sheet.specs.Sheet.{reading, polynomials, Reading, Taken, Refused}
use Rattle.sheet.specs.Internal.{loaded}
use Rattle.sheet_numbers.specs.declared.Numbers.{Numbers}
use Rattle.sheet.proofs.Taken.{onwards, order_first, taken, length_polynomials}
use Rattle.test_sheet.specs.Polynomials.{sheet_polynomials_reply}

-- the call that writes the polynomials
module _ (text out : Bytes) where
  -- its own test, after the sheet's order
  abbrev own : List Test
  own = test 1 0 (not (eqb (length out) (40 * (sheet_of text).numbers.ring))) ∷ []

  by_reading : {r : Reading} → reading text ≡ r → sheet_polynomials_reply text out ≡ onwards r (first own)
  unfolding sheet_polynomials_reply
  by_reading e = order_first text own ∙ ap (λ (r : Reading). onwards r (first own)) e

  pub refused : {v : ℕ} → reading text ≡ Refused v → sheet_polynomials_reply text out ≡ reply.Refused v 0
  refused e = by_reading e

  pub wrong_length : {k : Numbers} → reading text ≡ Taken k → (length out ≡ 40 * k.ring → ⊥) → sheet_polynomials_reply text out ≡ reply.Refused 1 0
  unfolding first
  wrong_length {k} e h = by_reading e ∙ rw ((taken text e).numbers, ne_eqb (length out) (40 * k.ring) h)

  pub is_taken : {k : Numbers} → reading text ≡ Taken k → length out ≡ 40 * k.ring → sheet_polynomials_reply text out ≡ reply.Taken
  unfolding first
  is_taken {k} e h = by_reading e ∙ rw ((taken text e).numbers, eq-eqb (length out) (40 * k.ring) h)

-- what `load` leaves in a buffer: the polynomials at its head
pub record Loaded (text : Bytes) (k : Numbers) (b : Bytes) : Type 0 where
  pub fits : 40 * k.ring ≤ length b
  pub head : take (40 * k.ring) b ≡ polynomials text
  pub size : length (take (40 * k.ring) b) ≡ 40 * k.ring

pub load_taken : (text : Bytes) {k : Numbers} (d b : Bytes) → reading text ≡ Taken k → b ≡ loaded text d → 81920 ≤ length d → Loaded text k b
unfolding loaded
load_taken text {k} d b t g h =
    let l = length_polynomials text t in
    let w : b ≡ put d 0 (polynomials text) = g ∙ rw t in
    let m : 0 + length (polynomials text) ≤ length d = omega (arith, (taken text t).ranged.ring_high) in
    let a : take (40 * k.ring) b ≡ polynomials text = rw (← l, w) (part_put d 0 (polynomials text) m) in
    record { fits = rw (w, length_put d 0 (polynomials text) m) (omega arith); head = a; size = ap length a ∙ l }
