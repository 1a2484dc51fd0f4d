-- A call by what is said of its sheet: refused with it, or on with the rest of its order and the sheet's polynomials. Assumes nothing.
use mathlib.Core.Path.{◌≡◌, sym, ap, ap₂, ◌∙◌}
use mathlib.Core.List.{List, [], ◌++◌}
use Prim.Native.Nat.{ℕ, ◌*◌, ◌<◌}
use native.Mathlib.Omega.{arith}
use lib.ListN.{length, take, drop, replicate, get_or, length-replicate}
use Rattle.codec.specs.Bytes.{Bytes, part, put}
use Rattle.codec.specs.Reply.{Test, first, Reply}
use Rattle.codec.specs.Reply as reply
use Rattle.ring.specs.Poly.{Alike}
use Rattle.ring.specs.Slots.{poly}
use Rattle.sheet.specs.Reader.{sheet_of}
use Rattle.sheet.specs.Sheet.{order, reading, lists, polynomials, Reading, Taken, Refused}
use Rattle.sheet.specs.Internal.{buffer_after, loaded}
use Rattle.sheet_numbers.specs.declared.Numbers.{Numbers}
use Rattle.sheet_numbers.specs.Internal.{Usable}
use Rattle.sheet_numbers.proofs.Ranges.{usable}
use Rattle.sheet.proofs.Taken.{onwards, order_first, taken}
use Rattle.scratch.specs.Call.{coefficients}
use Rattle.scratch.specs.Internal.{Polynomial}
use Rattle.scratch.proofs.Sheets.{put_room, lent_public, lent_alike}

-- what holds where the sheet was taken with the numbers k, and its polynomials were put into lent bytes: polynomial i is the part of them from 8N i on
pub record Lent (text public : Bytes) (k : Numbers) : Type 0 where
  pub said : reading text ≡ Taken k
  pub numbers : (sheet_of text).numbers ≡ k
  pub ranged : Usable k
  pub sized : length public ≡ 81920
  pub polynomial : (i from long : ℕ) → i < 5 → from ≡ 8 * k.ring * i → long ≡ 8 * k.ring → Polynomial k.ring k.modulus (take long (drop from public))
  pub alike : (i from long : ℕ) → i < 5 → from ≡ 8 * k.ring * i → long ≡ 8 * k.ring → Alike k.modulus k.ring (poly (take long (drop from public))) (coefficients (get_or (lists (sheet_of text)) i []))

-- that is so after `sheet::load` into zeros
module _ (text : Bytes) {public : Bytes} {r : Reading} {k : Numbers} (load : (r ≡ reading text) × (public ≡ loaded text (replicate 81920 0))) (e : r ≡ Taken k) where
  abbrev d : Bytes
  d = replicate 81920 0

  room : length d ≡ 81920
  room = length-replicate {A = ℕ} 81920 0

  said : reading text ≡ Taken k
  said = sym load.0 ∙ e

  -- what the bytes hold
  held : public ≡ put d 0 (polynomials text)
  unfolding loaded
  held = load.1 ∙ ap (λ (x : Reading). buffer_after x text d) said

  -- a part of them
  held_part : (i from long : ℕ) → from ≡ 8 * k.ring * i → long ≡ 8 * k.ring → take long (drop from public) ≡ part (put d 0 (polynomials text)) (8 * k.ring * i) (8 * k.ring)
  held_part i from long g h = ap₂ (λ (x y : ℕ). take x (drop y public)) h g ∙ ap (λ (s : Bytes). part s (8 * k.ring * i) (8 * k.ring)) held

  pub lent : Lent text public k
  lent = record {
    said = said;
    numbers = (taken text said).numbers;
    ranged = let t = taken text said in usable k t.ranged t.sound;
    sized = ap length held ∙ put_room text k said d room 0 (omega arith);
    polynomial = λ i from long l g h. lent_public text k said d room i l _ (held_part i from long g h);
    alike = λ i from long l g h. lent_alike text k said d room i l _ (held_part i from long g h);
  }

-- ---- the order of a call, by what is said of its sheet

-- it is taken: the rest of the order decides
pub order_taken : (text : Bytes) {k : Numbers} {r : Reply} (ts : List Test) → reading text ≡ Taken k → r ≡ first ts → r ≡ first (order text ++ ts)
order_taken text ts said e = e ∙ sym (order_first text ts ∙ ap (λ (s : Reading). onwards s (first ts)) said)

-- it is refused, and the call with it
pub order_refused : (text : Bytes) {s : Reading} {n : ℕ} (ts : List Test) → s ≡ reading text → s ≡ Refused n → reply.Refused n 0 ≡ first (order text ++ ts)
order_refused text ts f e = sym (order_first text ts ∙ ap (λ (z : Reading). onwards z (first ts)) (sym f ∙ e))
