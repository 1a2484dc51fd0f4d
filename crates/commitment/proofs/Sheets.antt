-- A sheet that is taken, by the bytes that its polynomials were put into: what calls are given of it, and that its parameters are those of its text. Assumes nothing.
use mathlib.Core.Path.{◌≡◌, refl, sym, ap, subst, ◌∙◌}
use Prim.Native.Nat.{ℕ, ◌+◌, ◌*◌, ◌≤◌}
use native.Mathlib.Nat.{zero-add}
use native.Mathlib.Omega.{arith}
use lib.ListN.{length, take, drop, replicate, length-replicate}
use Rattle.codec.specs.Bytes.{Bytes, part, put}
use Rattle.codec.proofs.Laws.{length_part, part_part, part_put}
use Rattle.sheet.specs.Sheet.{reading, polynomials, Reading, Taken}
use Rattle.sheet.specs.Internal.{loaded, buffer_after}
use Rattle.sheet.proofs.Taken.{taken, length_polynomials}
use Rattle.sheet_numbers.specs.declared.Numbers.{Numbers}
use Rattle.scratch.specs.Internal.{Polynomial}
use Rattle.scratch.proofs.Lent.{Lent, lent}
use Rattle.commitment.specs.Internal.{PublicKeys, Loaded}
use Rattle.commitment.specs.Loaded.{a_of, b_of, key_bytes}
use Rattle.commitment.specs.Parameters.{parameters, parameters_by, parameters_of}

-- ---- the sheet's k1, k2, k3 in a part of the bytes

module _ {text public : Bytes} {k : Numbers} (h : Lent text public k) (from long : ℕ) (starts : from ≡ 16 * k.ring) (ends : long ≡ 24 * k.ring) where
  abbrev n : ℕ
  n = k.ring

  abbrev keys : Bytes
  keys = take long (drop from public)

  -- a polynomial of them is one of the sheet's
  third : (at : ℕ) → at + 8 * n ≤ 24 * n → part keys at (8 * n) ≡ take (8 * n) (drop (from + at) public)
  third at l = part_part public from long at (8 * n) (omega arith)

  pub lent_keys : PublicKeys n k.modulus keys
  lent_keys = record {
    sized = length_part public from long (omega (arith, h.sized, h.ranged.in_range.ring_high)) ∙ ends;
    one = subst (Polynomial n k.modulus) (sym (third 0 (omega arith))) (h.polynomial 2 (from + 0) (8 * n) (omega arith) (omega arith) refl);
    two = subst (Polynomial n k.modulus) (sym (third (8 * n) (omega arith))) (h.polynomial 3 (from + 8 * n) (8 * n) (omega arith) (omega arith) refl);
    three = subst (Polynomial n k.modulus) (sym (third (16 * n) (omega arith))) (h.polynomial 4 (from + 16 * n) (8 * n) (omega arith) (omega arith) refl);
  }

-- all that is known of the bytes that the polynomials of a taken sheet were put into
pub sheet_loaded : {text public : Bytes} {k : Numbers} → Lent text public k → Loaded k public
sheet_loaded {text} {public} {k} h =
    let n = k.ring in
    record {
      numbers = h.ranged;
      a = h.polynomial 0 0 (8 * n) (omega arith) (omega arith) refl;
      b = h.polynomial 1 (8 * n) (8 * n) (omega arith) (omega arith) refl;
      keys = lent_keys h (16 * n) (24 * n) refl refl;
      sized = omega (arith, h.sized, h.ranged.in_range.ring_high);
    }

-- ---- the parameters

module _ (text : Bytes) {public : Bytes} {r : Reading} {k : Numbers} (load : (r ≡ reading text) × (public ≡ loaded text (replicate 81920 0))) (e : r ≡ Taken k) where
  said : reading text ≡ Taken k
  said = sym load.0 ∙ e

  held : public ≡ put (replicate 81920 0) 0 (polynomials text)
  unfolding loaded
  held = load.1 ∙ ap (λ (x : Reading). buffer_after x text (replicate 81920 0)) said

  long : length (polynomials text) ≡ 40 * k.ring
  long = length_polynomials text said

  high : k.ring ≤ 2048
  high = (taken text said).ranged.ring_high

  -- a part of the bytes is that part of the polynomials
  lent_part : (from size : ℕ) → from + size ≤ 40 * k.ring → part public from size ≡ part (polynomials text) from size
  lent_part from size l =
      ap (λ (b : Bytes). part b from size) held
      ∙ ap (λ (x : ℕ). part (put (replicate 81920 0) 0 (polynomials text)) x size) (sym (zero-add from))
      ∙ sym (part_part (put (replicate 81920 0) 0 (polynomials text)) 0 (length (polynomials text)) from size (omega (arith, long)))
      ∙ ap (λ (b : Bytes). part b from size) (part_put (replicate 81920 0) 0 (polynomials text) (omega (arith, long, high, length-replicate {A = ℕ} 81920 0)))

  pub parameters_are : parameters k public ≡ parameters_of text
  parameters_are =
      ap (λ (x : Bytes). parameters_by k x (b_of k public) (key_bytes k public)) (lent_part 0 (8 * k.ring) (omega arith))
      ∙ ap (λ (x : Bytes). parameters_by k (a_of k (polynomials text)) x (key_bytes k public)) (lent_part (8 * k.ring) (8 * k.ring) (omega arith))
      ∙ ap (parameters_by k (a_of k (polynomials text)) (b_of k (polynomials text))) (lent_part (16 * k.ring) (24 * k.ring) (omega arith))
      ∙ ap (λ (x : Numbers). parameters x (polynomials text)) (sym (lent text load e).numbers)
