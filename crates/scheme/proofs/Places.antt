-- Polynomials that are written at places of an output, side by side. Assumes nothing.
use mathlib.Core.Path.{◌≡◌, sym, ap, ◌∙◌}
use mathlib.Core.List.{◌++◌, append_assoc}
use Prim.Native.Nat.{ℕ, ◌+◌, ◌*◌, ◌≤◌}
use native.Mathlib.Nat.{zero-add}
use native.Mathlib.Omega.{arith}
use lib.ListN.{length, length-append}
use Rattle.codec.specs.Bytes.{Bytes, part, put, zeros}
use Rattle.codec.proofs.Laws.{put_whole, put_append}
use Rattle.ring.specs.Slots.{coefficient_bytes}
use Rattle.ring.specs.Poly.{Poly, modulo}
use Rattle.ring.proofs.Bridge.{length_encode}
use Rattle.scratch.specs.Internal.{InSlot}
use Rattle.scratch.proofs.Zeroizing.{length_zeros}
use Rattle.commitment.specs.Commitment.{Pair, pair_bytes}
use Rattle.commitment.specs.Internal.{PairInSlots}
use Rattle.scheme.specs.Internal.{WrittenAt}

-- a polynomial that stands at the head of scratch, and what stands there written at a place
pub handed : {q n at : ℕ} {f : Poly} {w w' w'' d d' : Bytes} → InSlot q n f w w' → WrittenAt at (part w' 0 (8 * n)) d d' w' w'' → WrittenAt at (coefficient_bytes q n f) d d' w w''
handed {at = at} {d = d} h e = record { written = e.written ∙ ap (put d at) h.bytes; cleared = e.cleared ∙ ap zeros h.sized }

-- bytes behind those that were written before
next : (d d1 d2 s t : Bytes) (at : ℕ) → length s ≡ at → at + length t ≤ length d → d1 ≡ put d 0 s → d2 ≡ put d1 at t → d2 ≡ put d 0 (s ++ t)
next d d1 d2 s t at l h e f =
    f ∙ ap (λ (x : Bytes). put x at t) e ∙ ap (λ (k : ℕ). put (put d 0 s) k t) (sym l ∙ sym (zero-add (length s))) ∙ put_append d 0 s t (omega arith)

module _ (q n : ℕ) where
  abbrev bytes : Poly → Bytes
  bytes f = coefficient_bytes q n f

  sized : (f : Poly) → length (bytes f) ≡ 8 * n
  sized f = length_encode n (modulo q f)

  pub one_written : (f : Poly) (d d1 : Bytes) → length d ≡ 8 * n → d1 ≡ put d 0 (bytes f) → d1 ≡ bytes f
  one_written f d d1 l e = e ∙ put_whole d (bytes f) (sized f ∙ sym l)

  module _ (f g : Poly) where
    two_sized : length (bytes f ++ bytes g) ≡ 16 * n
    two_sized = length-append (bytes f) (bytes g) ∙ omega (arith, sized f, sized g)

    pub two_written : (d d1 d2 : Bytes) → length d ≡ 16 * n → d1 ≡ put d 0 (bytes f) → d2 ≡ put d1 (8 * n) (bytes g) → d2 ≡ bytes f ++ bytes g
    two_written d d1 d2 l e1 e2 = next d d1 d2 (bytes f) (bytes g) (8 * n) (sized f) (omega (arith, sized g)) e1 e2 ∙ put_whole d (bytes f ++ bytes g) (two_sized ∙ sym l)

    pub four_written : (h i : Poly) (d d1 d2 d3 d4 : Bytes) → length d ≡ 32 * n → d1 ≡ put d 0 (bytes f) → d2 ≡ put d1 (8 * n) (bytes g) → d3 ≡ put d2 (16 * n) (bytes h) → d4 ≡ put d3 (24 * n) (bytes i)
        → d4 ≡ bytes f ++ (bytes g ++ (bytes h ++ bytes i))
    four_written h i d d1 d2 d3 d4 l e1 e2 e3 e4 =
        let two = bytes f ++ bytes g in
        let l3 : length (two ++ bytes h) ≡ 24 * n = length-append two (bytes h) ∙ omega (arith, two_sized, sized h) in
        let p2 = next d d1 d2 (bytes f) (bytes g) (8 * n) (sized f) (omega (arith, sized g)) e1 e2 in
        let p3 = next d d2 d3 two (bytes h) (16 * n) two_sized (omega (arith, sized h)) p2 e3 in
        next d d3 d4 (two ++ bytes h) (bytes i) (24 * n) l3 (omega (arith, sized i)) p3 e4
        ∙ put_whole d ((two ++ bytes h) ++ bytes i) (length-append (two ++ bytes h) (bytes i) ∙ omega (arith, l3, sized i))
        ∙ append_assoc two (bytes h) (bytes i) ∙ append_assoc (bytes f) (bytes g) (bytes h ++ bytes i)

  -- the halves of a commitment, from the head of scratch and from where m was put
  pub pair_written : (c : Pair) (w w' d d1 d2 : Bytes) → PairInSlots q n c w w' → length d ≡ 16 * n → d1 ≡ put d 0 (part w' 0 (8 * n)) → d2 ≡ put d1 (8 * n) (part w' 49152 (8 * n)) → d2 ≡ pair_bytes q n c
  unfolding pair_bytes
  pair_written c w w' d d1 d2 h l e1 e2 = two_written c.one c.two d d1 d2 l (e1 ∙ ap (put d 0) h.one) (e2 ∙ ap (put d1 (8 * n)) h.two)

-- scratch that is zeroed again
pub zeros_again : (n : ℕ) {w w' : Bytes} → w ≡ zeros n → w' ≡ zeros (length w) → w' ≡ zeros n
zeros_again n {w} e f = f ∙ ap zeros (length_zeros {w = w} {n = n} e)
