-- What loads and products leave in the slots of scratch, at 0 and at 16,384, and what the next step asks of them. Assumes nothing.
use mathlib.Core.Path.{◌≡◌, refl, sym, ap, ◌∙◌}
use mathlib.Core.Logic.{inl, inr}
use Prim.Native.Nat.{ℕ, ◌+◌, ◌-◌, ◌*◌, ◌^◌, ◌≤◌, ◌<◌}
use native.Mathlib.Nat.{mod-mod}
use native.Mathlib.Omega.{arith}
use lib.IntN.{ℤ}
use lib.ListN.{length, length-replicate}
use Rattle.codec.specs.Bytes.{Bytes, put, zeros}
use Rattle.codec.proofs.Laws.{put_put}
use Rattle.modular.specs.Modulo.{remainder}
use Rattle.modular.proofs.Centring.{remainder_lt}
use Rattle.ring.specs.Poly.{Poly, plus, minus, scale, mul, modulo, Below}
use Rattle.ring.specs.Slots.{poly, slot, encode}
use Rattle.ring.specs.Internal.{store, Slots}
use Rattle.ring.specs.Ternary.{ternary}
use Rattle.ring.proofs.Bridge.{length_encode, encode_alike}
use Rattle.ring.proofs.Ranges.{below_ternary}
use Rattle.ring.proofs.Polynomials.{plus_comm, alike_eq, alike_refl, ◌so◌, alike_plus, alike_minus, alike_scale, alike_mul, below_modulo}
use Rattle.scratch.specs.Internal.{InSlot}
use Rattle.scratch.proofs.Slots.{Holds, holds_below, holds_alike, holds_slot, stored, stored_length, stored_other, loaded, copied, put_length, put_other, stands_alike, stands_stored}

-- the polynomial f is put into a slot, whatever stood there
pub record Loaded (q n at : ℕ) (f : Poly) (w w' : Bytes) : Type 0 where
  pub bytes : Bytes
  pub sized : length bytes ≡ 8 * n
  pub is : w' ≡ put w at bytes
  pub holds : Holds q n at f w'

module _ (q n : ℕ) (high : n ≤ 2048) (some : 3 ≤ q) (few : q < 2 ^ 56) where
  positive : 0 < q
  positive = omega arith

  -- ---- what the loads leave

  module _ (w w1 : Bytes) (at : ℕ) (l : length w ≡ 1048576) (h : at + 8 * n ≤ 1048576) where
    -- coefficients below q, written as they are
    pub written_load : (f : Poly) → Below q n f → w1 ≡ put w at (encode n f) → Loaded q n at f w w1
    written_load f b e = record { bytes = encode n f; sized = length_encode n f; is = e; holds = loaded q n positive few w w1 at (omega arith) f b e }

    pub ternary_load : (t : Bytes) → length t ≡ n → w1 ≡ put w at (encode (length t) (ternary q t)) → Loaded q n at (ternary q t) w w1
    ternary_load t lt e = written_load (ternary q t) (below_ternary q n t positive) (e ∙ ap (λ (k : ℕ). put w at (encode k (ternary q t))) lt)

    pub residues_load : (E : ℕ → ℤ) → w1 ≡ put w at (encode n (λ k. remainder q (E k))) → Loaded q n at (λ k. remainder q (E k)) w w1
    residues_load E e = written_load (λ k. remainder q (E k)) (record { at = λ k m. remainder_lt q (E k) positive }) e

    pub lent_load : (s : Bytes) → length s ≡ 8 * n → Below q n (poly s) → w1 ≡ put w at s → Loaded q n at (poly s) w w1
    lent_load s ls b e = record { bytes = s; sized = ls; is = e; holds = copied q n positive few w w1 at (omega arith) s ls b e }

  pub modulo_load : (w w1 : Bytes) (at : ℕ) (f : Poly) → length w ≡ 1048576 → at + 8 * n ≤ 1048576 → w1 ≡ put w at (encode n (modulo q f)) → Loaded q n at f w w1
  modulo_load w w1 at f l h e =
      let x = loaded q n positive few w w1 at (omega arith) (modulo q f) (below_modulo f positive) e in
      record { bytes = encode n (modulo q f); sized = length_encode n (modulo q f); is = e; holds = record { is = λ k m. x.is k m ∙ (unfold modulo in mod-mod (f k) q) } }

  pub stands_put : (f : Poly) (w w1 : Bytes) → length w ≡ 1048576 → w1 ≡ put w 0 (encode n (modulo q f)) → InSlot q n f w w1
  unfolding store
  stands_put f w w1 l e = stands_stored q n f w w w1 (omega arith) refl e

  -- what a slot asks that is loaded at any place
  pub loaded_asks : (at : ℕ) (f : Poly) (w w1 : Bytes) → length w ≡ 1048576 → at + 8 * n ≤ 1048576 → (x : Loaded q n at f w w1) → (at + 8 * n ≤ length w1) × Below q n (slot w1 at)
  loaded_asks at f w w1 l h x = (omega (arith, put_length q n w w1 at x.bytes (omega (arith, x.sized)) x.is), holds_below positive x.holds)

  -- x - g in a slot, where x was loaded
  pub subtracted : (at : ℕ) (f g : Poly) (w w1 w2 : Bytes) → length w ≡ 1048576 → at + 8 * n ≤ 1048576 → (x : Loaded q n at f w w1) → w2 ≡ store q n w1 at (minus q (slot w1 at) g) → w2 ≡ put w at (encode n (modulo q (minus q f g)))
  unfolding store
  subtracted at f g w w1 w2 l h x e =
      e ∙ ap (put w1 at) (encode_alike (alike_minus (holds_alike x.holds) alike_refl)) ∙ ap (λ (v : Bytes). put v at (encode n (modulo q (minus q f g)))) x.is
      ∙ put_put w at x.bytes (encode n (modulo q (minus q f g))) (omega (arith, x.sized)) (length_encode n (modulo q (minus q f g)) ∙ sym x.sized)

  -- ---- a polynomial is put at 0, and a lent one is subtracted

  module _ (f : Poly) (w w1 : Bytes) (l : length w ≡ 1048576) (x : Loaded q n 0 f w w1) where
    pub head_length_lem : length w1 ≡ length w
    head_length_lem = put_length q n w w1 0 x.bytes (omega (arith, x.sized)) x.is

    -- the length is still that of scratch
    pub loaded_length : length w1 ≡ 1048576
    loaded_length = head_length_lem ∙ l

    pub head_asks : (8 * n ≤ length w1) × Below q n (slot w1 0)
    head_asks = (omega (arith, head_length_lem), holds_below positive x.holds)

    module _ (g : Poly) (w2 : Bytes) (e2 : w2 ≡ store q n w1 0 (minus q (slot w1 0) g)) where
      less : Holds q n 0 (minus q (slot w1 0) g) w2
      less = stored q n positive few w1 w2 0 (omega (arith, head_length_lem)) (minus q (slot w1 0) g) e2

      less_length : length w2 ≡ length w
      less_length = stored_length q n positive few w1 w2 0 (omega (arith, head_length_lem)) (minus q (slot w1 0) g) e2 ∙ head_length_lem

      pub less_asks : (8 * n ≤ length w2) × Below q n (slot w2 0)
      less_asks = (omega (arith, less_length), holds_below positive less)

      -- and then another
      pub stands_less_twice : (g' : Poly) (w3 : Bytes) → w3 ≡ store q n w2 0 (minus q (slot w2 0) g') → InSlot q n (minus q (minus q f g) g') w w3
      stands_less_twice g' w3 e3 =
          stands_alike (stands_stored q n (minus q (slot w2 0) g') w w2 w3 (omega (arith, less_length)) less_length e3)
          (alike_minus (holds_alike less so alike_minus (holds_alike x.holds) alike_refl) alike_refl)

  -- ---- two polynomials are put at 0 and at 16,384

  module _ (f g : Poly) (w w1 w2 : Bytes) (l : length w ≡ 1048576) (x : Loaded q n 0 f w w1) (y : Loaded q n 16384 g w1 w2) where
    fits : 16384 + length y.bytes ≤ length w1
    fits = omega (arith, y.sized, head_length_lem f w w1 l x)

    pub both_length : length w2 ≡ length w
    both_length = put_length q n w1 w2 16384 y.bytes fits y.is ∙ head_length_lem f w w1 l x

    pub first_kept : Holds q n 0 f w2
    first_kept = put_other q n w1 w2 16384 y.bytes fits y.is (inl (omega arith)) x.holds

    pub both_asks : (length w2 ≡ 1048576) × Below q n (slot w2 0) × Below q n (slot w2 16384)
    both_asks = (both_length ∙ l, holds_below positive first_kept, holds_below positive y.holds)

  -- ---- a product at 0, with its room from 32,768 on

  module _ (w : Bytes) (a : Poly) (l : length w ≡ 1048576) (w1 : Bytes) (e1 : w1 ≡ put (store q n w 0 (mul q n (slot w 0) a)) 32768 (zeros (24 * n))) where
    abbrev product : Bytes
    product = store q n w 0 (mul q n (slot w 0) a)

    product_length : length product ≡ length w
    product_length = stored_length q n positive few w product 0 (omega arith) (mul q n (slot w 0) a) refl

    room : 32768 + length (zeros (24 * n)) ≤ length product
    room = let z : length (zeros (24 * n)) ≡ 24 * n = length-replicate (24 * n) 0 in omega (arith, product_length)

    pub length1 : length w1 ≡ length w
    length1 = put_length q n product w1 32768 (zeros (24 * n)) room e1 ∙ product_length

    pub x1 : Holds q n 0 (mul q n (slot w 0) a) w1
    x1 = put_other q n product w1 32768 (zeros (24 * n)) room e1 (inl (omega arith)) (stored q n positive few w product 0 (omega arith) (mul q n (slot w 0) a) refl)

    pub product_asks : (8 * n ≤ length w1) × Below q n (slot w1 0)
    product_asks = (omega (arith, length1), holds_below positive x1)

    -- what stood at 16,384 still does
    module _ (y : Below q n (slot w 16384)) where
      pub y1 : Holds q n 16384 (slot w 16384) w1
      y1 =
          put_other q n product w1 32768 (zeros (24 * n)) room e1 (inl (omega arith))
          (stored_other q n positive few w product 0 (omega arith) (mul q n (slot w 0) a) refl (inr (omega arith)) (holds_slot w y))

      pub scale_asks : (16384 + 8 * n ≤ length w1) × Below q n (slot w1 16384)
      scale_asks = (omega (arith, length1), holds_below positive y1)

    -- the product is subtracted from a lent v: v - x a
    module _ (w2 : Bytes) (e2 : w2 ≡ store q n w1 0 (scale (q - 1) (slot w1 0))) where
      negative_length : length w2 ≡ length w
      negative_length = stored_length q n positive few w1 w2 0 (omega (arith, length1)) (scale (q - 1) (slot w1 0)) e2 ∙ length1

      negative : Holds q n 0 (scale (q - 1) (slot w1 0)) w2
      negative = stored q n positive few w1 w2 0 (omega (arith, length1)) (scale (q - 1) (slot w1 0)) e2

      pub add_lent_asks : (8 * n ≤ length w2) × Below q n (slot w2 0)
      add_lent_asks = (omega (arith, negative_length), holds_below positive negative)

      pub stands_less_product : (s v : Poly) (w0 w3 : Bytes) → length w ≡ length w0 → Holds q n 0 s w → w3 ≡ store q n w2 0 (plus (slot w2 0) v) → InSlot q n (minus q v (mul q n s a)) w0 w3
      stands_less_product s v w0 w3 l0 h e3 =
          stands_alike (stands_stored q n (plus (slot w2 0) v) w0 w2 w3 (omega (arith, negative_length)) (negative_length ∙ l0) e3)
          (alike_plus (holds_alike negative so alike_scale (q - 1) (holds_alike x1 so alike_mul (holds_alike h) alike_refl)) alike_refl
          so alike_eq (plus_comm (scale (q - 1) (mul q n s a)) v))

  -- ---- slots at 0 and at 16,384 that are added

  pub add_slots_asks : {f g : Poly} (w : Bytes) → length w ≡ 1048576 → Holds q n 0 f w → Holds q n 16384 g w → Slots n 0 16384 w × Below q n (slot w 0) × Below q n (slot w 16384)
  add_slots_asks w l x y = (record { one = omega arith; other = omega arith; apart = inr (omega arith) }, holds_below positive x, holds_below positive y)
