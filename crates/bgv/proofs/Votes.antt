-- What is read from the coefficients at the head of scratch: a vote, byte by byte, and a mask that is worked out. Assumes nothing.
use mathlib.Core.Path.{◌≡◌, sym, ap, ap₂, ◌∙◌}
use mathlib.Core.List.{[], ◌∷◌}
use Prim.Native.Nat.{ℕ, suc, ◌+◌, ◌%◌, ◌^◌, ◌<◌}
use native.Mathlib.Numerals.{add-one}
use native.Mathlib.Omega.{arith}
use lib.IntN.{nat_abs}
use lib.ListN.{length}
use Rattle.codec.specs.Bytes.{Bytes, put}
use Rattle.codec.proofs.Laws.{put_none, put_whole, put_append}
use Rattle.codec.specs.Lists.{list, all_below}
use Rattle.codec.proofs.Lists.{length_list, list_cong}
use Rattle.modular.specs.Modulo.{centre, remainder}
use Rattle.modular.specs.Division.{inverse, divide}
use Rattle.modular.proofs.Congruence.{mod_mul_left}
use Rattle.modular.proofs.Centring.{centre_mod}
use Rattle.ring.specs.Poly.{Poly}
use Rattle.ring.specs.Slots.{poly}
use Rattle.scratch.specs.Internal.{InSlot}
use Rattle.scratch.proofs.Slots.{stands_poly}
use Rattle.bgv.specs.Scheme.{plaintext, within}

-- d with the first i bytes of a vote
pub voted : Bytes → Poly → ℕ → Bytes
voted d f i = put d 0 (list i f)

module _ (d : Bytes) (f : Poly) where
  pub voted_none : d ≡ voted d f 0
  unfolding voted list
  voted_none = sym (put_none d 0)

  pub voted_more : (i : ℕ) (v v' : Bytes) (x : ℕ) → v ≡ voted d f i → i < length d → x ≡ f i → v' ≡ put v i (x ∷ []) → v' ≡ voted d f (i + 1)
  unfolding voted list
  voted_more i v v' x e h p r =
      r ∙ ap₂ (λ (w : Bytes) (y : ℕ). put w i (y ∷ [])) e p
      ∙ ap (λ (j : ℕ). put (put d 0 (list i f)) j (f i ∷ [])) (sym (omega (arith, length_list i f)))
      ∙ put_append d 0 (list i f) (f i ∷ []) (omega (arith, length_list i f)) ∙ ap (λ (j : ℕ). put d 0 (list j f)) (sym (add-one i))

  pub voted_all : (n : ℕ) → length d ≡ n → voted d f n ≡ list n f
  unfolding voted
  voted_all n h = put_whole d (list n f) (length_list n f ∙ sym h)

-- the vote goes by what the coefficients are modulo q
pub plain_stands : (q p n : ℕ) (f : Poly) (w w' : Bytes) → 0 < q → q < 2 ^ 56 → InSlot q n f w w' → list n (plaintext q p (poly w')) ≡ list n (plaintext q p f)
unfolding plaintext
plain_stands q p n f w w' h b s = list_cong n (λ k l. ap (remainder p) (ap (centre q) (stands_poly q n f w w' s h b k l) ∙ centre_mod q (f k)))

divide_mod : (q p x : ℕ) → divide q p (x % q) ≡ divide q p x
unfolding divide
divide_mod q p x = mod_mul_left q x (inverse q p)

-- and so does the bound of a mask that is worked out
pub quotients_stand : (q p n K : ℕ) (f : Poly) (w w' : Bytes) → 0 < q → q < 2 ^ 56 → InSlot q n f w w'
    → within K n (λ k. centre q (divide q p (poly w' k))) ≡ within K n (λ k. centre q (divide q p (f k)))
unfolding within
quotients_stand q p n K f w w' h b s =
    ap (all_below (suc K)) (list_cong n (λ k l. ap (λ (x : ℕ). nat_abs (centre q x)) (ap (divide q p) (stands_poly q n f w w' s h b k l) ∙ divide_mod q p (f k))))
