-- The bytes that digest 1 covers, as they stand in scratch pair by pair, are the numbers of the equations. Assumes nothing.
use mathlib.Core.Path.{◌≡◌, refl, sym, ap, ap₂, ◌∙◌}
use mathlib.Core.Bool.{Bool, true, false, cond}
use mathlib.Core.List.{List, [], ◌∷◌, ◌++◌, append_assoc}
use Prim.Native.Nat.{ℕ, suc, ◌+◌, ◌-◌, ◌*◌, ◌%◌, ◌≤◌, ◌<◌}
use native.Mathlib.Nat.{mul-le-mul, mul-suc, mul_comm, mul_assoc, mul-add}
use native.Mathlib.Omega.{arith}
use lib.ListN.{length, take}
use lib.Seq.{get_or-take}
use Rattle.codec.specs.Bytes.{Bytes, part, words}
use Rattle.codec.proofs.Numbers.{words_append}
use Rattle.codec.proofs.Lists.{length_list}
use Rattle.sha3.specs.Sponge.{sha3}
use Rattle.hasher.specs.declared.Hasher.{Hasher}
use Rattle.hasher.specs.Internal.{holding, updated, finished}
use Rattle.hasher.proofs.Laws.{taken, finished_holding}
use Rattle.modular.proofs.Congruence.{same_eq}
use Rattle.ring.specs.Poly.{Poly, plus, minus, modulo, Alike}
use Rattle.ring.specs.Slots.{slot, encode}
use Rattle.ring.proofs.Polynomials.{plus_assoc, plus_comm, scale_plus, alike_eq, alike_refl, ◌so◌, alike_plus, minus_self}
use Rattle.commitment.specs.Commitment.{Keys, Pair, Alike3, plus3, row, second, pair_bytes}
use Rattle.commitment.specs.Internal.{PairInSlots}
use Rattle.commitment.proofs.Additive.{row_alike, second_alike}
use Rattle.vector.specs.Vector.{vector, subtract}
use Rattle.vector.proofs.Vectors.{add_subtract}
use Rattle.stern.specs.Shortness.{polynomial, three_from, list_modulo, equations, right_hand_sides}
use Rattle.stern.specs.Internal.{words_at, three_words, summed_pair, less_pairs, equation_pair}
use Rattle.stern.proofs.FourEquations.{numbers_vector, numbers_alike, numbers_add, polynomial_vector}

-- ---- the numbers of a difference

subtract_append : (q : ℕ) (a b c d : List ℕ) → length a ≡ length c → subtract q (a ++ b) (c ++ d) ≡ subtract q a c ++ subtract q b d
unfolding subtract
subtract_append q [] b [] d l = refl
subtract_append q [] b (y ∷ c) d l = absurd (omega arith)
subtract_append q (x ∷ a) b [] d l = absurd (omega arith)
subtract_append q (x ∷ a) b (y ∷ c) d l = ap (λ (t : List ℕ). (x + (q - y)) % q ∷ t) (subtract_append q a b c d (omega arith))

module _ (q N : ℕ) (positive : 0 < q) where
  back : (f g : Poly) → Alike q N (plus (minus q f g) g) f
  back f g =
      alike_eq (plus_assoc f _ g ∙ ap (plus f) (plus_comm _ g)) so alike_plus alike_refl (minus_self g positive) so alike_eq (Rattle.ring.proofs.Polynomials.plus_zero f)

  numbers_subtract : (f g : Poly) → subtract q (list_modulo q N f) (list_modulo q N g) ≡ list_modulo q N (minus q f g)
  numbers_subtract f g =
      ap (λ (x : List ℕ). subtract q x (list_modulo q N g)) (sym (numbers_alike (back f g)) ∙ numbers_add q N (minus q f g) g positive)
      ∙ add_subtract (numbers_vector N (minus q f g) positive) (numbers_vector N g positive)

  -- two subtracted one after the other
  twice : (f a b : Poly) → minus q f (plus a b) ≡ minus q (minus q f a) b
  twice f a b = ap (plus f) (scale_plus (q - 1) a b) ∙ sym (plus_assoc f _ _)

  -- ---- the equations of a lent vector

  module _ (k : Keys) (c x : Bytes) (sized : length x ≡ 336 * N) where
    abbrev xs : List ℕ
    xs = take (14 * N) (vector x)

    -- its first 14 polynomials
    alike_at : (j m : ℕ) → j < 14 → m ≡ N * j → Alike q N (polynomial N xs j) (words_at x m)
    unfolding polynomial
    alike_at j m h e = record {
      at = λ i l.
          let up : j * N + N ≤ 14 * N = omega (arith, mul-suc N j, mul_comm N j, mul_comm N (suc j), mul-le-mul {n₁ = N} {m₁ = suc j} {n₂ = N} {m₂ = 14} (omega arith) h) in
          same_eq
          (get_or-take (14 * N) (vector x) (j * N + i) 0 (omega arith)
          ∙ polynomial_vector N x j i l (omega (arith, mul_assoc 8 N j, mul_comm N j))
          ∙ ap (λ (at : ℕ). slot x at i) (mul_assoc 8 N j ∙ ap (λ (y : ℕ). 8 * y) (sym e)));
    }

    three_alike : (j m : ℕ) → j < 12 → m ≡ N * j → Alike3 q N (three_from N xs j) (three_words N x m)
    three_alike j m h e = record {
      r1 = alike_at j m (omega arith) e;
      r2 = alike_at (j + 1) (m + N) (omega arith) (omega (arith, mul-add N j 1));
      r3 = alike_at (j + 2) (m + 2 * N) (omega arith) (omega (arith, mul-add N j 2));
    }

    -- two equations
    half_alike : (j l f g : ℕ) → j < 9 → l < 14 → f ≡ N * j → g ≡ N * l
        → (Alike q N (row q N k (plus3 (three_from N xs j) (three_from N xs (j + 3)))) (summed_pair q N k x f g).one)
        × (Alike q N (second q N k (plus3 (three_from N xs j) (three_from N xs (j + 3))) (polynomial N xs l)) (summed_pair q N k x f g).two)
    half_alike j l f g hj hl ef eg =
        let a = three_alike j f (omega arith) ef in
        let b = three_alike (j + 3) (f + 3 * N) (omega arith) (omega (arith, mul-add N j 3)) in
        let s : Alike3 q N (plus3 (three_from N xs j) (three_from N xs (j + 3))) (plus3 (three_words N x f) (three_words N x (f + 3 * N))) = record { r1 = alike_plus a.r1 b.r1; r2 = alike_plus a.r2 b.r2; r3 = alike_plus a.r3 b.r3 } in
        (row_alike q N k s, second_alike q N k s (alike_at l g hl eg))

    abbrev one_pair : Pair
    one_pair = summed_pair q N k x (2 * N) 0

    abbrev two_pair : Pair
    two_pair = summed_pair q N k x (8 * N) N

    abbrev joined : Pair → Pair → List ℕ
    joined a b = list_modulo q N a.one ++ (list_modulo q N a.two ++ (list_modulo q N b.one ++ list_modulo q N b.two))

    equations_are : equations q N k xs ≡ joined one_pair two_pair
    unfolding equations
    equations_are =
        let a = half_alike 2 0 (2 * N) 0 (omega arith) (omega arith) (omega arith) (omega arith) in
        let b = half_alike 8 1 (8 * N) N (omega arith) (omega arith) (omega arith) (omega arith) in
        ap₂ ◌++◌ (numbers_alike a.0) (ap₂ ◌++◌ (numbers_alike a.1) (ap₂ ◌++◌ (numbers_alike b.0) (numbers_alike b.1)))

    -- ---- the right-hand sides subtracted

    less_part : (f : Poly) (i j a b : ℕ) → i ≡ 8 * a → j ≡ 8 * b → subtract q (list_modulo q N f) (list_modulo q N (plus (slot c i) (slot c j))) ≡ list_modulo q N (minus q (minus q f (words_at c a)) (words_at c b))
    less_part f i j a b ei ej =
        numbers_subtract f (plus (slot c i) (slot c j)) ∙ ap (list_modulo q N) (twice f (slot c i) (slot c j) ∙ ap₂ (λ (u v : ℕ). minus q (minus q f (slot c u)) (slot c v)) ei ej)

    same_length : (f g : Poly) → length (list_modulo q N f) ≡ length (list_modulo q N g)
    same_length f g = length_list N (modulo q f) ∙ sym (length_list N (modulo q g))

    less_are : subtract q (equations q N k xs) (right_hand_sides q N c) ≡ joined (less_pairs q N one_pair c 0) (less_pairs q N two_pair c (4 * N))
    unfolding right_hand_sides
    less_are =
        ap (λ (l : List ℕ). subtract q l (right_hand_sides q N c)) equations_are
        ∙ subtract_append q (list_modulo q N one_pair.one) _ (list_modulo q N (plus (slot c 0) (slot c (16 * N)))) _ (same_length _ _)
        ∙ ap₂ ◌++◌ (less_part one_pair.one 0 (16 * N) 0 (0 + 2 * N) (omega arith) (omega arith))
        (subtract_append q (list_modulo q N one_pair.two) _ (list_modulo q N (plus (slot c (8 * N)) (slot c (24 * N)))) _ (same_length _ _)
        ∙ ap₂ ◌++◌ (less_part one_pair.two (8 * N) (24 * N) (0 + N) (0 + 3 * N) (omega arith) (omega arith))
        (subtract_append q (list_modulo q N two_pair.one) _ (list_modulo q N (plus (slot c (32 * N)) (slot c (48 * N)))) _ (same_length _ _)
        ∙ ap₂ ◌++◌ (less_part two_pair.one (32 * N) (48 * N) (4 * N) (4 * N + 2 * N) (omega arith) (omega arith))
        (less_part two_pair.two (40 * N) (56 * N) (4 * N + N) (4 * N + 3 * N) (omega arith) (omega arith))))

    -- ---- as bytes

    joined_bytes : (a b : Pair) → words (joined a b) ≡ pair_bytes q N a ++ pair_bytes q N b
    unfolding pair_bytes encode
    joined_bytes a b =
        words_append (list_modulo q N a.one) _
        ∙ ap (λ (t : Bytes). words (list_modulo q N a.one) ++ t)
        (words_append (list_modulo q N a.two) _ ∙ ap (λ (t : Bytes). words (list_modulo q N a.two) ++ t) (words_append (list_modulo q N b.one) (list_modulo q N b.two)))
        ∙ sym (append_assoc (words (list_modulo q N a.one)) (words (list_modulo q N a.two)) _)

    pub covered : (less : Bool) → words (cond less (subtract q (equations q N k xs) (right_hand_sides q N c)) (equations q N k xs)) ≡ pair_bytes q N (equation_pair q N k c less x (2 * N) 0 0) ++ pair_bytes q N (equation_pair q N k c less x (8 * N) N (4 * N))
    covered true = ap words less_are ∙ joined_bytes (less_pairs q N one_pair c 0) (less_pairs q N two_pair c (4 * N))
    covered false = ap words equations_are ∙ joined_bytes one_pair two_pair

-- ---- digest 1, taken in by parts

-- the halves of a pair, as they stand in scratch
pub stands_bytes : (q n : ℕ) (p : Pair) (w w' : Bytes) → PairInSlots q n p w w' → part w' 0 (8 * n) ++ part w' 49152 (8 * n) ≡ pair_bytes q n p
unfolding pair_bytes
stands_bytes q n p w w' h = ap₂ ◌++◌ h.one h.two

-- a leading byte and a salt, P, and then two pairs of halves
pub equations_taken : (salt p u v : Bytes) (ns : List ℕ) {s a b d : Hasher} → s ≡ holding (1 ∷ salt) → a ≡ updated s p → b ≡ updated a u → d ≡ updated b v → words ns ≡ u ++ v
    → finished d ≡ sha3 (1 ∷ (salt ++ (p ++ words ns)))
equations_taken salt p u v ns es ea eb ed w =
    let m = (1 ∷ salt) ++ p in
    ap finished (taken (m ++ u) v (taken m u (taken (1 ∷ salt) p es ea) eb) ed)
    ∙ finished_holding ((m ++ u) ++ v)
    ∙ ap sha3 (append_assoc m u v ∙ ap (λ (t : Bytes). 1 ∷ t) (append_assoc salt p (u ++ v) ∙ ap (λ (t : Bytes). salt ++ (p ++ t)) (sym w)))
