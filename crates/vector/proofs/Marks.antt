-- A permutation is told by marking each index that it names: what a loop that marks holds. Assumes nothing.
use mathlib.Core.Path.{◌≡◌, refl, sym, ap, ap₂, ◌∙◌}
use mathlib.Core.Bool.{Bool, true, false}
use mathlib.Core.Logic.{◌≢◌}
use mathlib.Core.List.{List, [], ◌∷◌, ◌++◌}
use Prim.Native.Nat.{ℕ, zero, suc, ◌+◌, ◌≤◌, ◌<◌}
use native.Mathlib.Decide.{ℕ_discrete}
use native.Mathlib.Omega.{arith}
use borrow.Author.Tests.{eq-eqb, ne_eqb}
use lib.ListN.{length, take, drop, get_or, set, length-set, length-replicate, get_or-replicate}
use lib.Seq.{take_all, take-set-le, drop-set-lt, get_or-set_same, get_or-set_other, get_or-take, get_or-drop}
use Rattle.codec.specs.Bytes.{Bytes, part, put, zeros}
use Rattle.codec.proofs.Laws.{put_part}
use Rattle.ring.specs.Ternary.{count}
use Rattle.ring.proofs.Ranges.{count_more}
use Rattle.vector.specs.Vector.{Each}
use Rattle.vector.specs.Permutation.{permutes}
use Rattle.vector.proofs.Vectors.{at_each, from_at}
use Rattle.vector.proofs.Counts.{pigeonhole, permutes_sound, permutes_complete}

permutes_no : (n : ℕ) (p : List ℕ) → (permutes n p ≡ true → ⊥) → permutes n p ≡ false
permutes_no n p d = go (permutes n p) refl
  where
    go : (b : Bool) → permutes n p ≡ b → b ≡ false
    go true e = absurd (d e)
    go false e = refl

-- ---- a loop that marks: the marks are the counts of what it has passed

count_hit : (v : ℕ) (p : List ℕ) (i : ℕ) → i < length p → get_or p i 0 ≡ v → count v (take (i + 1) p) ≡ count v (take i p) + 1
count_hit v p i h e = count_more v p i h ∙ rw (eq-eqb (get_or p i 0) v e)

count_miss : (v : ℕ) (p : List ℕ) (i : ℕ) → i < length p → get_or p i 0 ≢ v → count v (take (i + 1) p) ≡ count v (take i p)
count_miss v p i h d = omega (arith, rw (ne_eqb (get_or p i 0) v d) at (count_more v p i h))

count_take : (v i : ℕ) (p : List ℕ) → count v (take i p) ≤ count v p
unfolding count
count_take v zero p = omega arith
count_take v (suc i) [] = omega arith
count_take v (suc i) (x ∷ p) = omega (arith, count_take v i p)

-- scratch w that was w₀, once i entries are marked in its n bytes from a place on; what stands beside them is as it was
pub record Marked (p : List ℕ) (n : ℕ) (w₀ : Bytes) (at : ℕ) (w : Bytes) (i : ℕ) : Type 0 where
  pub size : length w ≡ length w₀
  pub beside : put w at (zeros n) ≡ w₀
  pub below : (k : ℕ) → k < i → get_or p k 0 < n
  pub marks : (j : ℕ) → j < n → get_or w (at + j) 0 ≡ count j (take i p)
  pub once : (j : ℕ) → j < n → count j (take i p) ≤ 1

-- a mark is wiped with the others
put_set : (w : Bytes) (at x n b : ℕ) → x < n → put (set w (at + x) b) at (zeros n) ≡ put w at (zeros n)
unfolding put
put_set w at x n b h =
    ap₂ (λ (s t : Bytes). s ++ (zeros n ++ t)) (take-set-le at w (at + x) b (omega arith))
    (drop-set-lt (at + length (zeros n)) w (at + x) b (omega (arith, length-replicate {A = ℕ} n 0)))

module _ (p : List ℕ) (n : ℕ) (w₀ : Bytes) (at : ℕ) (all : length p ≡ n) (fits : at + n ≤ length w₀) where
  pub marked_first : part w₀ at n ≡ zeros n → Marked p n w₀ at w₀ 0
  unfolding count
  marked_first z = record {
    size = refl;
    beside = ap (put w₀ at) (sym z) ∙ put_part w₀ at n fits;
    below = λ k l. absurd (omega arith);
    marks = λ j l. sym (get_or-drop at w₀ j 0) ∙ sym (get_or-take n (drop at w₀) j 0 l) ∙ ap (λ (s : Bytes). get_or s j 0) z ∙ get_or-replicate n j 0 0 l;
    once = λ j l. omega arith;
  }

  module _ (w : Bytes) (i x : ℕ) (m : Marked p n w₀ at w i) where
    pub marked_all : i ≡ n → permutes n p ≡ true
    marked_all h =
        let t : take i p ≡ p = take_all i p (omega arith) in
        let v : Each (λ x. x < n) n p = rw all at (from_at {P = λ x. x < n} p (λ k l. m.below k (omega arith))) in
        permutes_complete (pigeonhole v (λ j l. rw t at (m.once j l)))

    -- a first index of p[i], and what stops the loop before the end
    module _ (h : i < n) (e : x ≡ get_or p i 0) where
      pub marked_more : x < n → get_or w (at + x) 0 ≡ 0 → Marked p n w₀ at (set w (at + x) 1) (i + 1)
      marked_more l z = record {
        size = length-set w (at + x) 1 ∙ m.size;
        beside = put_set w at x n 1 l ∙ m.beside;
        below = λ k b. earlier k b (ℕ_discrete k i);
        marks = λ j b. mark j b (ℕ_discrete j x);
        once = λ j b. one j b (ℕ_discrete j x);
      }
        where
          earlier : (k : ℕ) → k < i + 1 → Dec (k ≡ i) → get_or p k 0 < n
          earlier k b (yes d) = rw (d, ← e) l
          earlier k b (no d) = m.below k (omega arith)

          mark : (j : ℕ) → j < n → Dec (j ≡ x) → get_or (set w (at + x) 1) (at + j) 0 ≡ count j (take (i + 1) p)
          mark j b (yes d) = let s = m.size in rw d (get_or-set_same w (at + x) 1 0 (omega arith) ∙ omega (arith, count_hit x p i (omega arith) (sym e), m.marks x l))
          mark j b (no d) = get_or-set_other w (at + x) (at + j) 1 0 (λ f. d (omega arith)) ∙ m.marks j b ∙ sym (count_miss j p i (omega arith) (λ f. d (sym (e ∙ f))))

          one : (j : ℕ) → j < n → Dec (j ≡ x) → count j (take (i + 1) p) ≤ 1
          one j b (yes d) = rw d (omega (arith, count_hit x p i (omega arith) (sym e), m.marks x l))
          one j b (no d) = omega (arith, count_miss j p i (omega arith) (λ f. d (sym (e ∙ f))), m.once j b)

      pub out_of_range : n ≤ x → permutes n p ≡ false
      out_of_range l = permutes_no n p (λ y. omega (arith, at_each (permutes_sound n p y).indices i h))

      pub met_before : x < n → get_or w (at + x) 0 ≢ 0 → permutes n p ≡ false
      met_before l d =
          permutes_no n p
          (λ y. let k = count_hit x p i (omega arith) (sym e) in let s = m.marks x l in let t = count_take x (i + 1) p in let o = (permutes_sound n p y).once x l in omega arith)
