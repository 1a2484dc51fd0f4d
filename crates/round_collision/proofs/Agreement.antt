-- Strings that are compared part by part, and vectors that are compared number by number. Assumes nothing.
use mathlib.Core.Path.{◌≡◌, refl, sym, ap, ap₂, ◌∙◌}
use mathlib.Core.Logic.{◌≢◌}
use mathlib.Core.Bool.{Bool, true, false, ◌&&◌}
use mathlib.Core.List.{List, [], ◌∷◌, ◌++◌, append_assoc}
use Prim.Native.Nat.{ℕ, ◌+◌, ◌*◌, ◌/◌, ◌^◌, ◌≤◌, ◌<◌}
use native.Mathlib.Nat.{zero-add}
use native.Mathlib.Omega.{arith}
use borrow.Author.Tests.{eq-eqb}
use lib.ListN.{length, take, drop, get_or, length-append}
use lib.Seq.{ext_get_or}
use Rattle.codec.specs.Bytes.{Bytes, part, put, words, same}
use Rattle.codec.proofs.Laws.{length_part, part_append, part_put, same_refl, same_equal, not_same}
use Rattle.codec.specs.Lists.{all_below}
use Rattle.commitment.specs.Commitment.{Keys, Pair, pair_bytes}
use Rattle.commitment.specs.Internal.{PairInSlots}
use Rattle.vector.specs.Vector.{vector, ternaries, add, subtract}
use Rattle.vector.specs.Internal.{Vector}
use Rattle.vector.specs.Permutation.{entries, apply}
use Rattle.vector.proofs.Vectors.{each_length, add_vector, apply_each, all_below_each, vector_sound, words_injective, length_entries, ternaries_vector}
use Rattle.stern.specs.Argument.{Setting, Answer1, Answer2, Answer3, one_by2, one_by3, two_by1, two_by3, three_by1, three_by2}
use Rattle.stern.specs.Shortness.{equations, right_hand_sides}
use Rattle.stern.proofs.Honest.{length_pair_bytes}
use Rattle.stern.proofs.Sound.{parts}
use Rattle.stern.proofs.Strings.{stands_bytes}
use Rattle.round_collision.specs.Internal.{Ground, ComparedBy, lowest_of, differing}

-- ---- strings, part by part

-- what stands behind one string
pub same_behind : (a b d : Bytes) → same (a ++ b) (a ++ d) ≡ same b d
unfolding same
same_behind [] b d = refl
same_behind (x ∷ a) b d = rw (eq-eqb x x refl) (same_behind a b d)

-- first parts that are as long, and what stands behind them
pub by_parts : (a c b d : Bytes) (r t : Bool) → r ≡ same a c → t ≡ same b d → length a ≡ length c → (r && t) ≡ same (a ++ b) (c ++ d)
by_parts a c b d true t e f l =
    let g : a ≡ c = same_equal a c (sym e) in
    f ∙ sym (ap (λ (x : Bytes). same (x ++ b) (c ++ d)) g ∙ same_behind c b d)
by_parts a c b d false t e f l = sym (not_same (a ++ b) (c ++ d) (λ g. differ (parts a c {b = b} {d = d} l g).0))
  where
    differ : a ≡ c → ⊥
    differ g = let z : false ≡ true = e ∙ ap (same a) (sym g) ∙ same_refl a in absurd (let y : ◌≡◌ {A = ℕ} 0 1 = cc in omega arith)

-- parts lent with lengths that are differences of places
pub lent_same : (s t : Bytes) (i j m n k : ℕ) → m ≡ k → n ≡ k → same (take m (drop i s)) (take n (drop j t)) ≡ same (part s i k) (part t j k)
lent_same s t i j m n k em en = ap₂ (λ (x y : ℕ). same (take x (drop i s)) (take y (drop j t))) em en

-- 16n bytes by halves
pub halved : (s : Bytes) (n : ℕ) → part s 0 (16 * n) ≡ part s 0 (8 * n) ++ part s (8 * n) (8 * n)
halved s n =
    let e : 16 * n ≡ 8 * n + 8 * n = omega arith in
    ap (part s 0) e ∙ part_append s 0 (8 * n) (8 * n) ∙ ap (λ (i : ℕ). part s 0 (8 * n) ++ part s i (8 * n)) (zero-add (8 * n))

-- ---- a pair that is kept in room, and the equations

-- scratch and the room after use
pub still_ground : {q n : ℕ} {k c w w' d d' : Bytes} → Ground q n k c w d → length w' ≡ length w → length d' ≡ length d → Ground q n k c w' d'
still_ground g ew ed =
    record { keys = g.keys; sized_work = ew ∙ g.sized_work; sized_room = rw ed g.sized_room; sized_pairs = g.sized_pairs; below_pairs = g.below_pairs }

module _ (q n : ℕ) (d : Bytes) {d' w w' : Bytes} (p : Pair) (room : 16 * n ≤ length d) (h : PairInSlots q n p w w') (e : d' ≡ put d 0 (part w' 0 (8 * n) ++ part w' 49152 (8 * n))) where
  kept_pair : part d' 0 (16 * n) ≡ pair_bytes q n p
  kept_pair =
      ap₂ (λ (s : Bytes) (k : ℕ). part s 0 k) (e ∙ ap (put d 0) (stands_bytes q n p w w' h)) (sym (length_pair_bytes q n p)) ∙ part_put d 0 (pair_bytes q n p) (omega (arith, length_pair_bytes q n p))

  -- compared with one that stands in scratch
  pub pairs_compared : (t : Pair) {v' : Bytes} {r : Bool} → PairInSlots q n t w' v' → r ≡ same (part d' 0 (16 * n)) (part v' 0 (8 * n) ++ part v' 49152 (8 * n)) → length d' ≡ length d
      → ComparedBy (pair_bytes q n p) (pair_bytes q n t) r w v' d d'
  pairs_compared t {v'} g f l = record { told = f ∙ ap₂ same kept_pair (stands_bytes q n t w' v' g); kept_work = g.sized ∙ h.sized; kept_room = l }

-- ---- the strings

-- string 1, with salt and P as its first part
pub string1_parts : (s p w s' p' w' : Bytes) → same ((s ++ p) ++ w) ((s' ++ p') ++ w') ≡ same (1 ∷ (s ++ (p ++ w))) (1 ∷ (s' ++ (p' ++ w')))
string1_parts s p w s' p' w' = ap₂ same (append_assoc s p w) (append_assoc s' p' w') ∙ sym (same_behind (1 ∷ []) (s ++ (p ++ w)) (s' ++ (p' ++ w')))

pub start_length : (n : ℕ) (s : Bytes) → length s ≡ 504 * n + 64 → length (part s (504 * n) 32 ++ part s 0 (168 * n)) ≡ 32 + 168 * n
start_length n s l = length-append (part s (504 * n) 32) (part s 0 (168 * n)) ∙ ap₂ ◌+◌ (length_part s (504 * n) 32 (omega arith)) (length_part s 0 (168 * n) (omega arith))

-- what is lent of two answers for each string, with lengths that are differences of places
pub lent_equations : (q n : ℕ) (k : Keys) (c s t : Bytes) (i j : ℕ) → i ≡ 336 * n → j ≡ 336 * n
    → same (words (subtract q (equations q n k (take (14 * n) (vector (take i (drop (168 * n) s))))) (right_hand_sides q n c))) (words (equations q n k (take (14 * n) (vector (take j (drop (168 * n) t))))))
    ≡ same (words (subtract q (equations q n k (take (14 * n) (vector (part s (168 * n) (336 * n))))) (right_hand_sides q n c))) (words (equations q n k (take (14 * n) (vector (part t (168 * n) (336 * n))))))
lent_equations q n k c s t i j ei ej =
    ap₂ (λ (x y : ℕ). same (words (subtract q (equations q n k (take (14 * n) (vector (take x (drop (168 * n) s))))) (right_hand_sides q n c))) (words (equations q n k (take (14 * n) (vector (take y (drop (168 * n) t))))))) ei ej

pub lent_gathered : (n : ℕ) (s t : Bytes) (i j k : ℕ) → i ≡ 336 * n → j ≡ 168 * n → k ≡ 336 * n
    → same (take i (drop (42 * n) s)) (words (apply (entries (take j t)) (vector (take k (drop (168 * n) t)))))
    ≡ same (part s (42 * n) (336 * n)) (words (apply (entries (part t 0 (168 * n))) (vector (part t (168 * n) (336 * n)))))
lent_gathered n s t i j k ei ej ek = λ x. same (take (ei x) (drop (42 * n) s)) (words (apply (entries (take (ej x) t)) (vector (take (ek x) (drop (168 * n) t)))))

pub lent_sums : (q n : ℕ) (s t : Bytes) (i j k l : ℕ) → i ≡ 42 * n → j ≡ 336 * n → k ≡ 168 * n → l ≡ 336 * n
    → same (words (add q (ternaries q (take i s)) (vector (take j (drop (42 * n) s))))) (words (apply (entries (take k t)) (vector (take l (drop (168 * n) t)))))
    ≡ same (words (add q (ternaries q (part s 0 (42 * n))) (vector (part s (42 * n) (336 * n))))) (words (apply (entries (part t 0 (168 * n))) (vector (part t (168 * n) (336 * n)))))
lent_sums q n s t i j k l ei ej ek el =
    λ x. same (words (add q (ternaries q (take (ei x) s)) (vector (take (ej x) (drop (42 * n) s))))) (words (apply (entries (take (ek x) t)) (vector (take (el x) (drop (168 * n) t)))))

pub lent_entries : (n : ℕ) (s : Bytes) (i j : ℕ) → i ≡ j → all_below n (entries (part s 0 j)) ≡ true → all_below n (entries (take i s)) ≡ true
lent_entries n s i j e h = ap (λ (x : ℕ). all_below n (entries (take x s))) e ∙ h

-- ---- vectors, number by number

module _ (q n : ℕ) (x y : List ℕ) (fits : q ≤ 2 ^ 64) (vx : Vector q n x) (vy : Vector q n y) where
  pub other_number : (i : ℕ) → get_or x i 0 ≢ get_or y i 0 → false ≡ same (words x) (words y)
  other_number i d = sym (not_same (words x) (words y) (λ e. d (ap (λ (l : List ℕ). get_or l i 0) (words_injective fits vx vy e))))

  pub same_numbers_lem : ((i : ℕ) → i < n → get_or x i 0 ≡ get_or y i 0) → true ≡ same (words x) (words y)
  same_numbers_lem h =
      let e : x ≡ y = ext_get_or 0 x y (each_length vx ∙ sym (each_length vy)) (λ i l. h i (omega (arith, each_length vx))) in
      sym (ap (λ (l : List ℕ). same (words x) (words l)) (sym e) ∙ same_refl (words x))

-- n numbers of a vector in range, of a ternary vector added to it, and of one permuted
pub sized_vector : (q n : ℕ) (s : Bytes) → length s ≡ 8 * n → all_below q (vector s) ≡ true → Vector q n (vector s)
sized_vector q n s l e = let f : length s / 8 ≡ n = omega arith in rw f at (vector_sound q s e)

pub sum_vector : (q n : ℕ) (w t : Bytes) → 0 < q → length w ≡ n → length t ≡ 8 * n → all_below q (vector t) ≡ true → Vector q n (add q (ternaries q w) (vector t))
sum_vector q n w t h lw lt e = add_vector (rw lw at (ternaries_vector q w h)) (sized_vector q n t lt e)

pub permuted_vector : (q n : ℕ) (p u : Bytes) → length p ≡ 4 * n → length u ≡ 8 * n → all_below n (entries p) ≡ true → all_below q (vector u) ≡ true → Vector q n (apply (entries p) (vector u))
permuted_vector q n p u lp lu ep eu =
    let f : length (entries p) ≡ n = length_entries p ∙ omega arith in
    apply_each (rw f at (all_below_each n (entries p) ep)) (sized_vector q n u lu eu)

-- ---- all three

pub three_compared : (s : Setting) (a : Answer1) (b : Answer2) (c : Answer3) {one two three : Bool} → one ≡ same (one_by2 s b) (one_by3 s c) → two ≡ same (two_by1 s a) (two_by3 s c) → three ≡ same (three_by1 s a) (three_by2 s b)
    → lowest_of one two three ≡ differing s a b c
unfolding differing
three_compared s a b c e f g = λ i. lowest_of (e i) (f i) (g i)
