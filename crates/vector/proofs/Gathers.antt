-- Vectors and permutations number by number, as loops write them. Assumes nothing.
use mathlib.Core.Path.{◌≡◌, refl, sym, ap, ap₂, ◌∙◌}
use mathlib.Core.Bool.{Bool, true, false, cond}
use mathlib.Core.Logic.{◌⊎◌, inl, inr}
use mathlib.Core.List.{List}
use Prim.Native.Nat.{ℕ, ◌+◌, ◌-◌, ◌*◌, ◌%◌, ◌≤◌, ◌<◌}
use native.Mathlib.Numerals.{add-one}
use native.Mathlib.Omega.{arith}
use borrow.Author.Tests.{lt-ltb, le-ltb}
use lib.Dec.{ltb}
use lib.ListN.{length, get_or, set}
use lib.Seq.{paste, paste-suc}
use Rattle.codec.specs.Bytes.{Bytes, words, put}
use Rattle.codec.specs.Lists.{all_below}
use Rattle.codec.proofs.Lists.{list_get_d, all_below_sound}
use Rattle.codec.proofs.Laws.{le_or}
use Rattle.modular.specs.Modulo.{remainder}
use Rattle.ring.specs.Slots.{encode}
use Rattle.ring.specs.Ternary.{meaning, ternary, count}
use Rattle.ring.proofs.Filling.{filled, filled_whole}
use Rattle.vector.specs.Vector.{vector, ternaries, add}
use Rattle.vector.specs.Permutation.{entries, apply, extend}
use Rattle.vector.proofs.Vectors.{add_within, length_add, apply_at, length_vector, length_entries, length_ternaries, get_d_ternaries}
use Rattle.vector.proofs.Balance.{extend_given, extend_minus, extend_zero, extend_one}

-- ---- a list that is written number by number

-- what a loop holds that writes the first i numbers of a list from a place of scratch on, 8 bytes each
abbrev pub Laying : Bytes → ℕ → List ℕ → Bytes → ℕ → Type 0
Laying w at l d i = d ≡ filled w at (λ k. get_or l k 0) i

pub laid : (w : Bytes) (at : ℕ) (l : List ℕ) {d : Bytes} {i : ℕ} → Laying w at l d i → i ≡ length l → d ≡ put w at (words l)
unfolding encode
laid w at l s e = filled_whole w at (λ k. get_or l k 0) s e ∙ ap (λ (s : List ℕ). put w at (words s)) (list_get_d l)

-- the same of bytes
pub paste_more : (w d : Bytes) (at : ℕ) (l : Bytes) (i b : ℕ) → d ≡ paste w at l i → at + i < length w → i < length l → b ≡ get_or l i 0 → set d (at + i) b ≡ paste w at l (i + 1)
paste_more w d at l i b e h k v = rw (e, v, add-one) (paste-suc w at l i 0 h k)

-- ---- one number, as code makes it

pub entry_lt : (s : Bytes) (n i : ℕ) → all_below n (entries s) ≡ true → 4 * i + 4 ≤ length s → get_or (entries s) i 0 < n
entry_lt s n i e h = all_below_sound n (entries s) e i (omega (arith, length_entries s))

pub component_lt : (s : Bytes) (q i : ℕ) → all_below q (vector s) ≡ true → 8 * i + 8 ≤ length s → get_or (vector s) i 0 < q
component_lt s q i e h = all_below_sound q (vector s) e i (omega (arith, length_vector s))

-- number k of a permuted list: entry j of x, where j is entry k of p
pub gathered : (p x : List ℕ) (k j v : ℕ) → k < length p → j ≡ get_or p k 0 → v ≡ get_or x j 0 → v ≡ get_or (apply p x) k 0
gathered p x k j v h e d = d ∙ ap (λ (i : ℕ). get_or x i 0) e ∙ sym (apply_at p x k h)

-- number i of a ternary vector and a vector
pub sum_at : (q : ℕ) (w t : Bytes) (i u v : ℕ) → i < length w → 8 * i + 8 ≤ length t → u ≡ remainder q (meaning (get_or w i 0)) → v ≡ get_or (vector t) i 0
    → (u + v) % q ≡ get_or (add q (ternaries q w) (vector t)) i 0
unfolding ternary
sum_at q w t i u v h l d e =
    ap₂ (λ (a b : ℕ). (a + b) % q) (d ∙ sym (get_d_ternaries q w i h)) e
    ∙ sym (add_within q (ternaries q w) (vector t) i (omega (arith, length_ternaries q w)) (omega (arith, length_vector t)))

pub length_sum : (q : ℕ) (w t : Bytes) (n : ℕ) → length t ≡ 8 * n → n ≤ length w → length (add q (ternaries q w) (vector t)) ≡ n
length_sum q w t n h l = length_add q (ternaries q w) (vector t) (omega (arith, length_ternaries q w, length_vector t)) ∙ length_vector t ∙ omega arith

-- ---- one byte of the extended form, as tests with no jump make it: each of them answers a number or 0

pub if_le : (b : Bool) (v : ℕ) → cond b v 0 ≤ v
if_le true v = omega arith
if_le false v = omega arith

pub if_byte : (x : Bytes) (j n i : ℕ) → i ≡ cond (ltb j n) j 0 → cond (ltb j n) (get_or x i 0) 0 ≡ cond (ltb j n) (get_or x j 0) 0
if_byte x j n i e = go (ltb j n) e
  where
    go : (b : Bool) → i ≡ cond b j 0 → cond b (get_or x i 0) 0 ≡ cond b (get_or x j 0) 0
    go true d = ap (λ (k : ℕ). get_or x k 0) d
    go false d = refl

abbrev pub chosen : (n m z j v : ℕ) → ℕ
chosen n m z j v = cond (ltb j n) v 0 + (cond (ltb j m) 2 0 - cond (ltb j n) 2 0) + (1 - cond (ltb j z) 1 0)

module _ (n m z j v : ℕ) (h : n ≤ m) (l : m ≤ z) where
  chosen_first : j < n → chosen n m z j v ≡ v
  chosen_first k = rw (lt-ltb j n k, lt-ltb j m (omega arith), lt-ltb j z (omega arith)) (omega arith)

  pub chosen_lt : v < 256 → chosen n m z j v < 256
  chosen_lt b = go (le_or n j)
    where
      go : (n ≤ j) ⊎ (j < n) → chosen n m z j v < 256
      go (inl k) = rw (le-ltb j n k) (omega (arith, if_le (ltb j m) 2))
      go (inr k) = rw (chosen_first k) b

module _ (x : Bytes) (m z j : ℕ) (em : m ≡ length x + (length x - count 2 x)) (ez : z ≡ m + (length x - count 0 x)) (h : j < 3 * length x) where
  pub extend_chosen : chosen (length x) m z j (get_or x j 0) ≡ get_or (extend (length x) x) j 0
  extend_chosen = go (le_or (length x) j) (le_or m j) (le_or z j)
    where
      go : (length x ≤ j) ⊎ (j < length x) → (m ≤ j) ⊎ (j < m) → (z ≤ j) ⊎ (j < z) → chosen (length x) m z j (get_or x j 0) ≡ get_or (extend (length x) x) j 0
      go (inr a) b c = chosen_first (length x) m z j (get_or x j 0) (omega arith) (omega arith) a ∙ sym (extend_given (length x) x refl j a)
      go (inl a) (inr b) c = rw (le-ltb j (length x) a, lt-ltb j m b, lt-ltb j z (omega arith)) (sym (extend_minus (length x) x refl j a (omega arith)))
      go (inl a) (inl b) (inr c) = rw (le-ltb j (length x) a, le-ltb j m b, lt-ltb j z c) (sym (extend_zero (length x) x refl j (omega arith) (omega arith)))
      go (inl a) (inl b) (inl c) = rw (le-ltb j (length x) a, le-ltb j m b, le-ltb j z c) (sym (extend_one (length x) x refl j (omega arith) h))
