-- The encodings of digests and answers lose nothing: what is written is read back, and bytes of the right length are written as they were. Assumes nothing.
use mathlib.Core.Path.{◌≡◌, refl, sym, ap, ap₂, subst, ◌∙◌}
use mathlib.Core.Bool.{true}
use mathlib.Core.List.{List, ◌++◌}
use Prim.Native.Nat.{ℕ, ◌+◌, ◌*◌, ◌/◌}
use native.Mathlib.Nat.{zero-add}
use native.Mathlib.Omega.{arith}
use lib.ListN.{length, take, drop, length-append}
use lib.Seq.{take_all, take_at, drop_at, drop-drop}
use Rattle.codec.specs.Bytes.{Bytes, part}
use Rattle.codec.proofs.Laws.{part_append}
use Rattle.codec.specs.Lists.{all_below}
use Rattle.vector.specs.Vector.{vector}
use Rattle.vector.specs.Internal.{Vector}
use Rattle.vector.specs.Permutation.{Permutes, permutes}
use Rattle.vector.proofs.Vectors.{vector_sound}
use Rattle.vector.proofs.Counts.{permutes_sound, permutes_complete}
use Rattle.stern.specs.Argument.{First, Answer1, Answer2, Answer3}
use Rattle.stern.specs.Shortness.{first_of, first_bytes, answer_length, answer1_of, answer2_of, answer3_of, answer1_bytes, answer2_bytes, answer3_bytes}

-- ---- byte strings side by side

-- the first of two
pub part_first : (a b : Bytes) (n : ℕ) → length a ≡ n → part (a ++ b) 0 n ≡ a
part_first a b n e = take_at a b n e

-- what stands behind the first
pub part_behind : (a b : Bytes) (m at k n : ℕ) → length a ≡ m → k ≡ m + at → part (a ++ b) k n ≡ part b at n
part_behind a b m at k n e f =
    ap (λ (j : ℕ). part (a ++ b) j n) f ∙ ap (take n) (sym (drop-drop at m (a ++ b)) ∙ ap (drop at) (drop_at a b m e))

-- all that stands behind the first
pub part_rest : (a b : Bytes) (m n : ℕ) → length a ≡ m → length b ≡ n → part (a ++ b) m n ≡ b
part_rest a b m n e f = ap (take n) (drop_at a b m e) ∙ take_all n b (omega arith)

-- the parts of three strings, and the three parts of a string
module _ (l m n k : ℕ) (place : k ≡ l + m) where
  pub three_read : (a b c : Bytes) → length a ≡ l → length b ≡ m → length c ≡ n
      → (part (a ++ (b ++ c)) 0 l ≡ a) × (part (a ++ (b ++ c)) l m ≡ b) × (part (a ++ (b ++ c)) k n ≡ c)
  three_read a b c ea eb ec = (
    part_first a (b ++ c) l ea,
    part_behind a (b ++ c) l 0 l m ea (omega arith) ∙ part_first b c m eb,
    part_behind a (b ++ c) l m k n ea place ∙ part_rest b c m n eb ec,
  )

  pub three_written : (s : Bytes) (at : ℕ) → part s at l ++ (part s (at + l) m ++ part s (at + k) n) ≡ part s at (k + n)
  three_written s at =
      let e : k + n ≡ l + (m + n) = omega arith in
      let f : at + k ≡ at + l + m = omega arith in
      sym (ap (part s at) e ∙ part_append s at l (m + n) ∙ ap (λ (t : Bytes). part s at l ++ t) (part_append s (at + l) m n)
      ∙ ap (λ (j : ℕ). part s at l ++ (part s (at + l) m ++ part s j n)) (sym f))

-- the parts of four
module _ (l m n o k p : ℕ) (place : k ≡ l + m) (last : p ≡ k + n) where
  pub four_read : (a b c d : Bytes) → length a ≡ l → length b ≡ m → length c ≡ n → length d ≡ o
      → (part (a ++ (b ++ (c ++ d))) 0 l ≡ a) × (part (a ++ (b ++ (c ++ d))) l m ≡ b) × (part (a ++ (b ++ (c ++ d))) k n ≡ c) × (part (a ++ (b ++ (c ++ d))) p o ≡ d)
  four_read a b c d ea eb ec ed =
      let rest = three_read m n o (m + n) refl b c d eb ec ed in (
        part_first a (b ++ (c ++ d)) l ea,
        part_behind a (b ++ (c ++ d)) l 0 l m ea (omega arith) ∙ rest.0,
        part_behind a (b ++ (c ++ d)) l m k n ea place ∙ rest.1,
        part_behind a (b ++ (c ++ d)) l (m + n) p o ea (omega arith) ∙ rest.2,
      )

  pub four_written : (s : Bytes) → length s ≡ p + o → part s 0 l ++ (part s l m ++ (part s k n ++ part s p o)) ≡ s
  four_written s e =
      let f : p + o ≡ l + (m + n + o) = omega arith in
      let g : p ≡ l + (m + n) = omega arith in
      sym (sym (take_all (p + o) s (omega arith)) ∙ ap (part s 0) f ∙ part_append s 0 l (m + n + o)
      ∙ ap (λ (j : ℕ). part s 0 l ++ part s j (m + n + o)) (zero-add l)
      ∙ ap (λ (t : Bytes). part s 0 l ++ t) (sym (three_written m n o (m + n) refl s l))
      ∙ ap₂ (λ (i j : ℕ). part s 0 l ++ (part s l m ++ (part s i n ++ part s j o))) (sym place) (sym g))

-- ---- numbers and entries: 3L of them, for 14 N unknowns

pub vector_of_lem : (q N : ℕ) (s : Bytes) → length s ≡ 336 * N → all_below q (vector s) ≡ true → Vector q (3 * (14 * N)) (vector s)
vector_of_lem q N s l e =
    let f : length s / 8 ≡ 3 * (14 * N) = omega arith in
    subst (λ (n : ℕ). Vector q n (vector s)) f (vector_sound q s e)

pub permutes_of : (N : ℕ) (p : List ℕ) → permutes (42 * N) p ≡ true → Permutes (3 * (14 * N)) p
permutes_of N p e =
    let f : 42 * N ≡ 3 * (14 * N) = omega arith in
    subst (λ (n : ℕ). Permutes n p) f (permutes_sound (42 * N) p e)

pub of_permutes : (N : ℕ) (p : List ℕ) → Permutes (3 * (14 * N)) p → permutes (42 * N) p ≡ true
of_permutes N p h =
    let f : 3 * (14 * N) ≡ 42 * N = omega arith in
    permutes_complete (subst (λ (n : ℕ). Permutes n p) f h)

-- ---- digests

pub first_of_first_bytes : (f : First) → length f.d1 ≡ 32 → length f.d2 ≡ 32 → length f.d3 ≡ 32 → first_of (first_bytes f) ≡ f
first_of_first_bytes f e1 e2 e3 =
    let r = three_read 32 32 32 64 refl f.d1 f.d2 f.d3 e1 e2 e3 in
    λ i. record { d1 = r.0 i; d2 = r.1 i; d3 = r.2 i }

-- ---- answers

pub answer1_of_answer1_bytes : (N : ℕ) (a : Answer1) → length a.w ≡ 42 * N → length a.t ≡ 336 * N → length a.salt2 ≡ 32 → length a.salt3 ≡ 32
    → answer1_of N (answer1_bytes a) ≡ a
answer1_of_answer1_bytes N a ew et e2 e3 =
    let r = four_read (42 * N) (336 * N) 32 32 (378 * N) (378 * N + 32) (omega arith) refl a.w a.t a.salt2 a.salt3 ew et e2 e3 in
    λ i. record { w = r.0 i; t = r.1 i; salt2 = r.2 i; salt3 = r.3 i }

pub answer2_of_answer2_bytes : (N : ℕ) (b : Answer2) → length b.p ≡ 168 * N → length b.u ≡ 336 * N → length b.salt1 ≡ 32 → length b.salt3 ≡ 32
    → answer2_of N (answer2_bytes b) ≡ b
answer2_of_answer2_bytes N b ep eu e1 e3 =
    let r = four_read (168 * N) (336 * N) 32 32 (504 * N) (504 * N + 32) (omega arith) refl b.p b.u b.salt1 b.salt3 ep eu e1 e3 in
    λ i. record { p = r.0 i; u = r.1 i; salt1 = r.2 i; salt3 = r.3 i }

pub answer3_of_answer3_bytes : (N : ℕ) (c : Answer3) → length c.p ≡ 168 * N → length c.r ≡ 336 * N → length c.salt1 ≡ 32 → length c.salt2 ≡ 32
    → answer3_of N (answer3_bytes c) ≡ c
answer3_of_answer3_bytes N c ep er e1 e2 =
    let r = four_read (168 * N) (336 * N) 32 32 (504 * N) (504 * N + 32) (omega arith) refl c.p c.r c.salt1 c.salt2 ep er e1 e2 in
    λ i. record { p = r.0 i; r = r.1 i; salt1 = r.2 i; salt2 = r.3 i }

pub answer1_bytes_answer1_of : (N : ℕ) (s : Bytes) → length s ≡ answer_length N 1 → answer1_bytes (answer1_of N s) ≡ s
answer1_bytes_answer1_of N s e = four_written (42 * N) (336 * N) 32 32 (378 * N) (378 * N + 32) (omega arith) refl s (omega arith)

pub answer2_bytes_answer2_of : (N : ℕ) (s : Bytes) → length s ≡ answer_length N 2 → answer2_bytes (answer2_of N s) ≡ s
answer2_bytes_answer2_of N s e = four_written (168 * N) (336 * N) 32 32 (504 * N) (504 * N + 32) (omega arith) refl s (omega arith)

pub answer3_bytes_answer3_of : (N : ℕ) (s : Bytes) → length s ≡ answer_length N 3 → answer3_bytes (answer3_of N s) ≡ s
answer3_bytes_answer3_of N s e = four_written (168 * N) (336 * N) 32 32 (504 * N) (504 * N + 32) (omega arith) refl s (omega arith)

-- ---- and they have the right lengths

length_four : (a b c d : Bytes) (n : ℕ) → length a + (length b + (length c + length d)) ≡ n → length (a ++ (b ++ (c ++ d))) ≡ n
length_four a b c d n e = simp length-append e

pub length_answer1_bytes : (N : ℕ) (a : Answer1) → length a.w ≡ 42 * N → length a.t ≡ 336 * N → length a.salt2 ≡ 32 → length a.salt3 ≡ 32
    → length (answer1_bytes a) ≡ answer_length N 1
length_answer1_bytes N a ew et e2 e3 = length_four a.w a.t a.salt2 a.salt3 (378 * N + 64) (omega arith)

pub length_answer2_bytes : (N : ℕ) (b : Answer2) → length b.p ≡ 168 * N → length b.u ≡ 336 * N → length b.salt1 ≡ 32 → length b.salt3 ≡ 32
    → length (answer2_bytes b) ≡ answer_length N 2
length_answer2_bytes N b ep eu e1 e3 = length_four b.p b.u b.salt1 b.salt3 (504 * N + 64) (omega arith)

pub length_answer3_bytes : (N : ℕ) (c : Answer3) → length c.p ≡ 168 * N → length c.r ≡ 336 * N → length c.salt1 ≡ 32 → length c.salt2 ≡ 32
    → length (answer3_bytes c) ≡ answer_length N 3
length_answer3_bytes N c ep er e1 e2 = length_four c.p c.r c.salt1 c.salt2 (504 * N + 64) (omega arith)

-- ---- so the encodings are injective

by_reading : {A : Type 0} (read : Bytes → A) (write : A → Bytes) (s t : Bytes) → write (read s) ≡ s → write (read t) ≡ t → read s ≡ read t → s ≡ t
by_reading read write s t es et e = sym es ∙ ap write e ∙ et

pub answer1_injective : (N : ℕ) (s t : Bytes) → length s ≡ answer_length N 1 → length t ≡ answer_length N 1 → answer1_of N s ≡ answer1_of N t → s ≡ t
answer1_injective N s t ls lt = by_reading (answer1_of N) answer1_bytes s t (answer1_bytes_answer1_of N s ls) (answer1_bytes_answer1_of N t lt)

pub answer2_injective : (N : ℕ) (s t : Bytes) → length s ≡ answer_length N 2 → length t ≡ answer_length N 2 → answer2_of N s ≡ answer2_of N t → s ≡ t
answer2_injective N s t ls lt = by_reading (answer2_of N) answer2_bytes s t (answer2_bytes_answer2_of N s ls) (answer2_bytes_answer2_of N t lt)

pub answer3_injective : (N : ℕ) (s t : Bytes) → length s ≡ answer_length N 3 → length t ≡ answer_length N 3 → answer3_of N s ≡ answer3_of N t → s ≡ t
answer3_injective N s t ls lt = by_reading (answer3_of N) answer3_bytes s t (answer3_bytes_answer3_of N s ls) (answer3_bytes_answer3_of N t lt)
