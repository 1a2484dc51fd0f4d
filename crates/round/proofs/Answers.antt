-- Where strings of different lengths stand that are written end to end, as answers are, and the lengths of honest answers. Assumes nothing.
use mathlib.Core.Path.{◌≡◌, refl, sym, ap, ap₂, ◌∙◌}
use mathlib.Core.Logic.{◌⊎◌, inl, inr}
use mathlib.Core.Bool.{Bool, true, false, cond}
use mathlib.Core.List.{[], ◌∷◌, ◌++◌, append-nil, append_assoc}
use Prim.Native.Nat.{ℕ, zero, suc, ◌+◌, ◌*◌, ◌≤◌, ◌<◌}
use native.Mathlib.Nat.{add-zero, add_assoc, mul-zero, mul-suc}
use native.Mathlib.Omega.{arith}
use lib.Dec.{eqb}
use lib.ListN.{length, take, drop, get_or, length-append, take-append-drop}
use lib.Seq.{take-suc}
use Rattle.codec.specs.Bytes.{Bytes, part}
use Rattle.codec.proofs.Laws.{length_part}
use Rattle.codec.proofs.Numbers.{length_words}
use Rattle.vector.specs.Vector.{vector}
use Rattle.vector.specs.Permutation.{entries, apply, extend}
use Rattle.vector.proofs.Vectors.{length_apply, length_entries}
use Rattle.vector.proofs.Balance.{length_extend_le}
use Rattle.vector.proofs.Gathers.{length_sum}
use Rattle.stern.specs.Argument.{Drawn, masked, answer1, answer2, answer3}
use Rattle.stern.specs.Shortness.{drawn_of, answer_length, honest_answer, answer1_bytes, answer2_bytes, answer3_bytes}
use Rattle.stern.proofs.Layouts.{part_first, part_behind, length_answer1_bytes, length_answer2_bytes, length_answer3_bytes}
use Rattle.round.specs.Layout.{joined, answers_length, answer_at}
use Rattle.round.proofs.Many.{last}

-- ---- end to end

-- what stands around number j
pub record Around (n : ℕ) (f : ℕ → Bytes) (j : ℕ) : Type 0 where
  pub rest : Bytes
  pub is : joined n f ≡ joined j f ++ (f j ++ rest)

around : (n : ℕ) (f : ℕ → Bytes) (j : ℕ) → j < n → Around n f j
unfolding joined
around zero f j h = absurd (omega arith)
around (suc n) f j h = go (λ l. around n f j l) (last n j h)
  where
    go : (j < n → Around n f j) → (j < n) ⊎ (j ≡ n) → Around (suc n) f j
    go before (inl l) =
        let a = before l in
        record {
          rest = a.rest ++ f n;
          is = ap (λ (s : Bytes). s ++ f n) a.is ∙ append_assoc (joined j f) (f j ++ a.rest) (f n)
              ∙ ap (λ (s : Bytes). joined j f ++ s) (append_assoc (f j) a.rest (f n));
        }
    go before (inr e) = record { rest = []; is = rw e (ap (λ (s : Bytes). joined n f ++ s) (sym (append-nil (f n)))) }

-- number j stands behind those before it
joined_place : (n : ℕ) (f : ℕ → Bytes) (j : ℕ) → j < n → part (joined n f) (length (joined j f)) (length (f j)) ≡ f j
joined_place n f j h =
    let a = around n f j h in
    ap (λ (s : Bytes). part s (length (joined j f)) (length (f j))) a.is
    ∙ part_behind (joined j f) (f j ++ a.rest) (length (joined j f)) 0 (length (joined j f)) (length (f j)) refl (sym (add-zero _))
    ∙ part_first (f j) a.rest (length (f j)) refl

pub answers_length_append : (N : ℕ) (cs ds : Bytes) → answers_length N (cs ++ ds) ≡ answers_length N cs + answers_length N ds
unfolding answers_length
answers_length_append N [] ds = omega arith
answers_length_append N (c ∷ cs) ds = ap (λ (n : ℕ). answer_length N c + n) (answers_length_append N cs ds) ∙ sym (add_assoc (answer_length N c) (answers_length N cs) (answers_length N ds))

pub answers_length_more : (N : ℕ) (cs : Bytes) (i : ℕ) → i < length cs → answers_length N (take (suc i) cs) ≡ answers_length N (take i cs) + answer_length N (get_or cs i 0)
answers_length_more N cs i h = rw (take-suc cs i 0 h) (answers_length_append N (take i cs) (get_or cs i 0 ∷ []) ∙ ap (λ (n : ℕ). answers_length N (take i cs) + n) (one (get_or cs i 0)))
  where
    one : (c : ℕ) → answers_length N (c ∷ []) ≡ answer_length N c
    one c = unfold answers_length in add-zero (answer_length N c)

-- a prefix is no longer than the whole, and the whole is no longer than so many of the longer answers
pub prefix_le : (n : ℕ) (cs : Bytes) (m : ℕ) → answers_length n (take m cs) ≤ answers_length n cs
prefix_le n cs m = omega (arith, ap (answers_length n) (take-append-drop m cs), answers_length_append n (take m cs) (drop m cs))

pub one_le : (n c : ℕ) → answer_length n c ≤ 504 * n + 64
one_le n c = go (eqb c 1)
  where
    go : (b : Bool) → cond b (378 * n + 64) (504 * n + 64) ≤ 504 * n + 64
    go true = omega arith
    go false = omega arith

pub all_le : (n : ℕ) (cs : Bytes) → answers_length n cs ≤ (504 * n + 64) * length cs
unfolding answers_length
all_le n [] = omega (arith, mul-zero (504 * n + 64))
all_le n (c ∷ cs) = omega (arith, all_le n cs, one_le n c, mul-suc (504 * n + 64) (length cs))

-- answers to challenges, each of its length
module _ (N : ℕ) (cs : Bytes) (f : ℕ → Bytes) where
  pub length_answers : (n : ℕ) → n ≤ length cs → ((i : ℕ) → i < n → length (f i) ≡ answer_length N (get_or cs i 0)) → length (joined n f) ≡ answers_length N (take n cs)
  unfolding joined
  length_answers zero l h = unfold answers_length in refl
  length_answers (suc n) l h =
      length-append (joined n f) (f n) ∙ ap₂ ◌+◌ (length_answers n (omega arith) (λ i b. h i (omega arith))) (h n (omega arith)) ∙ sym (answers_length_more N cs n l)

  pub answers_at : (n : ℕ) → n ≤ length cs → ((i : ℕ) → i < n → length (f i) ≡ answer_length N (get_or cs i 0)) → (i : ℕ) → i < n → answer_at N cs (joined n f) i ≡ f i
  answers_at n l h i b =
      ap₂ (λ (at k : ℕ). part (joined n f) at k) (sym (length_answers i (omega arith) (λ j c. h j (omega arith)))) (sym (h i b))
      ∙ joined_place n f i b

-- ---- an honest answer has its length, whatever the material holds

module _ (q N : ℕ) (x p r salts : Bytes) (size_x : length x ≡ 14 * N) (size_p : length p ≡ 168 * N) (size_r : length r ≡ 336 * N) (size_salts : length salts ≡ 96) where
  abbrev drawn : Drawn
  drawn = drawn_of p r salts

  salt : (at : ℕ) → at + 32 ≤ 96 → length (part salts at 32) ≡ 32
  salt at h = length_part salts at 32 (omega arith)

  size_w : length (answer1 (14 * N) x drawn).w ≡ 42 * N
  size_w = length_apply (entries p) (extend (14 * N) x) ∙ length_entries p ∙ omega arith

  size_t : length (answer1 (14 * N) x drawn).t ≡ 336 * N
  size_t = length_words (apply (entries p) (vector r)) ∙ omega (arith, length_apply (entries p) (vector r), length_entries p)

  size_u : length (answer2 q (14 * N) x drawn).u ≡ 336 * N
  size_u = length_words (masked q (14 * N) x drawn) ∙ omega (arith, length_sum q (extend (14 * N) x) r (42 * N) (omega arith) (omega (arith, length_extend_le (14 * N) x size_x)))

  pub length_honest_answer : (challenge : ℕ) → length (honest_answer q N x (drawn_of p r salts) challenge) ≡ answer_length N challenge
  length_honest_answer challenge = go (eqb challenge 1) (eqb challenge 2)
    where
      go : (one two : Bool) → length (cond one (answer1_bytes (answer1 (14 * N) x drawn)) (cond two (answer2_bytes (answer2 q (14 * N) x drawn)) (answer3_bytes (answer3 drawn)))) ≡ cond one (378 * N + 64) (504 * N + 64)
      go true two = length_answer1_bytes N (answer1 (14 * N) x drawn) size_w size_t (salt 32 (omega arith)) (salt 64 (omega arith))
      go false true = length_answer2_bytes N (answer2 q (14 * N) x drawn) size_p size_u (salt 0 (omega arith)) (salt 64 (omega arith))
      go false false = length_answer3_bytes N (answer3 drawn) size_p size_r (salt 0 (omega arith)) (salt 32 (omega arith))
