-- The loop over repetitions: where the digests and the answer of repetition i stand, and what its reply adds. Assumes nothing.
use mathlib.Core.Path.{◌≡◌, refl, sym, ap, ap₂, ◌∙◌}
use mathlib.Core.Bool.{true}
use mathlib.Core.List.{List}
use Prim.Native.Nat.{ℕ, suc, ◌+◌, ◌-◌, ◌*◌, ◌≤◌, ◌<◌}
use native.Mathlib.Nat.{mul-le-mul}
use native.Mathlib.Numerals.{add-one}
use native.Mathlib.Omega.{arith}
use lib.ListN.{length, take, drop, get_or}
use Rattle.codec.specs.Bytes.{Bytes, part}
use Rattle.codec.specs.Reply.{Test, first, None, Reply, Taken, Refused}
use Rattle.sheet_numbers.specs.declared.Numbers.{Numbers}
use Rattle.commitment.specs.Commitment.{Keys, keys_of}
use Rattle.commitment.specs.Loaded.{key_bytes}
use Rattle.stern.specs.Shortness.{answer_length, in_range, answer_tests}
use Rattle.round.specs.Layout.{joined, pairs_of, digests_at, answers_length, answer_at}
use Rattle.round.specs.Internal.{Answers}
use Rattle.commitment.proofs.Cut.{keys_cut}
use Rattle.round.proofs.Many.{each_more, each_refused, each_taken}
use Rattle.round.proofs.Answers.{answers_length_more, prefix_le, all_le}

-- one repetition, from parts that are lent with lengths that are differences of places
module _ (k : Numbers) (s head : Bytes) (digests : ℕ) (answers : Bytes) (at size place challenge : ℕ) where
  abbrev n : ℕ
  n = k.ring

  abbrev told : (keys : Bytes) (pairs d answer : ℕ) → Reply
  told keys pairs d answer =
      first (answer_tests k.modulus n (keys_of n keys) (take pairs (drop (16 * n) head)) (take d (drop digests head)) place challenge (take answer (drop at answers)))

  pub at_lent : {r : Reply} → r ≡ told (take (40 * n - 16 * n) (drop (16 * n) s)) (80 * n - 16 * n) (digests + 96 - digests) (at + size - at) → r ≡ told (key_bytes k s) (64 * n) 96 size
  at_lent e =
      let x : 80 * n - 16 * n ≡ 64 * n = omega arith in
      let y : digests + 96 - digests ≡ 96 = omega arith in
      let z : at + size - at ≡ size = omega arith in
      e ∙ ap₂ (λ (w : Bytes) (i : ℕ). told w i (digests + 96 - digests) (at + size - at)) (keys_cut k s) x ∙ ap₂ (told (key_bytes k s) (64 * n)) y z

module _ (q n : ℕ) (k : Keys) (head challenges answers : Bytes) where
  abbrev pub repetition_tests : ℕ → List Test
  repetition_tests i = answer_tests q n k (pairs_of n head) (digests_at n head i) i (get_or challenges i 0) (answer_at n challenges answers i)

  -- where the loop stands before repetition i, with nothing refused so far
  pub record Came (i at : ℕ) (w : Bytes) : Type 0 where
    pub long : length w ≡ 1048576
    pub place : at ≡ answers_length n (take i challenges)
    pub none : None (joined i repetition_tests)

  pub came_first : (w : Bytes) → length w ≡ 1048576 → Came 0 0 w
  unfolding joined answers_length
  came_first w l = record { long = l; place = refl; none = tt }

  module _ (repeats i at : ℕ) (w : Bytes) (r : Came i at w) (h : i < repeats) (a : Answers q n repeats challenges answers) where
    next : answers_length n (take (suc i) challenges) ≡ at + answer_length n (get_or challenges i 0)
    next = answers_length_more n challenges i (omega (arith, a.challenges_sized)) ∙ ap (λ (x : ℕ). x + answer_length n (get_or challenges i 0)) (sym r.place)

    pub answer_ends : at + answer_length n (get_or challenges i 0) ≤ length answers
    answer_ends = omega (arith, next, prefix_le n challenges (suc i), a.answers_sized)

    pub answer_fits : n ≤ 2048 → repeats ≤ 256 → length answers ≤ 264257536
    answer_fits high few = omega (arith, a.answers_sized, all_le n challenges, a.challenges_sized, mul-le-mul {n₁ = 504 * n + 64} {m₁ = length challenges} {n₂ = 1032256} {m₂ = 256} (omega arith) (omega (arith, a.challenges_sized)))

    pub answer_ranged : (size : ℕ) → size ≡ answer_length n (get_or challenges i 0) → in_range q n (get_or challenges i 0) (part answers at size) ≡ true
    answer_ranged size e = ap (λ (x : ℕ). in_range q n (get_or challenges i 0) (part answers at x)) e ∙ ap (λ (x : ℕ). in_range q n (get_or challenges i 0) (part answers x (answer_length n (get_or challenges i 0)))) r.place ∙ a.below i h

    module _ (z : Reply) (size : ℕ) (es : size ≡ answer_length n (get_or challenges i 0))
        (e : z ≡ first (answer_tests q n k (pairs_of n head) (part head (80 * n + 96 * i) 96) i (get_or challenges i 0) (part answers at size))) where
      reply_is : z ≡ first (repetition_tests i)
      reply_is =
          e ∙ ap (λ (x : ℕ). first (answer_tests q n k (pairs_of n head) (part head (80 * n + 96 * i) 96) i (get_or challenges i 0) (part answers at x))) es
          ∙ ap (λ (x : ℕ). first (answer_tests q n k (pairs_of n head) (part head (80 * n + 96 * i) 96) i (get_or challenges i 0) (part answers x (answer_length n (get_or challenges i 0))))) r.place

      pub came_more : (w' : Bytes) → length w' ≡ length w → z ≡ Taken → Came (i + 1) (at + size) w'
      came_more w' l t = record {
        long = l ∙ r.long;
        place = rw (add-one i) (omega (arith, next, es));
        none = each_more repetition_tests i r.none (sym reply_is ∙ t);
      }

      pub came_refused : (number place : ℕ) → z ≡ Refused number place → Refused number place ≡ first (joined repeats repetition_tests)
      came_refused number place t = sym (each_refused repeats repetition_tests i number place h r.none (sym reply_is ∙ t))

  pub came_all : {repeats i at : ℕ} {w : Bytes} → Came i at w → i ≡ repeats → Taken ≡ first (joined repeats repetition_tests)
  came_all {i = i} r e = sym (ap (λ (m : ℕ). first (joined m repetition_tests)) (sym e) ∙ each_taken i repetition_tests r.none)
