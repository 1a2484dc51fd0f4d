-- The loop over repetitions: what is answered before repetition i, and where its answer stands. Assumes nothing.
use mathlib.Core.Path.{◌≡◌, sym, ap, ◌∙◌}
use Prim.Native.Nat.{ℕ, suc, ◌+◌, ◌*◌, ◌≤◌, ◌<◌}
use native.Mathlib.Omega.{arith}
use lib.ListN.{length, take, get_or}
use lib.Seq.{take_all}
use Rattle.codec.specs.Bytes.{Bytes, part, put}
use Rattle.stern.specs.Shortness.{answer_length, honest_answer}
use Rattle.round.specs.Layout.{joined, answers_length}
use Rattle.round.specs.Producer.{drawn_in, answers_bytes}
use Rattle.round.proofs.Answers.{answers_length_more, prefix_le, length_answers, length_honest_answer}
use Rattle.round_head.specs.Internal.{Drawings}
use Rattle.round_head.proofs.Drawing.{material}
use Rattle.round_head.proofs.Joining.{Filled, filled_more, filled_all}

module _ (q n repeats : ℕ) (secrets vectors permutations salts challenges : Bytes) where
  abbrev pub answer_of : ℕ → Bytes
  answer_of i = honest_answer q n secrets (drawn_in n vectors permutations salts i) (get_or challenges i 0)

  module _ (answers₀ : Bytes) where
    -- what is written before repetition i
    abbrev pub Answering : (i at : ℕ) (answers : Bytes) → Type 0
    Answering i at answers = Filled answer_of answers₀ 0 i at answers

    module _ (d : Drawings q n repeats secrets vectors permutations salts) (size : length challenges ≡ repeats) (room : length answers₀ ≡ answers_length n challenges) where
      answer_sized : (i : ℕ) → i < repeats → length (answer_of i) ≡ answer_length n (get_or challenges i 0)
      answer_sized i h =
          let m = material n repeats i h q secrets vectors permutations salts d in
          length_honest_answer q n secrets (part permutations (168 * n * i) (168 * n)) (part vectors (336 * n * i) (336 * n)) (part salts (96 * i) 96) m.size_x m.size_p m.size_r m.size_salts (get_or challenges i 0)

      answers_long : (i : ℕ) → i ≤ repeats → length (joined i answer_of) ≡ answers_length n (take i challenges)
      answers_long i h = length_answers n challenges answer_of i (omega arith) (λ j l. answer_sized j (omega arith))

      module _ (i at : ℕ) (answers : Bytes) (r : Answering i at answers) (h : i < repeats) where
        pub answer_ends : at + answer_length n (get_or challenges i 0) ≤ length answers
        answer_ends =
            omega (arith, r.place, r.long, room, answers_long i (omega arith), answers_length_more n challenges i (omega arith), prefix_le n challenges (suc i))

        pub answering_more : (long : ℕ) (answers' : Bytes) → long ≡ answer_length n (get_or challenges i 0) → length answers' ≡ length answers → answers' ≡ put answers at (answer_of i)
            → Answering (i + 1) (at + long) answers'
        answering_more long answers' el l e = filled_more answer_of answers₀ 0 i at long answers answers' r (answer_sized i h ∙ sym el) (omega (arith, answer_ends, r.long)) l e

      pub answering_all : (i at : ℕ) (answers : Bytes) → Answering i at answers → i ≡ repeats → answers ≡ answers_bytes q n repeats secrets vectors permutations salts challenges
      answering_all i at answers r h =
          filled_all answer_of answers₀ answers i at repeats r h (answers_long repeats (omega arith) ∙ ap (answers_length n) (take_all repeats challenges (omega arith)) ∙ sym room)
