-- Range tests of parts of lent slices, and the loop over answers end to end. Assumes nothing.
use mathlib.Core.Path.{◌≡◌, refl, sym, ap, ◌∙◌}
use mathlib.Core.Bool.{Bool, true, false, ◌&&◌}
use Prim.Native.Nat.{ℕ, suc, ◌+◌, ◌*◌, ◌/◌, ◌≤◌, ◌<◌}
use native.Mathlib.Nat.{mul-le-mul}
use native.Mathlib.Numerals.{add-one}
use native.Mathlib.Omega.{arith}
use borrow.Author.Count.{below_none, below_more}
use lib.ListN.{length, take, drop, get_or}
use Rattle.codec.specs.Bytes.{Bytes, part}
use Rattle.codec.proofs.Laws.{length_part}
use Rattle.codec.specs.Lists.{list, all_below, all}
use Rattle.codec.proofs.Lists.{list_cong, all_sound, all_complete}
use Rattle.ring.specs.Slots.{poly, slot}
use Rattle.ring.proofs.Bridge.{poly_part, slot_poly}
use Rattle.scratch.proofs.Order.{fails, goes_on}
use Rattle.vector.specs.Vector.{vector}
use Rattle.stern.specs.Shortness.{answer_length, in_range}
use Rattle.round.specs.Layout.{u_at, answers_length, answer_at}
use Rattle.round.specs.Round.{is_challenge, head_ranged}
use Rattle.round.proofs.Answers.{answers_length_more}
use Rattle.round.proofs.Answers.{prefix_le, all_le}
use Rattle.round_side.specs.Internal.{message_ranged}

-- ---- a part, lent with a length that is a difference of places

pub part_range : (q : ℕ) (s : Bytes) (at m l : ℕ) → m ≡ 8 * l → at + 8 * l ≤ length s
    → all_below q (list (length (take m (drop at s)) / 8) (poly (take m (drop at s)))) ≡ all_below q (list l (slot s at))
part_range q s at m l e h =
    let long = length_part s at (8 * l) h in
    let eighth : length (part s at (8 * l)) / 8 ≡ l = omega arith in
    ap (λ (k : ℕ). all_below q (list (length (take k (drop at s)) / 8) (poly (take k (drop at s))))) e
    ∙ ap (λ (k : ℕ). all_below q (list k (poly (part s at (8 * l))))) eighth
    ∙ ap (all_below q) (list_cong l (λ k b. poly_part s at l k b))

-- the first coefficients
pub front_range : (q : ℕ) (s : Bytes) (m l : ℕ) → m ≡ 8 * l → 8 * l ≤ length s → all_below q (list (length (take m s) / 8) (poly (take m s))) ≡ all_below q (list l (poly s))
front_range q s m l e h = part_range q s 0 m l e (omega arith) ∙ ap (all_below q) (list_cong l (λ k b. slot_poly s k))

-- ballots, claims and first message in one test, and then the rest
grouped : (a b c d e o : Bool) → ((a && (b && (c && (d && e)))) && o) ≡ (a && (b && (c && (d && (e && o)))))
grouped false b c d e o = refl
grouped true false c d e o = refl
grouped true true false d e o = refl
grouped true true true false e o = refl
grouped true true true true e o = refl

module _ (q n p m : ℕ) (ballots claims head shares0 shares1 : Bytes) (rest : Bool) where
  abbrev ballots_pass : Bool
  ballots_pass = all m (λ j. all_below q (list (2 * n) (u_at n ballots j)))

  -- the message's own and then the rest, one after the other
  abbrev onwards : Bool
  onwards = ballots_pass && (all_below p claims && (head_ranged q n head && (all_below q (vector shares0) && (all_below q (vector shares1) && rest))))

  module _ {x : Bool} (is : x ≡ message_ranged q n p m ballots claims head shares0 shares1) where
    regrouped : (message_ranged q n p m ballots claims head shares0 shares1 && rest) ≡ onwards
    regrouped = grouped ballots_pass (all_below p claims) (head_ranged q n head) (all_below q (vector shares0)) (all_below q (vector shares1)) rest

    pub message_fails : x ≡ false → false ≡ onwards
    message_fails f = fails (message_ranged q n p m ballots claims head shares0 shares1) rest is f ∙ regrouped

    pub message_passes : {y : Bool} → x ≡ true → y ≡ rest → y ≡ onwards
    message_passes t f = goes_on (message_ranged q n p m ballots claims head shares0 shares1) rest is t f ∙ regrouped

-- one of many fails
pub all_fails : (n : ℕ) (f : ℕ → Bool) (j : ℕ) → j < n → f j ≡ false → false ≡ all n f
all_fails n f j h e = go (all n f) refl
  where
    go : (b : Bool) → all n f ≡ b → false ≡ b
    go true t = sym e ∙ all_sound n f t j h
    go false t = refl

-- ---- the loop over answers

module _ (q n : ℕ) (challenges answers : Bytes) where
  abbrev answer_ranged : ℕ → Bool
  answer_ranged i = is_challenge (get_or challenges i 0) && in_range q n (get_or challenges i 0) (answer_at n challenges answers i)

  -- where the loop stands before repetition i, with all before it in range
  pub record Heard (repeats i at : ℕ) : Type 0 where
    pub within : i ≤ repeats
    pub place : at ≡ answers_length n (take i challenges)
    pub fits : at ≤ 264257536
    pub ranged : (j : ℕ) → j < i → answer_ranged j ≡ true

  pub heard_first : (repeats : ℕ) → Heard repeats 0 0
  unfolding answers_length
  heard_first repeats = record { within = omega arith; place = refl; fits = omega arith; ranged = below_none _ }

  module _ (repeats i at : ℕ) (r : Heard repeats i at) (h : i < repeats) (asked : length challenges ≡ repeats) (sized : length answers ≡ answers_length n challenges)
      (size : ℕ) (es : size ≡ answer_length n (get_or challenges i 0)) where
    next : answers_length n (take (suc i) challenges) ≡ at + size
    next = omega (arith, answers_length_more n challenges i (omega arith), r.place)

    pub answer_ends : at + size ≤ length answers
    answer_ends = omega (arith, next, prefix_le n challenges (suc i))

    pub answer_fits : n ≤ 2048 → repeats ≤ 256 → at + size ≤ 264257536
    answer_fits high few =
        omega (arith, answer_ends, all_le n challenges, mul-le-mul {n₁ = 504 * n + 64} {m₁ = length challenges} {n₂ = 1032256} {m₂ = 256} (omega arith) (omega arith))

    pub answer_long : (m : ℕ) → m ≡ size → length (take m (drop at answers)) ≡ answer_length n (get_or challenges i 0)
    answer_long m e = ap (λ (k : ℕ). length (take k (drop at answers))) e ∙ length_part answers at size answer_ends ∙ es

    module _ (b : Bool) (m : ℕ) (e : m ≡ size) (is : b ≡ (is_challenge (get_or challenges i 0) && in_range q n (get_or challenges i 0) (take m (drop at answers)))) where
      answer_is : b ≡ answer_ranged i
      answer_is =
          is ∙ ap (λ (x : ℕ). is_challenge (get_or challenges i 0) && in_range q n (get_or challenges i 0) (take x (drop at answers))) (e ∙ es)
          ∙ ap (λ (x : ℕ). is_challenge (get_or challenges i 0) && in_range q n (get_or challenges i 0) (part answers x (answer_length n (get_or challenges i 0)))) r.place

      pub heard_more : n ≤ 2048 → repeats ≤ 256 → b ≡ true → Heard repeats (i + 1) (at + size)
      heard_more high few t = record {
        within = omega arith;
        place = rw (add-one i) (sym next);
        fits = answer_fits high few;
        ranged = below_more _ i r.ranged (sym answer_is ∙ t);
      }

      pub heard_fails : b ≡ false → false ≡ all repeats answer_ranged
      heard_fails f = all_fails repeats answer_ranged i h (sym answer_is ∙ f)

  pub heard_all : (repeats i at : ℕ) → Heard repeats i at → repeats ≤ i → true ≡ all repeats answer_ranged
  heard_all repeats i at r h = sym (all_complete repeats answer_ranged (λ j l. r.ranged j (omega arith)))
