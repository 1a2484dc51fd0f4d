-- An order with one range test in front, and the five orders that it is made of: the extractor's, and those of the openings and answers that it is lent. Assumes nothing.
use mathlib.Core.Path.{◌≡◌, refl, ap, ap₂}
use mathlib.Core.Logic.{◌⊎◌, inl, inr}
use mathlib.Core.Bool.{Bool, true, false, cond, not, ◌&&◌}
use mathlib.Core.List.{List, [], ◌∷◌, ◌++◌}
use Prim.Native.Nat.{ℕ, ◌≤◌, ◌<◌}
use native.Mathlib.Omega.{arith}
use borrow.Author.Tests.{not-false}
use Rattle.codec.specs.Reply.{Test, test, first, None, Reply, Refused}
use Rattle.codec.proofs.Laws.{both}
use Rattle.round.proofs.Many.{for_sides, for_challenges, none_append, append_none}

-- ---- tests of ranges

pub swap : (a b c : Bool) → (a && (b && c)) ≡ (b && (a && c))
swap true b c = refl
swap false true c = refl
swap false false c = refl

-- five tests and one more
pub front : (a b c d e f : Bool) → (a && (b && (c && (d && (e && f))))) ≡ ((a && (b && (c && (d && e)))) && f)
front false b c d e f = refl
front true false c d e f = refl
front true true false d e f = refl
front true true true false e f = refl
front true true true true e f = refl

-- ---- orders one after another

-- what two orders answer is what the first answers, or what the second does where the first takes
first_of : (rs ts : List Test) {reply : Reply} → first (rs ++ ts) ≡ reply → (first rs ≡ reply) ⊎ (None rs × (first ts ≡ reply))
unfolding first
first_of [] ts e = inr (tt, e)
first_of (t ∷ rs) ts {reply} e = go t.holds refl e (λ f. first_of rs ts f)
  where
    later : (first rs ≡ reply) ⊎ (None rs × (first ts ≡ reply)) → (first rs ≡ reply) ⊎ ((◌≡◌ {A = Bool} false false × None rs) × (first ts ≡ reply))
    later (inl f) = inl f
    later (inr n) = inr ((refl, n.0), n.1)

    go : (b : Bool) → t.holds ≡ b → cond b (Refused t.number t.place) (first (rs ++ ts)) ≡ reply → (first (rs ++ ts) ≡ reply → (first rs ≡ reply) ⊎ (None rs × (first ts ≡ reply)))
        → (cond b (Refused t.number t.place) (first rs) ≡ reply) ⊎ (((b ≡ false) × None rs) × (first ts ≡ reply))
    go true h f rest = inl f
    go false h f rest = later (rest f)

-- ---- one order and five

-- M is the range of the first message, ballots and claims, o and a those of an opening and an answer, s the sixth test
abbrev pub opening_order : (M s o : Bool) → List Test → List Test
opening_order M s o S = test 5 0 (not (M && o)) ∷ test 6 0 (not s) ∷ S

abbrev pub answer_order : Bool → List Test → List Test
answer_order a T = test 5 0 (not a) ∷ T

-- two sides, three challenges, and R is the range of the repetition
abbrev pub one_order : (R M s : Bool) (o a : ℕ → Bool) (S T : ℕ → List Test) → List Test
one_order R M s o a S T = test 5 0 (not (R && (M && (o 0 && (o 1 && (a 1 && (a 2 && a 3))))))) ∷ test 6 0 (not s) ∷ (S 0 ++ (S 1 ++ (T 1 ++ (T 2 ++ T 3))))

module _ (R M s : Bool) (o a : ℕ → Bool) (S T : ℕ → List Test) where
  pub order_parts : None (one_order R M s o a S T) → (R ≡ true) × ((i : ℕ) → i < 2 → None (opening_order M s (o i) (S i))) × ((c : ℕ) → 1 ≤ c → c ≤ 3 → None (answer_order (a c) (T c)))
  order_parts n =
      let r = both R _ (not-false _ n.0) in
      let message = both M _ r.1 in
      let opening0 = both (o 0) _ message.1 in
      let opening1 = both (o 1) _ opening0.1 in
      let answer1 = both (a 1) _ opening1.1 in
      let answers = both (a 2) (a 3) answer1.1 in
      let f = append_none (S 0) (S 1 ++ (T 1 ++ (T 2 ++ T 3))) n.1.1 in
      let g = append_none (S 1) (T 1 ++ (T 2 ++ T 3)) f.1 in
      let h = append_none (T 1) (T 2 ++ T 3) g.1 in
      let i = append_none (T 2) (T 3) h.1 in (
        r.0,
        for_sides (λ j. None (opening_order M s (o j) (S j))) (ap not (ap₂ ◌&&◌ message.0 opening0.0), (n.1.0, f.0)) (ap not (ap₂ ◌&&◌ message.0 opening1.0), (n.1.0, g.0)),
        for_challenges (λ c. None (answer_order (a c) (T c))) (ap not answer1.0, h.0) (ap not answers.0, i.0) (ap not answers.1, i.1),
      )

  pub parts_order : R ≡ true → ((i : ℕ) → i < 2 → None (opening_order M s (o i) (S i))) → ((c : ℕ) → 1 ≤ c → c ≤ 3 → None (answer_order (a c) (T c))) → None (one_order R M s o a S T)
  parts_order r openings answers =
      let n0 = openings 0 (omega arith) in
      let n1 = openings 1 (omega arith) in
      let m1 = answers 1 (omega arith) (omega arith) in
      let m2 = answers 2 (omega arith) (omega arith) in
      let m3 = answers 3 (omega arith) (omega arith) in
      let first_side = both M (o 0) (not-false _ n0.0) in
      let second_side = both M (o 1) (not-false _ n1.0) in
      let ranges = ap₂ ◌&&◌ (not-false (a 1) m1.0) (ap₂ ◌&&◌ (not-false (a 2) m2.0) (not-false (a 3) m3.0)) in (
        ap not (ap₂ ◌&&◌ r (ap₂ ◌&&◌ first_side.0 (ap₂ ◌&&◌ first_side.1 (ap₂ ◌&&◌ second_side.1 ranges)))),
        (
          n0.1.0,
          none_append (S 0) (S 1 ++ (T 1 ++ (T 2 ++ T 3))) n0.1.1
              (none_append (S 1) (T 1 ++ (T 2 ++ T 3)) n1.1.1 (none_append (T 1) (T 2 ++ T 3) m1.1 (none_append (T 2) (T 3) m2.1 m3.1))),
        ),
      )

  -- the one order refuses as one of the five does, or for the repetition
  pub order_first : {A : Type 0} {number place : ℕ} → (R ≡ false → Refused 5 0 ≡ Refused number place → A) → ((i : ℕ) → i < 2 → first (opening_order M s (o i) (S i)) ≡ Refused number place → A)
      → ((c : ℕ) → 1 ≤ c → c ≤ 3 → first (answer_order (a c) (T c)) ≡ Refused number place → A) → first (one_order R M s o a S T) ≡ Refused number place → A
  unfolding first
  order_first {A} {number} {place} none side challenge e =
      go R M s (o 0) (o 1) (a 1) (a 2) (a 3) none (side 0 (omega arith)) (side 1 (omega arith)) (challenge 1 (omega arith) (omega arith)) (challenge 2 (omega arith) (omega arith)) (challenge 3 (omega arith) (omega arith)) e
    where
      in_turn : (rs ts : List Test) → (first rs ≡ Refused number place → A) → (first ts ≡ Refused number place → A) → first (rs ++ ts) ≡ Refused number place → A
      in_turn rs ts f g h = choose (first_of rs ts h)
        where
          choose : (first rs ≡ Refused number place) ⊎ (None rs × (first ts ≡ Refused number place)) → A
          choose (inl i) = f i
          choose (inr i) = g i.1

      go : (R M s o0 o1 a1 a2 a3 : Bool) → (R ≡ false → Refused 5 0 ≡ Refused number place → A) → (first (opening_order M s o0 (S 0)) ≡ Refused number place → A) → (first (opening_order M s o1 (S 1)) ≡ Refused number place → A)
          → (first (answer_order a1 (T 1)) ≡ Refused number place → A) → (first (answer_order a2 (T 2)) ≡ Refused number place → A) → (first (answer_order a3 (T 3)) ≡ Refused number place → A)
          → first (test 5 0 (not (R && (M && (o0 && (o1 && (a1 && (a2 && a3))))))) ∷ test 6 0 (not s) ∷ (S 0 ++ (S 1 ++ (T 1 ++ (T 2 ++ T 3))))) ≡ Refused number place → A
      go false M s o0 o1 a1 a2 a3 r f0 f1 g1 g2 g3 h = r refl h
      go true false s o0 o1 a1 a2 a3 r f0 f1 g1 g2 g3 h = f0 h
      go true true s false o1 a1 a2 a3 r f0 f1 g1 g2 g3 h = f0 h
      go true true s true false a1 a2 a3 r f0 f1 g1 g2 g3 h = f1 h
      go true true s true true false a2 a3 r f0 f1 g1 g2 g3 h = g1 h
      go true true s true true true false a3 r f0 f1 g1 g2 g3 h = g2 h
      go true true s true true true true false r f0 f1 g1 g2 g3 h = g3 h
      go true true false true true true true true r f0 f1 g1 g2 g3 h = f0 h
      go true true true true true true true true r f0 f1 g1 g2 g3 h = in_turn (S 0) _ f0 (in_turn (S 1) _ f1 (in_turn (T 1) _ g1 (in_turn (T 2) (T 3) g2 g3))) h
