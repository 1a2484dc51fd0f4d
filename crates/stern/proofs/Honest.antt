-- The unknowns of an honest split meet the equations, so that the honest answers, as bytes, meet no refusal. Assumes nothing.
use mathlib.Core.Path.{◌≡◌, refl, sym, ap, ap₂, subst, ◌∙◌}
use mathlib.Core.Bool.{Bool, true, false, cond, not, ◌&&◌}
use mathlib.Core.List.{◌++◌}
use Prim.Native.Nat.{ℕ, ◌+◌, ◌*◌, ◌^◌, ◌≤◌, ◌<◌}
use native.Mathlib.Nat.{add-zero, add-mul}
use native.Mathlib.Omega.{arith}
use lib.Dec.{eqb}
use lib.ListN.{length, length-append}
use Rattle.codec.specs.Bytes.{Bytes, part, same}
use Rattle.codec.specs.Reply.{None}
use Rattle.codec.proofs.Laws.{length_part, part_part, same_refl}
use Rattle.codec.proofs.Numbers.{length_words}
use Rattle.codec.specs.Lists.{all_below}
use Rattle.sha3.proofs.Squeezing.{length_sha3}
use Rattle.modular.proofs.Congruence.{same_eq, ◌then◌, same_mod}
use Rattle.ring.specs.Poly.{Poly, plus, modulo, Alike}
use Rattle.ring.specs.Slots.{poly, slot, encode}
use Rattle.ring.specs.Ternary.{ternary}
use Rattle.ring.proofs.Bridge.{length_encode, poly_part}
use Rattle.ring.proofs.Polynomials.{alike_eq, alike_sym, ◌so◌, alike_plus}
use Rattle.vector.specs.Vector.{vector, ternaries}
use Rattle.vector.specs.Permutation.{entries, permutes}
use Rattle.vector.proofs.Vectors.{each_length, each_all_below}
use Rattle.vector.proofs.Balance.{balanced_sound, balanced_ternary}
use Rattle.commitment.specs.Commitment.{Keys, Three, Pair, Alike3, three_of, plus3, row, second, committed, pair_bytes, Opens}
use Rattle.commitment.proofs.Additive.{row_alike, second_alike, opens_add}
use Rattle.commitment.proofs.Opening.{poly_modulo}
use Rattle.stern.specs.Argument.{Setting, Drawn, First, Answer1, Answer2, Answer3, masked, first_message, answer1, answer2, answer3}
use Rattle.stern.specs.Internal.{Valid, Fit, Passes1, Passes2, Passes3}
use Rattle.stern.specs.Shortness.{polynomial, three_from, equations, right_hand_sides, setting, drawn_of, first_of, first_bytes, answer_length, honest_answer, in_range, answer1_of, answer2_of, answer3_of, answer1_bytes, answer2_bytes, answer3_bytes, tests1, tests2, tests3, answer_tests}
use Rattle.stern.specs.Claims.{Split}
use Rattle.stern.proofs.Complete as Complete
use Rattle.stern.proofs.FourEquations.{numbers_alike, setting_valid, polynomial_ternaries}
use Rattle.stern.proofs.Layouts.{part_first, part_rest, four_read, vector_of_lem, permutes_of, of_permutes, first_of_first_bytes, answer1_of_answer1_bytes, answer2_of_answer2_bytes, answer3_of_answer3_bytes, length_answer1_bytes, length_answer2_bytes, length_answer3_bytes}

-- ---- the unknowns as polynomials

unknown_alike : (q N : ℕ) (x : Bytes) (j at : ℕ) → at ≡ j * N → at + N ≤ length x → Alike q N (polynomial N (ternaries q x) j) (ternary q (part x at N))
unknown_alike q N x j at e h = record {
  at = λ k l. same_eq (polynomial_ternaries q N x j k l (omega arith) ∙ ap (λ (i : ℕ). ternary q (part x i N) k) (sym e));
}

three_alike : (q N : ℕ) (x : Bytes) (j at : ℕ) → at ≡ j * N → at + 3 * N ≤ length x → Alike3 q N (three_from N (ternaries q x) j) (three_of q N (part x at (3 * N)))
three_alike q N x j at e h = record {
  r1 = unknown_alike q N x j (at + 0) (omega arith) (omega arith) so inside 0 (omega arith);
  r2 = unknown_alike q N x (j + 1) (at + N) (omega (arith, add-mul j 1 N)) (omega arith) so inside N (omega arith);
  r3 = unknown_alike q N x (j + 2) (at + 2 * N) (omega (arith, add-mul j 2 N)) (omega arith) so inside (2 * N) (omega arith);
}
  where
    inside : (i : ℕ) → i + N ≤ 3 * N → Alike q N (ternary q (part x (at + i) N)) (ternary q (part (part x at (3 * N)) i N))
    inside i l = alike_eq (ap (ternary q) (sym (part_part x at (3 * N) i N l)))

-- ---- the pairs as polynomials

pub length_pair_bytes : (q N : ℕ) (d : Pair) → length (pair_bytes q N d) ≡ 16 * N
unfolding pair_bytes
length_pair_bytes q N d = simp length-append (omega (arith, length_encode N (modulo q d.one), length_encode N (modulo q d.two)))

module _ (q N : ℕ) (positive : 0 < q) (fits : q ≤ 2 ^ 64) where
  -- the bytes of a polynomial at a place
  pub slot_alike : (c : Bytes) (at : ℕ) (f : Poly) → part c at (8 * N) ≡ encode N (modulo q f) → Alike q N (slot c at) f
  slot_alike c at f e = record {
    at = λ k l. same_eq (sym (poly_part c at N k l) ∙ ap (λ (s : Bytes). poly s k) e ∙ poly_modulo q N positive fits f k l) then same_mod;
  }

  -- the bytes of a pair at a place
  pub pair_opens : (k : Keys) (c : Bytes) (at later : ℕ) (r : Three) (m : Poly) → later ≡ at + 8 * N → part c at (16 * N) ≡ pair_bytes q N (committed q N k r m)
      → Opens q N k (record { one = slot c at; two = slot c later }) r m
  unfolding pair_bytes
  pair_opens k c at later r m e f =
      let a = encode N (modulo q (row q N k r)) in
      let b = encode N (modulo q (second q N k r m)) in
      record {
        one = slot_alike c at (row q N k r)
            (ap (λ (i : ℕ). part c i (8 * N)) (sym (add-zero at)) ∙ sym (part_part c at (16 * N) 0 (8 * N) (omega arith))
            ∙ ap (λ (s : Bytes). part s 0 (8 * N)) f ∙ part_first a b (8 * N) (length_encode N (modulo q (row q N k r))));
        two = slot_alike c later (second q N k r m)
            (ap (λ (i : ℕ). part c i (8 * N)) e ∙ sym (part_part c at (16 * N) (8 * N) (8 * N) (omega arith))
            ∙ ap (λ (s : Bytes). part s (8 * N) (8 * N)) f
            ∙ part_rest a b (8 * N) (8 * N) (length_encode N (modulo q (row q N k r))) (length_encode N (modulo q (second q N k r m))));
      }

-- ---- the tests of an answer that passes

-- digests that are as they should be meet no refusal
pub digests_match : (a b c d : Bytes) → a ≡ b → c ≡ d → not (same a b && same c d) ≡ false
digests_match a b c d e f = rw (e, f, same_refl b, same_refl d)

module _ (q N : ℕ) (k : Keys) (c d : Bytes) (place : ℕ) where
  passes1_none : (a : Answer1) → Passes1 (setting q N k c) (first_of d) a → None (tests1 q N k c d place a)
  passes1_none a h = (rw h.balanced, (digests_match _ _ _ _ h.d2 h.d3, tt))

  passes2_none : (b : Answer2) → Passes2 (setting q N k c) (first_of d) b → None (tests2 q N k c d place b)
  passes2_none b h = (rw (of_permutes N (entries b.p) h.permutes), (digests_match _ _ _ _ h.opens1 h.opens, tt))

  passes3_none : (a : Answer3) → Passes3 (setting q N k c) (first_of d) a → None (tests3 q N k c d place a)
  passes3_none a h = (rw (of_permutes N (entries a.p) h.permutes), (digests_match _ _ _ _ h.opens1 h.opens, tt))

-- ---- the equations are met

module _ (q N : ℕ) (k : Keys) (x c : Bytes) (s0 s1 e0 e1 : Poly) (split : Split q N k x c s0 s1 e0 e1) (three : 2 < q) (fits : q ≤ 2 ^ 64) where
  -- the three r from a place of x on
  r_at : ℕ → Three
  r_at at = three_of q N (part x at (3 * N))

  pair_at_lem : ℕ → Poly → Bytes
  pair_at_lem at m = pair_bytes q N (committed q N k (r_at at) m)

  pairs_read : (part c 0 (16 * N) ≡ pair_at_lem (2 * N) s0) × (part c (16 * N) (16 * N) ≡ pair_at_lem (5 * N) s1)
      × (part c (32 * N) (16 * N) ≡ pair_at_lem (8 * N) e0) × (part c (48 * N) (16 * N) ≡ pair_at_lem (11 * N) e1)
  unfolding pair_at_lem r_at
  pairs_read =
      rw split.pairs
      (four_read (16 * N) (16 * N) (16 * N) (16 * N) (32 * N) (48 * N) (omega arith) (omega arith) (pair_at_lem (2 * N) s0) (pair_at_lem (5 * N) s1) (pair_at_lem (8 * N) e0) (pair_at_lem (11 * N) e1)
      (length_pair_bytes q N _) (length_pair_bytes q N _) (length_pair_bytes q N _) (length_pair_bytes q N _))

  opens_s : Opens q N k (record { one = plus (slot c 0) (slot c (16 * N)); two = plus (slot c (8 * N)) (slot c (24 * N)) }) (plus3 (r_at (2 * N)) (r_at (5 * N))) (ternary q (part x 0 N))
  unfolding pair_at_lem
  opens_s =
      opens_add q N k (pair_opens q N (omega arith) fits k c 0 (8 * N) (r_at (2 * N)) s0 (omega arith) pairs_read.0)
      (pair_opens q N (omega arith) fits k c (16 * N) (24 * N) (r_at (5 * N)) s1 (omega arith) pairs_read.1) split.adds_s

  opens_e : Opens q N k (record { one = plus (slot c (32 * N)) (slot c (48 * N)); two = plus (slot c (40 * N)) (slot c (56 * N)) }) (plus3 (r_at (8 * N)) (r_at (11 * N))) (ternary q (part x N N))
  unfolding pair_at_lem
  opens_e =
      opens_add q N k (pair_opens q N (omega arith) fits k c (32 * N) (40 * N) (r_at (8 * N)) e0 (omega arith) pairs_read.2)
      (pair_opens q N (omega arith) fits k c (48 * N) (56 * N) (r_at (11 * N)) e1 (omega arith) pairs_read.3) split.adds_e

  -- the three r of two polynomials, added
  hiding_alike : (i j at later : ℕ) → at ≡ i * N → later ≡ j * N → at + 3 * N ≤ 14 * N → later + 3 * N ≤ 14 * N
      → Alike3 q N (plus3 (three_from N (ternaries q x) i) (three_from N (ternaries q x) j)) (plus3 (r_at at) (r_at later))
  unfolding r_at
  hiding_alike i j at later e f h l =
      let size = split.sized in
      let a = three_alike q N x i at e (omega arith) in
      let b = three_alike q N x j later f (omega arith) in
      record { r1 = alike_plus a.r1 b.r1; r2 = alike_plus a.r2 b.r2; r3 = alike_plus a.r3 b.r3 }

  pub honest_equations : equations q N k (ternaries q x) ≡ right_hand_sides q N c
  unfolding equations right_hand_sides
  honest_equations =
      let size = split.sized in
      let rs = hiding_alike 2 5 (2 * N) (5 * N) refl refl (omega arith) (omega arith) in
      let re = hiding_alike 8 11 (8 * N) (11 * N) refl refl (omega arith) (omega arith) in
      let s = unknown_alike q N x 0 0 (omega arith) (omega arith) in
      let e = unknown_alike q N x 1 N (omega arith) (omega arith) in
      ap₂ ◌++◌ (numbers_alike (row_alike q N k rs so alike_sym opens_s.one))
      (ap₂ ◌++◌ (numbers_alike (second_alike q N k rs s so alike_sym opens_s.two))
      (ap₂ ◌++◌ (numbers_alike (row_alike q N k re so alike_sym opens_e.one)) (numbers_alike (second_alike q N k re e so alike_sym opens_e.two))))

  -- ---- completeness in bytes

  module _ (P R salts : Bytes) (size_p : length P ≡ 168 * N) (size_r : length R ≡ 336 * N) (size_salts : length salts ≡ 96)
      (permuting : permutes (42 * N) (entries P) ≡ true) (below : all_below q (vector R) ≡ true) where
    abbrev s : Setting
    s = setting q N k c

    abbrev drawn : Drawn
    drawn = drawn_of P R salts

    valid : Valid (setting q N k c)
    valid = setting_valid q N k c three fits

    fit : Fit (setting q N k c) (drawn_of P R salts)
    fit = record {
      permutes = permutes_of N (entries P) permuting;
      size_p = omega arith;
      sized = omega arith;
      below = vector_of_lem q N R size_r below;
      size1 = length_part salts 0 32 (omega arith);
      size2 = length_part salts 32 32 (omega arith);
      size3 = length_part salts 64 32 (omega arith);
    }

    pass1 : Passes1 s (first_message s x drawn) (answer1 (14 * N) x drawn)
    pass1 = Complete.passes1 s valid x split.sized split.below honest_equations drawn fit

    pass2 : Passes2 s (first_message s x drawn) (answer2 q (14 * N) x drawn)
    pass2 = Complete.passes2 s valid x split.sized split.below honest_equations drawn fit

    pass3 : Passes3 s (first_message s x drawn) (answer3 drawn)
    pass3 = Complete.passes3 s valid x split.sized split.below honest_equations drawn fit

    -- the fields have the lengths that the layouts give them
    size_w : length (answer1 (14 * N) x drawn).w ≡ 42 * N
    size_w = omega (arith, (balanced_sound (14 * N) (answer1 (14 * N) x drawn).w pass1.balanced).size)

    size_t : length (answer1 (14 * N) x drawn).t ≡ 336 * N
    size_t = omega (arith, pass1.sized)

    size_u : length (answer2 q (14 * N) x drawn).u ≡ 336 * N
    size_u = omega (arith, length_words (masked q (14 * N) x drawn), each_length (Complete.masked_vector s valid x split.sized split.below honest_equations drawn fit))

    -- what is written is read back
    read1 : answer1_of N (answer1_bytes (answer1 (14 * N) x drawn)) ≡ answer1 (14 * N) x drawn
    read1 = answer1_of_answer1_bytes N (answer1 (14 * N) x drawn) size_w size_t fit.size2 fit.size3

    read2 : answer2_of N (answer2_bytes (answer2 q (14 * N) x drawn)) ≡ answer2 q (14 * N) x drawn
    read2 = answer2_of_answer2_bytes N (answer2 q (14 * N) x drawn) size_p size_u fit.size1 fit.size3

    read3 : answer3_of N (answer3_bytes (answer3 drawn)) ≡ answer3 drawn
    read3 = answer3_of_answer3_bytes N (answer3 drawn) size_p size_r fit.size1 fit.size2

    read_pass2 : Passes2 s (first_message s x drawn) (answer2_of N (answer2_bytes (answer2 q (14 * N) x drawn)))
    read_pass2 = subst (λ (a : Answer2). Passes2 s (first_message s x drawn) a) (sym read2) pass2

    read_pass3 : Passes3 s (first_message s x drawn) (answer3_of N (answer3_bytes (answer3 drawn)))
    read_pass3 = subst (λ (a : Answer3). Passes3 s (first_message s x drawn) a) (sym read3) pass3

    pub honest_length : (challenge : ℕ) → length (honest_answer q N x (drawn_of P R salts) challenge) ≡ answer_length N challenge
    honest_length challenge = go (eqb challenge 1) (eqb challenge 2)
      where
        go : (one two : Bool) → length (cond one (answer1_bytes (answer1 (14 * N) x drawn)) (cond two (answer2_bytes (answer2 q (14 * N) x drawn)) (answer3_bytes (answer3 drawn)))) ≡ cond one (378 * N + 64) (504 * N + 64)
        go true two = length_answer1_bytes N (answer1 (14 * N) x drawn) size_w size_t fit.size2 fit.size3
        go false true = length_answer2_bytes N (answer2 q (14 * N) x drawn) size_p size_u fit.size1 fit.size3
        go false false = length_answer3_bytes N (answer3 drawn) size_p size_r fit.size1 fit.size2

    pub honest_range : (challenge : ℕ) → in_range q N challenge (honest_answer q N x (drawn_of P R salts) challenge) ≡ true
    honest_range challenge = go (eqb challenge 1) (eqb challenge 2)
      where
        range1 : (a : Answer1) → Passes1 s (first_message s x drawn) a → (all_below 3 a.w && all_below q (vector a.t)) ≡ true
        range1 a h = rw (balanced_ternary (14 * N) a.w h.balanced, each_all_below h.below)

        go : (one two : Bool)
            → (let answer = cond one (answer1_bytes (answer1 (14 * N) x drawn)) (cond two (answer2_bytes (answer2 q (14 * N) x drawn)) (answer3_bytes (answer3 drawn))) in
            cond one (all_below 3 (answer1_of N answer).w && all_below q (vector (answer1_of N answer).t)) (cond two (all_below q (vector (answer2_of N answer).u)) (all_below q (vector (answer3_of N answer).r)))) ≡ true
        go true two = range1 (answer1_of N (answer1_bytes (answer1 (14 * N) x drawn))) (rw read1 pass1)
        go false true = each_all_below read_pass2.below
        go false false = each_all_below read_pass3.below

    -- no test of an honest answer holds
    pub honest_none : (d : Bytes) → d ≡ first_bytes (first_message (setting q N k c) x (drawn_of P R salts)) → (place challenge : ℕ)
        → None (answer_tests q N k c d place challenge (honest_answer q N x (drawn_of P R salts) challenge))
    honest_none d e place challenge = go (eqb challenge 1) (eqb challenge 2)
      where
        digests : first_of d ≡ first_message s x drawn
        digests = rw e (first_of_first_bytes (first_message s x drawn) (length_sha3 _) (length_sha3 _) (length_sha3 _))

        go : (one two : Bool)
            → None (let answer = cond one (answer1_bytes (answer1 (14 * N) x drawn)) (cond two (answer2_bytes (answer2 q (14 * N) x drawn)) (answer3_bytes (answer3 drawn))) in
            cond one (tests1 q N k c d place (answer1_of N answer)) (cond two (tests2 q N k c d place (answer2_of N answer)) (tests3 q N k c d place (answer3_of N answer))))
        go true two = passes1_none q N k c d place (answer1_of N (answer1_bytes (answer1 (14 * N) x drawn))) (rw (digests, read1) pass1)
        go false true =
            let a = answer2_of N (answer2_bytes (answer2 q (14 * N) x drawn)) in
            passes2_none q N k c d place a (subst (λ (f : First). Passes2 s f a) (sym digests) read_pass2)
        go false false =
            let a = answer3_of N (answer3_bytes (answer3 drawn)) in
            passes3_none q N k c d place a (subst (λ (f : First). Passes3 s f a) (sym digests) read_pass3)
