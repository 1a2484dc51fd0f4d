-- Special soundness in bytes: three answers to one first message of which no test holds give a collision of SHA3-256 or short unknowns that meet the equations,
-- and what the latter says in polynomials. Assumes nothing.
use mathlib.Core.Path.{◌≡◌, sym, ◌∙◌}
use mathlib.Core.Logic.{inl, inr}
use mathlib.Core.Bool.{true, false, not, ◌&&◌}
use mathlib.Core.List.{List, ◌++◌}
use Prim.Native.Nat.{ℕ, suc, ◌+◌, ◌-◌, ◌*◌, ◌%◌, ◌^◌, ◌≤◌, ◌<◌}
use native.Mathlib.Nat.{mod-eq_of_lt, mul-le-mul, suc-mul}
use native.Mathlib.Omega.{arith}
use borrow.Author.Tests.{not-false}
use lib.IntN.{nat_abs}
use lib.ListN.{length}
use Rattle.codec.specs.Bytes.{Bytes, part, same}
use Rattle.codec.specs.Reply.{None}
use Rattle.codec.proofs.Laws.{length_part, both, same_equal}
use Rattle.codec.specs.Lists.{all_below}
use Rattle.codec.proofs.Lists.{length_list}
use Rattle.sha3.specs.Sponge.{sha3}
use Rattle.modular.specs.Modulo.{centre}
use Rattle.modular.proofs.Centring.{centre_low, centre_high}
use Rattle.ring.specs.Poly.{Poly, modulo, Alike}
use Rattle.vector.specs.Vector.{vector}
use Rattle.vector.specs.Permutation.{entries, permutes, balanced}
use Rattle.vector.proofs.Vectors.{at_each}
use Rattle.commitment.specs.Commitment.{Keys}
use Rattle.stern.specs.Argument.{two_by1, three_by1, one_by2, three_by2, one_by3, two_by3}
use Rattle.stern.specs.Internal.{Short, Solves, Passes1, PassesPermuted, Passes2, Passes3, Extracted}
use Rattle.stern.specs.Shortness.{polynomial, list_modulo, equations, right_hand_sides, setting, first_of, answer_length, answer1_of, answer2_of, answer3_of, tests1, tests2, tests3}
use Rattle.stern.specs.Claims.{Meets}
use Rattle.stern.proofs.FourEquations.{alike_numbers, setting_valid}
use Rattle.stern.proofs.Layouts.{vector_of_lem, permutes_of}
use Rattle.stern.proofs.Sound.{parts, extract}

-- ---- an answer of which no test holds passes

-- the test of two digests says that they are equal
pub digests_equal : (a b c d : Bytes) → not (same a b && same c d) ≡ false → (a ≡ b) × (c ≡ d)
digests_equal a b c d e =
    let r = both (same a b) (same c d) (not-false (same a b && same c d) e) in
    (same_equal a b r.0, same_equal c d r.1)

module _ (q N : ℕ) (k : Keys) (c d : Bytes) (place : ℕ) where
  pub none_passes1 : (s : Bytes) → length s ≡ answer_length N 1 → all_below q (vector (answer1_of N s).t) ≡ true → None (tests1 q N k c d place (answer1_of N s))
      → Passes1 (setting q N k c) (first_of d) (answer1_of N s)
  none_passes1 s l e n =
      let a = answer1_of N s in
      let size : length a.t ≡ 336 * N = length_part s (42 * N) (336 * N) (omega arith) in
      let g = digests_equal (first_of d).d2 (sha3 (two_by1 (setting q N k c) a)) (first_of d).d3 (sha3 (three_by1 (setting q N k c) a)) n.1.0 in
      record {
        balanced = not-false (balanced (14 * N) a.w) n.0;
        sized = omega arith;
        below = vector_of_lem q N a.t size e;
        size2 = length_part s (378 * N) 32 (omega arith);
        size3 = length_part s (378 * N + 32) 32 (omega arith);
        d2 = g.0;
        d3 = g.1;
      }

  -- the parts of an answer 2 or 3, against the digests of two strings
  permuted_passes : (s d1 string1 e string : Bytes) → length s ≡ 504 * N + 64 → all_below q (vector (part s (168 * N) (336 * N))) ≡ true
      → not (permutes (42 * N) (entries (part s 0 (168 * N)))) ≡ false → not (same d1 (sha3 string1) && same e (sha3 string)) ≡ false
      → PassesPermuted (setting q N k c) (part s 0 (168 * N)) (part s (168 * N) (336 * N)) (part s (504 * N) 32) (part s (504 * N + 32) 32) d1 e string1 string
  permuted_passes s d1 string1 e string l b n m =
      let size : length (part s 0 (168 * N)) ≡ 168 * N = length_part s 0 (168 * N) (omega arith) in
      let g = digests_equal d1 (sha3 string1) e (sha3 string) m in
      record {
        permutes = permutes_of N (entries (part s 0 (168 * N))) (not-false (permutes (42 * N) (entries (part s 0 (168 * N)))) n);
        sized = omega arith;
        below = vector_of_lem q N (part s (168 * N) (336 * N)) (length_part s (168 * N) (336 * N) (omega arith)) b;
        size1 = length_part s (504 * N) 32 (omega arith);
        size = length_part s (504 * N + 32) 32 (omega arith);
        opens1 = g.0;
        opens = g.1;
      }

  pub none_passes2 : (s : Bytes) → length s ≡ answer_length N 2 → all_below q (vector (answer2_of N s).u) ≡ true → None (tests2 q N k c d place (answer2_of N s))
      → Passes2 (setting q N k c) (first_of d) (answer2_of N s)
  none_passes2 s l e n =
      let b = answer2_of N s in
      permuted_passes s (first_of d).d1 (one_by2 (setting q N k c) b) (first_of d).d3 (three_by2 (setting q N k c) b) l e n.0 n.1.0

  pub none_passes3 : (s : Bytes) → length s ≡ answer_length N 3 → all_below q (vector (answer3_of N s).r) ≡ true → None (tests3 q N k c d place (answer3_of N s))
      → Passes3 (setting q N k c) (first_of d) (answer3_of N s)
  none_passes3 s l e n =
      let a = answer3_of N s in
      permuted_passes s (first_of d).d1 (one_by3 (setting q N k c) a) (first_of d).d2 (two_by3 (setting q N k c) a) l e n.0 n.1.0

  -- three answers, one to each challenge
  pub extracted : 2 < q → q ≤ 2 ^ 64 → (a b e : Bytes)
      → length a ≡ answer_length N 1 → all_below q (vector (answer1_of N a).t) ≡ true → None (tests1 q N k c d place (answer1_of N a))
      → length b ≡ answer_length N 2 → all_below q (vector (answer2_of N b).u) ≡ true → None (tests2 q N k c d place (answer2_of N b))
      → length e ≡ answer_length N 3 → all_below q (vector (answer3_of N e).r) ≡ true → None (tests3 q N k c d place (answer3_of N e))
      → Extracted (setting q N k c) (answer1_of N a) (answer2_of N b) (answer3_of N e)
  extracted three fits a b e la va na lb vb nb le ve ne =
      extract (setting q N k c) (setting_valid q N k c three fits) (first_of d) (answer1_of N a) (answer2_of N b) (answer3_of N e)
      (none_passes1 a la va na) (none_passes2 b lb vb nb) (none_passes3 e le ve ne)

-- ---- what a solution says in polynomials

module _ (q N : ℕ) (k : Keys) (c : Bytes) (three : 2 < q) where
  -- what is short has a centred form of size at most 1
  pub short_small : (v : ℕ) → Short (setting q N k c) v → nat_abs (centre q v) ≤ 1
  short_small v (inl e) =
      let m : v % q ≡ 0 = rw e (mod-eq_of_lt (omega arith)) in
      rw (centre_low q v (omega arith) (omega arith), m) (omega arith)
  short_small v (inr (inl e)) =
      let m : v % q ≡ 1 = rw e (mod-eq_of_lt (omega arith)) in
      rw (centre_low q v (omega arith) (omega arith), m) (omega arith)
  short_small v (inr (inr e)) =
      let m : v % q ≡ q - 1 = rw e (mod-eq_of_lt (omega arith)) in
      rw (centre_high q v (omega arith) (omega arith)) (omega arith)

  long : (f g : Poly) → length (list_modulo q N f) ≡ length (list_modulo q N g)
  long f g = length_list N (modulo q f) ∙ sym (length_list N (modulo q g))

  -- four lists of numbers side by side are equal one by one
  apart : (f₁ f₂ f₃ f₄ g₁ g₂ g₃ g₄ : Poly)
      → list_modulo q N f₁ ++ (list_modulo q N f₂ ++ (list_modulo q N f₃ ++ list_modulo q N f₄)) ≡ list_modulo q N g₁ ++ (list_modulo q N g₂ ++ (list_modulo q N g₃ ++ list_modulo q N g₄))
      → (Alike q N f₁ g₁) × (Alike q N f₂ g₂) × (Alike q N f₃ g₃) × (Alike q N f₄ g₄)
  apart f₁ f₂ f₃ f₄ g₁ g₂ g₃ g₄ e =
      let a = parts (list_modulo q N f₁) (list_modulo q N g₁) (long f₁ g₁) e in
      let b = parts (list_modulo q N f₂) (list_modulo q N g₂) (long f₂ g₂) a.1 in
      let d = parts (list_modulo q N f₃) (list_modulo q N g₃) (long f₃ g₃) b.1 in
      (alike_numbers f₁ g₁ a.0, alike_numbers f₂ g₂ b.0, alike_numbers f₃ g₃ d.0, alike_numbers f₄ g₄ d.1)

  -- of the case `found` of an extraction
  pub solves_meets : (x : List ℕ) → Solves (setting q N k c) x → Meets q N k c x
  unfolding equations right_hand_sides
  solves_meets x s =
      let four = apart _ _ _ _ _ _ _ _ s.equation in
      record { short = short; small = λ j h i l. short_small (polynomial N x j i) (short j h i l); one_s = four.0; two_s = four.1; one_e = four.2; two_e = four.3 }
    where
      short : (j : ℕ) → j < 14 → (i : ℕ) → i < N → Short (setting q N k c) (polynomial N x j i)
      short j h i l = unfold polynomial in at_each s.short (j * N + i) (omega (arith, suc-mul j N, mul-le-mul {n₁ = suc j} {m₁ = N} {n₂ = 14} {m₂ = N} h (omega arith)))
