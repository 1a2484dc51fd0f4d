-- What the contracts of inner functions and the proofs go by: no exported contract and no claim cites this file. Assumes nothing.
use Rattle.std.specs.Prelude.{Bool, cond, true, ◌⊎◌, List, ℕ, ◌+◌, ◌-◌, ◌*◌, ◌^◌, ◌≤◌, ◌<◌, ◌≡◌, length}
use Rattle.codec.specs.Bytes.{Bytes}
use Rattle.ring.specs.Poly.{Poly, minus}
use Rattle.ring.specs.Slots.{slot}
use Rattle.commitment.specs.Commitment.{Keys, Three, Pair, plus3, committed}
use Rattle.codec.specs.Lists.{all_below}
use Rattle.vector.specs.Vector.{Each, vector}
use Rattle.vector.specs.Internal.{Vector, Linear}
use Rattle.vector.specs.Permutation.{Permutes, entries, permutes, balanced}
use Rattle.stern.specs.Argument.{Setting, Drawn, First, Answer1, Answer2, Answer3, HashCollision, solution, one_by2, one_by3, two_by1, two_by3, three_by1, three_by2}

-- ---- the four equations (document 01, "One round") two at a time, as pairs of polynomials: what the functions that work them out in scratch promise

-- the polynomial of n words from a word on
abbrev pub words_at : Bytes → ℕ → Poly
words_at x from = slot x (8 * from)

-- three polynomials of n words each from a word on
abbrev pub three_words : ℕ → Bytes → ℕ → Three
three_words n x from = record { r1 = words_at x from; r2 = words_at x (from + n); r3 = words_at x (from + 2 * n) }

-- the pair made from the message at one word and the summed r at another
abbrev pub summed_pair : (q n : ℕ) → Keys → Bytes → (first message : ℕ) → Pair
summed_pair q n k x first message = committed q n k (plus3 (three_words n x first) (three_words n x (first + 3 * n))) (words_at x message)

-- a pair less two committed pairs, which stand one after the other from a word on
abbrev pub less_pairs : (q n : ℕ) → Pair → Bytes → ℕ → Pair
less_pairs q n p c from = record {
  one = minus q (minus q p.one (words_at c from)) (words_at c (from + 2 * n));
  two = minus q (minus q p.two (words_at c (from + n))) (words_at c (from + 3 * n));
}

-- two equations, with their right-hand sides subtracted or not
abbrev pub equation_pair : (q n : ℕ) → Keys → (c : Bytes) → Bool → (x : Bytes) → (first message from : ℕ) → Pair
equation_pair q n k c less x first message from = cond less (less_pairs q n (summed_pair q n k x first message) c from) (summed_pair q n k x first message)

-- what it is lent for a repetition, in range
pub record RepetitionMaterial (q N : ℕ) (x r p salts : Bytes) : Type 0 where
  pub size_x : length x ≡ 14 * N
  pub size_r : length r ≡ 336 * N
  pub size_p : length p ≡ 168 * N
  pub size_salts : length salts ≡ 96
  pub below : all_below q (vector r) ≡ true
  pub permutes : permutes (42 * N) (entries p) ≡ true

-- ---- Stern's argument in general: what the theorems ask for and give

module _ (s : Setting) where
  open s use {q, L, M, S, A, y, H}

  -- what the theorems ask of it: numbers and entries fit their bytes, and A is additive
  pub record Valid : Type 0 where
    pub three : 2 < q
    pub fits : q ≤ 2 ^ 64
    pub right : Vector q M y
    pub linear : Linear q L M A

  -- 0, 1 or -1 modulo q
  abbrev pub Short : ℕ → Type 0
  Short v = (v ≡ 0) ⊎ (v ≡ 1) ⊎ (v ≡ q - 1)

  -- x is L short numbers with A x = y
  pub record Solves (x : List ℕ) : Type 0 where
    pub short : Each Short L x
    pub equation : A x ≡ y

  -- what may be drawn: a permutation of 3L entries, a vector of 3L numbers below q, and salts
  pub record Fit (c : Drawn) : Type 0 where
    pub permutes : Permutes (3 * L) (entries c.p)
    pub size_p : length c.p ≡ 4 * (3 * L)
    pub sized : length c.r ≡ 8 * (3 * L)
    pub below : Vector q (3 * L) (vector c.r)
    pub size1 : length c.salt1 ≡ S
    pub size2 : length c.salt2 ≡ S
    pub size3 : length c.salt3 ≡ S

  -- ---- an answer that passes

  pub record Passes1 (f : First) (a : Answer1) : Type 0 where
    pub balanced : balanced L a.w ≡ true
    pub sized : length a.t ≡ 8 * (3 * L)
    pub below : Vector q (3 * L) (vector a.t)
    pub size2 : length a.salt2 ≡ S
    pub size3 : length a.salt3 ≡ S
    pub d2 : f.d2 ≡ H (two_by1 s a)
    pub d3 : f.d3 ≡ H (three_by1 s a)

  -- answers 2 and 3: a permutation, a vector and two salts, by which string 1 and another are opened
  pub record PassesPermuted (p v salt1 salt d1 d string1 string : Bytes) : Type 0 where
    pub permutes : Permutes (3 * L) (entries p)
    pub sized : length p ≡ 4 * (3 * L)
    pub below : Vector q (3 * L) (vector v)
    pub size1 : length salt1 ≡ S
    pub size : length salt ≡ S
    pub opens1 : d1 ≡ H string1
    pub opens : d ≡ H string

  abbrev pub Passes2 : First → Answer2 → Type 0
  Passes2 f b = PassesPermuted b.p b.u b.salt1 b.salt3 f.d1 f.d3 (one_by2 s b) (three_by2 s b)

  abbrev pub Passes3 : First → Answer3 → Type 0
  Passes3 f c = PassesPermuted c.p c.r c.salt1 c.salt2 f.d1 f.d2 (one_by3 s c) (two_by3 s c)

  -- ---- what three answers give

  -- a collision at the lowest digest whose two strings differ, or a solution
  pub data Extracted (a : Answer1) (b : Answer2) (c : Answer3) : Type 0 where
    broken1 : HashCollision s (one_by2 s b) (one_by3 s c) → Extracted a b c
    broken2 : one_by2 s b ≡ one_by3 s c → HashCollision s (two_by1 s a) (two_by3 s c) → Extracted a b c
    broken3 : one_by2 s b ≡ one_by3 s c → two_by1 s a ≡ two_by3 s c → HashCollision s (three_by1 s a) (three_by2 s b) → Extracted a b c
    found : one_by2 s b ≡ one_by3 s c → two_by1 s a ≡ two_by3 s c → three_by1 s a ≡ three_by2 s b → Solves (solution s b c) → Extracted a b c
