-- Stern's argument that linear equations A x = y modulo q have a ternary solution (document 01, "One round"; document 000, section 5.5), over any such equations
-- and any hash. What is drawn and what is answered are bytes. Assumes nothing.
use Rattle.std.specs.Prelude.{◌≡◌, ◌≢◌, List, ◌∷◌, ◌++◌, ℕ, take}
use Rattle.codec.specs.Bytes.{Bytes, words}
use Rattle.vector.specs.Vector.{vector, ternaries, add, subtract}
use Rattle.vector.specs.Permutation.{entries, apply, extend}

-- what the prover draws: P, R and three salts
pub record Drawn : Type 0 where
  pub p : Bytes
  pub r : Bytes
  pub salt1 : Bytes
  pub salt2 : Bytes
  pub salt3 : Bytes

-- the three digests
pub record First : Type 0 where
  pub d1 : Bytes
  pub d2 : Bytes
  pub d3 : Bytes

-- P(extended) in ternary bytes, P(R), salts 2 and 3
pub record Answer1 : Type 0 where
  pub w : Bytes
  pub t : Bytes
  pub salt2 : Bytes
  pub salt3 : Bytes

-- P, extended + R, salts 1 and 3
pub record Answer2 : Type 0 where
  pub p : Bytes
  pub u : Bytes
  pub salt1 : Bytes
  pub salt3 : Bytes

-- P, R, salts 1 and 2
pub record Answer3 : Type 0 where
  pub p : Bytes
  pub r : Bytes
  pub salt1 : Bytes
  pub salt2 : Bytes

-- the strings that the digests cover
abbrev pub string1 : (salt p : Bytes) → List ℕ → Bytes
string1 salt p v = 1 ∷ (salt ++ (p ++ words v))

abbrev pub string2 : (salt v : Bytes) → Bytes
string2 salt v = 2 ∷ (salt ++ v)

abbrev pub string3 : (salt : Bytes) → List ℕ → Bytes
string3 salt v = 3 ∷ (salt ++ words v)

-- ---- what the prover answers, for L ternary bytes x

-- extended + R
abbrev pub masked : (q L : ℕ) → Bytes → Drawn → List ℕ
masked q L x c = add q (ternaries q (extend L x)) (vector c.r)

abbrev pub answer1 : (L : ℕ) → Bytes → Drawn → Answer1
answer1 L x c = record { w = apply (entries c.p) (extend L x); t = words (apply (entries c.p) (vector c.r)); salt2 = c.salt2; salt3 = c.salt3 }

abbrev pub answer2 : (q L : ℕ) → Bytes → Drawn → Answer2
answer2 q L x c = record { p = c.p; u = words (masked q L x c); salt1 = c.salt1; salt3 = c.salt3 }

abbrev pub answer3 : Drawn → Answer3
answer3 c = record { p = c.p; r = c.r; salt1 = c.salt1; salt2 = c.salt2 }

-- what prover and checker share
pub record Setting : Type 0 where
  pub q : ℕ  -- the modulus
  pub L : ℕ  -- how many unknowns
  pub M : ℕ  -- how many equations
  pub S : ℕ  -- how many bytes a salt has
  pub A : List ℕ → List ℕ  -- the equations: A x = y
  pub y : List ℕ
  pub H : Bytes → Bytes  -- the hash

module _ (s : Setting) where
  open s use {q, L, M, S, A, y, H}

  -- ---- the prover, for L ternary bytes x

  abbrev pub first_message : Bytes → Drawn → First
  first_message x c = record {
    d1 = H (string1 c.salt1 c.p (A (take L (vector c.r))));
    d2 = H (string2 c.salt2 (words (apply (entries c.p) (vector c.r))));
    d3 = H (string3 c.salt3 (apply (entries c.p) (masked q L x c)));
  }

  -- ---- the checker

  -- the strings that an answer opens: string 1 by the answers 2 and 3, string 2 by 1 and 3, string 3 by 1 and 2
  abbrev pub one_by2 : Answer2 → Bytes
  one_by2 b = string1 b.salt1 b.p (subtract q (A (take L (vector b.u))) y)

  abbrev pub one_by3 : Answer3 → Bytes
  one_by3 c = string1 c.salt1 c.p (A (take L (vector c.r)))

  abbrev pub two_by1 : Answer1 → Bytes
  two_by1 a = string2 a.salt2 a.t

  abbrev pub two_by3 : Answer3 → Bytes
  two_by3 c = string2 c.salt2 (words (apply (entries c.p) (vector c.r)))

  abbrev pub three_by1 : Answer1 → Bytes
  three_by1 a = string3 a.salt3 (add q (ternaries q a.w) (vector a.t))

  abbrev pub three_by2 : Answer2 → Bytes
  three_by2 b = string3 b.salt3 (apply (entries b.p) (vector b.u))

  -- ---- what three answers give

  -- two different strings with one hash
  pub record HashCollision (a b : Bytes) : Type 0 where
    pub differ : a ≢ b
    pub collide : H a ≡ H b

  abbrev pub solution : Answer2 → Answer3 → List ℕ
  solution b c = take L (subtract q (vector b.u) (vector c.r))
