-- Special soundness: three answers that pass against one first message give a collision of the hash, at the lowest digest whose two strings differ, or a
-- solution. Assumes nothing.
use mathlib.Core.Path.{◌≡◌, refl, sym, ap, ◌∙◌}
use mathlib.Core.List.{List, ◌++◌, List-discrete}
use Prim.Native.Nat.{ℕ, ◌*◌, ◌^◌, ◌≤◌}
use native.Mathlib.Omega.{arith}
use native.Mathlib.Decide.{ℕ_discrete}
use lib.ListN.{length, take, drop}
use lib.Seq.{take_at, drop_at}
use Rattle.codec.specs.Bytes.{Bytes, words}
use Rattle.vector.specs.Vector.{Each, vector, ternaries, add, subtract}
use Rattle.vector.specs.Internal.{Vector}
use Rattle.vector.specs.Permutation.{entries, apply}
use Rattle.vector.proofs.Vectors.{each_length, take_each, add_vector, subtract_vector, subtract_add, commute, cancel, add_take, apply_add, apply_each, vector_words, words_injective, ternaries_vector, ternaries_short}
use Rattle.vector.proofs.Counts.{unapply}
use Rattle.vector.proofs.Balance.{balanced_sound}
use Rattle.stern.specs.Argument.{Setting, string1, First, Answer1, Answer2, Answer3, solution, one_by2, one_by3, two_by1, two_by3, three_by1, three_by2}
use Rattle.stern.specs.Internal.{Valid, Short, Solves, Passes1, Passes2, Passes3, Extracted, broken1, broken2, broken3, found}

-- joined strings whose first parts are as long are equal part by part
pub parts : (a c : Bytes) {b d : Bytes} → length a ≡ length c → a ++ b ≡ c ++ d → (a ≡ c) × (b ≡ d)
parts a c {b} {d} l e = (
  sym (take_at a b (length a) refl) ∙ ap (take (length a)) e ∙ take_at c d (length a) (sym l),
  sym (drop_at a b (length a) refl) ∙ ap (drop (length a)) e ∙ drop_at c d (length a) (sym l),
)

module _ (s : Setting) (ok : Valid s) (f : First) (a : Answer1) (b : Answer2) (c : Answer3) (pa : Passes1 s f a) (pb : Passes2 s f b) (pc : Passes3 s f c) where
  open s use {q, L, A, y}

  -- z = u - R
  z : List ℕ
  z = subtract q (vector b.u) (vector c.r)

  z_vector : Vector q (3 * L) z
  z_vector = unfold z in subtract_vector pb.below pc.below

  first_of : {x : List ℕ} → Vector q (3 * L) x → Vector q L (take L x)
  first_of v = take_each L (2 * L) (omega arith) v

  -- P R, and the numbers of w
  image_r : Vector q (3 * L) (apply (entries c.p) (vector c.r))
  image_r = apply_each pc.permutes.indices pc.below

  w_vector : Vector q (3 * L) (ternaries q a.w)
  w_vector = let three = ok.three in rw (balanced_sound L a.w pa.balanced).size at (ternaries_vector q a.w (omega arith))

  w_short : Each (Short s) (3 * L) (ternaries q a.w)
  w_short = let three = ok.three in rw (balanced_sound L a.w pa.balanced).size at (ternaries_short q a.w (omega arith))

  module _ (e1 : one_by2 s b ≡ one_by3 s c) (e2 : two_by1 s a ≡ two_by3 s c) (e3 : three_by1 s a ≡ three_by2 s b) where
    -- what equal strings say of their parts
    joined : (b.p ≡ c.p) × (words (subtract q (A (take L (vector b.u))) y) ≡ words (A (take L (vector c.r))))
    joined = parts b.p c.p (pb.sized ∙ sym pc.sized) (parts b.salt1 c.salt1 (pb.size1 ∙ sym pc.size1) (cc)).1

    same_rest : subtract q (A (take L (vector b.u))) y ≡ A (take L (vector c.r))
    same_rest =
        words_injective ok.fits (subtract_vector (ok.linear.vector (first_of pb.below)) ok.right) (ok.linear.vector (first_of pc.below)) joined.1

    same_t : vector a.t ≡ apply (entries c.p) (vector c.r)
    same_t = ap vector (parts a.salt2 c.salt2 (pa.size2 ∙ sym pc.size) (cc)).1 ∙ vector_words ok.fits image_r

    same_sum : add q (ternaries q a.w) (vector a.t) ≡ apply (entries b.p) (vector b.u)
    same_sum =
        words_injective ok.fits (add_vector w_vector pa.below) (apply_each pb.permutes.indices pb.below)
        (parts a.salt3 b.salt3 (pa.size3 ∙ sym pb.size) (cc)).1

    -- u = z + R
    back : add q z (vector c.r) ≡ vector b.u
    back = unfold z in subtract_add pb.below pc.below

    -- P z = w, since P z + P R = P u = w + P R
    image : apply (entries c.p) z ≡ ternaries q a.w
    image =
        cancel q (apply_each pc.permutes.indices z_vector) w_vector image_r
        (sym (apply_add (entries c.p) z_vector pc.below) ∙ rw back (sym (rw (same_t, joined.0) at same_sum)))

    short : Each (Short s) (3 * L) z
    short = unapply pc.permutes (each_length z_vector) (rw image w_short)

    -- A z = y, since A z + A R = A u = y + A R
    equation : A (take L z) ≡ y
    equation =
        cancel q (ok.linear.vector (first_of z_vector)) ok.right (ok.linear.vector (first_of pc.below))
        (sym (ok.linear.sum (first_of z_vector) (first_of pc.below)) ∙ ap A (sym (add_take q L z (vector c.r)) ∙ ap (take L) back)
        ∙ sym (subtract_add (ok.linear.vector (first_of pb.below)) ok.right) ∙ rw same_rest (commute q _ _))

    solved : Solves s (solution s b c)
    solved = unfold z in record { short = take_each L (2 * L) (omega arith) short; equation = equation }

  pub extract : Extracted s a b c
  extract = decide (List-discrete ℕ_discrete _ _) (List-discrete ℕ_discrete _ _) (List-discrete ℕ_discrete _ _)
    where
      decide : Dec (one_by2 s b ≡ one_by3 s c) → Dec (two_by1 s a ≡ two_by3 s c) → Dec (three_by1 s a ≡ three_by2 s b) → Extracted s a b c
      decide (no n1) d2 d3 = broken1 (record { differ = n1; collide = sym pb.opens1 ∙ pc.opens1 })
      decide (yes e1) (no n2) d3 = broken2 e1 (record { differ = n2; collide = sym pa.d2 ∙ pc.opens })
      decide (yes e1) (yes e2) (no n3) = broken3 e1 e2 (record { differ = n3; collide = sym pa.d3 ∙ pb.opens })
      decide (yes e1) (yes e2) (yes e3) = found e1 e2 e3 (solved e1 e2 e3)

-- the strings are injective encodings: equal strings have equal salts, permutations and vectors
pub string1_injective : {q n : ℕ} (salt salt' p p' : Bytes) {v v' : List ℕ} → q ≤ 2 ^ 64 → length salt ≡ length salt' → length p ≡ length p' → Vector q n v → Vector q n v'
    → string1 salt p v ≡ string1 salt' p' v' → (salt ≡ salt') × (p ≡ p') × (v ≡ v')
string1_injective salt salt' p p' {v} {v'} fits ls lp hv hv' e =
    let a = parts salt salt' {b = p ++ words v} {d = p' ++ words v'} ls (ap (drop 1) e) in
    let b = parts p p' {b = words v} {d = words v'} lp a.1 in
    (a.0, b.0, words_injective fits hv hv' b.1)
