-- Completeness: where A x = y for L ternary bytes x, the honest answers pass. Assumes nothing.
use mathlib.Core.Path.{◌≡◌, refl, sym, ap, ◌∙◌}
use mathlib.Core.Bool.{true}
use Prim.Native.Nat.{ℕ, ◌*◌, ◌<◌}
use native.Mathlib.Omega.{arith}
use lib.ListN.{length, take}
use Rattle.codec.specs.Bytes.{Bytes, words}
use Rattle.codec.proofs.Numbers.{length_words}
use Rattle.codec.specs.Lists.{all_below}
use Rattle.vector.specs.Vector.{Each, vector, ternaries, add, subtract}
use Rattle.vector.specs.Internal.{Vector}
use Rattle.vector.specs.Permutation.{entries, apply, extend}
use Rattle.vector.proofs.Vectors.{each_length, take_each, add_vector, add_subtract, commute, add_take, apply_add, apply_each, length_apply, vector_words, ternaries_vector, ternaries_apply, take_extend}
use Rattle.vector.proofs.Balance.{length_extend, extend_balanced, balanced_apply}
use Rattle.stern.specs.Argument.{Setting, Drawn, masked, first_message, answer1, answer2, answer3}
use Rattle.stern.specs.Internal.{Valid, Fit, Passes1, Passes2, Passes3}

module _ (s : Setting) (ok : Valid s) (x : Bytes) (size : length x ≡ s.L) (ternary : all_below 3 x ≡ true) (equation : s.A (ternaries s.q x) ≡ s.y)
    (c : Drawn) (fit : Fit s c) where
  open s use {q, L, A, y}

  -- the extension as numbers
  extended : Vector q (3 * L) (ternaries q (extend L x))
  extended = let three = ok.three in rw (length_extend L x size ternary) at (ternaries_vector q (extend L x) (omega arith))

  -- P(R), and extended + R, written as bytes and read
  read_t : vector (words (apply (entries c.p) (vector c.r))) ≡ apply (entries c.p) (vector c.r)
  read_t = vector_words ok.fits (apply_each fit.permutes.indices fit.below)

  pub masked_vector : Vector q (3 * L) (masked q L x c)
  masked_vector = add_vector extended fit.below

  read_u : vector (words (masked q L x c)) ≡ masked q L x c
  read_u = vector_words ok.fits masked_vector

  -- P(extended) + P(R) = P(extended + R)
  summed : add q (ternaries q (apply (entries c.p) (extend L x))) (vector (words (apply (entries c.p) (vector c.r)))) ≡ apply (entries c.p) (masked q L x c)
  summed =
      let within : Each (λ i. i < length (extend L x)) (3 * L) (entries c.p) = rw (length_extend L x size ternary) fit.permutes.indices in
      rw (read_t, ternaries_apply q (extend L x) within) (sym (apply_add (entries c.p) extended fit.below))

  pub passes1 : Passes1 s (first_message s x c) (answer1 L x c)
  passes1 = record {
    balanced = balanced_apply L (entries c.p) (extend L x) fit.permutes (extend_balanced L x size ternary);
    sized = length_words (apply (entries c.p) (vector c.r)) ∙ ap (λ (n : ℕ). 8 * n) (length_apply (entries c.p) (vector c.r) ∙ each_length fit.permutes.indices);
    below = rw read_t (apply_each fit.permutes.indices fit.below);
    size2 = fit.size2;
    size3 = fit.size3;
    d2 = refl;
    d3 = rw summed refl;
  }

  -- A (extended + R) - y = A R
  opened : subtract q (A (take L (vector (words (masked q L x c))))) y ≡ A (take L (vector c.r))
  opened =
      let r : Vector q L (take L (vector c.r)) = take_each L (2 * L) (omega arith) fit.below in
      let e : Vector q L (take L (ternaries q (extend L x))) = take_each L (2 * L) (omega arith) extended in
      rw (read_u, add_take, ok.linear.sum e r, take_extend q L x size, equation, commute) (add_subtract (ok.linear.vector r) ok.right)

  pub passes2 : Passes2 s (first_message s x c) (answer2 q L x c)
  passes2 = record {
    permutes = fit.permutes;
    sized = fit.size_p;
    below = rw read_u masked_vector;
    size1 = fit.size1;
    size = fit.size3;
    opens1 = rw opened refl;
    opens = rw read_u refl;
  }

  pub passes3 : Passes3 s (first_message s x c) (answer3 c)
  passes3 = record { permutes = fit.permutes; sized = fit.size_p; below = fit.below; size1 = fit.size1; size = fit.size2; opens1 = refl; opens = refl }
