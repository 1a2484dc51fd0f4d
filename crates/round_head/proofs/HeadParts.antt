-- The head, from the parts that are written one behind the other. Assumes nothing.
use mathlib.Core.Path.{◌≡◌, ap₂, ◌∙◌}
use mathlib.Core.List.{◌++◌, append_assoc}
use Prim.Native.Nat.{ℕ, ◌-◌, ◌*◌, ◌≤◌}
use native.Mathlib.Omega.{arith}
use lib.ListN.{length, take, drop, length-append}
use Rattle.codec.specs.Bytes.{Bytes, put}
use Rattle.codec.proofs.Laws.{written_behind}
use Rattle.ring.specs.Poly.{Poly, modulo}
use Rattle.ring.specs.Slots.{coefficient_bytes, poly}
use Rattle.ring.specs.Ternary.{ternary}
use Rattle.ring.proofs.Bridge.{length_encode}
use Rattle.sheet_numbers.specs.Plain.{plain}
use Rattle.sheet_numbers.specs.declared.Numbers.{Numbers}
use Rattle.bgv.specs.Scheme.{key, other}
use Rattle.commitment.specs.Loaded.{a_of}
use Rattle.round.specs.Layout.{head_length}
use Rattle.commitment.specs.Parameters.{Parameters}
use Rattle.round.specs.Producer.{s_in, e_in, key_bytes_of, pairs_bytes, digests_bytes, head_bytes}
use Rattle.commitment.proofs.Cut.{a_cut}
use Rattle.round_head.proofs.CommittedPairs.{length_pairs}
use Rattle.round_head.proofs.Drawing.{length_digests_of}
use Rattle.round_head.proofs.Joining.{cut, two_whole}

-- two polynomials side by side
pub length_two : (q n : ℕ) (f g : Poly) → length (coefficient_bytes q n f ++ coefficient_bytes q n g) ≡ 16 * n
length_two q n f g = length-append (coefficient_bytes q n f) (coefficient_bytes q n g) ∙ omega (arith, length_encode n (modulo q f), length_encode n (modulo q g))

pub two_behind : (q n : ℕ) (f g : Poly) (d d1 d2 : Bytes) → 16 * n ≤ length d → d1 ≡ put d 0 (coefficient_bytes q n f) → d2 ≡ put d1 (8 * n) (coefficient_bytes q n g) → d2 ≡ put d 0 (coefficient_bytes q n f ++ coefficient_bytes q n g)
two_behind q n f g d d1 d2 h e1 e2 =
    let lf = length_encode n (modulo q f) in
    let lg = length_encode n (modulo q g) in
    written_behind d d1 d2 (coefficient_bytes q n f) (coefficient_bytes q n g) 0 (8 * n) (omega arith) (omega arith) e1 e2

-- ---- the keys, with the sheet's a and the secrets as they are lent

module _ (k : Numbers) (s secrets s0 e0 : Bytes) where
  abbrev n : ℕ
  n = k.ring

  abbrev q : ℕ
  q = k.modulus

  abbrev lent_key : (p : ℕ) (a : Bytes) → Poly
  lent_key p a = key q n p (poly a) (poly s0) (poly e0)

  abbrev other_key : (p : ℕ) (a x y : Bytes) → Poly
  other_key p a x y = key q n p (poly a) (other q (ternary q x) (poly s0)) (other q (ternary q y) (poly e0))

  abbrev b : ℕ → Bytes
  b = key_bytes_of q n secrets s0 e0 (plain k) (poly (a_of k s))

  pub keys_written : (p : ℕ) (d d1 d2 : Bytes) → p ≡ plain k → 16 * n ≤ length d → d1 ≡ put d 0 (coefficient_bytes q n (lent_key p (take (8 * n - 0) (drop 0 s))))
      → d2 ≡ put d1 (8 * n) (coefficient_bytes q n (other_key p (take (8 * n - 0) (drop 0 s)) (take (n - 0) (drop 0 secrets)) (take (2 * n - n) (drop n secrets)))) → d2 ≡ put d 0 (b 0 ++ b 1)
  keys_written p d d1 d2 is h e1 e2 =
      let a = take (8 * n - 0) (drop 0 s) in
      two_behind q n (lent_key (plain k) (a_of k s)) (other_key (plain k) (a_of k s) (s_in n secrets) (e_in n secrets)) d d1 d2 h
      (e1 ∙ ap₂ (λ (i : ℕ) (x : Bytes). put d 0 (coefficient_bytes q n (lent_key i x))) is (a_cut k s))
      (e2 ∙ ap₂ (λ (x y : Bytes). put d1 (8 * n) (coefficient_bytes q n (other_key p a x y))) (cut secrets 0 (n - 0) n (omega arith)) (cut secrets n (2 * n - n) n (omega arith))
      ∙ ap₂ (λ (i : ℕ) (x : Bytes). put d1 (8 * n) (coefficient_bytes q n (other_key i x (s_in n secrets) (e_in n secrets)))) is (a_cut k s))

-- ---- the head: keys, pairs, digests

module _ (P : Parameters) (secrets s0 e0 vectors permutations salts d d1 d2 d3 : Bytes) where
  abbrev halves : ℕ → Bytes
  halves = key_bytes_of P.q P.N secrets s0 e0 P.p P.a

  abbrev pairs : Bytes
  pairs = pairs_bytes P.q P.N secrets s0 e0 P.k

  abbrev digests : Bytes
  digests = digests_bytes P.q P.N P.repeats secrets vectors permutations salts P.k

  pub head_whole : length d ≡ head_length P.N P.repeats → d1 ≡ put d 0 (halves 0 ++ halves 1) → d2 ≡ put d1 (16 * P.N) pairs → d3 ≡ put d2 (80 * P.N) digests
      → d3 ≡ head_bytes P secrets s0 e0 vectors permutations salts
  head_whole l e1 e2 e3 =
      let keys = halves 0 ++ halves 1 in
      let lp : length pairs ≡ 64 * P.N = length_pairs P.q P.N P.k secrets s0 e0 in
      let ld : length digests ≡ 96 * P.repeats = length_digests_of P.q P.N P.repeats P.k secrets vectors permutations salts P.repeats in
      let lk : length keys ≡ 16 * P.N = length_two P.q P.N _ _ in
      let lf : length (keys ++ pairs) ≡ 80 * P.N = length-append keys pairs ∙ omega arith in
      two_whole d d2 d3 (keys ++ pairs) digests (80 * P.N) (omega arith) (omega arith) (written_behind d d1 d2 keys pairs 0 (16 * P.N) (omega arith) (omega arith) e1 e2) e3
      ∙ append_assoc keys pairs digests ∙ append_assoc (halves 0) (halves 1) (pairs ++ digests)
