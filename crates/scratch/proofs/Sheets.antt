-- The polynomials of a sheet that is taken, in the bytes that they are put into. Assumes nothing.
use mathlib.Core.Path.{◌≡◌, sym, ap, ◌∙◌}
use mathlib.Core.List.{List, [], ◌∷◌, ◌++◌, flat_map}
use Prim.Native.Nat.{ℕ, zero, suc, ◌+◌, ◌*◌, ◌≤◌, ◌<◌}
use native.Mathlib.Nat.{mul-zero, mul-suc, add_comm, zero-add, mul-le-mul}
use native.Mathlib.Omega.{arith}
use lib.ListN.{length, take, get_or, length-append}
use lib.Seq.{take_at, drop-append-add}
use Rattle.codec.specs.Bytes.{Bytes, part, put, words}
use Rattle.codec.proofs.Laws.{length_put, part_put, part_part}
use Rattle.codec.proofs.Lists.{list_get_d}
use Rattle.codec.proofs.Numbers.{length_words}
use Rattle.modular.proofs.Congruence.{same_eq}
use Rattle.ring.specs.Poly.{Alike}
use Rattle.ring.specs.Slots.{poly, encode}
use Rattle.ring.proofs.Bridge.{length_encode, poly_encode}
use Rattle.sheet.specs.Reader.{sheet_of}
use Rattle.sheet.specs.Sheet.{reading, lists, polynomials, Taken}
use Rattle.sheet_numbers.specs.declared.Numbers.{Numbers}
use Rattle.sheet.proofs.Taken.{Coefficients, AllCoefficients, taken, lists_taken}
use Rattle.scratch.specs.Call.{coefficients}
use Rattle.scratch.specs.Internal.{Polynomial}

-- a list of coefficients in bytes
words_are : (n : ℕ) (xs : List ℕ) → length xs ≡ n → words xs ≡ encode n (coefficients xs)
unfolding encode
words_are n xs l = ap words (sym (list_get_d xs)) ∙ ap (λ (k : ℕ). encode k (coefficients xs)) l

-- lists one after the other
module _ (n q : ℕ) where
  length_lists : (ls : List (List ℕ)) → AllCoefficients n q ls → length (flat_map words ls) ≡ 8 * n * length ls
  unfolding flat_map
  length_lists [] a = sym (mul-zero (8 * n))
  length_lists (l ∷ ls) a = simp length-append (omega (arith, length_words l, a.0.count, length_lists ls a.1, mul-suc (8 * n) (length ls)))

  lists_at : (ls : List (List ℕ)) → AllCoefficients n q ls → (i : ℕ) → i < length ls → part (flat_map words ls) (8 * n * i) (8 * n) ≡ words (get_or ls i [])
  unfolding flat_map
  lists_at [] a i h = absurd (omega arith)
  lists_at (l ∷ ls) a zero h = ap (λ (k : ℕ). part (words l ++ flat_map words ls) k (8 * n)) (mul-zero (8 * n)) ∙ take_at (words l) (flat_map words ls) (8 * n) (omega (arith, length_words l, a.0.count))
  lists_at (l ∷ ls) a (suc i) h =
      ap (λ (k : ℕ). part (words l ++ flat_map words ls) k (8 * n)) (mul-suc (8 * n) i ∙ add_comm (8 * n * i) (8 * n) ∙ ap (λ (k : ℕ). k + 8 * n * i) (omega (arith, length_words l, a.0.count)))
      ∙ ap (take (8 * n)) (drop-append-add (words l) (flat_map words ls) (8 * n * i)) ∙ lists_at ls a.1 i (omega arith)

  polynomial_at : (ls : List (List ℕ)) → AllCoefficients n q ls → (i : ℕ) → i < length ls → Coefficients n q (get_or ls i [])
  polynomial_at [] a i h = absurd (omega arith)
  polynomial_at (l ∷ ls) a zero h = a.0
  polynomial_at (l ∷ ls) a (suc i) h = polynomial_at ls a.1 i (omega arith)

-- ---- a sheet that is taken

module _ (text : Bytes) (k : Numbers) (e : reading text ≡ Taken k) (d : Bytes) (room : length d ≡ 81920) (i : ℕ) (h : i < 5) where
  abbrev n : ℕ
  n = k.ring

  abbrev ls : List (List ℕ)
  ls = lists (sheet_of text)

  all : AllCoefficients n k.modulus ls
  all = lists_taken text e

  high : n ≤ 2048
  high = (taken text e).ranged.ring_high

  all_length : length (flat_map words ls) ≡ 8 * n * 5
  all_length = length_lists n k.modulus ls all

  pub put_room : length (put d 0 (polynomials text)) ≡ 81920
  unfolding polynomials
  put_room = length_put d 0 (flat_map words ls) (omega (arith, all_length, high)) ∙ room

  -- the part of the bytes that holds a list
  part_is : part (put d 0 (polynomials text)) (8 * n * i) (8 * n) ≡ encode n (coefficients (get_or ls i []))
  unfolding polynomials
  part_is =
      ap (λ (j : ℕ). part (put d 0 (flat_map words ls)) j (8 * n)) (sym (zero-add (8 * n * i)))
      ∙ sym (part_part (put d 0 (flat_map words ls)) 0 (length (flat_map words ls)) (8 * n * i) (8 * n) (omega (arith, all_length, mul-suc (8 * n) i, mul-le-mul {n₁ = 8 * n} {m₁ = suc i} {n₂ = 8 * n} {m₂ = 5} (omega arith) h)))
      ∙ ap (λ (t : Bytes). part t (8 * n * i) (8 * n)) (part_put d 0 (flat_map words ls) (omega (arith, all_length, high)))
      ∙ lists_at n k.modulus ls all i h ∙ words_are n (get_or ls i []) (polynomial_at n k.modulus ls all i h).count

  -- of any bytes that are that part
  module _ (a : Bytes) (is : a ≡ part (put d 0 (polynomials text)) (8 * n * i) (8 * n)) where
    read : (j : ℕ) → j < n → poly a j ≡ coefficients (get_or ls i []) j
    read j l =
        ap (λ (t : Bytes). poly t j) (is ∙ part_is)
        ∙ poly_encode n (coefficients (get_or ls i [])) j l (omega (arith, (polynomial_at n k.modulus ls all i h).below j, (taken text e).ranged.modulus_high))

    pub lent_alike : Alike k.modulus n (poly a) (coefficients (get_or ls i []))
    lent_alike = record { at = λ j l. same_eq (read j l) }

    pub lent_public : Polynomial n k.modulus a
    lent_public =
        let r = (taken text e).ranged in
        record {
          ring_low = r.ring_low;
          ring_high = r.ring_high;
          modulus_low = r.modulus_low;
          modulus_high = r.modulus_high;
          sized = ap length (is ∙ part_is) ∙ length_encode n (coefficients (get_or ls i []));
          below = record { at = λ j l. rw (read j l) ((polynomial_at n k.modulus ls all i h).below j) };
        }
