-- Document 01, "Small ring, by hand", A to J, by computation: N = 4, q = 97, p = 2, with s = 1 - X^2 and e = X. (K is the register's.) Assumes nothing.
use Rattle.std.specs.Prelude.{◌≡◌, refl, not, List, [], ◌∷◌, map, ℕ, zero, suc, ◌%◌, ◌^◌, ℤ, pos, negsuc, get_or}
use Rattle.codec.specs.Bytes.{bytes, words, number, signed}
use Rattle.codec.specs.Lists.{list, all_below}
use Rattle.codec.specs.Reply.{number_of, place_of, test, first, Reply}
use Rattle.modular.specs.Modulo.{centre, remainder}
use Rattle.modular.specs.Division.{multiplier, inverse, divide}
use Rattle.ring.specs.Poly.{Poly, sum, turn, coefficient, mul, plus, scale}
use Rattle.ring.specs.Slots.{poly}
use Rattle.ring.specs.Ternary.{meaning, ternary}
use Rattle.sheet_numbers.specs.Bounds.{noise_bound, mask_bound, most, least, power}
use Rattle.sheet_numbers.specs.Plain.{plain as sheet_plain}
use Rattle.sheet_numbers.specs.Rules.{any, outside, unsound}
use Rattle.sheet_lines.specs.Form.{decimal, listed, lines}
use Rattle.sheet.specs.Form.{written}
use Rattle.sheet_lines.specs.Reader.{digit, step, values, line, rows as rows_in}
use Rattle.sheet.specs.Reader.{formed, sheet_of}
use Rattle.sheet.specs.Sheet.{unfit, reading, reply_of}
use Rattle.sheet.specs.Examples.{text_i}
use Rattle.bgv.specs.Scheme.{Wholes, noisy, centred, key, cipher_u, cipher_v, noise_in, plaintext, decrypted, other, lent_mask, share, recovered_mask, within, rebuilt, reconstructed}

-- ---- the paper's polynomials and numbers

abbrev of : List ℕ → Poly
of xs i = get_or xs i 0

abbrev whole_of : List ℤ → Wholes
whole_of xs i = get_or xs i (pos 0)

infixl 90 -◌
abbrev -◌ : ℕ → ℤ
- zero = pos 0
- (suc n) = negsuc n

abbrev a : Poly
a = of (3 ∷ 5 ∷ 0 ∷ 0 ∷ [])

abbrev b : Poly
b = of (3 ∷ 7 ∷ 94 ∷ 92 ∷ [])

abbrev s : Poly
s = ternary 97 (1 ∷ 0 ∷ 2 ∷ 0 ∷ [])

abbrev e : Poly
e = ternary 97 (0 ∷ 1 ∷ 0 ∷ 0 ∷ [])

abbrev r : Poly
r = ternary 97 (0 ∷ 1 ∷ 0 ∷ 0 ∷ [])

abbrev e' : Poly
e' = ternary 97 (0 ∷ 0 ∷ 0 ∷ 0 ∷ [])

abbrev e'' : Poly
e'' = ternary 97 (1 ∷ 0 ∷ 0 ∷ 0 ∷ [])

abbrev m : Poly
m = of (1 ∷ 0 ∷ 1 ∷ 1 ∷ [])

abbrev u : Poly
u = of (0 ∷ 3 ∷ 5 ∷ 0 ∷ [])

abbrev v : Poly
v = of (8 ∷ 3 ∷ 8 ∷ 95 ∷ [])

abbrev s0 : Poly
s0 = of (10 ∷ 20 ∷ 30 ∷ 40 ∷ [])

abbrev s1 : Poly
s1 = of (88 ∷ 77 ∷ 66 ∷ 57 ∷ [])

abbrev E0 : List ℤ
E0 = pos 4 ∷ - 4 ∷ pos 0 ∷ pos 1 ∷ []

abbrev E1 : List ℤ
E1 = pos 0 ∷ - 1 ∷ pos 4 ∷ - 4 ∷ []

abbrev t0 : Poly
t0 = of (29 ∷ 16 ∷ 13 ∷ 95 ∷ [])

abbrev t1 : Poly
t1 = of (81 ∷ 74 ∷ 0 ∷ 90 ∷ [])

-- ---- the rows

-- four whole numbers, and four coefficients modulo 97
abbrev four : Wholes → List ℤ
four f = f 0 ∷ f 1 ∷ f 2 ∷ f 3 ∷ []

abbrev reduced : Poly → List ℤ
reduced f = four (λ k. pos (f k % 97))

abbrev integers : List ℕ → List ℤ
integers l = map pos l

-- a reply: document 01's number, 0 for a call that is taken, and the place
abbrev reply_row : Reply → List ℤ
reply_row r = pos (number_of r) ∷ pos (place_of r) ∷ []

-- what the call of a decryption share answers by its test of a mask, which is lent in 64-bit numbers
abbrev mask_reply : List ℤ → Reply
mask_reply E = first (test 12 0 (not (within (mask_bound 2 4 0) 4 (lent_mask (words (map (remainder (2 ^ 64)) E))))) ∷ [])

-- what is worked out, and what the paper has
pub record Example : Type 0 where
  pub got : List ℤ
  pub said : List ℤ

abbrev comparison : List ℤ → List ℤ → Example
comparison g w = record { got = g; said = w }

pub comparisons : List Example
comparisons =
    comparison (reduced (key 97 4 2 a s e)) (integers (3 ∷ 7 ∷ 94 ∷ 92 ∷ []))  -- A
    ∷ comparison (reduced (cipher_u 97 4 2 a r e')) (integers (0 ∷ 3 ∷ 5 ∷ 0 ∷ []))  -- B
    ∷ comparison (reduced (cipher_v 97 4 2 b r e'' m)) (integers (8 ∷ 3 ∷ 8 ∷ 95 ∷ []))
    ∷ comparison (reduced (noise_in 97 4 s u v)) (integers (3 ∷ 0 ∷ 3 ∷ 1 ∷ []))  -- C
    ∷ comparison (four (λ k. pos (decrypted 97 4 2 s u v k))) (integers (1 ∷ 0 ∷ 1 ∷ 1 ∷ []))
    ∷ comparison (reduced (other 97 s s0)) (integers (88 ∷ 77 ∷ 66 ∷ 57 ∷ []))  -- D
    ∷ comparison (reduced (share 97 4 2 s0 u (whole_of E0))) (integers (29 ∷ 16 ∷ 13 ∷ 95 ∷ []))  -- E
    ∷ comparison (reduced (share 97 4 2 s1 u (whole_of E1))) (integers (81 ∷ 74 ∷ 0 ∷ 90 ∷ []))  -- F
    ∷ comparison (four (recovered_mask 97 4 2 s0 u t0)) E0  -- E and F back: the masks worked out from the shares
    ∷ comparison (four (recovered_mask 97 4 2 s1 u t1)) E1
    ∷ comparison (four (centred 97 (rebuilt 97 v t0 t1))) (- 5 ∷ pos 10 ∷ - 5 ∷ pos 7 ∷ [])  -- G
    ∷ comparison (four (λ k. pos (reconstructed 97 2 v t0 t1 k))) (integers (1 ∷ 0 ∷ 1 ∷ 1 ∷ []))
    ∷ comparison (pos (remainder 2 (centre 97 94)) ∷ pos (remainder 2 (- 3)) ∷ []) (integers (1 ∷ 1 ∷ []))  -- 94 by 2, which is -3 by 2
    ∷ comparison (reply_row (mask_reply E0)) (integers (0 ∷ 0 ∷ []))  -- E0 is taken
    ∷ comparison (reply_row (mask_reply (pos 5 ∷ - 4 ∷ pos 0 ∷ pos 1 ∷ []))) (integers (12 ∷ 0 ∷ []))  -- H
    ∷ comparison (reply_row (reply_of (reading (text_i 81)))) (integers (0 ∷ 0 ∷ []))  -- I: the sheet's text, read
    ∷ comparison (reply_row (reply_of (reading (text_i 73)))) (integers (4 ∷ 0 ∷ []))
    ∷ comparison (pos (noise_bound 2 2048) ∷ pos (mask_bound 2 2048 40) ∷ []) (integers (8195 ∷ 2252624447406080 ∷ []))  -- J
    ∷ []

-- each row is as the paper says
pub examples : map (λ (x : Example). x.got) comparisons ≡ map (λ (x : Example). x.said) comparisons
unfolding comparisons centre remainder divide inverse multiplier sum turn coefficient mul plus scale meaning ternary noisy cipher_v noise_in plaintext recovered_mask rebuilt first within all_below list poly signed words bytes number reading written lines listed decimal formed sheet_of rows_in line values step digit any outside unsound sheet_plain unfit power least most
examples = refl
