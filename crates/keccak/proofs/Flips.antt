-- The permutation on a state with six lanes complemented is the permutation. Assumes nothing.
use mathlib.Core.Path.{◌≡◌, refl, sym, ap, ap₂, ◌∙◌}
use mathlib.Core.Bool.{Bool, true, false}
use mathlib.Core.List.{[], ◌∷◌}
use Prim.Native.Nat.{ℕ, suc, ◌+◌, ◌*◌, ◌%◌, ◌^◌, ◌<◌}
use native.Mathlib.Omega.{arith}
use lib.Bits.{bit_xor, bit_and, bit_or, xor_lt}
use lib.ListN.{get_or}
use Rattle.keccak.specs.Keccak.{StateArray, lane, five, lanes, offsets, rotate, complement, parity, effect, theta, rho, pi, chi, chi_row, iota, round, rounds, constants}
use Rattle.keccak.specs.Internal.{chi_row0, chi_row1, chi_row2, chi_row3, chi_row4, chi_flipped, ◌⊻◌, flip, flipped, six, round_flipped}
use Rattle.keccak.proofs.Complement.{flip_lt, flip_flip, flip_xor, flip_rotate, chi_lane, by_and, by_or, twice}
use Rattle.keccak.proofs.Bits.{rotate_lt}
use Rattle.keccak.proofs.Lanes.{Words, at_five, by_row, offset_lt, parity_at, parity_lt, effect_at, theta_at, theta_words, rho_at, rho_words, pi_at, pi_words, rounds_words}
use Rattle.keccak.proofs.Rows.{row5}
use Rattle.keccak.proofs.Shape.{Shape, shaped, shape_of}

-- ---- states by their lanes

lanes_at : (f : ℕ → ℕ → ℕ) (x y : ℕ) → x < 5 → y < 5 → lane (lanes f) x y ≡ f x y
lanes_at f x y hx hy = by_row (λ k. five (λ j. f j k)) x y hy ∙ at_five (λ j. f j y) 0 x hx

five_same : {A : Type 0} {f g : ℕ → A} → ((k : ℕ) → k < 5 → f k ≡ g k) → five f ≡ five g
five_same e = row5 (e 0 (omega arith)) (e 1 (omega arith)) (e 2 (omega arith)) (e 3 (omega arith)) (e 4 (omega arith))

lanes_same : {f g : ℕ → ℕ → ℕ} → ((x y : ℕ) → x < 5 → y < 5 → f x y ≡ g x y) → lanes f ≡ lanes g
lanes_same e = five_same (λ y hy. five_same (λ x hx. e x y hx hy))

-- ---- which lanes stand complemented after a step

column_of : (ℕ → ℕ → Bool) → ℕ → Bool
column_of P x = P x 0 ⊻ P x 1 ⊻ P x 2 ⊻ P x 3 ⊻ P x 4

effect_of : (ℕ → ℕ → Bool) → ℕ → Bool
effect_of P x = column_of P ((x + 4) % 5) ⊻ column_of P ((x + 1) % 5)

theta_of : (ℕ → ℕ → Bool) → ℕ → ℕ → Bool
theta_of P x y = P x y ⊻ effect_of P x

moved_of : (ℕ → ℕ → Bool) → ℕ → ℕ → Bool
moved_of P x y = theta_of P ((x + 3 * y) % 5) x

module _ (P : ℕ → ℕ → Bool) (s : StateArray) (w : Words s) where
  flipped_at : (x y : ℕ) → x < 5 → y < 5 → lane (flipped P s) x y ≡ flip (P x y) (lane s x y)
  unfolding flipped
  flipped_at x y hx hy = lanes_at (λ i j. flip (P i j) (lane s i j)) x y hx hy

  pub flipped_words : Words (flipped P s)
  flipped_words = record { word = λ x y hx hy. rw (flipped_at x y hx hy) (flip_lt (P x y) (lane s x y) (w.word x y hx hy)) }

  parity_flipped : (x : ℕ) → x < 5 → get_or (parity (flipped P s)) x 0 ≡ flip (column_of P x) (get_or (parity s) x 0)
  unfolding column_of
  parity_flipped x h =
      let l : (y : ℕ) → y < 5 → lane s x y < 2 ^ 64 = λ y hy. w.word x y h hy in
      let a1 = bit_xor (lane s x 0) (lane s x 1) in
      let a2 = bit_xor a1 (lane s x 2) in
      let a3 = bit_xor a2 (lane s x 3) in
      let w1 : a1 < 2 ^ 64 = xor_lt 64 (lane s x 0) (lane s x 1) (l 0 (omega arith)) (l 1 (omega arith)) in
      let w2 : a2 < 2 ^ 64 = xor_lt 64 a1 (lane s x 2) w1 (l 2 (omega arith)) in
      let w3 : a3 < 2 ^ 64 = xor_lt 64 a2 (lane s x 3) w2 (l 3 (omega arith)) in
      let f1 = P x 0 ⊻ P x 1 in
      let f2 = f1 ⊻ P x 2 in
      let f3 = f2 ⊻ P x 3 in
      parity_at (flipped P s) flipped_words x h
      ∙ ap₂ bit_xor
      (ap₂ bit_xor
      (ap₂ bit_xor
      (ap₂ bit_xor (flipped_at x 0 h (omega arith)) (flipped_at x 1 h (omega arith))
      ∙ flip_xor (P x 0) (P x 1) (lane s x 0) (lane s x 1) (l 0 (omega arith)) (l 1 (omega arith)))
      (flipped_at x 2 h (omega arith))
      ∙ flip_xor f1 (P x 2) a1 (lane s x 2) w1 (l 2 (omega arith)))
      (flipped_at x 3 h (omega arith))
      ∙ flip_xor f2 (P x 3) a2 (lane s x 3) w2 (l 3 (omega arith)))
      (flipped_at x 4 h (omega arith))
      ∙ flip_xor f3 (P x 4) a3 (lane s x 4) w3 (l 4 (omega arith))
      ∙ ap (flip (f3 ⊻ P x 4)) (sym (parity_at s w x h))

  effect_flipped : (x : ℕ) → x < 5 → get_or (effect (parity (flipped P s))) x 0 ≡ flip (effect_of P x) (get_or (effect (parity s)) x 0)
  unfolding effect_of
  effect_flipped x h =
      let far = (x + 4) % 5 in
      let near = (x + 1) % 5 in
      let c = get_or (parity s) far 0 in
      let d = get_or (parity s) near 0 in
      let hc : c < 2 ^ 64 = parity_lt s w far (omega arith) in
      let hd : d < 2 ^ 64 = parity_lt s w near (omega arith) in
      effect_at (flipped P s) flipped_words x h
      ∙ ap₂ (λ (a b : ℕ). bit_xor a (rotate b 1)) (parity_flipped far (omega arith)) (parity_flipped near (omega arith))
      ∙ ap (bit_xor (flip (column_of P far) c)) (flip_rotate (column_of P near) d 1 hd (omega arith))
      ∙ flip_xor (column_of P far) (column_of P near) c (rotate d 1) hc (rotate_lt d 1 hd (omega arith))
      ∙ ap (flip (column_of P far ⊻ column_of P near)) (sym (effect_at s w x h))

  theta_flipped : (x y : ℕ) → x < 5 → y < 5 → lane (theta (flipped P s)) x y ≡ flip (theta_of P x y) (lane (theta s) x y)
  unfolding theta_of
  theta_flipped x y hx hy =
      let d = get_or (effect (parity s)) x 0 in
      let hd : d < 2 ^ 64 =
      rw (effect_at s w x hx) (xor_lt 64 _ _ (parity_lt s w ((x + 4) % 5) (omega arith)) (rotate_lt _ 1 (parity_lt s w ((x + 1) % 5) (omega arith)) (omega arith))) in
      theta_at (flipped P s) flipped_words x y hx hy
      ∙ ap₂ bit_xor (flipped_at x y hx hy) (effect_flipped x hx)
      ∙ flip_xor (P x y) (effect_of P x) (lane s x y) d (w.word x y hx hy) hd
      ∙ ap (flip (P x y ⊻ effect_of P x)) (sym (theta_at s w x y hx hy))

  -- theta, rho and pi
  moved_flipped : (x y : ℕ) → x < 5 → y < 5 → lane (pi (rho (theta (flipped P s)))) x y ≡ flip (moved_of P x y) (lane (pi (rho (theta s))) x y)
  unfolding moved_of
  moved_flipped x y hx hy =
      let f = flipped P s in
      let i = (x + 3 * y) % 5 in
      let hi : i < 5 = omega arith in
      let n = lane offsets i x in
      let wf = theta_words f flipped_words in
      let ws = theta_words s w in
      pi_at (rho (theta f)) (rho_words (theta f) wf) x y hx hy
      ∙ rho_at (theta f) wf i x hi hx
      ∙ ap (λ (l : ℕ). rotate l n) (theta_flipped i x hi hx)
      ∙ flip_rotate (theta_of P i x) (lane (theta s) i x) n (ws.word i x hi hx) (offset_lt i x hx)
      ∙ ap (flip (theta_of P i x)) (sym (rho_at (theta s) ws i x hi hx))
      ∙ ap (flip (theta_of P i x)) (sym (pi_at (rho (theta s)) (rho_words (theta s) ws) x y hx hy))

  -- complemented twice
  pub back : Shape s → flipped P (flipped P s) ≡ s
  unfolding flipped
  back h =
      lanes_same (λ x y hx hy. ap (flip (P x y)) (lanes_at (λ i j. flip (P i j) (lane s i j)) x y hx hy) ∙ flip_flip (P x y) (lane s x y) (w.word x y hx hy))
      ∙ sym (shaped s h)

moved : (s : StateArray) → Words s → pi (rho (theta (flipped six s))) ≡ flipped (moved_of six) (pi (rho (theta s)))
unfolding flipped
moved s w =
    let t = pi (rho (theta (flipped six s))) in
    shaped t (shape_of _ _ _ _ _ refl refl refl refl refl) ∙ lanes_same (moved_flipped six s w)

-- ---- chi, row by row: which lanes of a row stand complemented before and after

module _ (x0 x1 x2 x3 x4 : ℕ) (h0 : x0 < 2 ^ 64) (h1 : x1 < 2 ^ 64) (h2 : x2 < 2 ^ 64) (h3 : x3 < 2 ^ 64) (h4 : x4 < 2 ^ 64) where
  row0_flipped : chi_row0 (complement x0 ∷ x1 ∷ complement x2 ∷ complement x3 ∷ x4 ∷ []) ≡ chi_lane x0 x1 x2 ∷ complement (chi_lane x1 x2 x3) ∷ complement (chi_lane x2 x3 x4) ∷ chi_lane x3 x4 x0 ∷ chi_lane x4 x0 x1 ∷ []
  unfolding chi_row0
  row0_flipped = row5 (by_or true x0 x1 x2 h0 h1 h2) (ap (λ (v : ℕ). bit_xor x1 (bit_or v (complement x3))) (twice x2 h2) ∙ by_or false x1 x2 x3 h1 h2 h3) (by_and true x2 x3 x4 h2 h3 h4) (by_or true x3 x4 x0 h3 h4 h0) (by_and false x4 x0 x1 h4 h0 h1)

  row1_flipped : chi_row1 (complement x0 ∷ x1 ∷ complement x2 ∷ x3 ∷ x4 ∷ []) ≡ chi_lane x0 x1 x2 ∷ chi_lane x1 x2 x3 ∷ chi_lane x2 x3 x4 ∷ complement (chi_lane x3 x4 x0) ∷ chi_lane x4 x0 x1 ∷ []
  unfolding chi_row1
  row1_flipped = row5 (by_or true x0 x1 x2 h0 h1 h2) (by_and false x1 x2 x3 h1 h2 h3) (by_or true x2 x3 x4 h2 h3 h4) (by_or false x3 x4 x0 h3 h4 h0) (by_and false x4 x0 x1 h4 h0 h1)

  row2_flipped : chi_row2 (complement x0 ∷ x1 ∷ complement x2 ∷ x3 ∷ x4 ∷ []) ≡ chi_lane x0 x1 x2 ∷ chi_lane x1 x2 x3 ∷ complement (chi_lane x2 x3 x4) ∷ chi_lane x3 x4 x0 ∷ chi_lane x4 x0 x1 ∷ []
  unfolding chi_row2
  row2_flipped = row5 (by_or true x0 x1 x2 h0 h1 h2) (by_and false x1 x2 x3 h1 h2 h3) (by_and true x2 x3 x4 h2 h3 h4) (by_or true x3 x4 x0 h3 h4 h0) (by_and false x4 x0 x1 h4 h0 h1)

  row3_flipped : chi_row3 (x0 ∷ complement x1 ∷ x2 ∷ complement x3 ∷ complement x4 ∷ []) ≡ chi_lane x0 x1 x2 ∷ chi_lane x1 x2 x3 ∷ complement (chi_lane x2 x3 x4) ∷ chi_lane x3 x4 x0 ∷ chi_lane x4 x0 x1 ∷ []
  unfolding chi_row3
  row3_flipped = row5 (by_and false x0 x1 x2 h0 h1 h2) (by_or true x1 x2 x3 h1 h2 h3) (ap (λ (v : ℕ). bit_xor x2 (bit_or v (complement x4))) (twice x3 h3) ∙ by_or false x2 x3 x4 h2 h3 h4) (ap (λ (v : ℕ). bit_xor v (bit_and (complement x4) x0)) (twice x3 h3) ∙ by_and false x3 x4 x0 h3 h4 h0) (by_or true x4 x0 x1 h4 h0 h1)

  row4_flipped : chi_row4 (complement x0 ∷ x1 ∷ x2 ∷ complement x3 ∷ x4 ∷ []) ≡ complement (chi_lane x0 x1 x2) ∷ chi_lane x1 x2 x3 ∷ chi_lane x2 x3 x4 ∷ chi_lane x3 x4 x0 ∷ chi_lane x4 x0 x1 ∷ []
  unfolding chi_row4
  row4_flipped = row5 (by_and true x0 x1 x2 h0 h1 h2) (by_or true x1 x2 x3 h1 h2 h3) (by_and false x2 x3 x4 h2 h3 h4) (by_or true x3 x4 x0 h3 h4 h0) (by_and false x4 x0 x1 h4 h0 h1)

chi_flipped_lem : (b : StateArray) → Words b → chi_flipped (flipped (moved_of six) b) ≡ flipped six (chi b)
unfolding chi_flipped flipped moved_of theta_of effect_of column_of chi chi_row
chi_flipped_lem b w =
    let l : (x y : ℕ) → x < 5 → y < 5 → lane b x y < 2 ^ 64 = w.word in
    row5
    (row0_flipped (lane b 0 0) (lane b 1 0) (lane b 2 0) (lane b 3 0) (lane b 4 0) (l 0 0 (omega arith) (omega arith)) (l 1 0 (omega arith) (omega arith)) (l 2 0 (omega arith) (omega arith)) (l 3 0 (omega arith) (omega arith)) (l 4 0 (omega arith) (omega arith)))
    (row1_flipped (lane b 0 1) (lane b 1 1) (lane b 2 1) (lane b 3 1) (lane b 4 1) (l 0 1 (omega arith) (omega arith)) (l 1 1 (omega arith) (omega arith)) (l 2 1 (omega arith) (omega arith)) (l 3 1 (omega arith) (omega arith)) (l 4 1 (omega arith) (omega arith)))
    (row2_flipped (lane b 0 2) (lane b 1 2) (lane b 2 2) (lane b 3 2) (lane b 4 2) (l 0 2 (omega arith) (omega arith)) (l 1 2 (omega arith) (omega arith)) (l 2 2 (omega arith) (omega arith)) (l 3 2 (omega arith) (omega arith)) (l 4 2 (omega arith) (omega arith)))
    (row3_flipped (lane b 0 3) (lane b 1 3) (lane b 2 3) (lane b 3 3) (lane b 4 3) (l 0 3 (omega arith) (omega arith)) (l 1 3 (omega arith) (omega arith)) (l 2 3 (omega arith) (omega arith)) (l 3 3 (omega arith) (omega arith)) (l 4 3 (omega arith) (omega arith)))
    (row4_flipped (lane b 0 4) (lane b 1 4) (lane b 2 4) (lane b 3 4) (lane b 4 4) (l 0 4 (omega arith) (omega arith)) (l 1 4 (omega arith) (omega arith)) (l 2 4 (omega arith) (omega arith)) (l 3 4 (omega arith) (omega arith)) (l 4 4 (omega arith) (omega arith)))

-- ---- a round, and all of them

iota_flipped : (b : StateArray) (c : ℕ) → iota (flipped six (chi b)) c ≡ flipped six (iota (chi b) c)
unfolding iota flipped chi chi_row
iota_flipped b c = refl

round_flipped_lem : (s : StateArray) (c : ℕ) → Words s → round_flipped (flipped six s) c ≡ flipped six (round s c)
unfolding round_flipped round
round_flipped_lem s c w =
    let b = pi (rho (theta s)) in
    let wb = pi_words (rho (theta s)) (rho_words (theta s) (theta_words s w)) in
    ap (λ (t : StateArray). iota (chi_flipped t) c) (moved s w) ∙ ap (λ (t : StateArray). iota t c) (chi_flipped_lem b wb) ∙ iota_flipped b c

-- the lanes complemented, and again
pub undone : (s t : StateArray) → Words s → Shape s → t ≡ flipped six s → flipped six t ≡ s
undone s t w h e = ap (flipped six) e ∙ back six s w h

-- one round more
next_flipped : (n m : ℕ) → m ≡ suc n → (s t : StateArray) → Words s → t ≡ flipped six (rounds n s)
    → round_flipped t (get_or constants n 0) ≡ flipped six (rounds m s)
unfolding rounds
next_flipped n m h s t w e =
    ap (λ (x : StateArray). round_flipped x (get_or constants n 0)) e
    ∙ round_flipped_lem (rounds n s) (get_or constants n 0) (rounds_words n s w)
    ∙ ap (λ (k : ℕ). flipped six (rounds k s)) (sym h)

-- four rounds more
pub four_flipped : (n : ℕ) (s t : StateArray) → Words s → t ≡ flipped six (rounds n s)
    → round_flipped (round_flipped (round_flipped (round_flipped t (get_or constants n 0)) (get_or constants (n + 1) 0)) (get_or constants (n + 2) 0)) (get_or constants (n + 3) 0)
    ≡ flipped six (rounds (n + 4) s)
four_flipped n s t w e =
    next_flipped (n + 3) (n + 4) (omega arith) s _ w
    (next_flipped (n + 2) (n + 3) (omega arith) s _ w (next_flipped (n + 1) (n + 2) (omega arith) s _ w (next_flipped n (n + 1) (omega arith) s t w e)))
