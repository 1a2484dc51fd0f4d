-- The lane in column x of row y after each step mapping, for x and y below 5, and that lanes stay below 2^64. Assumes nothing.
use mathlib.Core.Path.{◌≡◌, refl, ap, ◌∙◌}
use mathlib.Core.List.{[]}
use Prim.Native.Nat.{ℕ, zero, suc, ◌+◌, ◌*◌, ◌%◌, ◌^◌, ◌<◌}
use native.Mathlib.Omega.{arith}
use lib.Bits.{bit_xor, bit_and, xor_lt, and_lt}
use lib.ListN.{length, get_or, set}
use lib.Seq.{get_or-set_same, get_or-set_other}
use Rattle.codec.specs.Lists.{all_below}
use Rattle.codec.proofs.Lists.{all_below_at}
use Rattle.keccak.specs.Keccak.{Row, StateArray, lane, five, offsets, constants, rotate, complement, xor_row, parity, effect, theta, rho, rho_row, pi, chi, chi_row, iota, round, rounds}
use Rattle.keccak.proofs.Bits.{rotate_lt}

-- every lane is below 2^64
pub record Words (s : StateArray) : Type 0 where
  pub word : (x y : ℕ) → x < 5 → y < 5 → lane s x y < 2 ^ 64

-- one of five
pub at_five : {A : Type 0} (f : ℕ → A) (d : A) (k : ℕ) → k < 5 → get_or (five f) k d ≡ f k
at_five f d zero h = refl
at_five f d (suc zero) h = refl
at_five f d (suc (suc zero)) h = refl
at_five f d (suc (suc (suc zero))) h = refl
at_five f d (suc (suc (suc (suc zero)))) h = refl
at_five f d (suc (suc (suc (suc (suc k))))) h = absurd (omega arith)

-- a lane of a state that is made row by row
pub by_row : (f : ℕ → Row) (x y : ℕ) → y < 5 → lane (five f) x y ≡ get_or (f y) x 0
by_row f x y h = ap (λ (r : Row). get_or r x 0) (at_five f [] y h)

pub complement_lt : (l : ℕ) → complement l < 2 ^ 64
unfolding complement
complement_lt l = omega arith

pub xor_row_at : (r d : Row) (x : ℕ) → x < 5 → get_or (xor_row r d) x 0 ≡ bit_xor (get_or r x 0) (get_or d x 0)
unfolding xor_row
xor_row_at r d x h = at_five (λ k. bit_xor (get_or r k 0) (get_or d k 0)) 0 x h

-- ---- every offset is below 64: a test that is computed over the whole table

pub offset_lt : (x y : ℕ) → y < 5 → lane offsets x y < 64
unfolding all_below
offset_lt x zero h = all_below_at 64 (omega arith) (get_or offsets 0 []) refl x
offset_lt x (suc zero) h = all_below_at 64 (omega arith) (get_or offsets 1 []) refl x
offset_lt x (suc (suc zero)) h = all_below_at 64 (omega arith) (get_or offsets 2 []) refl x
offset_lt x (suc (suc (suc zero))) h = all_below_at 64 (omega arith) (get_or offsets 3 []) refl x
offset_lt x (suc (suc (suc (suc zero)))) h = all_below_at 64 (omega arith) (get_or offsets 4 []) refl x
offset_lt x (suc (suc (suc (suc (suc y))))) h = absurd (omega arith)

module _ (s : StateArray) (w : Words s) where
  -- ---- theta

  pub parity_at : (x : ℕ) → x < 5 → get_or (parity s) x 0 ≡ bit_xor (bit_xor (bit_xor (bit_xor (lane s x 0) (lane s x 1)) (lane s x 2)) (lane s x 3)) (lane s x 4)
  unfolding parity
  parity_at x h = simp xor_row_at

  pub parity_lt : (x : ℕ) → x < 5 → get_or (parity s) x 0 < 2 ^ 64
  parity_lt x h =
      rw (parity_at x h)
      (xor_lt 64 _ _ (xor_lt 64 _ _ (xor_lt 64 _ _ (xor_lt 64 _ _ (w.word x 0 h (omega arith)) (w.word x 1 h (omega arith))) (w.word x 2 h (omega arith)))
      (w.word x 3 h (omega arith))) (w.word x 4 h (omega arith)))

  pub effect_at : (x : ℕ) → x < 5 → get_or (effect (parity s)) x 0 ≡ bit_xor (get_or (parity s) ((x + 4) % 5) 0) (rotate (get_or (parity s) ((x + 1) % 5) 0) 1)
  unfolding effect
  effect_at x h = at_five (λ k. bit_xor (get_or (parity s) ((k + 4) % 5) 0) (rotate (get_or (parity s) ((k + 1) % 5) 0) 1)) 0 x h

  pub theta_at : (x y : ℕ) → x < 5 → y < 5 → lane (theta s) x y ≡ bit_xor (lane s x y) (get_or (effect (parity s)) x 0)
  unfolding theta
  theta_at x y hx hy = by_row (λ k. xor_row (get_or s k []) (effect (parity s))) x y hy ∙ xor_row_at (get_or s y []) (effect (parity s)) x hx

  pub theta_words : Words (theta s)
  theta_words = record {
    word = λ x y hx hy.
        rw (theta_at x y hx hy, effect_at x hx)
        (xor_lt 64 _ _ (w.word x y hx hy)
        (xor_lt 64 _ _ (parity_lt ((x + 4) % 5) (omega arith)) (rotate_lt _ 1 (parity_lt ((x + 1) % 5) (omega arith)) (omega arith))));
  }

  -- ---- rho

  pub rho_at : (x y : ℕ) → x < 5 → y < 5 → lane (rho s) x y ≡ rotate (lane s x y) (lane offsets x y)
  unfolding rho rho_row
  rho_at x y hx hy =
      by_row (λ k. rho_row (get_or s k []) (get_or offsets k [])) x y hy
      ∙ at_five (λ k. rotate (get_or (get_or s y []) k 0) (get_or (get_or offsets y []) k 0)) 0 x hx

  pub rho_words : Words (rho s)
  rho_words = record { word = λ x y hx hy. rw (rho_at x y hx hy) (rotate_lt (lane s x y) (lane offsets x y) (w.word x y hx hy) (offset_lt x y hy)) }

  -- ---- pi

  pub pi_at : (x y : ℕ) → x < 5 → y < 5 → lane (pi s) x y ≡ lane s ((x + 3 * y) % 5) x
  pi_at x y hx hy = by_row (λ k. five (λ j. lane s ((j + 3 * k) % 5) j)) x y hy ∙ at_five (λ j. lane s ((j + 3 * y) % 5) j) 0 x hx

  pub pi_words : Words (pi s)
  pi_words = record { word = λ x y hx hy. rw (pi_at x y hx hy) (w.word ((x + 3 * y) % 5) x (omega arith) hx) }

  -- ---- chi

  pub chi_at : (x y : ℕ) → x < 5 → y < 5 → lane (chi s) x y ≡ bit_xor (lane s x y) (bit_and (complement (lane s ((x + 1) % 5) y)) (lane s ((x + 2) % 5) y))
  unfolding chi chi_row
  chi_at x y hx hy =
      by_row (λ k. chi_row (get_or s k [])) x y hy
      ∙ at_five (λ k. bit_xor (lane s k y) (bit_and (complement (lane s ((k + 1) % 5) y)) (lane s ((k + 2) % 5) y))) 0 x hx

  pub chi_words : Words (chi s)
  chi_words = record {
    word = λ x y hx hy.
        rw (chi_at x y hx hy)
        (xor_lt 64 _ _ (w.word x y hx hy) (and_lt 64 _ _ (complement_lt (lane s ((x + 1) % 5) y)) (w.word ((x + 2) % 5) y (omega arith) hy)));
  }

  -- ---- iota

  module _ (c : ℕ) (hc : c < 2 ^ 64) (rows : 0 < length s) (columns : 0 < length (get_or s 0 [])) where
    pub iota_there : lane (iota s c) 0 0 ≡ bit_xor (lane s 0 0) c
    unfolding iota
    iota_there =
        ap (λ (r : Row). get_or r 0 0) (get_or-set_same s 0 (set (get_or s 0 []) 0 (bit_xor (lane s 0 0) c)) [] rows)
        ∙ get_or-set_same (get_or s 0 []) 0 (bit_xor (lane s 0 0) c) 0 columns

    pub iota_row : (x : ℕ) → lane (iota s c) (suc x) 0 ≡ lane s (suc x) 0
    unfolding iota
    iota_row x =
        ap (λ (r : Row). get_or r (suc x) 0) (get_or-set_same s 0 (set (get_or s 0 []) 0 (bit_xor (lane s 0 0) c)) [] rows)
        ∙ get_or-set_other (get_or s 0 []) 0 (suc x) (bit_xor (lane s 0 0) c) 0 (λ e. omega arith)

    pub iota_else : (x y : ℕ) → lane (iota s c) x (suc y) ≡ lane s x (suc y)
    unfolding iota
    iota_else x y = ap (λ (r : Row). get_or r x 0) (get_or-set_other s 0 (suc y) (set (get_or s 0 []) 0 (bit_xor (lane s 0 0) c)) [] (λ e. omega arith))

    pub iota_words : Words (iota s c)
    iota_words = record { word = word }
      where
        word : (x y : ℕ) → x < 5 → y < 5 → lane (iota s c) x y < 2 ^ 64
        word zero zero hx hy = rw iota_there (xor_lt 64 _ _ (w.word 0 0 hx hy) hc)
        word (suc x) zero hx hy = rw (iota_row x) (w.word (suc x) 0 hx hy)
        word x (suc y) hx hy = rw (iota_else x y) (w.word x (suc y) hx hy)

-- the constants are below 2^64
pub constant_lt : (n : ℕ) → get_or constants n 0 < 2 ^ 64
unfolding all_below
constant_lt n = all_below_at (2 ^ 64) (omega arith) constants refl n

-- ---- a round, and all of them

chi_rows : (s : StateArray) → 0 < length (chi s)
unfolding chi
chi_rows s = omega arith

chi_columns : (s : StateArray) → 0 < length (get_or (chi s) 0 [])
unfolding chi chi_row
chi_columns s = omega arith

-- what iota is given in a round
pub record BeforeIota (s : StateArray) : Type 0 where
  pub words : Words (chi (pi (rho (theta s))))
  pub rows : 0 < length (chi (pi (rho (theta s))))
  pub columns : 0 < length (get_or (chi (pi (rho (theta s)))) 0 [])

pub before_iota : (s : StateArray) → Words s → BeforeIota s
before_iota s w = record {
  words = chi_words (pi (rho (theta s))) (pi_words (rho (theta s)) (rho_words (theta s) (theta_words s w)));
  rows = chi_rows (pi (rho (theta s)));
  columns = chi_columns (pi (rho (theta s)));
}

pub round_words : (s : StateArray) → Words s → (c : ℕ) → c < 2 ^ 64 → Words (round s c)
unfolding round
round_words s w c hc = let b = before_iota s w in iota_words (chi (pi (rho (theta s)))) b.words c hc b.rows b.columns

pub rounds_words : (n : ℕ) (s : StateArray) → Words s → Words (rounds n s)
unfolding rounds
rounds_words zero s w = w
rounds_words (suc n) s w = round_words (rounds n s) (rounds_words n s w) (get_or constants n 0) (constant_lt n)
