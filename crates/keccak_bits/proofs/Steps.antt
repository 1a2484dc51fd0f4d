-- Each step mapping on lanes is the step mapping on bits. Assumes nothing.
use mathlib.Core.Path.{◌≡◌, ap, ap₂, ◌∙◌}
use Prim.Native.Nat.{ℕ, zero, suc, ◌+◌, ◌*◌, ◌%◌, ◌^◌, ◌<◌}
use native.Mathlib.Omega.{arith}
use lib.Bits.{bit_xor, bit_and}
use lib.Dec.{eqb-suc-zero}
use lib.ListN.{length, get_or}
use mathlib.Core.List.{[]}
use Rattle.keccak.specs.Keccak as lanes
use Rattle.keccak.specs.Keccak.{StateArray, lane, bit, offsets, complement, parity}
use Rattle.keccak.proofs.Bits.{bit_xor_lem, bit_and_lem, bit_complement, bit_rotate}
use Rattle.keccak.proofs.Lanes.{Words, offset_lt, parity_at, parity_lt, effect_at, theta_at, rho_at, pi_at, chi_at, iota_there, iota_row, iota_else}
use Rattle.keccak_bits.specs.Bits.{◌⊕◌, column_parity, theta, rho, pi, chi, iota}
use Rattle.keccak_bits.specs.Internal.{view}

module _ (s : StateArray) (w : Words s) where
  parity_bit : (x z : ℕ) → x < 5 → bit (get_or (parity s) x 0) z ≡ column_parity (view s) x z
  unfolding column_parity
  parity_bit x z h = rw (parity_at s w x h) (simp bit_xor_lem)

  pub theta_bits : (x y z : ℕ) → x < 5 → y < 5 → z < 64 → view (lanes.theta s) x y z ≡ theta (view s) x y z
  unfolding theta
  theta_bits x y z hx hy hz =
      let far : (x + 4) % 5 < 5 = omega arith in
      let near : (x + 1) % 5 < 5 = omega arith in
      ap (λ (l : ℕ). bit l z) (theta_at s w x y hx hy ∙ ap (bit_xor (lane s x y)) (effect_at s w x hx))
      ∙ bit_xor_lem (lane s x y) _ z
      ∙ ap (λ (b : ℕ). bit (lane s x y) z ⊕ b)
      (bit_xor_lem (get_or (parity s) ((x + 4) % 5) 0) _ z
      ∙ ap₂ (λ (a b : ℕ). a ⊕ b) (parity_bit ((x + 4) % 5) z far)
      (bit_rotate (get_or (parity s) ((x + 1) % 5) 0) 1 (parity_lt s w ((x + 1) % 5) near) (omega arith) z hz ∙ parity_bit ((x + 1) % 5) ((z + 63) % 64) near))

  pub rho_bits : (x y z : ℕ) → x < 5 → y < 5 → z < 64 → view (lanes.rho s) x y z ≡ rho (view s) x y z
  unfolding rho
  rho_bits x y z hx hy hz = ap (λ (l : ℕ). bit l z) (rho_at s w x y hx hy) ∙ bit_rotate (lane s x y) (lane offsets x y) (w.word x y hx hy) (offset_lt x y hy) z hz

  pub pi_bits : (x y z : ℕ) → x < 5 → y < 5 → z < 64 → view (lanes.pi s) x y z ≡ pi (view s) x y z
  unfolding pi
  pi_bits x y z hx hy hz = ap (λ (l : ℕ). bit l z) (pi_at s w x y hx hy)

  pub chi_bits : (x y z : ℕ) → x < 5 → y < 5 → z < 64 → view (lanes.chi s) x y z ≡ chi (view s) x y z
  unfolding chi
  chi_bits x y z hx hy hz =
      let a = lane s ((x + 1) % 5) y in
      let b = lane s ((x + 2) % 5) y in
      ap (λ (l : ℕ). bit l z) (chi_at s w x y hx hy)
      ∙ bit_xor_lem (lane s x y) (bit_and (complement a) b) z
      ∙ ap (λ (v : ℕ). bit (lane s x y) z ⊕ v)
      (bit_and_lem (complement a) b z ∙ ap (λ (v : ℕ). v * bit b z) (bit_complement a z (w.word ((x + 1) % 5) y (omega arith) hy) hz))

  module _ (c : ℕ) (hc : c < 2 ^ 64) (rows : 0 < length s) (columns : 0 < length (get_or s 0 [])) where
    pub iota_bits : (x y z : ℕ) → view (lanes.iota s c) x y z ≡ iota (view s) c x y z
    unfolding iota
    iota_bits zero zero z = ap (λ (l : ℕ). bit l z) (iota_there s w c hc rows columns) ∙ bit_xor_lem (lane s 0 0) c z
    iota_bits (suc x) zero z = ap (λ (l : ℕ). bit l z) (iota_row s w c hc rows columns x) ∙ rw (eqb-suc-zero x)
    iota_bits zero (suc y) z = ap (λ (l : ℕ). bit l z) (iota_else s w c hc rows columns zero y) ∙ rw (eqb-suc-zero y)
    iota_bits (suc x) (suc y) z = ap (λ (l : ℕ). bit l z) (iota_else s w c hc rows columns (suc x) y) ∙ rw (eqb-suc-zero x)
