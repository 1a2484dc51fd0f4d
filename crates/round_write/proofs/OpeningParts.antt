-- The opening, from the parts that are written one behind the other. Assumes nothing.
use mathlib.Core.Path.{◌≡◌, refl, ap₂, ◌∙◌}
use mathlib.Core.List.{◌++◌, append_assoc}
use Prim.Native.Nat.{ℕ, ◌+◌, ◌*◌, ◌<◌}
use native.Mathlib.Omega.{arith}
use lib.ListN.{length, length-append}
use Rattle.codec.specs.Bytes.{Bytes, part, put}
use Rattle.codec.proofs.Laws.{length_part}
use Rattle.ring.specs.Poly.{Poly}
use Rattle.ring.specs.Slots.{coefficient_bytes, poly}
use Rattle.ring.specs.Ternary.{ternary}
use Rattle.bgv.specs.Scheme.{other}
use Rattle.round.specs.Producer.{opening_bytes}
use Rattle.round.proofs.Many.{stretch}
use Rattle.round_head.proofs.HeadParts.{length_two}
use Rattle.round_head.proofs.Joining.{two_whole}

-- the halves, and the r that hide them
pub opening_whole : (q n : ℕ) (f g : Poly) (secrets d d1 d2 : Bytes) (s_at e_at i : ℕ) → length d ≡ 22 * n → length secrets ≡ 14 * n → i < 2 → s_at ≡ 2 * n + 3 * n * i → e_at ≡ 8 * n + 3 * n * i
    → d1 ≡ put d 0 (coefficient_bytes q n f ++ coefficient_bytes q n g) → d2 ≡ put d1 (16 * n) (part secrets s_at (3 * n) ++ part secrets e_at (3 * n))
    → d2 ≡ coefficient_bytes q n f ++ (coefficient_bytes q n g ++ (part secrets (2 * n + 3 * n * i) (3 * n) ++ part secrets (8 * n + 3 * n * i) (3 * n)))
opening_whole q n f g secrets d d1 d2 s_at e_at i l ls h es ee e1 e2 =
    let hs = part secrets (2 * n + 3 * n * i) (3 * n) in
    let he = part secrets (8 * n + 3 * n * i) (3 * n) in
    let up = stretch (3 * n) i 2 h in
    let lh : length (hs ++ he) ≡ 6 * n = length-append hs he ∙ omega (arith, length_part secrets (2 * n + 3 * n * i) (3 * n) (omega arith), length_part secrets (8 * n + 3 * n * i) (3 * n) (omega arith)) in
    let lt = length_two q n f g in
    two_whole d d1 d2 (coefficient_bytes q n f ++ coefficient_bytes q n g) (hs ++ he) (16 * n) (omega arith) (omega arith) e1 (e2 ∙ ap₂ (λ (x y : ℕ). put d1 (16 * n) (part secrets x (3 * n) ++ part secrets y (3 * n))) es ee)
    ∙ append_assoc (coefficient_bytes q n f) (coefficient_bytes q n g) (hs ++ he)

module _ (q n : ℕ) (secrets s0 e0 : Bytes) (side : ℕ) where
  -- as the definition says it by sides
  pub opening_lent : side ≡ 0 → coefficient_bytes q n (poly s0) ++ (coefficient_bytes q n (poly e0) ++ (part secrets (2 * n + 3 * n * 0) (3 * n) ++ part secrets (8 * n + 3 * n * 0) (3 * n)))
      ≡ opening_bytes q n secrets s0 e0 side
  opening_lent e = rw e refl

  pub opening_other : side ≡ 1
      → coefficient_bytes q n (other q (ternary q (part secrets 0 n)) (poly s0)) ++ (coefficient_bytes q n (other q (ternary q (part secrets n n)) (poly e0)) ++ (part secrets (2 * n + 3 * n * 1) (3 * n) ++ part secrets (8 * n + 3 * n * 1) (3 * n)))
      ≡ opening_bytes q n secrets s0 e0 side
  opening_other e = rw e refl
