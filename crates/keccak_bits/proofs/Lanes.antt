-- The permutation on lanes is the permutation on bits, FIPS 202's section 3 as it is written. Assumes nothing.
use mathlib.Core.Path.{◌≡◌, refl, ◌∙◌}
use Prim.Native.Nat.{ℕ, zero, suc, ◌+◌, ◌-◌, ◌*◌, ◌%◌, ◌^◌, ◌<◌}
use native.Mathlib.Omega.{arith}
use lib.ListN.{get_or}
use Rattle.keccak.specs.Keccak as lanes
use Rattle.keccak.specs.Keccak.{StateArray, lane, offsets, constants, keccak}
use Rattle.keccak_bits.specs.Bits.{Bits, column_parity, theta, rho, pi, chi, iota, round, rounds}
use Rattle.keccak_bits.specs.Internal.{view}
use Rattle.keccak.proofs.Lanes.{Words, constant_lt, theta_words, rho_words, pi_words, before_iota, rounds_words}
use Rattle.keccak_bits.proofs.Steps.{theta_bits, rho_bits, pi_bits, chi_bits, iota_bits}

-- two state arrays agree within the state
pub record Agree (A B : Bits) : Type 0 where
  pub same : (x y z : ℕ) → x < 5 → y < 5 → z < 64 → A x y z ≡ B x y z

pub chain : {A B C : Bits} → Agree A B → Agree B C → Agree A C
chain f g = record { same = λ x y z hx hy hz. f.same x y z hx hy hz ∙ g.same x y z hx hy hz }

-- ---- a step mapping goes by the bits of the state

module _ {A B : Bits} (e : Agree A B) where
  parity_agree : (x z : ℕ) → x < 5 → z < 64 → column_parity A x z ≡ column_parity B x z
  unfolding column_parity
  parity_agree x z hx hz =
      rw (e.same x 0 z hx (omega arith) hz, e.same x 1 z hx (omega arith) hz, e.same x 2 z hx (omega arith) hz, e.same x 3 z hx (omega arith) hz, e.same x 4 z hx (omega arith) hz)

  theta_agree : Agree (theta A) (theta B)
  unfolding theta
  theta_agree = record {
    same = λ x y z hx hy hz.
        rw (e.same x y z hx hy hz, parity_agree ((x + 4) % 5) z (omega arith) hz, parity_agree ((x + 1) % 5) ((z + 63) % 64) (omega arith) (omega arith));
  }

  rho_agree : Agree (rho A) (rho B)
  unfolding rho
  rho_agree = record { same = λ x y z hx hy hz. e.same x y ((z + (64 - lane offsets x y)) % 64) hx hy (omega arith) }

  pi_agree : Agree (pi A) (pi B)
  unfolding pi
  pi_agree = record { same = λ x y z hx hy hz. e.same ((x + 3 * y) % 5) x z (omega arith) hx hz }

  chi_agree : Agree (chi A) (chi B)
  unfolding chi
  chi_agree = record {
    same = λ x y z hx hy hz. rw (e.same x y z hx hy hz, e.same ((x + 1) % 5) y z (omega arith) hy hz, e.same ((x + 2) % 5) y z (omega arith) hy hz);
  }

  iota_agree : (c : ℕ) → Agree (iota A c) (iota B c)
  unfolding iota
  iota_agree c = record { same = λ x y z hx hy hz. rw (e.same x y z hx hy hz) }

round_agree : {A B : Bits} → Agree A B → (c : ℕ) → Agree (round A c) (round B c)
unfolding round
round_agree e c = iota_agree (chi_agree (pi_agree (rho_agree (theta_agree e)))) c

pub rounds_agree : {A B : Bits} (n : ℕ) → Agree A B → Agree (rounds n A) (rounds n B)
unfolding rounds
rounds_agree zero e = e
rounds_agree (suc n) e = round_agree (rounds_agree n e) (get_or constants n 0)

-- ---- a round

round_bits : (s : StateArray) → Words s → (c : ℕ) → c < 2 ^ 64 → Agree (view (lanes.round s c)) (round (view s) c)
unfolding lanes.round round
round_bits s w c hc =
    let t = lanes.theta s in
    let r = lanes.rho t in
    let p = lanes.pi r in
    let wt = theta_words s w in
    let wr = rho_words t wt in
    let wp = pi_words r wr in
    let b = before_iota s w in
    let bt : Agree (view t) (theta (view s)) = record { same = theta_bits s w } in
    let br : Agree (view r) (rho (theta (view s))) = chain (record { same = rho_bits t wt }) (rho_agree bt) in
    let bp : Agree (view p) (pi (rho (theta (view s)))) = chain (record { same = pi_bits r wr }) (pi_agree br) in
    let bc : Agree (view (lanes.chi p)) (chi (pi (rho (theta (view s))))) = chain (record { same = chi_bits p wp }) (chi_agree bp) in
    chain (record { same = λ x y z hx hy hz. iota_bits (lanes.chi p) b.words c hc b.rows b.columns x y z }) (iota_agree bc c)

-- ---- the permutation

rounds_bits : (n : ℕ) (s : StateArray) → Words s → Agree (view (lanes.rounds n s)) (rounds n (view s))
unfolding lanes.rounds rounds
rounds_bits zero s w = record { same = λ x y z hx hy hz. refl }
rounds_bits (suc n) s w =
    let c = get_or constants n 0 in
    chain (round_bits (lanes.rounds n s) (rounds_words n s w) c (constant_lt n)) (round_agree (rounds_bits n s w) c)

-- for every state of 64-bit lanes
pub keccak_bits : (s : StateArray) → Words s → Agree (view (keccak s)) (rounds 24 (view s))
unfolding keccak
keccak_bits s w = rounds_bits 24 s w
