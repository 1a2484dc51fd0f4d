-- `ring::from_ternary` meets its contract. Assumes nothing.
use Rattle.std.proofs.Common.{◌≡◌, ℕ, ◌+◌, ◌-◌, ◌*◌, ◌/◌, ◌<◌, sym, mod-eq_of_lt, one-mul, zero-mul, eq-eqb, ne_eqb, arith}
use native.Mathlib.Decide.{ℕ_discrete}
use Rattle.modular.specs.Modulo.{remainder}
use Rattle.ring.specs.Ternary.{meaning}
use Rattle.ring.proofs.from_ternary.Goals as goal

-- 1 where b is 1, and else 0: above 0 and not above 1
abbrev is1 : ℕ → ℕ
is1 b = (b + 4611686018427387903) / 4611686018427387904 - (b + 4611686018427387902) / 4611686018427387904

-- the same of 2
abbrev is2 : ℕ → ℕ
is2 b = (b + 4611686018427387902) / 4611686018427387904 - (b + 4611686018427387901) / 4611686018427387904

told : (b q : ℕ) → b < 256 → 1 < q → is1 b + is2 b * (q - 1) ≡ remainder q (meaning b)
unfolding remainder meaning
told b q h l = go (ℕ_discrete b 1) (ℕ_discrete b 2)
  where
    go : Dec (b ≡ 1) → Dec (b ≡ 2) → is1 b + is2 b * (q - 1) ≡ remainder q (meaning b)
    go (yes e) d =
        let x : is1 b ≡ 1 = omega arith in
        let y : is2 b ≡ 0 = omega arith in
        rw (x, y, zero-mul (q - 1), eq-eqb b 1 e) (sym (mod-eq_of_lt {n = 1} {m = q} l))
    go (no e) (yes d) =
        let x : is1 b ≡ 0 = omega arith in
        let y : is2 b ≡ 1 = omega arith in
        rw (x, y, one-mul (q - 1), ne_eqb b 1 e, eq-eqb b 2 d, mod-eq_of_lt {n = 1} {m = q} l) (omega (arith, mod-eq_of_lt {n = q - 1} {m = q} (omega arith)))
    go (no e) (no d) =
        let x : is1 b ≡ 0 = omega arith in
        let y : is2 b ≡ 0 = omega arith in
        rw (x, y, zero-mul (q - 1), ne_eqb b 1 e, ne_eqb b 2 d) (sym (mod-eq_of_lt {n = 0} {m = q} (omega arith)))

pub returns : goal.returns
returns c = rw c.from-t.ensures (told c.args.b c.args.q (omega arith) (omega arith))
