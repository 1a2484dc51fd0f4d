-- `test_ring::modular_divide` meets its contract. Assumes nothing.
use mathlib.Core.Path.{ap}
use Prim.Native.Nat.{ℕ, ◌+◌, ◌*◌, ◌%◌}
use native.Mathlib.Nat.{mul-le-mul}
use native.Mathlib.Omega.{arith}
use borrow.Author.Tests.{le-ltb, lt-leb, eq-eqb}
use Rattle.codec.proofs.Replies.{order}
use Rattle.codec.specs.Reply.{first, leaves}
use Rattle.modular.proofs.Division.{reaches_coprime}
use Rattle.test_ring.specs.Calls.{answer, divide_reply}
use Rattle.test_ring.proofs.modular_divide.Goals as goal

pub overflow_mul-q : goal.overflow_mul-q
overflow_mul-q c = omega (arith, mul-le-mul {n₁ = c.args.q} {m₁ = c.multiplier-m.result} {n₂ = 72057594037927936} {m₂ = 250} (omega arith) (omega arith))

pub overflow_add-q : goal.overflow_add-q
overflow_add-q c = omega (arith, mul-le-mul {n₁ = c.args.q} {m₁ = c.multiplier-m.result} {n₂ = 72057594037927936} {m₂ = 250} (omega arith) (omega arith))

pub returns-then-q-m-ne0 : goal.returns-then-q-m-ne0
unfolding divide_reply answer first leaves
returns-then-q-m-ne0 c = rw (← c.multiplier-m.ensures.0) (search order)

pub divide-requires : goal.divide-requires
divide-requires c =
    let a = c.args in
    let m = c.multiplier-m in
    (omega arith, omega arith, omega arith, omega arith, reaches_coprime a.q a.p m.result c.if-q-m-ne0.false, m.ensures.0, m.ensures.1)

pub returns : goal.returns
unfolding divide_reply answer first leaves
returns c =
    let a = c.args in
    let m = c.multiplier-m in
    rw (← m.ensures.0, le-ltb a.p 2 c.if-p-lt2.false, le-ltb 251 a.p c.if-p-gt251.false, lt-leb 72057594037927936 a.q c.if-q-ge72057594037927936.false, lt-leb a.q a.x c.if-q-x.false, eq-eqb ((1 + a.q * m.result) % a.p) 0 c.if-q-m-ne0.false) (ap (λ (v : ℕ). 256 * v) c.divide.ensures.0)

pub returns-then-p-lt2 : goal.returns-then-p-lt2
unfolding divide_reply answer first leaves
returns-then-p-lt2 c = grind (arith, order, c.then-p-lt2.either)
