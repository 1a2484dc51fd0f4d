-- `test_ring::modular_reduce` meets its contract. Assumes nothing.
use mathlib.Core.Path.{◌≡◌, ap, ◌∙◌}
use Prim.Native.Nat.{ℕ, ◌*◌}
use native.Mathlib.Omega.{arith}
use borrow.Author.Tests.{lt-leb, ne_eqb}
use mir.Syntax.{w64}
use mir.ValLaws.{to_z-of_z}
use Rattle.codec.proofs.Replies.{order}
use Rattle.codec.specs.Reply.{first, leaves}
use Rattle.modular.proofs.Centring.{remainder_lt}
use Rattle.modular.specs.Modulo.{remainder}
use Rattle.test_ring.specs.Calls.{answer}
use Rattle.test_ring.proofs.modular_reduce.Goals.{After-reduce}
use Rattle.test_ring.proofs.modular_reduce.Goals as goal

value : (c : After-reduce) → c.reduce.result ≡ remainder c.args.q c.args.e
value c = c.reduce.ensures ∙ ap (remainder c.args.q) (to_z-of_z w64 c.args.e c.ranges.e)

pub overflow_mul-result : goal.overflow_mul-result
overflow_mul-result c = let l = remainder_lt c.args.q c.args.e (omega arith) in omega (arith, value (goal.at.overflow_mul-result c).After-reduce)

pub returns : goal.returns
unfolding answer first leaves
returns c =
    let a = c.args in
    rw (ne_eqb a.q 0 c.if-q-eq0.false, lt-leb 72057594037927936 a.q c.if-q-ge72057594037927936.false) (ap (λ (v : ℕ). 256 * v) (value (goal.at.returns c).After-reduce))

pub returns-then-q-eq0 : goal.returns-then-q-eq0
unfolding answer first leaves
returns-then-q-eq0 c = grind (arith, order, c.then-q-eq0.either)
