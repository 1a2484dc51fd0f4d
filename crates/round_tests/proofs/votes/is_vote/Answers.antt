-- `votes::is_vote` meets its contract. Assumes nothing.
use mathlib.Core.Path.{sym, ap₂, ◌∙◌}
use Prim.Native.Nat.{ℕ}
use native.Mathlib.Omega.{arith}
use borrow.Author.Count.{below_more}
use Rattle.modular.specs.Modulo.{centre, remainder}
use Rattle.ring.specs.Slots.{poly}
use Rattle.sheet_numbers.specs.Plain as numbers
use Rattle.bgv.specs.Scheme.{plaintext}
use Rattle.round.proofs.Compared.{other_claim, same_claim}
use Rattle.round_tests.proofs.votes.is_vote.Goals as goal

pub residue-requires : goal.residue-requires
unfolding poly
residue-requires c = let p = c.requires in (rw c.read64-x.ensures (p.3.at c.loop-i.i (omega arith)), p.0.in_range.modulus_high, omega (arith, p.0.in_range.plain_low, c.plain-p.ensures))

pub returns-then-from-residue : goal.returns-then-from-residue
unfolding plaintext poly
returns-then-from-residue c =
    let a = c.args in
    let p = c.requires in
    other_claim a.k.ring a.claim.now (plaintext a.k.modulus (numbers.plain a.k) (poly a.work.now)) p.2 c.loop-i.i (omega arith)
    (λ e. c.if-from-residue.true (c.from.ensures ∙ e ∙ sym (c.residue.ensures ∙ ap₂ (λ (x y : ℕ). remainder x (centre a.k.modulus y)) c.plain-p.ensures c.read64-x.ensures)))

pub loop-i-preserved : goal.loop-i-preserved
unfolding plaintext poly
loop-i-preserved c =
    let a = c.args in
    below_more _ _ c.loop-i.invariant (sym c.from.ensures ∙ c.if-from-residue.false ∙ c.residue.ensures ∙ ap₂ (λ (x y : ℕ). remainder x (centre a.k.modulus y)) c.plain-p.ensures c.read64-x.ensures)

pub returns : goal.returns
returns c =
    let a = c.args in
    let p = c.requires in
    same_claim a.k.ring a.claim.now (plaintext a.k.modulus (numbers.plain a.k) (poly a.work.now)) p.2 (λ i l. c.loop-i.invariant i (omega arith))
