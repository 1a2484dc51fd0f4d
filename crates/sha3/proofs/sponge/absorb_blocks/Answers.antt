-- `sponge::absorb_blocks` meets its contract. Assumes nothing.
use mathlib.Core.Path.{◌≡◌, refl, ap, ◌∙◌, subst⁻¹}
use native.Mathlib.Omega.{arith}
use Rattle.std.specs.Slice.Iter.{chunks_exact_rest}
use Rattle.keccak.specs.Keccak.{StateArray, keccak}
use Rattle.keccak.proofs.Shape.{words_shape}
use Rattle.sha3.proofs.Absorbing.{absorb_none}
use Rattle.sha3.proofs.Blocks.{Left, left_less}
use Rattle.sha3.proofs.sponge.absorb_blocks.Goals as goal

pub loop-block-init : goal.loop-block-init
loop-block-init c =
    let e : chunks_exact_rest c.into_iter-block-iterator.result ≡ c.args.m.now = cc in (
      cc,
      rw e (record { whole = c.requires; octets = λ i h. omega (arith, c.type_inv.m i); shape = words_shape _ _ c.well_formed.0; same = refl }),
    )

pub loop-block-preserved : goal.loop-block-preserved
loop-block-preserved c =
    let l = c.loop-block in
    let g = c.in-Some.ensures.steps in
    let e = c.permute-u.ensures ∙ ap keccak c.xor_block.ensures in
    (g.0 ∙ l.invariant.0, subst⁻¹ (λ (t : StateArray). Left c.args.s c.args.m.now t (chunks_exact_rest c.next.new.self)) e (left_less _ _ l.invariant.1 g.1.0 (g.1.1 ∙ l.invariant.0)))

pub returns : goal.returns
returns c =
    let l = c.loop-block in
    let g = c.in-None.ensures.steps in
    let w = l.invariant.1.whole in
    absorb_none _ l.t 0 (omega arith) ∙ l.invariant.1.same
