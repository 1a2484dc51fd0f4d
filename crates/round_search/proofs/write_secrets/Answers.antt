-- `round_search::write_secrets` meets its contract. Assumes nothing.
use mathlib.Core.Path.{◌≡◌, refl, sym, ap, ◌∙◌}
use Prim.Native.Nat.{ℕ, ◌*◌}
use native.Mathlib.Nat.{zero-add}
use native.Mathlib.Omega.{arith}
use lib.ListN.{length, set, length-set}
use lib.Seq.{paste, paste-zero}
use Rattle.codec.proofs.Laws.{paste_all}
use Rattle.codec.proofs.Lists.{length_list}
use Rattle.vector.proofs.Gathers.{paste_more}
use Rattle.round.specs.Extractor.{ternary_bytes}
use Rattle.round_search.specs.Internal.{unknowns_of, from}
use Rattle.round_search.proofs.Unknowns.{secret_at}
use Rattle.round_search.proofs.write_secrets.Goals as goal

pub loop-i-init : goal.loop-i-init
loop-i-init c =
    let a = c.args in
    (refl, paste-zero a.out.now 0 (ternary_bytes a.q (2 * a.n) (from (unknowns_of a.q a.n a.u.now a.r.now) 0)))

pub loop-i-preserved : goal.loop-i-preserved
loop-i-preserved c =
    let a = c.args in
    let l = c.loop-i in
    let z = unknowns_of a.q a.n a.u.now a.r.now in
    let s = ternary_bytes a.q (2 * a.n) (from z 0) in
    let k : length s ≡ 2 * a.n = length_list (2 * a.n) _ in (
      length-set l.out _ _ ∙ l.invariant.0,
      ap (λ (i : ℕ). set l.out i c.to_ternary.result) (sym (zero-add l.i))
          ∙ paste_more a.out.now l.out 0 s l.i _ l.invariant.1 (omega arith) (omega arith) (secret_at a.q (2 * a.n) z l.i _ _ (omega arith) c.unknown.ensures.0 c.unknown.ensures.1 c.to_ternary.ensures),
    )

pub shape_of-out : goal.shape_of-out
shape_of-out c = c.loop-i.invariant.0

pub returns : goal.returns
returns c =
    let a = c.args in
    let l = c.loop-i in
    let s = ternary_bytes a.q (2 * a.n) (from (unknowns_of a.q a.n a.u.now a.r.now) 0) in
    let k : length s ≡ 2 * a.n = length_list (2 * a.n) _ in
    let e : l.i ≡ length s = omega arith in
    l.invariant.1 ∙ ap (paste a.out.now 0 s) e ∙ paste_all a.out.now 0 s
