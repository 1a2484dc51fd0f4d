-- `closing_of_ballots` meets its contract. The loop's invariant: the sheet's digest and the digests of the ballots passed are taken in. Assumes nothing.
use mathlib.Core.Path.{◌≡◌, ap, ◌∙◌}
use Prim.Native.Nat.{ℕ, suc, ◌+◌, ◌*◌, ◌-◌, ◌≤◌, ◌<◌}
use native.Mathlib.Nat.{mul-suc, mul-le-mul_left}
use native.Mathlib.Omega.{arith}
use borrow.Author.Rules.{rules}
use Rattle.codec.specs.Bytes.{Bytes, part}
use Rattle.sha3.specs.Sponge.{sha3}
use Rattle.hasher.specs.Internal.{updated}
use Rattle.session_digests.specs.Digests.{ballot_digests, closing_digest}
use Rattle.session_digests.proofs.Parts.{none, next, closing_done, ballots_more}
use Rattle.session_digests.proofs.closing_of_ballots.Goals as goal

-- a ballot before the last ends where or before they all do
within : (size j m : ℕ) → j < m → size * j + size ≤ size * m
within size j m h = omega (arith, mul-suc size j, mul-le-mul_left {m = suc j} {n = m} size h)

pub loop-j-init : goal.loop-j-init
unfolding ballot_digests
loop-j-init c = none c.args.sheet.now c.new.ensures c.absorbed-h.ensures

pub overflow_mul-size : goal.overflow_mul-size
overflow_mul-size c = let w = within c.args.size c.loop-j.j c.args.m (omega arith) in search rules

pub overflow_mul-size-in-loop-j : goal.overflow_mul-size-in-loop-j
overflow_mul-size-in-loop-j c = let w = within c.args.size c.loop-j.j c.args.m (omega arith) in search rules

pub overflow_add-size : goal.overflow_add-size
overflow_add-size c = let w = within c.args.size c.loop-j.j c.args.m (omega arith) in search rules

pub slice_bounds-hash-start : goal.slice_bounds-hash-start
slice_bounds-hash-start c = let w = within c.args.size c.loop-j.j c.args.m (omega arith) in search rules

pub slice_bounds-hash-end : goal.slice_bounds-hash-end
slice_bounds-hash-end c = let w = within c.args.size c.loop-j.j c.args.m (omega arith) in search rules

pub loop-j-preserved : goal.loop-j-preserved
loop-j-preserved c =
    let a = c.args in
    let h = c.loop-j.h in
    let j = c.loop-j.j in
    let d = sha3 (part a.ballots.now (a.size * j) a.size) in
    let p : a.size * j + a.size - a.size * j ≡ a.size = omega arith in
    let e = c.hash-digest.ensures ∙ ap (λ (n : ℕ). sha3 (part a.ballots.now (a.size * j) n)) p in
    let f = c.absorbed-h-in-loop-j.ensures ∙ ap (λ (s : Bytes). updated h s) e in
    rw (ballots_more a.size j a.ballots.now) (next a.sheet.now (ballot_digests a.size j a.ballots.now) d c.loop-j.invariant f)

pub returns : goal.returns
returns c =
    let a = c.args in
    let e : c.loop-j.j ≡ a.m = omega arith in
    c.finish.ensures ∙ closing_done a.sheet.now (ballot_digests a.size c.loop-j.j a.ballots.now) c.loop-j.invariant
    ∙ ap (λ (m : ℕ). closing_digest a.sheet.now (ballot_digests a.size m a.ballots.now)) e
