-- `round_search::vanishes` meets its contract. Assumes nothing.
use mathlib.Core.Path.{◌≡◌, ap, ◌∙◌}
use Prim.Native.Nat.{ℕ, ◌+◌, ◌-◌, ◌*◌}
use native.Mathlib.Omega.{arith}
use lib.ListN.{length, length-replicate}
use Rattle.codec.specs.Bytes.{zeros, same}
use Rattle.stern.proofs.Answered.{lent_length}
use Rattle.stern.proofs.Gathered.{head_lent, head_length_lem}
use Rattle.round_search.specs.Internal.{unknowns_of}
use Rattle.round_search.proofs.Unknowns.{lent_excess}
use Rattle.round_search.proofs.vanishes.Goals as goal

pub write_excess-requires : goal.write_excess-requires
write_excess-requires c =
    let a = c.args in
    let p = c.requires in
    let m = a.at + 3 * a.n - a.at in
    (p.0, p.1, p.2, lent_length a.opening0.now a.at m (3 * a.n) (omega arith) p.3, lent_length a.opening1.now a.at m (3 * a.n) (omega arith) p.4, p.5, p.6, p.7)

pub returns : goal.returns
returns c =
    let a = c.args in
    let p = c.requires in
    let h = p.0 in
    let z : length (zeros (24 * a.n)) ≡ 24 * a.n = length-replicate {A = ℕ} (24 * a.n) 0 in (
      c.equal.ensures ∙ ap (same c.write_excess.new.out) (head_lent a.work.now _ (zeros (24 * a.n)) (24 * a.n) z (omega (arith, p.8)) c.clear.ensures),
      (
        lent_excess a.q a.n a.opening0.now a.opening1.now (unknowns_of a.q a.n a.u.now a.r.now) a.at (a.at + 3 * a.n - a.at) a.first (omega arith) c.write_excess.ensures,
        head_length_lem a.work.now _ (zeros (24 * a.n)) (24 * a.n) z (omega (arith, p.8)) c.clear.ensures,
      ),
    )
