-- `round_shares::ballot_at` meets its contract. Assumes nothing.
use Prim.Native.Nat.{◌+◌, ◌-◌, ◌*◌}
use native.Mathlib.Omega.{arith}
use Rattle.sheet_numbers.specs.Plain.{plain}
use Rattle.stern.proofs.Answered.{lent_length}
use Rattle.round.proofs.Compared.{lent_public, first_below, second_below}
use Rattle.round_shares.proofs.ShareAlgebra.{ballot_placed}
use Rattle.round_shares.proofs.ballot_at.Goals as goal

pub write_ballot-requires : goal.write_ballot-requires
write_ballot-requires c =
    let a = c.args in
    let p = c.requires in
    let s = p.1 in
    let b = p.3 in
    let n = a.k.ring in
    let q = a.k.modulus in
    let x = a.at in
    let i = a.sent in (
      p.0,
      s,
      lent_public n q a.lent.ballots.now (x + 4) (x + 4 + 8 * n - (x + 4)) (omega arith) (omega (arith, b.ballot_ends)) s.ring_low s.ring_high s.modulus_low s.modulus_high (first_below n q _ b.below),
      lent_public n q a.lent.ballots.now (x + 4 + 8 * n) (x + 4 + 16 * n - (x + 4 + 8 * n)) (omega arith) (omega (arith, b.ballot_ends)) s.ring_low s.ring_high s.modulus_low s.modulus_high (second_below n q a.lent.ballots.now (x + 4) b.below),
      lent_length a.lent.secrets.now 0 (n - 0) n (omega arith) (omega (arith, p.2)),
      lent_length a.lent.masks0.now i (i + 8 * n - i) (8 * n) (omega arith) b.ends0,
      lent_length a.lent.masks1.now i (i + 8 * n - i) (8 * n) (omega arith) b.ends1,
      p.4,
    )

pub returns : goal.returns
returns c =
    let a = c.args in
    let w = c.write_ballot.ensures in
    let e = ballot_placed a.k.modulus a.k.ring (plain a.k) a.at a.sent a.claim a.lent.secrets.now a.lent.s0.now a.lent.masks0.now a.lent.masks1.now a.lent.ballots.now c.requires.3.ballot_ends a.shares0.now a.shares1.now a.claims.now w.shares0 w.shares1 w.claims in
    record { shares0 = e.0; shares1 = e.1; claims = e.2; kept = w.kept }
