-- `find` meets its contract. Assumes nothing.
use mathlib.Core.Path.{◌≡◌, sym, ap, ◌∙◌}
use mathlib.Core.Logic.{◌≢◌}
use Prim.Native.Nat.{◌-◌, ◌*◌}
use native.Mathlib.Omega.{arith}
use lib.ListN.{length}
use Rattle.stern.proofs.Answered.{lent_range, lent_length}
use Rattle.round.proofs.Cut.{keys_lent}
use Rattle.round.proofs.Wiped.{still, wiped}
use Rattle.round_collision.specs.declared.Digest.{Digest}
use Rattle.round_collision.specs.declared.Digest.TheVariants.{First, Second, Third}
use Rattle.round_collision.specs.Digests.{number_of_digest, digest_or_none}
use Rattle.round_search.proofs.Outcome.{finds_digest, finds_solved}
use Rattle.round_search.proofs.find.Goals as goal

-- no digest has the number 0
number_above : (d : Digest) → number_of_digest d ≢ 0
number_above First = λ e. omega arith
number_above Second = λ e. omega arith
number_above Third = λ e. omega arith

pub collision-found-requires : goal.collision-found-requires
collision-found-requires c =
    let a = c.args in
    let p = c.requires in
    let n = a.k.ring in (
      record {
        keys = keys_lent a.k a.public.now p.0;
        sized_work = p.1;
        sized_room = omega (arith, p.2);
        sized_pairs = lent_length a.head.now (16 * n) (80 * n - 16 * n) (64 * n) (omega arith) (omega (arith, p.3));
        below_pairs = lent_range a.k.modulus a.head.now (16 * n) (80 * n - 16 * n) (64 * n) (omega arith) p.6;
      },
      p.7,
    )

pub returns-in-Some : goal.returns-in-Some
returns-in-Some c =
    let a = c.args in
    let e = c.collision-found.ensures in
    (finds_digest a.k a.public.now a.head.now a.opening0.now a.opening1.now a.answer1.now a.answer2.now a.answer3.now (ap digest_or_none (sym c.in-Some.is) ∙ e.found) (number_above c.in-Some.digest) (wiped c.requires.2 e.cleared_room), e.cleared_work)

pub solve-found-requires : goal.solve-found-requires
solve-found-requires c =
    let a = c.args in
    let p = c.requires in
    let r = p.7 in
    let n = a.k.ring in
    let e = c.collision-found.ensures in
    let l : 504 * n - 168 * n ≡ 336 * n = omega arith in
    let k = p.0.numbers in (
      k.in_range.ring_high,
      k.in_range.modulus_low,
      k.in_range.modulus_high,
      still e.cleared_work ∙ p.1,
      still e.cleared_room ∙ p.2,
      p.4,
      p.5,
      record {
        sized_u = lent_length a.answer2.now (168 * n) (504 * n - 168 * n) (336 * n) l (omega (arith, r.sized2));
        sized_r = lent_length a.answer3.now (168 * n) (504 * n - 168 * n) (336 * n) l (omega (arith, r.sized3));
        below_u = lent_range a.k.modulus a.answer2.now (168 * n) (504 * n - 168 * n) (336 * n) l r.below2;
        below_r = lent_range a.k.modulus a.answer3.now (168 * n) (504 * n - 168 * n) (336 * n) l r.below3;
      },
    )

pub returns : goal.returns
returns c =
    let a = c.args in
    let e = c.collision-found.ensures in
    let f = c.solve-found.ensures in (
      finds_solved a.k a.public.now a.head.now a.opening0.now a.opening1.now a.answer1.now a.answer2.now a.answer3.now e.found (ap digest_or_none c.in_default.is) f.0 f.1.0,
      wiped {m = length c.args.work.now} (f.1.1 ∙ still e.cleared_work) c.wipe.ensures,
    )
