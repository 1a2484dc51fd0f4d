-- `test_each` meets its contract. Assumes nothing.
use mathlib.Core.Path.{ap, ◌∙◌}
use mathlib.Core.List.{◌++◌}
use Rattle.codec.specs.Bytes.{zeros}
use Rattle.codec.specs.Refusal.{as_reply}
use Rattle.sheet_numbers.specs.Plain.{noise_bound_of, mask_bound_of}
use Rattle.round.specs.Producer.{mask_tests, permutation_tests, noise_tests}
use Rattle.round_material.proofs.Sequence.{both_decided}
use Rattle.round_material.proofs.test_each.Goals as goal

pub test_noise-quiet-requires : goal.test_noise-quiet-requires
test_noise-quiet-requires c = let p = c.requires in (p.0, p.2, c.test_permutations-permuting.ensures.1 ∙ p.1, p.3.secrets, p.3.ballots, p.3.below)

pub returns : goal.returns
returns c =
    let a = c.args in
    let ms = mask_tests a.k.ring (mask_bound_of a.k) a.count a.lent.masks0.now a.lent.masks1.now in
    let ps = permutation_tests a.k.ring a.k.repeats a.lent.permutations.now in
    let ns = noise_tests a.k.modulus a.k.ring (noise_bound_of a.k) a.count a.lent.secrets.now a.lent.ballots.now in
    let m = c.test_masks-masked in
    let p = c.test_permutations-permuting in
    let v = c.test_noise-quiet in
    let d = c.and in (
      ap as_reply c.and-2.ensures ∙ both_decided ms (ps ++ ns) m.result d.result m.ensures (ap as_reply d.ensures ∙ both_decided ps ns p.result v.result p.ensures.0 v.ensures.0),
      c.wipe.ensures ∙ ap zeros (v.ensures.1 ∙ p.ensures.1),
    )
