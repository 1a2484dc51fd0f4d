-- `round_write::answer_at` meets its contract. Assumes nothing.
use mathlib.Core.Path.{◌≡◌, ap, ◌∙◌}
use Prim.Native.Nat.{◌+◌, ◌-◌, ◌*◌}
use native.Mathlib.Omega.{arith}
use lib.ListN.{length}
use Rattle.codec.specs.Bytes.{put}
use Rattle.codec.proofs.Laws.{put_between}
use Rattle.stern.specs.Argument.{Drawn}
use Rattle.stern.specs.Shortness.{honest_answer}
use Rattle.stern.proofs.Answered.{lent_length}
use Rattle.round_head.proofs.Drawing.{repetition_lent, drawn_lent}
use Rattle.round_write.proofs.answer_at.Goals as goal

pub write_answer-requires : goal.write_answer-requires
write_answer-requires c =
    let a = c.args in
    let p = c.requires in
    let r = a.vector in
    let s = a.salt in
    let t = a.permutation in (
      p.0,
      p.1,
      p.2,
      lent_length a.answers.now a.at (a.at + a.size - a.at) a.size (omega arith) p.4 ∙ p.3,
      repetition_lent a.q a.n a.lent.secrets.now a.lent.vectors.now a.lent.permutations.now a.lent.salts.now r t s (r + 336 * a.n - r) (t + 168 * a.n - t) (s + 96 - s) (omega arith) (omega arith) (omega arith) c.requires.8,
    )

pub returns : goal.returns
returns c =
    let a = c.args in
    let p = c.requires in
    let r = a.vector in
    let s = a.salt in
    let t = a.permutation in
    let w = c.write_answer in
    let y = a.answers.now in
    let long : length w.new.out ≡ a.at + a.size - a.at = w.auto.out ∙ lent_length y a.at (a.at + a.size - a.at) (a.at + a.size - a.at) (omega arith) (omega (arith, p.4)) in
    put_between y w.new.out a.at (a.at + a.size) (omega arith) long
    ∙ ap (put y a.at) (w.ensures ∙ ap (λ (x : Drawn). honest_answer a.q a.n a.lent.secrets.now x a.challenge)
    (drawn_lent a.q a.n a.lent.secrets.now a.lent.vectors.now a.lent.permutations.now a.lent.salts.now r t s (r + 336 * a.n - r) (t + 168 * a.n - t) (s + 96 - s) (omega arith) (omega arith) (omega arith)))
