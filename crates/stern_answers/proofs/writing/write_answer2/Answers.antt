-- `write_answer2` meets its contract. Assumes nothing.
use mathlib.Core.Path.{◌≡◌, ap, ◌∙◌}
use Prim.Native.Nat.{ℕ, ◌+◌, ◌*◌}
use native.Mathlib.Omega.{arith}
use lib.ListN.{length}
use Rattle.codec.specs.Bytes.{Bytes, part, put, words}
use Rattle.codec.proofs.Laws.{length_part}
use Rattle.codec.proofs.Numbers.{length_words}
use Rattle.vector.specs.Vector.{vector, ternaries, add}
use Rattle.vector.specs.Permutation.{extend}
use Rattle.vector.proofs.Vectors.{length_add, length_vector, length_ternaries}
use Rattle.vector.proofs.Balance.{length_extend_le}
use Rattle.stern.specs.Argument.{masked}
use Rattle.stern.specs.Shortness.{drawn_of}
use Rattle.stern_answers.proofs.WrittenParts.{four_parts}
use Rattle.stern_answers.proofs.writing.write_answer2.Goals as goal

-- extended + R, 336n bytes
u-length : (q n L : ℕ) (x r : Bytes) → length x ≡ L → L ≡ 14 * n → length r ≡ 336 * n → length (words (add q (ternaries q (extend L x)) (vector r))) ≡ 336 * n
u-length q n L x r lx e lr =
    length_words (add q (ternaries q (extend L x)) (vector r))
    ∙ omega (arith, length_add q (ternaries q (extend L x)) (vector r) (omega (arith, length_vector r, length_ternaries q (extend L x), length_extend_le L x lx)), length_vector r)

pub returns : goal.returns
returns c =
    let a = c.args in
    let p = c.requires in
    let m = p.4 in
    let s = a.salts.now in
    let u = words (masked a.q (14 * a.n) a.x.now (drawn_of a.p.now a.r.now s)) in
    let lu = u-length a.q a.n (14 * a.n) a.x.now a.r.now m.size_x (omega arith) m.size_r in
    let l1 = length_part s 0 32 (omega (arith, m.size_salts)) in
    let l3 = length_part s 64 32 (omega (arith, m.size_salts)) in
    four_parts a.out.now c.copy.new.d c.mask.new.out c.copy-2.new.d a.p.now u (part s 0 32) (part s 64 32) (168 * a.n) (504 * a.n) (omega (arith, m.size_p)) (omega (arith, m.size_p, lu)) c.copy.ensures
    (c.mask.ensures ∙ ap (λ (k : ℕ). put c.copy.new.d (168 * a.n) (words (masked a.q k a.x.now (drawn_of a.p.now a.r.now s)))) m.size_x)
    _ (504 * a.n + 32) (omega (arith, m.size_p, lu, l1)) (omega (arith, p.3, m.size_p, lu, l1, l3)) c.copy-2.ensures c.copy-3.ensures
