-- `write_answer1` meets its contract. Assumes nothing.
use mathlib.Core.Path.{◌≡◌, ap, ◌∙◌}
use Prim.Native.Nat.{ℕ, ◌*◌}
use native.Mathlib.Omega.{arith}
use lib.ListN.{length, length-append}
use Rattle.codec.specs.Bytes.{Bytes, part, put, words}
use Rattle.codec.proofs.Laws.{length_part, part_append, written_length}
use Rattle.vector.specs.Vector.{vector}
use Rattle.vector.specs.Permutation.{entries, apply, extend}
use Rattle.vector.proofs.Vectors.{length_apply, length_entries}
use Rattle.vector.proofs.Counts.{permutes_below}
use Rattle.stern.proofs.Gathered.{permuted_length}
use Rattle.stern_answers.proofs.WrittenParts.{three_parts}
use Rattle.stern_answers.proofs.writing.write_answer1.Goals as goal

-- P(extended), 42n bytes
w-length : (n L : ℕ) (p x : Bytes) → length p ≡ 168 * n → length (apply (entries p) (extend L x)) ≡ 42 * n
w-length n L p x l = length_apply (entries p) (extend L x) ∙ omega (arith, length_entries p)

pub gather_extended-requires : goal.gather_extended-requires
gather_extended-requires c =
    let a = c.args in
    let p = c.requires in
    let m = p.2 in
    let l = m.size_x in
    let h = p.0 in record {
      n_value = (omega arith, c.missing-minus.ensures.0, c.missing-minus.ensures.1);
      p_len = (omega (arith, m.size_p), omega (arith, p.1), permutes_below (42 * a.n) (entries a.p.now) m.permutes);
    }

pub gather-requires : goal.gather-requires
gather-requires c =
    let a = c.args in
    let p = c.requires in
    let m = p.2 in
    let h = p.0 in
    let l = written_length a.out.now c.gather_extended.new.out _ 0 (omega (arith, p.1, w-length a.n (length a.x.now) a.p.now a.x.now m.size_p)) c.gather_extended.ensures in
    (omega (arith, m.size_p), omega (arith, m.size_r), omega (arith, l, p.1), permutes_below (42 * a.n) (entries a.p.now) m.permutes)

pub returns : goal.returns
returns c =
    let a = c.args in
    let p = c.requires in
    let m = p.2 in
    let s = a.salts.now in
    let w = apply (entries a.p.now) (extend (14 * a.n) a.x.now) in
    let t = words (apply (entries a.p.now) (vector a.r.now)) in
    let d2 = c.gather.new.work in
    let lw = w-length a.n (14 * a.n) a.p.now a.x.now m.size_p in
    let lt = permuted_length a.n a.p.now (vector a.r.now) m.size_p in
    let l1 = length_part s 32 32 (omega (arith, m.size_salts)) in
    let l2 = length_part s 64 32 (omega (arith, m.size_salts)) in
    three_parts a.out.now c.gather_extended.new.out d2 _ w t (part s 32 32) (part s 64 32) (42 * a.n) (378 * a.n) (omega (arith, lw)) (omega (arith, lw, lt)) (c.gather_extended.ensures ∙ ap (λ (k : ℕ). put a.out.now 0 (apply (entries a.p.now) (extend k a.x.now))) m.size_x) c.gather.ensures
    (omega (arith, p.1, lw, lt, length-append (part s 32 32) (part s 64 32))) (c.copy.ensures ∙ ap (put d2 (378 * a.n)) (part_append s 32 32 32))
