-- `test_sheet::polynomials` meets its contract. Assumes nothing.
use mathlib.Core.Path.{sym, ap, ◌∙◌}
use native.Mathlib.Omega.{arith}
use Rattle.codec.specs.Reply.{leaves}
use Rattle.codec.proofs.Laws.{put_whole}
use Rattle.codec.proofs.Refusals.{handed_on}
use Rattle.sheet.specs.Sheet.{reply_of}
use Rattle.sheet.proofs.Taken.{taken}
use Rattle.test_sheet.specs.Polynomials.{sheet_polynomials_reply, sheet_polynomials_out}
use Rattle.test_sheet.proofs.Answers.{refused, wrong_length, is_taken, load_taken}
use Rattle.test_sheet.proofs.polynomials.Goals as goal

pub overflow_mul-m : goal.overflow_mul-m
overflow_mul-m c = omega (arith, (taken _ (sym c.in_ok-k.ensures.0.0)).ranged.ring_high)

pub returns-then-out-m : goal.returns-then-out-m
unfolding sheet_polynomials_reply sheet_polynomials_out leaves
returns-then-out-m c =
    let a = c.args in
    let r = sym c.in_ok-k.ensures.0.0 in
    let e = wrong_length a.text.now a.out.now r c.if-out-m.true in
    (sym e, rw e)

pub slice_bounds-buffer-end : goal.slice_bounds-buffer-end
slice_bounds-buffer-end c =
    (load_taken _ _ _ (sym c.in_ok-k.ensures.0.0) c.in_ok-k.ensures.1 (omega arith)).fits

pub slice_bounds-copy-end : goal.slice_bounds-copy-end
slice_bounds-copy-end c =
    sym (load_taken _ _ _ (sym c.in_ok-k.ensures.0.0) c.in_ok-k.ensures.1 (omega arith)).size

pub copy-requires : goal.copy-requires
copy-requires c =
    let s = (load_taken _ _ _ (sym c.in_ok-k.ensures.0.0) c.in_ok-k.ensures.1 (omega arith)).size in
    omega (arith, s, c.if-out-m.false)

pub returns-in_err-k : goal.returns-in_err-k
unfolding sheet_polynomials_reply sheet_polynomials_out leaves
returns-in_err-k c =
    let a = c.args in
    let r = c.in_err-k.ensures.0 in
    let e = refused a.text.now a.out.now (sym r.0) in
    rw (handed_on c.from_residual.result c.from_residual.ensures.1) (r.1 ∙ ap reply_of (sym r.0) ∙ sym e, rw e)

pub returns : goal.returns
unfolding sheet_polynomials_reply sheet_polynomials_out leaves
returns c =
    let a = c.args in
    let r = sym c.in_ok-k.ensures.0.0 in
    let i = c.if-out-m.false in
    let e = is_taken a.text.now a.out.now r i in
    let s = load_taken a.text.now _ _ r c.in_ok-k.ensures.1 (omega arith) in
    (sym e, rw e (c.copy.ensures ∙ put_whole a.out.now _ (s.size ∙ sym i) ∙ s.head))
