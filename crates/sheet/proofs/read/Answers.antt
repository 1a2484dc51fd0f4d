-- `read` meets its contract. Assumes nothing.
use mathlib.Core.Path.{◌≡◌, sym, ap, ◌∙◌}
use mathlib.Core.Bool.{true}
use Prim.Native.Nat.{◌≤◌}
use native.Mathlib.Omega.{arith}
use borrow.Author.Tests.{not-true, not-false}
use lib.ListN.{length}
use Rattle.sheet.specs.Internal.{judged}
use Rattle.sheet_numbers.specs.declared.Numbers.{Numbers}
use Rattle.sheet.proofs.Order.{no_text, too_much, no_form, judged_is, head_broken, tail_broken, more_text, not_single, has_form, numbers_are, counts_are, largest_are}
use Rattle.sheet.specs.Sheet.{reply_of}
use Rattle.sheet.proofs.Order.{read_as}
use Rattle.sheet.proofs.read.Goals as goal

pub returns-then-text-eq0 : goal.returns-then-text-eq0
returns-then-text-eq0 c =
    read_as (
    no_text c.args.text.now c.if-text-eq0.true
    )

pub returns-then-text-gt262144 : goal.returns-then-text-gt262144
returns-then-text-gt262144 c =
    read_as (
    too_much c.args.text.now c.if-text-eq0.false (omega arith)
    )

pub returns-then-not-head : goal.returns-then-not-head
returns-then-not-head c =
    read_as (
    let t = c.args.text.now in
    let h = c.scan_lines-head in
    no_form t c.if-text-eq0.false (omega arith) (head_broken t h.result h.ensures.told (not-true _ c.if-not-head.true))
    )

pub returns-then-not-lists_whole : goal.returns-then-not-lists_whole
returns-then-not-lists_whole c =
    read_as (
    let t = c.args.text.now in
    let h = c.scan_lines-head in
    let l = c.scan_lines-tail in
    no_form t c.if-text-eq0.false (omega arith)
    (tail_broken t h.result h.ensures.told (not-false _ c.if-not-head.false) l.result l.ensures.told c.if-not-lists_whole.true)
    )

pub returns-then-tail-text : goal.returns-then-tail-text
returns-then-tail-text c =
    read_as (
    let t = c.args.text.now in
    let h = c.scan_lines-head in
    let l = c.scan_lines-tail in
    no_form t c.if-text-eq0.false (omega arith)
    (more_text t h.result h.ensures.told (not-false _ c.if-not-head.false) l.result l.ensures.told c.if-not-lists_whole.false (omega arith))
    )

pub returns-then-not-all_are : goal.returns-then-not-all_are
returns-then-not-all_are c =
    read_as (
    let t = c.args.text.now in
    let h = c.scan_lines-head in
    let l = c.scan_lines-tail in
    no_form t c.if-text-eq0.false (omega arith)
    (not_single t h.result h.ensures.told (not-false _ c.if-not-head.false) l.result l.ensures.told c.if-not-lists_whole.false (omega arith)
    (sym c.all_are.ensures ∙ c.if-not-all_are.true))
    )

pub returns : goal.returns
returns c =
    let t = c.args.text.now in
    let h = c.scan_lines-head in
    let l = c.scan_lines-tail in
    let w : h.result.whole ≡ true = not-false _ c.if-not-head.false in
    let x : l.result.whole ≡ true = c.if-not-lists_whole.false in
    let z : length t ≤ l.result.next = omega arith in
    let y = sym c.all_are.ensures ∙ c.if-not-all_are.false in
    let e =
    ap (λ (k : Numbers). judged k l.result.counts l.result.largest) (numbers_are t h.result h.ensures.told w l.result l.ensures.told x z y)
    ∙ judged_is t c.if-text-eq0.false (omega arith) (has_form t h.result h.ensures.told w l.result l.ensures.told x z y) l.result.counts l.result.largest
    (counts_are t h.result h.ensures.told w l.result l.ensures.told x z y) (largest_are t h.result h.ensures.told w l.result l.ensures.told x z y) in
    (c.judge.ensures.0 ∙ e, c.judge.ensures.1 ∙ ap reply_of e)
