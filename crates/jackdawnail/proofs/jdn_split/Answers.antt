-- `jackdawnail::jdn_split` meets its contract. Assumes nothing.
use mathlib.Core.Path.{refl, ap, sym}
use Rattle.codec.specs.Refusal.{as_reply}
use Rattle.scratch.proofs.Lent.{lent}
use Rattle.commitment.proofs.Sheets.{sheet_loaded}
use Rattle.scheme.specs.Calls.{split_tests, split_writes}
use Rattle.jackdawnail.proofs.Answers.{call_unread, call_taken}
use Rattle.jackdawnail.proofs.jdn_split.Goals as goal

pub returns-in-Err : goal.returns-in-Err
returns-in-Err c = call_unread c.args.sheet.now c.in-Err.why c.in-Err.ensures.0 c.finish-in-Err.ensures c.pack-in-Err.ensures

pub slice_bounds-split-end : goal.slice_bounds-split-end
slice_bounds-split-end c = sym (lent c.args.sheet.now (c.in-Ok.ensures.0.0, c.in-Ok.ensures.1) refl).sized

pub split-reply-requires : goal.split-reply-requires
split-reply-requires c = sheet_loaded (lent c.args.sheet.now (c.in-Ok.ensures.0.0, c.in-Ok.ensures.1) refl)

pub returns-in-Ok : goal.returns-in-Ok
returns-in-Ok c =
    let a = c.args in
    call_taken a.sheet.now (c.in-Ok.ensures.0.0, c.in-Ok.ensures.1) refl (λ k. split_tests k a.s.now a.e.now a.s0.now a.e0.now a.out.now a.scratch.now) (λ k P. split_writes P a.s.now a.e.now a.s0.now a.e0.now) c.split-reply.ensures (ap as_reply c.finish.ensures.0, c.finish.ensures.1) c.pack.ensures
