-- `jackdawnail::jdn_keygen` meets its contract. Assumes nothing.
use mathlib.Core.Path.{refl, ap, sym}
use Rattle.codec.specs.Refusal.{as_reply}
use Rattle.scratch.proofs.Lent.{lent}
use Rattle.commitment.proofs.Sheets.{sheet_loaded}
use Rattle.scheme.specs.Calls.{keygen_tests, keygen_writes}
use Rattle.jackdawnail.proofs.Answers.{call_unread, call_taken}
use Rattle.jackdawnail.proofs.jdn_keygen.Goals as goal

pub returns-in-Err : goal.returns-in-Err
returns-in-Err c = call_unread c.args.sheet.now c.in-Err.why c.in-Err.ensures.0 c.finish-in-Err.ensures c.pack-in-Err.ensures

pub slice_bounds-keygen-end : goal.slice_bounds-keygen-end
slice_bounds-keygen-end c = sym (lent c.args.sheet.now (c.in-Ok.ensures.0.0, c.in-Ok.ensures.1) refl).sized

pub keygen-reply-requires : goal.keygen-reply-requires
keygen-reply-requires c = sheet_loaded (lent c.args.sheet.now (c.in-Ok.ensures.0.0, c.in-Ok.ensures.1) refl)

pub returns-in-Ok : goal.returns-in-Ok
returns-in-Ok c =
    let a = c.args in
    call_taken a.sheet.now (c.in-Ok.ensures.0.0, c.in-Ok.ensures.1) refl (λ k. keygen_tests k a.s.now a.e.now a.b.now a.scratch.now) (λ k P. keygen_writes P a.s.now a.e.now) c.keygen-reply.ensures (ap as_reply c.finish.ensures.0, c.finish.ensures.1) c.pack.ensures
