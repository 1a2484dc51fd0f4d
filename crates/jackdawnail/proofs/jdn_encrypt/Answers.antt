-- `jackdawnail::jdn_encrypt` meets its contract. Assumes nothing.
use mathlib.Core.Path.{refl, ap, sym}
use Rattle.codec.specs.Refusal.{as_reply}
use Rattle.scratch.proofs.Lent.{lent}
use Rattle.commitment.proofs.Sheets.{sheet_loaded}
use Rattle.scheme.specs.Calls.{encrypt_tests, encrypt_writes}
use Rattle.jackdawnail.proofs.Answers.{call_unread, call_taken}
use Rattle.jackdawnail.proofs.jdn_encrypt.Goals as goal

pub returns-in-Err : goal.returns-in-Err
returns-in-Err c = call_unread c.args.sheet.now c.in-Err.why c.in-Err.ensures.0 c.finish-in-Err.ensures c.pack-in-Err.ensures

pub slice_bounds-encrypt-end : goal.slice_bounds-encrypt-end
slice_bounds-encrypt-end c = sym (lent c.args.sheet.now (c.in-Ok.ensures.0.0, c.in-Ok.ensures.1) refl).sized

pub encrypt-reply-requires : goal.encrypt-reply-requires
encrypt-reply-requires c = sheet_loaded (lent c.args.sheet.now (c.in-Ok.ensures.0.0, c.in-Ok.ensures.1) refl)

pub returns-in-Ok : goal.returns-in-Ok
returns-in-Ok c =
    let a = c.args in
    call_taken a.sheet.now (c.in-Ok.ensures.0.0, c.in-Ok.ensures.1) refl (λ k. encrypt_tests k a.r.now a.e1.now a.e2.now a.m.now a.ciphertext.now a.scratch.now) (λ k P. encrypt_writes P a.r.now a.e1.now a.e2.now a.m.now) c.encrypt-reply.ensures (ap as_reply c.finish.ensures.0, c.finish.ensures.1) c.pack.ensures
