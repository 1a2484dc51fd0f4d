-- `jackdawnail::jdn_decrypt` meets its contract. Assumes nothing.
use mathlib.Core.Path.{refl, ap}
use Rattle.codec.specs.Refusal.{as_reply}
use Rattle.scratch.proofs.Lent.{lent}
use Rattle.scheme.specs.Calls.{decrypt_tests, decrypt_writes}
use Rattle.jackdawnail.proofs.Answers.{call_unread, call_taken}
use Rattle.jackdawnail.proofs.jdn_decrypt.Goals as goal

pub returns-in-Err : goal.returns-in-Err
returns-in-Err c = call_unread c.args.sheet.now c.in-Err.why c.in-Err.ensures.0 c.finish-in-Err.ensures c.pack-in-Err.ensures

pub decrypt-reply-requires : goal.decrypt-reply-requires
decrypt-reply-requires c = (lent c.args.sheet.now (c.in-Ok.ensures.0.0, c.in-Ok.ensures.1) refl).ranged

pub returns-in-Ok : goal.returns-in-Ok
returns-in-Ok c =
    let a = c.args in
    call_taken a.sheet.now (c.in-Ok.ensures.0.0, c.in-Ok.ensures.1) refl (λ k. decrypt_tests k a.s.now a.ciphertext.now a.vote.now a.scratch.now) (λ k P. decrypt_writes k a.s.now a.ciphertext.now) c.decrypt-reply.ensures (ap as_reply c.finish.ensures.0, c.finish.ensures.1) c.pack.ensures
