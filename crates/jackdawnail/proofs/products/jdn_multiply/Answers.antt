-- `jackdawnail::products::jdn_multiply` meets its contract. Assumes nothing.
use mathlib.Core.Path.{ap, sym}
use Rattle.codec.specs.Refusal.{as_reply}
use Rattle.scheme.specs.Calls.{multiply_tests, product_writes}
use Rattle.jackdawnail.proofs.Answers.{call_unread, read_usable, call_read}
use Rattle.jackdawnail.proofs.products.jdn_multiply.Goals as goal

pub returns-in-Err : goal.returns-in-Err
returns-in-Err c = call_unread c.args.sheet.now c.in-Err.why c.in-Err.ensures c.finish-in-Err.ensures c.pack-in-Err.ensures

pub multiply-reply-requires : goal.multiply-reply-requires
multiply-reply-requires c = read_usable c.args.sheet.now (sym c.in-Ok.ensures.0)

pub returns-in-Ok : goal.returns-in-Ok
returns-in-Ok c =
    let a = c.args in
    call_read a.sheet.now (sym c.in-Ok.ensures.0) (λ k. multiply_tests k a.x.now a.y.now a.root a.product.now a.scratch.now) (λ k. product_writes k a.x.now a.y.now) c.multiply-reply.ensures (ap as_reply c.finish.ensures.0, c.finish.ensures.1) c.pack.ensures
