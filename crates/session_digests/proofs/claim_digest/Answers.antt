-- `claim_digest` meets its contract. Assumes nothing.
use mathlib.Core.Path.{ap, ◌∙◌}
use mathlib.Core.List.{◌++◌, append-nil}
use Rattle.codec.specs.Bytes.{Bytes}
use Rattle.sha3.specs.Sponge.{sha3}
use Rattle.session_digests.specs.Digests.{claim_digest}
use Rattle.session_digests.proofs.claim_digest.Goals as goal

pub returns : goal.returns
unfolding claim_digest
returns c =
    let a = c.args in
    c.hash_parts.ensures ∙ ap (λ (t : Bytes). sha3 (a.closing.now ++ t)) (append-nil a.claims.now)
