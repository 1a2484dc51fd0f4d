-- `round_search::write_key` meets its contract. Assumes nothing.
use Rattle.round_search.specs.Internal.{unknowns_of}
use Rattle.round_search.proofs.Unknowns.{key_bytes_lem}
use Rattle.round_search.proofs.write_key.Goals as goal

pub returns : goal.returns
returns c =
    let a = c.args in
    let p = c.requires in
    key_bytes_lem a.q a.n (unknowns_of a.q a.n a.u.now a.r.now) a.out.now _ _ p.3 c.write_secrets.ensures c.clear.ensures
