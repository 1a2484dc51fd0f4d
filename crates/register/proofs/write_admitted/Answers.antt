-- `register::write_admitted` meets its contract. Assumes nothing.
use Rattle.codec.proofs.Laws.{length_part}
use Rattle.sha3.proofs.Squeezing.{length_sha3}
use Rattle.register.specs.Register as def
use Rattle.register.proofs.write_admitted.Goals as goal

pub write_entry-requires : goal.write_entry-requires
write_entry-requires c =
    let ballot = c.args.ballot.now in
    (c.requires.0, length_part ballot 0 4 c.requires.1, rw c.hash-digest.ensures (length_sha3 ballot))

pub returns : goal.returns
unfolding def.admitted
returns c = rw (c.write_entry.ensures, c.hash-digest.ensures)
