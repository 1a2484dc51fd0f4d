-- The claims of specs/Papers.antt, from the theorems of bgv and keccak_bits. Assumes nothing.
use mathlib.Core.Path.{◌≡◌, ap}
use Rattle.codec.specs.Bytes.{Bytes}
use Rattle.codec.proofs.Replies.{taken_exactly}
use Rattle.codec.specs.Reply.{Reply}
use Rattle.sheet.specs.Reader.{sheet_of}
use Rattle.sheet.specs.Sheet.{order, reading_by, reading}
use Rattle.sheet.specs.Sheet as reading
use Rattle.keccak_bits.proofs.Sponge.{sha3_bits}
use Rattle.bgv.specs.Internal.{Sound}
use Rattle.bgv.proofs.Form.{halves, split_key}
use Rattle.bgv.proofs.Round as round
use Rattle.bgv.proofs.Sheets.{sheet_sound}
use Rattle.commitment.specs.Parameters.{Parameters, parameters_of}
use Rattle.keccak.specs.Table.{offsets_rule}
use Rattle.keccak.specs.Tables.{constants_rule}
use Rattle.session_histories.specs.Conditions.{SheetTaken}
use Rattle.session_histories.proofs.Valid.{sheet_exactly}
use Rattle.claims.specs.Papers.{Distributed, DigestOfBits, TablesByRule}

-- a sheet that is taken
module _ (text : Bytes) (sheet : SheetTaken text) where
  abbrev P : Parameters
  P = parameters_of text

  read : reading text ≡ reading.Taken (sheet_of text).numbers
  unfolding reading
  read = ap (λ (r : Reply). reading_by r (sheet_of text).numbers) ((taken_exactly (order text)).1 ((sheet_exactly text).1 sheet))

  pub sound : Sound P.q P.p P.D P.B
  sound = sheet_sound text (sheet_of text).numbers read

pub distributed : Distributed
distributed = record {
  deal = λ text sheet s e s0 e0.
      let P = parameters_of text in
      let positive = round.positive (sound text sheet) in
      record { secrets = halves s s0 positive; errors = halves e e0 positive; keys = split_key P.p P.a s e s0 e0 positive };
  play = λ text sheet s u. record {
    mask = λ E bounded t made. round.worked_share (sound text sheet) s u t E bounded made;
    made = λ t. round.share_worked (sound text sheet) s u t;
  };
  reconstruct = λ text sheet s u v noise s0 s1 adds E0 E1 mask0 mask1 t0 t1 made0 made1.
      round.reconstructs (sound text sheet) s0 s1 s u v t0 t1 E0 E1 adds made0 made1 noise mask0 mask1;
}

pub digest_of_bits : DigestOfBits
digest_of_bits = sha3_bits

pub tables : TablesByRule
tables = record { offsets_rule = offsets_rule; constants_rule = constants_rule }
