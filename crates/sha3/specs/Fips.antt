-- The sponge of FIPS 202, section 4 (algorithm 8), for SHA3-256 on whole bytes: a block of 136 bytes at a time, `absorb_blocks`
-- (specs/Internal.antt). Assumes nothing.
use Rattle.std.specs.Prelude.{◌++◌, ◌+◌, ◌/◌, ◌%◌, length}
use Rattle.codec.specs.Bytes.{Bytes}
use Rattle.sha3.specs.Absorb.{zero_state}
use Rattle.sha3.specs.Internal.{absorb_blocks}
use Rattle.sha3.specs.Sponge.{padding, squeeze}

-- the padded message has whole blocks
unfoldable pub sponge : Bytes → Bytes
sponge m = squeeze (absorb_blocks (length m / 136 + 1) zero_state (m ++ padding (length m % 136)))
