-- What the contracts of inner functions and the proofs go by: no exported contract and no claim cites this file. Assumes nothing.
use Rattle.std.specs.Prelude.{◌≡◌, ◌<◌, ◌^◌, length}
use Rattle.session.specs.declared.Session.{Session}

-- what the types of the fields say
pub record Typed (s : Session) : Type 0 where
  pub phase_fits : s.progress.phase < 256
  pub ring_fits : s.numbers.ring < 2 ^ 64
  pub modulus_fits : s.numbers.modulus < 2 ^ 64
  pub drown_fits : s.numbers.drown < 2 ^ 64
  pub rounds_fits : s.numbers.rounds < 2 ^ 64
  pub repeats_fits : s.numbers.repeats < 2 ^ 64
  pub sheet_long : length s.sheet ≡ 32
  pub used_fits : s.progress.used < 2 ^ 64
  pub closed_fits : s.progress.closed < 2 ^ 64
  pub closing_long : length s.closing ≡ 32
  pub claim_long : length s.claim ≡ 32
  pub committed_fits : s.progress.committed < 2 ^ 64
  pub seed_long : length s.seed ≡ 32
  pub checked_fits : s.progress.checked < 2 ^ 64
  pub trail_long : length s.trail ≡ 4096
