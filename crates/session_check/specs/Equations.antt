-- What 1 and 16 of a check ask for (specs/Check.antt), in equations. Assumes nothing.
use Rattle.std.specs.Prelude.{◌≡◌, ◌*◌, length}
use Rattle.sha3.specs.Sponge.{sha3}
use Rattle.sheet.specs.Reader.{sheet_of}
use Rattle.scratch.specs.Call.{scratch_length}
use Rattle.round.specs.Layout.{ballot_length, head_length, answers_length}
use Rattle.session_digests.specs.Digests.{ballot_digests, closing_digest, claim_digest, round_digest}
use Rattle.session_check.specs.declared.stored.Stored.{Stored}
use Rattle.session_check.specs.Stored.{Inputs, challenges_of}

module _ (s : Stored) (x : Inputs) where
  -- the lengths, by the session's numbers and closed count
  pub record InputsSized : Type 0 where
    pub ballots : length x.ballots ≡ ballot_length s.numbers.ring * s.closed
    pub claims : length x.claims ≡ s.numbers.ring * s.closed
    pub head : length x.head ≡ head_length s.numbers.ring s.numbers.repeats
    pub shares0 : length x.shares0 ≡ 8 * s.numbers.ring * s.closed
    pub shares1 : length x.shares1 ≡ 8 * s.numbers.ring * s.closed
    pub opening : length x.opening ≡ 22 * s.numbers.ring
    pub answers : length x.answers ≡ answers_length s.numbers.ring (challenges_of s)
    pub scratch : length x.scratch ≡ scratch_length

  -- what is lent is what the session holds the digests of
  pub record Held : Type 0 where
    pub sheet : sha3 x.sheet ≡ s.sheet
    pub numbers : (sheet_of x.sheet).numbers ≡ s.numbers
    pub ballots : closing_digest s.sheet (ballot_digests (ballot_length s.numbers.ring) s.closed x.ballots) ≡ s.closing
    pub claims : claim_digest s.closing x.claims ≡ s.claim
    pub message : round_digest s.claim s.round x.head x.shares0 x.shares1 ≡ s.message
