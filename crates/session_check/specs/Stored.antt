-- What is lent to the check of a round, compared with what a session holds (document 01, the order of check): 1 by the session's numbers and closed count, then 16. What a
-- session holds is the code's own `Stored`. Assumes nothing.
use Rattle.std.specs.Prelude.{Bool, not, ◌&&◌, List, [], ◌∷◌, ℕ}
use Rattle.codec.specs.Bytes.{Bytes, same}
use Rattle.codec.specs.Reply.{Test, test}
use Rattle.sha3.specs.Sponge.{sha3}
use Rattle.sheet.specs.Reader.{sheet_of}
use Rattle.sheet_numbers.specs.declared.Numbers.{Numbers}
use Rattle.round.specs.Layout.{ballot_length}
use Rattle.round.specs.Round.{Round}
use Rattle.round_lengths.specs.Calls.{message_sized, second_sized}
use Rattle.session_digests.specs.Digests.{ballot_digests, closing_digest, claim_digest, round_digest}
use Rattle.session_digests.specs.Draw.{drawn_side, drawn_challenges}
use Rattle.session_check.specs.declared.Lent.{Lent}
use Rattle.session_check.specs.declared.stored.Stored.{Stored}

-- what is lent to the check
pub record Inputs : Type 0 where
  pub sheet : Bytes
  pub ballots : Bytes
  pub claims : Bytes
  pub head : Bytes
  pub shares0 : Bytes
  pub shares1 : Bytes
  pub opening : Bytes
  pub answers : Bytes
  pub scratch : Bytes

-- from the values one by one
abbrev pub inputs_of : (sheet ballots claims head shares0 shares1 opening answers scratch : Bytes) → Inputs
inputs_of sheet ballots claims head shares0 shares1 opening answers scratch = record {
  sheet = sheet;
  ballots = ballots;
  claims = claims;
  head = head;
  shares0 = shares0;
  shares1 = shares1;
  opening = opening;
  answers = answers;
  scratch = scratch;
}

-- from the code's own `Lent`, with what scratch holds
abbrev pub inputs_lent : Lent → (scratch : Bytes) → Inputs
inputs_lent x scratch = inputs_of x.sheet.now x.ballots.now x.claims.now x.head.now x.shares0.now x.shares1.now x.opening.now x.answers.now scratch

-- equal numbers
unfoldable pub same_numbers : Numbers → Numbers → Bool
same_numbers a b =
    same (a.ring ∷ a.modulus ∷ a.drown ∷ a.rounds ∷ a.repeats ∷ []) (b.ring ∷ b.modulus ∷ b.drown ∷ b.rounds ∷ b.repeats ∷ [])

module _ (s : Stored) where
  -- what was drawn for the round
  abbrev pub side_of : ℕ
  side_of = drawn_side s.seed s.round

  abbrev pub challenges_of : Bytes
  challenges_of = drawn_challenges s.seed s.round s.numbers.repeats

  -- the round as it is lent, with the side and the challenges that were drawn
  abbrev pub drawn_round : Inputs → Round
  drawn_round x = record {
    side = side_of;
    challenges = challenges_of;
    ballots = x.ballots;
    claims = x.claims;
    head = x.head;
    shares0 = x.shares0;
    shares1 = x.shares1;
    opening = x.opening;
    answers = x.answers;
  }

  -- the lengths
  unfoldable pub inputs_sized : Inputs → Bool
  inputs_sized x =
      message_sized s.numbers.ring s.numbers.repeats s.closed x.head x.shares0 x.shares1 x.ballots x.claims
      && second_sized s.numbers.ring s.numbers.repeats challenges_of x.opening x.answers x.scratch

  -- 16: sheet, ballots, claims or first message differ from their stored digests, or the sheet's numbers from the session's
  unfoldable pub stored_tests : Inputs → List Test
  stored_tests x =
      test 16 0 (not (same (sha3 x.sheet) s.sheet))
      ∷ test 16 0 (not (same_numbers (sheet_of x.sheet).numbers s.numbers))
      ∷ test 16 0 (not (same (closing_digest s.sheet (ballot_digests (ballot_length s.numbers.ring) s.closed x.ballots)) s.closing))
      ∷ test 16 0 (not (same (claim_digest s.closing x.claims) s.claim))
      ∷ test 16 0 (not (same (round_digest s.claim s.round x.head x.shares0 x.shares1) s.message))
      ∷ []

  -- 1, then 16
  abbrev pub lent_tests : Inputs → List Test
  lent_tests x = test 1 0 (not (inputs_sized x)) ∷ stored_tests x
