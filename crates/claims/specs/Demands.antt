-- The three demands, over the definitions that the contracts of the exported calls cite (crates/jackdawnail/src). Proved: proofs/Demands.antt. Assumes nothing.
--
-- 1. Any bytes, numbers or session lent to any entry point get an outcome and no fault. No exported call has a `requires`, and each contract gives the reply and every lent byte:
--    that every contract is proved is this demand.
use Rattle.std.specs.Prelude.{◌≡◌, map, ℕ, ◌*◌, ◌≤◌, ◌<◌, length, get_or}
use Rattle.codec.specs.Bytes.{Bytes, Octets}
use Rattle.codec.specs.Reply.{Taken}
use Rattle.ring.specs.Poly.{Poly, Alike}
use Rattle.scratch.specs.Call.{scratch_length}
use Rattle.bgv.specs.Scheme.{Small, key, cipher_u, cipher_v, noise_in, decrypted}
use Rattle.bgv.specs.Examples.{Example}
use Rattle.round.specs.Round.{Round}
use Rattle.round.specs.Accepted.{Accepted}
use Rattle.round.specs.Producer.{Material, MaterialSized, produced_round}
use Rattle.round.specs.Suitable.{Suitable}
use Rattle.round.specs.Extractor as extractor
use Rattle.round.specs.Extractor.{Openings, extract_room, kind, extracted, Found, Hashed, Lowest, Output}
use Rattle.round.specs.Lending.{OpensLent, AnswersLent, lent_round, Lending}
use Rattle.round_lengths.specs.Sheets.{ballots_in}
use Rattle.round_extract.specs.Replies.{extract_reply}
use Rattle.commitment.specs.Parameters.{Parameters, parameters_of}
use Rattle.session.specs.Steps.{stored_for}
use Rattle.session.specs.Machine.{check}
use Rattle.session_image.specs.Image.{decode}
use Rattle.session_image.specs.Images.{host, host_reply}
use Rattle.session_histories.specs.Conditions.{SheetTaken}
use Rattle.session_histories.specs.Examples.{all_comparisons}
use Rattle.claims.specs.Papers.{Distributed, DecryptsTogether, DigestOfBits, TablesByRule}
use Rattle.claims.specs.Calls.{SchemeCalls, RoundCalls, SessionCalls}
use Rattle.claims.specs.HostClaims.{HostRollIsBatch, HostOwnRegister, HostRoundsChecked, HostEndedAccepted, HostBound, HostHonestAccepted, HostStaysValid, HostOnlyPhaseOrRound}
use Rattle.claims.specs.HostSteps.{step_calls}
use Rattle.claims.specs.Withdrawals.{StaysOut}
use Rattle.claims.specs.AnySession.{AnySession}
use Rattle.claims.specs.Endings.{RefusalEnds, ClearBegins, ScratchZeroed}
use Rattle.claims.specs.Orders.{OrdersAsWritten}
use Rattle.claims.specs.FromCalls.{FromCalls, TurnsCome, SomeElection}
use Rattle.session_check.specs.Stored.{Inputs, drawn_round}

-- ---- 2. Everything equals the papers, a round is accepted exactly if every listed check holds, and a withdrawn mark is in no closed batch.

-- a ballot made with short r, e' and e'' under a key that matches the sheet's b has noise within D, and decrypts to its message
abbrev pub HonestBallots : Type 0
HonestBallots = (text : Bytes) → SheetTaken text
    → let P = parameters_of text in
    (s e r e1 e2 m : Poly) → Small P.q P.N 1 s → Small P.q P.N 1 e → Small P.q P.N 1 r → Small P.q P.N 1 e1 → Small P.q P.N 1 e2
    → ((i : ℕ) → i < P.N → m i < P.p) → Alike P.q P.N (key P.q P.N P.p P.a s e) P.b
    → let u = cipher_u P.q P.N P.p P.a r e1 in
    let v = cipher_v P.q P.N P.p P.b r e2 m in
    Small P.q P.N P.D (noise_in P.q P.N s u v) × ((i : ℕ) → i < P.N → decrypted P.q P.N P.p s u v i ≡ m i)

-- worked examples A to K
abbrev pub Examples : Type 0
Examples = map (λ (x : Example). x.got) all_comparisons ≡ map (λ (x : Example). x.said) all_comparisons

pub record Demand2 : Type 0 where
  -- each call is taken exactly under its conditions, the first case that holds in its order decides number and place, no refusal comes otherwise, and the number that C is answered tells so
  pub scheme_calls : SchemeCalls
  pub session_calls : SessionCalls
  -- over every list of calls from a clear that is taken: a round that a session counts as checked has had its check, and of a session that ended accepted every round has
  pub rounds_checked : HostRoundsChecked
  pub ended_accepted : HostEndedAccepted
  -- and a check that is taken was lent the sheet, ballots, claims and first message that were lodged, or the strings that hold them collide under SHA3-256
  pub bound : HostBound
  -- a mark whose withdrawal was taken is in no batch closed later, before the next clear taken
  pub withdrawn_stays_out : StaysOut step_calls
  -- a check that is refused for its round ends the session, after which no step but clear is taken
  pub refusal_ends : RefusalEnds
  -- where a session starts, and what becomes of scratch
  pub clear_begins : ClearBegins
  pub scratch_zeroed : ScratchZeroed
  pub orders_as_written : OrdersAsWritten
  pub honest_ballots : HonestBallots
  -- split keys add up, a mask worked out is the mask, reconstruction of two shares equals decryption; and SHA3-256 is FIPS 202's over bits
  pub distributed : Distributed
  pub decrypts_together : DecryptsTogether
  pub digest_of_bits : DigestOfBits
  pub tables_by_rule : TablesByRule
  pub examples : Examples

-- ---- 3. Two accepted openings and three accepted answers yield a hash collision, a short commitment vector or the key, and every honest round is accepted whatever is drawn.

-- one of the three, as the extractor's kind says; the strings of a collision are bytes; nothing that comes before that kind was there; and its output is what it found
abbrev pub Yields : (text : Bytes) → Openings → Type 0
Yields text x =
    let P = parameters_of text in
    let m = ballots_in text x.ballots in
    Found P m x (kind P m x) × Hashed P m x × Lowest P m x (kind P m x) × Output P m x (kind P m x) (extracted P m x)

-- the extractor takes these openings and answers, lent room and scratch of the right lengths
abbrev pub ExtractorTakes : (text : Bytes) → Openings → Type 0
ExtractorTakes text x = (out scratch : Bytes) → length out ≡ 24 * (parameters_of text).N → length scratch ≡ scratch_length → extract_reply text x (extract_room out scratch) ≡ Taken

-- where the extractor does not refuse, it finds one of the three
abbrev pub Extracts : Type 0
Extracts = (text : Bytes) (x : Openings) (out scratch : Bytes) → Octets x.head → Octets x.answer1 → Octets x.answer2 → Octets x.answer3
    → extract_reply text x (extract_room out scratch) ≡ Taken → Yields text x

-- a check that was accepted, of any round of the session in any image, lent this sheet
pub record AcceptedCheck (text : Bytes) : Type 0 where
  pub image : Bytes
  pub round : ℕ
  pub inputs : Inputs
  pub sheet : inputs.sheet ≡ text
  pub register : Bytes
  pub taken : host_reply (check round inputs) (host image register) ≡ Taken

-- what it was lent, with the side and the challenges that the seed in its image draws for its round
abbrev pub checked_round : {text : Bytes} → AcceptedCheck text → Round
checked_round c = drawn_round (stored_for (decode c.image) c.round) c.inputs

-- one that opened this side, and one that answered this challenge in the lent repetition, as lent to the extractor, over its first message, ballots and claims. One check may do both
pub record AcceptedOpening (text : Bytes) (x : Openings) (side : ℕ) : Type 0 where
  pub check : AcceptedCheck text
  pub opens : OpensLent x side (checked_round check)

pub record AcceptedAnswer (text : Bytes) (x : Openings) (challenge : ℕ) : Type 0 where
  pub check : AcceptedCheck text
  pub answers : AnswersLent (parameters_of text).N x challenge (checked_round check)

-- if both openings and all three answers to one repetition are accepted against one first message, ballots and claims, the extractor takes them and finds one of the three. What is lent is bytes
abbrev pub AcceptedYields : Type 0
AcceptedYields = (text : Bytes) (x : Openings) → Octets x.head → Octets x.answer1 → Octets x.answer2 → Octets x.answer3
    → AcceptedOpening text x 0 → AcceptedOpening text x 1 → AcceptedAnswer text x 1 → AcceptedAnswer text x 2 → AcceptedAnswer text x 3
    → Yields text x × ExtractorTakes text x

-- there are rounds that open each side and answer each challenge as lent, of whatever is lent in the right lengths
abbrev pub LentRounds : Type 0
LentRounds = (P : Parameters) (m : ℕ) (x : Openings) → extractor.Lent P m x → x.repetition < P.repeats → Lending P m x (λ i. lent_round P x i 1) (λ c. lent_round P x 0 c)

-- and so with accepted rounds of any side and challenges, whatever a seed draws, and a repetition in range: the extractor takes what they opened and answered, and finds one of the three
abbrev pub RoundsYield : Type 0
RoundsYield = (text : Bytes) (x : Openings) (opens answers : ℕ → Round) → SheetTaken text → Octets x.answer1 → Octets x.answer2 → Octets x.answer3
    → let P = parameters_of text in
    let m = ballots_in text x.ballots in
    m ≤ 4096 → extractor.Lent P m x → Lending P m x opens answers → x.repetition < P.repeats
    → ((i : ℕ) → i < 2 → Accepted P m (opens i)) → ((c : ℕ) → 1 ≤ c → c ≤ 3 → Accepted P m (answers c))
    → Yields text x × ExtractorTakes text x

-- the producer's round is accepted, that is, meets none of 5 to 13, with any side and challenges in range
abbrev pub HonestRounds : Type 0
HonestRounds = (text : Bytes) → SheetTaken text
    → let P = parameters_of text in
    (m : ℕ) (x : Material) → MaterialSized P m x → Suitable P m x → (side : ℕ) → side < 2 → (challenges : Bytes) → length challenges ≡ P.repeats
    → ((i : ℕ) → i < P.repeats → (1 ≤ get_or challenges i 0) × (get_or challenges i 0 ≤ 3)) → Accepted P m (produced_round P m x side challenges)

pub record Demand3 : Type 0 where
  -- the producer writes a round from all material that meets none of its refusals, and the extractor takes exactly what is in order
  pub round_calls : RoundCalls
  pub accepted_yields : AcceptedYields
  pub extracts : Extracts
  pub lent_rounds : LentRounds
  pub rounds_yield : RoundsYield
  -- over every list of calls from a clear that is taken, each lent any register: a round of the producer's that is lodged is accepted at its turn
  pub honest_accepted : HostHonestAccepted
  -- and where the host writes no register: from the producer's two calls, claim, commit, draw and challenges to the check
  pub from_calls : FromCalls
  -- there are such lists: over suitable material every round comes to its turn, and the session ends accepted; and there is such material
  pub turns_come : TurnsCome
  pub some_election : SomeElection
  pub honest_rounds : HonestRounds
  -- and the check refuses it for none of those in any session, whatever bytes the image is
  pub any_session : AnySession
  -- no call of such a list meets 31 but for wrong phase or round
  pub stays_valid : HostStaysValid
  pub only_phase_or_round : HostOnlyPhaseOrRound
  -- without host writing, the ballots admitted and not withdrawn are the batch
  pub roll_is_batch : HostRollIsBatch
  pub own_register : HostOwnRegister
