-- The second and the third demand: `demand2` and `demand3` of specs/Demands.antt. Assumes nothing.
use mathlib.Core.Path.{ap, ◌∙◌}
use Prim.Native.Nat.{ℕ, ◌*◌, ◌<◌}
use native.Mathlib.Omega.{arith}
use lib.ListN.{length, length-replicate}
use Rattle.codec.specs.Bytes.{Bytes, Octets, zeros}
use Rattle.codec.specs.Reply.{None}
use Rattle.scratch.specs.Call.{scratch_length}
use Rattle.bgv.proofs.Ballot.{honest_noise, honest_decrypts}
use Rattle.round.specs.Round.{Round, round_tests}
use Rattle.round.specs.Accepted.{Accepted}
use Rattle.round.specs.Extractor.{Openings}
use Rattle.round.specs.Lending.{OfLent}
use Rattle.round.proofs.Passed.{producer_exactly}
use Rattle.round.proofs.Accepted.{none_exactly, honest_accepted}
use Rattle.round.proofs.OpeningsAccepted.{openings_exactly}
use Rattle.round.proofs.Extraction.{extraction}
use Rattle.round.proofs.ExtractionHashed.{hashed}
use Rattle.round.proofs.ExtractionOutput.{output, lowest}
use Rattle.round.proofs.Refuses.{takes_accepted, lending}
use Rattle.round_lengths.specs.Sheets.{ballots_in}
use Rattle.session_histories.specs.Examples.{all_examples}
use Rattle.claims.proofs.HostClaims.{host_roll_is_batch, host_own_register, host_rounds_checked, host_ended_accepted, host_bound, host_honest_accepted, host_stays_valid, host_only_phase_or_round}
use Rattle.claims.proofs.Withdrawals.{over_calls}
use Rattle.claims.proofs.Papers.{sound, distributed, digest_of_bits, tables}
use Rattle.claims.proofs.Together.{decrypts_together}
use Rattle.claims.proofs.AnySession.{any_session}
use Rattle.claims.proofs.Endings.{refusal_ends, begun, scratch_zeroed}
use Rattle.claims.proofs.Orders.{orders_as_written}
use Rattle.claims.proofs.FromCalls.{from_calls, turns_come}
use Rattle.claims.proofs.SomeElection.{some_election}
use Rattle.claims.proofs.Calls.{scheme_calls, round_calls, session_calls}
use Rattle.claims.proofs.Yields.{extractor_takes}
use Rattle.claims.proofs.Produces.{positive, fits}
use Rattle.claims.proofs.Extracts.{extractor_exactly, lent_takes}
use Rattle.claims.specs.Demands.{HonestBallots, Demand2, Extracts, Yields, ExtractorTakes, AcceptedYields, RoundsYield, HonestRounds, Demand3}
use Rattle.commitment.specs.Parameters.{parameters_of}

-- ---- over a sheet that is taken

honest_ballots : HonestBallots
honest_ballots text sheet s e r e1 e2 m ss se sr s1 s2 message matches =
    let P = parameters_of text in
    let ok = sound text sheet in (
      honest_noise ok (omega arith) P.a P.b s e r e1 e2 m ss se sr s1 s2 message matches,
      honest_decrypts ok (omega arith) P.a P.b s e r e1 e2 m ss se sr s1 s2 message matches,
    )

honest_rounds : HonestRounds
honest_rounds text sheet m x sized suitable side low challenges size valid =
    let r = sheet.inside in
    let none = (producer_exactly (parameters_of text) m x (omega (arith, r.modulus_low)) (omega (arith, r.modulus_high))).1 suitable in
    honest_accepted (parameters_of text) m x (sound text sheet) (omega (arith, r.modulus_low)) (omega (arith, r.modulus_high)) sized none side low
    challenges size valid

extracts : Extracts
extracts text x out scratch octets o1 o2 o3 e =
    let P = parameters_of text in
    let m = ballots_in text x.ballots in
    let t = (extractor_exactly text x out scratch octets).0 e in
    let r = t.sheet.inside in
    let three : 2 < P.q = omega (arith, r.modulus_low) in
    let high = fits text t.sheet in
    let none = (openings_exactly P m x (positive text t.sheet) high t.lengths).1 t.accepted in
    let ok = sound text t.sheet in
    (extraction P m x three high t.lengths none ok, hashed P m x o1 o2 o3, lowest P m x (omega arith) high, output P m x three high t.lengths none ok)

-- its findings do not depend on output or scratch: any of the right lengths serve
found : (text : Bytes) (x : Openings) → Octets x.head → Octets x.answer1 → Octets x.answer2 → Octets x.answer3 → ExtractorTakes text x
    → Yields text x × ExtractorTakes text x
found text x octets b1 b2 b3 taken =
    let n = 24 * (parameters_of text).N in
    (extracts text x (zeros n) (zeros scratch_length) octets b1 b2 b3 (taken (zeros n) (zeros scratch_length) (length-replicate {A = ℕ} n 0) (length-replicate {A = ℕ} scratch_length 0)), taken)

accepted_yields : AcceptedYields
accepted_yields text x octets b1 b2 b3 o0 o1 a1 a2 a3 = found text x octets b1 b2 b3 (extractor_takes text x o0 o1 a1 a2 a3 octets)

rounds_yield : RoundsYield
rounds_yield text x opens answers sheet o1 o2 o3 few lent lending within opened answered =
    let P = parameters_of text in
    let m = ballots_in text x.ballots in
    let r = sheet.inside in
    -- a round over the lent head that is accepted meets no test
    let passes : (s : Round) → OfLent x s → Accepted P m s → None (round_tests P m s) = λ s of a.
    (none_exactly P m (omega (arith, r.modulus_low)) (omega (arith, r.modulus_high)) s (ap length of.head ∙ lent.head) (rw of.head lent.octets)).1 a in
    let none = takes_accepted P m x opens answers lending within (λ i l. passes (opens i) (lending.sides i l).of_lent (opened i l))
    (λ c l h. passes (answers c) (lending.challenges c l h).of_lent (answered c l h)) in
    let taken : ExtractorTakes text x = λ out scratch o s. lent_takes text x out scratch sheet few lent o s none in
    found text x lent.octets o1 o2 o3 taken

-- ---- the demands

pub demand2 : Demand2
demand2 = record {
  scheme_calls = scheme_calls;
  session_calls = session_calls;
  rounds_checked = host_rounds_checked;
  ended_accepted = host_ended_accepted;
  bound = host_bound;
  withdrawn_stays_out = over_calls.stays_out;
  refusal_ends = refusal_ends;
  clear_begins = begun;
  scratch_zeroed = scratch_zeroed;
  orders_as_written = orders_as_written;
  honest_ballots = honest_ballots;
  distributed = distributed;
  decrypts_together = decrypts_together;
  digest_of_bits = digest_of_bits;
  tables_by_rule = tables;
  examples = all_examples;
}

pub demand3 : Demand3
demand3 = record {
  round_calls = round_calls;
  accepted_yields = accepted_yields;
  extracts = extracts;
  lent_rounds = lending;
  rounds_yield = rounds_yield;
  honest_accepted = host_honest_accepted;
  from_calls = from_calls;
  turns_come = turns_come;
  some_election = some_election;
  honest_rounds = honest_rounds;
  any_session = any_session;
  stays_valid = host_stays_valid;
  only_phase_or_round = host_only_phase_or_round;
  roll_is_batch = host_roll_is_batch;
  own_register = host_own_register;
}
