-- From the producer's calls to the turn (specs/FromCalls.antt). Assumes nothing.
use mathlib.Core.Path.{◌≡◌, refl, sym, ap, subst, ◌∙◌}
use mathlib.Core.List.{List, flatten}
use Prim.Native.Nat.{ℕ, ◌*◌, ◌%◌}
use native.Mathlib.Nat.{div-eq_of_eq-mul_right}
use native.Mathlib.Omega.{arith}
use lib.ListN.{length, get_or, drop}
use Rattle.codec.specs.Bytes.{Bytes}
use Rattle.codec.specs.Reply.{leaves, Reply, Taken}
use Rattle.scratch.specs.Call.{scratch_length}
use Rattle.sheet_numbers.specs.declared.Numbers.{Numbers}
use Rattle.commitment.specs.Parameters.{Parameters, parameters_of}
use Rattle.round.specs.Producer.{Material, produced_claims, produced_opening, produced_answers}
use Rattle.round.specs.Writes.{FirstRoom, SecondRoom}
use Rattle.round.proofs.Produced.{length_produced_claims}
use Rattle.round_lengths.specs.Sheets.{ballots_in}
use Rattle.session_digests.specs.Draw.{drawn_side, drawn_challenges}
use Rattle.round_produce.specs.Replies.{FirstCalled, SecondCalled}
use Rattle.session_check.specs.Stored.{Inputs, inputs_of}
use Rattle.session.specs.declared.Session.{Session}
use Rattle.session.specs.Steps.{on, challenges_out}
use Rattle.session.specs.Machine.{Step, clear, claim, commit, draw, check, reply, after}
use Rattle.session_image.specs.Image.{decode}
use Rattle.session_image.specs.Images.{Host, host_reply, host_after, challenges_reply, ChallengesCalled}
use Rattle.session_histories.specs.Internal.{OwnTrace, own_initial, own_extend, own_trace}
use Rattle.session_histories.specs.Claims.{Produced}
use Rattle.session_histories.specs.Elections.{election}
use Rattle.session_histories.proofs.Elections.{ends_accepted}
use Rattle.session_histories.proofs.OwnTurn.{Lodges, numbers_are, claims_size, own_turn}
use Rattle.claims.specs.FromCalls.{at_claim, at_commit, at_draw, at_end, Conducted, FromCalls, TurnsCome}
use Rattle.claims.specs.Produces.{WritesFirst}
use Rattle.claims.proofs.HostClaims as hosts
use Rattle.claims.proofs.HostSteps.{Keeps, over_step, keeps_run, roll_over, uncleared}
use Rattle.claims.proofs.Produces.{first_exactly}
use Rattle.claims.proofs.Calls.{session_calls}

pub turns_come : TurnsCome
turns_come sheet start m ballot material claims seed e early s c =
    let steps = election sheet m ballot material claims seed e early in
    let kept = keeps_run steps (host_after (clear (on sheet)) start) (own_initial (on sheet)) (hosts.keeps_initial start (on sheet) s) in
    ap (λ (z : Session). z.progress.phase) kept.image.session ∙ ends_accepted sheet m ballot material claims seed e early c (hosts.readable start (on sheet) s)

-- ---- from the producer's calls to the turn

module _ (sheet : Bytes) (start : Host) (before between later last : List Step) (round : ℕ) (seed : Bytes) (wrote : FirstRoom) (c : Conducted sheet start before between later last round seed wrote) where
  abbrev claims : Bytes
  claims = wrote.claims

  abbrev committing : Step
  committing = commit round wrote.head wrote.shares0 wrote.shares1

  keeps_new : Keeps (host_after (clear (on sheet)) start) (own_initial (on sheet)).now
  keeps_new = hosts.keeps_initial start (on sheet) c.starts

  abbrev h1 : Host
  h1 = at_claim sheet start before between later last round seed wrote

  abbrev h2 : Host
  h2 = at_commit sheet start before between later last round seed wrote

  abbrev h3 : Host
  h3 = at_draw sheet start before between later last round seed wrote

  abbrev h4 : Host
  h4 = at_end sheet start before between later last round seed wrote

  abbrev t1 : OwnTrace
  t1 = own_trace before (own_initial (on sheet))

  abbrev t2 : OwnTrace
  t2 = own_trace between (own_extend (claim claims) t1)

  abbrev t3 : OwnTrace
  t3 = own_trace later (own_extend committing t2)

  abbrev t4 : OwnTrace
  t4 = own_trace last (own_extend (draw seed) t3)

  k1 : Keeps h1 t1.now
  k1 = keeps_run before (host_after (clear (on sheet)) start) (own_initial (on sheet)) keeps_new

  s1 : (host_reply (claim claims) h1 ≡ reply (claim claims) t1.now) × Keeps (host_after (claim claims) h1) (after (claim claims) t1.now)
  s1 = over_step (claim claims) h1 t1.now k1

  k2 : Keeps h2 t2.now
  k2 = keeps_run between (host_after (claim claims) h1) (own_extend (claim claims) t1) (unfold own_extend in s1.1)

  s2 : (host_reply committing h2 ≡ reply committing t2.now) × Keeps (host_after committing h2) (after committing t2.now)
  s2 = over_step committing h2 t2.now k2

  k3 : Keeps h3 t3.now
  k3 = keeps_run later (host_after committing h2) (own_extend committing t2) (unfold own_extend in s2.1)

  s3 : (host_reply (draw seed) h3 ≡ reply (draw seed) t3.now) × Keeps (host_after (draw seed) h3) (after (draw seed) t3.now)
  s3 = over_step (draw seed) h3 t3.now k3

  k4 : Keeps h4 t4.now
  k4 = keeps_run last (host_after (draw seed) h3) (own_extend (draw seed) t3) (unfold own_extend in s3.1)

  lodges : Lodges (on sheet) (hosts.readable start (on sheet) c.starts) before between later last claims wrote.head wrote.shares0 wrote.shares1 seed round
  lodges = record {
    uncleared = uncleared before (host_after (clear (on sheet)) start) (own_initial (on sheet)).now keeps_new c.uncleared_before;
    claim_taken = sym s1.0 ∙ c.claim_taken;
    uncleared_between = uncleared between (host_after (claim claims) h1) (after (claim claims) t1.now) s1.1 c.uncleared_between;
    commit_taken = sym s2.0 ∙ c.commit_taken;
    uncleared_later = uncleared later (host_after committing h2) (after committing t2.now) s2.1 c.uncleared_later;
    draw_taken = sym s3.0 ∙ c.draw_taken;
    uncleared_last = uncleared last (host_after (draw seed) h3) (after (draw seed) t3.now) s3.1 c.uncleared_last;
  }

  module _ (material : Material) (room : FirstRoom) (out told : Bytes) (second_room second_wrote : SecondRoom) (scratch : Bytes) (first : FirstCalled sheet material room Taken wrote)
      (answered : ChallengesCalled h4.image round 0 out told) (second : SecondCalled sheet material (get_or told 0 0) (drop 1 told) second_room Taken second_wrote) where
    abbrev P : Parameters
    P = parameters_of sheet

    abbrev m : ℕ
    m = ballots_in sheet material.ballots

    abbrev s : Session
    s = t4.now.session

    abbrev x : Inputs
    x = inputs_of sheet material.ballots wrote.claims wrote.head wrote.shares0 wrote.shares1 second_wrote.opening second_wrote.answers scratch

    -- ---- what the first call left

    writes : WritesFirst sheet material room.head room.shares0 room.shares1 room.claims room.scratch
    writes = (first_exactly sheet material room.head room.shares0 room.shares1 room.claims room.scratch).0 (sym first.replied)

    claims_made : wrote.claims ≡ produced_claims P m material
    claims_made = first.left.claims ∙ (unfold leaves in refl)

    -- as many ballots as were closed
    count : m ≡ t1.now.session.progress.closed
    count =
        let size = claims_size (on sheet) (hosts.readable start (on sheet) c.starts) before between later last claims wrote.head wrote.shares0 wrote.shares1 seed round lodges in
        let low = writes.sheet.inside.ring_low in
        let long : P.N * m ≡ P.N * t1.now.session.progress.closed = sym (length_produced_claims P m material) ∙ sym (ap length claims_made) ∙ size in
        sym (div-eq_of_eq-mul_right {n = P.N} (omega arith) (λ i. P.N * m)) ∙ div-eq_of_eq-mul_right (omega arith) long

    -- ---- the side and the challenges

    taken : challenges_reply h4.image round out ≡ Taken
    taken = (session_calls.challenges h4.image round out).told.taken.0 (sym (ap (λ (n : ℕ). n % 256) answered.replied))

    told_is : told ≡ challenges_out s round
    told_is =
        answered.written ∙ ap (λ (r : Reply). leaves r (challenges_out (decode h4.image) round) out) taken ∙ (unfold leaves in ap (λ (z : Session). challenges_out z round) k4.image.session)

    side_is : get_or told 0 0 ≡ drawn_side s.seed round
    side_is = ap (λ (w : Bytes). get_or w 0 0) told_is ∙ (unfold challenges_out in refl)

    challenges_are : drop 1 told ≡ drawn_challenges s.seed round P.repeats
    challenges_are =
        ap (drop 1) told_is
        ∙ (unfold challenges_out in
        ap (λ (n : Numbers). drawn_challenges s.seed round n.repeats)
        (numbers_are (on sheet) (hosts.readable start (on sheet) c.starts) before between later last claims wrote.head wrote.shares0 wrote.shares1 seed round lodges))

    -- ---- the round

    made : Produced P m material s.seed round x
    unfolding leaves
    made = record {
      sized = writes.sized;
      suitable = writes.suitable;
      ballots = refl;
      claims = claims_made;
      head = first.left.head;
      shares0 = first.left.shares0;
      shares1 = first.left.shares1;
      opening = second.left.opening ∙ ap (produced_opening P m material) side_is;
      answers = second.left.answers ∙ ap (produced_answers P m material) challenges_are;
    }

    accepted : material.ballots ≡ flatten t1.roll → length scratch ≡ scratch_length → host_reply (check round x) h4 ≡ Taken
    accepted ballots size =
        (over_step (check round x) h4 t4.now k4).0
        ∙ own_turn (on sheet) (hosts.readable start (on sheet) c.starts) before between later last claims wrote.head wrote.shares0 wrote.shares1 seed round lodges material x
        (sym (ap (λ (z : Session). z.progress.phase) k4.image.session) ∙ c.drawn) (c.due ∙ ap (λ (z : Session). z.progress.checked) k4.image.session) refl ballots refl refl
        (subst (λ (n : ℕ). Produced P n material s.seed round x) count made) size

pub from_calls : FromCalls
from_calls sheet start before between later last round seed material room wrote out told second_room second_wrote scratch first ballots c answered second size =
    accepted sheet start before between later last round seed wrote c material room out told second_room second_wrote scratch first answered second
    (ballots ∙ ap flatten (unfold own_initial in roll_over before (host_after (clear (on sheet)) start) (own_initial (on sheet)) (hosts.keeps_initial start (on sheet) c.starts))) size
