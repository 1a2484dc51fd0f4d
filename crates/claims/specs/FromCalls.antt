-- From the producer's calls to the turn (document 01, the paragraph on demand 3's last sentence), in one statement over what the exported calls answer and leave, where the host
-- writes no register: each call is lent the image and the register that the last one left. Assumes nothing.
use Rattle.std.specs.Prelude.{◌≡◌, ℕ, ◌<◌, length, get_or, drop}
use mathlib.Core.List.{List, [], flatten}
use Rattle.codec.specs.Bytes.{Bytes}
use Rattle.codec.specs.Reply.{Taken}
use Rattle.scratch.specs.Call.{scratch_length}
use Rattle.round.specs.Producer.{Material}
use Rattle.round.specs.Writes.{FirstRoom, SecondRoom}
use Rattle.round_produce.specs.Replies.{FirstCalled, SecondCalled}
use Rattle.session_check.specs.Stored.{inputs_of}
use Rattle.session_progress.specs.Progress as phases
use Rattle.session.specs.Steps.{on}
use Rattle.session.specs.Machine.{Step, clear, claim, commit, draw, check}
use Rattle.session_image.specs.Image.{decode}
use Rattle.session_image.specs.Images.{Host, host_reply, host_after, ChallengesCalled}
use Rattle.session_histories.specs.Elections.{Countable, election}
use Rattle.claims.specs.HostSteps.{host_run, HostUncleared, host_roll, Starts}

-- an election: clear and any calls, claim and any calls, commit of a round and any calls, draw and any calls. `wrote` is what was lodged
module _ (sheet : Bytes) (start : Host) (before between later last : List Step) (round : ℕ) (seed : Bytes) (wrote : FirstRoom) where
  -- what the host keeps when each of the last three is called, and at the end
  abbrev pub at_claim : Host
  at_claim = host_run before (host_after (clear (on sheet)) start)

  abbrev pub at_commit : Host
  at_commit = host_run between (host_after (claim wrote.claims) at_claim)

  abbrev pub at_draw : Host
  at_draw = host_run later (host_after (commit round wrote.head wrote.shares0 wrote.shares1) at_commit)

  abbrev pub at_end : Host
  at_end = host_run last (host_after (draw seed) at_draw)

  -- jdn_clear, jdn_claim, jdn_commit and jdn_draw are taken, and no other clear is
  pub record Conducted : Type 0 where
    pub starts : Starts start (on sheet)
    pub uncleared_before : HostUncleared before (host_after (clear (on sheet)) start)
    pub claim_taken : host_reply (claim wrote.claims) at_claim ≡ Taken
    pub uncleared_between : HostUncleared between (host_after (claim wrote.claims) at_claim)
    pub commit_taken : host_reply (commit round wrote.head wrote.shares0 wrote.shares1) at_commit ≡ Taken
    pub uncleared_later : HostUncleared later (host_after (commit round wrote.head wrote.shares0 wrote.shares1) at_commit)
    pub draw_taken : host_reply (draw seed) at_draw ≡ Taken
    pub uncleared_last : HostUncleared last (host_after (draw seed) at_draw)
    -- and the round is next due
    pub drawn : (decode at_end.image).progress.phase ≡ phases.drawn
    pub due : round ≡ (decode at_end.image).progress.checked

abbrev pub FromCalls : Type 0
FromCalls = (sheet : Bytes) (start : Host) (before between later last : List Step) (round : ℕ) (seed : Bytes) (material : Material)
    (room wrote : FirstRoom) (out told : Bytes) (second_room second_wrote : SecondRoom) (scratch : Bytes)
    -- jdn_produce_first is taken for the ballots that were admitted and not withdrawn at the claim, and leaves `wrote`, which is lodged
    → FirstCalled sheet material room Taken wrote
    → material.ballots ≡ flatten (host_roll before (host_after (clear (on sheet)) start) [])
    → Conducted sheet start before between later last round seed wrote
    → let h = at_end sheet start before between later last round seed wrote in
    -- jdn_challenges answers 0 and leaves `told`, and jdn_produce_second is taken with the side and the challenges in it
    ChallengesCalled h.image round 0 out told
    → SecondCalled sheet material (get_or told 0 0) (drop 1 told) second_room Taken second_wrote
    -- then jdn_check is taken, lent what they left
    → length scratch ≡ scratch_length
    → host_reply
    (check round (inputs_of sheet material.ballots wrote.claims wrote.head wrote.shares0 wrote.shares1 second_wrote.opening second_wrote.answers scratch)) h ≡ Taken

-- and turns come, so that this is not empty: over marks that are withdrawn before any ballot, ballots that can be admitted, and material over them for every round, the calls of an election (session_histories, specs/Elections.antt)
-- after a clear that is taken leave an image that says ended accepted
abbrev pub TurnsCome : Type 0
TurnsCome = (sheet : Bytes) (start : Host) (m : ℕ) (ballot : ℕ → Bytes) (material : ℕ → Material) (claims seed : Bytes) (e : ℕ) (early : ℕ → ℕ) → Starts start (on sheet)
    → Countable sheet m ballot material claims seed e early
    → (decode (host_run (election sheet m ballot material claims seed e early) (host_after (clear (on sheet)) start)).image).progress.phase ≡ phases.ended_accepted

-- and there is such an election, so that this claim is not empty either
pub record SomeElection : Type 0 where
  pub sheet : Bytes
  pub start : Host
  pub m : ℕ
  pub ballot : ℕ → Bytes
  pub material : ℕ → Material
  pub claims : Bytes
  pub seed : Bytes
  pub e : ℕ
  pub early : ℕ → ℕ
  pub some_early : 0 < e
  pub starts : Starts start (on sheet)
  pub countable : Countable sheet m ballot material claims seed e early
