-- When the calls that read are taken: challenges and turnout over a session, and the opened share over two slices. The numbers beside the conditions are those of the refusals that they
-- exclude. Assumes nothing.
use Rattle.std.specs.Prelude.{◌≡◌, ℕ, ◌+◌, ◌*◌, ◌/◌, ◌%◌, ◌^◌, ◌≤◌, ◌<◌, length}
use Rattle.codec.specs.Bytes.{Bytes}
use Rattle.session_progress.specs.Progress.{drawn}
use Rattle.session.specs.declared.Session.{Session}
use Rattle.session_histories.specs.Conditions.{ValidSession}

-- ---- over a session

-- from draw on, also once the session has ended, for any of its rounds; the output is the side and a challenge for each repetition
pub record TellsChallenges (s : Session) (round : ℕ) (out : Bytes) : Type 0 where
  pub sound : ValidSession s  -- 31
  pub phase : drawn ≤ s.progress.phase  -- 31
  pub within : round < s.numbers.rounds  -- 31
  pub size : length out ≡ 1 + s.numbers.repeats  -- 1

-- in any phase
pub record Counts (s : Session) (reg : Bytes) (enrolled : ℕ) : Type 0 where
  pub sound : ValidSession s  -- 31
  pub register_size : length reg ≡ 163840  -- 1
  pub some : 1 ≤ enrolled  -- 3
  pub few : enrolled ≤ 1000000  -- 3

-- ---- over two slices of shares

-- ballot j's opened share is there: side is 0 or 1, N a ring size, the slices are equal and whole ballots, and j is not past them
pub record ShareThere (side N length0 length1 j : ℕ) : Type 0 where
  pub side_high : side ≤ 1
  pub ring_low : 4 ≤ N
  pub ring_high : N ≤ 2048
  pub ring_power : (i : ℕ) × (N ≡ 2 ^ i)
  pub equal : length0 ≡ length1
  pub whole : length0 % (8 * N) ≡ 0
  pub within : j < length0 / (8 * N)
