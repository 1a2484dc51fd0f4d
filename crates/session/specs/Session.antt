-- The session (document 01, "Register and session"): which sessions are valid, and how a step changes one. Assumes nothing.
use Rattle.std.specs.Prelude.{Bool, ℕ, ◌*◌}
use Rattle.codec.specs.Bytes.{Bytes, part}
use Rattle.session_progress.specs.Progress.{in_limits}
use Rattle.session_progress.specs.declared.Progress.{Progress}
use Rattle.session.specs.declared.Session.{Session}

-- a known phase, counts within their limits, and numbers that 3 and 4 take
abbrev pub valid : Session → Bool
valid s = in_limits s.numbers s.progress

-- the digest of the first message of round k
unfoldable pub trail_at : Session → ℕ → Bytes
trail_at s k = part s.trail (32 * k) 32

-- the session with all that a step other than clear may change
abbrev pub changed : Session → Progress → (closing claim seed trail : Bytes) → Session
changed s progress closing claim seed trail = record {
  progress = progress;
  numbers = s.numbers;
  sheet = s.sheet;
  closing = closing;
  claim = claim;
  seed = seed;
  trail = trail;
}
