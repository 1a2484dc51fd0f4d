-- What a step that is taken adds to what was lodged and to the roll (document 01, "Register and session", and the paragraph on demand 3's last sentence). Assumes nothing.
use Rattle.std.specs.Prelude.{Bool, true, false, cond, List, [], ◌∷◌, ◌++◌, ℕ, eqb}
use Rattle.codec.specs.Bytes.{Bytes}
use Rattle.codec.specs.Reply.{Reply, Taken, Refused}
use Rattle.register.specs.Register.{standing_digests, mark_of}
use Rattle.session.specs.Steps.{Beginning}
use Rattle.session.specs.Machine.{Step, clear, admit, withdraw, close, claim, commit, draw, check, State}

-- a first message, as it is lent
pub record Message : Type 0 where
  pub head : Bytes
  pub shares0 : Bytes
  pub shares1 : Bytes

abbrev pub message : (head shares0 shares1 : Bytes) → Message
message head shares0 shares1 = record { head = head; shares0 = shares0; shares1 = shares1 }

-- what was lodged, that is, taken since the last clear taken: the sheet, the batch, the claims and the first messages
pub record History : Type 0 where
  pub sheet : Bytes
  pub batch : List Bytes  -- the digests that close found standing, in order
  pub claims : Bytes
  pub firsts : ℕ → Message  -- the first messages, by round

-- nothing but the sheet
abbrev pub empty_history : Beginning → History
empty_history b = record { sheet = b.sheet; batch = []; claims = []; firsts = λ k. message [] [] [] }

-- the history after a step that is taken
unfoldable pub history_after : Step → State → History → History
history_after (clear b) st h = empty_history b
history_after (admit ballot) st h = h
history_after (withdraw mark) st h = h
history_after close st h = record { sheet = h.sheet; batch = standing_digests st.register st.session.progress.used; claims = h.claims; firsts = h.firsts }
history_after (claim claims) st h = record { sheet = h.sheet; batch = h.batch; claims = claims; firsts = h.firsts }
history_after (commit k head shares0 shares1) st h = record {
  sheet = h.sheet;
  batch = h.batch;
  claims = h.claims;
  firsts = λ j. cond (eqb j k) (message head shares0 shares1) (h.firsts j);
}
history_after (draw seed) st h = h
history_after (check k x) st h = h

-- the ballots that do not have the mark
unfoldable pub without : ℕ → List Bytes → List Bytes
without mark [] = []
without mark (b ∷ bs) = cond (eqb (mark_of b) mark) (without mark bs) (b ∷ without mark bs)

-- the roll, which is the ballots admitted and not withdrawn, after a step that is taken
unfoldable pub roll_after : Step → List Bytes → List Bytes
roll_after (clear b) bs = []
roll_after (admit ballot) bs = bs ++ (ballot ∷ [])
roll_after (withdraw mark) bs = without mark bs
roll_after close bs = bs
roll_after (claim claims) bs = bs
roll_after (commit k head shares0 shares1) bs = bs
roll_after (draw seed) bs = bs
roll_after (check k x) bs = bs

-- a clear that is taken
abbrev pub clears : Step → Reply → Bool
clears (clear b) Taken = true
clears (clear b) (Refused number place) = false
clears (admit ballot) r = false
clears (withdraw mark) r = false
clears close r = false
clears (claim claims) r = false
clears (commit k head shares0 shares1) r = false
clears (draw seed) r = false
clears (check k x) r = false

-- a step, and the register that it is lent
pub record Call : Type 0 where
  pub step : Step
  pub register : Bytes

abbrev pub call : Step → Bytes → Call
call x reg = record { step = x; register = reg }
