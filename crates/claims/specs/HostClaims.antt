-- The claims about lists of the exported calls over images, from a call of clear that is taken (the second and the third demand; document 01, the paragraph on demand 3's last
-- sentence). Assumes nothing.
use Rattle.std.specs.Prelude.{◌≡◌, ℕ, ◌<◌, length}
use mathlib.Core.List.{List, [], ◌∷◌, ◌++◌, Memᴰ, map, flatten}
use Rattle.codec.specs.Bytes.{Bytes, Octets}
use Rattle.codec.specs.Reply.{Taken, Refused}
use Rattle.sha3.specs.Sponge.{sha3}
use Rattle.sheet.specs.Reader.{sheet_of}
use Rattle.round.specs.Layout.{ballot_length}
use Rattle.round.specs.Producer.{Material}
use Rattle.session_digests.specs.Digests.{ballot_digests}
use Rattle.session_check.specs.Stored.{Inputs}
use Rattle.session_progress.specs.Progress.{ended_accepted}
use Rattle.session_image.specs.Image.{decode}
use Rattle.session.specs.Steps.{Beginning, stored_for}
use Rattle.session.specs.Machine.{Step, clear, check}
use Rattle.session_histories.specs.Runs.{empty_history, Call, call}
use Rattle.session_histories.specs.Conditions.{ValidSession, Checks}
use Rattle.session_histories.specs.Claims.{Turn, Undue}
use Rattle.session_histories.specs.Bound.{Bound, BoundBytes, LodgesAll, LentBytes}
use Rattle.session_image.specs.Images.{Host, host, host_reply, host_after}
use Rattle.claims.specs.HostSteps.{host_trace, host_history, HostNoClear, host_run, host_calls, host_roll, Starts, FromClear}

-- ---- each call is lent what the last one left

-- the ballots admitted and not withdrawn are the batch: its digests are theirs, in order, and each has a ballot's length
abbrev pub HostRollIsBatch : Type 0
HostRollIsBatch = (start : Host) (b : Beginning) (steps : List Step) → Starts start b
    → let h = host_after (clear b) start in
    let s = decode (host_run steps h).image in
    let batch = (host_history (host_calls steps h) h.image (empty_history b)).batch in
    let roll = host_roll steps h [] in
    0 < s.progress.phase
    → (batch ≡ map sha3 roll) × ((y : Bytes) → Memᴰ y roll → length y ≡ ballot_length s.numbers.ring)
    × (ballot_digests (ballot_length s.numbers.ring) (length batch) (flatten roll) ≡ batch)

-- calls that are each lent the register that the last one left are calls that are each lent some register: what is claimed below holds of them too, with that roll for a turn's batch
abbrev pub HostOwnRegister : Type 0
HostOwnRegister = (steps : List Step) (h : Host) → host_trace (host_calls steps h) h.image ≡ (host_run steps h).image

-- ---- each call is lent the image that the last one left, and any register

-- a check of a round that was taken, since the last clear taken: `before` are the calls before it, `later` those behind it
pub record RoundChecked (first : Bytes) (cs : List Call) (round : ℕ) : Type 0 where
  pub before : List Call
  pub register : Bytes
  pub inputs : Inputs
  pub later : List Call
  pub listed : cs ≡ before ++ (call (check round inputs) register ∷ later)
  pub uncleared : HostNoClear later (host_after (check round inputs) (host (host_trace before first) register)).image
  -- it was taken, so all that a check of this round asks for was found
  pub taken : host_reply (check round inputs) (host (host_trace before first) register) ≡ Taken
  pub checks : Octets inputs.head → Checks (decode (host_trace before first)) round inputs
  -- what it was held against is what the image holds at the end: numbers, closed count, the digests of sheet, closing, claims and the round's first message, and the seed
  pub stored : stored_for (decode (host_trace before first)) round ≡ stored_for (decode (host_trace cs first)) round

-- every round that the image counts as checked was checked
abbrev pub HostRoundsChecked : Type 0
HostRoundsChecked = FromClear (λ b cs first last h. (k : ℕ) → k < (decode last).progress.checked → RoundChecked first cs k)

-- where the image says that the session ended accepted, every round was checked
abbrev pub HostEndedAccepted : Type 0
HostEndedAccepted = FromClear (λ b cs first last h. (decode last).progress.phase ≡ ended_accepted → (k : ℕ) → k < (decode last).numbers.rounds → RoundChecked first cs k)

-- a check that is taken was lent what was lodged, or what it was lent and what was lodged collide, in strings of bytes where what is lent is bytes
abbrev pub HostBound : Type 0
HostBound = FromClear (λ b cs first last h. (register : Bytes) (k : ℕ) (x : Inputs) → host_reply (check k x) (host last register) ≡ Taken
    → Bound h k x × (Octets b.sheet → LodgesAll cs → LentBytes x → BoundBytes h k x))

-- a round of the producer's that is lodged is accepted at its turn
abbrev pub HostHonestAccepted : Type 0
HostHonestAccepted = FromClear (λ b cs first last h. (register : Bytes) (material : Material) (round : ℕ) (x : Inputs) → Turn (decode last) h material round x
    → host_reply (check round x) (host last register) ≡ Taken)

-- the session in the image is valid, and has the numbers of the sheet of the last clear taken
abbrev pub HostStaysValid : Type 0
HostStaysValid = FromClear (λ b cs first last h. ValidSession (decode last) × ((decode last).numbers ≡ (sheet_of h.sheet).numbers))

-- so 31 is met for wrong phase or round, with place 0, and for nothing else
abbrev pub HostOnlyPhaseOrRound : Type 0
HostOnlyPhaseOrRound = FromClear (λ b cs first last h. (x : Step) (register : Bytes) (place : ℕ)
    → (host_reply x (host last register) ≡ Refused 31 place → Undue x (decode last)) × (Undue x (decode last) → host_reply x (host last register) ≡ Refused 31 0))
