-- How a session ends and begins, and what becomes of scratch, over the exported calls. A refusal ends (document 01: "Session and output buffers stay untouched, except that in a check a refusal listed after 16 ends the session refused").
-- Assumes nothing.
use Rattle.std.specs.Prelude.{◌≡◌, ◌≢◌, ◌⊎◌, false, List, ℕ, ◌≤◌, length}
use Rattle.codec.specs.Bytes.{Bytes, Octets, zeros}
use Rattle.codec.specs.Reply.{Taken, Refused}
use Rattle.sha3.specs.Sponge.{sha3}
use Rattle.sheet.specs.Reader.{sheet_of}
use Rattle.scratch.specs.Call.{zeroized}
use Rattle.session_check.specs.Stored.{Inputs}
use Rattle.session_progress.specs.Progress.{gathering, ended_refused}
use Rattle.session.specs.Steps.{on}
use Rattle.session.specs.Machine.{Step, clear, check}
use Rattle.session_image.specs.Image.{image_length, decode}
use Rattle.session_image.specs.Images.{Host, host, host_reply, host_after}
use Rattle.session_histories.specs.Runs.{Call, clears}
use Rattle.session_histories.specs.Conditions.{Reaches}
use Rattle.claims.specs.HostSteps.{host_trace, HostNoClear}

-- an image from which every step but clear is refused 31, and which stays as it is until a clear is taken
pub record Over (image : Bytes) : Type 0 where
  pub refused : (x : Step) (register : Bytes) → clears x Taken ≡ false → host_reply x (host image register) ≡ Refused 31 0
  pub stays : (cs : List Call) → HostNoClear cs image → host_trace cs image ≡ image

pub record RefusalEnds : Type 0 where
  -- a check that looks at the round itself, for none of what comes before it holds, and is refused, leaves a session that ended refused
  pub ends : (h : Host) (round : ℕ) (x : Inputs) → length h.image ≡ image_length → Octets h.image → Reaches (decode h.image) round x
      → host_reply (check round x) h ≢ Taken
      → let image = (host_after (check round x) h).image in
      ((decode image).progress.phase ≡ ended_refused) × Over image
  -- every other call that is not taken leaves image and register
  pub keeps : (x : Step) (h : Host) → Octets h.image → host_reply x h ≢ Taken → ((round : ℕ) (y : Inputs) → x ≡ check round y → Reaches (decode h.image) round y → ⊥) → host_after x h ≡ h
  -- and so is every session over that ended, refused or accepted, or whose phase is unknown
  pub over : (image : Bytes) → length image ≡ image_length → Octets image → ended_refused ≤ (decode image).progress.phase → Over image

-- a clear that is taken leaves a zeroed register, and a session at its start: on the sheet, with nothing gathered, closed, claimed, committed, drawn or checked
pub record Begun (sheet : Bytes) (h : Host) : Type 0 where
  pub register : h.register ≡ zeros 163840
  pub phase : (decode h.image).progress.phase ≡ gathering
  pub counts : let g = (decode h.image).progress in (g.used ≡ 0) × (g.closed ≡ 0) × (g.committed ≡ 0) × (g.checked ≡ 0)
  pub numbers : (decode h.image).numbers ≡ (sheet_of sheet).numbers
  pub digest : (decode h.image).sheet ≡ sha3 sheet
  pub empty : let s = decode h.image in (s.closing ≡ zeros 32) × (s.claim ≡ zeros 32) × (s.seed ≡ zeros 32) × (s.trail ≡ zeros 4096)

abbrev pub ClearBegins : Type 0
ClearBegins = (sheet : Bytes) (h : Host) → Octets h.image → host_reply (clear (on sheet)) h ≡ Taken → Begun sheet (host_after (clear (on sheet)) h)

-- "scratch is zeroed": what the contracts of all calls that are lent scratch say that they leave in it (`zeroized`) is zeros, unless 1 or 31 refuses the call, and then what it was
pub record ScratchZeroed : Type 0 where
  pub taken : (scratch : Bytes) → zeroized Taken scratch ≡ zeros (length scratch)
  pub refused : (number place : ℕ) (scratch : Bytes) → number ≢ 1 → number ≢ 31 → zeroized (Refused number place) scratch ≡ zeros (length scratch)
  pub left : (number place : ℕ) (scratch : Bytes) → (number ≡ 1) ⊎ (number ≡ 31) → zeroized (Refused number place) scratch ≡ scratch
