-- Lists of steps, of a session with its register and of the exported calls over images (document 01, "Register and session"). What one call answers and leaves, as its contract has it (jackdawnail, src/steps.rt), is in
-- session_image, specs/Images.antt. What was lodged and the roll are read off the calls that were taken. Assumes nothing.
use Rattle.std.specs.Prelude.{◌≡◌, false, List, [], ◌∷◌, length}
use Rattle.codec.specs.Bytes.{Bytes, Octets}
use Rattle.codec.specs.Reply.{leaves, Reply, Taken}
use Rattle.session.specs.declared.Session.{Session}
use Rattle.session.specs.Steps.{Beginning}
use Rattle.session.specs.Machine.{Step, clear, State, state, reply, after}
use Rattle.session_image.specs.Image.{image_length, decode}
use Rattle.session_image.specs.Images.{Host, host, host_reply, host_after}
use Rattle.session_histories.specs.Runs.{History, empty_history, history_after, roll_after, clears, Call, call}

-- a clear that is taken, over any bytes of an image's length
pub record Starts (h : Host) (b : Beginning) : Type 0 where
  pub sized : length h.image ≡ image_length
  pub octets : Octets h.image
  pub taken : host_reply (clear b) h ≡ Taken

-- ---- steps that are each given what the last one left

-- a way to take steps: what one step hands to the next, what a step answers and leaves, the session and the register in it, whether it has its length and is bytes, and when a
-- clear is taken
pub record Stepping : Type 1 where
  pub Kept : Type 0
  pub answer : Step → Kept → Reply
  pub left : Step → Kept → Kept
  pub session : Kept → Session
  pub register : Kept → Bytes
  pub Sized : Kept → Type 0
  pub InBytes : Kept → Type 0
  pub ClearTaken : Kept → Beginning → Type 0

-- the steps of a session, with its register
abbrev pub session_steps : Stepping
session_steps = record {
  Kept = State;
  answer = reply;
  left = after;
  session = λ st. st.session;
  register = λ st. st.register;
  Sized = λ st. Unit;
  InBytes = λ st. Unit;
  ClearTaken = λ st b. reply (clear b) st ≡ Taken;
}

-- and the exported calls, over what a host keeps
abbrev pub step_calls : Stepping
step_calls = record {
  Kept = Host;
  answer = host_reply;
  left = host_after;
  session = λ h. decode h.image;
  register = λ h. h.register;
  Sized = λ h. length h.image ≡ image_length;
  InBytes = λ h. Octets h.image;
  ClearTaken = Starts;
}

-- what is left after a list of steps
unfoldable pub after_all : (M : Stepping) → List Step → M.Kept → M.Kept
after_all M [] k = k
after_all M (x ∷ xs) k = after_all M xs (M.left x k)

-- no clear is taken
unfoldable pub NoClearTaken : (M : Stepping) → List Step → M.Kept → Type 0
NoClearTaken M [] k = Unit
NoClearTaken M (x ∷ xs) k = (clears x (M.answer x k) ≡ false) × NoClearTaken M xs (M.left x k)

-- the roll, which is the ballots admitted and not withdrawn
unfoldable pub roll_of : (M : Stepping) → List Step → M.Kept → List Bytes → List Bytes
roll_of M [] k roll = roll
roll_of M (x ∷ xs) k roll = roll_of M xs (M.left x k) (leaves (M.answer x k) (roll_after x roll) roll)

-- ---- each call is lent the image that the last one left, and any register

unfoldable pub host_trace : List Call → (image : Bytes) → Bytes
host_trace [] image = image
host_trace (c ∷ cs) image = host_trace cs (host_after c.step (host image c.register)).image

-- what was taken since the last clear taken
unfoldable pub host_history : List Call → (image : Bytes) → History → History
host_history [] image h = h
host_history (c ∷ cs) image h =
    let lent = host image c.register in
    host_history cs (host_after c.step lent).image (leaves (host_reply c.step lent) (history_after c.step (state (decode image) c.register) h) h)

-- no clear is taken
unfoldable pub HostNoClear : List Call → (image : Bytes) → Type 0
HostNoClear [] image = Unit
HostNoClear (c ∷ cs) image =
    let lent = host image c.register in
    (clears c.step (host_reply c.step lent) ≡ false) × HostNoClear cs (host_after c.step lent).image

-- ---- each call is lent the image and the register that the last one left

abbrev pub host_run : List Step → Host → Host
host_run = after_all step_calls

-- the same as calls, with the registers that they are lent
unfoldable pub host_calls : List Step → Host → List Call
host_calls [] h = []
host_calls (x ∷ xs) h = call x h.register ∷ host_calls xs (host_after x h)

abbrev pub HostUncleared : List Step → Host → Type 0
HostUncleared = NoClearTaken step_calls

abbrev pub host_roll : List Step → Host → List Bytes → List Bytes
host_roll = roll_of step_calls

-- ---- from a clear that is taken

-- what is claimed of every list of calls from such a clear on, each lent any register. `Of` is said of the clear, the calls, the image that the first of them is lent, the image that the last one
-- leaves, and what was lodged
abbrev pub FromClear : (Beginning → List Call → (first last : Bytes) → History → Type 0) → Type 0
FromClear Of = (start : Host) (b : Beginning) (cs : List Call) → Starts start b
    → let first = (host_after (clear b) start).image in
    Of b cs first (host_trace cs first) (host_history cs first (empty_history b))
