-- The calls of a session over its lent image (document 01, "Register and session"): the length of the image first, then the step over the session that it holds, whose session the
-- image holds afterwards. Assumes nothing.
use Rattle.std.specs.Prelude.{◌≡◌, cond, ℕ, ◌*◌, eqb, length}
use Rattle.codec.specs.Bytes.{Bytes}
use Rattle.codec.specs.Reply.{first, leaves, packed, Reply, Refused}
use Rattle.scratch.specs.Call.{zeroized}
use Rattle.register.specs.Register as entries
use Rattle.session_check.specs.Stored.{Inputs}
use Rattle.session.specs.declared.Session.{Session}
use Rattle.session.specs.Steps as turnout
use Rattle.session.specs.Steps.{Turnout, Counted, challenges_tests, challenges_out, turnout_tests, turnout_by}
use Rattle.session.specs.Machine.{Step, check, state, reply, after}
use Rattle.session_image.specs.Image.{image_length, image_of, decode}

-- what the host keeps between two calls
pub record Host : Type 0 where
  pub image : Bytes
  pub register : Bytes

abbrev pub host : Bytes → Bytes → Host
host image register = record { image = image; register = register }

-- ---- the wrapper

-- the reply of a call that is lent an image: 1 for one of another length, before all else
abbrev pub lent_reply : (image : Bytes) → (Session → Reply) → Reply
lent_reply image asked = cond (eqb (length image) image_length) (asked (decode image)) (Refused 1 0)

unfoldable pub host_reply : Step → Host → Reply
host_reply x h = lent_reply h.image (λ s. reply x (state s h.register))

-- the session and the register that a step leaves, as the host keeps them
unfoldable pub host_after : Step → Host → Host
host_after x h =
    let st = after x (state (decode h.image) h.register) in
    cond (eqb (length h.image) image_length) (host (image_of st.session) st.register) h

-- ---- what a call promises: the number that it answers, and the image and the register that it leaves

pub record StepCalled (x : Step) (h : Host) (answer : ℕ) (h' : Host) : Type 0 where
  pub replied : answer ≡ packed (host_reply x h)
  pub image_left : h'.image ≡ (host_after x h).image
  pub register_left : h'.register ≡ (host_after x h).register

-- the same of a step that is lent no register: with any, which it leaves
abbrev pub StepCalledAlone : Step → (image : Bytes) (answer : ℕ) (image' : Bytes) → Type 0
StepCalledAlone x image answer image' = (register : Bytes) → StepCalled x (host image register) answer (host image' register)

-- and of a check, with what it leaves in scratch
pub record CheckCalled (round : ℕ) (x : Inputs) (image : Bytes) (answer : ℕ) (image' scratch' : Bytes) : Type 0 where
  pub called : StepCalledAlone (check round x) image answer image'
  pub cleared : (register : Bytes) → scratch' ≡ zeroized (host_reply (check round x) (host image register)) x.scratch

-- ---- the two that leave the session as it is

unfoldable pub challenges_reply : (image : Bytes) (round : ℕ) (out : Bytes) → Reply
challenges_reply image round out = lent_reply image (λ s. first (challenges_tests s round out))

pub record ChallengesCalled (image : Bytes) (round answer : ℕ) (out out' : Bytes) : Type 0 where
  pub replied : answer ≡ packed (challenges_reply image round out)
  pub written : out' ≡ leaves (challenges_reply image round out) (challenges_out (decode image) round) out

unfoldable pub turnout_reply : (image reg : Bytes) (enrolled : ℕ) → Reply
turnout_reply image reg enrolled = lent_reply image (λ s. first (turnout_tests s reg enrolled))

-- the thousandths are the value of a count that is taken
abbrev pub counted_answer : Turnout → ℕ
counted_answer (Counted thousandths) = 256 * thousandths
counted_answer (turnout.Refused number) = number

unfoldable pub turnout_answer : (image reg : Bytes) (enrolled : ℕ) → ℕ
turnout_answer image reg enrolled = counted_answer (turnout_by (turnout_reply image reg enrolled) (entries.turnout reg (decode image).progress.used enrolled))
