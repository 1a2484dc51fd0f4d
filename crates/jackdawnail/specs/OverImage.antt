-- What a step over an image comes to, where it is handed to one call as a closure over the session and the bytes that are lent to it. Assumes nothing.
use Rattle.std.specs.Prelude.{◌≡◌, ℕ}
use Rattle.std.specs.Fn.{Once}
use denote.Ref.{MutBor}
use Rattle.codec.specs.Bytes.{Bytes}
use Rattle.codec.specs.Reply.{packed}
use Rattle.codec.specs.Refusal.{as_reply}
use Rattle.codec.specs.declared.Refusal.{Refusal}
use Rattle.session.specs.declared.Session.{Session}
use Rattle.session.specs.declared.Stepped.{Stepped}
use Rattle.session_image.specs.Image.{image_of, decode}

-- the step was called once, at the session that the image holds and the bytes that are lent; the image holds the session that it left, and the answer is its reply
pub record StepTaken {F : Type 0} (g : Once F (Session × (MutBor Bytes × Unit {0})) (Stepped Refusal × (MutBor Bytes × Unit {0})))
    (step : F) (image lent : Bytes) (answer : ℕ) (image' lent' : Bytes) : Type 0 where
  pub bytes : MutBor Bytes
  pub bytes_are : bytes.now ≡ lent
  pub bytes_left : MutBor Bytes
  pub stepped : Stepped Refusal
  pub met : g.post step (decode image, (bytes, tt)) (stepped, (bytes_left, tt))
  pub stored : image' ≡ image_of stepped.session
  pub left : lent' ≡ bytes_left.now
  pub replied : answer ≡ packed (as_reply stepped.reply)
