-- A step over an image, from the step over the session that the image holds, where it is handed over as a closure. Assumes nothing.
use mathlib.Core.Path.{◌≡◌, refl}
use mathlib.Core.Logic.{◌≢◌}
use mathlib.Core.Bool.{Bool, true, false}
use mathlib.Core.List.{[]}
use Prim.Native.Nat.{ℕ}
use lib.Dec.{eqb}
use lib.ListN.{length}
use borrow.Author.Tests.{eqb-true, eqb-false}
use denote.Ref.{MutBor}
use Rattle.std.specs.Fn.{Once}
use Rattle.codec.specs.Bytes.{Bytes}
use Rattle.codec.specs.declared.Refusal.{Refusal}
use Rattle.session.specs.declared.Session.{Session}
use Rattle.session.specs.declared.Stepped.{Stepped}
use Rattle.session.specs.Machine.{Step, state}
use Rattle.session.specs.Internal.{Done, as_stepped}
use Rattle.session_image.specs.Image.{image_length, decode}
use Rattle.session_image.specs.Images.{host, StepCalled}
use Rattle.session_image.proofs.Over.{wrong, over}
use Rattle.jackdawnail.specs.OverImage.{StepTaken}

by_length : {P : Type 0} (n m : ℕ) → (n ≢ m → P) → (n ≡ m → P) → P
by_length {P} n m other same = go (eqb n m) refl
  where
    go : (b : Bool) → eqb n m ≡ b → P
    go true e = same (eqb-true n m e)
    go false e = other (eqb-false n m e)

-- an image of another length is left, and what is lent with it
abbrev Left : (image lent : Bytes) (answer : ℕ) (image' lent' : Bytes) → Type 0
Left image lent answer image' lent' = length image ≢ image_length → (answer ≡ 1) × (image' ≡ image) × (lent' ≡ lent)

module _ {F : Type 0} (g : Once F (Session × (MutBor Bytes × Unit {0})) (Stepped Refusal × (MutBor Bytes × Unit {0}))) (f : F) where
  -- what a call of the closure gives, at the session of an image
  abbrev Gives : (image lent : Bytes) → (Stepped Refusal → Bytes → Type 0) → Type 0
  Gives image lent Q = (p q : MutBor Bytes) (r : Stepped Refusal) → p.now ≡ lent → g.post f (decode image, (p, tt)) (r, (q, tt)) → Q r q.now

  -- a step that is lent the register
  pub stepped : (x : Step) (image register : Bytes) {answer : ℕ} {image' register' : Bytes} → Left image register answer image' register'
      → (length image ≡ image_length → StepTaken g f image register answer image' register')
      → Gives image register (λ r register'. Done x (state (decode image) register) (as_stepped r) register') → StepCalled x (host image register) answer (host image' register')
  stepped x image register left taken gives = by_length (length image) image_length
      (λ short. let e = left short in rw (e.0, e.1, e.2) (wrong x (host image register) short))
      (λ long.
      let t = taken long in
      rw t.left (over x (host image register) long refl (gives t.bytes t.bytes_left t.stepped t.bytes_are t.met) (t.replied, t.stored)))

  -- one that is lent none, or the register to read
  pub stepped_over : (x : Step) (image register : Bytes) {answer : ℕ} {image' lent : Bytes} → Left image [] answer image' lent
      → (length image ≡ image_length → StepTaken g f image [] answer image' lent) → Gives image [] (λ r lent. Done x (state (decode image) register) (as_stepped r) register)
      → StepCalled x (host image register) answer (host image' register)
  stepped_over x image register left taken gives = by_length (length image) image_length
      (λ short. let e = left short in rw (e.0, e.1) (wrong x (host image register) short))
      (λ long. let t = taken long in over x (host image register) long refl (gives t.bytes t.bytes_left t.stepped t.bytes_are t.met) (t.replied, t.stored))
