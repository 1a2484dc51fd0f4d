-- A step over an image, from the step over the session that the image holds. Assumes nothing.
use mathlib.Core.Path.{◌≡◌, sym, ap, ◌∙◌}
use mathlib.Core.Logic.{◌≢◌}
use Prim.Native.Nat.{ℕ}
use native.Mathlib.Omega.{arith}
use lib.ListN.{length}
use borrow.Author.Tests.{eq-eqb, ne_eqb}
use Rattle.codec.specs.Bytes.{Bytes}
use Rattle.std.proofs.Common.{Result, Ok, Err}
use Rattle.codec.specs.Reply.{packed, place_of, Reply, Refused}
use Rattle.codec.specs.Refusal.{place_of_refusal, packed_value}
use Rattle.codec.specs.declared.Refusal.{Refusal}
use Rattle.session.specs.Steps.{Turnout, turnout_replied, CountedAs}
use Rattle.session.specs.declared.Session.{Session}
use Rattle.scratch.specs.Call.{zeroized}
use Rattle.session_check.specs.Stored.{Inputs}
use Rattle.session.specs.Machine.{Step, check, State, state, reply, after}
use Rattle.session.specs.Internal.{Stepped, Done, CheckDone}
use Rattle.session_image.specs.Image.{image_length, image_of, decode}
use Rattle.session_image.specs.Images.{Host, host, lent_reply, host_reply, host_after, StepCalled, CheckCalled, counted_answer}

module _ (image : Bytes) (asked : Session → Reply) where
  -- an image of another length is refused 1
  pub wrong_reply : length image ≢ image_length → lent_reply image asked ≡ Refused 1 0
  wrong_reply short = rw (ne_eqb (length image) image_length short)

  -- one of the right length holds the session that is asked
  pub held_reply : length image ≡ image_length → lent_reply image asked ≡ asked (decode image)
  held_reply long = rw (eq-eqb (length image) image_length long)

module _ (x : Step) (h : Host) where
  -- everything is left
  pub wrong : length h.image ≢ image_length → StepCalled x h 1 h
  unfolding host_reply host_after
  wrong short = let e = ne_eqb (length h.image) image_length short in record { replied = rw e; image_left = rw e; register_left = rw e }

  -- the session that the step leaves is stored
  pub over : length h.image ≡ image_length → {s : Session} → s ≡ decode h.image → {r : Stepped} {register image : Bytes} {answer : ℕ} → Done x (state s h.register) r register
      → (answer ≡ packed r.reply) × (image ≡ image_of r.session) → StepCalled x h answer (host image register)
  unfolding host_reply host_after
  over long held d k =
      let e = eq-eqb (length h.image) image_length long in
      let at = ap (λ (z : Session). state z h.register) held in
      record {
        replied = rw e (k.0 ∙ ap packed (d.replied ∙ ap (reply x) at));
        image_left = rw e (k.1 ∙ ap image_of (d.session ∙ ap (λ (z : State). (after x z).session) at));
        register_left = rw e (d.register_left ∙ ap (λ (z : State). (after x z).register) at);
      }

-- ---- a check, with scratch

module _ (round : ℕ) (x : Inputs) (image : Bytes) where
  pub wrong_check : length image ≢ image_length → CheckCalled round x image 1 image x.scratch
  unfolding host_reply zeroized
  wrong_check short = record {
    called = λ register. wrong (check round x) (host image register) short;
    cleared = λ register. rw (ne_eqb (length image) image_length short);
  }

  pub over_check : length image ≡ image_length → {s : Session} → s ≡ decode image → {r : Stepped} {scratch image' : Bytes} {answer : ℕ} → CheckDone round x s r scratch
      → (answer ≡ packed r.reply) × (image' ≡ image_of r.session) → CheckCalled round x image answer image' scratch
  unfolding host_reply
  over_check long held d k = record {
    called = λ register. over (check round x) (host image register) long held (d.done register) k;
    cleared = λ register. d.cleared
        ∙ ap (λ (q : Reply). zeroized q x.scratch)
        ((d.done register).replied ∙ ap (λ (z : Session). reply (check round x) (state z register)) held ∙ sym (held_reply image (λ (z : Session). reply (check round x) (state z register)) long));
  }

-- ---- a turnout, as the one number that the host is answered: a refusal of it has no place

pub counted : (r : Result ℕ Refusal) {t : Turnout} → CountedAs t r → packed_value r ≡ counted_answer t
counted (Ok thousandths) h = ap counted_answer h.0
counted (Err why) h =
    let none : place_of_refusal why ≡ 0 = ap place_of (h.1 ∙ ap turnout_replied (sym h.0)) in
    rw (none, ← h.0) (omega arith)
