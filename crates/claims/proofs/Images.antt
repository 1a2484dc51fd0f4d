-- A call that is lent an image. Assumes nothing.
use mathlib.Core.Path.{◌≡◌, refl, sym}
use mathlib.Core.Logic.{◌↔◌, ◌≢◌, ◌⊎◌, inl, inr}
use mathlib.Core.Bool.{Bool, true, false, cond}
use lib.Dec.{eqb}
use lib.ListN.{length}
use borrow.Author.Tests.{eqb-true, eqb-false, eq-eqb, ne_eqb}
use Rattle.codec.specs.Bytes.{Bytes}
use Rattle.codec.specs.Reply.{Reply, Taken, Refused}
use Rattle.codec.proofs.Replies.{not_taken}
use Rattle.session.specs.declared.Session.{Session}
use Rattle.session_image.specs.Image.{image_length, decode}
use Rattle.session_image.specs.Images.{lent_reply}

-- a call that is lent an image answers what the session in it is answered exactly if the image has its length, where that is not 1
pub lent_exactly : (image : Bytes) (R : Session → Reply) (q : Reply) → q ≢ Refused 1 0 → (lent_reply image R ≡ q) ↔ ((length image ≡ image_length) × (R (decode image) ≡ q))
lent_exactly image R q other = (says (eqb (length image) image_length) refl, λ h. rw (eq-eqb (length image) image_length h.0) h.1)
  where
    says : (b : Bool) → eqb (length image) image_length ≡ b → cond b (R (decode image)) (Refused 1 0) ≡ q → (length image ≡ image_length) × (R (decode image) ≡ q)
    says true e t = (eqb-true (length image) image_length e, t)
    says false e t = absurd (other (sym t))

pub not_1 : Taken ≢ Refused 1 0
not_1 e = not_taken 1 0 (sym e)

-- 1 also for an image of another length
pub lent_1 : (image : Bytes) (R : Session → Reply) → (lent_reply image R ≡ Refused 1 0) ↔ ((length image ≢ image_length) ⊎ ((length image ≡ image_length) × (R (decode image) ≡ Refused 1 0)))
lent_1 image R = (says (eqb (length image) image_length) refl, holds)
  where
    says : (b : Bool) → eqb (length image) image_length ≡ b → cond b (R (decode image)) (Refused 1 0) ≡ Refused 1 0
        → (length image ≢ image_length) ⊎ ((length image ≡ image_length) × (R (decode image) ≡ Refused 1 0))
    says true e t = inr (eqb-true (length image) image_length e, t)
    says false e t = inl (eqb-false (length image) image_length e)

    holds : (length image ≢ image_length) ⊎ ((length image ≡ image_length) × (R (decode image) ≡ Refused 1 0)) → lent_reply image R ≡ Refused 1 0
    holds (inl n) = rw (ne_eqb (length image) image_length n)
    holds (inr h) = rw (eq-eqb (length image) image_length h.0) h.1

-- and so if what that asks holds
pub over_answer : (image : Bytes) (R : Session → Reply) (q : Reply) {Holds : Type 0} → q ≢ Refused 1 0 → (R (decode image) ≡ q) ↔ Holds
    → (lent_reply image R ≡ q) ↔ ((length image ≡ image_length) × Holds)
over_answer image R q other exactly =
    let l = lent_exactly image R q other in
    (λ e. let h = l.0 e in (h.0, exactly.0 h.1), λ h. l.1 (h.0, exactly.1 h.1))

pub over_image : (image : Bytes) (R : Session → Reply) {Holds : Type 0} → (R (decode image) ≡ Taken) ↔ Holds → (lent_reply image R ≡ Taken) ↔ ((length image ≡ image_length) × Holds)
over_image image R exactly = over_answer image R Taken not_1 exactly
