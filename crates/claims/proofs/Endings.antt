-- The claims of specs/Endings.antt, from what an ended session does (session_histories, proofs/Ended.antt). Assumes nothing.
use mathlib.Core.Path.{◌≡◌, refl, sym, ap, subst, ◌∙◌}
use mathlib.Core.Logic.{◌≢◌, ◌⊎◌, inl, inr}
use mathlib.Core.Bool.{Bool, true, false}
use mathlib.Core.List.{List, [], ◌∷◌}
use Prim.Native.Nat.{ℕ, ◌<◌}
use native.Mathlib.Omega.{arith}
use lib.Dec.{eqb}
use lib.ListN.{length}
use borrow.Author.Tests.{eq-eqb, eqb-true}
use Rattle.codec.specs.Bytes.{Bytes, Octets, zeros}
use Rattle.codec.specs.Reply.{Taken, Refused}
use Rattle.codec.proofs.Replies.{not_taken}
use Rattle.scratch.specs.Call.{zeroized}
use Rattle.scratch.proofs.Zeroizing.{zeroized_taken, zeroized_refused, kept_length, kept_state}
use Rattle.register.specs.Register.{register_length}
use Rattle.session_check.specs.Stored.{Inputs}
use Rattle.session.specs.declared.Session.{Session}
use Rattle.session.specs.Steps.{on, cleared, refused_by}
use Rattle.session.specs.Machine.{Step, clear, check, State, state, reply, after}
use Rattle.session_image.specs.Image.{image_length, image_of, decode}
use Rattle.session_image.proofs.Law.{store_load}
use Rattle.session_image.specs.Images.{Host, host, host_reply, host_after}
use Rattle.session_histories.specs.Runs.{Call, clears}
use Rattle.session_histories.specs.Conditions.{Reaches}
use Rattle.session_histories.proofs.Ended.{refused_keeps, ended_refuses, refused_stays, check_ends}
use Rattle.session_histories.proofs.Stepped.{after_taken}
use Rattle.claims.specs.HostSteps.{host_trace, HostNoClear}
use Rattle.claims.specs.Endings.{Over, RefusalEnds, Begun, ScratchZeroed}
use Rattle.claims.proofs.Images.{lent_exactly, not_1}
use Rattle.claims.proofs.HostSteps.{Holds, bytes_hold, replies, image_left, register_left}

-- the image that a call leaves
image_after : (x : Step) (h : Host) → length h.image ≡ image_length → (host_after x h).image ≡ image_of (after x (state (decode h.image) h.register)).session
unfolding host_after
image_after x h sized = rw (eq-eqb (length h.image) image_length sized)

-- ---- an image of an ended session

module _ (image : Bytes) (sized : length image ≡ image_length) (stored : image_of (decode image) ≡ image) (ended : 3 < (decode image).progress.phase) where
  abbrev s : Session
  s = decode image

  answers : (x : Step) (register : Bytes) → host_reply x (host image register) ≡ reply x (state s register)
  unfolding host_reply
  answers x register = rw (eq-eqb (length image) image_length sized)

  not_cleared : (x : Step) (register : Bytes) → clears x (host_reply x (host image register)) ≡ false → reply x (state s register) ≢ Taken
  not_cleared x register n e =
      let t : clears x Taken ≡ false = ap (clears x) (sym (answers x register ∙ e)) ∙ n in
      not_taken 31 0 (sym (ended_refuses s register ended x t) ∙ e)

  left : (x : Step) (register : Bytes) → reply x (state s register) ≢ Taken → (host_after x (host image register)).image ≡ image
  left x register n = image_after x (host image register) sized ∙ ap (λ (z : State). image_of z.session) (refused_stays s register ended x n) ∙ stored

  unchanged : (cs : List Call) → HostNoClear cs image → host_trace cs image ≡ image
  unfolding host_trace HostNoClear
  unchanged [] n = λ i. image
  unchanged (c ∷ cs) n =
      let e = left c.step c.register (not_cleared c.step c.register n.0) in
      ap (host_trace cs) e ∙ unchanged cs (rw e at n.1)

  over : Over image
  over = record { refused = λ x register n. answers x register ∙ ended_refuses s register ended x n; stays = unchanged }

-- ---- a check that is refused for its round

module _ (h : Host) (round : ℕ) (x : Inputs) (sized : length h.image ≡ image_length) (octets : Octets h.image) (reaches : Reaches (decode h.image) round x)
    (refused : host_reply (check round x) h ≢ Taken) where
  abbrev was : Session
  was = decode h.image

  abbrev image : Bytes
  image = (host_after (check round x) h).image

  lent : Holds h.image was
  lent = bytes_hold h.image sized octets

  step : after (check round x) (state was h.register) ≡ state (refused_by was) h.register
  step = check_ends was h.register round x reaches (λ t. refused (replies h.image h.register was lent (check round x) ∙ t))

  written : image ≡ image_of (refused_by was)
  written = image_after (check round x) h sized ∙ ap (λ (z : State). image_of z.session) step

  now : Holds image (refused_by was)
  now = subst (λ (z : State). Holds image z.session) step (image_left h.image h.register was lent (check round x))

  phase : (decode image).progress.phase ≡ 4
  unfolding refused_by
  phase = ap (λ (z : Session). z.progress.phase) now.session

  ends_over : Over image
  ends_over = over image now.sized (ap image_of now.session ∙ sym written) (omega (arith, phase))

-- ---- a call that is not taken, and looked at no round

module _ (x : Step) (h : Host) (octets : Octets h.image) (refused : host_reply x h ≢ Taken)
    (none : (round : ℕ) (y : Inputs) → x ≡ check round y → Reaches (decode h.image) round y → ⊥) where
  not_taken_in : eqb (length h.image) image_length ≡ true → reply x (state (decode h.image) h.register) ≢ Taken
  unfolding host_reply
  not_taken_in e t = refused (rw e t)

  kept_by : (b : Bool) → eqb (length h.image) image_length ≡ b → host_after x h ≡ h
  unfolding host_after
  kept_by true e =
      rw e (ap (λ (z : State). host (image_of z.session) z.register) (refused_keeps (state (decode h.image) h.register) x none (not_taken_in e))
      ∙ ap (λ (image : Bytes). host image h.register) (store_load h.image (eqb-true (length h.image) image_length e) octets))
  kept_by false e = rw e

  kept_host : host_after x h ≡ h
  kept_host = kept_by (eqb (length h.image) image_length) refl

-- ---- a clear that is taken

module _ (sheet : Bytes) (h : Host) (octets : Octets h.image) (taken : host_reply (clear (on sheet)) h ≡ Taken) where
  abbrev st : State
  st = state (decode h.image) h.register

  lent_taken : (length h.image ≡ image_length) × (reply (clear (on sheet)) st ≡ Taken)
  unfolding host_reply
  lent_taken = (lent_exactly h.image (λ (z : Session). reply (clear (on sheet)) (state z h.register)) Taken not_1).0 taken

  held : Holds h.image (decode h.image)
  held = bytes_hold h.image lent_taken.0 octets

  left_by : after (clear (on sheet)) st ≡ state (cleared (on sheet)) (zeros register_length)
  left_by = after_taken st (clear (on sheet)) lent_taken.1

  session_is : decode (host_after (clear (on sheet)) h).image ≡ cleared (on sheet)
  session_is = (image_left h.image h.register (decode h.image) held (clear (on sheet))).session ∙ ap (λ (z : State). z.session) left_by

  pub begun : Begun sheet (host_after (clear (on sheet)) h)
  unfolding cleared
  begun =
      let is = session_is in
      record {
        register = register_left h.image h.register (decode h.image) held (clear (on sheet)) ∙ ap (λ (z : State). z.register) left_by;
        phase = ap (λ (z : Session). z.progress.phase) is;
        counts = (ap (λ (z : Session). z.progress.used) is, ap (λ (z : Session). z.progress.closed) is, ap (λ (z : Session). z.progress.committed) is, ap (λ (z : Session). z.progress.checked) is);
        numbers = ap (λ (z : Session). z.numbers) is;
        digest = ap (λ (z : Session). z.sheet) is;
        empty = (ap (λ (z : Session). z.closing) is, ap (λ (z : Session). z.claim) is, ap (λ (z : Session). z.seed) is, ap (λ (z : Session). z.trail) is);
      }

pub refusal_ends : RefusalEnds
refusal_ends = record {
  ends = λ h round x sized octets reaches refused. (phase h round x sized octets reaches refused, ends_over h round x sized octets reaches refused);
  keeps = kept_host;
  over = λ image sized octets l. over image sized (store_load image sized octets) (omega arith);
}

pub scratch_zeroed : ScratchZeroed
scratch_zeroed = record {
  taken = λ scratch. zeroized_taken Taken scratch refl;
  refused = λ number place scratch n m. zeroized_refused (Refused number place) number place scratch refl n m;
  left = unzeroized;
}
  where
    unzeroized : (number place : ℕ) (scratch : Bytes) → (number ≡ 1) ⊎ (number ≡ 31) → zeroized (Refused number place) scratch ≡ scratch
    unzeroized number place scratch (inl e) = kept_length (Refused number place) number place scratch refl e
    unzeroized number place scratch (inr e) = kept_state (Refused number place) number place scratch refl (λ f. omega arith) e
