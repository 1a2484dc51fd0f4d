-- The producer's round is refused by none of its own tests, in any session (specs/AnySession.antt). Assumes nothing.
use mathlib.Core.Path.{◌≡◌, refl, sym, ap, subst, ◌∙◌}
use mathlib.Core.Logic.{◌≢◌}
use mathlib.Core.Bool.{Bool, true, false, cond}
use mathlib.Core.List.{List, [], ◌∷◌, ◌++◌}
use Prim.Native.Nat.{ℕ, ◌*◌}
use native.Mathlib.Nat.{div-eq_of_eq-mul_right}
use native.Mathlib.Omega.{arith}
use borrow.Author.Tests.{eqb-true}
use lib.Dec.{eqb}
use lib.ListN.{length}
use Rattle.codec.specs.Bytes.{Bytes, Octets}
use Rattle.codec.specs.Reply.{Test, test, first, None, leaves, Reply, Taken, Refused}
use Rattle.codec.proofs.Replies.{taken_exactly, first_append}
use Rattle.sheet.specs.Sheet.{order}
use Rattle.round.specs.Layout.{ballot_length}
use Rattle.round.specs.Producer.{Material}
use Rattle.round.proofs.Many.{first_refused}
use Rattle.round_lengths.specs.Sheets.{ballots_in}
use Rattle.session_check.specs.Check.{stored_tests, early_tests}
use Rattle.session_check.proofs.Laws.{early_exactly}
use Rattle.session.specs.declared.Session.{Session}
use Rattle.session.specs.Steps.{stored_for, check_early, check_late, check_tests, refused_by}
use Rattle.session_image.specs.Image.{image_length, image_of, decode}
use Rattle.session_image.proofs.Law.{store_load}
use Rattle.session.specs.Machine.{check, State, state, next, reply, after}
use Rattle.session_image.specs.Images.{host, host_reply, host_after}
use Rattle.session_histories.specs.Claims.{Produced}
use Rattle.session_histories.proofs.Valid.{sheet_exactly}
use Rattle.session_histories.proofs.Honest.{late_none}
use Rattle.claims.specs.AnySession.{BeforeTheRound, accepted, not_due, sheet's, length as wrong_length, differs, AnySession}
use Rattle.commitment.specs.Parameters.{parameters_of}
use Rattle.session_check.specs.Stored.{Inputs}

-- ---- the tests before the round

module _ (sheet : Bytes) where
  -- 1, then 16 five times
  lent : (a b c d e f : Bool) → BeforeTheRound sheet (first (test 1 0 a ∷ test 16 0 b ∷ test 16 0 c ∷ test 16 0 d ∷ test 16 0 e ∷ test 16 0 f ∷ []))
  unfolding first
  lent true b c d e f = wrong_length
  lent false true c d e f = differs
  lent false false true d e f = differs
  lent false false false true e f = differs
  lent false false false false true f = differs
  lent false false false false false true = differs
  lent false false false false false false = accepted

  -- behind the sheet's own
  behind : (ts : List Test) → BeforeTheRound sheet (first ts) → BeforeTheRound sheet (first (order sheet ++ ts))
  behind ts h = go (first (order sheet)) refl
    where
      go : (r : Reply) → first (order sheet) ≡ r → BeforeTheRound sheet (first (order sheet ++ ts))
      go Taken e = rw (first_append (order sheet) ts ((taken_exactly (order sheet)).0 e)) h
      go (Refused number place) e = rw (first_refused (order sheet) ts number place e) (sheet's e)

  due : (b : Bool) (ts : List Test) → BeforeTheRound sheet (first ts) → BeforeTheRound sheet (first (test 31 0 b ∷ ts))
  unfolding first
  due true ts h = not_due
  due false ts h = h

module _ (s : Session) (round : ℕ) (x : Inputs) where
  early : BeforeTheRound x.sheet (first (check_early s round x))
  unfolding check_early early_tests stored_tests
  early = due x.sheet _ _ (behind x.sheet _ (lent x.sheet _ _ _ _ _ _))

  -- the round's own tests refuse nothing once those before them did not
  late : (material : Material) → Produced (parameters_of x.sheet) (ballots_in x.sheet x.ballots) material s.seed round x → None (check_early s round x) → None (check_late s round x)
  unfolding check_early
  late material made n =
      let h = (early_exactly (stored_for s round) x).0 n.1 in
      let sized : length x.ballots ≡ ballot_length (parameters_of x.sheet).N * s.progress.closed = rw h.2.numbers h.1.ballots in
      let count : ballots_in x.sheet x.ballots ≡ s.progress.closed = div-eq_of_eq-mul_right (omega arith) sized in
      late_none s material round x ((sheet_exactly x.sheet).0 h.0) h.2.numbers
      (subst (λ (m : ℕ). Produced (parameters_of x.sheet) m material s.seed round x) count made)

  module _ (material : Material) (made : Produced (parameters_of x.sheet) (ballots_in x.sheet x.ballots) material s.seed round x) where
    -- so the reply is that of the tests before the round
    reply_early : first (check_tests s round x) ≡ first (check_early s round x)
    unfolding check_tests
    reply_early = go (first (check_early s round x)) refl
      where
        go : (r : Reply) → first (check_early s round x) ≡ r → first (check_early s round x ++ check_late s round x) ≡ first (check_early s round x)
        go Taken e =
            let n = (taken_exactly (check_early s round x)).0 e in
            first_append (check_early s round x) (check_late s round x) n ∙ (taken_exactly (check_late s round x)).1 (late material made n) ∙ sym e
        go (Refused number place) e = first_refused (check_early s round x) (check_late s round x) number place e ∙ sym e

    -- and one that is not taken leaves the session
    left_early : (reg : Bytes) → reply (check round x) (state s reg) ≢ Taken → after (check round x) (state s reg) ≡ state s reg
    unfolding reply after leaves
    left_early reg h = go (first (check_tests s round x)) refl (first (check_early s round x)) refl
      where
        go : (r : Reply) → first (check_tests s round x) ≡ r → (e : Reply) → first (check_early s round x) ≡ e
            → leaves r (next (check round x) (state s reg)) (leaves e (state (refused_by s) reg) (state s reg)) ≡ state s reg
        go Taken f e g = absurd (h f)
        go (Refused number place) f Taken g = absurd (h (reply_early ∙ g))
        go (Refused number place) f (Refused number' place') g = refl

-- ---- over an image

pub any_session : AnySession
unfolding host_reply host_after reply
any_session h round x material made = (told (eqb (length h.image) image_length), λ octets. left octets (eqb (length h.image) image_length) refl)
  where
    s : Session
    s = decode h.image

    told : (b : Bool) → BeforeTheRound x.sheet (cond b (first (check_tests s round x)) (Refused 1 0))
    told true = rw (reply_early s round x material made) (early s round x)
    told false = wrong_length

    left : Octets h.image → (b : Bool) → eqb (length h.image) image_length ≡ b → cond b (first (check_tests s round x)) (Refused 1 0) ≢ Taken
        → let st = after (check round x) (state s h.register) in cond b (host (image_of st.session) st.register) h ≡ h
    left octets true e n =
        ap (λ (z : State). host (image_of z.session) z.register) (left_early s round x material made h.register n)
        ∙ ap (λ (image : Bytes). host image h.register) (store_load h.image (eqb-true (length h.image) image_length e) octets)
    left octets false e n = refl
