-- The exported calls over images do to the session in the image what the steps do to the session, one by one and in lists; and what was lodged, the roll and the clears that are taken are
-- those of the steps. Assumes nothing.
use mathlib.Core.Path.{◌≡◌, refl, sym, ap, subst, ◌∙◌}
use mathlib.Core.List.{List, [], ◌∷◌}
use lib.ListN.{length}
use borrow.Author.Tests.{eq-eqb}
use Rattle.codec.specs.Bytes.{Bytes, Octets}
use Rattle.codec.specs.Reply.{leaves, Reply}
use Rattle.session.specs.declared.Session.{Session}
use Rattle.session.specs.Machine.{Step, State, state, reply, after}
use Rattle.session_image.specs.Image.{image_length, image_of, decode}
use Rattle.session_image.specs.Internal.{Typed}
use Rattle.session_image.proofs.Law.{length_encode, load_store}
use Rattle.session_image.specs.Images.{Host, host, host_reply, host_after}
use Rattle.session_histories.specs.Runs.{history_after, roll_after, clears, Call, call}
use Rattle.session_histories.specs.Internal.{Trace, OwnTrace, run, own_extend, own_trace, extend_trace, trace, NoClear, calls}
use Rattle.session_histories.proofs.Stepped as steps
use Rattle.session_histories.proofs.Stepped.{none, more}
use Rattle.claims.specs.HostSteps.{after_all, NoClearTaken, roll_of, host_trace, host_history, HostNoClear, host_run, host_calls, HostUncleared, host_roll}
use Rattle.claims.proofs.Typed.{typed_decode, typed_after}

-- an image of the right length that is read as this session, whose fields are as their types say
pub record Holds (image : Bytes) (s : Session) : Type 0 where
  pub sized : length image ≡ image_length
  pub session : decode image ≡ s
  pub typed : Typed s

-- whatever bytes of the right length the host lends hold a session
pub bytes_hold : (image : Bytes) → length image ≡ image_length → Octets image → Holds image (decode image)
bytes_hold image sized octets = record { sized = sized; session = refl; typed = typed_decode image sized octets }

-- ---- one call

stored : (s : Session) → Typed s → Holds (image_of s) s
stored s t = record { sized = length_encode s t; session = load_store s t; typed = t }

module _ (image register : Bytes) (s : Session) (holds : Holds image s) (x : Step) where
  abbrev h : Host
  h = host image register

  abbrev st : State
  st = state s register

  pub replies : host_reply x h ≡ reply x st
  unfolding host_reply
  replies = rw (eq-eqb (length image) image_length holds.sized) (ap (λ (z : Session). reply x (state z register)) holds.session)

  pub image_left : Holds (host_after x h).image (after x st).session
  unfolding host_after
  image_left = rw (eq-eqb (length image) image_length holds.sized, holds.session) (stored (after x st).session (typed_after st holds.typed x))

  pub register_left : (host_after x h).register ≡ (after x st).register
  unfolding host_after
  register_left = rw (eq-eqb (length image) image_length holds.sized) (ap (λ (z : Session). (after x (state z register)).register) holds.session)

-- ---- lists of calls, each lent any register

pub trace_over : (cs : List Call) (image : Bytes) (l : Trace) → Holds image l.session → Holds (host_trace cs image) (trace cs l).session
unfolding host_trace trace extend_trace
trace_over [] image l e = e
trace_over (c ∷ cs) image l e = trace_over cs (host_after c.step (host image c.register)).image (extend_trace c l) (image_left image c.register l.session e c.step)

-- what was lodged
pub history_over : (cs : List Call) (image : Bytes) (l : Trace) → Holds image l.session → host_history cs image l.history ≡ (trace cs l).history
unfolding host_history trace extend_trace
history_over [] image l e = refl
history_over (c ∷ cs) image l e =
    let lent = host image c.register in
    let h : leaves (host_reply c.step lent) (history_after c.step (state (decode image) c.register) l.history) l.history ≡ (extend_trace c l).history =
    rw (replies image c.register l.session e c.step, e.session) in
    ap (host_history cs (host_after c.step lent).image) h ∙ history_over cs (host_after c.step lent).image (extend_trace c l) (image_left image c.register l.session e c.step)

-- no clear is taken
pub no_clear_over : (cs : List Call) (image : Bytes) (l : Trace) → Holds image l.session → NoClear cs l → HostNoClear cs image
unfolding HostNoClear NoClear extend_trace
no_clear_over [] image l e n = tt
no_clear_over (c ∷ cs) image l e n = (
  ap (clears c.step) (replies image c.register l.session e c.step) ∙ n.0,
  no_clear_over cs (host_after c.step (host image c.register)).image (extend_trace c l) (image_left image c.register l.session e c.step) n.1,
)

-- ---- lists of calls, each lent what the last one left

pub record Keeps (h : Host) (st : State) : Type 0 where
  pub image : Holds h.image st.session
  pub register : h.register ≡ st.register

pub over_step : (x : Step) (h : Host) (st : State) → Keeps h st → (host_reply x h ≡ reply x st) × Keeps (host_after x h) (after x st)
over_step x h st k =
    let s = st.session in
    subst (λ (reg : Bytes). (host_reply x h ≡ reply x (state s reg)) × Keeps (host_after x h) (after x (state s reg))) k.register (
      replies h.image h.register s k.image x,
      record { image = image_left h.image h.register s k.image x; register = register_left h.image h.register s k.image x },
    )

pub over_run : (xs : List Step) (h : Host) (st : State) → Keeps h st → Keeps (host_run xs h) (run xs st)
unfolding after_all run
over_run [] h st k = k
over_run (x ∷ xs) h st k = over_run xs (host_after x h) (after x st) (over_step x h st k).1

pub keeps_run : (xs : List Step) (h : Host) (t : OwnTrace) → Keeps h t.now → Keeps (host_run xs h) (own_trace xs t).now
unfolding after_all own_trace own_extend
keeps_run [] h t k = k
keeps_run (x ∷ xs) h t k = keeps_run xs (host_after x h) (own_extend x t) (over_step x h t.now k).1

-- the roll
pub roll_over : (xs : List Step) (h : Host) (t : OwnTrace) → Keeps h t.now → host_roll xs h t.roll ≡ (own_trace xs t).roll
unfolding roll_of own_trace own_extend
roll_over [] h t k = refl
roll_over (x ∷ xs) h t k =
    let e = over_step x h t.now k in
    ap (λ (r : Reply). host_roll xs (host_after x h) (leaves r (roll_after x t.roll) t.roll)) e.0 ∙ roll_over xs (host_after x h) (own_extend x t) e.1

-- the calls
pub calls_over : (xs : List Step) (h : Host) (st : State) → Keeps h st → host_calls xs h ≡ calls xs st
unfolding host_calls calls
calls_over [] h st k = refl
calls_over (x ∷ xs) h st k =
    ap (λ (reg : Bytes). call x reg ∷ host_calls xs (host_after x h)) k.register
    ∙ ap (λ (cs : List Call). call x st.register ∷ cs) (calls_over xs (host_after x h) (after x st) (over_step x h st k).1)

pub uncleared : (xs : List Step) (h : Host) (st : State) → Keeps h st → HostUncleared xs h → steps.Uncleared xs st
unfolding NoClearTaken
uncleared [] h st k u = none
uncleared (x ∷ xs) h st k u =
    let e = over_step x h st k in
    more (ap (λ (r : Reply). clears x r) (sym e.0) ∙ u.0) (uncleared xs (host_after x h) (after x st) e.1 u.1)
