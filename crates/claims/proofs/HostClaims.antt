-- The claims of specs/HostClaims.antt, from those over sessions and what the exported calls do to the session in an image. Assumes nothing.
use mathlib.Core.Path.{◌≡◌, refl, sym, ap, subst, ◌∙◌}
use mathlib.Core.List.{List, [], ◌∷◌}
use Prim.Native.Nat.{ℕ}
use Rattle.codec.specs.Bytes.{Bytes}
use Rattle.codec.specs.Reply.{Taken}
use Rattle.sheet.specs.Reader.{sheet_of}
use Rattle.session.specs.declared.Session.{Session}
use Rattle.session_image.specs.Image.{decode}
use Rattle.session.specs.Steps.{Beginning}
use Rattle.session.specs.Machine.{Step, clear, check, State, state, reply, after}
use Rattle.session_histories.specs.Runs.{History, empty_history, Call, call}
use Rattle.session_histories.specs.Internal.{Begins, StepChecked, initial_trace, own_initial, own_trace, extend_trace, trace, calls}
use Rattle.session_histories.specs.Conditions.{ValidSession, Checks}
use Rattle.session_histories.specs.Claims.{Undue}
use Rattle.session_histories.specs.Bound.{Bound, BoundBytes}
use Rattle.session_histories.proofs.Reach.{clear_taken, reachable_valid, only_phase_or_round}
use Rattle.session_histories.proofs.Honest.{honest_accepted}
use Rattle.session_histories.proofs.Rounds.{rounds_checked, ended_accepted}
use Rattle.session_histories.proofs.Roll.{roll_is_batch, own_register}
use Rattle.session_histories.proofs.Bound.{checks_bound}
use Rattle.session_histories.proofs.Hashed.{checks_hashed}
use Rattle.session_image.specs.Images.{Host, host, host_reply, host_after}
use Rattle.claims.specs.HostSteps.{after_all, host_trace, host_history, host_run, host_calls, host_roll, Starts}
use Rattle.claims.specs.HostClaims.{HostRollIsBatch, HostOwnRegister, RoundChecked, HostRoundsChecked, HostEndedAccepted, HostBound, HostHonestAccepted, HostStaysValid, HostOnlyPhaseOrRound}
use Rattle.claims.proofs.HostSteps.{Holds, bytes_hold, replies, image_left, trace_over, history_over, no_clear_over, Keeps, over_step, keeps_run, roll_over, calls_over}

-- ---- from a clear that is taken

module _ (start : Host) (b : Beginning) (s : Starts start b) where
  abbrev pub st : State
  st = state (decode start.image) start.register

  abbrev pub first : Bytes
  first = (host_after (clear b) start).image

  keeps : Keeps start st
  keeps = record { image = bytes_hold start.image s.sized s.octets; register = λ i. start.register }

  pub taken : reply (clear b) st ≡ Taken
  taken = sym (over_step (clear b) start st keeps).0 ∙ s.taken

  pub readable : Begins b
  readable = (clear_taken st b taken).0

  pub newly : Keeps (host_after (clear b) start) (after (clear b) st)
  newly = (over_step (clear b) start st keeps).1

  pub keeps_initial : Keeps (host_after (clear b) start) (own_initial b).now
  keeps_initial = subst (Keeps (host_after (clear b) start)) (clear_taken st b taken).1 newly

  begins : Holds first (initial_trace b).session
  unfolding own_initial initial_trace
  begins = keeps_initial.image

  pub traced : (cs : List Call) → Holds (host_trace cs first) (trace cs (initial_trace b)).session
  traced cs = trace_over cs first (initial_trace b) begins

  pub lodged : (cs : List Call) → host_history cs first (empty_history b) ≡ (trace cs (initial_trace b)).history
  unfolding initial_trace
  lodged cs = history_over cs first (initial_trace b) begins

  -- the reply of one more call
  pub answered : (cs : List Call) (x : Step) (register : Bytes) → host_reply x (host (host_trace cs first) register) ≡ reply x (state (trace cs (initial_trace b)).session register)
  answered cs x register = replies (host_trace cs first) register (trace cs (initial_trace b)).session (traced cs) x

  -- what is shown of the session that a list of steps reaches is shown of the session in the image
  in_image : (Of : Session → Type 0) (cs : List Call) → Of (trace cs (initial_trace b)).session → Of (decode (host_trace cs first))
  in_image Of cs h = subst Of (sym (traced cs).session) h

  -- and of what was lodged
  in_both : (Of : Session → History → Type 0) (cs : List Call) → Of (trace cs (initial_trace b)).session (trace cs (initial_trace b)).history
      → Of (decode (host_trace cs first)) (host_history cs first (empty_history b))
  in_both Of cs h = rw ((traced cs).session, lodged cs) h

  -- a check of a round that was taken
  checked : (cs : List Call) (k : ℕ) → StepChecked b cs k → RoundChecked first cs k
  checked cs k c =
      let before = c.before in
      let done = call (check k c.inputs) c.register in
      record {
        before = before;
        register = c.register;
        inputs = c.inputs;
        later = c.later;
        listed = c.listed;
        uncleared = no_clear_over c.later (host_after (check k c.inputs) (host (host_trace before first) c.register)).image (extend_trace done (trace before (initial_trace b)))
            (unfold extend_trace in image_left (host_trace before first) c.register (trace before (initial_trace b)).session (traced before) (check k c.inputs)) c.uncleared;
        taken = answered before (check k c.inputs) c.register ∙ c.taken;
        checks = λ octets. in_image (λ (z : Session). Checks z k c.inputs) before (c.checks octets);
        stored = rw ((traced before).session, (traced cs).session) c.stored;
      }

-- ---- the claims

pub host_own_register : HostOwnRegister
unfolding host_trace host_calls after_all
host_own_register [] h = refl
host_own_register (x ∷ xs) h = host_own_register xs (host_after x h)

pub host_roll_is_batch : HostRollIsBatch
host_roll_is_batch start b steps s l =
    let h = host_after (clear b) start in
    let t = own_trace steps (own_initial b) in
    let now : decode (host_run steps h).image ≡ t.now.session = (keeps_run steps h (own_initial b) (keeps_initial start b s)).image.session in
    let roll : host_roll steps h [] ≡ t.roll = (unfold own_initial in roll_over steps h (own_initial b) (keeps_initial start b s)) in
    let batch : host_history (host_calls steps h) h.image (empty_history b) ≡ t.history =
    ap (λ (cs : List Call). host_history cs h.image (empty_history b)) (calls_over steps h (own_initial b).now (keeps_initial start b s))
    ∙ lodged start b s (calls steps (own_initial b).now) ∙ (own_register b steps).1 in
    rw (now, roll, batch) (roll_is_batch b steps (rw now at l))

pub host_rounds_checked : HostRoundsChecked
host_rounds_checked start b cs s k l = checked start b s cs k (rounds_checked b cs (readable start b s) k (rw (traced start b s cs).session at l))

pub host_ended_accepted : HostEndedAccepted
host_ended_accepted start b cs s e k l =
    checked start b s cs k (ended_accepted b cs (readable start b s) (rw (traced start b s cs).session at e) k (rw (traced start b s cs).session at l))

pub host_bound : HostBound
host_bound start b cs s register k x e =
    let same = sym (lodged start b s cs) in (
      subst (λ (h : History). Bound h k x) same (checks_bound b cs (readable start b s) register k x (sym (answered start b s cs (check k x) register) ∙ e)),
      λ octets all lent. subst (λ (h : History). BoundBytes h k x) same (checks_hashed b cs octets all k x lent),
    )

pub host_stays_valid : HostStaysValid
host_stays_valid start b cs s =
    in_both start b s (λ (z : Session) (h : History). ValidSession z × (z.numbers ≡ (sheet_of h.sheet).numbers)) cs (reachable_valid b cs (readable start b s))

pub host_only_phase_or_round : HostOnlyPhaseOrRound
host_only_phase_or_round start b cs s x register place =
    let said = answered start b s cs x register in
    let r = only_phase_or_round b cs (readable start b s) x register place in
    (λ e. in_image start b s (λ (z : Session). Undue x z) cs (r.0 (sym said ∙ e)), λ u. said ∙ r.1 (rw (traced start b s cs).session at u))

pub host_honest_accepted : HostHonestAccepted
host_honest_accepted start b cs s register material round x turn =
    answered start b s cs (check round x) register
    ∙ honest_accepted b cs (readable start b s) register material round x (rw ((traced start b s cs).session, lodged start b s cs) at turn)
