-- The steps of a session (document 01, "Register and session", and the orders under "Refused because of the state"): what each refuses, in its
-- order, and what a step that is taken leaves. A step that is refused leaves everything, but for a check whose round is refused. Assumes nothing.
use Rattle.std.specs.Prelude.{◌≡◌, Result, Ok, Err, Bool, cond, not, ◌&&◌, ◌||◌, List, [], ◌∷◌, ◌++◌, ℕ, ◌+◌, ◌*◌, eqb, ltb, length, drop}
use Rattle.codec.specs.Bytes.{Bytes, put, zeros, same}
use Rattle.codec.specs.Reply.{Test, test, Reply}
use Rattle.codec.specs.Reply as reply
use Rattle.codec.specs.Lists.{all_below}
use Rattle.sha3.specs.Sponge.{sha3}
use Rattle.sheet.specs.Reader.{sheet_of}
use Rattle.sheet.specs.Sheet.{order}
use Rattle.sheet_numbers.specs.Plain.{plain}
use Rattle.vector.specs.Vector.{vector}
use Rattle.round.specs.Layout.{ballot_length, head_length}
use Rattle.register.specs.Orders.{admission_tests, withdrawal_tests}
use Rattle.register.specs.Register.{register_length, known, standing, standing_digests, mark_of}
use Rattle.session_progress.specs.Progress.{gathering, closed, commit_due, draw_due, check_due, challenges_due, initial, with_entry, with_batch, with_claims, with_message, with_seed, with_refusal, with_acceptance}
use Rattle.session_digests.specs.Digests.{closing_digest, claim_digest, round_digest}
use Rattle.session_digests.specs.Draw.{drawn_side, drawn_challenges}
use Rattle.session_check.specs.declared.stored.Stored.{Stored}
use Rattle.session_check.specs.Check.{early_tests, late_tests}
use Rattle.session.specs.declared.Session.{Session}
use Rattle.codec.specs.Refusal.{number_of_refusal, as_reply}
use Rattle.codec.specs.declared.Refusal.{Refusal}
use Rattle.session.specs.Session.{valid, trail_at, changed}
use Rattle.session_check.specs.Stored.{Inputs}

-- 31: not valid, or not due
abbrev pub due_test : Session → (due : Bool) → Test
due_test s due = test 31 0 (not (valid s && due))

-- ---- clear: 1, 2, 3, 4, 5, from any session. It starts a zeroed register

-- what a clear is lent
pub record Beginning : Type 0 where
  pub sheet : Bytes

abbrev pub on : (sheet : Bytes) → Beginning
on sheet = record { sheet = sheet }

unfoldable pub clear_tests : (reg : Bytes) → Beginning → List Test
clear_tests reg b = test 1 0 (not (eqb (length reg) register_length)) ∷ order b.sheet

unfoldable pub cleared : Beginning → Session
cleared b = record {
  progress = initial;
  numbers = (sheet_of b.sheet).numbers;
  sheet = sha3 b.sheet;
  closing = zeros 32;
  claim = zeros 32;
  seed = zeros 32;
  trail = zeros 4096;
}

-- ---- admit: 31, 1, 5, 32, 33, 35

unfoldable pub admit_tests : Session → (reg ballot : Bytes) → List Test
admit_tests s reg ballot =
    due_test s (eqb s.progress.phase gathering)
    ∷ test 1 0 (not (same (length reg ∷ length ballot ∷ []) (register_length ∷ ballot_length s.numbers.ring ∷ [])))
    ∷ test 5 0 (not (all_below s.numbers.modulus (vector (drop 4 ballot))))
    ∷ admission_tests reg s.progress.used (mark_of ballot)

-- one entry more is used
unfoldable pub entered_by : Session → Session
entered_by s = changed s (with_entry s.progress) s.closing s.claim s.seed s.trail

-- ---- withdraw: 31, 1, 33, 35

unfoldable pub withdraw_tests : Session → (reg : Bytes) (mark : ℕ) → List Test
withdraw_tests s reg mark =
    due_test s (eqb s.progress.phase gathering) ∷ test 1 0 (not (eqb (length reg) register_length)) ∷ withdrawal_tests reg s.progress.used mark

-- one entry more, where the mark had none
unfoldable pub withdrawn_by : Session → (reg : Bytes) (mark : ℕ) → Session
withdrawn_by s reg mark = cond (known reg mark s.progress.used) s (entered_by s)

-- ---- close: 31, 1, 36

unfoldable pub close_tests : Session → (reg : Bytes) → List Test
close_tests s reg =
    due_test s (eqb s.progress.phase gathering)
    ∷ test 1 0 (not (eqb (length reg) register_length))
    ∷ test 36 0 (eqb (length (standing reg s.progress.used)) 0)
    ∷ []

-- the batch is that of the standing entries
unfoldable pub closed_by : Session → (reg : Bytes) → Session
closed_by s reg =
    let ds = standing_digests reg s.progress.used in
    changed s (with_batch (length ds) s.progress) (closing_digest s.sheet ds) s.claim s.seed s.trail

-- ---- claim: 31, 1, 5

unfoldable pub claim_tests : Session → (claims : Bytes) → List Test
claim_tests s claims =
    due_test s (eqb s.progress.phase closed)
    ∷ test 1 0 (not (eqb (length claims) (s.numbers.ring * s.progress.closed)))
    ∷ test 5 0 (not (all_below (plain s.numbers) claims))
    ∷ []

unfoldable pub claimed_by : Session → (claims : Bytes) → Session
claimed_by s claims = changed s (with_claims s.progress) s.closing (claim_digest s.closing claims) s.seed s.trail

-- ---- commit: 31, 1. Rounds come in order

unfoldable pub commit_tests : Session → (round : ℕ) (head shares0 shares1 : Bytes) → List Test
commit_tests s round head shares0 shares1 =
    let n = s.numbers.ring in
    due_test s (commit_due s.numbers s.progress round)
    ∷ test 1 0 (not (same (length head ∷ length shares0 ∷ length shares1 ∷ []) (head_length n s.numbers.repeats ∷ 8 * n * s.progress.closed ∷ 8 * n * s.progress.closed ∷ [])))
    ∷ []

unfoldable pub committed_by : Session → (round : ℕ) (head shares0 shares1 : Bytes) → Session
committed_by s round head shares0 shares1 =
    changed s (with_message s.progress) s.closing s.claim s.seed (put s.trail (32 * round) (round_digest s.claim round head shares0 shares1))

-- ---- draw: 31, 1. All rounds are committed

unfoldable pub draw_tests : Session → (seed : Bytes) → List Test
draw_tests s seed =
    due_test s (draw_due s.numbers s.progress)
    ∷ test 1 0 (not (eqb (length seed) 32))
    ∷ []

unfoldable pub drawn_by : Session → (seed : Bytes) → Session
drawn_by s seed = changed s (with_seed s.progress) s.closing s.claim seed s.trail

-- ---- check: 31, the sheet's 1 to 5, 1, 16; then the round's own 5 to 13, whose refusal ends the session refused

abbrev pub stored_for : Session → (round : ℕ) → Stored
stored_for s round = record {
  numbers = s.numbers;
  closed = s.progress.closed;
  sheet = s.sheet;
  closing = s.closing;
  claim = s.claim;
  message = trail_at s round;
  seed = s.seed;
  round = round;
}

-- before the round itself is looked at
unfoldable pub check_early : Session → (round : ℕ) → Inputs → List Test
check_early s round x =
    due_test s (check_due s.numbers s.progress round) ∷ early_tests (stored_for s round) x

unfoldable pub check_late : Session → (round : ℕ) → Inputs → List Test
check_late s round x = late_tests (stored_for s round) x

unfoldable pub check_tests : Session → (round : ℕ) → Inputs → List Test
check_tests s round x = check_early s round x ++ check_late s round x

-- the last acceptance ends the session accepted
unfoldable pub accepted_by : Session → Session
accepted_by s = changed s (with_acceptance s.numbers.rounds s.progress) s.closing s.claim s.seed s.trail

unfoldable pub refused_by : Session → Session
refused_by s = changed s (with_refusal s.progress) s.closing s.claim s.seed s.trail

-- ---- challenges: 31, 1. From draw on, for any round of the session

unfoldable pub challenges_tests : Session → (round : ℕ) (out : Bytes) → List Test
challenges_tests s round out =
    due_test s (challenges_due s.numbers s.progress round)
    ∷ test 1 0 (not (eqb (length out) (1 + s.numbers.repeats)))
    ∷ []

-- the side, then a challenge for each repetition
unfoldable pub challenges_out : Session → (round : ℕ) → Bytes
challenges_out s round = drawn_side s.seed round ∷ drawn_challenges s.seed round s.numbers.repeats

-- ---- turnout: 31, 1, 3, in any phase

unfoldable pub turnout_tests : Session → (reg : Bytes) (enrolled : ℕ) → List Test
turnout_tests s reg enrolled =
    test 31 0 (not (valid s))
    ∷ test 1 0 (not (eqb (length reg) register_length))
    ∷ test 3 0 (ltb enrolled 1 || ltb 1000000 enrolled)
    ∷ []

-- what turnout answers: thousandths of the enrolled, or refused with document 01's number
pub data Turnout : Type 0 where
  Counted : ℕ → Turnout
  Refused : ℕ → Turnout

-- what turnout answers, by the reply of its tests and the thousandths where they are taken; a refusal of turnout has no place
abbrev pub turnout_by : Reply → (thousandths : ℕ) → Turnout
turnout_by reply.Taken thousandths = Counted thousandths
turnout_by (reply.Refused number place) thousandths = Refused number

-- what a result of the code stands for
abbrev pub as_turnout : Result ℕ Refusal → Turnout
as_turnout (Ok thousandths) = Counted thousandths
as_turnout (Err why) = Refused (number_of_refusal why)

-- the reply of a turnout, which names no place
abbrev pub turnout_replied : Turnout → Reply
turnout_replied (Counted thousandths) = reply.Taken
turnout_replied (Refused number) = reply.Refused number 0

-- a result says it, and names no place
abbrev pub CountedAs : Turnout → Result ℕ Refusal → Type 0
CountedAs said result = (as_turnout result ≡ said) × (as_reply result ≡ turnout_replied said)
