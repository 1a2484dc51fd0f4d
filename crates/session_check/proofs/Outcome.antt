-- What a check comes to, from the replies of its two parts, and the same over the sheet. Assumes nothing.
use mathlib.Core.Path.{◌≡◌, refl, sym, ap, ap₂, ◌∙◌}
use Prim.Native.Nat.{ℕ}
use lib.ListN.{length}
use Rattle.codec.specs.Bytes.{Bytes, zeros}
use Rattle.codec.specs.Reply.{first, Reply}
use Rattle.codec.specs.Reply as reply
use Rattle.sheet.specs.Sheet.{reading, reply_of, Taken, Refused}
use Rattle.sheet_numbers.specs.declared.Numbers.{Numbers}
use Rattle.scratch.specs.Call.{zeroized}
use Rattle.round.specs.Round.{Round, round_tests}
use Rattle.round.specs.Internal.{round_of}
use Rattle.commitment.specs.Parameters.{Parameters, parameters_of}
use Rattle.round_lengths.proofs.Zeroized.{later_round, zeroized_later}
use Rattle.scratch.proofs.Lent.{order_taken, order_refused}
use Rattle.session_check.specs.declared.stored.Stored.{Stored}
use Rattle.session_check.specs.Stored.{Inputs, side_of, challenges_of, drawn_round, lent_tests}
use Rattle.session_check.specs.Check.{early_tests, late_tests}
use Rattle.session_check.specs.Internal.{Verdict, Stopped, verdict, reply_of_verdict, CheckMade, TakenChecked}

-- ---- from the two replies

pub stopped : (late : Reply) {early r : Reply} {number place : ℕ} → r ≡ early → r ≡ reply.Refused number place → Stopped number place ≡ verdict early late
stopped late e f = sym (ap (λ (r : Reply). verdict r late) (sym e ∙ f))

-- the reply of a round that was looked at is that of the verdict
reply_late : (r : Reply) → reply_of_verdict (verdict reply.Taken r) ≡ r
reply_late reply.Taken = refl
reply_late (reply.Refused number place) = refl

module _ (P : Parameters) (m : ℕ) (r : Round) {v : Verdict} {late : Reply} (is : v ≡ verdict reply.Taken late) (said : late ≡ first (round_tests P m r)) where
  pub judged : {early said : Reply} → said ≡ early → said ≡ reply.Taken → v ≡ verdict early (first (round_tests P m r))
  judged e f = is ∙ ap₂ verdict (sym f ∙ e) said

  -- scratch is zeroed
  pub judged_zeroized : (w : Bytes) → zeroized (reply_of_verdict v) w ≡ zeros (length w)
  judged_zeroized w = zeroized_later (round_tests P m r) (later_round P m r) (reply_of_verdict v) (ap reply_of_verdict is ∙ reply_late late ∙ said) w

-- ---- with what was drawn

pub drawn_round_lem : (s : Stored) (x : Inputs) {side : ℕ} {challenges : Bytes} → side ≡ side_of s → challenges ≡ challenges_of s
    → round_of side challenges x.ballots x.claims x.head x.shares0 x.shares1 x.opening x.answers ≡ drawn_round s x
drawn_round_lem s x e f = ap₂ (λ (i : ℕ) (d : Bytes). round_of i d x.ballots x.claims x.head x.shares0 x.shares1 x.opening x.answers) e f

-- ---- over the sheet

module _ (s : Stored) (x : Inputs) where
  pub checked_over : {k : Numbers} {P : Parameters} {v : Verdict} {w : Bytes} → reading x.sheet ≡ Taken k → P ≡ parameters_of x.sheet → TakenChecked P s x v w → CheckMade s x v w
  unfolding early_tests late_tests
  checked_over said e f = (f.0 ∙ ap₂ verdict (order_taken x.sheet (lent_tests s x) said refl) (ap (λ (P : Parameters). first (round_tests P s.closed (drawn_round s x))) e), f.1)

  pub checked_refused : {i p : ℕ} {w'' : Bytes} → Refused i ≡ reading x.sheet → reply.Refused i p ≡ reply_of (reading x.sheet) → w'' ≡ zeroized (reply.Refused i p) x.scratch → CheckMade s x (Stopped i p) w''
  unfolding early_tests late_tests
  checked_refused f e z = (stopped (first (late_tests s x)) (e ∙ ap reply_of (sym f) ∙ order_refused x.sheet (lent_tests s x) refl (sym f)) refl, z)
