-- What the check promises once the sheet is taken, and the same over the sheet. Assumes nothing.
use mathlib.Core.Path.{◌≡◌, refl, sym, ap, subst, ◌∙◌}
use Prim.Native.Nat.{ℕ}
use lib.ListN.{replicate}
use Rattle.std.proofs.Common.{Result, Err}
use Rattle.codec.specs.Bytes.{Bytes}
use Rattle.codec.specs.Reply.{first, packed, Reply}
use Rattle.codec.specs.Refusal.{as_reply}
use Rattle.codec.specs.declared.Refusal.{Refusal}
use Rattle.sheet.specs.Sheet.{reading, Reading, Taken, ReadAs}
use Rattle.sheet.proofs.Taken.{no_place}
use Rattle.sheet.specs.Internal.{loaded}
use Rattle.sheet_numbers.specs.declared.Numbers.{Numbers}
use Rattle.scratch.specs.Call.{zeroized}
use Rattle.scratch.proofs.Lent.{lent, order_taken, order_refused}
use Rattle.round.specs.Round.{Round}
use Rattle.commitment.specs.Parameters.{Parameters, parameters}
use Rattle.commitment.proofs.Sheets.{parameters_are}
use Rattle.test_check.specs.Replies.{round_check_tests, check_reply, RoundCheckCalled}

-- by the reply of its whole order, and the number that it is packed into
called : {text : Bytes} {r : Round} {w w' : Bytes} {said : Reply} {answer : ℕ} → said ≡ check_reply text r w → w' ≡ zeroized said w → answer ≡ packed said → RoundCheckCalled text r w answer w'
called {w = w} is z e = record { replied = e ∙ ap packed is; cleared = z ∙ ap (λ (q : Reply). zeroized q w) is }

-- the sheet is taken
pub check_over : (text : Bytes) {public : Bytes} {s : Reading} {k : Numbers} → (s ≡ reading text) × (public ≡ loaded text (replicate 81920 0)) → s ≡ Taken k → (r : Round) (w : Bytes) {said : Reply} {w' : Bytes} {answer : ℕ}
    → (said ≡ first (round_check_tests (parameters k public) r w)) × (w' ≡ zeroized said w) → answer ≡ packed said → RoundCheckCalled text r w answer w'
unfolding check_reply
check_over text load e r w {said} f = called (order_taken text _ (lent text load e).said (subst (λ (P : Parameters). said ≡ first (round_check_tests P r w)) (parameters_are text load e) f.0)) f.1

-- it is refused
pub check_unread : (text : Bytes) (why : Refusal) → ReadAs (reading text) (Err why) → (r : Round) (w : Bytes) {said : Result Unit Refusal} {w' : Bytes} {answer : ℕ}
    → (said ≡ Err why) × (w' ≡ zeroized (as_reply {A = Unit} (Err why)) w) → answer ≡ packed (as_reply said) → RoundCheckCalled text r w answer w'
unfolding check_reply
check_unread text why read r w z =
    let e = ap as_reply z.0 in
    called (e ∙ no_place why read ∙ order_refused text _ read.0 refl) (z.1 ∙ ap (λ (q : Reply). zeroized q w) (sym e))
