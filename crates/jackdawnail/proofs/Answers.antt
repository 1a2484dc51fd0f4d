-- The promises of an exported call that is lent a sheet: refused with the sheet, or answered by its part after the sheet. Assumes nothing.
use mathlib.Core.Path.{◌≡◌, refl, sym, ap, subst, ◌∙◌}
use mathlib.Core.List.{List, ◌++◌}
use Prim.Native.Nat.{ℕ}
use lib.ListN.{replicate}
use Rattle.std.proofs.Common.{Result, Err}
use Rattle.codec.specs.Bytes.{Bytes}
use Rattle.codec.specs.Reply.{Test, first, leaves, packed, Reply}
use Rattle.codec.specs.Reply as reply
use Rattle.codec.specs.Refusal.{number_of_refusal, as_reply}
use Rattle.codec.specs.declared.Refusal.{Refusal}
use Rattle.sheet.specs.Reader.{sheet_of}
use Rattle.sheet.specs.Sheet.{order, reading, Reading, Taken, Refused, ReadAs}
use Rattle.sheet.specs.Internal.{loaded}
use Rattle.sheet.proofs.Taken.{taken, no_place}
use Rattle.sheet_numbers.specs.declared.Numbers.{Numbers}
use Rattle.sheet_numbers.specs.Internal.{Usable}
use Rattle.sheet_numbers.proofs.Ranges.{usable}
use Rattle.scratch.specs.Call.{zeroized}
use Rattle.scratch.specs.Internal.{Computed, refusal}
use Rattle.scratch.proofs.Lent.{order_taken, order_refused}
use Rattle.scratch.proofs.Zeroizing.{leaves_refused, zeroized_worked}
use Rattle.commitment.specs.Parameters.{Parameters, parameters, parameters_of}
use Rattle.commitment.proofs.Sheets.{parameters_are}
use Rattle.jackdawnail.specs.Answers.{CallReplied}

-- a reply is packed, and what the slices are left with goes by it
answered : {tests : List Test} {writes : Bytes} {r : Reply} {out out' w w' : Bytes} {answer : ℕ} → answer ≡ packed r → r ≡ first tests → out' ≡ leaves r writes out → w' ≡ zeroized r w
    → CallReplied tests writes answer out out' w w'
answered {writes = writes} {out = out} {w = w} packs replied written cleared = record {
  replied = packs ∙ ap packed replied;
  written = written ∙ ap (λ (x : Reply). leaves x writes out) replied;
  cleared = cleared ∙ ap (λ (x : Reply). zeroized x w) replied;
}

-- a call that ends with the refusal of its sheet
pub unread : (text : Bytes) (why : Refusal) (w : Bytes) {w' : Bytes} {r : Result Unit Refusal} → ReadAs (reading text) (Err why) → (r ≡ Err why) × (w' ≡ zeroized (as_reply {A = Unit} (Err why)) w)
    → (as_reply r ≡ refusal (Refused (number_of_refusal why))) × (w' ≡ zeroized (refusal (Refused (number_of_refusal why))) w)
unread text why w read ended =
    let p = no_place why read in
    (ap as_reply ended.0 ∙ p, ended.1 ∙ ap (λ (z : Reply). zeroized z w) p)

-- the sheet is refused, and the call with it
pub call_refused : (text : Bytes) {ts : List Test} {x w out w' : Bytes} {s : Reading} {n answer : ℕ} {r : Reply} → s ≡ reading text → s ≡ Refused n → (r ≡ refusal s) × (w' ≡ zeroized (refusal s) w)
    → answer ≡ packed r → CallReplied (order text ++ ts) x answer out out w w'
call_refused text {ts} {x} {w} {n = n} {r = r} f e ended packs =
    let is : r ≡ reply.Refused n 0 = ended.0 ∙ ap refusal e in
    answered packs (is ∙ order_refused text ts f e) (leaves_refused r n 0 x is) (ended.1 ∙ ap (λ (a : Reply). zeroized a w) (sym ended.0))

pub call_unread : (text : Bytes) (why : Refusal) {ts : List Test} {x w out w' : Bytes} {r : Result Unit Refusal} {answer : ℕ} → ReadAs (reading text) (Err why)
    → (r ≡ Err why) × (w' ≡ zeroized (as_reply {A = Unit} (Err why)) w) → answer ≡ packed (as_reply r) → CallReplied (order text ++ ts) x answer out out w w'
call_unread text why read ended = call_refused text read.0 refl (unread text why _ read ended)

-- it is taken: the rest of the order decides, and scratch is zeroized
module _ (text : Bytes) {k : Numbers} (said : reading text ≡ Taken k) where
  pub read_usable : Usable k
  read_usable = let t = taken text said in usable k t.ranged t.sound

  -- of a call that needs the sheet's numbers alone
  pub call_read : (tests : Numbers → List Test) (writes : Numbers → Bytes) {r r' : Reply} {out out' w w' w'' : Bytes} {answer : ℕ} → Computed (tests k) (writes k) r out out' w w'
      → (r' ≡ r) × (w'' ≡ zeroized r w') → answer ≡ packed r' → CallReplied (order text ++ tests (sheet_of text).numbers) (writes (sheet_of text).numbers) answer out out' w w''
  call_read tests writes {r} {out = out} {w = w} {w' = w'} made ended packs =
      let m = sym (taken text said).numbers in
      answered (packs ∙ ap packed ended.0) (order_taken text (tests (sheet_of text).numbers) said (made.replied ∙ ap (λ (n : Numbers). first (tests n)) m))
      (made.written ∙ ap (λ (n : Numbers). leaves r (writes n) out) m) (ended.1 ∙ zeroized_worked r w w' made.cleared)

-- and its polynomials
module _ (text : Bytes) {public : Bytes} {s : Reading} {k : Numbers} (load : (s ≡ reading text) × (public ≡ loaded text (replicate 81920 0))) (e : s ≡ Taken k) where
  pub call_taken : (tests : Numbers → List Test) (writes : Numbers → Parameters → Bytes) {r r' : Reply} {out out' w w' w'' : Bytes} {answer : ℕ}
      → Computed (tests k) (writes k (parameters k public)) r out out' w w' → (r' ≡ r) × (w'' ≡ zeroized r w') → answer ≡ packed r'
      → CallReplied (order text ++ tests (sheet_of text).numbers) (writes (sheet_of text).numbers (parameters_of text)) answer out out' w w''
  call_taken tests writes {r} {out = out} {out' = out'} {w = w} {w' = w'} made =
      call_read text (sym load.0 ∙ e) tests (λ n. writes n (parameters_of text))
      (subst (λ (P : Parameters). Computed (tests k) (writes k P) r out out' w w') (parameters_are text load e) made)
