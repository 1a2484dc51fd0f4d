-- The form of a sheet: the reader takes a text exactly if it is a sheet as it is written, and then finds that sheet. Assumes nothing.
use mathlib.Core.Path.{◌≡◌, refl, sym, ap, ◌∙◌}
use mathlib.Core.Logic.{◌↔◌}
use mathlib.Core.Bool.{Bool, true}
use mathlib.Core.List.{List, [], ◌∷◌, ◌++◌, append-nil}
use Prim.Native.Nat.{ℕ, suc}
use native.Mathlib.Omega.{arith}
use borrow.Author.Tests.{eqb-true}
use lib.Dec.{eqb}
use lib.ListN.{length, take, get_or}
use Rattle.codec.specs.Bytes.{Bytes}
use Rattle.sheet_lines.specs.Form.{lines, number_keys, list_keys, AllPlain}
use Rattle.sheet.specs.Form.{Sheet, rows_of, written}
use Rattle.sheet_lines.specs.Reader.{Block, broken, block, rows}
use Rattle.sheet.specs.Reader.{whole, formed, said, sheet_from, sheet_of}
use Rattle.codec.proofs.Laws.{both}
use Rattle.codec.specs.Lists.{every}
use Rattle.sheet_lines.proofs.LineForm.{read_lines, lined}

-- ---- the ten lines

pub one : (r : List ℕ) → eqb (length r) 1 ≡ true → r ≡ get_or r 0 0 ∷ []
one [] e = absurd (omega (arith, eqb-true 0 1 e))
one (v ∷ []) e = refl
one (v ∷ w ∷ r) e = absurd (omega (arith, eqb-true (suc (suc (length r))) 1 e))

abbrev pub single : List ℕ → Bool
single r = eqb (length r) 1

ten : (rs : List (List ℕ)) → length rs ≡ 10 → every single (take 5 rs) ≡ true → rs ≡ rows_of (sheet_from rs)
ten (r0 ∷ r1 ∷ r2 ∷ r3 ∷ r4 ∷ r5 ∷ r6 ∷ r7 ∷ r8 ∷ r9 ∷ []) n e =
    let p0 = both (single r0) _ e in
    let p1 = both (single r1) _ p0.1 in
    let p2 = both (single r2) _ p1.1 in
    let p3 = both (single r3) _ p2.1 in
    let p4 = both (single r4) _ p3.1 in
    cc (one r0 p0.0, one r1 p1.0, one r2 p2.0, one r3 p3.0, one r4 p4.0)
ten [] n e = absurd (omega arith)
ten (r0 ∷ []) n e = absurd (omega arith)
ten (r0 ∷ r1 ∷ []) n e = absurd (omega arith)
ten (r0 ∷ r1 ∷ r2 ∷ []) n e = absurd (omega arith)
ten (r0 ∷ r1 ∷ r2 ∷ r3 ∷ []) n e = absurd (omega arith)
ten (r0 ∷ r1 ∷ r2 ∷ r3 ∷ r4 ∷ []) n e = absurd (omega arith)
ten (r0 ∷ r1 ∷ r2 ∷ r3 ∷ r4 ∷ r5 ∷ []) n e = absurd (omega arith)
ten (r0 ∷ r1 ∷ r2 ∷ r3 ∷ r4 ∷ r5 ∷ r6 ∷ []) n e = absurd (omega arith)
ten (r0 ∷ r1 ∷ r2 ∷ r3 ∷ r4 ∷ r5 ∷ r6 ∷ r7 ∷ []) n e = absurd (omega arith)
ten (r0 ∷ r1 ∷ r2 ∷ r3 ∷ r4 ∷ r5 ∷ r6 ∷ r7 ∷ r8 ∷ []) n e = absurd (omega arith)
ten (r0 ∷ r1 ∷ r2 ∷ r3 ∷ r4 ∷ r5 ∷ r6 ∷ r7 ∷ r8 ∷ r9 ∷ r10 ∷ rs) n e = absurd (omega arith)

-- the lines of a text that has the form
pub has_rows : (text : Bytes) → formed text ≡ true → rows (number_keys ++ list_keys) text ≡ block (rows_of (sheet_of text)) []
unfolding formed sheet_of
has_rows text e = go (rows (number_keys ++ list_keys) text) refl e
  where
    go : (b : Block) → rows (number_keys ++ list_keys) text ≡ b → whole b ≡ true → b ≡ block (rows_of (sheet_from (said b))) []
    go broken f e = absurd (let z : ◌≡◌ {A = ℕ} 0 1 = cc in omega arith)
    go (block rs (c ∷ t)) f e = absurd (let z : ◌≡◌ {A = ℕ} 0 1 = cc in omega arith)
    go (block rs []) f e = ap (λ (l : List (List ℕ)). block l []) (ten rs (lined (number_keys ++ list_keys) text f).count e)

pub written_is : (text : Bytes) → formed text ≡ true → (text ≡ written (sheet_of text)) × AllPlain (rows_of (sheet_of text))
unfolding written
written_is text e =
    let l = lined (number_keys ++ list_keys) text (has_rows text e) in
    (l.is ∙ append-nil (lines (number_keys ++ list_keys) (rows_of (sheet_of text))), l.plain)

pub written_read : (s : Sheet) → AllPlain (rows_of s) → (formed (written s) ≡ true) × (sheet_of (written s) ≡ s)
unfolding written formed sheet_of
written_read s p =
    let e : rows (number_keys ++ list_keys) (lines (number_keys ++ list_keys) (rows_of s)) ≡ block (rows_of s) [] =
    rw (append-nil (lines (number_keys ++ list_keys) (rows_of s))) at (read_lines (number_keys ++ list_keys) (rows_of s) [] refl p) in
    (ap whole e, ap (λ (b : Block). sheet_from (said b)) e)

-- a text is read as a sheet exactly if it is that sheet as it is written
pub form_exactly : (text : Bytes) (s : Sheet) → ((formed text ≡ true) × (sheet_of text ≡ s)) ↔ ((text ≡ written s) × AllPlain (rows_of s))
form_exactly text s = (to, back)
  where
    to : (formed text ≡ true) × (sheet_of text ≡ s) → (text ≡ written s) × AllPlain (rows_of s)
    to p = rw p.1 at (written_is text p.0)

    back : (text ≡ written s) × AllPlain (rows_of s) → (formed text ≡ true) × (sheet_of text ≡ s)
    back p = rw p.0 (written_read s p.1)

-- at most one sheet for a text
pub one_reading : (s t : Sheet) → AllPlain (rows_of s) → AllPlain (rows_of t) → written s ≡ written t → s ≡ t
one_reading s t p q e = sym (written_read s p).1 ∙ ap sheet_of e ∙ (written_read t q).1
