-- What a reading says of its text: the order of a call that is lent the sheet, and what holds of a sheet that is taken. Assumes nothing.
use mathlib.Core.Path.{◌≡◌, refl, sym, ap, ap₂, ◌∙◌}
use mathlib.Core.Bool.{Bool, true, false, ◌||◌}
use mathlib.Core.List.{List, [], ◌∷◌, ◌++◌}
use Prim.Native.Nat.{ℕ, ◌*◌, ◌≤◌, ◌<◌}
use native.Mathlib.Omega.{arith}
use borrow.Author.Tests.{eqb-true, eqb-false, ltb-false, not-false}
use lib.Dec.{ltb, eqb}
use lib.ListN.{length, get_or, length-replicate}
use Rattle.std.proofs.Common.{Err}
use Rattle.codec.specs.Bytes.{Bytes, zeros}
use Rattle.codec.specs.Reply.{Test, test, first, None, Reply}
use Rattle.codec.specs.Reply as reply
use Rattle.codec.specs.Refusal.{number_of_refusal, as_reply}
use Rattle.codec.specs.declared.Refusal.{Refusal}
use Rattle.codec.proofs.Replies.{taken_exactly}
use Rattle.sheet.specs.Form.{Sheet, written}
use Rattle.sheet.specs.Reader.{formed, sheet_of}
use Rattle.sheet_numbers.specs.Rules.{outside}
use Rattle.sheet.specs.Sheet.{fits, lists, unfit, order, reply_of, reading_by, reading, polynomials, Reading, Taken, Refused, ReadAs}
use Rattle.sheet_numbers.specs.declared.Numbers.{Numbers}
use Rattle.codec.proofs.Laws.{both}
use Rattle.codec.proofs.Lists.{all_below_at}
use Rattle.codec.specs.Lists.{every, all_below}
use Rattle.sheet.proofs.Form.{written_is}
use Rattle.sheet_numbers.specs.Ranges.{NumbersInRange, NumbersSound}
use Rattle.sheet_numbers.proofs.Ranges.{in_range, sound_exactly}
use Rattle.sheet.proofs.Filling.{all_size}

-- a refusal of a sheet names no place
pub no_place : (why : Refusal) {said : Reading} → ReadAs said (Err why) → as_reply {A = Numbers} (Err why) ≡ reply.Refused (number_of_refusal why) 0
no_place why r = r.1 ∙ ap reply_of (sym r.0)

-- ---- the order of a call that is lent the sheet

-- a sheet that is refused decides the reply; after one that is taken, the rest of the order does
abbrev pub onwards : Reading → Reply → Reply
onwards (Taken k) r = r
onwards (Refused n) r = reply.Refused n 0

five_tests : (a b c d e : Bool) (k : Numbers) (ts : List Test)
    → first (test 1 0 a ∷ test 2 0 b ∷ test 3 0 c ∷ test 4 0 d ∷ test 5 0 e ∷ ts)
    ≡ onwards (reading_by (first (test 1 0 a ∷ test 2 0 b ∷ test 3 0 c ∷ test 4 0 d ∷ test 5 0 e ∷ [])) k) (first ts)
unfolding first
five_tests true b c d e k ts = refl
five_tests false true c d e k ts = refl
five_tests false false true d e k ts = refl
five_tests false false false true e k ts = refl
five_tests false false false false true k ts = refl
five_tests false false false false false k ts = refl

pub order_first : (text : Bytes) (ts : List Test) → first (order text ++ ts) ≡ onwards (reading text) (first ts)
unfolding reading
order_first text ts = five_tests _ _ _ _ _ (sheet_of text).numbers ts

-- the reply of the sheet's own call
pub reply_is : (text : Bytes) → reply_of (reading text) ≡ first (order text)
unfolding first
reply_is text = by (reading text) ∙ sym (order_first text [])
  where
    by : (r : Reading) → reply_of r ≡ onwards r reply.Taken
    by (Taken k) = refl
    by (Refused n) = refl

-- ---- a sheet that is taken

-- a list of n coefficients, each below q
pub record Coefficients (n q : ℕ) (xs : List ℕ) : Type 0 where
  pub count : length xs ≡ n
  pub below : (i : ℕ) → get_or xs i 0 < q

pub record Taking (text : Bytes) (k : Numbers) : Type 0 where
  pub some : length text ≡ 0 → ⊥
  pub few : length text ≤ 262144
  pub form : formed text ≡ true
  pub numbers : (sheet_of text).numbers ≡ k
  pub inside : outside k ≡ false
  pub ranged : NumbersInRange k
  pub sound : NumbersSound k
  pub fit : unfit (sheet_of text) ≡ false

not_refused : {A : Type 0} {n : ℕ} {k : Numbers} → Refused n ≡ Taken k → A
not_refused e = absurd (let z : ◌≡◌ {A = ℕ} 0 1 = cc in omega arith)

neither : (a b : Bool) → (a || b) ≡ false → (a ≡ false) × (b ≡ false)
neither true b e = absurd (let z : ◌≡◌ {A = ℕ} 0 1 = cc in omega arith)
neither false b e = (refl, e)

pub taken : (text : Bytes) {k : Numbers} → reading text ≡ Taken k → Taking text k
unfolding reading
taken text {k} e = by (first (order text)) refl e
  where
    from : None (order text) → (sheet_of text).numbers ≡ k → Taking text k
    from n q =
        let l = neither (eqb (length text) 0) (ltb 262144 (length text)) n.0 in
        record {
          some = eqb-false (length text) 0 l.0;
          few = ltb-false 262144 (length text) l.1;
          form = not-false (formed text) n.1.0;
          numbers = q;
          inside = rw q at n.1.1.0;
          ranged = rw q at (in_range (sheet_of text).numbers n.1.1.0);
          sound = rw q at ((sound_exactly (sheet_of text).numbers).0 n.1.1.1.0);
          fit = n.1.1.1.1.0;
        }

    by : (r : Reply) → first (order text) ≡ r → reading_by r (sheet_of text).numbers ≡ Taken k → Taking text k
    by reply.Taken f e = from ((taken_exactly (order text)).0 f) (cc)
    by (reply.Refused n place) f e = not_refused e

-- ---- its lists are polynomials

polynomial : (n q : ℕ) → 0 < q → (xs : List ℕ) → fits n q xs ≡ true → Coefficients n q xs
polynomial n q h xs e =
    let p = both (eqb (length xs) n) (all_below q xs) e in
    record { count = eqb-true (length xs) n p.0; below = all_below_at q h xs p.1 }

abbrev pub AllCoefficients : ℕ → ℕ → List (List ℕ) → Type 0
AllCoefficients n q [] = Unit
AllCoefficients n q (l ∷ ls) = Coefficients n q l × AllCoefficients n q ls

all_polynomials : (n q : ℕ) → 0 < q → (ls : List (List ℕ)) → every (fits n q) ls ≡ true → AllCoefficients n q ls
all_polynomials n q h [] e = tt
all_polynomials n q h (l ∷ ls) e =
    let p = both (fits n q l) (every (fits n q) ls) e in
    (polynomial n q h l p.0, all_polynomials n q h ls p.1)

pub lists_taken : (text : Bytes) {k : Numbers} → reading text ≡ Taken k → AllCoefficients k.ring k.modulus (lists (sheet_of text))
unfolding unfit
lists_taken text {k} e =
    let t = taken text e in
    let h : 0 < (sheet_of text).numbers.modulus = rw t.numbers (omega (arith, t.ranged.modulus_low)) in
    rw t.numbers at (all_polynomials (sheet_of text).numbers.ring (sheet_of text).numbers.modulus h (lists (sheet_of text)) (not-false _ t.fit))

-- they fill 40N bytes
pub length_polynomials : (text : Bytes) {k : Numbers} → reading text ≡ Taken k → length (polynomials text) ≡ 40 * k.ring
unfolding polynomials
length_polynomials text {k} e =
    let t = taken text e in
    all_size {text = text} {n = k.ring} {d = zeros (40 * k.ring)}
    (record { form = t.form; ring = ap (λ (n : Numbers). n.ring) t.numbers; fit = t.fit; space = omega (arith, length-replicate {A = ℕ} (40 * k.ring) 0) })

-- ---- the form is canonical: two texts that are taken with the same numbers and the same lists are one text

abbrev sheet : Numbers → List (List ℕ) → Sheet
sheet k ls = record { numbers = k; a = get_or ls 0 []; b = get_or ls 1 []; k1 = get_or ls 2 []; k2 = get_or ls 3 []; k3 = get_or ls 4 [] }

same_sheet : (s t : Sheet) → s.numbers ≡ t.numbers → lists s ≡ lists t → s ≡ t
same_sheet s t e f = ap₂ sheet e f

pub canonical : (text other : Bytes) (k : Numbers) → reading text ≡ Taken k → reading other ≡ Taken k
    → lists (sheet_of text) ≡ lists (sheet_of other) → text ≡ other
canonical text other k e f g =
    let t = taken text e in
    let u = taken other f in
    let s = same_sheet (sheet_of text) (sheet_of other) (t.numbers ∙ sym u.numbers) g in
    (written_is text t.form).0 ∙ ap written s ∙ sym (written_is other u.form).0
