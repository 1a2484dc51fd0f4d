-- What is said of a text, from what the code saw of its ten lines. Assumes nothing.
use mathlib.Core.Path.{◌≡◌, refl, sym, ap, ◌∙◌}
use mathlib.Core.Bool.{Bool, true, false, cond, not, ◌&&◌}
use mathlib.Core.List.{List, [], ◌∷◌, ◌++◌, map}
use Prim.Native.Nat.{ℕ, zero, suc, ◌+◌, ◌≤◌, ◌<◌}
use native.Mathlib.Nat.{le_of_suc-le-suc, not-suc-le-zero}
use native.Mathlib.Omega.{arith}
use borrow.Author.Tests.{eq-eqb, ne_eqb, le-ltb, lt-ltb}
use lib.Dec.{eqb}
use lib.ListN.{length, drop, get_or, drop_of_length-le, get_or-append, get_or-map}
use lib.Seq.{take_at, get_or-append-add}
use Rattle.codec.specs.Bytes.{Bytes}
use Rattle.codec.specs.Reply.{first}
use Rattle.codec.specs.Reply as reply
use Rattle.sheet_lines.specs.Form.{number_keys, list_keys}
use Rattle.sheet.specs.Form.{Sheet}
use Rattle.sheet_lines.specs.Reader.{block, preceded_by, rows}
use Rattle.sheet.specs.Reader.{formed, sheet_from, sheet_of}
use Rattle.sheet_lines.specs.Internal.{largest, outlined, seen}
use Rattle.sheet.specs.Internal.{judged}
use Rattle.sheet_numbers.specs.Rules.{outside, unsound}
use Rattle.sheet.specs.Sheet.{fits, lists, unfit, reading_by, reading, reply_of, Reading, Taken, Refused}
use Rattle.sheet_lines.specs.declared.Lines.{Lines}
use Rattle.sheet_numbers.specs.declared.Numbers.{Numbers}
use Rattle.sheet_lines.proofs.Steps.{unroll}
use Rattle.codec.proofs.Laws.{both}
use Rattle.codec.specs.Lists.{every, all_below}
use Rattle.sheet_lines.proofs.LineForm.{lined}
use Rattle.sheet.proofs.Form.{single, one}
use Rattle.sheet_lines.proofs.Blocks.{rows_append, rows_broken, Five, five, not_five}
use Rattle.sheet_numbers.proofs.Ranges.{in_range}
use Rattle.sheet.proofs.Fits.{fits_all}

-- a refusal says what it should; it names no place
pub read_as : {said : Reading} {n : ℕ} → Refused n ≡ said → (Refused n ≡ said) × (reply.Refused n 0 ≡ reply_of said)
read_as e = (e, ap reply_of e)

pub taken_as : {said : Reading} {k : Numbers} → Taken k ≡ said → (Taken k ≡ said) × (reply.Taken ≡ reply_of said)
taken_as e = (e, ap reply_of e)

-- ---- lists of five

every_map : (f : ℕ → Bool) (g : List ℕ → ℕ) (rs : List (List ℕ)) → every f (map g rs) ≡ every (λ r. f (g r)) rs
every_map f g [] = refl
every_map f g (r ∷ rs) = ap (λ (b : Bool). f (g r) && b) (every_map f g rs)

pub every_at : (f : List ℕ → Bool) (rs : List (List ℕ)) (i : ℕ) → every f rs ≡ true → i < length rs → f (get_or rs i []) ≡ true
every_at f [] i e h = absurd (not-suc-le-zero h)
every_at f (r ∷ rs) zero e h = (both (f r) (every f rs) e).0
every_at f (r ∷ rs) (suc i) e h = every_at f rs i (both (f r) (every f rs) e).1 (le_of_suc-le-suc h)

by_places : (rs : List (List ℕ)) → length rs ≡ 5 → get_or rs 0 [] ∷ get_or rs 1 [] ∷ get_or rs 2 [] ∷ get_or rs 3 [] ∷ get_or rs 4 [] ∷ [] ≡ rs
by_places (r0 ∷ r1 ∷ r2 ∷ r3 ∷ r4 ∷ []) n = refl
by_places [] n = absurd (omega arith)
by_places (r0 ∷ []) n = absurd (omega arith)
by_places (r0 ∷ r1 ∷ []) n = absurd (omega arith)
by_places (r0 ∷ r1 ∷ r2 ∷ []) n = absurd (omega arith)
by_places (r0 ∷ r1 ∷ r2 ∷ r3 ∷ []) n = absurd (omega arith)
by_places (r0 ∷ r1 ∷ r2 ∷ r3 ∷ r4 ∷ r5 ∷ rs) n = absurd (omega arith)

largest_zero : (v : ℕ) → largest 0 (v ∷ []) ≡ v
unfolding largest
largest_zero zero = refl
largest_zero (suc v) = rw (lt-ltb 0 (suc v) (omega arith))

-- the largest number of a line of one is that number
largest_one : (r : List ℕ) → single r ≡ true → largest 0 r ≡ get_or r 0 0
largest_one r e = let o = one r e in ap (largest 0) o ∙ largest_zero (get_or r 0 0)

largest_none : largest 0 [] ≡ 0
unfolding largest
largest_none = refl

-- ---- the lines that the code saw

module _ (text : Bytes) (head : Lines) (sh : seen text head ≡ outlined (rows number_keys text)) where
  pub head_broken : head.whole ≡ false → formed text ≡ false
  unfolding formed
  head_broken w = rw (rows_broken number_keys list_keys text (not_five text head (rows number_keys text) sh w))

  module _ (w : head.whole ≡ true) (tail : Lines) (st : seen text tail ≡ outlined (rows list_keys (drop head.next text))) where
    abbrev H : Five (rows number_keys text) head.counts head.largest (drop head.next text)
    H = five text head (rows number_keys text) sh w

    joined : rows (number_keys ++ list_keys) text ≡ preceded_by H.rs (rows list_keys (drop head.next text))
    joined = rows_append number_keys list_keys text H.is

    pub tail_broken : tail.whole ≡ false → formed text ≡ false
    unfolding formed
    tail_broken x = rw (joined, not_five text tail (rows list_keys (drop head.next text)) st x)

    module _ (x : tail.whole ≡ true) where
      abbrev L : Five (rows list_keys (drop head.next text)) tail.counts tail.largest (drop tail.next text)
      L = five text tail (rows list_keys (drop head.next text)) st x

      all_rows : rows (number_keys ++ list_keys) text ≡ block (H.rs ++ L.rs) (drop tail.next text)
      all_rows = joined ∙ ap (preceded_by H.rs) L.is

      -- text after the last line
      pub more_text : tail.next < length text → formed text ≡ false
      unfolding formed
      more_text h = rw (all_rows, unroll 0 text tail.next h)

      head_five : length H.rs ≡ 5
      head_five = (lined number_keys text H.is).count

      tail_five : length L.rs ≡ 5
      tail_five = (lined list_keys (drop head.next text) L.is).count

      module _ (z : length text ≤ tail.next) where
        singles : formed text ≡ every (λ c. eqb c 1) head.counts
        unfolding formed
        singles =
            rw (all_rows, drop_of_length-le text z, take_at H.rs L.rs 5 head_five)
            (sym (ap (every (λ c. eqb c 1)) H.counted ∙ every_map (λ c. eqb c 1) length H.rs))

        pub not_single : every (λ c. eqb c 1) head.counts ≡ false → formed text ≡ false
        not_single y = singles ∙ y

        module _ (y : every (λ c. eqb c 1) head.counts ≡ true) where
          pub has_form : formed text ≡ true
          has_form = singles ∙ y

          number_at : (i : ℕ) → i < 5 → get_or head.largest i 0 ≡ get_or (get_or (H.rs ++ L.rs) i []) 0 0
          number_at i h =
              let e : single (get_or H.rs i []) ≡ true =
              every_at single H.rs i (sym (ap (every (λ c. eqb c 1)) H.counted ∙ every_map (λ c. eqb c 1) length H.rs) ∙ y) (omega (arith, head_five)) in
              let g : get_or (map (largest 0) H.rs) i 0 ≡ largest 0 (get_or H.rs i []) =
              ap (get_or (map (largest 0) H.rs) i) (sym largest_none) ∙ get_or-map (largest 0) H.rs i [] in
              ap (λ (l : List ℕ). get_or l i 0) H.most ∙ g ∙ largest_one (get_or H.rs i []) e
              ∙ ap (λ (r : List ℕ). get_or r 0 0) (sym (get_or-append H.rs L.rs [] i (omega (arith, head_five))))

          abbrev k : Numbers
          k = record {
            ring = get_or head.largest 0 0;
            modulus = get_or head.largest 1 0;
            drown = get_or head.largest 2 0;
            rounds = get_or head.largest 3 0;
            repeats = get_or head.largest 4 0;
          }

          read_rows : sheet_of text ≡ sheet_from (H.rs ++ L.rs)
          unfolding sheet_of
          read_rows = rw all_rows

          pub numbers_are : k ≡ (sheet_of text).numbers
          numbers_are =
              cc (
                number_at 0 (omega arith),
                number_at 1 (omega arith),
                number_at 2 (omega arith),
                number_at 3 (omega arith),
                number_at 4 (omega arith),
                ap (λ (s : Sheet). s.numbers) read_rows,
              )

          list_at : (i : ℕ) → get_or (H.rs ++ L.rs) (5 + i) [] ≡ get_or L.rs i []
          list_at i = ap (λ (n : ℕ). get_or (H.rs ++ L.rs) (n + i) []) (sym head_five) ∙ get_or-append-add H.rs L.rs i []

          lists_are : lists (sheet_of text) ≡ L.rs
          lists_are =
              ap lists read_rows ∙ cc (list_at 0, list_at 1, list_at 2, list_at 3, list_at 4, by_places L.rs tail_five)

          pub counts_are : tail.counts ≡ map length (lists (sheet_of text))
          counts_are = L.counted ∙ ap (map length) (sym lists_are)

          pub largest_are : tail.largest ≡ map (largest 0) (lists (sheet_of text))
          largest_are = L.most ∙ ap (map (largest 0)) (sym lists_are)

-- ---- the order

-- the refusals 3, 4 and 5, as tests that hold or not
abbrev after_form : Numbers → Bool → Bool → Bool → Reading
after_form k a b c = cond a (Refused 3) (cond b (Refused 4) (cond c (Refused 5) (Taken k)))

by_order : (k : Numbers) (a b c : Bool)
    → after_form k a b c ≡ reading_by (cond a (reply.Refused 3 0) (cond b (reply.Refused 4 0) (cond c (reply.Refused 5 0) reply.Taken))) k
by_order k true b c = refl
by_order k false true c = refl
by_order k false false true = refl
by_order k false false false = refl

by_fit : (k : Numbers) (u f : Bool) → cond u (Refused 4) (cond f (Taken k) (Refused 5)) ≡ after_form k false u (not f)
by_fit k true f = refl
by_fit k false true = refl
by_fit k false false = refl

judged_by_lem : (s : Sheet) (counts tops : List ℕ) → counts ≡ map length (lists s) → tops ≡ map (largest 0) (lists s)
    → judged s.numbers counts tops ≡ after_form s.numbers (outside s.numbers) (unsound s.numbers) (unfit s)
unfolding unfit
judged_by_lem s counts tops c t = go (outside s.numbers) refl
  where
    go : (o : Bool) → outside s.numbers ≡ o
        → cond o (Refused 3) (cond (unsound s.numbers) (Refused 4)
        (cond (every (λ n. eqb n s.numbers.ring) counts && all_below s.numbers.modulus tops) (Taken s.numbers) (Refused 5)))
        ≡ after_form s.numbers o (unsound s.numbers) (not (every (fits s.numbers.ring s.numbers.modulus) (lists s)))
    go true o = refl
    go false o =
        let q : 0 < s.numbers.modulus = omega (arith, (in_range s.numbers o).modulus_low) in
        rw (c, t, fits_all s.numbers.ring s.numbers.modulus q (lists s))
        (by_fit s.numbers (unsound s.numbers) (every (fits s.numbers.ring s.numbers.modulus) (lists s)))

module _ (text : Bytes) where
  pub no_text : length text ≡ 0 → Refused 1 ≡ reading text
  unfolding reading first
  no_text e = rw (eq-eqb (length text) 0 e)

  pub too_much : (length text ≡ 0 → ⊥) → 262144 < length text → Refused 1 ≡ reading text
  unfolding reading first
  too_much n h = rw (ne_eqb (length text) 0 n, lt-ltb 262144 (length text) h)

  module _ (n : length text ≡ 0 → ⊥) (h : length text ≤ 262144) where
    pub no_form : formed text ≡ false → Refused 2 ≡ reading text
    unfolding reading first
    no_form e = rw (ne_eqb (length text) 0 n, le-ltb 262144 (length text) h, e)

    by_tests : formed text ≡ true → after_form (sheet_of text).numbers (outside (sheet_of text).numbers) (unsound (sheet_of text).numbers) (unfit (sheet_of text)) ≡ reading text
    unfolding reading first
    by_tests e =
        rw (ne_eqb (length text) 0 n, le-ltb 262144 (length text) h, e)
        (by_order (sheet_of text).numbers (outside (sheet_of text).numbers) (unsound (sheet_of text).numbers) (unfit (sheet_of text)))

    pub judged_is : formed text ≡ true → (counts tops : List ℕ) → counts ≡ map length (lists (sheet_of text)) → tops ≡ map (largest 0) (lists (sheet_of text))
        → judged (sheet_of text).numbers counts tops ≡ reading text
    judged_is e counts tops c t = judged_by_lem (sheet_of text) counts tops c t ∙ by_tests e
