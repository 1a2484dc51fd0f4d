-- The state of `write_lists`: the lists of a text that fits, put one after the other. Assumes nothing.
use mathlib.Core.Path.{◌≡◌, refl, sym, ap, ap₂, ◌∙◌}
use mathlib.Core.Logic.{⊎_elim}
use mathlib.Core.Bool.{Bool, true, false, cond}
use mathlib.Core.List.{List, [], ◌∷◌, ◌++◌, flat_map, append_assoc, append-nil}
use Prim.Native.Nat.{ℕ, zero, suc, ◌+◌, ◌*◌, ◌≤◌, ◌<◌}
use native.Mathlib.Numerals.{add-one}
use native.Mathlib.Omega.{arith}
use borrow.Author.Tests.{eqb-true, not-false}
use lib.Dec.{ltb, eqb}
use lib.ListN.{length, take, drop, get_or, length-append, take-append-drop, drop_of_length-le}
use lib.Seq.{take-suc, take_all, drop-cons, drop-drop, drop_at}
use Rattle.codec.specs.Bytes.{Bytes, words, put}
use Rattle.codec.proofs.Laws.{both, length_put, put_none, put_append, le_or}
use Rattle.sheet_lines.specs.Form.{number_keys, list_keys}
use Rattle.sheet.specs.Form.{rows_of}
use Rattle.sheet_lines.specs.Reader.{LineFound, missing, found, fresh, values, line, Block, broken, block, preceded_by, onward, rows}
use Rattle.sheet.specs.Reader.{formed, sheet_of}
use Rattle.sheet_lines.specs.Internal.{none, outline, outlined, seen}
use Rattle.sheet.specs.Internal.{Ready, Writes, Fitting}
use Rattle.codec.proofs.Numbers.{length_words}
use Rattle.codec.specs.Lists.{all_below}
use Rattle.sheet.specs.Sheet.{polynomials, fits, lists, unfit}
use Rattle.sheet_lines.specs.declared.Lines.{Lines}
use Rattle.sheet_lines.proofs.Steps.{unroll, never_found}
use Rattle.sheet_lines.proofs.LineForm.{no_more, lined, never_block}
use Rattle.sheet.proofs.Form.{has_rows}
use Rattle.sheet_lines.proofs.Blocks.{rows_append, rows_broken}
use Rattle.sheet.proofs.Order.{every_at}

-- ---- keys

pub key_size : (k : ℕ) → k < 5 → length (get_or list_keys k []) ≡ cond (ltb k 2) 2 3
key_size zero h = refl
key_size (suc zero) h = refl
key_size (suc (suc zero)) h = refl
key_size (suc (suc (suc zero))) h = refl
key_size (suc (suc (suc (suc zero)))) h = refl
key_size (suc (suc (suc (suc (suc k))))) h = absurd (omega arith)

-- past the key of a line that is there
skip : (key t : Bytes) {xs : List ℕ} {r : Bytes} → line key t ≡ found xs r → values [] fresh (drop (length key) t) ≡ found xs r
unfolding line
skip [] t e = e
skip (k ∷ ks) [] e = never_found e
skip (k ∷ ks) (c ∷ t) {xs} {r} e = go (eqb c k) e (skip ks t)
  where
    go : (b : Bool) → cond b (line ks t) missing ≡ found xs r → (line ks t ≡ found xs r → values [] fresh (drop (length ks) t) ≡ found xs r)
        → values [] fresh (drop (length ks) t) ≡ found xs r
    go true e f = f e
    go false e f = never_found e

-- ---- the first of lines that are there

record First (k : Bytes) (ks : List Bytes) (t : Bytes) (r : List ℕ) (rs : List (List ℕ)) (u : Bytes) : Type 0 where
  next : Bytes
  is : line k t ≡ found r next
  others : rows ks next ≡ block rs u

first_row : (k : Bytes) (ks : List Bytes) (t : Bytes) {r : List ℕ} {rs : List (List ℕ)} {u : Bytes} → rows (k ∷ ks) t ≡ block (r ∷ rs) u → First k ks t r rs u
unfolding rows
first_row k ks t {r} {rs} {u} e = by_line (line k t) refl e
  where
    by_rest : (s : List ℕ) (w : Bytes) → line k t ≡ found s w → (b : Block) → rows ks w ≡ b → preceded_by (s ∷ []) b ≡ block (r ∷ rs) u → First k ks t r rs u
    by_rest s w f broken g e = never_block e
    by_rest s w f (block ss v) g e =
        let a : s ≡ r = cc in
        let b : block ss v ≡ block rs u = cc in
        record { next = w; is = f ∙ ap (λ (x : List ℕ). found x w) a; others = g ∙ b }

    by_line : (f : LineFound) → line k t ≡ f → onward f (rows ks) ≡ block (r ∷ rs) u → First k ks t r rs u
    by_line missing f e = never_block e
    by_line (found s w) f e = by_rest s w f (rows ks w) refl e

-- ---- where the lists begin

lists_from_rows : (text : Bytes) (b : Block) → rows number_keys text ≡ b → formed text ≡ true → (head : Lines) → seen text head ≡ outlined b
    → rows list_keys (drop head.next text) ≡ block (lists (sheet_of text)) []
lists_from_rows text broken e f head s = never_block (sym (rows_broken number_keys list_keys text e) ∙ has_rows text f)
lists_from_rows text (block rs u) e f head s = go head.whole s (rows list_keys u) refl (sym (rows_append number_keys list_keys text e) ∙ has_rows text f)
  where
    n : length rs ≡ 5
    n = (lined number_keys text e).count

    tail : (ls : List (List ℕ)) → rs ++ ls ≡ rows_of (sheet_of text) → ls ≡ lists (sheet_of text)
    tail ls q = sym (drop_at rs ls 5 n) ∙ ap (drop 5) q

    go : (w : Bool) → cond w (outline head.counts head.largest (drop head.next text)) none ≡ outlined (block rs u)
        → (b : Block) → rows list_keys u ≡ b → preceded_by rs b ≡ block (rows_of (sheet_of text)) []
        → rows list_keys (drop head.next text) ≡ block (lists (sheet_of text)) []
    go false s b g q = absurd (let z : ◌≡◌ {A = ℕ} 0 1 = cc in omega arith)
    go true s broken g q = never_block q
    go true s (block ls v) g q =
        let a : drop head.next text ≡ u = cc in
        let b : rs ++ ls ≡ rows_of (sheet_of text) = cc in
        let d : v ≡ [] = cc in
        ap (rows list_keys) a ∙ g ∙ ap₂ block (tail ls b) d

-- ---- polynomials one after the other

bytes_append : (xs ys : List (List ℕ)) → flat_map words (xs ++ ys) ≡ flat_map words xs ++ flat_map words ys
unfolding flat_map
bytes_append [] ys = refl
bytes_append (x ∷ xs) ys = rw (bytes_append xs ys) (sym (append_assoc (words x) (flat_map words xs) (flat_map words ys)))

bytes_one : (x : List ℕ) → flat_map words (x ∷ []) ≡ words x
unfolding flat_map
bytes_one x = append-nil (words x)

-- i lists of the text were put into d, up to o, and the text goes on at `at`
pub record Filling (text d : Bytes) (i at o : ℕ) (out : Bytes) : Type 0 where
  pub ahead : rows (drop i list_keys) (drop at text) ≡ block (drop i (lists (sheet_of text))) []
  pub place : o ≡ length (flat_map words (take i (lists (sheet_of text))))
  pub wrote : out ≡ put d 0 (flat_map words (take i (lists (sheet_of text))))

module _ {text : Bytes} {n : ℕ} {d : Bytes} (ok : Fitting text n d) where
  abbrev ls : List (List ℕ)
  ls = lists (sheet_of text)

  -- each list has n numbers
  count : (i : ℕ) → i < 5 → length (get_or ls i []) ≡ n
  unfolding unfit
  count i h =
      let e = every_at (fits (sheet_of text).numbers.ring (sheet_of text).numbers.modulus) ls i (not-false _ ok.fit) h in
      eqb-true (length (get_or ls i [])) (sheet_of text).numbers.ring
      (both (eqb (length (get_or ls i [])) (sheet_of text).numbers.ring) (all_below (sheet_of text).numbers.modulus (get_or ls i [])) e).0
      ∙ ok.ring

  size : (i : ℕ) → i < 5 → length (words (get_or ls i [])) ≡ 8 * n
  size i h = length_words (get_or ls i []) ∙ omega (arith, count i h)

  pub all_size : length (flat_map words ls) ≡ 40 * n
  unfolding flat_map
  all_size =
      simp length-append
      (omega (arith, size 0 (omega arith), size 1 (omega arith), size 2 (omega arith), size 3 (omega arith), size 4 (omega arith)))

  pub begins : (head : Lines) → seen text head ≡ outlined (rows number_keys text) → Filling text d 0 head.next 0 d
  unfolding flat_map
  begins head s = record { ahead = lists_from_rows text (rows number_keys text) refl ok.form head s; place = refl; wrote = sym (put_none d 0) }

  module _ {i at o : ℕ} {out : Bytes} (f : Filling text d i at o out) where
    pub ends : 5 ≤ i → out ≡ put d 0 (polynomials text)
    unfolding polynomials
    ends h = f.wrote ∙ ap (λ (l : List (List ℕ)). put d 0 (flat_map words l)) (take_all i ls h)

    module _ (h : i < 5) where
      abbrev key : Bytes
      key = get_or list_keys i []

      abbrev l : List ℕ
      l = get_or ls i []

      row : First key (drop (i + 1) list_keys) (drop at text) l (drop (i + 1) ls) []
      row =
          first_row key (drop (i + 1) list_keys) (drop at text)
          (ap (λ (ks : List Bytes). rows ks (drop at text)) (sym (unroll [] list_keys i h)) ∙ f.ahead ∙ ap (λ (x : List (List ℕ)). block x []) (unroll [] ls i h))

      found_at : values [] fresh (drop (at + length key) text) ≡ found l row.next
      found_at = rw (drop-drop (length key) at text) at (skip key (drop at text) row.is)

      pub key_fits : at + length key < length text
      key_fits =
          ⊎_elim
          (λ h.
          let e : drop (at + length key) text ≡ [] = drop_of_length-le text h in
          never_found (sym (no_more [] fresh) ∙ sym (ap (values [] fresh) e) ∙ found_at))
          (λ h. h)
          (le_or (length text) (at + length key))

      -- room for this list, and for those before it
      pub room : o + 8 * n ≤ length d
      unfolding flat_map
      room =
          let e : length (flat_map words (take i ls)) + length (flat_map words (drop i ls)) ≡ 40 * n =
          sym (length-append (flat_map words (take i ls)) (flat_map words (drop i ls))) ∙ ap length (sym (bytes_append (take i ls) (drop i ls)))
          ∙ ap (λ (x : List (List ℕ)). length (flat_map words x)) (take-append-drop i ls) ∙ all_size in
          let g : length (flat_map words (drop i ls)) ≡ length (words l) + length (flat_map words (drop (suc i) ls)) =
          ap (λ (x : List (List ℕ)). length (flat_map words x)) (drop-cons ls i [] h) ∙ length-append (words l) (flat_map words (drop (suc i) ls)) in
          omega (arith, f.place, size i h, ok.space)

      same_size : length out ≡ length d
      same_size = ap length f.wrote ∙ length_put d 0 (flat_map words (take i ls)) (omega (arith, f.place, room))

      module _ {k : ℕ} (e : k ≡ length key) where
        pub ready : Ready (values [] fresh (drop (at + k) text)) o out
        ready = rw (e, found_at) (record { there = λ z. never_found (sym z); room = omega (arith, room, same_size, count i h) })

        pub goes_on : {r : ℕ} {s : Bytes} → Writes (values [] fresh (drop (at + k) text)) o out (drop r text) s → Filling text d (i + 1) r (o + 8 * n) s
        goes_on {r} {s} w = record { ahead = ahead; place = place; wrote = wrote }
          where
            w' : Writes (found l row.next) o out (drop r text) s
            w' = rw (e, found_at) at w

            one_more : flat_map words (take (i + 1) ls) ≡ flat_map words (take i ls) ++ words l
            one_more = rw (add-one, take-suc ls i [] h) (bytes_append (take i ls) (l ∷ []) ∙ rw (bytes_one l))

            wrote : s ≡ put d 0 (flat_map words (take (i + 1) ls))
            wrote =
                let z : o ≡ 0 + length (flat_map words (take i ls)) = omega (arith, f.place) in
                w'.wrote ∙ rw (f.wrote, z, one_more)
                (put_append d 0 (flat_map words (take i ls)) (words l) (omega (arith, f.place, room, size i h)))

            ahead : rows (drop (i + 1) list_keys) (drop r text) ≡ block (drop (i + 1) ls) []
            ahead = rw w'.goes_on row.others

            place : o + 8 * n ≡ length (flat_map words (take (i + 1) ls))
            place = rw (one_more, length-append (flat_map words (take i ls)) (words l)) (omega (arith, f.place, size i h))
