-- The states of `write_values` and of `write_lists`, in a text whose lines are known to be there. Assumes nothing.
use mathlib.Core.Path.{◌≡◌, refl, sym, ap, ◌∙◌}
use mathlib.Core.Logic.{⊎_elim}
use mathlib.Core.Bool.{Bool, true, false, cond}
use mathlib.Core.List.{List, [], ◌∷◌, ◌++◌}
use Prim.Native.Nat.{ℕ, ◌+◌, ◌*◌, ◌^◌, ◌≤◌, ◌<◌}
use native.Mathlib.Nat.{le_refl, le_trans}
use native.Mathlib.Omega.{arith}
use lib.Dec.{ltb, leb, eqb}
use lib.ListN.{length, drop, get_or, length-append, drop_of_length-le}
use Rattle.codec.specs.Bytes.{Bytes, bytes, words, put}
use Rattle.codec.proofs.Laws.{put_none, put_append, le_or}
use Rattle.codec.proofs.Numbers.{length_bytes, length_words, words_append, words_one}
use Rattle.sheet_lines.specs.Reader.{digit, Place, fresh, within, LineFound, missing, found, Transition, stop, on, done, step, follow, values}
use Rattle.sheet.specs.Internal.{numbers_in, Ready, Writes}
use Rattle.sheet_lines.proofs.Steps.{unroll, same_or, begins, no_number, grows, leading_zero, too_long, comma, ends, neither}

-- ---- a line has no fewer numbers than were read

data Grown (n : ℕ) : LineFound → Type 0 where
  nothing : Grown n missing
  grown : {xs : List ℕ} {t : Bytes} → n ≤ length xs → Grown n (found xs t)

grown_le : {n : ℕ} {f : LineFound} → Grown n f → (f ≡ missing → ⊥) → n ≤ length (numbers_in f)
grown_le nothing m = absurd (m refl)
grown_le (grown k) m = k

snoc_more : (xs : List ℕ) (v : ℕ) → length xs ≤ length (xs ++ v ∷ [])
snoc_more xs v = simp length-append (omega arith)

data Kept (n : ℕ) : Transition → Type 0 where
  stops : Kept n stop
  moves : {xs : List ℕ} {p : Place} → n ≤ length xs → Kept n (on xs p)
  closes : {xs : List ℕ} → n ≤ length xs → Kept n (done xs)

pick : {n : ℕ} (b : Bool) {x y : Transition} → Kept n x → Kept n y → Kept n (cond b x y)
pick true p q = p
pick false p q = q

kept : (xs : List ℕ) (p : Place) (c : ℕ) → Kept (length xs) (step xs p c)
unfolding step
kept xs fresh c = pick (ltb (digit c) 10) (moves (le_refl (length xs))) stops
kept xs (within v) c =
    pick (ltb (digit c) 10)
    (pick (eqb v 0) stops (pick (leb (10 ^ 16) v) stops (moves (le_refl (length xs)))))
    (pick (eqb c 44) (moves (snoc_more xs v)) (pick (eqb c 10) (closes (snoc_more xs v)) stops))

fewer : {n m : ℕ} {f : LineFound} → n ≤ m → Grown m f → Grown n f
fewer h nothing = nothing
fewer h (grown k) = grown (le_trans h k)

follow_grown : {n : ℕ} {s : Transition} (f : List ℕ → Place → LineFound) (t : Bytes) → Kept n s → ((xs : List ℕ) (p : Place) → Grown (length xs) (f xs p))
    → Grown n (follow s f t)
follow_grown f t stops g = nothing
follow_grown f t (moves {xs} {p} h) g = fewer h (g xs p)
follow_grown f t (closes h) g = grown h

grow : (xs : List ℕ) (p : Place) (t : Bytes) → Grown (length xs) (values xs p t)
unfolding values
grow xs p [] = nothing
grow xs p (c ∷ t) = follow_grown (λ ys q. values ys q t) t (kept xs p c) (λ ys q. grow ys q t)

-- ---- a byte of a line that is there, at a place whose number so far is v

pub data At : ℕ → Place → Type 0 where
  before : At 0 fresh
  inside : {v : ℕ} → At v (within v)

module _ (xs : List ℕ) (c : ℕ) (t : Bytes) where
  digit_step : {v : ℕ} {p : Place} → At v p → (values xs p (c ∷ t) ≡ missing → ⊥) → digit c < 10
      → (v < 10 ^ 16) × (values xs p (c ∷ t) ≡ values xs (within (10 * v + digit c)) t)
  digit_step before m l =
      let e : digit c ≡ 10 * 0 + digit c = omega arith in
      (omega arith, begins xs c t l ∙ ap (λ (n : ℕ). values xs (within n) t) e)
  digit_step (inside {v}) m l =
      ⊎_elim (λ z. absurd (m (leading_zero xs c t v l z)))
      (λ z. ⊎_elim (λ b. absurd (m (too_long xs c t v l z b))) (λ s. (s, grows xs c t v l z s)) (le_or (10 ^ 16) v))
      (same_or v 0)

  comma_step : {v : ℕ} {p : Place} → At v p → (values xs p (c ∷ t) ≡ missing → ⊥) → 10 ≤ digit c → (c ≡ 10 → ⊥)
      → values xs p (c ∷ t) ≡ values (xs ++ v ∷ []) fresh t
  comma_step before m l e = absurd (m (no_number xs c t l))
  comma_step (inside {v}) m l e = ⊎_elim (λ f. comma xs c t v l f) (λ f. absurd (m (neither xs c t v l e f))) (same_or c 44)

  lf_step : {v : ℕ} {p : Place} → At v p → (values xs p (c ∷ t) ≡ missing → ⊥) → 10 ≤ digit c → c ≡ 10
      → values xs p (c ∷ t) ≡ found (xs ++ v ∷ []) t
  lf_step before m l e = absurd (m (no_number xs c t l))
  lf_step (inside {v}) m l e = ends xs c t v l e

  room_step : {v : ℕ} {p : Place} → At v p → (values xs p (c ∷ t) ≡ missing → ⊥) → 10 ≤ digit c
      → Grown (length (xs ++ v ∷ [])) (values xs p (c ∷ t))
  room_step {v} {p} a m l =
      ⊎_elim (λ e. rw (lf_step a m l e) (grown (le_refl (length (xs ++ v ∷ [])))))
      (λ e. rw (comma_step a m l e) (grow (xs ++ v ∷ []) fresh t))
      (same_or c 10)

-- ---- the state of `write_values`

-- the scan stands at i, and has put the numbers xs into d from `from` to o
pub record Writing (text : Bytes) (at from : ℕ) (d : Bytes) (i v o : ℕ) (out : Bytes) : Type 0 where
  pub xs : List ℕ
  pub p : Place
  pub stands : At v p
  pub same : values [] fresh (drop at text) ≡ values xs p (drop i text)
  pub wrote : out ≡ put d from (words xs)
  pub place : o ≡ from + 8 * length xs

pub starts : (text : Bytes) (at from : ℕ) (d : Bytes) → Writing text at from d at 0 from d
unfolding words
starts text at from d = record { xs = []; p = fresh; stands = before; same = refl; wrote = sym (put_none d from); place = omega arith }

module _ {text : Bytes} {at from : ℕ} {d : Bytes} (ok : Ready (values [] fresh (drop at text)) from d) {i v o : ℕ} {out : Bytes} (w : Writing text at from d i v o out) where
  over : (p : Place) → values w.xs p [] ≡ missing
  unfolding values
  over p = refl

  pub never_over : length text ≤ i → ⊥
  never_over h = ok.there (w.same ∙ rw (drop_of_length-le text h) (over w.p))

  -- at a byte of the text
  module _ (h : i < length text) where
    abbrev c : ℕ
    c = get_or text i 0

    abbrev t : Bytes
    t = drop (i + 1) text

    met : values [] fresh (drop at text) ≡ values w.xs w.p (c ∷ t)
    met = w.same ∙ rw (unroll 0 text i h)

    there : values w.xs w.p (c ∷ t) ≡ missing → ⊥
    there m = ok.there (met ∙ m)

    -- a digit
    module _ {g : ℕ} (e : g ≡ digit c) (l : g < 10) where
      pub small : v < 10 ^ 16
      small = (digit_step w.xs c t w.stands there (rw e at l)).0

      pub at_digit : Writing text at from d (i + 1) (10 * v + g) o out
      at_digit = record {
        xs = w.xs;
        p = within (10 * v + g);
        stands = inside;
        same = met ∙ rw e (digit_step w.xs c t w.stands there (rw e at l)).1;
        wrote = w.wrote;
        place = w.place;
      }

    -- another byte
    module _ (l : digit c ≡ 10) where
      pub room : o + 8 ≤ length d
      room =
          let k : length (w.xs ++ v ∷ []) ≤ length (numbers_in (values [] fresh (drop at text))) =
          grown_le (rw met (room_step w.xs c t w.stands there (omega arith))) ok.there in
          let n : length w.xs + 1 ≤ length (numbers_in (values [] fresh (drop at text))) = simp length-append at k in
          omega (arith, w.place, ok.room)

      put_next : put out o (bytes 8 v) ≡ put d from (words (w.xs ++ v ∷ []))
      put_next =
          let m : o ≡ from + length (words w.xs) = omega (arith, w.place, length_words w.xs) in
          rw (w.wrote, m, put_append d from (words w.xs) (bytes 8 v) (omega (arith, room, length_bytes 8 v)), words_append w.xs (v ∷ []), words_one v)

      module _ {s : Bytes} (q : s ≡ put out o (bytes 8 v)) where
        pub at_comma : (c ≡ 10 → ⊥) → Writing text at from d (i + 1) 0 (o + 8) s
        at_comma f = record {
          xs = w.xs ++ v ∷ [];
          p = fresh;
          stands = before;
          same = met ∙ comma_step w.xs c t w.stands there (omega arith) f;
          wrote = q ∙ put_next;
          place = simp length-append (omega (arith, w.place));
        }

        pub at_lf : c ≡ 10 → Writes (values [] fresh (drop at text)) from d t s
        at_lf f =
            let z = met ∙ lf_step w.xs c t w.stands there (omega arith) f in
            record { wrote = q ∙ put_next ∙ rw z; goes_on = rw z }
