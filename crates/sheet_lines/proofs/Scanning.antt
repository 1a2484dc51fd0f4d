-- The state of `scan_values` and of `scan_line`, and what a byte makes of it. Assumes nothing.
use mathlib.Core.Path.{◌≡◌, refl, sym, ◌∙◌}
use mathlib.Core.Bool.{Bool, true, false, cond, ◌&&◌}
use mathlib.Core.List.{List, [], ◌∷◌, ◌++◌, append-nil}
use Prim.Native.Nat.{ℕ, ◌+◌, ◌*◌, ◌^◌, ◌≤◌, ◌<◌}
use native.Mathlib.Omega.{arith}
use borrow.Author.Tests.{lt-ltb, eq-eqb, ne_eqb, eqb-true, eqb-false}
use lib.Dec.{eqb, leb}
use lib.ListN.{length, take, drop, get_or, length-append, drop_of_length-le}
use Rattle.codec.specs.Bytes.{Bytes}
use Rattle.std.proofs.lemmas.Bool.Decides.{nat_tests}
use Rattle.std.specs.Prelude.{Option, None, Some, max}
use lib.Seq.{drop-drop, drop-length}
use Rattle.std.specs.Cmp.Lexicographic.{pointwise}
use Rattle.std.specs.List.{slice_range, starts_with}
use Rattle.std.proofs.lemmas.List.Folds.{drop_split}
use Rattle.sheet_lines.specs.Reader.{digit, Place, fresh, within, LineFound, missing, stop, on, follow, step, values, line}
use Rattle.sheet_lines.specs.Internal.{longer, bigger, largest, bad, sum, summed}
use Rattle.sheet_lines.proofs.Steps.{unroll, no_number, comma, ends, neither}

largest_snoc : (m : ℕ) (xs : List ℕ) (v : ℕ) → largest m (xs ++ v ∷ []) ≡ bigger (largest m xs) v
unfolding largest
largest_snoc m [] v = refl
largest_snoc m (x ∷ xs) v = largest_snoc (bigger m x) xs v

max_is : (a b : ℕ) → max a b ≡ bigger a b
max_is a b = grind (arith, nat_tests)

abbrev place_of : Option ℕ → Place
place_of None = fresh
place_of (Some v) = within v

-- the scan stands at i, with the numbers xs read, and the value of the digits of the next
pub record Scanning (text : Bytes) (at i : ℕ) (value : Option ℕ) (n top : ℕ) : Type 0 where
  pub xs : List ℕ
  pub same : values [] fresh (drop at text) ≡ values xs (place_of value) (drop i text)
  pub count : n ≡ length xs
  pub most : top ≡ largest 0 xs
  pub few : n ≤ i

-- what a digit makes of the numbers
abbrev digit_found : List ℕ → Option ℕ → Bytes → LineFound
digit_found xs None t = missing
digit_found xs (Some v) t = values xs (within v) t

at_digit : (xs : List ℕ) (value : Option ℕ) (c : ℕ) (t : Bytes) → digit c < 10 → values xs (place_of value) (c ∷ t) ≡ digit_found xs (longer value (digit c)) t
unfolding values step
at_digit xs None c t d = rw (lt-ltb (digit c) 10 d)
at_digit xs (Some v) c t d = rw (lt-ltb (digit c) 10 d) (go (eqb v 0) (leb (10 ^ 16) v))
  where
    go : (z l : Bool) → follow (cond z stop (cond l stop (on xs (within (10 * v + digit c))))) (λ ys q. values ys q t) t
        ≡ digit_found xs (cond z None (cond l None (Some (10 * v + digit c)))) t
    go true l = refl
    go false true = refl
    go false false = refl

pub starts : (text : Bytes) (at : ℕ) → Scanning text at at None 0 0
unfolding largest
starts text at = record { xs = []; same = refl; count = refl; most = refl; few = omega arith }

module _ {text : Bytes} {at i : ℕ} {value : Option ℕ} {n top : ℕ} (r : Scanning text at i value n top) where
  pub over : length text ≤ i → bad ≡ summed (values [] fresh (drop at text))
  unfolding values
  over h = rw (r.same, drop_of_length-le text h)

  -- at a byte of the text
  module _ (h : i < length text) where
    abbrev c : ℕ
    c = get_or text i 0

    abbrev t : Bytes
    t = drop (i + 1) text

    met : values [] fresh (drop at text) ≡ values r.xs (place_of value) (c ∷ t)
    met = r.same ∙ rw (unroll 0 text i h)

    -- a digit
    module _ {d : ℕ} (e : d ≡ digit c) (l : d < 10) where
      digit_is : values [] fresh (drop at text) ≡ digit_found r.xs (longer value d) t
      digit_is = met ∙ rw e (at_digit r.xs value c t (rw e at l))

      pub goes_on : {v : ℕ} → longer value d ≡ Some v → Scanning text at (i + 1) (Some v) n top
      goes_on m = record { xs = r.xs; same = digit_is ∙ rw m; count = r.count; most = r.most; few = omega (arith, r.few) }

      pub stops : longer value d ≡ None → bad ≡ summed (values [] fresh (drop at text))
      stops m = rw (digit_is, m)

    -- another byte
    module _ (l : digit c ≡ 10) where
      pub not_begun : value ≡ None → bad ≡ summed (values [] fresh (drop at text))
      not_begun b = rw (met, b, no_number r.xs c t (omega arith))

      module _ {v : ℕ} (b : value ≡ Some v) where
        pub at_other : (c ≡ 10 → ⊥) → (c ≡ 44 → ⊥) → bad ≡ summed (values [] fresh (drop at text))
        at_other f g = rw (met, b, neither r.xs c t v (omega arith) f g)

        pub at_comma : c ≡ 44 → Scanning text at (i + 1) None (n + 1) (max top v)
        at_comma f = record {
          xs = r.xs ++ v ∷ [];
          same = met ∙ rw b (comma r.xs c t v (omega arith) f);
          count = simp length-append (omega (arith, r.count));
          most = rw r.most (max_is (largest 0 r.xs) v ∙ sym (largest_snoc 0 r.xs v));
          few = omega (arith, r.few);
        }

        pub at_lf : c ≡ 10 → sum (n + 1) (max top v) t ≡ summed (values [] fresh (drop at text))
        at_lf f = rw (met, b, ends r.xs c t v (omega arith) f, length-append, largest_snoc, r.count, r.most, max_is)

-- a line is there where the text begins with its key
pub by_key : (key t : Bytes) → line key t ≡ cond (pointwise eqb key (take (length key) t)) (values [] fresh (drop (length key) t)) missing
unfolding line
by_key [] t = refl
by_key (k ∷ ks) [] = refl
by_key (k ∷ ks) (c ∷ t) = go (eqb c k) refl (by_key ks t)
  where
    go : (a : Bool) → eqb c k ≡ a → line ks t ≡ cond (pointwise eqb ks (take (length ks) t)) (values [] fresh (drop (length ks) t)) missing
        → cond a (line ks t) missing ≡ cond (eqb k c && pointwise eqb ks (take (length ks) t)) (values [] fresh (drop (length ks) t)) missing
    go true e h = rw (eq-eqb k c (sym (eqb-true c k e))) h
    go false e h = rw (ne_eqb k c (λ f. eqb-false c k e (sym f)))

-- the same from a place of a text on
pub line_at : (key text rest : Bytes) (at : ℕ) (b : Bool) → at ≤ length text → rest ≡ slice_range text at (length text) → b ≡ starts_with eqb rest key
    → line key (drop at text) ≡ cond b (values [] fresh (drop (at + length key) text)) missing
line_at key text rest at b h e s =
    let d : rest ≡ drop at text = e ∙ sym (append-nil (slice_range text at (length text))) ∙ sym (rw drop-length at (drop_split text at (length text) h)) in
    by_key key (drop at text) ∙ rw (s, d, drop-drop (length key) at text)

pub no_key : (key : Bytes) → line key [] ≡ missing
unfolding line values
no_key [] = refl
no_key (k ∷ ks) = refl
