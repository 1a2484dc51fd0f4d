-- Laws of two cases, of parts, of a part put in place, and of equality as a test. Assumes nothing.
use mathlib.Core.Path.{◌≡◌, refl, sym, ap, ap₂, ◌∙◌}
use mathlib.Core.Logic.{◌⊎◌, inl, inr}
use mathlib.Core.Bool.{Bool, true, false, ◌&&◌}
use mathlib.Core.List.{[], ◌∷◌, ◌++◌, append-nil, append_assoc}
use Prim.Native.Nat.{ℕ, zero, suc, ◌+◌, ◌-◌, min, ◌≤◌, ◌<◌}
use native.Mathlib.Decide.{dec_le}
use native.Mathlib.Nat.{zero-add, add-zero, suc-add, lt_of_not-le}
use native.Mathlib.Numerals.{add-one}
use native.Mathlib.Omega.{arith}
use borrow.Author.Tests.{eqb-true, eq-eqb}
use lib.Dec.{eqb}
use lib.Pointwise.{pointwise}
use lib.ListN.{length, take, drop, set, length-append, length-take, length-drop, take-append-drop, drop_of_length-le, length-replicate, get_or-replicate}
use lib.Seq.{paste, length-take-le, take-length, drop-length, drop-drop, take-take, take-add, take-nil, take_at, drop_at, set_split, get_or-take, get_or-drop}
use Rattle.codec.specs.Bytes.{Bytes, Octets, part, put, zeros, same}

-- ---- two cases

pub le_or : (m n : ℕ) → (m ≤ n) ⊎ (n < m)
le_or m n = go (dec_le m n)
  where
    go : Dec (m ≤ n) → (m ≤ n) ⊎ (n < m)
    go (yes h) = inl h
    go (no h) = inr (lt_of_not-le h)

pub both : (a b : Bool) → (a && b) ≡ true → (a ≡ true) × (b ≡ true)
both true true e = (refl, refl)
both true false e = (refl, e)
both false b e = (e, absurd (let z : ◌≡◌ {A = ℕ} 0 1 = cc in omega arith))

-- ---- parts

pub length_part : (s : Bytes) (at n : ℕ) → at + n ≤ length s → length (part s at n) ≡ n
length_part s at n h = length-take-le n (drop at s) (simp length-drop (omega arith))

-- k bytes, and the n bytes after them
pub part_append : (s : Bytes) (at k n : ℕ) → part s at (k + n) ≡ part s at k ++ part s (at + k) n
part_append s at k n = take-add k n (drop at s) ∙ ap (λ (t : Bytes). part s at k ++ take n t) (drop-drop k at s)

pub drop_take : (k n : ℕ) (s : Bytes) → drop k (take (k + n) s) ≡ take n (drop k s)
drop_take zero n s = rw zero-add
drop_take (suc k) n [] = rw suc-add (sym (take-nil n))
drop_take (suc k) n (b ∷ s) = rw suc-add (drop_take k n s)

-- a part of a part
pub part_part : (s : Bytes) (at n k m : ℕ) → k + m ≤ n → part (part s at n) k m ≡ part s (at + k) m
part_part s at n k m h =
    let e : n ≡ k + (n - k) = omega arith in
    ap (λ (j : ℕ). take m (drop k (take j (drop at s)))) e
    ∙ ap (take m) (drop_take k (n - k) (drop at s))
    ∙ take-take m (n - k) (drop k (drop at s)) (omega arith)
    ∙ ap (take m) (drop-drop k at s)

-- past the end there is nothing
pub part_none : (s : Bytes) (at n : ℕ) → length s ≤ at → part s at n ≡ []
part_none s at n h = ap (take n) (drop_of_length-le s h) ∙ take-nil n

pub part_whole : (s : Bytes) → part s 0 (length s) ≡ s
part_whole s = take-length s

-- ---- bytes are below 256

pub octets_one : (b : ℕ) → b < 256 → Octets (b ∷ [])
octets_one b l zero h = l
octets_one b l (suc i) h = absurd (omega arith)

pub octets_zeros : (n : ℕ) → Octets (zeros n)
octets_zeros n i h = rw (get_or-replicate {A = ℕ} n i 0 0 (rw (length-replicate {A = ℕ} n 0) at h)) (omega arith)

pub octets_drop : (s : Bytes) (n : ℕ) → Octets s → Octets (drop n s)
octets_drop s n o i h =
    let l : i < length s - n = rw (length-drop n s) at h in
    rw (get_or-drop n s i 0) (o (n + i) (omega arith))

pub octets_part : (s : Bytes) (at n : ℕ) → Octets s → Octets (part s at n)
octets_part s at n o i h =
    let l : i < min n (length (drop at s)) = rw (length-take n (drop at s)) at h in
    rw (get_or-take n (drop at s) i 0 (omega arith)) (octets_drop s at o i (omega arith))

pub octets_append : (s t : Bytes) → Octets s → Octets t → Octets (s ++ t)
octets_append [] t os ot i h = ot i h
octets_append (b ∷ s) t os ot zero h = os 0 (omega arith)
octets_append (b ∷ s) t os ot (suc i) h = octets_append s t (λ j l. os (suc j) (omega arith)) ot i (omega arith)

-- ---- a part put in place

pub length_put : (d : Bytes) (at : ℕ) (s : Bytes) → at + length s ≤ length d → length (put d at s) ≡ length d
unfolding put
length_put d at s h = simp (length-append, length-take, length-drop) (omega arith)

-- the loop that copies ends at the whole of s
pub paste_all : (d : Bytes) (at : ℕ) (s : Bytes) → paste d at s (length s) ≡ put d at s
unfolding put
paste_all d at s = rw take-length (append_assoc (take at d) s (drop (at + length s) d))

pub put_none : (d : Bytes) (at : ℕ) → put d at [] ≡ d
unfolding put
put_none d at = rw add-zero (take-append-drop at d)

pub put_whole : (d s : Bytes) → length s ≡ length d → put d 0 s ≡ s
unfolding put
put_whole d s h = rw (zero-add, h, drop-length d) (append-nil s)

pub put_one : (d : Bytes) (at b : ℕ) → at < length d → put d at (b ∷ []) ≡ set d at b
unfolding put
put_one d at b h = rw (add-one at, set_split d at b h)

module _ (d : Bytes) (at : ℕ) (s : Bytes) (h : at + length s ≤ length d) where
  front : length (take at d) ≡ at
  front = length-take-le at d (omega arith)

  head_length_lem : length (take at d ++ s) ≡ at + length s
  head_length_lem = simp length-append (omega (arith, front))

  regroup : put d at s ≡ (take at d ++ s) ++ drop (at + length s) d
  unfolding put
  regroup = sym (append_assoc (take at d) s (drop (at + length s) d))

  -- what stands before, there and after
  pub take_put : take (at + length s) (put d at s) ≡ take at d ++ s
  take_put = rw regroup (take_at (take at d ++ s) (drop (at + length s) d) (at + length s) head_length_lem)

  pub drop_put : drop (at + length s) (put d at s) ≡ drop (at + length s) d
  drop_put = rw regroup (drop_at (take at d ++ s) (drop (at + length s) d) (at + length s) head_length_lem)

  pub before_put : take at (put d at s) ≡ take at d
  unfolding put
  before_put = take_at (take at d) (s ++ drop (at + length s) d) at front

  -- written, then read
  pub part_put : part (put d at s) at (length s) ≡ s
  unfolding put
  part_put = rw (drop_at (take at d) (s ++ drop (at + length s) d) at front) (take_at s (drop (at + length s) d) (length s) refl)

-- read, then written
pub put_part : (d : Bytes) (at n : ℕ) → at + n ≤ length d → put d at (part d at n) ≡ d
unfolding put
put_part d at n h =
    rw (length_part d at n h, ← (drop-drop n at d), take-append-drop n (drop at d)) (take-append-drop at d)

-- two byte strings side by side
pub put_append : (d : Bytes) (at : ℕ) (s t : Bytes) → at + (length s + length t) ≤ length d → put (put d at s) (at + length s) t ≡ put d at (s ++ t)
unfolding put
put_append d at s t h =
    let m = at + length s in
    let l : m ≤ length d = omega arith in
    let e : at + length (s ++ t) ≡ m + length t = simp length-append (omega arith) in
    ap₂ (λ (a b : Bytes). a ++ (t ++ b)) (take_put d at s l) (sym (drop-drop (length t) m (put d at s)) ∙ ap (drop (length t)) (drop_put d at s l) ∙ drop-drop (length t) m d)
    ∙ append_assoc (take at d) s (t ++ drop (m + length t) d)
    ∙ ap (λ (a : Bytes). take at d ++ a) (sym (append_assoc s t (drop (m + length t) d)) ∙ ap (λ (n : ℕ). (s ++ t) ++ drop n d) (sym e))

-- t behind s, which was written before
pub put_behind : (d s t : Bytes) (from at : ℕ) → at ≡ from + length s → at + length t ≤ length d → put (put d from s) at t ≡ put d from (s ++ t)
put_behind d s t from at l h = ap (λ (k : ℕ). put (put d from s) k t) l ∙ put_append d from s t (omega arith)

-- the same step by step
pub written_behind : (d d1 d2 s t : Bytes) (from at : ℕ) → at ≡ from + length s → at + length t ≤ length d → d1 ≡ put d from s → d2 ≡ put d1 at t → d2 ≡ put d from (s ++ t)
written_behind d d1 d2 s t from at l h e f = f ∙ ap (λ (x : Bytes). put x at t) e ∙ put_behind d s t from at l h

pub written_length : (d d1 s : Bytes) (from : ℕ) → from + length s ≤ length d → d1 ≡ put d from s → length d1 ≡ length d
written_length d d1 s from h e = ap length e ∙ length_put d from s h

-- a later write at the same place counts
pub put_put : (d : Bytes) (at : ℕ) (s t : Bytes) → at + length s ≤ length d → length t ≡ length s → put (put d at s) at t ≡ put d at t
unfolding put
put_put d at s t h e = ap₂ (λ (a b : Bytes). a ++ (t ++ b)) (before_put d at s h) (rw e (drop_put d at s h))

-- other places keep their bytes
pub part_put_before : (d : Bytes) (at : ℕ) (s : Bytes) (from n : ℕ) → at + length s ≤ length d → from + n ≤ at → part (put d at s) from n ≡ part d from n
part_put_before d at s from n h l =
    let low : (t : Bytes) → part (take at t) from n ≡ part t from n = λ t. part_part t 0 at from n l ∙ ap (λ (k : ℕ). part t k n) (zero-add from) in
    sym (low (put d at s)) ∙ ap (λ (t : Bytes). part t from n) (before_put d at s h) ∙ low d

pub part_put_after : (d : Bytes) (at : ℕ) (s : Bytes) (from n : ℕ) → at + length s ≤ length d → at + length s ≤ from → part (put d at s) from n ≡ part d from n
part_put_after d at s from n h l =
    let m = at + length s in
    let e : from ≡ m + (from - m) = omega arith in
    let high : (t : Bytes) → drop from t ≡ drop (from - m) (drop m t) = λ t. ap (λ (k : ℕ). drop k t) e ∙ sym (drop-drop (from - m) m t) in
    ap (take n) (high (put d at s) ∙ ap (drop (from - m)) (drop_put d at s h) ∙ sym (high d))

-- what was written can be told from the whole
pub put_injective : (d : Bytes) (at : ℕ) (s t : Bytes) → at + length s ≤ length d → length s ≡ length t → put d at s ≡ put d at t → s ≡ t
put_injective d at s t h e p =
    sym (part_put d at s h) ∙ ap₂ (λ (w : Bytes) (n : ℕ). part w at n) p e ∙ part_put d at t (rw (← e) h)

-- a part from a to e that was lent and came back as t
pub put_between : (d t : Bytes) (a e : ℕ) → a ≤ e → length t ≡ e - a → take a d ++ (t ++ drop (e - a) (drop a d)) ≡ put d a t
unfolding put
put_between d t a e h k = rw (← k, drop-drop (length t) a d)

-- ---- equality as a test

-- the library's test of two slices
pub pointwise_same : (s t : Bytes) → pointwise eqb s t ≡ same s t
unfolding same
pointwise_same [] [] = refl
pointwise_same [] (b ∷ t) = refl
pointwise_same (a ∷ s) [] = refl
pointwise_same (a ∷ s) (b ∷ t) = ap (λ (x : Bool). eqb a b && x) (pointwise_same s t)

pub same_refl : (s : Bytes) → same s s ≡ true
unfolding same
same_refl [] = refl
same_refl (b ∷ s) = rw (eq-eqb b b refl) (same_refl s)

pub same_equal : (s t : Bytes) → same s t ≡ true → s ≡ t
unfolding same
same_equal [] [] e = refl
same_equal [] (b ∷ t) e = absurd (let z : ◌≡◌ {A = ℕ} 0 1 = cc in omega arith)
same_equal (a ∷ s) [] e = absurd (let z : ◌≡◌ {A = ℕ} 0 1 = cc in omega arith)
same_equal (a ∷ s) (b ∷ t) e =
    let r = both (eqb a b) (same s t) e in
    ap₂ (λ (x : ℕ) (l : Bytes). x ∷ l) (eqb-true a b r.0) (same_equal s t r.1)

pub not_same : (s t : Bytes) → (s ≡ t → ⊥) → same s t ≡ false
not_same s t d = go (same s t) refl
  where
    go : (b : Bool) → same s t ≡ b → b ≡ false
    go true e = absurd (d (same_equal s t e))
    go false e = refl
