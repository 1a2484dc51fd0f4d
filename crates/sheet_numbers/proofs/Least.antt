-- The least repeats: the rule of the table, by one computed test of its 128 entries. Assumes nothing.
use mathlib.Core.Path.{◌≡◌, refl, sym, ap, ◌∙◌}
use mathlib.Core.Logic.{⊎_elim}
use mathlib.Core.Bool.{Bool, true, ◌&&◌}
use mathlib.Core.List.{List, [], ◌∷◌}
use Prim.Native.Nat.{ℕ, zero, suc, ◌+◌, ◌-◌, ◌≤◌, ◌<◌, ◌^◌}
use native.Mathlib.Nat.{pow-suc, add-suc, eq-or-lt_of_le, le_of_suc-le-suc, not-suc-le-zero}
use native.Mathlib.Omega.{arith}
use borrow.Author.Tests.{le-leb, lt-leb, leb-true}
use lib.Dec.{leb}
use lib.ListN.{get_or}
use Rattle.sheet_numbers.specs.Bounds.{most, least}
use Rattle.codec.proofs.Laws.{both}
use Rattle.codec.specs.Lists.{all}
use Rattle.codec.proofs.Lists.{all_sound}

-- for the rounds k + 1: met at m, missed at m + 1; and m is at most 256
abbrev met : ℕ → ℕ → Bool
met k m = leb (3 ^ m) (2 ^ (k + 1 + m))

abbrev over : ℕ → ℕ → Bool
over k m = leb (suc (2 ^ (k + 1 + suc m))) (3 ^ suc m)

unfoldable right : ℕ → ℕ → Bool
right k m = met k m && (over k m && leb m 256)

-- missed once, missed from there on
missed_next : (r m : ℕ) → 2 ^ (r + m) < 3 ^ m → 2 ^ (r + suc m) < 3 ^ suc m
missed_next r m h = rw (add-suc r m, pow-suc 2 (r + m), pow-suc 3 m) (omega arith)

pub missed : (r m : ℕ) → 2 ^ (r + suc m) < 3 ^ suc m → (n : ℕ) → m < n → 2 ^ (r + n) < 3 ^ n
missed r m h zero l = absurd (not-suc-le-zero l)
missed r m h (suc n) l = ⊎_elim (λ e. rw e at h) (λ k. missed_next r n (missed r m h n k)) (eq-or-lt_of_le (le_of_suc-le-suc l))

most_met : (r m : ℕ) → 3 ^ m ≤ 2 ^ (r + m) → most r m ≡ m
unfolding most
most_met r zero h = refl
most_met r (suc m) h = rw (le-leb (3 ^ suc m) (2 ^ (r + suc m)) h)

most_is : (r m : ℕ) → 3 ^ m ≤ 2 ^ (r + m) → 2 ^ (r + suc m) < 3 ^ suc m → (n : ℕ) → m ≤ n → most r n ≡ m
unfolding most
most_is r m h k zero l = let z : 0 ≡ m = omega arith in z
most_is r m h k (suc n) l =
    ⊎_elim (λ e. let q : most r (suc n) ≡ m = ap (most r) (sym e) ∙ most_met r m h in q)
    (λ j. rw (lt-leb (3 ^ suc n) (2 ^ (r + suc n)) (missed r m k (suc n) j)) (most_is r m h k n (le_of_suc-le-suc j)))
    (eq-or-lt_of_le l)

-- the code's table
unfoldable pub table : List ℕ
table =
    1 ∷ 3 ∷ 5 ∷ 6 ∷ 8 ∷ 10 ∷ 11 ∷ 13 ∷ 15 ∷ 17 ∷ 18 ∷ 20 ∷ 22 ∷ 23 ∷ 25 ∷ 27 ∷ 29 ∷ 30 ∷ 32 ∷ 34 ∷ 35 ∷ 37 ∷ 39 ∷ 41 ∷
    42 ∷ 44 ∷ 46 ∷ 47 ∷ 49 ∷ 51 ∷ 52 ∷ 54 ∷ 56 ∷ 58 ∷ 59 ∷ 61 ∷ 63 ∷ 64 ∷ 66 ∷ 68 ∷ 70 ∷ 71 ∷ 73 ∷ 75 ∷ 76 ∷ 78 ∷ 80 ∷
    82 ∷ 83 ∷ 85 ∷ 87 ∷ 88 ∷ 90 ∷ 92 ∷ 94 ∷ 95 ∷ 97 ∷ 99 ∷ 100 ∷ 102 ∷ 104 ∷ 105 ∷ 107 ∷ 109 ∷ 111 ∷ 112 ∷ 114 ∷ 116 ∷
    117 ∷ 119 ∷ 121 ∷ 123 ∷ 124 ∷ 126 ∷ 128 ∷ 129 ∷ 131 ∷ 133 ∷ 135 ∷ 136 ∷ 138 ∷ 140 ∷ 141 ∷ 143 ∷ 145 ∷ 147 ∷ 148 ∷
    150 ∷ 152 ∷ 153 ∷ 155 ∷ 157 ∷ 158 ∷ 160 ∷ 162 ∷ 164 ∷ 165 ∷ 167 ∷ 169 ∷ 170 ∷ 172 ∷ 174 ∷ 176 ∷ 177 ∷ 179 ∷ 181 ∷
    182 ∷ 184 ∷ 186 ∷ 188 ∷ 189 ∷ 191 ∷ 193 ∷ 194 ∷ 196 ∷ 198 ∷ 200 ∷ 201 ∷ 203 ∷ 205 ∷ 206 ∷ 208 ∷ 210 ∷ 211 ∷ 213 ∷
    215 ∷ 217 ∷ 218 ∷ []

passes : all 128 (λ k. right k (get_or table k 0)) ≡ true
unfolding table right all
passes = refl

module _ (k : ℕ) (h : k < 128) where
  abbrev m : ℕ
  m = get_or table k 0

  tested : right k m ≡ true
  tested = all_sound 128 (λ j. right j (get_or table j 0)) passes k h

  table_met : 3 ^ m ≤ 2 ^ (k + 1 + m)
  unfolding right
  table_met = leb-true (3 ^ m) (2 ^ (k + 1 + m)) (both (met k m) (over k m && leb m 256) tested).0

  rest : (over k m ≡ true) × (leb m 256 ≡ true)
  unfolding right
  rest = both (over k m) (leb m 256) (both (met k m) (over k m && leb m 256) tested).1

  table_over : 2 ^ (k + 1 + suc m) < 3 ^ suc m
  table_over = leb-true (suc (2 ^ (k + 1 + suc m))) (3 ^ suc m) rest.0

  table_few : m ≤ 256
  table_few = leb-true m 256 rest.1

  pub entry : get_or table k 0 ≡ least (k + 1)
  unfolding least
  entry = sym (most_is (k + 1) m table_met table_over 256 table_few)

-- m is the largest number with 3^m ≤ 2^(rounds + m)
pub record Largest (rounds m : ℕ) : Type 0 where
  pub met_at : 3 ^ m ≤ 2 ^ (rounds + m)
  pub missed_above : (n : ℕ) → m < n → 2 ^ (rounds + n) < 3 ^ n

pub least_largest : (rounds : ℕ) → 1 ≤ rounds → rounds ≤ 128 → Largest rounds (least rounds)
least_largest rounds low high =
    let k = rounds - 1 in
    let h : k < 128 = omega arith in
    let e : k + 1 ≡ rounds = omega arith in
    let l : Largest (k + 1) (get_or table k 0) = record { met_at = table_met k h; missed_above = missed (k + 1) (get_or table k 0) (table_over k h) } in
    rw (entry k h, e) at l
