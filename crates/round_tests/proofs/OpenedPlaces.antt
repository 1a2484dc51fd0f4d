-- The opened share and its place: where the stretch lies, and that it is empty where there is none. Assumes nothing.
use mathlib.Core.Path.{◌≡◌, refl, sym, ap, ap₂, ◌∙◌}
use mathlib.Core.Logic.{◌≢◌}
use mathlib.Core.Bool.{Bool, true, false, cond}
use mathlib.Core.List.{[]}
use Prim.Native.Nat.{ℕ, suc, ◌+◌, ◌-◌, ◌*◌, ◌/◌, ◌%◌, ◌≤◌, ◌<◌}
use native.Mathlib.Nat.{mul-suc, mul-le-mul, mul_comm, mul-mod_right, mul-div_right, div-add-mod'}
use native.Mathlib.Omega.{arith}
use borrow.Author.Tests.{eqb-true, leb-true, ltb-true, eq-eqb, le-leb, lt-ltb}
use lib.Dec.{leb, ltb, eqb}
use lib.ListN.{length}
use Rattle.codec.specs.Bytes.{Bytes, part}
use Rattle.codec.proofs.Laws.{both}
use Rattle.sheet_numbers.specs.Bounds.{power}
use Rattle.round.specs.Round.{of_side}
use Rattle.round_tests.specs.Opened.{is_opened, opened_place}
use Rattle.round_tests.specs.Internal.{opened_share}

-- stretch j of those of m bytes each ends within l bytes
pub whole_stretch : (l m j : ℕ) → j < l / m → m * j + m ≤ l
whole_stretch l m j h = omega (arith, mul-suc m j, mul-le-mul {n₁ = m} {m₁ = suc j} {n₂ = m} {m₂ = l / m} (omega arith) h, mul_comm m (l / m), div-add-mod' l m)

-- ---- the place

module _ (side N length0 length1 j : ℕ) where
  -- there is a stretch, and where it lies
  pub record Opened (place : ℕ) : Type 0 where
    pub holds : is_opened side N length0 length1 j ≡ true
    pub begins : place ≡ 8 * N * j + 1
    pub one : side ≤ 1
    pub high : N ≤ 2048
    pub equal : length0 ≡ length1
    pub ends : 8 * N * j + 8 * N ≤ length0

  opened : (place : ℕ) → is_opened side N length0 length1 j ≡ true → place ≡ 8 * N * j + 1 → Opened place
  unfolding is_opened
  opened place e b =
      let s = both (leb side 1) _ e in
      let l = both (leb 4 N) _ s.1 in
      let h = both (leb N 2048) _ l.1 in
      let p = both (power 12 N) _ h.1 in
      let q = both (eqb length0 length1) _ p.1 in
      let w = both (eqb (length0 % (8 * N)) 0) (ltb j (length0 / (8 * N))) q.1 in
      record {
        holds = e;
        begins = b;
        one = leb-true side 1 s.0;
        high = leb-true N 2048 h.0;
        equal = eqb-true length0 length1 q.0;
        ends = whole_stretch length0 (8 * N) j (ltb-true j (length0 / (8 * N)) w.1);
      }

  pub place_opened : (place : ℕ) → place ≡ opened_place side N length0 length1 j → place ≢ 0 → Opened place
  unfolding opened_place
  place_opened place e d = go (is_opened side N length0 length1 j) refl e
    where
      go : (b : Bool) → is_opened side N length0 length1 j ≡ b → place ≡ cond b (8 * N * j + 1) 0 → Opened place
      go true h f = opened place h f
      go false h f = absurd (d f)

-- ---- the stretch

module _ (side N : ℕ) (shares0 shares1 : Bytes) (j : ℕ) where
  -- place 0: it is empty
  pub share_empty : opened_place side N (length shares0) (length shares1) j ≡ 0 → opened_share side N shares0 shares1 j ≡ []
  unfolding opened_place opened_share
  share_empty e = go (is_opened side N (length shares0) (length shares1) j) e
    where
      go : (b : Bool) → cond b (8 * N * j + 1) 0 ≡ 0 → cond b (part (of_side side shares0 shares1) (8 * N * j) (8 * N)) [] ≡ []
      go true f = absurd (omega arith)
      go false f = refl

  -- place at + 1: it is the 8N bytes from `at` on of the side's slice
  module _ (at long : ℕ) (e : opened_place side N (length shares0) (length shares1) j ≡ at + 1) (l : long ≡ 8 * N) where
    there : Opened side N (length shares0) (length shares1) j (at + 1)
    there = place_opened side N (length shares0) (length shares1) j (at + 1) (sym e) (λ z. omega arith)

    pub share_at_lem : opened_share side N shares0 shares1 j ≡ part (of_side side shares0 shares1) at long
    unfolding opened_share
    share_at_lem =
        let o = there in
        let f : 8 * N * j ≡ at = omega (arith, o.begins) in
        ap (λ (b : Bool). cond b (part (of_side side shares0 shares1) (8 * N * j) (8 * N)) []) o.holds ∙ ap₂ (part (of_side side shares0 shares1)) f (sym l)

  -- where there is one: its end, and side 0's
  pub opened_ends : opened_place side N (length shares0) (length shares1) j ≢ 0 → opened_place side N (length shares0) (length shares1) j + 8 * N ≤ length shares0 + 1
  opened_ends d =
      let o = place_opened side N (length shares0) (length shares1) j _ refl d in
      omega (arith, o.begins, o.ends)

  pub share_first : opened_place side N (length shares0) (length shares1) j ≢ 0 → side ≡ 0
      → opened_share side N shares0 shares1 j ≡ part shares0 (opened_place side N (length shares0) (length shares1) j - 1)
      (opened_place side N (length shares0) (length shares1) j - 1 + 8 * N - (opened_place side N (length shares0) (length shares1) j - 1))
  share_first d z =
      let p = opened_place side N (length shares0) (length shares1) j in
      let e : p ≡ p - 1 + 1 = omega arith in
      let l : p - 1 + 8 * N - (p - 1) ≡ 8 * N = omega arith in
      share_at_lem (p - 1) (p - 1 + 8 * N - (p - 1)) e l
      ∙ ap (λ (i : ℕ). part (of_side i shares0 shares1) (p - 1) (p - 1 + 8 * N - (p - 1))) z

  -- of m whole ballots, ballot j among them: it is that stretch of the side's slice
  module _ (m : ℕ) (one : side < 2) (low : 4 ≤ N) (high : N ≤ 2048) (size : power 12 N ≡ true) (l0 : length shares0 ≡ 8 * N * m) (l1 : length shares1 ≡ 8 * N * m) (h : j < m) where
    is_opened_lem : is_opened side N (length shares0) (length shares1) j ≡ true
    unfolding is_opened
    is_opened_lem =
        rw (le-leb side 1 (omega arith), le-leb 4 N low, le-leb N 2048 high, size, eq-eqb (length shares0) (length shares1) (l0 ∙ sym l1))
        (rw l0 (rw (mul-mod_right (8 * N) m, mul-div_right m {m = 8 * N} (omega arith)) (lt-ltb j m h)))

    pub share_of_lem : opened_share side N shares0 shares1 j ≡ part (of_side side shares0 shares1) (8 * N * j) (8 * N)
    unfolding opened_share
    share_of_lem = ap (λ (b : Bool). cond b (part (of_side side shares0 shares1) (8 * N * j) (8 * N)) []) is_opened_lem
