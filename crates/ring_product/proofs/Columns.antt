-- The columns of a block of products and the digits of their sum: room for 128 products in a block, and how a block is added. Assumes nothing.
use mathlib.Core.Path.{◌≡◌, sym, ap, ap₂, ◌∙◌}
use Prim.Native.Nat.{ℕ, ◌+◌, ◌*◌, ◌/◌, ◌%◌, ◌^◌, ◌≤◌, ◌<◌}
use native.Mathlib.Nat.{mul-add, mul-one, add-le-add}
use native.Mathlib.Numerals.{add-one}
use native.Mathlib.Omega.{arith}
use Rattle.modular.proofs.Digits.{digits_le, low_digit, high_digit, by_digits}
use Rattle.ring.specs.Poly.{Poly, sum}
use Rattle.ring_product.specs.Internal.{Columns, Digits}
use Rattle.ring.proofs.Sums.{sum_split}

gather : (lo mid hi u v w z : ℕ) → lo + u + (mid + (v + w) + (hi + z) * 268435456) * 268435456 ≡ lo + (mid + hi * 268435456) * 268435456 + (u + (v + w + z * 268435456) * 268435456)
gather lo mid hi u v w z = omega arith

room : (m j s t : ℕ) → s ≤ m * j → t ≤ m → s + t ≤ m * (j + 1)
room m j s t h k = rw (mul-add m j 1) (omega (arith, mul-one m))

-- the high digit as the code takes it
pub high_masked : (x : ℕ) → x < 2 ^ 56 → x / 268435456 % 268435456 ≡ x / 268435456
high_masked x h = omega arith

module _ (a b : Poly) (j lo mid hi : ℕ) where
  pub columns_none : Columns a b 0 0 0 0
  unfolding Columns sum
  columns_none = (omega arith, omega arith, omega arith, omega arith)

  pub columns_room : Columns a b j lo mid hi → j ≤ 128 → (lo < 2 ^ 64) × (mid < 2 ^ 64) × (hi < 2 ^ 64)
  unfolding Columns
  columns_room s h =
      let l = s.0 in
      let m = s.1 in
      let n = s.2 in
      (omega arith, omega arith, omega arith)

  -- one product more
  pub columns_more : Columns a b j lo mid hi → (x y : ℕ) → x ≡ a j → y ≡ b j → x < 2 ^ 56 → y < 2 ^ 56
      → Columns a b (j + 1)
      (lo + x % 268435456 * (y % 268435456))
      (mid + (x % 268435456 * (y / 268435456 % 268435456) + x / 268435456 % 268435456 * (y % 268435456)))
      (hi + x / 268435456 % 268435456 * (y / 268435456 % 268435456))
  unfolding Columns sum
  columns_more s x y ex ey hx hy = rw (high_masked x hx, high_masked y hy) (
    room _ j lo _ s.0 (digits_le _ _ (low_digit x) (low_digit y)),
    room _ j mid _ s.1 (add-le-add (digits_le _ _ (low_digit x) (high_digit y hy)) (digits_le _ _ (high_digit x hx) (low_digit y))),
    room _ j hi _ s.2 (digits_le _ _ (high_digit x hx) (high_digit y hy)),
    gather lo mid hi _ _ _ _ ∙ ap₂ (λ (m n : ℕ). m + n) s.3 (by_digits 268435456 x y ∙ ap₂ (λ (m n : ℕ). m * n) ex ey) ∙ rw (add-one j),
  )

-- ---- carries, with room for a block

carry : (x y : ℕ) → x % 268435456 + (y + x / 268435456) * 268435456 ≡ x + y * 268435456
carry x y = omega arith

-- a column of a block, at most
wide : (n c x : ℕ) → n ≤ 128 → x ≤ c * n → x ≤ c * 128
wide n c x h l = native.Mathlib.Nat.le_trans l (native.Mathlib.Nat.mul-le-mul_left c h)

-- how far a column goes with the digit before it and its carry
first_le : (d lo : ℕ) → d < 268435456 → lo ≤ 72057593501057025 * 128 → (d + lo < 2 ^ 64) × ((d + lo) / 268435456 ≤ 34359738368)
first_le d lo h l = (omega arith, omega arith)

second_le : (d mid c : ℕ) → d < 268435456 → mid ≤ 144115187002114050 * 128 → c ≤ 34359738368 → (d + mid + c < 2 ^ 64) × ((d + mid + c) / 268435456 ≤ 68719476736)
second_le d mid c h l k = (omega arith, omega arith)

third_le : (d hi c : ℕ) → d < 268435456 → hi ≤ 72057593501057025 * 128 → c ≤ 68719476736 → (d + hi + c < 2 ^ 64) × ((d + hi + c) / 268435456 ≤ 68719476736)
third_le d hi c h l k = (omega arith, omega arith)

last_le : (d c n m : ℕ) → d ≤ 68719476736 * n → c ≤ 68719476736 → 0 < m → d + c ≤ 68719476736 * (n + m)
last_le d c n m h l p = rw (mul-add 68719476736 n m) (omega arith)

pub last_fits : (d n : ℕ) → d ≤ 68719476736 * n → n ≤ 2048 → d < 2 ^ 64
last_fits d n h l = omega arith

-- ---- a block of m products is added to the digits of n

module _ (a b : Poly) (n d0 d1 d2 d3 : ℕ) where
  pub digits_none : Digits a b 0 0 0 0 0
  unfolding Digits sum
  digits_none = (omega arith, omega arith, omega arith, omega arith, omega arith)

  pub digits_value : Digits a b n d0 d1 d2 d3 → d0 + (d1 + (d2 + d3 * 268435456) * 268435456) * 268435456 ≡ sum n (λ i. a i * b i)
  unfolding Digits
  digits_value s = s.4

  module _ (m lo mid hi : ℕ) (s : Digits a b n d0 d1 d2 d3) (t : Columns (λ i. a (n + i)) (λ i. b (n + i)) m lo mid hi) (p : 0 < m) (l : m ≤ 128) where
    abbrev pub first : ℕ
    first = d0 + lo

    abbrev pub second : ℕ
    second = d1 + mid + first / 268435456

    abbrev pub third : ℕ
    third = d2 + hi + second / 268435456

    pub first_room_lem : (first < 2 ^ 64) × (first / 268435456 ≤ 34359738368)
    unfolding Digits Columns
    first_room_lem = first_le d0 lo s.0 (wide m _ lo l t.0)

    pub second_room_lem : (second < 2 ^ 64) × (second / 268435456 ≤ 68719476736)
    unfolding Digits Columns
    second_room_lem = second_le d1 mid (first / 268435456) s.1 (wide m _ mid l t.1) first_room_lem.1

    pub third_room : (third < 2 ^ 64) × (third / 268435456 ≤ 68719476736)
    unfolding Digits Columns
    third_room = third_le d2 hi (second / 268435456) s.2 (wide m _ hi l t.2) second_room_lem.1

    pub last_room : d3 + third / 268435456 ≤ 68719476736 * (n + m)
    unfolding Digits
    last_room = last_le d3 (third / 268435456) n m s.3 third_room.1 p

    whole : first % 268435456 + (second % 268435456 + (third % 268435456 + (d3 + third / 268435456) * 268435456) * 268435456) * 268435456
        ≡ d0 + (d1 + (d2 + d3 * 268435456) * 268435456) * 268435456 + (lo + (mid + hi * 268435456) * 268435456)
    whole =
        let e3 : third + d3 * 268435456 ≡ d2 + hi + d3 * 268435456 + second / 268435456 = omega arith in
        let e2 : second + (d2 + hi + d3 * 268435456) * 268435456 ≡ d1 + mid + (d2 + hi + d3 * 268435456) * 268435456 + first / 268435456 = omega arith in
        ap (λ (x : ℕ). first % 268435456 + (second % 268435456 + x * 268435456) * 268435456) (carry third d3 ∙ e3)
        ∙ ap (λ (x : ℕ). first % 268435456 + x * 268435456) (carry second (d2 + hi + d3 * 268435456) ∙ e2)
        ∙ carry first (d1 + mid + (d2 + hi + d3 * 268435456) * 268435456) ∙ omega arith

    pub carried : Digits a b (n + m) (first % 268435456) (second % 268435456) (third % 268435456) (d3 + third / 268435456)
    unfolding Digits Columns
    carried = (low_digit first, low_digit second, low_digit third, last_room, whole ∙ ap₂ (λ (u v : ℕ). u + v) s.4 t.3 ∙ sym (sum_split n m (λ i. a i * b i)))
