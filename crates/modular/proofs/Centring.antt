-- The centred form: congruent, at most (q - 1) / 2 in size, the only such number; sums that do not wrap. No proof calculates in ℤ: a whole number
-- is the difference of two natural numbers. Assumes nothing.
use Rattle.std.proofs.Common.{◌≡◌, ℕ, zero, suc, ◌+◌, ◌-◌, ◌*◌, ◌/◌, ◌%◌, ◌<◌, ◌≤◌, ℤ, pos, negsuc, ◌+ℤ◌, ◌-ℤ◌, nat_abs, sym, ap, ◌∙◌, add-zero, mod-lt, mul-zero, zero-add, arith, le-ltb, lt-ltb, le-leb}
use native.Mathlib.Nat.{mod-mod}
use native.Mathlib.Decide.{dec_le, dec_lt}
use borrow.Author.Tests.{lt-leb}
use Rattle.modular.specs.Modulo.{Same, centre, remainder}
use Rattle.modular.proofs.Congruence.{same_refl, same_eq, same_sym, ◌then◌, same_mod, same_add, same_mul, same_more, same_negative, with_opposite, close}

-- ---- a whole number is the difference of two natural numbers

abbrev pub up : ℤ → ℕ
up (pos n) = n
up (negsuc n) = 0

abbrev pub down : ℤ → ℕ
down (pos n) = 0
down (negsuc n) = suc n

pub abs_parts : (c : ℤ) → nat_abs c ≡ up c + down c
abs_parts (pos a) = sym (add-zero a)
abs_parts (negsuc a) = sym (zero-add (suc a))

-- the two parts decide it
parts_injective : (c d : ℤ) → up c + down d ≡ up d + down c → c ≡ d
parts_injective (pos a) (pos b) e = ap pos (omega arith)
parts_injective (pos a) (negsuc b) e = absurd (omega arith)
parts_injective (negsuc a) (pos b) e = absurd (omega arith)
parts_injective (negsuc a) (negsuc b) e = ap negsuc (omega arith)

-- a - b
difference_parts : (a b : ℕ) → up (pos a +ℤ negsuc b) + suc b ≡ a + down (pos a +ℤ negsuc b)
difference_parts a b = go (dec_lt a (suc b))
  where
    go : Dec (a < suc b) → up (pos a +ℤ negsuc b) + suc b ≡ a + down (pos a +ℤ negsuc b)
    go (yes h) = rw (lt-ltb a (suc b) h) (omega arith)
    go (no h) = rw (le-ltb a (suc b) (omega arith)) (omega arith)

-- the parts of a sum
pub sum_parts : (c d : ℤ) → up (c +ℤ d) + (down c + down d) ≡ up c + up d + down (c +ℤ d)
sum_parts (pos a) (pos b) = omega arith
sum_parts (pos a) (negsuc b) = omega (arith, difference_parts a b)
sum_parts (negsuc a) (pos b) = omega (arith, difference_parts b a)
sum_parts (negsuc a) (negsuc b) = omega arith

-- the remainder by p is that of up - down
pub remainder_parts : (p : ℕ) (c : ℤ) → 0 < p → remainder p c ≡ (up c + (p - 1) * down c) % p
unfolding remainder
remainder_parts p (pos n) h = ap (λ (x : ℕ). x % p) (omega (arith, mul-zero (p - 1)))
remainder_parts p (negsuc n) h =
    let l = mod-lt (suc n) {m = p} h in
    (same_negative {q = p} (suc n % p) (omega arith) h then same_mul same_refl same_mod then same_eq (sym (zero-add _))).is

-- two differences that are one whole number are one number modulo p
pub same_difference : (p a b m n : ℕ) → 0 < p → a + n ≡ m + b → Same p (a + (p - 1) * b) (m + (p - 1) * n)
same_difference p a b m n h e =
    same_sym (same_more (a + (p - 1) * b) n)
    then same_eq {y = b * p + (m + (p - 1) * n)} (omega (arith, with_opposite p n h, with_opposite p b h))
    then same_more (m + (p - 1) * n) b

pub remainder_mod : (p : ℕ) (c : ℤ) → remainder p c % p ≡ remainder p c
unfolding remainder
remainder_mod p (pos n) = mod-mod n p
remainder_mod p (negsuc n) = mod-mod (p - suc n % p) p

pub remainder_lt : (p : ℕ) (c : ℤ) → 0 < p → remainder p c < p
remainder_lt p c h = rw (← remainder_mod p c) (mod-lt (remainder p c) h)

-- ---- the centred form by its two cases

pub below_zero : (a q : ℕ) → a < q → pos a -ℤ pos q ≡ negsuc (q - 1 - a)
below_zero a zero h = absurd (omega arith)
below_zero a (suc n) h = rw (lt-ltb a (suc n) h) (ap negsuc (omega arith))

module _ (q x : ℕ) (positive : 0 < q) where
  below : x % q < q
  below = mod-lt x positive

  pub centre_low : x % q ≤ (q - 1) / 2 → centre q x ≡ pos (x % q)
  unfolding centre
  centre_low l = rw (le-leb (x % q) ((q - 1) / 2) l)

  pub centre_high : (q - 1) / 2 < x % q → centre q x ≡ negsuc (q - 1 - x % q)
  unfolding centre
  centre_high l = rw (lt-leb (x % q) ((q - 1) / 2) l) (below_zero (x % q) q below)

  -- it is congruent to x
  pub centre_same : Same q (x + down (centre q x)) (up (centre q x))
  centre_same = go (dec_le (x % q) ((q - 1) / 2))
    where
      go : Dec (x % q ≤ (q - 1) / 2) → Same q (x + down (centre q x)) (up (centre q x))
      go (yes l) = rw (centre_low l) (same_eq (add-zero x) then same_sym same_mod)
      go (no l) =
          rw (centre_high (omega arith))
          (same_add (same_sym same_mod) same_refl then same_eq {y = 1 * q + 0} (omega (arith, below)) then same_more 0 1)

  pub centre_remainder : remainder q (centre q x) ≡ x % q
  centre_remainder =
      remainder_parts q (centre q x) positive
      ∙ (same_add (same_sym centre_same) (same_refl {x = (q - 1) * down (centre q x)})
      then same_eq {y = down (centre q x) * q + x} (omega (arith, with_opposite q (down (centre q x)) positive)) then same_more x (down (centre q x))).is

  -- and at most (q - 1) / 2 in size
  pub centre_size : q % 2 ≡ 1 → nat_abs (centre q x) ≤ (q - 1) / 2
  centre_size odd = go (dec_le (x % q) ((q - 1) / 2))
    where
      go : Dec (x % q ≤ (q - 1) / 2) → nat_abs (centre q x) ≤ (q - 1) / 2
      go (yes l) = rw (centre_low l) l
      go (no l) = rw (centre_high (omega arith)) (omega (arith, below))

pub centre_mod : (q x : ℕ) → centre q (x % q) ≡ centre q x
unfolding centre
centre_mod q x = rw (mod-mod x q)

-- ---- x is m - n modulo q, and m + n is at most K

pub record Near (q K x : ℕ) : Type 0 where
  pub m : ℕ
  pub n : ℕ
  pub is : Same q (x + n) m
  pub small : m + n ≤ K

-- a number is near its centred form
pub near_centre : (q x : ℕ) → 0 < q → Near q (nat_abs (centre q x)) x
near_centre q x h = record { m = up (centre q x); n = down (centre q x); is = centre_same q x h; small = omega (arith, abs_parts (centre q x)) }

-- two differences that are x modulo q
across : {q m m' : ℕ} (x n n' : ℕ) → Same q (x + n) m → Same q (x + n') m' → Same q (m + n') (m' + n)
across {q} x n n' e f = same_add (same_sym e) (same_refl {x = n'}) then same_eq {x = x + n + n'} {y = x + n' + n} (omega arith) then same_add f (same_refl {x = n})

module _ {q K x : ℕ} (odd : q % 2 ≡ 1) (room : K ≤ (q - 1) / 2) where
  -- where it is small, m - n is the centred form
  pub near_parts : (y : Near q K x) → up (centre q x) + y.n ≡ y.m + down (centre q x)
  near_parts y =
      let h : 0 < q = omega arith in
      let s = y.small in
      let c : up (centre q x) + down (centre q x) ≤ (q - 1) / 2 = rw (← abs_parts (centre q x)) (centre_size q x h odd) in
      close (across x (down (centre q x)) y.n (centre_same q x h) y.is) (omega arith) (omega arith)

  pub near_size : Near q K x → nat_abs (centre q x) ≤ K
  near_size y = rw (abs_parts (centre q x)) (go (centre q x) (near_parts y))
    where
      go : (c : ℤ) → up c + y.n ≡ y.m + down c → up c + down c ≤ K
      go (pos a) e = let s = y.small in omega arith
      go (negsuc a) e = let s = y.small in omega arith

  pub near_remainder : (p : ℕ) (y : Near q K x) → 0 < p → remainder p (centre q x) ≡ (y.m + (p - 1) * y.n) % p
  near_remainder p y h = remainder_parts p (centre q x) h ∙ (same_difference p (up (centre q x)) (down (centre q x)) y.m y.n h (near_parts y)).is

-- c is the centred form of x if it is congruent to x and at most (q - 1) / 2 in size
pub centre_unique : (q x : ℕ) (c : ℤ) → q % 2 ≡ 1 → remainder q c ≡ x % q → nat_abs c ≤ (q - 1) / 2 → centre q x ≡ c
centre_unique q x c odd e s = parts_injective (centre q x) c (near_parts odd (omega arith) near)
  where
    h : 0 < q
    h = omega arith

    same : Same q (x + down c) (up c)
    same =
        same_add (same_sym (record { is = sym (remainder_parts q c h) ∙ e })) same_refl
        then same_eq {y = down c * q + up c} (omega (arith, with_opposite q (down c) h)) then same_more (up c) (down c)

    near : Near q ((q - 1) / 2) x
    near = record { m = up c; n = down c; is = same; small = rw (← abs_parts c) s }

-- ---- centred sums do not wrap while the sizes stay within (q - 1) / 2

module _ (q x y : ℕ) (odd : q % 2 ≡ 1) (room : nat_abs (centre q x) + nat_abs (centre q y) ≤ (q - 1) / 2) where
  near_both : Near q (nat_abs (centre q x) + nat_abs (centre q y)) (x + y)
  near_both =
      let h : 0 < q = omega arith in
      let m = down (centre q x) in
      let n = down (centre q y) in
      record {
        m = up (centre q x) + up (centre q y);
        n = m + n;
        is = same_eq {y = x + m + (y + n)} (omega arith) then same_add (centre_same q x h) (centre_same q y h);
        small = omega (arith, abs_parts (centre q x), abs_parts (centre q y));
      }

  pub centre_add : centre q (x + y) ≡ centre q x +ℤ centre q y
  unfolding near_both
  centre_add =
      parts_injective (centre q (x + y)) (centre q x +ℤ centre q y)
      (omega (arith, near_parts {x = x + y} odd room near_both, sum_parts (centre q x) (centre q y)))
