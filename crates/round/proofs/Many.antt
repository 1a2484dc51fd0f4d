-- What holds for each of n: laws of `joined`, and of orders of tests. Assumes nothing.
use mathlib.Core.Path.{◌≡◌, sym, ap, ◌∙◌}
use mathlib.Core.Logic.{◌⊎◌, inl, inr}
use mathlib.Core.Bool.{Bool, true, false, cond}
use mathlib.Core.List.{List, [], ◌∷◌, ◌++◌}
use Prim.Native.Nat.{ℕ, zero, suc, ◌+◌, ◌*◌, ◌≤◌, ◌<◌}
use native.Mathlib.Nat.{mul-zero, mul-suc, mul-le-mul}
use native.Mathlib.Numerals.{add-one}
use native.Mathlib.Decide.{dec_lt}
use native.Mathlib.Omega.{arith}
use lib.ListN.{length, take, drop, length-append, length-drop}
use lib.Seq.{take_all, drop_at, take-append-le, drop-append-le}
use Rattle.codec.specs.Bytes.{Bytes, part}
use Rattle.codec.specs.Reply.{Test, first, None, Reply, Taken, Refused}
use Rattle.codec.proofs.Replies.{not_taken, taken_exactly, first_append}
use Rattle.round.specs.Layout.{joined}

-- below n + 1: below n, or n
pub last : (n j : ℕ) → j < suc n → (j < n) ⊎ (j ≡ n)
last n j h = go (dec_lt j n)
  where
    go : Dec (j < n) → (j < n) ⊎ (j ≡ n)
    go (yes l) = inl l
    go (no l) = inr (omega arith)

-- what holds of 0 and 1 holds of each side, and what holds of 1, 2 and 3 of each challenge
pub for_sides : (A : ℕ → Type 0) → A 0 → A 1 → (i : ℕ) → i < 2 → A i
for_sides A a b zero l = a
for_sides A a b (suc zero) l = b
for_sides A a b (suc (suc i)) l = absurd (omega arith)

pub for_challenges : (A : ℕ → Type 0) → A 1 → A 2 → A 3 → (c : ℕ) → 1 ≤ c → c ≤ 3 → A c
for_challenges A a b d zero low high = absurd (omega arith)
for_challenges A a b d (suc zero) low high = a
for_challenges A a b d (suc (suc zero)) low high = b
for_challenges A a b d (suc (suc (suc zero))) low high = d
for_challenges A a b d (suc (suc (suc (suc c)))) low high = absurd (omega arith)

-- ---- tests of each

pub none_append : (rs ts : List Test) → None rs → None ts → None (rs ++ ts)
none_append [] ts ha hb = hb
none_append (t ∷ rs) ts ha hb = (ha.0, none_append rs ts ha.1 hb)

pub append_none : (rs ts : List Test) → None (rs ++ ts) → None rs × None ts
append_none [] ts h = (tt, h)
append_none (t ∷ rs) ts h = let r = append_none rs ts h.1 in ((h.0, r.0), r.1)

pub each_none : (n : ℕ) (f : ℕ → List Test) → ((j : ℕ) → j < n → None (f j)) → None (joined n f)
unfolding joined
each_none zero f h = tt
each_none (suc n) f h = none_append (joined n f) (f n) (each_none n f (λ j l. h j (omega arith))) (h n (omega arith))

pub none_each : (n : ℕ) (f : ℕ → List Test) → None (joined n f) → (j : ℕ) → j < n → None (f j)
unfolding joined
none_each zero f h j l = absurd (omega arith)
none_each (suc n) f h j l = go (λ m. none_each n f r.0 j m) (last n j l)
  where
    r : None (joined n f) × None (f n)
    r = append_none (joined n f) (f n) h

    go : (j < n → None (f j)) → (j < n) ⊎ (j ≡ n) → None (f j)
    go before (inl m) = before m
    go before (inr i) = rw i r.1

-- ---- bytes of each, side by side

-- n bytes each: number i of r ends within them
pub stretch : (n i r : ℕ) → i < r → n * i + n ≤ n * r
stretch n i r h = omega (arith, mul-suc n i, mul-le-mul {n₁ = n} {m₁ = suc i} {n₂ = n} {m₂ = r} (omega arith) h)

-- m bytes each
module _ (m : ℕ) (f : ℕ → Bytes) where
  pub length_joined : (n : ℕ) → ((j : ℕ) → j < n → length (f j) ≡ m) → length (joined n f) ≡ m * n
  unfolding joined
  length_joined zero h = sym (mul-zero m)
  length_joined (suc n) h = length-append (joined n f) (f n) ∙ omega (arith, length_joined n (λ j l. h j (omega arith)), h n (omega arith), mul-suc m n)

  pub joined_at : (n : ℕ) → ((j : ℕ) → j < n → length (f j) ≡ m) → (j : ℕ) → j < n → part (joined n f) (m * j) m ≡ f j
  unfolding joined
  joined_at zero h j l = absurd (omega arith)
  joined_at (suc n) h j l = go (λ k. joined_at n (λ i z. h i (omega arith)) j k) (last n j l)
    where
      long : length (joined n f) ≡ m * n
      long = length_joined n (λ i k. h i (omega arith))

      go : (j < n → part (joined n f) (m * j) m ≡ f j) → (j < n) ⊎ (j ≡ n) → part (joined n f ++ f n) (m * j) m ≡ f j
      go before (inl k) =
          let up = stretch m j n k in
          rw (drop-append-le (m * j) (joined n f) (f n) (omega (arith, long))) (take-append-le m (drop (m * j) (joined n f)) (f n) (simp length-drop (omega (arith, long))))
          ∙ before k
      go before (inr i) =
          let e : length (joined n f) ≡ m * j = long ∙ ap (λ (x : ℕ). m * x) (sym i) in
          ap (take m) (drop_at (joined n f) (f n) (m * j) e) ∙ take_all m (f n) (omega (arith, h n (omega arith))) ∙ ap f (sym i)

-- a test that refuses, where none before it does
pub first_refused : (rs ts : List Test) (number place : ℕ) → first rs ≡ Refused number place → first (rs ++ ts) ≡ Refused number place
unfolding first
first_refused [] ts number place e = not_taken number place (sym e)
first_refused (t ∷ rs) ts number place e = go t.holds (λ f. first_refused rs ts number place f) e
  where
    go : (b : Bool) → (first rs ≡ Refused number place → first (rs ++ ts) ≡ Refused number place) → cond b (Refused t.number t.place) (first rs) ≡ Refused number place
        → cond b (Refused t.number t.place) (first (rs ++ ts)) ≡ Refused number place
    go true later f = f
    go false later f = later f

-- one order after another, by the reply z of the first: a refusal decides, and else the second does
module _ (rs ts : List Test) {z : Reply} (e : z ≡ first rs) where
  pub refused_there : (number place : ℕ) → z ≡ Refused number place → Refused number place ≡ first (rs ++ ts)
  refused_there number place t = sym (first_refused rs ts number place (sym e ∙ t))

  pub stopped : (number place : ℕ) → z ≡ Refused number place → z ≡ first (rs ++ ts)
  stopped number place t = t ∙ refused_there number place t

  pub continued : {y : Reply} → z ≡ Taken → y ≡ first ts → y ≡ first (rs ++ ts)
  continued t f = f ∙ sym (first_append rs ts ((taken_exactly rs).0 (sym e ∙ t)))

pub each_refused : (n : ℕ) (f : ℕ → List Test) (j number place : ℕ) → j < n → None (joined j f) → first (f j) ≡ Refused number place → first (joined n f) ≡ Refused number place
unfolding joined
each_refused zero f j number place h none e = absurd (omega arith)
each_refused (suc n) f j number place h none e = go (λ l. each_refused n f j number place l none e) (last n j h)
  where
    go : (j < n → first (joined n f) ≡ Refused number place) → (j < n) ⊎ (j ≡ n) → first (joined n f ++ f n) ≡ Refused number place
    go before (inl l) = first_refused (joined n f) (f n) number place (before l)
    go before (inr i) = first_append (joined n f) (f n) (rw (sym i) none) ∙ ap (λ (k : ℕ). first (f k)) (sym i) ∙ e

-- one more that refuses nothing
pub each_more : (f : ℕ → List Test) (j : ℕ) → None (joined j f) → first (f j) ≡ Taken → None (joined (j + 1) f)
unfolding joined
each_more f j none e = rw (add-one j) (none_append (joined j f) (f j) none ((taken_exactly (f j)).0 e))

pub each_taken : (n : ℕ) (f : ℕ → List Test) → None (joined n f) → first (joined n f) ≡ Taken
each_taken n f none = (taken_exactly (joined n f)).1 none
