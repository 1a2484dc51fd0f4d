-- The product modulo X^N + 1, with q - 1 for -1 and no remainder taken, is that of the semiring of polynomials over the natural numbers in which X^N
-- is q - 1. So its laws are exact: it is additive in each argument, commutative and associative, and 1 is its unit. Assumes nothing.
use mathlib.Core.Path.{◌≡◌, refl, sym, ap, ap₂, ◌∙◌}
use mathlib.Core.Logic.{◌⊎◌, inl, inr, ◌≢◌}
use mathlib.Core.Bool.{Bool, true, false, cond}
use Prim.Native.Nat.{ℕ, ◌+◌, ◌-◌, ◌*◌, ◌≤◌, ◌<◌}
use native.Mathlib.Nat.{add_comm, mul_left_comm, mul_assoc, mul-add, mul-zero, mul-one}
use native.Mathlib.Omega.{arith}
use borrow.Author.Tests.{le-leb, lt-leb, eq-eqb, ne_eqb}
use lib.Dec.{leb}
use Rattle.modular.specs.Modulo.{Same}
use Rattle.modular.proofs.Congruence.{same_refl, same_mul}
use Rattle.ring.specs.Poly.{Poly, sum, turn, coefficient}
use Rattle.ring.specs.Internal.{one_poly}
use Rattle.codec.proofs.Laws.{le_or}
use Rattle.ring.proofs.Sums.{sum_cong, sum_same, sum_add, sum_scale, sum_swap, sum_only}

-- ---- the turn

pub turn_low : (q N : ℕ) (b : Poly) (k i : ℕ) → i ≤ k → turn q N b k i ≡ b (k - i)
unfolding turn
turn_low q N b k i h = rw (le-leb i k h)

pub turn_high : (q N : ℕ) (b : Poly) (k i : ℕ) → k < i → turn q N b k i ≡ (q - 1) * b (N + k - i)
unfolding turn
turn_high q N b k i h = rw (lt-leb i k h)

pub turn_sum : (q N n : ℕ) (g : ℕ → ℕ → ℕ) (k i : ℕ) → turn q N (λ m. sum n (λ j. g j m)) k i ≡ sum n (λ j. turn q N (g j) k i)
unfolding turn
turn_sum q N n g k i = go (leb i k)
  where
    go : (t : Bool) → cond t (sum n (λ j. g j (k - i))) ((q - 1) * sum n (λ j. g j (N + k - i))) ≡ sum n (λ j. cond t (g j (k - i)) ((q - 1) * g j (N + k - i)))
    go true = refl
    go false = sym (sum_scale n (q - 1) (λ j. g j (N + k - i)))

turn_scale : (q N c : ℕ) (b : Poly) (k i : ℕ) → turn q N (λ m. c * b m) k i ≡ c * turn q N b k i
unfolding turn
turn_scale q N c b k i = go (leb i k)
  where
    go : (t : Bool) → cond t (c * b (k - i)) ((q - 1) * (c * b (N + k - i))) ≡ c * cond t (b (k - i)) ((q - 1) * b (N + k - i))
    go true = refl
    go false = mul_left_comm _ _ _

-- X^i * (X^j * c), by how far i + j goes
module _ (q N : ℕ) (c : Poly) (k i j : ℕ) where
  pub twice : ℕ
  twice = turn q N (λ m. turn q N c m j) k i

  twice_none : i + j ≤ k → twice ≡ c (k - (i + j))
  unfolding twice
  twice_none h = turn_low q N _ k i (omega arith) ∙ turn_low q N c (k - i) j (omega arith) ∙ ap c (omega arith)

  twice_one : i < N → j < N → k < i + j → i + j ≤ N + k → twice ≡ (q - 1) * c (N + k - (i + j))
  unfolding twice
  twice_one hi hj h l = go (le_or i k)
    where
      go : (i ≤ k) ⊎ (k < i) → turn q N (λ m. turn q N c m j) k i ≡ (q - 1) * c (N + k - (i + j))
      go (inl e) = turn_low q N _ k i e ∙ turn_high q N c (k - i) j (omega arith) ∙ ap (λ (x : ℕ). (q - 1) * c x) (omega arith)
      go (inr e) = turn_high q N _ k i e ∙ ap (λ (x : ℕ). (q - 1) * x) (turn_low q N c (N + k - i) j (omega arith) ∙ ap c (omega arith))

  twice_two : i < N → j < N → N + k < i + j → twice ≡ (q - 1) * ((q - 1) * c (N + N + k - (i + j)))
  unfolding twice
  twice_two hi hj h =
      turn_high q N _ k i (omega arith) ∙ ap (λ (x : ℕ). (q - 1) * x) (turn_high q N c (N + k - i) j (omega arith) ∙ ap (λ (x : ℕ). (q - 1) * c x) (omega arith))

turn_turn : (q N : ℕ) (c : Poly) (k i j : ℕ) → i < N → j < N → twice q N c k i j ≡ twice q N c k j i
turn_turn q N c k i j hi hj = go (le_or (i + j) k) (le_or (i + j) (N + k))
  where
    s : i + j ≡ j + i
    s = add_comm i j

    go : (i + j ≤ k) ⊎ (k < i + j) → (i + j ≤ N + k) ⊎ (N + k < i + j) → twice q N c k i j ≡ twice q N c k j i
    go (inl h) (inl l) = twice_none q N c k i j h ∙ ap (λ (x : ℕ). c (k - x)) s ∙ sym (twice_none q N c k j i (omega arith))
    go (inl h) (inr l) = absurd (omega arith)
    go (inr h) (inl l) = twice_one q N c k i j hi hj h l ∙ ap (λ (x : ℕ). (q - 1) * c (N + k - x)) s ∙ sym (twice_one q N c k j i hj hi (omega arith) (omega arith))
    go (inr h) (inr l) = twice_two q N c k i j hi hj l ∙ ap (λ (x : ℕ). (q - 1) * ((q - 1) * c (N + N + k - x))) s ∙ sym (twice_two q N c k j i hj hi (omega arith))

-- ---- the product

-- it goes by the N coefficients
pub coefficient_cong : (q N : ℕ) {a a' b b' : Poly} → ((i : ℕ) → i < N → a i ≡ a' i) → ((i : ℕ) → i < N → b i ≡ b' i) → (k : ℕ) → k < N → coefficient q N a b k ≡ coefficient q N a' b' k
unfolding coefficient
coefficient_cong q N {a} {a'} {b} {b'} ha hb k hk = sum_cong N (λ i l. ap₂ (λ (x y : ℕ). x * y) (ha i l) (go i l (le_or i k)))
  where
    go : (i : ℕ) → i < N → (i ≤ k) ⊎ (k < i) → turn q N b k i ≡ turn q N b' k i
    go i l (inl h) = turn_low q N b k i h ∙ hb (k - i) (omega arith) ∙ sym (turn_low q N b' k i h)
    go i l (inr h) = turn_high q N b k i h ∙ ap (λ (x : ℕ). (q - 1) * x) (hb (N + k - i) (omega arith)) ∙ sym (turn_high q N b' k i h)

double : (q N : ℕ) (a b c : Poly) (k : ℕ) → coefficient q N a (coefficient q N b c) k ≡ sum N (λ i. sum N (λ j. a i * (b j * twice q N c k i j)))
unfolding coefficient twice
double q N a b c k =
    sum_cong N (λ i l.
    ap (λ (x : ℕ). a i * x) (turn_sum q N N (λ j m. b j * turn q N c m j) k i ∙ sum_cong N (λ j r. turn_scale q N (b j) (λ m. turn q N c m j) k i))
    ∙ sym (sum_scale N (a i) (λ j. b j * turn q N (λ m. turn q N c m j) k i)))

-- a * (b * c) = b * (a * c)
pub coefficient_left_comm : (q N : ℕ) (a b c : Poly) (k : ℕ) → coefficient q N a (coefficient q N b c) k ≡ coefficient q N b (coefficient q N a c) k
coefficient_left_comm q N a b c k =
    double q N a b c k ∙ sum_swap N N (λ i j. a i * (b j * twice q N c k i j))
    ∙ sum_cong N (λ j r. sum_cong N (λ i l. mul_left_comm _ _ _ ∙ ap (λ (x : ℕ). b j * (a i * x)) (turn_turn q N c k i j l r)))
    ∙ sym (double q N b a c k)

one_at : (i : ℕ) → i ≡ 0 → one_poly i ≡ 1
unfolding one_poly
one_at i e = rw (eq-eqb i 0 e)

one_off : (i : ℕ) → i ≢ 0 → one_poly i ≡ 0
unfolding one_poly
one_off i e = rw (ne_eqb i 0 e)

pub coefficient_one : (q N : ℕ) (a : Poly) (k : ℕ) → k < N → coefficient q N a one_poly k ≡ a k
unfolding coefficient
coefficient_one q N a k h =
    sum_only N (λ i. a i * turn q N one_poly k i) k h (λ i l d. ap (λ (x : ℕ). a i * x) (off i l d (le_or i k)) ∙ mul-zero (a i))
    ∙ ap (λ (x : ℕ). a k * x) (turn_low q N one_poly k k (omega arith) ∙ one_at (k - k) (omega arith)) ∙ omega (arith, mul-one (a k))
  where
    off : (i : ℕ) → i < N → i ≢ k → (i ≤ k) ⊎ (k < i) → turn q N one_poly k i ≡ 0
    off i l d (inl e) = turn_low q N one_poly k i e ∙ one_off (k - i) (λ z. d (omega arith))
    off i l d (inr e) = turn_high q N one_poly k i e ∙ ap (λ (x : ℕ). (q - 1) * x) (one_off (N + k - i) (λ z. omega arith)) ∙ mul-zero (q - 1)

-- a * b = b * a
pub coefficient_comm : (q N : ℕ) (a b : Poly) (k : ℕ) → k < N → coefficient q N a b k ≡ coefficient q N b a k
coefficient_comm q N a b k h =
    coefficient_cong q N (λ i l. refl) (λ i l. sym (coefficient_one q N b i l)) k h ∙ coefficient_left_comm q N a b one_poly k
    ∙ coefficient_cong q N (λ i l. refl) (λ i l. coefficient_one q N a i l) k h

-- ---- additive in each argument

turn_add : (q N : ℕ) (b c : Poly) (k i : ℕ) → turn q N (λ j. b j + c j) k i ≡ turn q N b k i + turn q N c k i
unfolding turn
turn_add q N b c k i = go (leb i k)
  where
    go : (t : Bool) → cond t (b (k - i) + c (k - i)) ((q - 1) * (b (N + k - i) + c (N + k - i))) ≡ cond t (b (k - i)) ((q - 1) * b (N + k - i)) + cond t (c (k - i)) ((q - 1) * c (N + k - i))
    go true = refl
    go false = mul-add _ _ _

pub coefficient_add_right : (q N : ℕ) (a b c : Poly) (k : ℕ) → coefficient q N a (λ i. b i + c i) k ≡ coefficient q N a b k + coefficient q N a c k
unfolding coefficient
coefficient_add_right q N a b c k =
    sum_cong N (λ i l. ap (λ (x : ℕ). a i * x) (turn_add q N b c k i) ∙ mul-add _ _ _)
    ∙ sum_add N (λ i. a i * turn q N b k i) (λ i. a i * turn q N c k i)

pub coefficient_scale : (q N p : ℕ) (a b : Poly) (k : ℕ) → coefficient q N (λ i. p * a i) b k ≡ p * coefficient q N a b k
unfolding coefficient
coefficient_scale q N p a b k = sum_cong N (λ i l. mul_assoc _ _ _) ∙ sum_scale N p (λ i. a i * turn q N b k i)

-- ---- the product goes by what the N coefficients are modulo q

pub turn_same : (q N : ℕ) {b c : Poly} → ((i : ℕ) → i < N → Same q (b i) (c i)) → (k i : ℕ) → k < N → i < N → Same q (turn q N b k i) (turn q N c k i)
turn_same q N {b} {c} h k i hk hi = go (le_or i k)
  where
    go : (i ≤ k) ⊎ (k < i) → Same q (turn q N b k i) (turn q N c k i)
    go (inl e) = rw (turn_low q N b k i e, turn_low q N c k i e) (h (k - i) (omega arith))
    go (inr e) = rw (turn_high q N b k i e, turn_high q N c k i e) (same_mul same_refl (h (N + k - i) (omega arith)))

pub coefficient_same : (q N : ℕ) {a a' b b' : Poly} → ((i : ℕ) → i < N → Same q (a i) (a' i)) → ((i : ℕ) → i < N → Same q (b i) (b' i))
    → (k : ℕ) → k < N → Same q (coefficient q N a b k) (coefficient q N a' b' k)
unfolding coefficient
coefficient_same q N ha hb k hk = sum_same q N (λ i l. same_mul (ha i l) (turn_same q N hb k i hk l))
