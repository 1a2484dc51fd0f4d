-- The four equations are linear, so that Stern's argument applies to them; and what the polynomials of a list are where the list comes from bytes.
-- Assumes nothing.
use mathlib.Core.Path.{◌≡◌, sym, ap, ap₂, subst, ◌∙◌}
use mathlib.Core.List.{List}
use Prim.Native.Nat.{ℕ, ◌+◌, ◌*◌, ◌%◌, ◌^◌, ◌≤◌, ◌<◌}
use native.Mathlib.Nat.{add-mod, mul_comm, mul_assoc, mul-add}
use native.Mathlib.Omega.{arith}
use lib.ListN.{length, get_or, drop}
use lib.Seq.{ext_get_or, get_or-take, get_or-drop}
use Rattle.codec.specs.Bytes.{Bytes, number, part}
use Rattle.codec.proofs.Lists.{length_list, list_cong, get_d_list}
use Rattle.modular.specs.Modulo.{remainder}
use Rattle.modular.proofs.Congruence.{same_eq, ◌then◌, same_mod}
use Rattle.ring.specs.Poly.{Poly, plus, modulo, Alike}
use Rattle.ring.specs.Slots.{poly, slot}
use Rattle.ring.specs.Ternary.{meaning, ternary}
use Rattle.ring.proofs.Polynomials.{plus_assoc, plus_left_comm, alike_eq, ◌so◌, alike_plus, below_modulo}
use Rattle.ring.proofs.Ranges.{below_complete}
use Rattle.vector.specs.Vector.{vector, ternaries, add}
use Rattle.vector.specs.Internal.{Vector, Linear}
use Rattle.vector.proofs.Vectors.{each_length, append_each, all_below_each, add_vector, add_at, get_d_vector, get_d_ternaries}
use Rattle.vector.proofs.Linear.{join}
use Rattle.commitment.specs.Commitment.{Keys, Three, Alike3, plus3, row, second}
use Rattle.commitment.proofs.Additive.{row_adds, second_adds, row_alike, second_alike}
use Rattle.stern.specs.Internal.{Valid}
use Rattle.stern.specs.Shortness.{polynomial, three_from, list_modulo, equations, right_hand_sides, setting}

-- ---- the numbers of a polynomial

pub numbers_vector : {q : ℕ} (N : ℕ) (f : Poly) → 0 < q → Vector q N (list_modulo q N f)
numbers_vector {q} N f h = rw (length_list N (modulo q f)) at (all_below_each q (list_modulo q N f) (below_complete q N (modulo q f) (below_modulo f h)))

pub numbers_at : (q N : ℕ) (f : Poly) (k : ℕ) → k < N → get_or (list_modulo q N f) k 0 ≡ f k % q
unfolding modulo
numbers_at q N f k l = get_d_list N (modulo q f) k l

-- polynomials have the same numbers exactly if they are alike
pub numbers_alike : {q N : ℕ} {f g : Poly} → Alike q N f g → list_modulo q N f ≡ list_modulo q N g
unfolding modulo
numbers_alike {N} e = list_cong N (λ k l. (e.at k l).is)

pub alike_numbers : {q N : ℕ} (f g : Poly) → list_modulo q N f ≡ list_modulo q N g → Alike q N f g
alike_numbers {q} {N} f g e = record {
  at = λ k l. record { is = sym (numbers_at q N f k l) ∙ ap (λ (x : List ℕ). get_or x k 0) e ∙ numbers_at q N g k l };
}

pub numbers_add : (q N : ℕ) (f g : Poly) → 0 < q → list_modulo q N (plus f g) ≡ add q (list_modulo q N f) (list_modulo q N g)
unfolding plus
numbers_add q N f g h =
    ext_get_or 0 (list_modulo q N (plus f g)) (add q (list_modulo q N f) (list_modulo q N g)) (size ∙ sym (each_length (add_vector v w)))
    (λ k l. entry k (omega (arith, size)))
  where
    v : Vector q N (list_modulo q N f)
    v = numbers_vector N f h

    w : Vector q N (list_modulo q N g)
    w = numbers_vector N g h

    size : length (list_modulo q N (plus f g)) ≡ N
    size = length_list N (modulo q (plus f g))

    entry : (k : ℕ) → k < N → get_or (list_modulo q N (plus f g)) k 0 ≡ get_or (add q (list_modulo q N f) (list_modulo q N g)) k 0
    entry k l =
        numbers_at q N (plus f g) k l ∙ add-mod (f k) (g k) q
        ∙ sym (add_at k v w ∙ ap₂ (λ (a b : ℕ). (a + b) % q) (numbers_at q N f k l) (numbers_at q N g k l))

-- ---- the equations are linear

interchange : (a b c d : Poly) → plus (plus a b) (plus c d) ≡ plus (plus a c) (plus b d)
interchange a b c d = simp (plus_assoc, plus_left_comm)

-- the polynomial of a sum
polynomial_add : {q L : ℕ} (N j : ℕ) {x z : List ℕ} → Vector q L x → Vector q L z → Alike q N (polynomial N (add q x z) j) (plus (polynomial N x j) (polynomial N z j))
unfolding polynomial plus
polynomial_add N j v w = record { at = λ k l. same_eq (add_at (j * N + k) v w) then same_mod }

-- two polynomials of a sum, added
two_add : {q L : ℕ} (N i j : ℕ) {x z : List ℕ} → Vector q L x → Vector q L z
    → Alike q N (plus (polynomial N (add q x z) i) (polynomial N (add q x z) j)) (plus (plus (polynomial N x i) (polynomial N x j)) (plus (polynomial N z i) (polynomial N z j)))
two_add N i j {x} {z} v w =
    alike_plus (polynomial_add N i v w) (polynomial_add N j v w)
    so alike_eq (interchange (polynomial N x i) (polynomial N z i) (polynomial N x j) (polynomial N z j))

four : (N : ℕ) → N + (N + (N + N)) ≡ 4 * N
four N = omega arith

module _ (q N : ℕ) (k : Keys) where
  -- the three r from i on and those from j on, added
  hiding : List ℕ → ℕ → ℕ → Three
  hiding x i j = plus3 (three_from N x i) (three_from N x j)

  hiding_add : {L : ℕ} (i j : ℕ) {x z : List ℕ} → Vector q L x → Vector q L z → Alike3 q N (hiding (add q x z) i j) (plus3 (hiding x i j) (hiding z i j))
  unfolding hiding
  hiding_add i j v w = record { r1 = two_add N i j v w; r2 = two_add N (i + 1) (j + 1) v w; r3 = two_add N (i + 2) (j + 2) v w }

  module _ (h : 0 < q) where
    -- what is additive has additive numbers
    linear_numbers : {L : ℕ} (F : List ℕ → Poly) → ((x z : List ℕ) → Vector q L x → Vector q L z → Alike q N (F (add q x z)) (plus (F x) (F z))) → Linear q L N (λ x. list_modulo q N (F x))
    linear_numbers F additive = record {
      vector = λ {x} v. numbers_vector N (F x) h;
      sum = λ {x} {z} v w. numbers_alike (additive x z v w) ∙ numbers_add q N (F x) (F z) h;
    }

    row_linear : {L : ℕ} (i j : ℕ) → Linear q L N (λ x. list_modulo q N (row q N k (hiding x i j)))
    row_linear i j = linear_numbers (λ x. row q N k (hiding x i j)) (λ x z v w. row_alike q N k (hiding_add i j v w) so alike_eq (row_adds q N k (hiding x i j) (hiding z i j)))

    second_linear : {L : ℕ} (i j l : ℕ) → Linear q L N (λ x. list_modulo q N (second q N k (hiding x i j) (polynomial N x l)))
    second_linear i j l =
        linear_numbers (λ x. second q N k (hiding x i j) (polynomial N x l))
        (λ x z v w. second_alike q N k (hiding_add i j v w) (polynomial_add N l v w) so alike_eq (second_adds q N k (hiding x i j) (hiding z i j) (polynomial N x l) (polynomial N z l)))

    pub equations_linear : Linear q (14 * N) (4 * N) (equations q N k)
    unfolding equations hiding
    equations_linear = subst (λ (m : ℕ). Linear q (14 * N) m (equations q N k)) (four N) (join (row_linear 2 5) (join (second_linear 2 5 0) (join (row_linear 8 11) (second_linear 8 11 1))))

pub sides_vector : (q N : ℕ) (c : Bytes) → 0 < q → Vector q (4 * N) (right_hand_sides q N c)
unfolding right_hand_sides
sides_vector q N c h =
    subst (λ (m : ℕ). Vector q m (right_hand_sides q N c)) (four N)
    (append_each (numbers_vector N _ h) (append_each (numbers_vector N _ h) (append_each (numbers_vector N _ h) (numbers_vector N _ h))))

-- the setting is one to which Stern's theorems apply
pub setting_valid : (q N : ℕ) (k : Keys) (c : Bytes) → 2 < q → q ≤ 2 ^ 64 → Valid (setting q N k c)
setting_valid q N k c three fits = record { three = three; fits = fits; right = sides_vector q N c (omega arith); linear = equations_linear q N k (omega arith) }

-- ---- the polynomials of a list that comes from bytes

-- the numbers of bytes: polynomial j is what stands 8 N j bytes on
pub polynomial_vector : (N : ℕ) (x : Bytes) (j k : ℕ) → k < N → 8 * N * j + 8 * N ≤ length x → polynomial N (vector x) j k ≡ slot x (8 * N * j) k
unfolding polynomial poly slot
polynomial_vector N x j k l fits =
    let e : 8 * (j * N + k) ≡ 8 * N * j + 8 * k = simp (mul-add, mul_assoc, mul_comm j N) in
    get_d_vector x (j * N + k) (omega arith) ∙ ap (λ (i : ℕ). number (part x i 8)) e

-- the numbers of ternary bytes: polynomial j is that of the N bytes from j N on
pub polynomial_ternaries : (q N : ℕ) (x : Bytes) (j k : ℕ) → k < N → j * N + N ≤ length x → polynomial N (ternaries q x) j k ≡ ternary q (part x (j * N) N) k
unfolding polynomial ternary
polynomial_ternaries q N x j k l fits =
    get_d_ternaries q x (j * N + k) (omega arith)
    ∙ ap (λ (b : ℕ). remainder q (meaning b)) (sym (get_or-take N (drop (j * N) x) k 0 l ∙ get_or-drop (j * N) x k 0))
