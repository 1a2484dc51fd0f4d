-- The unknowns number by number, and the vector and the key as they are written: numbers side by side. Assumes nothing.
use mathlib.Core.Path.{◌≡◌, refl, sym, ap, ap₂, ◌∙◌}
use mathlib.Core.Bool.{Bool, cond}
use mathlib.Core.List.{List, [], ◌∷◌, ◌++◌, append-nil, append_assoc}
use Prim.Native.Nat.{ℕ, zero, suc, ◌+◌, ◌-◌, ◌*◌, ◌%◌, ◌<◌}
use native.Mathlib.Nat.{mod-eq_of_lt, mod-lt, zero-add, add-zero, add-suc, add-mul}
use native.Mathlib.Omega.{arith}
use lib.Dec.{eqb}
use lib.ListN.{length, take, drop, get_or, length-append, length-replicate}
use lib.Seq.{get_or-take, get_or-drop}
use Rattle.codec.specs.Bytes.{Bytes, part, put, words, zeros, same}
use Rattle.codec.proofs.Laws.{put_whole, written_behind}
use Rattle.codec.proofs.Numbers.{words_append}
use Rattle.codec.specs.Lists.{list}
use Rattle.codec.proofs.Lists.{length_list, list_cong, get_d_list}
use Rattle.modular.specs.Modulo.{remainder}
use Rattle.modular.proofs.Congruence.{same_refl, same_sym, same_mod, same_add, same_mul, same_negative}
use Rattle.ring.specs.Poly.{Poly, plus, minus, scale, modulo}
use Rattle.ring.specs.Slots.{encode}
use Rattle.ring.specs.Ternary.{meaning, ternary}
use Rattle.ring.proofs.Bridge.{encode_cong}
use Rattle.vector.specs.Vector.{vector, subtract}
use Rattle.vector.proofs.Vectors.{length_vector}
use Rattle.vector.proofs.Gathers.{component_lt}
use Rattle.stern.specs.Shortness.{polynomial}
use Rattle.round.specs.Extractor.{three_bytes, is_zero, ternary_bytes}
use Rattle.round_collision.specs.Internal.{MaskedVectors}
use Rattle.round_search.specs.Internal.{unknowns_of, less_unknowns, from, excess}

-- ---- one number of the unknowns

subtract_within : (q : ℕ) (x y : List ℕ) (i : ℕ) → i < length x → i < length y → get_or (subtract q x y) i 0 ≡ (get_or x i 0 + (q - get_or y i 0)) % q
unfolding subtract
subtract_within q [] y i h l = absurd (omega arith)
subtract_within q (a ∷ x) [] i h l = absurd (omega arith)
subtract_within q (a ∷ x) (b ∷ y) zero h l = refl
subtract_within q (a ∷ x) (b ∷ y) (suc i) h l = subtract_within q x y i (omega arith) (omega arith)

module _ (q N : ℕ) (u r : Bytes) (given : MaskedVectors q N u r) (i : ℕ) (h : i < 14 * N) where
  sized_u : length u ≡ 336 * N
  sized_u = given.sized_u

  sized_r : length r ≡ 336 * N
  sized_r = given.sized_r

  pub lt_u : get_or (vector u) i 0 < q
  lt_u = component_lt u q i given.below_u (omega (arith, sized_u))

  pub lt_r : get_or (vector r) i 0 < q
  lt_r = component_lt r q i given.below_r (omega (arith, sized_r))

  pub unknown_at : (x y v : ℕ) → x ≡ get_or (vector u) i 0 → y ≡ get_or (vector r) i 0 → v ≡ (x + (q - 1) * y) % q → (v ≡ get_or (unknowns_of q N u r) i 0) × (v < q)
  unknown_at x y v ex ey ev = (
    ev ∙ ap₂ (λ (a b : ℕ). (a + (q - 1) * b) % q) ex ey
        ∙ (same_add (same_refl {x = get_or (vector u) i 0}) (same_sym (same_negative (get_or (vector r) i 0) (omega (arith, lt_r)) (omega (arith, lt_r))))).is
        ∙ sym (get_or-take (14 * N) (subtract q (vector u) (vector r)) i 0 h ∙ subtract_within q (vector u) (vector r) i (omega (arith, length_vector u, sized_u)) (omega (arith, length_vector r, sized_r))),
    rw ev (mod-lt (x + (q - 1) * y) (omega (arith, lt_r))),
  )

-- ---- one number of the vector

pub excess_at : (q N : ℕ) (r0 r1 : Bytes) (z : List ℕ) (first i : ℕ) (x y s a b t v : ℕ) → x ≡ remainder q (meaning (get_or r0 i 0)) → y ≡ remainder q (meaning (get_or r1 i 0)) → s ≡ (x + y) % q
    → a ≡ get_or z (first + i) 0 → b ≡ get_or z (first + 3 * N + i) 0 → t ≡ (a + b) % q → v ≡ (s + (q - 1) * t) % q → v ≡ excess q N r0 r1 z first i % q
unfolding excess from plus scale ternary
excess_at q N r0 r1 z first i x y s a b t v ex ey es ea eb et ev =
    ev ∙ ap₂ (λ (c d : ℕ). (c + (q - 1) * d) % q) (es ∙ ap₂ (λ (c d : ℕ). (c + d) % q) ex ey) (et ∙ ap₂ (λ (c d : ℕ). (c + d) % q) ea eb)
    ∙ (same_add same_mod (same_mul (same_refl {x = q - 1}) same_mod)).is

-- ---- numbers side by side

list_append : (a b : ℕ) (f : Poly) → list (a + b) f ≡ list a f ++ list b (λ k. f (a + k))
unfolding list
list_append a zero f = rw add-zero (sym (append-nil (list a f)))
list_append a (suc b) f =
    rw (add-suc a b) (ap (λ (l : List ℕ). l ++ (f (a + b) ∷ [])) (list_append a b f) ∙ append_assoc (list a f) (list b (λ k. f (a + k))) (f (a + b) ∷ []))

encode_append : (a b : ℕ) (f : Poly) → encode (a + b) f ≡ encode a f ++ encode b (λ k. f (a + k))
unfolding encode
encode_append a b f = ap words (list_append a b f) ∙ words_append (list a f) (list b (λ k. f (a + k)))

-- ---- the vector: three polynomials of N numbers

module _ (q N : ℕ) (r0 r1 : Bytes) (z : List ℕ) where
  ternary_part : (r : Bytes) (at k : ℕ) → k < N → ternary q r (at + k) ≡ ternary q (part r at N) k
  unfolding ternary
  ternary_part r at k l = ap (λ (b : ℕ). remainder q (meaning b)) (sym (get_or-take N (drop at r) k 0 l ∙ get_or-drop at r k 0))

  -- the polynomial from number `at` on
  excess_part : (first at i j : ℕ) → first + at ≡ i * N → first + 3 * N + at ≡ j * N → (k : ℕ) → k < N
      → modulo q (excess q N r0 r1 z first) (at + k) ≡ modulo q (minus q (plus (ternary q (part r0 at N)) (ternary q (part r1 at N))) (plus (polynomial N z i) (polynomial N z j))) k
  unfolding modulo excess from plus scale polynomial
  excess_part first at i j ei ej k l =
      let e : first + (at + k) ≡ i * N + k = omega arith in
      let f : first + 3 * N + (at + k) ≡ j * N + k = omega arith in
      ap₂ (λ (c d : ℕ). (c + (q - 1) * d) % q) (ap₂ ◌+◌ (ternary_part r0 at k l) (ternary_part r1 at k l)) (ap₂ (λ (c d : ℕ). get_or z c 0 + get_or z d 0) e f)

  pub excess_bytes : (j first : ℕ) → first ≡ j * N → encode (3 * N) (modulo q (excess q N r0 r1 z first)) ≡ three_bytes q N (less_unknowns q N r0 r1 z j)
  excess_bytes j first e =
      let f = modulo q (excess q N r0 r1 z first) in
      let three : 3 * N ≡ N + (N + N) = omega arith in
      ap (λ (m : ℕ). encode m f) three ∙ encode_append N (N + N) f
      ∙ ap₂ ◌++◌ (encode_cong N (λ k l. ap f (sym (zero-add k)) ∙ excess_part first 0 j (j + 3) (omega arith) (omega (arith, add-mul j 3 N)) k l))
      (encode_append N N (λ k. f (N + k))
      ∙ ap₂ ◌++◌ (encode_cong N (λ k l. excess_part first N (j + 1) (j + 3 + 1) (omega (arith, add-mul j 1 N)) (omega (arith, add-mul j 3 N, add-mul (j + 3) 1 N)) k l))
      (encode_cong N (λ k l. (let i : N + (N + k) ≡ 2 * N + k = omega arith in ap f i) ∙ excess_part first (2 * N) (j + 2) (j + 3 + 2) (omega (arith, add-mul j 2 N)) (omega (arith, add-mul j 3 N, add-mul (j + 3) 2 N)) k l)))

-- the same of the r of two openings, lent with a length that is a difference of places
pub lent_excess : (q N : ℕ) (o0 o1 : Bytes) (z : List ℕ) (at m first : ℕ) → m ≡ 3 * N → {d : Bytes}
    → d ≡ encode (3 * N) (modulo q (excess q N (take m (drop at o0)) (take m (drop at o1)) z first)) → d ≡ encode (3 * N) (modulo q (excess q N (part o0 at (3 * N)) (part o1 at (3 * N)) z first))
lent_excess q N o0 o1 z at m first em e = e ∙ ap (λ (k : ℕ). encode (3 * N) (modulo q (excess q N (take k (drop at o0)) (take k (drop at o1)) z first))) em

-- and whether it is zero
pub told_excess : (q N : ℕ) (o0 o1 : Bytes) (z : List ℕ) (at j first : ℕ) → first ≡ j * N → (r : Bool) (d : Bytes) → r ≡ same d (zeros (24 * N))
    → d ≡ encode (3 * N) (modulo q (excess q N (part o0 at (3 * N)) (part o1 at (3 * N)) z first))
    → (r ≡ is_zero q N (less_unknowns q N (part o0 at (3 * N)) (part o1 at (3 * N)) z j)) × (d ≡ three_bytes q N (less_unknowns q N (part o0 at (3 * N)) (part o1 at (3 * N)) z j))
told_excess q N o0 o1 z at j first ef r d y e =
    let w = e ∙ excess_bytes q N (part o0 at (3 * N)) (part o1 at (3 * N)) z j first ef in
    (y ∙ ap (λ (s : Bytes). same s (zeros (24 * N))) w, w)

-- ---- the key: two polynomials as ternary bytes, and zeros

pub secret_at : (q m : ℕ) (z : List ℕ) (i v b : ℕ) → i < m → v ≡ get_or z i 0 → v < q → b ≡ cond (eqb v 1) 1 (cond (eqb v 0) 0 2) → b ≡ get_or (ternary_bytes q m (from z 0)) i 0
unfolding from
secret_at q m z i v b h e l d =
    let same : v ≡ get_or z (0 + i) 0 % q = sym (mod-eq_of_lt l) ∙ ap (λ (x : ℕ). x % q) (e ∙ ap (λ (k : ℕ). get_or z k 0) (sym (zero-add i))) in
    d ∙ ap (λ (x : ℕ). cond (eqb x 1) 1 (cond (eqb x 0) 0 2)) same ∙ sym (get_d_list m (λ k. cond (eqb (from z 0 k % q) 1) 1 (cond (eqb (from z 0 k % q) 0) 0 2)) i h)

secrets_append : (q N : ℕ) (z : List ℕ) → ternary_bytes q (2 * N) (from z 0) ≡ ternary_bytes q N (polynomial N z 0) ++ ternary_bytes q N (polynomial N z 1)
unfolding from polynomial
secrets_append q N z =
    let two : 2 * N ≡ N + N = omega arith in
    let byte : ℕ → ℕ = λ x. cond (eqb (x % q) 1) 1 (cond (eqb (x % q) 0) 0 2) in
    ap (λ (m : ℕ). list m (λ k. byte (get_or z (0 + k) 0))) two ∙ list_append N N (λ k. byte (get_or z (0 + k) 0))
    ∙ ap₂ ◌++◌ (list_cong N (λ k l. let e : 0 + k ≡ 0 * N + k = omega arith in ap (λ (i : ℕ). byte (get_or z i 0)) e))
    (list_cong N (λ k l. let e : 0 + (N + k) ≡ 1 * N + k = omega arith in ap (λ (i : ℕ). byte (get_or z i 0)) e))

pub key_bytes_lem : (q N : ℕ) (z : List ℕ) (d d1 d2 : Bytes) → length d ≡ 24 * N → d1 ≡ put d 0 (ternary_bytes q (2 * N) (from z 0)) → d2 ≡ put d1 (2 * N) (zeros (22 * N))
    → d2 ≡ ternary_bytes q N (polynomial N z 0) ++ (ternary_bytes q N (polynomial N z 1) ++ zeros (22 * N))
key_bytes_lem q N z d d1 d2 l e1 e2 =
    let s = ternary_bytes q (2 * N) (from z 0) in
    let ls : length s ≡ 2 * N = length_list (2 * N) _ in
    let lz : length (zeros (22 * N)) ≡ 22 * N = length-replicate {A = ℕ} (22 * N) 0 in
    written_behind d d1 d2 s (zeros (22 * N)) 0 (2 * N) (omega arith) (omega arith) e1 e2
    ∙ put_whole d (s ++ zeros (22 * N)) (length-append s (zeros (22 * N)) ∙ omega arith)
    ∙ ap (λ (t : Bytes). t ++ zeros (22 * N)) (secrets_append q N z) ∙ append_assoc (ternary_bytes q N (polynomial N z 0)) (ternary_bytes q N (polynomial N z 1)) (zeros (22 * N))
