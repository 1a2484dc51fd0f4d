-- Numbers that stand in scratch: what is written there as words is read again, beside them nothing changes, and two halves that are written after each other are one row. Assumes nothing.
use mathlib.Core.Path.{◌≡◌, refl, sym, ap, ap₂, ◌∙◌}
use mathlib.Core.List.{List, [], ◌∷◌, ◌++◌}
use Prim.Native.Nat.{ℕ, zero, suc, ◌+◌, ◌*◌, ◌^◌, ◌≤◌, ◌<◌}
use native.Mathlib.Nat.{add-zero, add-suc}
use native.Mathlib.Omega.{arith}
use lib.ListN.{length, get_or, take, drop}
use lib.Seq.{ext_get_or, take-append-le, take_all, drop_at}
use Rattle.codec.specs.Bytes.{Bytes, words, put}
use Rattle.codec.specs.Lists.{list}
use Rattle.codec.proofs.Laws.{length_put, put_append, put_put}
use Rattle.codec.proofs.Lists.{length_list, list_cong, get_d_list, list_get_d}
use Rattle.codec.proofs.Numbers.{length_words, words_append}
use Rattle.ring.specs.Poly.{Poly}
use Rattle.ring.specs.Slots.{slot, poly, encode}
use Rattle.ring.proofs.Bridge.{poly_encode, slot_later, slot_put, slot_put_before, slot_put_after}
use Rattle.vector.specs.Internal.{Vector}
use Rattle.vector.proofs.Vectors.{at_each, each_length}
use Rattle.ring_transform.specs.Internal.{numbers, zip}

-- ---- lists of coefficients

-- a list in two parts
pub list_parts : (m n : ℕ) (f : Poly) → list (m + n) f ≡ list m f ++ list n (λ k. f (m + k))
unfolding list
list_parts m zero f = ap (λ (k : ℕ). list k f) (add-zero m) ∙ sym (mathlib.Core.List.append-nil (list m f))
list_parts m (suc n) f =
    ap (λ (k : ℕ). list k f) (add-suc m n) ∙ ap (λ (t : List ℕ). t ++ (f (m + n) ∷ [])) (list_parts m n f)
    ∙ mathlib.Core.List.append_assoc (list m f) (list n (λ k. f (m + k))) (f (m + n) ∷ [])

-- the lower half of a row, and the upper
pub low_half : (m n : ℕ) (f : Poly) → take m (list (m + n) f) ≡ list m f
low_half m n f =
    ap (take m) (list_parts m n f) ∙ take-append-le m (list m f) (list n (λ k. f (m + k))) (omega (arith, length_list m f))
    ∙ take_all m (list m f) (omega (arith, length_list m f))

pub high_half : (m n : ℕ) (f : Poly) → drop m (list (m + n) f) ≡ list n (λ k. f (m + k))
high_half m n f = ap (drop m) (list_parts m n f) ∙ drop_at (list m f) (list n (λ k. f (m + k))) m (length_list m f)

length_zip : (f : ℕ → ℕ → ℕ) (x y : List ℕ) → length x ≡ length y → length (zip f x y) ≡ length x
unfolding zip
length_zip f [] y e = refl
length_zip f (x ∷ xs) [] e = absurd (omega arith)
length_zip f (x ∷ xs) (y ∷ ys) e = ap suc (length_zip f xs ys (omega arith))

get_d_zip : (f : ℕ → ℕ → ℕ) (x y : List ℕ) (i : ℕ) → i < length x → length x ≡ length y → get_or (zip f x y) i 0 ≡ f (get_or x i 0) (get_or y i 0)
unfolding zip
get_d_zip f [] y i h e = absurd (omega arith)
get_d_zip f (x ∷ xs) [] i h e = absurd (omega arith)
get_d_zip f (x ∷ xs) (y ∷ ys) zero h e = refl
get_d_zip f (x ∷ xs) (y ∷ ys) (suc i) h e = get_d_zip f xs ys i (omega arith) (omega arith)

pub zip_list : (f : ℕ → ℕ → ℕ) (n : ℕ) (a b : Poly) → zip f (list n a) (list n b) ≡ list n (λ k. f (a k) (b k))
zip_list f n a b =
    let e : length (list n a) ≡ length (list n b) = length_list n a ∙ sym (length_list n b) in
    let z : length (zip f (list n a) (list n b)) ≡ n = length_zip f (list n a) (list n b) e ∙ length_list n a in
    ext_get_or 0 (zip f (list n a) (list n b)) (list n (λ k. f (a k) (b k))) (z ∙ sym (length_list n (λ k. f (a k) (b k))))
    (λ i h.
    get_d_zip f (list n a) (list n b) i (omega (arith, length_list n a)) e
    ∙ ap₂ f (get_d_list n a i (omega arith)) (get_d_list n b i (omega arith)) ∙ sym (get_d_list n (λ k. f (a k) (b k)) i (omega arith)))

-- ---- in scratch

pub length_vec : {q n : ℕ} {xs : List ℕ} → Vector q n xs → length (words xs) ≡ 8 * n
length_vec {xs} v = length_words xs ∙ ap (λ (k : ℕ). 8 * k) (each_length v)

-- written, then read
pub numbers_put : {q n : ℕ} (w : Bytes) (at : ℕ) {xs : List ℕ} → q ≤ 2 ^ 64 → Vector q n xs → at + 8 * n ≤ length w → numbers n (put w at (words xs)) at ≡ xs
unfolding encode
numbers_put {q} {n} w at {xs} b v h =
    let l = length_vec v in
    list_cong n (λ k r.
    slot_put w at (words xs) k (omega arith) (omega arith)
    ∙ ap (λ (s : Bytes). poly s k) (ap words (sym (list_get_d xs)))
    ∙ poly_encode (length xs) (λ j. get_or xs j 0) k (omega (arith, each_length v)) (omega (arith, at_each v k r)))
    ∙ ap (λ (j : ℕ). list j (λ k. get_or xs k 0)) (sym (each_length v)) ∙ list_get_d xs

-- beside what is written
pub numbers_before : (w : Bytes) (at : ℕ) (s : Bytes) (from n : ℕ) → at + length s ≤ length w → from + 8 * n ≤ at → numbers n (put w at s) from ≡ numbers n w from
numbers_before w at s from n h l = list_cong n (λ k r. slot_put_before w at s from k h (omega arith))

pub numbers_after : (w : Bytes) (at : ℕ) (s : Bytes) (from n : ℕ) → at + length s ≤ length w → at + length s ≤ from → numbers n (put w at s) from ≡ numbers n w from
numbers_after w at s from n h l = list_cong n (λ k r. slot_put_after w at s from k h (omega arith))

-- the upper half stands behind the lower one
pub numbers_behind : (w : Bytes) (at m n : ℕ) → numbers n w (at + 8 * m) ≡ list n (λ k. slot w at (m + k))
numbers_behind w at m n = list_cong n (λ k r. slot_later w at m k)

pub numbers_low : (w : Bytes) (at m n : ℕ) → take m (numbers (m + n) w at) ≡ numbers m w at
numbers_low w at m n = low_half m n (slot w at)

pub numbers_high : (w : Bytes) (at m n : ℕ) → drop m (numbers (m + n) w at) ≡ numbers n w (at + 8 * m)
numbers_high w at m n = high_half m n (slot w at) ∙ sym (numbers_behind w at m n)

-- two halves that are written after each other
pub put_halves : {p q m n : ℕ} (w : Bytes) (at : ℕ) {xs ys : List ℕ} → Vector p m xs → Vector q n ys → at + 8 * (m + n) ≤ length w
    → put (put w at (words xs)) (at + 8 * m) (words ys) ≡ put w at (words (xs ++ ys))
put_halves {m} w at {xs} {ys} vx vy h =
    ap (λ (k : ℕ). put (put w at (words xs)) (at + k) (words ys)) (sym (length_vec vx))
    ∙ put_append w at (words xs) (words ys) (omega (arith, length_vec vx, length_vec vy)) ∙ ap (put w at) (sym (words_append xs ys))

-- a row that is written over another
pub put_over : {p q n : ℕ} (w : Bytes) (at : ℕ) {xs ys : List ℕ} → Vector p n xs → Vector q n ys → at + 8 * n ≤ length w → put (put w at (words xs)) at (words ys) ≡ put w at (words ys)
put_over w at {xs} {ys} vx vy h = put_put w at (words xs) (words ys) (omega (arith, length_vec vx)) (length_vec vy ∙ sym (length_vec vx))

pub length_row : {q n : ℕ} (w : Bytes) (at : ℕ) {xs : List ℕ} → Vector q n xs → at + 8 * n ≤ length w → length (put w at (words xs)) ≡ length w
length_row w at {xs} v h = length_put w at (words xs) (omega (arith, length_vec v))

pub vec_at : {q n : ℕ} (w : Bytes) (at : ℕ) → Vector q n (numbers n w at) → (k : ℕ) → k < n → slot w at k < q
vec_at {n} w at v k h = rw (sym (get_d_list n (slot w at) k h)) (at_each v k h)
