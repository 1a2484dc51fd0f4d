-- Laws of vectors: properties of each entry, addition and subtraction modulo q, and how bytes hold them. Assumes nothing.
use mathlib.Core.Path.{◌≡◌, refl, sym, ap, ap₂, ◌∙◌}
use mathlib.Core.Logic.{◌⊎◌, inl, inr}
use mathlib.Core.Bool.{Bool, true, false, cond}
use mathlib.Core.List.{List, [], ◌∷◌, ◌++◌}
use Prim.Native.Nat.{ℕ, zero, suc, ◌+◌, ◌-◌, ◌*◌, ◌/◌, ◌%◌, ◌^◌, ◌≤◌, ◌<◌}
use native.Mathlib.Nat.{zero-add, suc-add, add_comm, mod-lt, mod-eq_of_lt, mod-add-mod, add-mod_right, zero-mod}
use native.Mathlib.Omega.{arith}
use lib.Dec.{eqb}
use lib.ListN.{length, get_or, take, drop, length-append, length-map, get_or-append}
use lib.Seq.{length-take-le, get_or-take, ext_get_or}
use Rattle.codec.specs.Bytes.{Bytes, words, number, part}
use Rattle.codec.proofs.Numbers.{length_words}
use Rattle.codec.specs.Lists.{list, all_below}
use Rattle.codec.proofs.Lists.{length_list, list_cong, get_d_list, list_get_d, all_below_sound, all_below_complete}
use Rattle.modular.specs.Modulo.{remainder}
use Rattle.modular.proofs.Centring.{remainder_lt}
use Rattle.ring.specs.Slots.{poly, encode}
use Rattle.ring.specs.Ternary.{meaning, ternary}
use Rattle.ring.proofs.Bridge.{poly_encode}
use Rattle.ring.proofs.Sizes.{ternary_value}
use Rattle.vector.specs.Vector.{Each, none, more, vector, ternaries, add, subtract}
use Rattle.vector.specs.Internal.{Vector}
use Rattle.vector.specs.Permutation.{entries, apply, extend}

-- ---- a property of each entry

pub each_length : {P : ℕ → Type 0} {n : ℕ} {x : List ℕ} → Each P n x → length x ≡ n
each_length none = refl
each_length (more h v) = ap suc (each_length v)

-- entry by entry
pub at_each : {P : ℕ → Type 0} {n : ℕ} {x : List ℕ} → Each P n x → (i : ℕ) → i < n → P (get_or x i 0)
at_each none i h = absurd (omega arith)
at_each (more h v) zero l = h
at_each (more h v) (suc i) l = at_each v i (omega arith)

pub from_at : {P : ℕ → Type 0} (x : List ℕ) → ((i : ℕ) → i < length x → P (get_or x i 0)) → Each P (length x) x
from_at [] h = none
from_at (x ∷ xs) h = more (h 0 (omega arith)) (from_at xs (λ i l. h (suc i) (omega arith)))

-- the first entries, the entries after them, and two lists side by side
pub take_each : {P : ℕ → Type 0} {n : ℕ} {x : List ℕ} (k m : ℕ) → n ≡ k + m → Each P n x → Each P k (take k x)
take_each zero m e v = none
take_each (suc k) m e none = absurd (omega arith)
take_each (suc k) m e (more h v) = more h (take_each k m (omega arith) v)

pub drop_each : {P : ℕ → Type 0} {n : ℕ} {x : List ℕ} (k m : ℕ) → n ≡ k + m → Each P n x → Each P m (drop k x)
drop_each zero m e v = rw (e ∙ zero-add m) at v
drop_each (suc k) m e none = absurd (omega arith)
drop_each (suc k) m e (more h v) = drop_each k m (omega arith) v

pub append_each : {P : ℕ → Type 0} {n m : ℕ} {x y : List ℕ} → Each P n x → Each P m y → Each P (n + m) (x ++ y)
append_each none w = rw zero-add w
append_each (more h v) w = rw suc-add (more h (append_each v w))

-- ---- sums and differences

plus_minus : {q x y : ℕ} → x < q → y < q → ((x + y) % q + (q - y)) % q ≡ x
plus_minus {q} {x} {y} hx hy =
    let e : x + y + (q - y) ≡ x + q = omega arith in
    rw (mod-add-mod, e, add-mod_right) (mod-eq_of_lt hx)

minus_plus : {q x y : ℕ} → x < q → y < q → ((x + (q - y)) % q + y) % q ≡ x
minus_plus {q} {x} {y} hx hy =
    let e : x + (q - y) + y ≡ x + q = omega arith in
    rw (mod-add-mod, e, add-mod_right) (mod-eq_of_lt hx)

pub add_vector : {q n : ℕ} {x y : List ℕ} → Vector q n x → Vector q n y → Vector q n (add q x y)
unfolding add
add_vector none none = none
add_vector {q} (more hx vx) (more hy vy) = more (mod-lt _ (omega arith)) (add_vector vx vy)

pub subtract_vector : {q n : ℕ} {x y : List ℕ} → Vector q n x → Vector q n y → Vector q n (subtract q x y)
unfolding subtract
subtract_vector none none = none
subtract_vector {q} (more hx vx) (more hy vy) = more (mod-lt _ (omega arith)) (subtract_vector vx vy)

pub add_subtract : {q n : ℕ} {x y : List ℕ} → Vector q n x → Vector q n y → subtract q (add q x y) y ≡ x
unfolding add subtract
add_subtract none none = refl
add_subtract (more hx vx) (more hy vy) = ap₂ ◌∷◌ (plus_minus hx hy) (add_subtract vx vy)

pub subtract_add : {q n : ℕ} {x y : List ℕ} → Vector q n x → Vector q n y → add q (subtract q x y) y ≡ x
unfolding add subtract
subtract_add none none = refl
subtract_add (more hx vx) (more hy vy) = ap₂ ◌∷◌ (minus_plus hx hy) (subtract_add vx vy)

pub commute : (q : ℕ) (x y : List ℕ) → add q x y ≡ add q y x
unfolding add
commute q [] [] = refl
commute q [] (y ∷ ys) = refl
commute q (x ∷ xs) [] = refl
commute q (x ∷ xs) (y ∷ ys) = ap₂ (λ (a : ℕ) (l : List ℕ). a % q ∷ l) (add_comm x y) (commute q xs ys)

pub cancel : (q : ℕ) {n : ℕ} {x y z : List ℕ} → Vector q n x → Vector q n y → Vector q n z → add q x z ≡ add q y z → x ≡ y
cancel q {z} vx vy vz e = sym (add_subtract vx vz) ∙ ap (λ (l : List ℕ). subtract q l z) e ∙ add_subtract vy vz

-- a sum's entry: of vectors at any place, and of lists of any lengths at a place of both
pub add_at : {q n : ℕ} {x y : List ℕ} (i : ℕ) → Vector q n x → Vector q n y → get_or (add q x y) i 0 ≡ (get_or x i 0 + get_or y i 0) % q
unfolding add
add_at {q} i none none = sym (zero-mod q)
add_at zero (more hx vx) (more hy vy) = refl
add_at (suc i) (more hx vx) (more hy vy) = add_at i vx vy

pub add_within : (q : ℕ) (x y : List ℕ) (i : ℕ) → i < length x → i < length y → get_or (add q x y) i 0 ≡ (get_or x i 0 + get_or y i 0) % q
unfolding add
add_within q [] y i h l = absurd (omega arith)
add_within q (a ∷ x) [] i h l = absurd (omega arith)
add_within q (a ∷ x) (b ∷ y) zero h l = refl
add_within q (a ∷ x) (b ∷ y) (suc i) h l = add_within q x y i (omega arith) (omega arith)

pub length_add : (q : ℕ) (x y : List ℕ) → length y ≤ length x → length (add q x y) ≡ length y
unfolding add
length_add q [] [] h = refl
length_add q [] (b ∷ y) h = absurd (omega arith)
length_add q (a ∷ x) [] h = refl
length_add q (a ∷ x) (b ∷ y) h = ap suc (length_add q x y (omega arith))

-- its first entries and the entries after them
pub add_take : (q k : ℕ) (x y : List ℕ) → take k (add q x y) ≡ add q (take k x) (take k y)
unfolding add
add_take q zero x y = refl
add_take q (suc k) [] y = refl
add_take q (suc k) (x ∷ xs) [] = refl
add_take q (suc k) (x ∷ xs) (y ∷ ys) = ap (λ (l : List ℕ). (x + y) % q ∷ l) (add_take q k xs ys)

-- ---- a permutation goes through sums, entry by entry

pub apply_add : {q n : ℕ} (p : List ℕ) {x y : List ℕ} → Vector q n x → Vector q n y → apply p (add q x y) ≡ add q (apply p x) (apply p y)
unfolding add apply
apply_add [] vx vy = refl
apply_add (i ∷ p) vx vy = ap₂ ◌∷◌ (add_at i vx vy) (apply_add p vx vy)

pub apply_each : {P : ℕ → Type 0} {n m : ℕ} {p x : List ℕ} → Each (λ i. i < n) m p → Each P n x → Each P m (apply p x)
unfolding apply
apply_each none v = none
apply_each (more h r) v = more (at_each v _ h) (apply_each r v)

pub length_apply : (p x : List ℕ) → length (apply p x) ≡ length p
unfolding apply
length_apply p x = length-map p (λ i. get_or x i 0)

pub apply_at : (p x : List ℕ) (k : ℕ) → k < length p → get_or (apply p x) k 0 ≡ get_or x (get_or p k 0) 0
unfolding apply
apply_at [] x k h = absurd (omega arith)
apply_at (i ∷ p) x zero h = refl
apply_at (i ∷ p) x (suc k) h = apply_at p x k (omega arith)

-- ---- range tests

pub all_below_each : (q : ℕ) (x : List ℕ) → all_below q x ≡ true → Vector q (length x) x
all_below_each q x e = from_at x (all_below_sound q x e)

pub each_all_below : {q n : ℕ} {x : List ℕ} → Vector q n x → all_below q x ≡ true
each_all_below {q} {n} {x} v = all_below_complete q x (λ i l. at_each v i (omega (arith, each_length v)))

-- ---- vectors in bytes

pub length_vector : (s : Bytes) → length (vector s) ≡ length s / 8
unfolding vector
length_vector s = length_list (length s / 8) (poly s)

pub get_d_vector : (s : Bytes) (i : ℕ) → i < length s / 8 → get_or (vector s) i 0 ≡ poly s i
unfolding vector
get_d_vector s i h = get_d_list (length s / 8) (poly s) i h

-- bytes hold a vector if the range test passes
pub vector_sound : (q : ℕ) (s : Bytes) → all_below q (vector s) ≡ true → Vector q (length s / 8) (vector s)
vector_sound q s e = rw (length_vector s) at (all_below_each q (vector s) e)

-- written as bytes, then read
pub vector_words : {q n : ℕ} {x : List ℕ} → q ≤ 2 ^ 64 → Vector q n x → vector (words x) ≡ x
unfolding vector encode
vector_words {q} {n} {x} fits v =
    let size : length (words x) / 8 ≡ length x = omega (arith, length_words x) in
    ap (λ (k : ℕ). list k (poly (words x))) size ∙ list_cong (length x) read ∙ list_get_d x
  where
    read : (k : ℕ) → k < length x → poly (words x) k ≡ get_or x k 0
    read k h =
        ap (λ (l : List ℕ). poly (words l) k) (sym (list_get_d x))
        ∙ poly_encode (length x) (λ i. get_or x i 0) k h (omega (arith, at_each v k (omega (arith, each_length v))))

-- equal bytes, equal vectors
pub words_injective : {q n : ℕ} {x y : List ℕ} → q ≤ 2 ^ 64 → Vector q n x → Vector q n y → words x ≡ words y → x ≡ y
words_injective fits v w e = sym (vector_words fits v) ∙ ap vector e ∙ vector_words fits w

-- ---- permutations in bytes

pub length_entries : (s : Bytes) → length (entries s) ≡ length s / 4
unfolding entries
length_entries s = length_list (length s / 4) (λ i. number (part s (4 * i) 4))

pub get_d_entries : (s : Bytes) (i : ℕ) → i < length s / 4 → get_or (entries s) i 0 ≡ number (part s (4 * i) 4)
unfolding entries
get_d_entries s i h = get_d_list (length s / 4) (λ j. number (part s (4 * j) 4)) i h

-- ---- ternary bytes

pub length_ternaries : (q : ℕ) (w : Bytes) → length (ternaries q w) ≡ length w
unfolding ternaries
length_ternaries q w = length_list (length w) (ternary q w)

pub get_d_ternaries : (q : ℕ) (w : Bytes) (i : ℕ) → i < length w → get_or (ternaries q w) i 0 ≡ ternary q w i
unfolding ternaries
get_d_ternaries q w i h = get_d_list (length w) (ternary q w) i h

-- what holds of each coefficient
each_ternaries : {P : ℕ → Type 0} (q : ℕ) (w : Bytes) → ((i : ℕ) → P (ternary q w i)) → Each P (length w) (ternaries q w)
each_ternaries {P} q w f =
    rw (length_ternaries q w) at
    (from_at {P = P} (ternaries q w) (λ i h. rw (get_d_ternaries q w i (omega (arith, length_ternaries q w))) (f i)))

pub ternaries_vector : (q : ℕ) (w : Bytes) → 0 < q → Vector q (length w) (ternaries q w)
unfolding ternary
ternaries_vector q w h = each_ternaries q w (λ i. remainder_lt q (meaning (get_or w i 0)) h)

-- each is 0, 1 or -1
pub ternaries_short : (q : ℕ) (w : Bytes) → 1 < q → Each (λ v. (v ≡ 0) ⊎ (v ≡ 1) ⊎ (v ≡ q - 1)) (length w) (ternaries q w)
ternaries_short q w h = each_ternaries q w (λ i. rw (ternary_value q w i h) (go (eqb (get_or w i 0) 1) (eqb (get_or w i 0) 2)))
  where
    go : (a b : Bool) → (cond a 1 (cond b (q - 1) 0) ≡ 0) ⊎ (cond a 1 (cond b (q - 1) 0) ≡ 1) ⊎ (cond a 1 (cond b (q - 1) 0) ≡ q - 1)
    go true b = inr (inl refl)
    go false true = inr (inr refl)
    go false false = inl refl

-- a permutation of the bytes is a permutation of the numbers
pub ternaries_apply : (q : ℕ) {n : ℕ} {p : List ℕ} (w : Bytes) → Each (λ i. i < length w) n p → ternaries q (apply p w) ≡ apply p (ternaries q w)
unfolding ternary
ternaries_apply q {p} w v =
    ext_get_or 0 (ternaries q (apply p w)) (apply p (ternaries q w))
    (length_ternaries q (apply p w) ∙ length_apply p w ∙ sym (length_apply p (ternaries q w)))
    (λ k l. entry k (omega (arith, length_ternaries q (apply p w), length_apply p w)))
  where
    entry : (k : ℕ) → k < length p → get_or (ternaries q (apply p w)) k 0 ≡ get_or (apply p (ternaries q w)) k 0
    entry k l =
        let m : get_or p k 0 < length w = at_each v k (omega (arith, each_length v)) in
        get_d_ternaries q (apply p w) k (omega (arith, length_apply p w))
        ∙ ap (λ (b : ℕ). remainder q (meaning b)) (apply_at p w k l)
        ∙ sym (apply_at p (ternaries q w) k l ∙ get_d_ternaries q w (get_or p k 0) m)

-- the numbers of the first bytes
pub take_ternaries : (q L : ℕ) (x w : Bytes) → length x ≡ L → take L (ternaries q (x ++ w)) ≡ ternaries q x
unfolding ternary
take_ternaries q L x w e =
    ext_get_or 0 (take L (ternaries q (x ++ w))) (ternaries q x) (size ∙ sym (length_ternaries q x ∙ e)) (λ k l. entry k (omega (arith, size)))
  where
    long : length (ternaries q (x ++ w)) ≡ length x + length w
    long = length_ternaries q (x ++ w) ∙ length-append x w

    size : length (take L (ternaries q (x ++ w))) ≡ L
    size = length-take-le L (ternaries q (x ++ w)) (omega (arith, long))

    entry : (k : ℕ) → k < L → get_or (take L (ternaries q (x ++ w))) k 0 ≡ get_or (ternaries q x) k 0
    entry k l =
        get_or-take L (ternaries q (x ++ w)) k 0 l ∙ get_d_ternaries q (x ++ w) k (omega (arith, length-append x w))
        ∙ ap (λ (b : ℕ). remainder q (meaning b)) (get_or-append x w 0 k (omega arith))
        ∙ sym (get_d_ternaries q x k (omega arith))

pub take_extend : (q L : ℕ) (x : Bytes) → length x ≡ L → take L (ternaries q (extend L x)) ≡ ternaries q x
unfolding extend
take_extend q L x e = take_ternaries q L x _ e
