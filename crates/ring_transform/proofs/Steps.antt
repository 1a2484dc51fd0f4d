-- What the recursive functions leave in scratch is the transform, and its inverse times the length: a level and the two halves. Assumes nothing.
use mathlib.Core.Path.{◌≡◌, refl, sym, ap, ap₂, ◌∙◌}
use mathlib.Core.List.{List, ◌++◌}
use Prim.Native.Nat.{ℕ, zero, suc, ◌+◌, ◌-◌, ◌*◌, ◌/◌, ◌%◌, ◌^◌, ◌≤◌, ◌<◌}
use native.Mathlib.Nat.{mul_assoc, mul_comm, mul-one, mod-lt}
use native.Mathlib.Omega.{arith}
use lib.ListN.{length, get_or, take, drop}
use Rattle.codec.specs.Bytes.{Bytes, words, put}
use Rattle.modular.specs.Modulo.{Same}
use Rattle.modular.proofs.Congruence.{same_refl, same_eq, same_mod, same_mul, ◌then◌}
use Rattle.montgomery.specs.Internal.{Modulus, radix_inverse}
use Rattle.montgomery.proofs.Reduction.{radix_times}
use Rattle.vector.specs.Internal.{Vector}
use Rattle.vector.proofs.Vectors.{append_each, take_each, drop_each}
use Rattle.ring_transform.specs.Internal.{zip, numbers, two_to, plus_twiddled, minus_twiddled, level, transform, back_sum, back_twiddled, united, untransform, Powers}
use Rattle.ring_transform.proofs.Vectors.{take_join, drop_join, zip_each}
use Rattle.ring_transform.proofs.Convolve.{plus_vec, minus_vec, transform_vec}
use Rattle.ring_transform.proofs.Places.{length_vec, numbers_put, numbers_after, numbers_low, numbers_high, put_halves, put_over, length_row}

-- ---- sizes, and a root of the table

pub positive : {q i : ℕ} → Modulus q i → 0 < q
positive m = omega (arith, m.odd)

double : (d : ℕ) → two_to (suc d) ≡ two_to d + two_to d
unfolding two_to
double d = refl

pub size_is : (l m : ℕ) → 1 ≤ l → m ≡ two_to l → (two_to (l - 1) ≡ m / 2) × (m ≡ m / 2 + m / 2)
size_is l m h e =
    let p : l ≡ suc (l - 1) = omega arith in
    let t : m ≡ two_to (l - 1) + two_to (l - 1) = e ∙ ap two_to p ∙ double (l - 1) in
    (omega arith, omega arith)

pub root_is : {q i w n : ℕ} {p : List ℕ} (k : ℕ) → Modulus q i → Powers q w n p → k < n → Same q (get_or p k 0 * radix_inverse q) (w ^ k)
root_is {q} {w} {p} k m pw h =
    same_mul (same_eq (pw.each k h) then same_mod) same_refl
    then same_eq (mul_assoc (w ^ k) 72057594037927936 (radix_inverse q) ∙ ap (λ (x : ℕ). w ^ k * x) (mul_comm 72057594037927936 (radix_inverse q)))
    then same_mul (same_refl {x = w ^ k}) (radix_times q m.odd) then same_eq (mul-one (w ^ k))

pub root_below : {q i w n : ℕ} {p : List ℕ} (k : ℕ) → Modulus q i → Powers q w n p → k < n → get_or p k 0 < q
root_below {q} {w} k m pw h = rw (pw.each k h) (mod-lt (w ^ k * 72057594037927936) (positive m))

times_same : {q y z : ℕ} → Same q y z → (b : ℕ) → y * b % q ≡ z * b % q
times_same e b = (same_mul e (same_refl {x = b})).is

pub level_same : {q : ℕ} (y z m : ℕ) (s : List ℕ) → Same q y z → level q y m s ≡ level q z m s
unfolding level
level_same {q} y z m s e = ap₂ (λ (f g : ℕ → ℕ → ℕ). zip f (take m s) (drop m s) ++ zip g (take m s) (drop m s)) (λ i a b. (a + times_same e b i) % q) (λ i a b. (a + (q - times_same e b i)) % q)

pub united_same : {q : ℕ} (y z : ℕ) (u v : List ℕ) → Same q y z → united q y u v ≡ united q z u v
unfolding united
united_same {q} y z u v e = ap (λ (g : ℕ → ℕ → ℕ). zip (back_sum q) u v ++ zip g u v) (λ i a b. times_same e ((b + (q - a)) % q) i)

united_vec : {q n : ℕ} (y : ℕ) {u v : List ℕ} → 0 < q → Vector q n u → Vector q n v → Vector q (n + n) (united q y u v)
unfolding united
united_vec {q} y h vu vv =
    append_each (zip_each (back_sum q) (λ a b _ _. mod-lt (a + b) h) vu vv) (zip_each (back_twiddled q y) (λ a b _ _. mod-lt (y * ((b + (q - a)) % q)) h) vu vv)

pub untransform_vec : {q : ℕ} (w N : ℕ) → 0 < q → (l e : ℕ) {s : List ℕ} → Vector q (two_to l) s → Vector q (two_to l) (untransform q w N l e s)
unfolding two_to untransform
untransform_vec w N h zero e v = v
untransform_vec w N h (suc l) e v =
    united_vec (w ^ (N - e / 2)) h (untransform_vec w N h l (e / 2) (take_each (two_to l) (two_to l) refl v)) (untransform_vec w N h l (e / 2 + N) (drop_each (two_to l) (two_to l) refl v))

bottom : (q w n e : ℕ) (s : List ℕ) → transform q w n zero e s ≡ s
unfolding transform
bottom q w n e s = refl

bottom_back : (q w n e : ℕ) (s : List ℕ) → untransform q w n zero e s ≡ s
unfolding untransform
bottom_back q w n e s = refl

-- ---- the row of a node, of h + h numbers, where h is 2^d

module _ {q : ℕ} (w n e d h : ℕ) (W : Bytes) (at : ℕ) (eh : two_to d ≡ h) (pos : 0 < q) (small : q < 2 ^ 56) (fits : at + 8 * (h + h) ≤ length W) (v : Vector q (h + h) (numbers (h + h) W at)) where
  row : List ℕ
  row = numbers (h + h) W at

  -- ---- the transform

  X : List ℕ
  X = zip (plus_twiddled q (w ^ (e / 2))) (take h row) (drop h row)

  Y : List ℕ
  Y = zip (minus_twiddled q (w ^ (e / 2))) (take h row) (drop h row)

  vx : Vector q h X
  unfolding X row
  vx = plus_vec h (w ^ (e / 2)) pos v

  vy : Vector q h Y
  unfolding Y row
  vy = minus_vec h (w ^ (e / 2)) pos v

  halves_vec : (m : ℕ) {s : List ℕ} → Vector q h s → Vector q h (transform q w n d m s)
  halves_vec m {s} u = rw eh at (transform_vec w n pos d m {s = s} (rw eh u))

  whole_step : transform q w n (suc d) e row ≡ transform q w n d (e / 2) X ++ transform q w n d (e / 2 + n) Y
  unfolding X Y transform
  whole_step =
      ap (λ (m : ℕ).
      transform q w n d (e / 2) (zip (plus_twiddled q (w ^ (e / 2))) (take m row) (drop m row)) ++ transform q w n d (e / 2 + n) (zip (minus_twiddled q (w ^ (e / 2))) (take m row) (drop m row))) eh

  module _ {W₁ : Bytes} (e₁ : W₁ ≡ put W at (words (level q (w ^ (e / 2)) h (numbers (h + h) W at)))) where
    first_is : W₁ ≡ put W at (words (X ++ Y))
    unfolding X Y row level
    first_is = e₁

    pub first_length : length W₁ ≡ length W
    first_length = ap length first_is ∙ length_row W at (append_each vx vy) fits

    first_row : numbers (h + h) W₁ at ≡ X ++ Y
    first_row = ap (λ (t : Bytes). numbers (h + h) t at) first_is ∙ numbers_put W at (omega arith) (append_each vx vy) fits

    low_is : numbers h W₁ at ≡ X
    low_is = sym (numbers_low W₁ at h h) ∙ ap (take h) first_row ∙ take_join Y vx

    high_is : numbers h W₁ (at + 8 * h) ≡ Y
    high_is = sym (numbers_high W₁ at h h) ∙ ap (drop h) first_row ∙ drop_join Y vx

    -- with one number in each half the level is all
    pub leaf : d ≡ 0 → W₁ ≡ put W at (words (transform q w n (suc d) e (numbers (h + h) W at)))
    unfolding row
    leaf z = first_is ∙ ap (λ (s : List ℕ). put W at (words s)) (sym (whole_step ∙ ap₂ ◌++◌ (alone (e / 2) X z) (alone (e / 2 + n) Y z)))
      where
        alone : (m : ℕ) (s : List ℕ) → d ≡ 0 → transform q w n d m s ≡ s
        alone m s z = ap (λ (k : ℕ). transform q w n k m s) z ∙ bottom q w n m s

    pub low_vec : Vector q h (numbers h W₁ at)
    low_vec = rw low_is vx

    module _ {W₂ : Bytes} (e₂ : W₂ ≡ put W₁ at (words (transform q w n d (e / 2) (numbers h W₁ at)))) where
      A : List ℕ
      A = transform q w n d (e / 2) (numbers h W₁ at)

      va : Vector q h A
      unfolding A
      va = halves_vec (e / 2) low_vec

      second_is : W₂ ≡ put W₁ at (words A)
      unfolding A
      second_is = e₂

      pub second_length : length W₂ ≡ length W
      second_length = ap length second_is ∙ length_row W₁ at va (omega (arith, first_length)) ∙ first_length

      high_kept : numbers h W₂ (at + 8 * h) ≡ Y
      high_kept =
          ap (λ (t : Bytes). numbers h t (at + 8 * h)) second_is
          ∙ numbers_after W₁ at (words A) (at + 8 * h) h (omega (arith, length_vec va, first_length)) (omega (arith, length_vec va)) ∙ high_is

      pub high_vec : Vector q h (numbers h W₂ (at + 8 * h))
      high_vec = rw high_kept vy

      pub made : {W₃ : Bytes} → W₃ ≡ put W₂ (at + 8 * h) (words (transform q w n d (e / 2 + n) (numbers h W₂ (at + 8 * h)))) → W₃ ≡ put W at (words (transform q w n (suc d) e (numbers (h + h) W at)))
      unfolding A row
      made {W₃} e₃ =
          let B : List ℕ = transform q w n d (e / 2 + n) (numbers h W₂ (at + 8 * h)) in
          let vb : Vector q h B = halves_vec (e / 2 + n) high_vec in
          let join : put (put W₁ at (words A)) (at + 8 * h) (words B) ≡ put W₁ at (words (A ++ B)) = put_halves W₁ at va vb (omega (arith, first_length)) in
          e₃ ∙ ap (λ (t : Bytes). put t (at + 8 * h) (words B)) second_is ∙ join
          ∙ ap (λ (t : Bytes). put t at (words (A ++ B))) first_is ∙ put_over W at (append_each vx vy) (append_each va vb) fits
          ∙ ap (λ (s : List ℕ). put W at (words s)) (ap₂ ◌++◌ (ap (transform q w n d (e / 2)) low_is) (ap (transform q w n d (e / 2 + n)) high_kept) ∙ sym whole_step)

  -- ---- and back

  back_vec : (m : ℕ) {s : List ℕ} → Vector q h s → Vector q h (untransform q w n d m s)
  back_vec m {s} u = rw eh at (untransform_vec w n pos d m {s = s} (rw eh u))

  back_step : untransform q w n (suc d) e row ≡ united q (w ^ (n - e / 2)) (untransform q w n d (e / 2) (numbers h W at)) (untransform q w n d (e / 2 + n) (numbers h W (at + 8 * h)))
  unfolding row untransform
  back_step =
      ap (λ (m : ℕ). united q (w ^ (n - e / 2)) (untransform q w n d (e / 2) (take m (numbers (h + h) W at))) (untransform q w n d (e / 2 + n) (drop m (numbers (h + h) W at)))) eh
      ∙ ap₂ (λ (s t : List ℕ). united q (w ^ (n - e / 2)) (untransform q w n d (e / 2) s) (untransform q w n d (e / 2 + n) t)) (numbers_low W at h h) (numbers_high W at h h)

  pub low_half_vec : Vector q h (numbers h W at)
  low_half_vec = rw (sym (numbers_low W at h h)) (take_each h h refl v)

  high_half_vec : Vector q h (numbers h W (at + 8 * h))
  high_half_vec = rw (sym (numbers_high W at h h)) (drop_each h h refl v)

  pub leaf_back : {W₁ : Bytes} → d ≡ 0 → W₁ ≡ put W at (words (united q (w ^ (n - e / 2)) (numbers h W at) (numbers h W (at + 8 * h)))) → W₁ ≡ put W at (words (untransform q w n (suc d) e (numbers (h + h) W at)))
  unfolding row
  leaf_back z e₁ = e₁ ∙ ap (λ (s : List ℕ). put W at (words s)) (sym (back_step ∙ ap₂ (united q (w ^ (n - e / 2))) (alone (e / 2) (numbers h W at)) (alone (e / 2 + n) (numbers h W (at + 8 * h)))))
    where
      alone : (m : ℕ) (s : List ℕ) → untransform q w n d m s ≡ s
      alone m s = ap (λ (k : ℕ). untransform q w n k m s) z ∙ bottom_back q w n m s

  module _ {W₁ : Bytes} (e₁ : W₁ ≡ put W at (words (untransform q w n d (e / 2) (numbers h W at)))) where
    ua : Vector q h (untransform q w n d (e / 2) (numbers h W at))
    ua = back_vec (e / 2) low_half_vec

    pub back_length : length W₁ ≡ length W
    back_length = ap length e₁ ∙ length_row W at ua (omega arith)

    upper_kept : numbers h W₁ (at + 8 * h) ≡ numbers h W (at + 8 * h)
    upper_kept =
        ap (λ (t : Bytes). numbers h t (at + 8 * h)) e₁
        ∙ numbers_after W at (words (untransform q w n d (e / 2) (numbers h W at))) (at + 8 * h) h (omega (arith, length_vec ua)) (omega (arith, length_vec ua))

    pub upper_vec : Vector q h (numbers h W₁ (at + 8 * h))
    upper_vec = rw upper_kept high_half_vec

    module _ {W₂ : Bytes} (e₂ : W₂ ≡ put W₁ (at + 8 * h) (words (untransform q w n d (e / 2 + n) (numbers h W₁ (at + 8 * h))))) where
      ub : Vector q h (untransform q w n d (e / 2 + n) (numbers h W (at + 8 * h)))
      ub = back_vec (e / 2 + n) high_half_vec

      both_are : W₂ ≡ put W at (words (untransform q w n d (e / 2) (numbers h W at) ++ untransform q w n d (e / 2 + n) (numbers h W (at + 8 * h))))
      both_are =
          e₂ ∙ ap₂ (λ (t : Bytes) (s : List ℕ). put t (at + 8 * h) (words (untransform q w n d (e / 2 + n) s))) e₁ upper_kept
          ∙ put_halves W at ua ub fits

      pub both_length : length W₂ ≡ length W
      both_length = ap length both_are ∙ length_row W at (append_each ua ub) fits

      both_row : numbers (h + h) W₂ at ≡ untransform q w n d (e / 2) (numbers h W at) ++ untransform q w n d (e / 2 + n) (numbers h W (at + 8 * h))
      both_row = ap (λ (t : Bytes). numbers (h + h) t at) both_are ∙ numbers_put W at (omega arith) (append_each ua ub) fits

      pub both_vec : Vector q (h + h) (numbers (h + h) W₂ at)
      both_vec = rw both_row (append_each ua ub)

      pub made_back : {W₃ : Bytes} → W₃ ≡ put W₂ at (words (united q (w ^ (n - e / 2)) (numbers h W₂ at) (numbers h W₂ (at + 8 * h)))) → W₃ ≡ put W at (words (untransform q w n (suc d) e (numbers (h + h) W at)))
      unfolding row
      made_back {W₃} e₃ =
          let low : numbers h W₂ at ≡ untransform q w n d (e / 2) (numbers h W at) = sym (numbers_low W₂ at h h) ∙ ap (take h) both_row ∙ take_join (untransform q w n d (e / 2 + n) (numbers h W (at + 8 * h))) ua in
          let high : numbers h W₂ (at + 8 * h) ≡ untransform q w n d (e / 2 + n) (numbers h W (at + 8 * h)) = sym (numbers_high W₂ at h h) ∙ ap (drop h) both_row ∙ drop_join (untransform q w n d (e / 2 + n) (numbers h W (at + 8 * h))) ua in
          e₃ ∙ ap₂ (λ (s t : List ℕ). put W₂ at (words (united q (w ^ (n - e / 2)) s t))) low high
          ∙ ap (λ (t : Bytes). put t at (words (united q (w ^ (n - e / 2)) (untransform q w n d (e / 2) (numbers h W at)) (untransform q w n d (e / 2 + n) (numbers h W (at + 8 * h)))))) both_are
          ∙ put_over W at (append_each ua ub) (united_vec (w ^ (n - e / 2)) pos ua ub) fits ∙ ap (λ (s : List ℕ). put W at (words s)) (sym back_step)
