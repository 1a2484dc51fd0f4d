-- The steps of a product: what stands in the two slots after each, from the transforms to the product. Assumes nothing.
use mathlib.Core.Path.{◌≡◌, refl, sym, ap, ap₂, ◌∙◌}
use mathlib.Core.Logic.{inr}
use mathlib.Core.List.{List, [], ◌∷◌, ◌++◌, map}
use Prim.Native.Nat.{ℕ, zero, suc, ◌+◌, ◌-◌, ◌*◌, ◌%◌, ◌^◌, ◌≤◌, ◌<◌}
use native.Mathlib.Nat.{mul_assoc, mul_comm, mul_left_comm, one-mul, mod-lt}
use native.Mathlib.Omega.{arith}
use lib.ListN.{length}
use lib.Pow.{pow-add}
use Rattle.codec.specs.Bytes.{Bytes, words, put}
use Rattle.codec.specs.Lists.{list}
use Rattle.codec.proofs.Apart.{put_comm}
use Rattle.modular.specs.Modulo.{Same}
use Rattle.modular.specs.Roots.{Root}
use Rattle.modular.proofs.Congruence.{same_refl, same_eq, same_mod, same_mul, ◌then◌}
use Rattle.montgomery.specs.Internal.{Modulus, radix_inverse}
use Rattle.montgomery.proofs.Reduction.{radix_times}
use Rattle.ring.specs.Poly.{Poly, mul, modulo, Below}
use Rattle.ring.specs.Slots.{slot, encode}
use Rattle.ring.specs.Internal.{store, Slots}
use Rattle.vector.specs.Internal.{Vector}
use Rattle.ring_transform.specs.Internal.{zip, numbers, two_to, transform, untransform, Node}
use Rattle.ring_transform.proofs.Vectors.{zip_each, map_each, map_join}
use Rattle.ring_transform.proofs.Convolve.{transform_vec}
use Rattle.ring_transform.proofs.Steps.{positive, untransform_vec}
use Rattle.ring_transform.proofs.Places.{zip_list, length_vec, numbers_put, numbers_before, numbers_after, put_over, length_row, vec_at}
use Rattle.ring_transform.proofs.Tables.{two_power}
use Rattle.ring_transform.proofs.Whole.{product_is}

map_list : (f : ℕ → ℕ) (n : ℕ) (a : Poly) → map f (list n a) ≡ list n (λ k. f (a k))
unfolding list
map_list f zero a = refl
map_list f (suc n) a = map_join f (list n a) (a n ∷ []) ∙ ap (λ (s : List ℕ). s ++ (f (a n) ∷ [])) (map_list f n a)

-- 2^(112 - l) twice divided by 2^56, times 2^l
pub made_up : {q i : ℕ} (l h : ℕ) → Modulus q i → l ≤ 11 → h ≡ 2 ^ (112 - l) % q → Same q (h * radix_inverse q * (two_to l * radix_inverse q)) 1
made_up {q} l h mo k e =
    let s : 112 - l + l ≡ 112 = omega arith in
    same_mul (same_mul (same_eq e then same_mod) (same_refl {x = radix_inverse q})) (same_eq (ap (λ (n : ℕ). n * radix_inverse q) (two_power l)))
    then same_eq (regroup (2 ^ (112 - l)) (2 ^ l) (radix_inverse q) ∙ ap (λ (n : ℕ). n * radix_inverse q * radix_inverse q) (sym (pow-add 2 (112 - l) l) ∙ ap (λ (n : ℕ). 2 ^ n) s ∙ square) ∙ parted 72057594037927936 (radix_inverse q))
    then same_mul (radix_times q mo.odd) (radix_times q mo.odd) then same_eq (one-mul 1)
  where
    square : 2 ^ 112 ≡ 72057594037927936 * 72057594037927936
    square = refl

    regroup : (a b u : ℕ) → a * u * (b * u) ≡ a * b * u * u
    regroup a b u = simp (mul_assoc, mul_left_comm)

    parted : (r u : ℕ) → r * r * u * u ≡ u * r * (u * r)
    parted r u = simp (mul_assoc, mul_comm, mul_left_comm)

-- the same asked of another scratch and place
elsewhere : {q i w n m l e at to : ℕ} {p : List ℕ} {W X : Bytes} → Node q i w n m l e p W at → to + 8 * m ≤ length X → Vector q m (numbers m X to) → Node q i w n m l e p X to
elsewhere N f v = record { modulus = N.modulus; table = N.table; ring_high = N.ring_high; power = N.power; deep = N.deep; size = N.size; fits = f; below = v }

module _ {q i w n l : ℕ} {p : List ℕ} {W : Bytes} {at room : ℕ} (A : Node q i w n n l n p W at) (B : Node q i w n n l n p W room) (apart : at + 8 * n ≤ room) where
  pos : 0 < q
  pos = positive A.modulus

  wide : q ≤ 2 ^ 64
  wide = omega (arith, A.modulus.small)

  sized : {f : List ℕ → List ℕ} → ((s : List ℕ) → Vector q (two_to l) s → Vector q (two_to l) (f s)) → (s : List ℕ) → Vector q n s → Vector q n (f s)
  sized {f} h s v = go n A.size v
    where
      go : (k : ℕ) → k ≡ two_to l → Vector q k s → Vector q k (f s)
      go k e u = rw e (h s (rw e at u))

  transformed : (s : List ℕ) → Vector q n s → Vector q n (transform q w n l n s)
  transformed s v = sized {f = transform q w n l n} (λ t u. transform_vec w n pos l n u) s v

  untransformed : (s : List ℕ) → Vector q n s → Vector q n (untransform q w n l n s)
  untransformed s v = sized {f = untransform q w n l n} (λ t u. untransform_vec w n pos l n u) s v

  -- the transforms, the products of their values, and the inverse of those
  TA : List ℕ
  TA = transform q w n l n (numbers n W at)

  pub TB : List ℕ
  TB = transform q w n l n (numbers n W room)

  P : List ℕ
  P = zip (λ x y. radix_inverse q * (x * y) % q) TA TB

  U : List ℕ
  U = untransform q w n l n P

  va : Vector q n TA
  unfolding TA
  va = transformed (numbers n W at) A.below

  vb : Vector q n TB
  unfolding TB
  vb = transformed (numbers n W room) B.below

  vp : Vector q n P
  unfolding P
  vp = zip_each (λ x y. radix_inverse q * (x * y) % q) (λ x y _ _. mod-lt (radix_inverse q * (x * y)) pos) va vb

  vu : Vector q n U
  unfolding U
  vu = untransformed P vp

  -- scratch with a row in the first slot, and the second transform in the second
  staged : List ℕ → Bytes
  staged s = put (put W at (words s)) room (words TB)

  module _ {s : List ℕ} (v : Vector q n s) where
    row_length : length (put W at (words s)) ≡ length W
    row_length = length_row W at v A.fits

    staged_length : length (staged s) ≡ length W
    unfolding staged
    staged_length = length_row (put W at (words s)) room vb (omega (arith, row_length, B.fits)) ∙ row_length

    staged_at : numbers n (staged s) at ≡ s
    unfolding staged
    staged_at = numbers_before (put W at (words s)) room (words TB) at n (omega (arith, row_length, length_vec vb, B.fits)) apart ∙ numbers_put W at wide v A.fits

    staged_room : numbers n (staged s) room ≡ TB
    unfolding staged
    staged_room = numbers_put (put W at (words s)) room wide vb (omega (arith, row_length, B.fits))

    restaged : {t : List ℕ} → Vector q n t → put (staged s) at (words t) ≡ staged t
    unfolding staged
    restaged {t} u =
        put_comm (put W at (words s)) room (words TB) at (words t) (omega (arith, length_vec u)) (omega (arith, row_length, length_vec vb, B.fits))
        ∙ ap (λ (x : Bytes). put x room (words TB)) (put_over W at v u A.fits)

  -- what a step that is lent the first slot asks
  at_node : {X : Bytes} {s : List ℕ} → X ≡ staged s → Vector q n s → Node q i w n n l n p X at
  at_node e v = rw e (elsewhere A (omega (arith, staged_length v, A.fits)) (rw (staged_at v) v))

  -- ---- step by step

  module _ {W₁ : Bytes} (e₁ : W₁ ≡ put W at (words (transform q w n l n (numbers n W at)))) where
    one : W₁ ≡ put W at (words TA)
    unfolding TA
    one = e₁

    room_kept : numbers n W₁ room ≡ numbers n W room
    room_kept = ap (λ (x : Bytes). numbers n x room) one ∙ numbers_after W at (words TA) room n (omega (arith, length_vec va, A.fits)) (omega (arith, length_vec va))

    pub room_node : Node q i w n n l n p W₁ room
    room_node = rw one (elsewhere B (omega (arith, row_length va, B.fits)) (rw (sym one, room_kept) B.below))

    module _ {W₂ : Bytes} (e₂ : W₂ ≡ put W₁ room (words (transform q w n l n (numbers n W₁ room)))) where
      two : W₂ ≡ staged TA
      unfolding staged TB
      two = e₂ ∙ ap₂ (λ (x : Bytes) (s : List ℕ). put x room (words (transform q w n l n s))) one room_kept

      pub pointwise_asked : Modulus q i × Slots n at room W₂ × Below q n (slot W₂ at) × Below q n (slot W₂ room)
      pointwise_asked = rw two (
        A.modulus,
        record { one = omega (arith, staged_length va, A.fits); other = omega (arith, staged_length va, B.fits); apart = inr apart },
        record { at = λ k h. vec_at (staged TA) at (rw (staged_at va) va) k h },
        record { at = λ k h. vec_at (staged TA) room (rw (staged_room va) vb) k h },
      )

      module _ {W₃ : Bytes} (e₃ : W₃ ≡ put W₂ at (encode n (λ k. slot W₂ room k * radix_inverse q * slot W₂ at k % q))) where
        values : list n (λ k. slot (staged TA) room k * radix_inverse q * slot (staged TA) at k % q) ≡ P
        unfolding P
        values =
            sym (zip_list (λ x y. y * radix_inverse q * x % q) n (slot (staged TA) at) (slot (staged TA) room))
            ∙ ap₂ (zip (λ x y. y * radix_inverse q * x % q)) (staged_at va) (staged_room va)
            ∙ ap (λ (f : ℕ → ℕ → ℕ). zip f TA TB) (λ j x y. regroup x y (radix_inverse q) j % q)
          where
            regroup : (x y u : ℕ) → y * u * x ≡ u * (x * y)
            regroup x y u = simp (mul_assoc, mul_comm, mul_left_comm)

        three : W₃ ≡ staged P
        unfolding encode
        three = e₃ ∙ ap (λ (x : Bytes). put x at (words (list n (λ k. slot x room k * radix_inverse q * slot x at k % q)))) two ∙ ap (λ (s : List ℕ). put (staged TA) at (words s)) values ∙ restaged va vp

        pub values_node : Node q i w n n l n p W₃ at
        values_node = at_node three vp

        module _ {W₄ : Bytes} (e₄ : W₄ ≡ put W₃ at (words (untransform q w n l n (numbers n W₃ at)))) where
          four : W₄ ≡ staged U
          unfolding U
          four = e₄ ∙ ap (λ (x : Bytes). put x at (words (untransform q w n l n (numbers n x at)))) three ∙ ap (λ (s : List ℕ). put (staged P) at (words (untransform q w n l n s))) (staged_at vp) ∙ restaged vp vu

          back_node : Node q i w n n l n p W₄ at
          back_node = at_node four vu

          pub scaled_asked : (at + 8 * n ≤ length W₄) × Below q n (slot W₄ at)
          scaled_asked = (back_node.fits, record { at = λ k h. vec_at W₄ at back_node.below k h })

          pub slots_multiplied : {W₅ : Bytes} (h : ℕ) → W₅ ≡ put W₄ at (encode n (λ k. h * radix_inverse q * slot W₄ at k % q)) → Root q n w → h ≡ 2 ^ (112 - l) % q → l ≤ 11
              → W₅ ≡ put (store q n W at (mul q n (slot W at) (slot W room))) room (words (transform q w n l n (numbers n W room)))
          unfolding encode store staged TA TB P U
          slots_multiplied {W₅} h e₅ r eh small =
              e₅ ∙ ap (λ (x : Bytes). put x at (words (list n (λ k. h * radix_inverse q * slot x at k % q)))) four
              ∙ ap (λ (s : List ℕ). put (staged U) at (words s)) (sym (map_list (λ v. h * radix_inverse q * v % q) n (slot (staged U) at)) ∙ ap (map (λ v. h * radix_inverse q * v % q)) (staged_at vu))
              ∙ restaged vu (map_each {P = λ v. v < q} (λ v. h * radix_inverse q * v % q) (λ v k. mod-lt (h * radix_inverse q * v) pos) vu)
              ∙ ap (λ (s : List ℕ). put (put W at (words s)) room (words TB)) (go n A.size r A.below B.below)
            where
              go : (k : ℕ) → k ≡ two_to l → Root q k w → Vector q k (numbers k W at) → Vector q k (numbers k W room)
                  → map (λ v. h * radix_inverse q * v % q) (untransform q w k l k (zip (λ x y. radix_inverse q * (x * y) % q) (transform q w k l k (numbers k W at)) (transform q w k l k (numbers k W room))))
                  ≡ list k (modulo q (mul q k (slot W at) (slot W room)))
              go k e ρ α β = rw e (product_is l (radix_inverse q) (h * radix_inverse q) (rw e at ρ) (made_up l h A.modulus small eh) (slot W at) (slot W room) (rw e at α) (rw e at β))
