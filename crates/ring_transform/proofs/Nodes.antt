-- The recursive functions by what they ask: from a node to its two children, and what their work comes to. Assumes nothing.
use mathlib.Core.Path.{◌≡◌, refl, sym, ap, ap₂, ◌∙◌}
use mathlib.Core.List.{List}
use Prim.Native.Nat.{ℕ, suc, ◌+◌, ◌-◌, ◌*◌, ◌/◌, ◌^◌, ◌≤◌, ◌<◌}
use native.Mathlib.Omega.{arith}
use lib.ListN.{length, get_or}
use Rattle.codec.specs.Bytes.{Bytes, words, put}
use Rattle.montgomery.specs.Internal.{Modulus, radix_inverse}
use Rattle.vector.specs.Internal.{Vector}
use Rattle.ring_transform.specs.Internal.{numbers, two_to, level, transform, united, untransform, Node}
use Rattle.ring_transform.proofs.Steps.{positive, size_is, root_is, root_below, level_same, united_same, leaf, low_vec, first_length, second_length, high_vec, made}
use Rattle.ring_transform.proofs.Steps.{leaf_back, low_half_vec, back_length, upper_vec, both_length, both_vec, made_back}

module _ {q i w n m l e : ℕ} {p : List ℕ} {W : Bytes} {at : ℕ} (N : Node q i w n m l e p W at) where
  half_is : two_to (l - 1) ≡ m / 2
  half_is = (size_is l m N.deep N.size).0

  halves_are : m ≡ m / 2 + m / 2
  halves_are = (size_is l m N.deep N.size).1

  pos : 0 < q
  pos = positive N.modulus

  fits_halves : at + 8 * (m / 2 + m / 2) ≤ length W
  fits_halves = omega (arith, halves_are, N.fits)

  row_below : Vector q (m / 2 + m / 2) (numbers (m / 2 + m / 2) W at)
  row_below = go m halves_are N.below
    where
      go : (k : ℕ) → k ≡ m / 2 + m / 2 → Vector q k (numbers k W at) → Vector q (m / 2 + m / 2) (numbers (m / 2 + m / 2) W at)
      go k e v = rw e at v

  -- the result by l and m in place of l - 1 and m / 2
  renamed : (f : (l e : ℕ) → List ℕ → List ℕ) → put W at (words (f (suc (l - 1)) e (numbers (m / 2 + m / 2) W at))) ≡ put W at (words (f l e (numbers m W at)))
  renamed f =
      let d : suc (l - 1) ≡ l = omega (arith, N.deep) in
      ap₂ (λ (k j : ℕ). put W at (words (f k e (numbers j W at)))) d (sym halves_are)

  child : {U : Bytes} (f to : ℕ) → (l ≡ 1 → ⊥) → f < n + n → to + 8 * (m / 2) ≤ length U → Vector q (m / 2) (numbers (m / 2) U to) → Node q i w n (m / 2) (l - 1) f p U to
  child f to d h fits v = record { modulus = N.modulus; table = N.table; ring_high = N.ring_high; power = h; deep = omega (arith, N.deep); size = sym half_is; fits = fits; below = v }

  -- ---- the transform

  pub level_asked : Modulus q i × (get_or p (e / 2) 0 < q) × (at + 8 * (m / 2 + m / 2) ≤ length W) × Vector q (m / 2 + m / 2) (numbers (m / 2 + m / 2) W at)
  level_asked = (N.modulus, root_below (e / 2) N.modulus N.table (omega (arith, N.power)), fits_halves, row_below)

  module _ {W₁ : Bytes} (e₁ : W₁ ≡ put W at (words (level q (get_or p (e / 2) 0 * radix_inverse q) (m / 2) (numbers (m / 2 + m / 2) W at)))) where
    by_root : W₁ ≡ put W at (words (level q (w ^ (e / 2)) (m / 2) (numbers (m / 2 + m / 2) W at)))
    by_root =
        e₁ ∙ ap (λ (s : List ℕ). put W at (words s))
        (level_same (get_or p (e / 2) 0 * radix_inverse q) (w ^ (e / 2)) (m / 2) (numbers (m / 2 + m / 2) W at) (root_is (e / 2) N.modulus N.table (omega (arith, N.power))))

    pub node_leaf : l ≡ 1 → W₁ ≡ put W at (words (transform q w n l e (numbers m W at)))
    node_leaf z = leaf w n e (l - 1) (m / 2) W at half_is pos N.modulus.small fits_halves row_below by_root (omega arith) ∙ renamed (transform q w n)

    pub node_low : (l ≡ 1 → ⊥) → Node q i w n (m / 2) (l - 1) (e / 2) p W₁ at
    node_low d =
        let z = first_length w n e (l - 1) (m / 2) W at half_is pos N.modulus.small fits_halves row_below by_root in
        child (e / 2) at d (omega (arith, N.power)) (omega (arith, fits_halves)) (low_vec w n e (l - 1) (m / 2) W at half_is pos N.modulus.small fits_halves row_below by_root)

    module _ {W₂ : Bytes} (e₂ : W₂ ≡ put W₁ at (words (transform q w n (l - 1) (e / 2) (numbers (m / 2) W₁ at)))) where
      pub node_high : (l ≡ 1 → ⊥) → Node q i w n (m / 2) (l - 1) (e / 2 + n) p W₂ (at + 8 * (m / 2))
      node_high d =
          let z = second_length w n e (l - 1) (m / 2) W at half_is pos N.modulus.small fits_halves row_below by_root e₂ in
          child (e / 2 + n) (at + 8 * (m / 2)) d (omega (arith, N.power)) (omega (arith, fits_halves))
          (high_vec w n e (l - 1) (m / 2) W at half_is pos N.modulus.small fits_halves row_below by_root e₂)

      pub node_whole : {W₃ : Bytes} → W₃ ≡ put W₂ (at + 8 * (m / 2)) (words (transform q w n (l - 1) (e / 2 + n) (numbers (m / 2) W₂ (at + 8 * (m / 2))))) → W₃ ≡ put W at (words (transform q w n l e (numbers m W at)))
      node_whole e₃ = made w n e (l - 1) (m / 2) W at half_is pos N.modulus.small fits_halves row_below by_root e₂ e₃ ∙ renamed (transform q w n)

  -- ---- and back

  back_asked : (U : Bytes) → length U ≡ length W → Vector q (m / 2 + m / 2) (numbers (m / 2 + m / 2) U at)
      → Modulus q i × (get_or p (n - e / 2) 0 < q) × (at + 8 * (m / 2 + m / 2) ≤ length U) × Vector q (m / 2 + m / 2) (numbers (m / 2 + m / 2) U at)
  back_asked U z v = (N.modulus, root_below (n - e / 2) N.modulus N.table (omega arith), omega (arith, fits_halves), v)

  pub back_leaf_asked : Modulus q i × (get_or p (n - e / 2) 0 < q) × (at + 8 * (m / 2 + m / 2) ≤ length W) × Vector q (m / 2 + m / 2) (numbers (m / 2 + m / 2) W at)
  back_leaf_asked = back_asked W refl row_below

  by_inverse : {U₁ : Bytes} (U : Bytes) (u v : List ℕ) → U₁ ≡ put U at (words (united q (get_or p (n - e / 2) 0 * radix_inverse q) u v)) → U₁ ≡ put U at (words (united q (w ^ (n - e / 2)) u v))
  by_inverse U u v e₁ =
      e₁ ∙ ap (λ (s : List ℕ). put U at (words s)) (united_same (get_or p (n - e / 2) 0 * radix_inverse q) (w ^ (n - e / 2)) u v (root_is (n - e / 2) N.modulus N.table (omega arith)))

  pub back_leaf : {W₁ : Bytes} → l ≡ 1 → W₁ ≡ put W at (words (united q (get_or p (n - e / 2) 0 * radix_inverse q) (numbers (m / 2) W at) (numbers (m / 2) W (at + 8 * (m / 2))))) → W₁ ≡ put W at (words (untransform q w n l e (numbers m W at)))
  back_leaf z e₁ =
      leaf_back w n e (l - 1) (m / 2) W at half_is pos N.modulus.small fits_halves row_below (omega arith) (by_inverse W (numbers (m / 2) W at) (numbers (m / 2) W (at + 8 * (m / 2))) e₁)
      ∙ renamed (untransform q w n)

  pub back_low : (l ≡ 1 → ⊥) → Node q i w n (m / 2) (l - 1) (e / 2) p W at
  back_low d = child (e / 2) at d (omega (arith, N.power)) (omega (arith, fits_halves)) (low_half_vec w n e (l - 1) (m / 2) W at half_is pos N.modulus.small fits_halves row_below)

  module _ {W₁ : Bytes} (e₁ : W₁ ≡ put W at (words (untransform q w n (l - 1) (e / 2) (numbers (m / 2) W at)))) where
    pub back_high : (l ≡ 1 → ⊥) → Node q i w n (m / 2) (l - 1) (e / 2 + n) p W₁ (at + 8 * (m / 2))
    back_high d =
        let z = back_length w n e (l - 1) (m / 2) W at half_is pos N.modulus.small fits_halves row_below e₁ in
        child (e / 2 + n) (at + 8 * (m / 2)) d (omega (arith, N.power)) (omega (arith, fits_halves))
        (upper_vec w n e (l - 1) (m / 2) W at half_is pos N.modulus.small fits_halves row_below e₁)

    module _ {W₂ : Bytes} (e₂ : W₂ ≡ put W₁ (at + 8 * (m / 2)) (words (untransform q w n (l - 1) (e / 2 + n) (numbers (m / 2) W₁ (at + 8 * (m / 2)))))) where
      pub back_whole_asked : Modulus q i × (get_or p (n - e / 2) 0 < q) × (at + 8 * (m / 2 + m / 2) ≤ length W₂) × Vector q (m / 2 + m / 2) (numbers (m / 2 + m / 2) W₂ at)
      back_whole_asked =
          back_asked W₂ (both_length w n e (l - 1) (m / 2) W at half_is pos N.modulus.small fits_halves row_below e₁ e₂)
          (both_vec w n e (l - 1) (m / 2) W at half_is pos N.modulus.small fits_halves row_below e₁ e₂)

      pub back_whole : {W₃ : Bytes} → W₃ ≡ put W₂ at (words (united q (get_or p (n - e / 2) 0 * radix_inverse q) (numbers (m / 2) W₂ at) (numbers (m / 2) W₂ (at + 8 * (m / 2))))) → W₃ ≡ put W at (words (untransform q w n l e (numbers m W at)))
      back_whole e₃ =
          made_back w n e (l - 1) (m / 2) W at half_is pos N.modulus.small fits_halves row_below e₁ e₂ (by_inverse W₂ (numbers (m / 2) W₂ at) (numbers (m / 2) W₂ (at + 8 * (m / 2))) e₃)
          ∙ renamed (untransform q w n)
