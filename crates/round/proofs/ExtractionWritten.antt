-- What the extractor writes: the bytes of the vector, or ternary bytes that stand for the key, or zeros. Assumes nothing.
use mathlib.Core.Path.{◌≡◌, ap, ◌∙◌}
use mathlib.Core.Logic.{◌⊎◌, inl, inr}
use mathlib.Core.Bool.{Bool, true, false, cond}
use mathlib.Core.List.{◌++◌}
use Prim.Native.Nat.{ℕ, ◌-◌, ◌*◌, ◌/◌, ◌%◌, ◌^◌, ◌≤◌, ◌<◌}
use native.Mathlib.Nat.{mod-lt}
use native.Mathlib.Decide.{dec_le, ℕ_discrete}
use native.Mathlib.Omega.{arith}
use borrow.Author.Tests.{lt-ltb, ne_eqb}
use lib.Dec.{ltb, eqb}
use lib.IntN.{nat_abs}
use lib.ListN.{length, length-append, length-replicate}
use Rattle.codec.specs.Bytes.{Bytes, part, zeros}
use Rattle.codec.specs.Reply.{None}
use Rattle.codec.specs.Lists.{all_below}
use Rattle.codec.proofs.Lists.{length_list, get_d_list}
use Rattle.modular.specs.Modulo.{centre}
use Rattle.modular.proofs.Congruence.{same_eq, ◌then◌, same_mod}
use Rattle.modular.proofs.Centring.{centre_low, centre_high}
use Rattle.ring.specs.Poly.{Poly, Alike}
use Rattle.ring.specs.Ternary.{ternary}
use Rattle.ring.proofs.Bridge.{length_encode}
use Rattle.ring.proofs.Ranges.{below_complete}
use Rattle.ring.proofs.Sizes.{ternary_value}
use Rattle.bgv.specs.Scheme.{Small}
use Rattle.bgv.specs.Internal.{Sound}
use Rattle.commitment.specs.Commitment.{Three}
use Rattle.stern.specs.Shortness.{polynomial}
use Rattle.stern.proofs.Layouts.{three_read}
use Rattle.commitment.specs.Parameters.{Parameters}
use Rattle.round.specs.Extractor.{Openings, Lent, three_bytes, ternary_bytes, extract_tests, unknowns, vector_s, vector_e, kind, extracted, ShortVector, Key, Found, collision1, collision2, collision3, short_s, short_e, secret}
use Rattle.round.proofs.Extraction.{extraction}

-- ---- ternary bytes of short numbers

-- the byte of one number
abbrev byte : ℕ → ℕ
byte v = cond (eqb v 1) 1 (cond (eqb v 0) 0 2)

byte_below : (v : ℕ) → byte v < 3
byte_below v = go (eqb v 1) (eqb v 0)
  where
    go : (b c : Bool) → cond b 1 (cond c 0 2) < 3
    go true c = omega arith
    go false true = omega arith
    go false false = omega arith

module _ (q : ℕ) (three : 2 < q) where
  -- a number of centred size at most 1 is 0, 1 or -1
  short_value : (v : ℕ) → nat_abs (centre q v) ≤ 1 → (v % q ≡ 0) ⊎ (v % q ≡ 1) ⊎ (v % q ≡ q - 1)
  short_value v h = go (dec_le (v % q) ((q - 1) / 2))
    where
      low : v % q ≤ 1 → Dec (v % q ≡ 0) → (v % q ≡ 0) ⊎ (v % q ≡ 1) ⊎ (v % q ≡ q - 1)
      low l (yes e) = inl e
      low l (no e) = inr (inl (omega arith))

      go : Dec (v % q ≤ (q - 1) / 2) → (v % q ≡ 0) ⊎ (v % q ≡ 1) ⊎ (v % q ≡ q - 1)
      go (yes l) = low (rw (centre_low q v (omega arith) l) at h) (ℕ_discrete (v % q) 0)
      go (no l) = let g = rw (centre_high q v (omega arith) (omega arith)) at h in inr (inr (omega (arith, mod-lt v {m = q} (omega arith))))

  -- its byte means it
  byte_means : (w : ℕ) → (w ≡ 0) ⊎ (w ≡ 1) ⊎ (w ≡ q - 1) → cond (eqb (byte w) 1) 1 (cond (eqb (byte w) 2) (q - 1) 0) ≡ w
  byte_means w (inl e) = rw e
  byte_means w (inr (inl e)) = rw e
  byte_means w (inr (inr e)) = rw (e, ne_eqb (q - 1) 1 (λ f. omega arith), ne_eqb (q - 1) 0 (λ f. omega arith))

  module _ (N : ℕ) (f : Poly) where
    pub ternary_bytes_below : all_below 3 (ternary_bytes q N f) ≡ true
    ternary_bytes_below = below_complete 3 N (λ i. byte (f i % q)) (record { at = λ i l. byte_below (f i % q) })

    pub ternary_bytes_means : Small q N 1 f → Alike q N (ternary q (ternary_bytes q N f)) f
    ternary_bytes_means small = record {
      at = λ i l.
          same_eq (ternary_value q (ternary_bytes q N f) i (omega arith)
          ∙ ap (λ (c : ℕ). cond (eqb c 1) 1 (cond (eqb c 2) (q - 1) 0)) (get_d_list N (λ j. byte (f j % q)) i l)
          ∙ byte_means (f i % q) (short_value (f i) (small.at i l)))
          then same_mod;
    }

-- ---- by the kind

module _ (P : Parameters) (m : ℕ) (x : Openings) where
  open P use {q, N, p, D, B}

  abbrev f : Poly
  f = polynomial N (unknowns P m x) 0

  abbrev g : Poly
  g = polynomial N (unknowns P m x) 1

  -- always 24N bytes
  pub length_extracted : length (extracted P m x) ≡ 24 * N
  unfolding extracted
  length_extracted = go (ltb (kind P m x) 4) (ltb (kind P m x) 5) (ltb (kind P m x) 6)
    where
      vector : (r : Three) → length (three_bytes q N r) ≡ 24 * N
      vector r = simp (length-append, length_encode) (omega arith)

      key : length (ternary_bytes q N f ++ (ternary_bytes q N g ++ zeros (22 * N))) ≡ 24 * N
      key = simp (length-append, length_list, length-replicate) (omega arith)

      go : (b4 b5 b6 : Bool) → length (cond b4 (zeros (24 * N)) (cond b5 (three_bytes q N (vector_s P m x)) (cond b6 (three_bytes q N (vector_e P m x))
          (ternary_bytes q N f ++ (ternary_bytes q N g ++ zeros (22 * N)))))) ≡ 24 * N
      go true b5 b6 = length-replicate {A = ℕ} (24 * N) 0
      go false true b6 = vector (vector_s P m x)
      go false false true = vector (vector_e P m x)
      go false false false = key

  pub collision_written : kind P m x < 4 → extracted P m x ≡ zeros (24 * N)
  unfolding extracted
  collision_written h = rw (lt-ltb (kind P m x) 4 h)

  pub vector_s_written : kind P m x ≡ 4 → extracted P m x ≡ three_bytes q N (vector_s P m x)
  unfolding extracted
  vector_s_written e = rw e

  pub vector_e_written : kind P m x ≡ 5 → extracted P m x ≡ three_bytes q N (vector_e P m x)
  unfolding extracted
  vector_e_written e = rw e

  key_bytes_lem : kind P m x ≡ 6 → extracted P m x ≡ ternary_bytes q N f ++ (ternary_bytes q N g ++ zeros (22 * N))
  unfolding extracted
  key_bytes_lem e = rw e

  -- what is found is what the kind says
  pub found_vector_s : {n : ℕ} → Found P m x n → n ≡ 4 → ShortVector P m x (vector_s P m x)
  found_vector_s (collision1 c) e = absurd (omega arith)
  found_vector_s (collision2 c) e = absurd (omega arith)
  found_vector_s (collision3 c) e = absurd (omega arith)
  found_vector_s (short_s v) e = v
  found_vector_s (short_e v) e = absurd (omega arith)
  found_vector_s (secret y) e = absurd (omega arith)

  pub found_vector_e : {n : ℕ} → Found P m x n → n ≡ 5 → ShortVector P m x (vector_e P m x)
  found_vector_e (collision1 c) e = absurd (omega arith)
  found_vector_e (collision2 c) e = absurd (omega arith)
  found_vector_e (collision3 c) e = absurd (omega arith)
  found_vector_e (short_s v) e = absurd (omega arith)
  found_vector_e (short_e v) e = v
  found_vector_e (secret y) e = absurd (omega arith)

  pub found_secret : {n : ℕ} → Found P m x n → n ≡ 6 → Key P m x f g
  found_secret (collision1 c) e = absurd (omega arith)
  found_secret (collision2 c) e = absurd (omega arith)
  found_secret (collision3 c) e = absurd (omega arith)
  found_secret (short_s v) e = absurd (omega arith)
  found_secret (short_e v) e = absurd (omega arith)
  found_secret (secret y) e = y

  -- ternary bytes that stand for the extracted s and e, and then zeros
  pub record KeyWritten : Type 0 where
    pub ternary_s : all_below 3 (part (extracted P m x) 0 N) ≡ true
    pub ternary_e : all_below 3 (part (extracted P m x) N N) ≡ true
    pub means_s : Alike q N (ternary q (part (extracted P m x) 0 N)) f
    pub means_e : Alike q N (ternary q (part (extracted P m x) N N)) g
    pub rest : part (extracted P m x) (2 * N) (22 * N) ≡ zeros (22 * N)

  pub key_written : 2 < q → q ≤ 2 ^ 64 → Lent P m x → None (extract_tests P m x) → Sound q p D B → kind P m x ≡ 6 → KeyWritten
  key_written three fits lent none ok e =
      let found = found_secret (extraction P m x three fits lent none ok) e in
      let r = three_read N N (22 * N) (2 * N) (omega arith) (ternary_bytes q N f) (ternary_bytes q N g) (zeros (22 * N)) (length_list N _) (length_list N _) (length-replicate {A = ℕ} (22 * N) 0) in
      let w : extracted P m x ≡ ternary_bytes q N f ++ (ternary_bytes q N g ++ zeros (22 * N)) = key_bytes_lem e in
      let first : part (extracted P m x) 0 N ≡ ternary_bytes q N f = ap (λ (s : Bytes). part s 0 N) w ∙ r.0 in
      let second : part (extracted P m x) N N ≡ ternary_bytes q N g = ap (λ (s : Bytes). part s N N) w ∙ r.1 in
      record {
        ternary_s = rw first (ternary_bytes_below q three N f);
        ternary_e = rw second (ternary_bytes_below q three N g);
        means_s = rw first (ternary_bytes_means q three N f found.short_s);
        means_e = rw second (ternary_bytes_means q three N g found.short_e);
        rest = ap (λ (s : Bytes). part s (2 * N) (22 * N)) w ∙ r.2;
      }
