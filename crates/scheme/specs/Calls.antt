-- The calls of encryption, shares, commitment and products once the sheet is taken: what each refuses after the sheet's own order (document 01, "Refused because of the input"; of products
-- document 02, L2), by the sheet's numbers k, and what it writes where it is taken, by the numbers or by all that the sheet gives. A ternary slice has N bytes and a polynomial 8N. Assumes nothing.
use Rattle.std.specs.Prelude.{not, ◌&&◌, List, [], ◌∷◌, ◌++◌, ℕ, ◌*◌, length}
use Rattle.codec.specs.Bytes.{Bytes}
use Rattle.codec.specs.Reply.{Test, test}
use Rattle.codec.specs.Lists.{list}
use Rattle.modular.specs.Roots.{is_root}
use Rattle.ring.specs.Poly.{mul}
use Rattle.ring.specs.Slots.{coefficient_bytes, poly, slot}
use Rattle.ring.specs.Ternary.{ternary}
use Rattle.sheet_numbers.specs.Plain.{plain, mask_bound_of}
use Rattle.sheet_numbers.specs.declared.Numbers.{Numbers}
use Rattle.scratch.specs.Call.{scratch_length, length_test, bytes_below, coefficients_below, coefficients}
use Rattle.bgv.specs.Scheme.{within, key, cipher_u, cipher_v, decrypted, other, lent_mask, share, reconstructed}
use Rattle.commitment.specs.Commitment.{three_of, committed, pair_bytes}
use Rattle.commitment.specs.Parameters.{Parameters}

-- ---- the tests, by the sheet's numbers

module _ (k : Numbers) where
  abbrev pub keygen_tests : (s e b scratch : Bytes) → List Test
  keygen_tests s e b scratch =
      length_test (length s ∷ length e ∷ length b ∷ length scratch ∷ []) (k.ring ∷ k.ring ∷ 8 * k.ring ∷ scratch_length ∷ [])
      ∷ test 5 0 (not (bytes_below 3 (s ∷ e ∷ [])))
      ∷ []

  abbrev pub encrypt_tests : (r e1 e2 m ciphertext scratch : Bytes) → List Test
  encrypt_tests r e1 e2 m ciphertext scratch =
      length_test (length r ∷ length e1 ∷ length e2 ∷ length m ∷ length ciphertext ∷ length scratch ∷ []) (k.ring ∷ k.ring ∷ k.ring ∷ k.ring ∷ 16 * k.ring ∷ scratch_length ∷ [])
      ∷ test 5 0 (not (bytes_below 3 (r ∷ e1 ∷ e2 ∷ []) && bytes_below (plain k) (m ∷ [])))
      ∷ []

  abbrev pub decrypt_tests : (s ciphertext vote scratch : Bytes) → List Test
  decrypt_tests s ciphertext vote scratch =
      length_test (length s ∷ length ciphertext ∷ length vote ∷ length scratch ∷ []) (k.ring ∷ 16 * k.ring ∷ k.ring ∷ scratch_length ∷ [])
      ∷ test 5 0 (not (bytes_below 3 (s ∷ []) && coefficients_below k.modulus (2 * k.ring) (ciphertext ∷ [])))
      ∷ []

  abbrev pub split_tests : (s e s0 e0 out scratch : Bytes) → List Test
  split_tests s e s0 e0 out scratch =
      length_test (length s ∷ length e ∷ length s0 ∷ length e0 ∷ length out ∷ length scratch ∷ []) (k.ring ∷ k.ring ∷ 8 * k.ring ∷ 8 * k.ring ∷ 32 * k.ring ∷ scratch_length ∷ [])
      ∷ test 5 0 (not (bytes_below 3 (s ∷ e ∷ []) && coefficients_below k.modulus k.ring (s0 ∷ e0 ∷ [])))
      ∷ []

  abbrev pub share_tests : (key-share u mask t scratch : Bytes) → List Test
  share_tests key-share u mask t scratch =
      length_test (length key-share ∷ length u ∷ length mask ∷ length t ∷ length scratch ∷ []) (8 * k.ring ∷ 8 * k.ring ∷ 8 * k.ring ∷ 8 * k.ring ∷ scratch_length ∷ [])
      ∷ test 5 0 (not (coefficients_below k.modulus k.ring (key-share ∷ u ∷ [])))
      ∷ test 12 0 (not (within (mask_bound_of k) k.ring (lent_mask mask)))
      ∷ []

  abbrev pub reconstruct_tests : (v t0 t1 vote scratch : Bytes) → List Test
  reconstruct_tests v t0 t1 vote scratch =
      length_test (length v ∷ length t0 ∷ length t1 ∷ length vote ∷ length scratch ∷ []) (8 * k.ring ∷ 8 * k.ring ∷ 8 * k.ring ∷ k.ring ∷ scratch_length ∷ [])
      ∷ test 5 0 (not (coefficients_below k.modulus k.ring (v ∷ t0 ∷ t1 ∷ [])))
      ∷ []

  -- r is r1, r2, r3 in 3N ternary bytes
  abbrev pub commitment_tests : (m r pair scratch : Bytes) → List Test
  commitment_tests m r pair scratch =
      length_test (length m ∷ length r ∷ length pair ∷ length scratch ∷ []) (8 * k.ring ∷ 3 * k.ring ∷ 16 * k.ring ∷ scratch_length ∷ [])
      ∷ test 5 0 (not (bytes_below 3 (r ∷ []) && coefficients_below k.modulus k.ring (m ∷ [])))
      ∷ []

  -- of a product x y, by either method: its lengths and its ranges
  abbrev product_lengths : (x y product scratch : Bytes) → Test
  product_lengths x y product scratch =
      length_test (length x ∷ length y ∷ length product ∷ length scratch ∷ []) (8 * k.ring ∷ 8 * k.ring ∷ 8 * k.ring ∷ scratch_length ∷ [])

  abbrev product_ranges : (x y : Bytes) → Test
  product_ranges x y = test 5 0 (not (coefficients_below k.modulus k.ring (x ∷ y ∷ [])))

  -- by the plain method
  abbrev pub product_tests : (x y product scratch : Bytes) → List Test
  product_tests x y product scratch = product_lengths x y product scratch ∷ product_ranges x y ∷ []

  -- and by transforms, with a lent root: 37 "tested after 1 and before 5"
  abbrev pub multiply_tests : (x y : Bytes) (root : ℕ) (product scratch : Bytes) → List Test
  multiply_tests x y root product scratch =
      product_lengths x y product scratch
      ∷ test 37 0 (not (is_root k.modulus k.ring root))
      ∷ product_ranges x y
      ∷ []

-- ---- what is written, by the sheet's numbers alone

module _ (k : Numbers) where
  -- the vote, one byte a coefficient
  unfoldable pub decrypt_writes : (s ciphertext : Bytes) → Bytes
  decrypt_writes s ciphertext =
      list k.ring (decrypted k.modulus k.ring (plain k) (ternary k.modulus s) (slot ciphertext 0) (slot ciphertext (8 * k.ring)))

  -- t
  unfoldable pub share_writes : (key-share u mask : Bytes) → Bytes
  share_writes key-share u mask = coefficient_bytes k.modulus k.ring (share k.modulus k.ring (plain k) (poly key-share) (poly u) (lent_mask mask))

  -- the vote of two shares
  unfoldable pub reconstruct_writes : (v t0 t1 : Bytes) → Bytes
  reconstruct_writes v t0 t1 = list k.ring (reconstructed k.modulus (plain k) (poly v) (poly t0) (poly t1))

  -- x y, by either method
  unfoldable pub product_writes : (x y : Bytes) → Bytes
  product_writes x y = coefficient_bytes k.modulus k.ring (mul k.modulus k.ring (poly x) (poly y))

-- ---- and by its polynomials too

module _ (P : Parameters) where
  open P use {q, N, p, a, b, k}

  -- b
  unfoldable pub keygen_writes : (s e : Bytes) → Bytes
  keygen_writes s e = coefficient_bytes q N (key q N p a (ternary q s) (ternary q e))

  -- u, v
  unfoldable pub encrypt_writes : (r e1 e2 m : Bytes) → Bytes
  encrypt_writes r e1 e2 m =
      coefficient_bytes q N (cipher_u q N p a (ternary q r) (ternary q e1)) ++ coefficient_bytes q N (cipher_v q N p b (ternary q r) (ternary q e2) (coefficients m))

  -- s1, e1, b0, b1
  unfoldable pub split_writes : (s e s0 e0 : Bytes) → Bytes
  split_writes s e s0 e0 =
      coefficient_bytes q N (other q (ternary q s) (poly s0))
      ++ (coefficient_bytes q N (other q (ternary q e) (poly e0))
      ++ (coefficient_bytes q N (key q N p a (poly s0) (poly e0))
      ++ coefficient_bytes q N (key q N p a (other q (ternary q s) (poly s0)) (other q (ternary q e) (poly e0)))))

  -- the pair, first half first
  unfoldable pub commitment_writes : (m r : Bytes) → Bytes
  commitment_writes m r = pair_bytes q N (committed q N k (three_of q N r) (poly m))
