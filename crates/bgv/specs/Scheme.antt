-- BGV encryption and its distributed decryption (document 000, sections 5.3 and 6.1; document 01, "Ring and scheme" and "One round"), with N, q and the
-- plaintext modulus p as parameters. A polynomial's coefficients count modulo q. Assumes nothing.
use Rattle.std.specs.Prelude.{ℕ, suc, ◌≤◌, ◌<◌, Bool, ℤ, nat_abs}
use Rattle.codec.specs.Bytes.{Bytes, signed}
use Rattle.codec.specs.Lists.{list, all_below}
use Rattle.modular.specs.Modulo.{centre, remainder}
use Rattle.modular.specs.Division.{divide}
use Rattle.ring.specs.Poly.{Poly, plus, minus, scale, mul}
use Rattle.ring.specs.Slots.{poly}

-- a x + p y: a product with p times an error. Keys, ciphertexts and decryption shares have this form
unfoldable pub noisy : (q N p : ℕ) (a x y : Poly) → Poly
noisy q N p a x y = plus (mul q N a x) (scale p y)

-- ---- whole numbers, one for each coefficient

abbrev pub Wholes : Type 0
Wholes = ℕ → ℤ

-- the centred coefficients of a polynomial
abbrev pub centred : ℕ → Poly → Wholes
centred q a = λ k. centre q (a k)

-- the polynomial that whole numbers stand for
abbrev pub residues : ℕ → Wholes → Poly
residues q E = λ k. remainder q (E k)

-- each of the first N is at most K in size
pub record Bounded (N K : ℕ) (E : Wholes) : Type 0 where
  pub at : (k : ℕ) → k < N → nat_abs (E k) ≤ K

-- the same as a test
unfoldable pub within : (K N : ℕ) → Wholes → Bool
within K N E = all_below (suc K) (list N (λ k. nat_abs (E k)))

-- every centred coefficient is at most K in size; K = 1 is short
abbrev pub Small : (q N K : ℕ) → Poly → Type 0
Small q N K a = Bounded N K (centred q a)

-- ---- key, encryption, decryption (section 5.3)

-- b = a s + p e
abbrev pub key : (q N p : ℕ) (a s e : Poly) → Poly
key q N p a s e = noisy q N p a s e

-- u = a r + p e'
abbrev pub cipher_u : (q N p : ℕ) (a r e' : Poly) → Poly
cipher_u q N p a r e' = noisy q N p a r e'

-- v = b r + p e'' + m
unfoldable pub cipher_v : (q N p : ℕ) (b r e'' m : Poly) → Poly
cipher_v q N p b r e'' m = plus (noisy q N p b r e'') m

-- v - s u. Its centred coefficients are the noise of the ciphertext (u, v)
unfoldable pub noise_in : (q N : ℕ) (s u v : Poly) → Poly
noise_in q N s u v = minus q v (mul q N s u)

-- the remainder by p of the centred coefficients, never negative
unfoldable pub plaintext : (q p : ℕ) → Poly → Poly
plaintext q p w = λ k. remainder p (centre q (w k))

abbrev pub decrypted : (q N p : ℕ) (s u v : Poly) → Poly
decrypted q N p s u v = plaintext q p (noise_in q N s u v)

-- ---- distributed decryption (section 6.1)

-- the half of s or of e that is left when x0 is taken: x1 = x - x0
abbrev pub other : ℕ → Poly → Poly → Poly
other q x x0 = minus q x x0

-- a lent mask: signed 64-bit numbers, bounded as they are, uncentred
abbrev pub lent_mask : Bytes → Wholes
lent_mask mask = λ k. signed (poly mask k)

-- t = s_i u + p E, for a lent mask E of whole numbers
abbrev pub share : (q N p : ℕ) (s u : Poly) → Wholes → Poly
share q N p s u E = noisy q N p s u (residues q E)

-- the mask worked out from a share t: (t - s_i u) / p modulo q, then centred
unfoldable pub recovered_mask : (q N p : ℕ) (s u t : Poly) → Wholes
recovered_mask q N p s u t = λ k. centre q (divide q p (minus q t (mul q N s u) k))

-- v - t0 - t1
unfoldable pub rebuilt : (q : ℕ) (v t0 t1 : Poly) → Poly
rebuilt q v t0 t1 = minus q (minus q v t0) t1

abbrev pub reconstructed : (q p : ℕ) (v t0 t1 : Poly) → Poly
reconstructed q p v t0 t1 = plaintext q p (rebuilt q v t0 t1)
