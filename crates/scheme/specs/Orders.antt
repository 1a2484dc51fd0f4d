-- The calls of encryption, shares, commitment and products over the sheet and lent bytes: the order of each, which is the sheet's own and then that of the call (document 01, "Refused because of the
-- input"; document 02, L2), and what each writes where it is taken. Assumes nothing.
use Rattle.std.specs.Prelude.{List, ◌++◌, ℕ}
use Rattle.codec.specs.Bytes.{Bytes}
use Rattle.codec.specs.Reply.{Test}
use Rattle.sheet.specs.Reader.{sheet_of}
use Rattle.sheet.specs.Sheet.{order}
use Rattle.commitment.specs.Parameters.{parameters_of}
use Rattle.scheme.specs.Calls.{keygen_tests, encrypt_tests, decrypt_tests, split_tests, share_tests, reconstruct_tests, commitment_tests, product_tests, multiply_tests}
use Rattle.scheme.specs.Calls.{keygen_writes, encrypt_writes, decrypt_writes, split_writes, share_writes, reconstruct_writes, commitment_writes, product_writes}

module _ (text : Bytes) where
  abbrev pub keygen_order : (s e b scratch : Bytes) → List Test
  keygen_order s e b scratch = order text ++ keygen_tests (sheet_of text).numbers s e b scratch

  abbrev pub encrypt_order : (r e1 e2 m ciphertext scratch : Bytes) → List Test
  encrypt_order r e1 e2 m ciphertext scratch = order text ++ encrypt_tests (sheet_of text).numbers r e1 e2 m ciphertext scratch

  abbrev pub decrypt_order : (s ciphertext vote scratch : Bytes) → List Test
  decrypt_order s ciphertext vote scratch = order text ++ decrypt_tests (sheet_of text).numbers s ciphertext vote scratch

  abbrev pub split_order : (s e s0 e0 out scratch : Bytes) → List Test
  split_order s e s0 e0 out scratch = order text ++ split_tests (sheet_of text).numbers s e s0 e0 out scratch

  abbrev pub share_order : (half u mask t scratch : Bytes) → List Test
  share_order half u mask t scratch = order text ++ share_tests (sheet_of text).numbers half u mask t scratch

  abbrev pub reconstruct_order : (v t0 t1 vote scratch : Bytes) → List Test
  reconstruct_order v t0 t1 vote scratch = order text ++ reconstruct_tests (sheet_of text).numbers v t0 t1 vote scratch

  abbrev pub commitment_order : (m r pair scratch : Bytes) → List Test
  commitment_order m r pair scratch = order text ++ commitment_tests (sheet_of text).numbers m r pair scratch

  abbrev pub product_order : (x y product scratch : Bytes) → List Test
  product_order x y product scratch = order text ++ product_tests (sheet_of text).numbers x y product scratch

  abbrev pub multiply_order : (x y : Bytes) (root : ℕ) (product scratch : Bytes) → List Test
  multiply_order x y root product scratch = order text ++ multiply_tests (sheet_of text).numbers x y root product scratch

  abbrev pub key_of : (s e : Bytes) → Bytes
  key_of s e = keygen_writes (parameters_of text) s e

  abbrev pub ciphertext_of : (r e1 e2 m : Bytes) → Bytes
  ciphertext_of r e1 e2 m = encrypt_writes (parameters_of text) r e1 e2 m

  abbrev pub vote_of : (s ciphertext : Bytes) → Bytes
  vote_of s ciphertext = decrypt_writes (sheet_of text).numbers s ciphertext

  abbrev pub split_of : (s e s0 e0 : Bytes) → Bytes
  split_of s e s0 e0 = split_writes (parameters_of text) s e s0 e0

  abbrev pub share_of : (half u mask : Bytes) → Bytes
  share_of half u mask = share_writes (sheet_of text).numbers half u mask

  abbrev pub vote_of_shares : (v t0 t1 : Bytes) → Bytes
  vote_of_shares v t0 t1 = reconstruct_writes (sheet_of text).numbers v t0 t1

  abbrev pub commitment_of : (m r : Bytes) → Bytes
  commitment_of m r = commitment_writes (parameters_of text) m r

  abbrev pub product_of : (x y : Bytes) → Bytes
  product_of x y = product_writes (sheet_of text).numbers x y
