-- Equal to the papers (the second demand): two players decrypt what the key decrypts (document 000, section 6.1, Definition 1 and Theorem 1), and the digest is that of
-- FIPS 202. Over the definitions that the contracts of the exported calls cite. Assumes nothing.
use Rattle.std.specs.Prelude.{◌≡◌, ℕ, ◌*◌, ◌<◌}
use Rattle.codec.specs.Bytes.{Bytes, Octets, part}
use Rattle.codec.specs.Reply.{first, Taken}
use Rattle.codec.specs.Lists.{list}
use Rattle.keccak.specs.Steps.{lanes, offsets}
use Rattle.keccak.specs.Table.{walk}
use Rattle.keccak.specs.Keccak.{constants}
use Rattle.keccak.specs.Tables.{constant}
use Rattle.ring.specs.Poly.{Poly, plus, Alike}
use Rattle.ring.specs.Slots.{coefficient_bytes}
use Rattle.session_histories.specs.Conditions.{SheetTaken}
use Rattle.sha3.specs.Sponge.{sha3}
use Rattle.keccak_bits.specs.Sponge.{bits_of, sha3_256}
use Rattle.bgv.specs.Scheme.{Wholes, Bounded, Small, key, noise_in, decrypted, other, share, recovered_mask, reconstructed}
use Rattle.commitment.specs.Parameters.{Parameters, parameters_of}
use Rattle.scheme.specs.Orders.{encrypt_order, split_order, share_order, key_of, ciphertext_of, vote_of, split_of, share_of, vote_of_shares}

module _ (P : Parameters) where
  open P use {q, N, p, B, D, a}

  -- Deal: "computes s_1 = s - s_0 and e_1 = e - e_0 .. and computes b_i = a s_i + p e_i so that b = b_0 + b_1". What jdn_split writes
  pub record Dealt (s e s0 e0 : Poly) : Type 0 where
    pub secrets : Alike q N (plus s0 (other q s s0)) s
    pub errors : Alike q N (plus e0 (other q e e0)) e
    pub keys : Alike q N (plus (key q N p a s0 e0) (key q N p a (other q s s0) (other q e e0))) (key q N p a s e)

  -- Play: "samples bounded E_i and outputs t_i = s_i u + p E_i", as jdn_share does. The mask that a check works out from t_i is E_i, and any t is made by the mask worked out from it
  pub record Played (s u : Poly) : Type 0 where
    pub mask : (E : Wholes) → Bounded N B E → (t : Poly) → Alike q N t (share q N p s u E) → (i : ℕ) → i < N → recovered_mask q N p s u t i ≡ E i
    pub made : (t : Poly) → Alike q N (share q N p s u (recovered_mask q N p s u t)) t

  -- Rec, as in jdn_reconstruct, of what two players give is Dec, as in jdn_decrypt: for halves that add up, masks within B and noise within D
  abbrev pub Reconstructed : (s u v : Poly) → Type 0
  Reconstructed s u v = Small q N D (noise_in q N s u v)
      → (s0 s1 : Poly) → Alike q N (plus s0 s1) s
      → (E0 E1 : Wholes) → Bounded N B E0 → Bounded N B E1
      → (t0 t1 : Poly) → Alike q N t0 (share q N p s0 u E0) → Alike q N t1 (share q N p s1 u E1)
      → (i : ℕ) → i < N → reconstructed q p v t0 t1 i ≡ decrypted q N p s u v i

-- for every sheet that is taken
pub record Distributed : Type 0 where
  pub deal : (text : Bytes) → SheetTaken text → (s e s0 e0 : Poly) → Dealt (parameters_of text) s e s0 e0
  pub play : (text : Bytes) → SheetTaken text → (s u : Poly) → Played (parameters_of text) s u
  pub reconstruct : (text : Bytes) → SheetTaken text → (s u v : Poly) → Reconstructed (parameters_of text) s u v

-- Definition 1 over what the exported calls write: jdn_encrypt writes a ciphertext of m, under a key that is the sheet's b; jdn_split is lent one half of the secret and writes the other;
-- jdn_share writes a share with each half. These two shares reconstruct to m, and the secret decrypts the ciphertext to m. All four calls are taken, each lent its own room and scratch
abbrev pub DecryptsTogether : Type 0
DecryptsTogether = (text s e s0 e0 r e1 e2 m mask0 mask1 : Bytes) (room0 room1 room2 room3 scratch0 scratch1 scratch2 scratch3 : Bytes)
    → let P = parameters_of text in
    let n = 8 * P.N in
    let c = ciphertext_of text r e1 e2 m in
    let u = part c 0 n in
    let v = part c n n in
    let s1 = part (split_of text s e s0 e0) 0 n in
    key_of text s e ≡ coefficient_bytes P.q P.N P.b
    → first (encrypt_order text r e1 e2 m room0 scratch0) ≡ Taken
    → first (split_order text s e s0 e0 room1 scratch1) ≡ Taken
    → first (share_order text s0 u mask0 room2 scratch2) ≡ Taken
    → first (share_order text s1 u mask1 room3 scratch3) ≡ Taken
    → (vote_of text s c ≡ m) × (vote_of_shares text v (share_of text s0 u mask0) (share_of text s1 u mask1) ≡ m)

-- SHA3-256 is FIPS 202's, whose sections 3 to 6 are on bits: of every string of bytes
abbrev pub DigestOfBits : Type 0
DigestOfBits = (m : Bytes) → Octets m → bits_of (sha3 m) ≡ sha3_256 (bits_of m)

-- and its two tables are those that FIPS 202's rules give (3.2.2, algorithm 2, and 3.2.5, algorithms 5 and 6)
pub record TablesByRule : Type 0 where
  pub offsets_rule : walk 24 0 1 0 (lanes (λ x y. 0)) ≡ offsets
  pub constants_rule : list 24 constant ≡ constants
