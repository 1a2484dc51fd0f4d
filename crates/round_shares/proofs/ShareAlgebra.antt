-- The shares and the claim of a ballot from two products: the product is bilinear, so s1 u is s u - s0 u. Assumes nothing.
use mathlib.Core.Path.{◌≡◌, sym, ap, ◌∙◌}
use Prim.Native.Nat.{ℕ, ◌+◌, ◌-◌, ◌*◌, ◌≤◌}
use native.Mathlib.Omega.{arith}
use lib.ListN.{length, take, drop}
use Rattle.codec.specs.Bytes.{Bytes, part, put}
use Rattle.codec.specs.Lists.{list}
use Rattle.codec.proofs.Lists.{list_cong}
use Rattle.modular.specs.Modulo.{remainder}
use Rattle.ring.specs.Poly.{Poly, plus, minus, scale, mul, modulo, Alike}
use Rattle.ring.specs.Slots.{coefficient_bytes, poly, slot, encode}
use Rattle.ring.specs.Ternary.{ternary}
use Rattle.ring.proofs.Bridge.{encode_alike}
use Rattle.ring.proofs.Polynomials.{minus_mul, alike_eq, alike_refl, ◌so◌, alike_plus, alike_minus}
use Rattle.bgv.specs.Scheme.{Wholes, noisy, residues, noise_in, plaintext, decrypted, other, lent_mask, share}
use Rattle.bgv.proofs.Form.{noisy_alike, noise_alike}
use Rattle.round.proofs.Compared.{lent_alike}
use Rattle.round.proofs.ExtractionSizes.{same_centre}
use Rattle.round_head.proofs.Joining.{cut}

-- what a vote goes by: coefficients modulo q
pub plain_alike : {q n : ℕ} (p : ℕ) {f g : Poly} → Alike q n f g → list n (plaintext q p f) ≡ list n (plaintext q p g)
unfolding plaintext
plain_alike {q} {n} p e = list_cong n (λ k l. ap (remainder p) (same_centre (e.at k l)))

module _ (q n p : ℕ) (s s0 u : Poly) where
  -- t0, from what is s0 u modulo q
  pub lent_share : (E : Wholes) {y : Poly} → Alike q n y (mul q n s0 u) → encode n (modulo q (plus y (scale p (residues q E)))) ≡ encode n (modulo q (share q n p s0 u E))
  unfolding noisy
  lent_share E h = encode_alike (alike_plus h alike_refl)

  module _ {x : Poly} (g : Alike q n x (mul q n s u)) where
    -- t1, from what is s u and what is s0 u
    pub other_share : (E : Wholes) {y : Poly} → Alike q n y (mul q n s0 u)
        → encode n (modulo q (plus (minus q x y) (scale p (residues q E)))) ≡ encode n (modulo q (share q n p (other q s s0) u E))
    unfolding noisy
    other_share E h = encode_alike (alike_plus (alike_minus g h so alike_eq (sym (minus_mul q n s s0 u))) alike_refl)

    -- the claim
    pub claim_plain : (v : Poly) → list n (plaintext q p (minus q v x)) ≡ list n (decrypted q n p s u v)
    unfolding noise_in
    claim_plain v = plain_alike p (alike_minus alike_refl g)

-- ---- one ballot, from lent parts of the strings: what is written is of its u, v and masks where they stand

module _ (q n p at sent claim : ℕ) (secrets s0 masks0 masks1 ballots : Bytes) (fits : at + 4 + 16 * n ≤ length ballots) where
  alike_u : Alike q n (poly (take (at + 4 + 8 * n - (at + 4)) (drop (at + 4) ballots))) (slot ballots (at + 4))
  alike_u = lent_alike n q ballots (at + 4) (at + 4 + 8 * n - (at + 4)) (omega arith) (omega arith)

  alike_v : Alike q n (poly (take (at + 4 + 16 * n - (at + 4 + 8 * n)) (drop (at + 4 + 8 * n) ballots))) (slot ballots (at + 4 + 8 * n))
  alike_v = lent_alike n q ballots (at + 4 + 8 * n) (at + 4 + 16 * n - (at + 4 + 8 * n)) (omega arith) (omega arith)

  share_placed : (half : Poly) (masks : Bytes)
      → coefficient_bytes q n (share q n p half (poly (take (at + 4 + 8 * n - (at + 4)) (drop (at + 4) ballots))) (lent_mask (take (sent + 8 * n - sent) (drop sent masks))))
      ≡ coefficient_bytes q n (share q n p half (slot ballots (at + 4)) (lent_mask (part masks sent (8 * n))))
  share_placed half masks =
      ap (λ (b : Bytes). coefficient_bytes q n (share q n p half (poly (take (at + 4 + 8 * n - (at + 4)) (drop (at + 4) ballots))) (lent_mask b))) (cut masks sent (sent + 8 * n - sent) (8 * n) (omega arith))
      ∙ encode_alike (noisy_alike q n p alike_refl alike_u alike_refl)

  secret : take (n - 0) (drop 0 secrets) ≡ part secrets 0 n
  secret = cut secrets 0 (n - 0) n (omega arith)

  pub ballot_placed : (shares0 shares1 claims : Bytes) {shares0' shares1' claims' : Bytes}
      → shares0' ≡ put shares0 sent (coefficient_bytes q n (share q n p (poly s0) (poly (take (at + 4 + 8 * n - (at + 4)) (drop (at + 4) ballots))) (lent_mask (take (sent + 8 * n - sent) (drop sent masks0)))))
      → shares1' ≡ put shares1 sent (coefficient_bytes q n (share q n p (other q (ternary q (take (n - 0) (drop 0 secrets))) (poly s0)) (poly (take (at + 4 + 8 * n - (at + 4)) (drop (at + 4) ballots))) (lent_mask (take (sent + 8 * n - sent) (drop sent masks1)))))
      → claims' ≡ put claims claim (list n (decrypted q n p (ternary q (take (n - 0) (drop 0 secrets))) (poly (take (at + 4 + 8 * n - (at + 4)) (drop (at + 4) ballots))) (poly (take (at + 4 + 16 * n - (at + 4 + 8 * n)) (drop (at + 4 + 8 * n) ballots)))))
      → (shares0' ≡ put shares0 sent (coefficient_bytes q n (share q n p (poly s0) (slot ballots (at + 4)) (lent_mask (part masks0 sent (8 * n))))))
      × (shares1' ≡ put shares1 sent (coefficient_bytes q n (share q n p (other q (ternary q (part secrets 0 n)) (poly s0)) (slot ballots (at + 4)) (lent_mask (part masks1 sent (8 * n))))))
      × (claims' ≡ put claims claim (list n (decrypted q n p (ternary q (part secrets 0 n)) (slot ballots (at + 4)) (slot ballots (at + 4 + 8 * n)))))
  ballot_placed shares0 shares1 claims e0 e1 e2 = (
    e0 ∙ ap (put shares0 sent) (share_placed (poly s0) masks0),
    e1
        ∙ ap (put shares1 sent) (share_placed (other q (ternary q (take (n - 0) (drop 0 secrets))) (poly s0)) masks1
        ∙ ap (λ (b : Bytes). coefficient_bytes q n (share q n p (other q (ternary q b) (poly s0)) (slot ballots (at + 4)) (lent_mask (part masks1 sent (8 * n))))) secret),
    e2
        ∙ ap (put claims claim) (ap (λ (b : Bytes). list n (decrypted q n p (ternary q b) (poly (take (at + 4 + 8 * n - (at + 4)) (drop (at + 4) ballots))) (poly (take (at + 4 + 16 * n - (at + 4 + 8 * n)) (drop (at + 4 + 8 * n) ballots))))) secret
        ∙ plain_alike p (noise_alike q n (ternary q (part secrets 0 n)) alike_u alike_v)),
  )
