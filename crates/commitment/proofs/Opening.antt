-- What the test of an opening means: it is passed exactly by the bytes of the pair made from m and the three r. Assumes nothing.
use mathlib.Core.Path.{◌≡◌, sym, ap, ap₂, ◌∙◌}
use mathlib.Core.Logic.{◌↔◌}
use mathlib.Core.Bool.{true}
use mathlib.Core.List.{◌++◌}
use Prim.Native.Nat.{ℕ, ◌+◌, ◌*◌, ◌%◌, ◌^◌, ◌≤◌, ◌<◌}
use native.Mathlib.Nat.{mod-lt, mod-eq_of_lt, zero-add}
use native.Mathlib.Omega.{arith}
use lib.ListN.{length, take, drop}
use lib.Seq.{take_all, take_at, drop_at}
use Rattle.codec.specs.Bytes.{Bytes, Octets, part, same}
use Rattle.codec.proofs.Laws.{length_part, part_append, octets_part, same_refl, same_equal}
use Rattle.ring.specs.Poly.{Poly, modulo, Alike, Below}
use Rattle.ring.specs.Slots.{poly, slot, encode}
use Rattle.ring.proofs.Bridge.{length_encode, poly_encode, encode_cong, encode_alike, encode_poly, poly_part}
use Rattle.commitment.specs.Commitment.{Keys, Three, Pair, committed, pair_bytes, pair_of, Opens, opens}

-- bytes in range are those of the polynomial that they hold
pub encode_bytes : (q N : ℕ) (s : Bytes) → Octets s → length s ≡ 8 * N → Below q N (poly s) → s ≡ encode N (modulo q (poly s))
unfolding modulo
encode_bytes q N s octets sized b = sym (encode_poly s N octets sized) ∙ encode_cong N (λ k l. sym (mod-eq_of_lt (b.at k l)))

-- and so are bytes at a place
pub encode_slot : (q N : ℕ) (c : Bytes) (at : ℕ) → Octets c → at + 8 * N ≤ length c → Below q N (slot c at) → part c at (8 * N) ≡ encode N (modulo q (slot c at))
unfolding modulo
encode_slot q N c at octets l b =
    encode_bytes q N (part c at (8 * N)) (octets_part c at (8 * N) octets) (length_part c at (8 * N) l) (record { at = λ k m. rw (poly_part c at N k m) (b.at k m) })
    ∙ encode_cong N (λ k m. ap (λ (v : ℕ). v % q) (poly_part c at N k m))

module _ (q N : ℕ) (h : 0 < q) (small : q ≤ 2 ^ 64) where
  -- what is written modulo q is read back
  pub poly_modulo : (c : Poly) (k : ℕ) → k < N → poly (encode N (modulo q c)) k ≡ c k % q
  unfolding modulo
  poly_modulo c k l = poly_encode N (modulo q c) k l (omega (arith, mod-lt (c k) {m = q} h))

  -- bytes decide the polynomial modulo q
  pub encode_decides : {a b : Poly} → encode N (modulo q a) ≡ encode N (modulo q b) → Alike q N a b
  encode_decides {a} {b} e = record { at = λ k l. record { is = sym (poly_modulo a k l) ∙ ap (λ (s : Bytes). poly s k) e ∙ poly_modulo b k l } }

  pair_bytes_decides : (c d : Pair) → pair_bytes q N c ≡ pair_bytes q N d → (Alike q N c.one d.one) × (Alike q N c.two d.two)
  unfolding pair_bytes
  pair_bytes_decides c d e = (
    encode_decides (sym (head c) ∙ ap (take (8 * N)) e ∙ head d),
    encode_decides (sym (tail c) ∙ ap (drop (8 * N)) e ∙ tail d),
  )
    where
      head : (x : Pair) → take (8 * N) (pair_bytes q N x) ≡ encode N (modulo q x.one)
      head x = take_at (encode N (modulo q x.one)) (encode N (modulo q x.two)) (8 * N) (length_encode N (modulo q x.one))

      tail : (x : Pair) → drop (8 * N) (pair_bytes q N x) ≡ encode N (modulo q x.two)
      tail x = drop_at (encode N (modulo q x.one)) (encode N (modulo q x.two)) (8 * N) (length_encode N (modulo q x.one))

  module _ (c : Bytes) (octets : Octets c) (sized : length c ≡ 16 * N) (one : Below q N (slot c 0)) (two : Below q N (slot c (8 * N))) where
    -- the bytes of a pair are the bytes of the pair that they hold
    pub pair_bytes_pair_of : c ≡ pair_bytes q N (pair_of N c)
    unfolding pair_bytes
    pair_bytes_pair_of =
        sym (take_all (8 * N + 8 * N) c (omega arith)) ∙ part_append c 0 (8 * N) (8 * N)
        ∙ ap₂ (λ (s t : Bytes). s ++ t) (encode_slot q N c 0 octets (omega arith) one) (ap (λ (at : ℕ). part c at (8 * N)) (zero-add (8 * N)) ∙ encode_slot q N c (8 * N) octets (omega arith) two)

    pub opens_exactly : (k : Keys) (r : Three) (m : Poly) → (opens q N k c r m ≡ true) ↔ Opens q N k (pair_of N c) r m
    unfolding opens pair_bytes
    opens_exactly k r m = (forward, backward)
      where
        forward : same c (pair_bytes q N (committed q N k r m)) ≡ true → Opens q N k (pair_of N c) r m
        forward e =
            let d = pair_bytes_decides (pair_of N c) (committed q N k r m) (sym pair_bytes_pair_of ∙ same_equal c (pair_bytes q N (committed q N k r m)) e) in
            record { one = d.0; two = d.1 }

        backward : Opens q N k (pair_of N c) r m → same c (pair_bytes q N (committed q N k r m)) ≡ true
        backward o =
            ap (same c) (sym (pair_bytes_pair_of ∙ ap₂ (λ (s t : Bytes). s ++ t) (encode_alike o.one) (encode_alike o.two))) ∙ same_refl c
