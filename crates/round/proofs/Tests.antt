-- What the tests of a round mean, in propositions on polynomials: equal bytes, a bound (12), the halves of b (6, 7) and the pairs (8). Assumes nothing.
use mathlib.Core.Path.{◌≡◌, sym, ap, ap₂, ◌∙◌}
use mathlib.Core.Logic.{◌↔◌}
use mathlib.Core.Bool.{true, false, ◌&&◌}
use mathlib.Core.List.{List, [], ◌∷◌}
use Prim.Native.Nat.{ℕ, suc, ◌+◌, ◌*◌, ◌^◌, ◌≤◌, ◌<◌}
use native.Mathlib.Omega.{arith}
use lib.IntN.{nat_abs}
use lib.ListN.{length}
use Rattle.codec.specs.Bytes.{Bytes, Octets, same}
use Rattle.codec.specs.Reply.{Test}
use Rattle.codec.proofs.Laws.{length_part, octets_part, both, same_refl, same_equal}
use Rattle.modular.proofs.Congruence.{same_eq}
use Rattle.ring.specs.Poly.{Poly, plus, Alike}
use Rattle.ring.specs.Slots.{slot}
use Rattle.ring.proofs.Bridge.{encode_alike}
use Rattle.ring.proofs.Ranges.{below_sound, below_complete}
use Rattle.bgv.specs.Scheme.{Wholes, Bounded, within, key}
use Rattle.commitment.specs.Commitment.{Three, three_of, pair_of, Opens, opens}
use Rattle.commitment.proofs.Opening.{encode_slot, encode_decides, opens_exactly}
use Rattle.stern.specs.Shortness.{answer_tests}
use Rattle.stern.proofs.Honest.{slot_alike}
use Rattle.round.specs.Layout.{Opening, head_length, key_at, pairs_of, pair_at, digests_at, opening_of, answer_at}
use Rattle.round.specs.Round.{Round, challenge_at, shares_of, head_ranged, splits, opens_key, opens_pairs, mask_test, claim_test}
use Rattle.round.specs.Accepted.{HeadRanged}
use Rattle.round.proofs.Written.{slot_part}
use Rattle.round.proofs.Many.{stretch}
use Rattle.round.proofs.Ranged.{head_exactly}
use Rattle.commitment.specs.Parameters.{Parameters}

-- ---- the tests of a repetition and of a ballot

module _ (P : Parameters) (m : ℕ) (r : Round) where
  open P use {q, N, p, B, k}

  abbrev pub answer_tests_lem : ℕ → List Test
  answer_tests_lem i = answer_tests q N k (pairs_of N r.head) (digests_at N r.head i) i (challenge_at r i) (answer_at N r.challenges r.answers i)

  abbrev pub ballot_tests_lem : ℕ → List Test
  ballot_tests_lem j = mask_test q N p B (opening_of N r.opening).s r.ballots (shares_of r r.side) j ∷ claim_test q N p r.ballots r.claims r.shares0 r.shares1 j ∷ []

-- ---- equal bytes

pub equal_same : {s t : Bytes} → s ≡ t → same s t ≡ true
equal_same {s} e = ap (same s) (sym e) ∙ same_refl s

-- a test of two byte strings that fails says that they differ
pub differ : (s t : Bytes) → same s t ≡ false → s ≡ t → ⊥
differ s t e f = let z : true ≡ false = sym (equal_same f) ∙ e in let y : ◌≡◌ {A = ℕ} 0 1 = cc in omega arith

-- ---- 12: a bound

pub within_sound : (K N : ℕ) (E : Wholes) → within K N E ≡ true → Bounded N K E
unfolding within
within_sound K N E e = let b = below_sound (suc K) N (λ k. nat_abs (E k)) e in record { at = λ k l. omega (arith, b.at k l) }

pub within_complete : (K N : ℕ) (E : Wholes) → Bounded N K E → within K N E ≡ true
unfolding within
within_complete K N E b = below_complete (suc K) N (λ k. nat_abs (E k)) (record { at = λ k l. omega (arith, b.at k l) })

-- ---- where the pairs of s0, s1, e0, e1 stand: in the first message, and among the four

pub pair_half : {q : ℕ} (N : ℕ) (head : Bytes) (i at to : ℕ) → to ≡ 16 * N * i + at → at + 8 * N ≤ 16 * N → to + 8 * N ≤ 64 * N
    → Alike q N (slot (pair_at N head i) at) (slot (pairs_of N head) to)
pair_half N head i at to place short long = record {
  at = λ k l.
      let e : 16 * N + 16 * N * i + at ≡ 16 * N + to = omega arith in
      same_eq (slot_part head (16 * N + 16 * N * i) (16 * N) at k (omega arith) ∙ ap (λ (j : ℕ). slot head j k) e
      ∙ sym (slot_part head (16 * N) (64 * N) to k (omega arith)));
}

module _ (P : Parameters) (m : ℕ) (positive : 0 < P.q) (fits : P.q ≤ 2 ^ 64) (head : Bytes) where
  open P use {q, N, p, repeats, a, b, k}

  -- ---- 6, 7: the halves of b

  pub splits_exactly : (splits P head ≡ true) ↔ Alike q N (plus (key_at N head 0) (key_at N head 1)) b
  unfolding splits
  splits_exactly = (λ e. encode_decides q N positive fits (same_equal _ _ e), λ l. equal_same (encode_alike l))

  module _ (sized : length head ≡ head_length N repeats) (octets : Octets head) (ranged : head_ranged P.q P.N head ≡ true) where
    in_range : HeadRanged P m head
    in_range = (head_exactly P m head).0 ranged

    pub key_exactly : (side : ℕ) → side < 2 → (o : Opening) → (opens_key P head side o ≡ true) ↔ Alike q N (key_at N head side) (key q N p a o.s o.e)
    unfolding opens_key
    key_exactly side low o = (
      λ e. slot_alike q N positive fits head (8 * N * side) (key q N p a o.s o.e) (same_equal _ _ e),
      λ l. equal_same (encode_slot q N head (8 * N * side) octets (omega (arith, stretch (8 * N) side 2 low)) (in_range.keys side low) ∙ encode_alike l),
    )

    -- ---- 8: the pairs

    pub pair_exactly : (i : ℕ) → i < 4 → (r : Three) (f : Poly) → (opens q N k (pair_at N head i) r f ≡ true) ↔ Opens q N k (pair_of N (pair_at N head i)) r f
    pair_exactly i four =
        opens_exactly q N positive fits (pair_at N head i) (octets_part head (16 * N + 16 * N * i) (16 * N) octets)
        (length_part head (16 * N + 16 * N * i) (16 * N) (omega (arith, stretch (16 * N) i 4 four))) (in_range.first_halves i four) (in_range.second_halves i four) k

    -- the pairs of s_i and e_i
    pub pairs_exactly : (side : ℕ) → side < 2 → (o : Opening) → (opens_pairs P head side o ≡ true)
        ↔ (Opens q N k (pair_of N (pair_at N head side)) (three_of q N o.rs) o.s × Opens q N k (pair_of N (pair_at N head (2 + side))) (three_of q N o.re) o.e)
    unfolding opens_pairs
    pairs_exactly side low o =
        let s = pair_exactly side (omega arith) (three_of q N o.rs) o.s in
        let e = pair_exactly (2 + side) (omega arith) (three_of q N o.re) o.e in
        (λ t. let r = both _ _ t in (s.0 r.0, e.0 r.1), λ c. ap₂ ◌&&◌ (s.1 c.0) (e.1 c.1))
