-- The committed pairs: the other half stands where the message is put, and a pair is written out by halves. Assumes nothing.
use mathlib.Core.Path.{◌≡◌, ap, ap₂, ◌∙◌}
use mathlib.Core.List.{◌++◌, append_assoc}
use Prim.Native.Nat.{ℕ, ◌+◌, ◌-◌, ◌*◌, ◌^◌, ◌≤◌, ◌<◌}
use native.Mathlib.Omega.{arith}
use lib.ListN.{length, take, drop, length-append}
use Rattle.codec.specs.Bytes.{Bytes, part, put}
use Rattle.codec.proofs.Laws.{part_part, written_behind}
use Rattle.modular.proofs.Congruence.{same_mod, same_eq, ◌then◌}
use Rattle.ring.specs.Poly.{Poly, minus, modulo, Alike, Below}
use Rattle.ring.specs.Slots.{poly, slot, encode}
use Rattle.ring.specs.Internal.{store}
use Rattle.ring.specs.Ternary.{ternary}
use Rattle.ring.proofs.Bridge.{encode_alike}
use Rattle.ring.proofs.Polynomials.{alike_refl}
use Rattle.scratch.specs.Internal.{Polynomial}
use Rattle.scratch.proofs.Loads.{Loaded, ternary_load, loaded_asks, subtracted}
use Rattle.bgv.specs.Scheme.{other}
use Rattle.sheet_numbers.specs.declared.Numbers.{Numbers}
use Rattle.commitment.specs.Loaded.{key_bytes}
use Rattle.commitment.specs.Commitment.{Keys, Pair, keys_of, three_of, committed, pair_bytes}
use Rattle.commitment.specs.Internal.{three_at, PairInSlots, with_three}
use Rattle.commitment.proofs.Additive.{second_alike}
use Rattle.commitment.proofs.Loading.{pair_asks, pair_made}
use Rattle.commitment.proofs.Opening.{poly_modulo}
use Rattle.stern.proofs.Honest.{length_pair_bytes}
use Rattle.round.specs.Producer.{s_in, e_in, hides_sin, hides_ein, committed_pair, pairs_bytes}
use Rattle.commitment.proofs.Cut.{keys_cut}
use Rattle.round.proofs.Written.{octets_encode, coefficients_written}
use Rattle.round_head.proofs.Joining.{cut}

-- a pair that stands in scratch, written at a place
pub halves_written : {q n : ℕ} {c : Pair} {w w' : Bytes} (at : ℕ) (d d' : Bytes) → PairInSlots q n c w w' → d' ≡ put d at (part w' 0 (8 * n) ++ part w' 49152 (8 * n)) → d' ≡ put d at (pair_bytes q n c)
unfolding pair_bytes
halves_written at d d' h e = e ∙ ap (put d at) (ap₂ ◌++◌ h.one h.two)

-- ---- x - x0 where the message is put

module _ (q n : ℕ) (w w1 w2 x x0 r : Bytes) (half : Polynomial n q x0) (long : length w ≡ 1048576) (long1 : length w1 ≡ 1048576) (size : length x ≡ n)
    (e1 : w1 ≡ with_three n w (three_of q n r)) (e2 : w2 ≡ put w1 49152 (encode (length x) (ternary q x))) where
  positive : 0 < q
  positive = let s = half.modulus_low in omega arith

  few : q ≤ 2 ^ 64
  few = let s = half.modulus_high in omega arith

  fits : 49152 + 8 * n ≤ 1048576
  fits = let h = half.ring_high in omega arith

  loaded : Loaded q n 49152 (ternary q x) w1 w2
  loaded = ternary_load q n half.ring_high half.modulus_low half.modulus_high w1 w2 49152 long1 fits x size e2

  pub subtract_asks : (49152 + 8 * n ≤ length w2) × Below q n (slot w2 49152)
  subtract_asks = loaded_asks q n half.ring_high half.modulus_low half.modulus_high 49152 (ternary q x) w1 w2 long1 fits loaded

  -- the other half, and its bytes
  abbrev f : Poly
  f = other q (ternary q x) (poly x0)

  abbrev message : Bytes
  message = encode n (modulo q f)

  public : Polynomial n q message
  public =
      let c = coefficients_written n f positive few in
      record { ring_low = half.ring_low; ring_high = half.ring_high; modulus_low = half.modulus_low; modulus_high = half.modulus_high; sized = c.sized; below = c.below }

  read_back : Alike q n (poly message) f
  unfolding modulo
  read_back = record { at = λ k l. same_eq (poly_modulo q n positive few f k l) then same_mod }

  module _ (w3 : Bytes) (e3 : w3 ≡ store q n w2 49152 (minus q (slot w2 49152) (poly x0))) where
    put_there : w3 ≡ put w1 49152 message
    put_there = subtracted q n half.ring_high half.modulus_low half.modulus_high 49152 (ternary q x) (poly x0) w1 w2 w3 long1 fits loaded e3

    pub commit_asks : (length w3 ≡ 1048576) × (Below q n (slot w3 0) × Below q n (slot w3 16384) × Below q n (slot w3 32768) × Below q n (slot w3 49152))
    commit_asks = pair_asks q n half.ring_high positive half.modulus_high w w1 w3 message r long (octets_encode n (modulo q f)) public e1 put_there

    pub other_committed : (k : Keys) (w4 : Bytes) → PairInSlots q n (committed q n k (three_at w3) (slot w3 49152)) w3 w4 → PairInSlots q n (committed q n k (three_of q n r) (other q (ternary q x) (poly x0))) w w4
    other_committed k w4 h =
        let s = pair_made q n half.ring_high positive half.modulus_high w w1 w3 message r long (octets_encode n (modulo q f)) public e1 put_there k w4 h in
        record {
          sized = s.sized;
          one = s.one;
          two = s.two ∙ encode_alike (second_alike q n k (record { r1 = alike_refl; r2 = alike_refl; r3 = alike_refl }) read_back);
        }

-- ---- the pairs of both halves

module _ (q n : ℕ) (k : Keys) where
  -- of x0 with the r in `one`, and of x - x0 with those in `two`
  abbrev pub both_pairs : (one two x x0 : Bytes) → Bytes
  both_pairs one two x x0 = pair_bytes q n (committed q n k (three_of q n one) (poly x0)) ++ pair_bytes q n (committed q n k (three_of q n two) (other q (ternary q x) (poly x0)))

  pub length_both_pairs : (one two x x0 : Bytes) → length (both_pairs one two x x0) ≡ 32 * n
  length_both_pairs one two x x0 =
      length-append (pair_bytes q n (committed q n k (three_of q n one) (poly x0))) (pair_bytes q n (committed q n k (three_of q n two) (other q (ternary q x) (poly x0))))
      ∙ omega (arith, length_pair_bytes q n (committed q n k (three_of q n one) (poly x0)), length_pair_bytes q n (committed q n k (three_of q n two) (other q (ternary q x) (poly x0))))

  -- written one behind the other, with r lent by halves
  pub both_written : (d d1 d2 r x x0 : Bytes) (at a b : ℕ) → a ≡ 3 * n → b ≡ 3 * n → at + 32 * n ≤ length d
      → d1 ≡ put d at (pair_bytes q n (committed q n k (three_of q n (take a r)) (poly x0)))
      → d2 ≡ put d1 (at + 16 * n) (pair_bytes q n (committed q n k (three_of q n (take b (drop (3 * n) r))) (other q (ternary q x) (poly x0))))
      → d2 ≡ put d at (both_pairs (part r 0 (3 * n)) (part r (3 * n) (3 * n)) x x0)
  both_written d d1 d2 r x x0 at a b ea eb fits e1 e2 =
      let one = pair_bytes q n (committed q n k (three_of q n (part r 0 (3 * n))) (poly x0)) in
      let two = pair_bytes q n (committed q n k (three_of q n (part r (3 * n) (3 * n))) (other q (ternary q x) (poly x0))) in
      let l1 : length one ≡ 16 * n = length_pair_bytes q n (committed q n k (three_of q n (part r 0 (3 * n))) (poly x0)) in
      let l2 : length two ≡ 16 * n = length_pair_bytes q n (committed q n k (three_of q n (part r (3 * n) (3 * n))) (other q (ternary q x) (poly x0))) in
      written_behind d d1 d2 one two at (at + 16 * n) (omega arith) (omega arith)
      (e1 ∙ ap (λ (s : Bytes). put d at (pair_bytes q n (committed q n k (three_of q n s) (poly x0)))) (cut r 0 a (3 * n) ea))
      (e2 ∙ ap (λ (s : Bytes). put d1 (at + 16 * n) (pair_bytes q n (committed q n k (three_of q n s) (other q (ternary q x) (poly x0))))) (cut r (3 * n) b (3 * n) eb))

  -- where the parts of the secrets stand: x from x_at on, the r of x0 and of x - x0 from r_at on
  module _ (secrets x0 : Bytes) (x_at x_long r_at r_long : ℕ) (ex : x_long ≡ n) (er : r_long ≡ 6 * n) where
    hides : (i from : ℕ) → from ≡ 3 * n * i → from + 3 * n ≤ 6 * n → part (take r_long (drop r_at secrets)) from (3 * n) ≡ part secrets (r_at + 3 * n * i) (3 * n)
    hides i from e h =
        ap (λ (s : Bytes). part s from (3 * n)) (cut secrets r_at r_long (6 * n) er) ∙ part_part secrets r_at (6 * n) from (3 * n) h
        ∙ ap (λ (j : ℕ). part secrets (r_at + j) (3 * n)) e

    pub both_lent : both_pairs (part (take r_long (drop r_at secrets)) 0 (3 * n)) (part (take r_long (drop r_at secrets)) (3 * n) (3 * n)) (take x_long (drop x_at secrets)) x0
        ≡ both_pairs (part secrets (r_at + 3 * n * 0) (3 * n)) (part secrets (r_at + 3 * n * 1) (3 * n)) (part secrets x_at n) x0
    both_lent =
        ap₂ (λ (s t : Bytes). both_pairs s t (take x_long (drop x_at secrets)) x0) (hides 0 0 (omega arith) (omega arith)) (hides 1 (3 * n) (omega arith) (omega arith))
        ∙ ap (λ (s : Bytes). both_pairs (part secrets (r_at + 3 * n * 0) (3 * n)) (part secrets (r_at + 3 * n * 1) (3 * n)) s x0) (cut secrets x_at x_long n ex)

-- the pairs of s0, s1 and then of e0, e1
pub four_pairs : (q n : ℕ) (k : Keys) (secrets s0 e0 d d1 d2 s t : Bytes) → 80 * n ≤ length d → d1 ≡ put d (16 * n) s → d2 ≡ put d1 (48 * n) t
    → s ≡ both_pairs q n k (hides_sin n secrets 0) (hides_sin n secrets 1) (s_in n secrets) s0
    → t ≡ both_pairs q n k (hides_ein n secrets 0) (hides_ein n secrets 1) (e_in n secrets) e0
    → d2 ≡ put d (16 * n) (pairs_bytes q n secrets s0 e0 k)
unfolding pairs_bytes
four_pairs q n k secrets s0 e0 d d1 d2 s t fits e1 e2 es et =
    let ls : length s ≡ 32 * n = ap length es ∙ length_both_pairs q n k _ _ _ _ in
    let lt : length t ≡ 32 * n = ap length et ∙ length_both_pairs q n k _ _ _ _ in
    written_behind d d1 d2 s t (16 * n) (48 * n) (omega arith) (omega arith) e1 e2
    ∙ ap₂ (λ (x y : Bytes). put d (16 * n) (x ++ y)) es et
    ∙ ap (put d (16 * n))
    (append_assoc (committed_pair q n k (hides_sin n secrets 0) (poly s0)) (committed_pair q n k (hides_sin n secrets 1) (other q (ternary q (s_in n secrets)) (poly s0)))
    (both_pairs q n k (hides_ein n secrets 0) (hides_ein n secrets 1) (e_in n secrets) e0))

-- with the sheet's keys as they are lent
pub pairs_loaded : (k : Numbers) (s secrets s0 e0 d d' : Bytes) → d' ≡ put d (16 * k.ring) (pairs_bytes k.modulus k.ring secrets s0 e0 (keys_of k.ring (take (40 * k.ring - 16 * k.ring) (drop (16 * k.ring) s))))
    → d' ≡ put d (16 * k.ring) (pairs_bytes k.modulus k.ring secrets s0 e0 (keys_of k.ring (key_bytes k s)))
pairs_loaded k s secrets s0 e0 d d' e = e ∙ ap (λ (b : Bytes). put d (16 * k.ring) (pairs_bytes k.modulus k.ring secrets s0 e0 (keys_of k.ring b))) (keys_cut k s)

pub length_pairs : (q n : ℕ) (k : Keys) (secrets s0 e0 : Bytes) → length (pairs_bytes q n secrets s0 e0 k) ≡ 64 * n
unfolding pairs_bytes
length_pairs q n k secrets s0 e0 = simp (length-append, length_pair_bytes) (omega arith)
