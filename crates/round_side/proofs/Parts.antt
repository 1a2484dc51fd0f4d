-- Parts of an opening and of the head of a first message, lent on: what they are, and that a test of them is the test of the places they stand at. Assumes nothing.
use mathlib.Core.Path.{◌≡◌, refl, sym, ap, ap₂, ◌∙◌}
use mathlib.Core.Bool.{Bool, not, ◌&&◌}
use mathlib.Core.List.{List, [], ◌∷◌, ◌++◌}
use Prim.Native.Nat.{ℕ, zero, suc, ◌+◌, ◌-◌, ◌*◌, ◌≤◌, ◌<◌}
use native.Mathlib.Nat.{mul-zero, mul-one, mul-add}
use native.Mathlib.Omega.{arith}
use lib.ListN.{take, drop}
use Rattle.codec.specs.Bytes.{Bytes, part, same}
use Rattle.codec.specs.Reply.{Test, test}
use Rattle.codec.specs.Lists.{list}
use Rattle.modular.specs.Modulo.{centre}
use Rattle.modular.specs.Division.{divide}
use Rattle.ring.specs.Poly.{Poly, plus, minus, modulo, Alike}
use Rattle.ring.specs.Slots.{poly, slot, encode}
use Rattle.ring.proofs.Bridge.{encode_alike}
use Rattle.ring.proofs.Polynomials.{mul_poly_comm, alike_refl, alike_plus}
use Rattle.sheet_numbers.specs.Plain.{plain}
use Rattle.sheet_numbers.specs.declared.Numbers.{Numbers}
use Rattle.scratch.specs.Internal.{Polynomial}
use Rattle.bgv.specs.Scheme.{key, recovered_mask, within, reconstructed}
use Rattle.bgv.proofs.Form.{noisy_alike}
use Rattle.commitment.specs.Commitment.{Keys, keys_of, three_of, row, opens, pair_bytes}
use Rattle.commitment.specs.Loaded.{a_of, key_bytes}
use Rattle.commitment.proofs.Additive.{second_alike}
use Rattle.round.specs.Layout.{Opening, joined, u_at, v_at, share_at, claim_at, key_at, pair_at, opening_of}
use Rattle.round.specs.Round.{splits, opens_key, opens_pairs, votes_tests}
use Rattle.commitment.specs.Parameters.{parameters}
use Rattle.commitment.proofs.Cut.{a_cut, b_cut, keys_cut}
use Rattle.round.proofs.Many.{stretch}
use Rattle.round.proofs.Compared.{lent_alike, within_alike}
use Rattle.round_side.specs.Internal.{Opened, Head}

-- a polynomial at a place, lent on with a length that is a difference of places
pub lent_on : {n q : ℕ} (s : Bytes) (at m : ℕ) → m ≡ 8 * n → Polynomial n q (part s at (8 * n)) → Polynomial n q (take m (drop at s))
lent_on s at m e p = rw e p

-- ---- s and e of an opening, lent on, are what stands there

module _ (n q : ℕ) (opening : Bytes) (o : Opened q n opening) where
  pub alike_s : (m : ℕ) → m ≡ 8 * n → Alike q n (poly (take m opening)) (slot opening 0)
  alike_s m e = lent_alike n q opening 0 m e (omega (arith, o.sized))

  pub alike_e : (m : ℕ) → m ≡ 8 * n → Alike q n (poly (take m (drop (8 * n) opening))) (slot opening (8 * n))
  alike_e m e = lent_alike n q opening (8 * n) m e (omega (arith, o.sized))

-- 6: the halves of the key added
sum_alike : (n q repeats : ℕ) (head : Bytes) → Head q n repeats head → (l m : ℕ) → l ≡ 8 * n → m ≡ 8 * n
    → encode n (modulo q (plus (poly (take l head)) (poly (take m (drop (8 * n) head))))) ≡ encode n (modulo q (plus (key_at n head 0) (key_at n head 1)))
sum_alike n q repeats head h l m e f =
    encode_alike (alike_plus (lent_alike n q head 0 l e (omega (arith, h.sized))) (lent_alike n q head (8 * n) m f (omega (arith, h.sized))))
    ∙ ap₂ (λ (x y : ℕ). encode n (modulo q (plus (slot head x) (slot head y)))) (sym (mul-zero (8 * n))) (sym (mul-one (8 * n)))

-- 7: the half of the key that an opening makes
key_alike : (n q p : ℕ) (a : Poly) {s s' e e' : Poly} → Alike q n s s' → Alike q n e e' → encode n (modulo q (key q n p a s e)) ≡ encode n (modulo q (key q n p a s' e'))
key_alike n q p a u v = encode_alike (noisy_alike q n p alike_refl u v)

-- 8: a pair, the polynomial that it commits to, and the three r
opens_alike : (n q : ℕ) (k : Keys) {c c' r r' : Bytes} {m m' : Poly} → c ≡ c' → r ≡ r' → Alike q n m m' → opens q n k c (three_of q n r) m ≡ opens q n k c' (three_of q n r') m'
unfolding opens pair_bytes
opens_alike n q k {c} {c'} {r} {r'} {m} ec er em =
    ap₂ (λ (x y : Bytes). opens q n k x (three_of q n y) m) ec er
    ∙ ap (λ (x : Bytes). same c' (encode n (modulo q (row q n k (three_of q n r'))) ++ x)) (encode_alike (second_alike q n k (record { r1 = alike_refl; r2 = alike_refl; r3 = alike_refl }) em))

-- both pairs of a side, from parts that are lent on
pairs_lent : (n q : ℕ) (k : Keys) (head : Bytes) (at : ℕ) (opening : Bytes) → Opened q n opening → {r : Bool}
    → r ≡ (opens q n k (take (at + 16 * n - at) (drop at head)) (three_of q n (take (19 * n - 16 * n) (drop (16 * n) opening))) (poly (take (8 * n - 0) opening)) && opens q n k (take (at + 48 * n - (at + 32 * n)) (drop (at + 32 * n) head)) (three_of q n (take (22 * n - 19 * n) (drop (19 * n) opening))) (poly (take (16 * n - 8 * n) (drop (8 * n) opening))))
    → r ≡ (opens q n k (part head at (16 * n)) (three_of q n (part opening (16 * n) (3 * n))) (slot opening 0) && opens q n k (part head (at + 32 * n) (16 * n)) (three_of q n (part opening (19 * n) (3 * n))) (slot opening (8 * n)))
pairs_lent n q k head at opening o e =
    let w : at + 16 * n - at ≡ 16 * n = omega arith in
    let x : at + 48 * n - (at + 32 * n) ≡ 16 * n = omega arith in
    let y : 19 * n - 16 * n ≡ 3 * n = omega arith in
    let z : 22 * n - 19 * n ≡ 3 * n = omega arith in
    e
    ∙ ap₂ ◌&&◌
    (opens_alike n q k (ap (λ (m : ℕ). take m (drop at head)) w) (ap (λ (m : ℕ). take m (drop (16 * n) opening)) y) (alike_s n q opening o (8 * n - 0) (omega arith)))
    (opens_alike n q k (ap (λ (m : ℕ). take m (drop (at + 32 * n) head)) x) (ap (λ (m : ℕ). take m (drop (19 * n) opening)) z) (alike_e n q opening o (16 * n - 8 * n) (omega arith)))

-- where the half of the key and the pairs of a side stand
module _ (n side : ℕ) (low : side < 2) where
  pub half_ends : 8 * n * side + 8 * n ≤ 16 * n
  half_ends = omega (arith, stretch (8 * n) side 2 low)

  pub pairs_end : 16 * n + 16 * n * side + 48 * n ≤ 80 * n
  pairs_end = omega (arith, stretch (16 * n) side 2 low)

pairs_at : (n q side : ℕ) (k : Keys) (head : Bytes) (o : Opening)
    → (opens q n k (part head (16 * n + 16 * n * side) (16 * n)) (three_of q n o.rs) o.s && opens q n k (part head (16 * n + 16 * n * side + 32 * n) (16 * n)) (three_of q n o.re) o.e)
    ≡ (opens q n k (pair_at n head side) (three_of q n o.rs) o.s && opens q n k (pair_at n head (2 + side)) (three_of q n o.re) o.e)
pairs_at n q side k head o =
    let f : 16 * n + 16 * n * side + 32 * n ≡ 16 * n + 16 * n * (2 + side) = omega (arith, mul-add (16 * n) 2 side) in
    ap (λ (y : ℕ). opens q n k (pair_at n head side) (three_of q n o.rs) o.s && opens q n k (part head y (16 * n)) (three_of q n o.re) o.e) f

-- ---- the tests by a sheet's numbers and polynomials, whose parts are lent on

module _ (k : Numbers) (s : Bytes) where
  abbrev n : ℕ
  n = k.ring

  abbrev q : ℕ
  q = k.modulus

  pub split_lent : (head : Bytes) → Head q n k.repeats head → {r : Bool}
      → r ≡ same (encode n (modulo q (plus (poly (take (8 * n - 0) head)) (poly (take (16 * n - 8 * n) (drop (8 * n) head)))))) (encode n (modulo q (poly (take (16 * n - 8 * n) (drop (8 * n) s)))))
      → r ≡ splits (parameters k s) head
  unfolding splits
  split_lent head h e =
      e
      ∙ ap₂ (λ (x y : Bytes). same x (encode n (modulo q (poly y)))) (sum_alike n q k.repeats head h (8 * n - 0) (16 * n - 8 * n) (omega arith) (omega arith)) (b_cut k s)

  module _ (head : Bytes) (side : ℕ) (opening : Bytes) (o : Opened q n opening) where
    pub key_lent : {at : ℕ} {r : Bool}
        → r ≡ same (take (at + 8 * n - at) (drop at head)) (encode n (modulo q (key q n (plain k) (poly (take (8 * n - 0) s)) (poly (take (8 * n - 0) opening)) (poly (take (16 * n - 8 * n) (drop (8 * n) opening))))))
        → at ≡ 8 * n * side → r ≡ opens_key (parameters k s) head side (opening_of n opening)
    unfolding opens_key
    key_lent {at} e is =
        let long : at + 8 * n - at ≡ 8 * n = omega arith in
        e
        ∙ ap₂ (λ (m : ℕ) (x : Bytes). same (take m (drop at head)) (encode n (modulo q (key q n (plain k) (poly x) (poly (take (8 * n - 0) opening)) (poly (take (16 * n - 8 * n) (drop (8 * n) opening))))))) long (a_cut k s)
        ∙ ap₂ (λ (i : ℕ) (x : Bytes). same (part head i (8 * n)) x) is (key_alike n q (plain k) (poly (a_of k s)) (alike_s n q opening o (8 * n - 0) (omega arith)) (alike_e n q opening o (16 * n - 8 * n) (omega arith)))

    abbrev both_pairs_lem : ℕ → Keys → Bool
    both_pairs_lem at ks =
        opens q n ks (take (at + 16 * n - at) (drop at head)) (three_of q n (take (19 * n - 16 * n) (drop (16 * n) opening))) (poly (take (8 * n - 0) opening))
        && opens q n ks (take (at + 48 * n - (at + 32 * n)) (drop (at + 32 * n) head)) (three_of q n (take (22 * n - 19 * n) (drop (19 * n) opening))) (poly (take (16 * n - 8 * n) (drop (8 * n) opening)))

    pub both_lent : {at : ℕ} {r : Bool} → r ≡ both_pairs_lem at (keys_of n (take (40 * n - 16 * n) (drop (16 * n) s))) → at ≡ 16 * n + 16 * n * side
        → r ≡ opens_pairs (parameters k s) head side (opening_of n opening)
    unfolding opens_pairs
    both_lent e is =
        pairs_lent n q (keys_of n (key_bytes k s)) head (16 * n + 16 * n * side) opening o (e ∙ ap₂ (λ (i : ℕ) (x : Bytes). both_pairs_lem i (keys_of n x)) is (keys_cut k s))
        ∙ pairs_at n q side (keys_of n (key_bytes k s)) head (opening_of n opening)

-- ---- the ballots

-- the tests of each, one by one
each_cong : (n : ℕ) {f g : ℕ → List Test} → ((j : ℕ) → j < n → f j ≡ g j) → joined n f ≡ joined n g
unfolding joined
each_cong zero h = refl
each_cong (suc n) h = ap₂ (λ (x y : List Test). x ++ y) (each_cong n (λ j l. h j (omega arith))) (h n (omega arith))

-- 12: the mask goes by what the opened half of the secret is modulo q
worked_either : (q n p : ℕ) (s u t : Poly) → recovered_mask q n p s u t ≡ recovered_mask q n p u s t
unfolding recovered_mask
worked_either q n p s u t = ap (λ (x : Poly). λ (k : ℕ). centre q (divide q p (minus q t x k))) (mul_poly_comm q n s u)

mask_alike : (q n p bound : ℕ) {s s' : Poly} (u t : Poly) → Alike q n s s' → within bound n (recovered_mask q n p s u t) ≡ within bound n (recovered_mask q n p s' u t)
mask_alike q n p bound {s} {s'} u t e =
    ap (within bound n) (worked_either q n p s u t) ∙ within_alike q n p bound u e alike_refl ∙ ap (within bound n) (worked_either q n p u s' t)

pub votes_alike : (q n p bound count : ℕ) {s s' : Poly} (ballots claims shares0 shares1 opened : Bytes) → Alike q n s s'
    → votes_tests q n p bound count s ballots claims shares0 shares1 opened ≡ votes_tests q n p bound count s' ballots claims shares0 shares1 opened
votes_alike q n p bound count ballots claims shares0 shares1 opened e =
    each_cong count
    (λ j l. ap (λ (b : Bool). test 12 j (not b) ∷ test 13 j (not (same (claim_at n claims j) (list n (reconstructed q p (v_at n ballots j) (share_at n shares0 j) (share_at n shares1 j))))) ∷ []) (mask_alike q n p bound (u_at n ballots j) (share_at n opened j) e))
