-- The loop over ballots: where ballot j, its masks, its shares and its claim stand, and what is written before it. Assumes nothing.
use mathlib.Core.Path.{◌≡◌, sym, subst, ◌∙◌}
use Prim.Native.Nat.{ℕ, ◌+◌, ◌*◌, ◌<◌}
use native.Mathlib.Nat.{mul-zero, mul-add, mul-one}
use native.Mathlib.Omega.{arith}
use lib.ListN.{length}
use Rattle.codec.specs.Bytes.{Bytes, part, put}
use Rattle.codec.specs.Lists.{list}
use Rattle.codec.proofs.Lists.{length_list}
use Rattle.ring.specs.Poly.{Poly}
use Rattle.ring.specs.Slots.{coefficient_bytes, poly}
use Rattle.ring.specs.Ternary.{ternary}
use Rattle.ring.proofs.Bridge.{length_encode}
use Rattle.bgv.specs.Scheme.{decrypted, other, lent_mask, share}
use Rattle.round.specs.Layout.{joined, ballot_length, u_at, v_at}
use Rattle.round.specs.Producer.{shares_bytes, claims_bytes}
use Rattle.round.proofs.Many.{stretch, length_joined}
use Rattle.round_shares.specs.Internal.{Masked, BallotPlaces, Fits, room_of}
use Rattle.round_head.proofs.Joining.{Filled, filled_first, filled_more, filled_all}

-- strings of m bytes each, written end to end: the places of the first and of the next
at_none : (m : ℕ) {f : ℕ → Bytes} {d d' : Bytes} → Filled f d 0 0 0 d' → Filled f d 0 0 (m * 0) d'
at_none m {f} {d} {d'} h = subst (λ (k : ℕ). Filled f d 0 0 k d') (sym (mul-zero m)) h

at_more : (m j : ℕ) {f : ℕ → Bytes} {d d' : Bytes} → Filled f d 0 (j + 1) (m * j + m) d' → Filled f d 0 (j + 1) (m * (j + 1)) d'
at_more m j {f} {d} {d'} h = let e : m * j + m ≡ m * (j + 1) = omega (arith, mul-add m j 1, mul-one m) in subst (λ (k : ℕ). Filled f d 0 (j + 1) k d') e h

module _ (q n p count : ℕ) (secrets s0 masks0 masks1 ballots : Bytes) where
  -- what is written for ballot j: its shares, the half and the masks given, and its claim
  abbrev share_of : Poly → Bytes → ℕ → Bytes
  share_of half masks j = coefficient_bytes q n (share q n p half (u_at n ballots j) (lent_mask (part masks (8 * n * j) (8 * n))))

  abbrev lent_half : Poly
  lent_half = poly s0

  abbrev other_half : Poly
  other_half = other q (ternary q (part secrets 0 n)) (poly s0)

  abbrev claim_of : ℕ → Bytes
  claim_of j = list n (decrypted q n p (ternary q (part secrets 0 n)) (u_at n ballots j) (v_at n ballots j))

  share_sized : (half : Poly) (masks : Bytes) (j : ℕ) → length (share_of half masks j) ≡ 8 * n
  share_sized half masks j = length_encode n _

  claim_sized : (j : ℕ) → length (claim_of j) ≡ n
  claim_sized j = length_list n _

  shares_long : (half : Poly) (masks : Bytes) (j : ℕ) → length (joined j (share_of half masks)) ≡ 8 * n * j
  shares_long half masks j = length_joined (8 * n) (share_of half masks) j (λ i b. share_sized half masks i)

  claims_long : (j : ℕ) → length (joined j claim_of) ≡ n * j
  claims_long j = length_joined n claim_of j (λ i b. claim_sized i)

  -- what is written before ballot j
  pub record Sent (shares0₀ shares1₀ claims₀ : Bytes) (j : ℕ) (shares0 shares1 claims w : Bytes) : Type 0 where
    pub long : length w ≡ 1048576
    pub lent : Filled (share_of lent_half masks0) shares0₀ 0 j (8 * n * j) shares0
    pub others : Filled (share_of other_half masks1) shares1₀ 0 j (8 * n * j) shares1
    pub votes : Filled claim_of claims₀ 0 j (n * j) claims

  module _ (shares0₀ shares1₀ claims₀ : Bytes) where
    pub sent_first : (w : Bytes) → length w ≡ 1048576 → Sent shares0₀ shares1₀ claims₀ 0 shares0₀ shares1₀ claims₀ w
    sent_first w l = record {
      long = l;
      lent = at_none (8 * n) (filled_first (share_of lent_half masks0) shares0₀ 0);
      others = at_none (8 * n) (filled_first (share_of other_half masks1) shares1₀ 0);
      votes = at_none n (filled_first claim_of claims₀ 0);
    }

    module _ (m : Masked q n count ballots masks0 masks1) (l0 : length shares0₀ ≡ 8 * n * count) (l1 : length shares1₀ ≡ 8 * n * count) (lc : length claims₀ ≡ n * count) (j : ℕ)
        (shares0 shares1 claims w : Bytes) (r : Sent shares0₀ shares1₀ claims₀ j shares0 shares1 claims w) (h : j < count) where
      pub ballot_stands : BallotPlaces q n (ballot_length n * j) (8 * n * j) ballots masks0 masks1
      ballot_stands =
          let s = stretch (8 * n) j count h in
          record {
            ballot_ends = omega (arith, m.ballots_sized, stretch (ballot_length n) j count h);
            below = m.below j h;
            ends0 = omega (arith, m.masks0_sized);
            ends1 = omega (arith, m.masks1_sized);
          }

      pub room_fits : Fits n (8 * n * j) (n * j) (room_of shares0 shares1 claims w)
      room_fits =
          let s = stretch (8 * n) j count h in
          record {
            shares0 = omega (arith, r.lent.long, l0);
            shares1 = omega (arith, r.others.long, l1);
            claims = omega (arith, r.votes.long, lc, stretch n j count h);
            scratch = r.long;
          }

      pub sent_more : (shares0' shares1' claims' w' : Bytes) → length shares0' ≡ length shares0 → length shares1' ≡ length shares1 → length claims' ≡ length claims → length w' ≡ length w
          → shares0' ≡ put shares0 (8 * n * j) (share_of lent_half masks0 j) → shares1' ≡ put shares1 (8 * n * j) (share_of other_half masks1 j) → claims' ≡ put claims (n * j) (claim_of j)
          → Sent shares0₀ shares1₀ claims₀ (j + 1) shares0' shares1' claims' w'
      sent_more shares0' shares1' claims' w' k0 k1 kc kw e0 e1 ec =
          let a = room_fits in
          record {
            long = kw ∙ r.long;
            lent =
                at_more (8 * n) j
                (filled_more (share_of lent_half masks0) shares0₀ 0 j (8 * n * j) (8 * n) shares0 shares0' r.lent (share_sized lent_half masks0 j) (omega (arith, a.shares0, r.lent.long)) k0 e0);
            others =
                at_more (8 * n) j
                (filled_more (share_of other_half masks1) shares1₀ 0 j (8 * n * j) (8 * n) shares1 shares1' r.others (share_sized other_half masks1 j) (omega (arith, a.shares1, r.others.long)) k1 e1);
            votes = at_more n j (filled_more claim_of claims₀ 0 j (n * j) n claims claims' r.votes (claim_sized j) (omega (arith, a.claims, r.votes.long)) kc ec);
          }

    module _ (l0 : length shares0₀ ≡ 8 * n * count) (l1 : length shares1₀ ≡ 8 * n * count) (lc : length claims₀ ≡ n * count) (j : ℕ) (shares0 shares1 claims w : Bytes)
        (r : Sent shares0₀ shares1₀ claims₀ j shares0 shares1 claims w) (done : j ≡ count) where
      pub sent_all : (shares0 ≡ shares_bytes q n p count secrets s0 masks0 ballots 0) × (shares1 ≡ shares_bytes q n p count secrets s0 masks1 ballots 1) × (claims ≡ claims_bytes q n p count secrets ballots)
      sent_all = (
        filled_all (share_of lent_half masks0) shares0₀ shares0 j (8 * n * j) count r.lent done (shares_long lent_half masks0 count ∙ sym l0),
        filled_all (share_of other_half masks1) shares1₀ shares1 j (8 * n * j) count r.others done (shares_long other_half masks1 count ∙ sym l1),
        filled_all claim_of claims₀ claims j (n * j) count r.votes done (claims_long count ∙ sym lc),
      )
