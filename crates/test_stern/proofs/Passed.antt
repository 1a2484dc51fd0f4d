-- What is known of the lent slices where a call is taken. Assumes nothing.
use mathlib.Core.Path.{◌≡◌, sym, ap, ◌∙◌}
use mathlib.Core.Bool.{true}
use mathlib.Core.List.{List}
use Prim.Native.Nat.{ℕ, ◌+◌, ◌*◌, ◌/◌, ◌^◌, ◌≤◌, ◌<◌}
use native.Mathlib.Nat.{zero-add}
use native.Mathlib.Omega.{arith}
use borrow.Author.Tests.{leb-true, ltb-true, eqb-true, not-false}
use lib.Dec.{leb, ltb}
use lib.ListN.{length, length-append}
use Rattle.codec.specs.Bytes.{Bytes, part, same}
use Rattle.codec.specs.Reply.{Taken}
use Rattle.codec.proofs.Laws.{both, length_part}
use Rattle.codec.proofs.Replies.{taken_exactly}
use Rattle.codec.specs.Lists.{all_below}
use Rattle.sha3.proofs.Squeezing.{length_sha3}
use Rattle.ring.specs.Poly.{Below}
use Rattle.ring.specs.Slots.{poly, slot}
use Rattle.ring.proofs.Bridge.{poly_part, slot_later, slot_poly}
use Rattle.ring.proofs.Ranges.{below_sound}
use Rattle.scratch.specs.Internal.{Polynomial}
use Rattle.scratch.proofs.Order.{length_at}
use Rattle.commitment.specs.Commitment.{Keys}
use Rattle.commitment.specs.Internal.{PublicKeys}
use Rattle.vector.specs.Vector.{vector}
use Rattle.stern.specs.Argument.{Drawn}
use Rattle.stern.specs.Shortness.{answer_length, honest_digests}
use Rattle.stern.specs.Internal.{RepetitionMaterial}
use Rattle.test_stern.specs.Calls.{ring_fits, lengths, wanted, digests_reply, answer_reply}

-- ---- plain numbers

pub record Ring (n q : ℕ) : Type 0 where
  pub ring_low : 4 ≤ n
  pub ring_high : n ≤ 2048
  pub modulus_low : 3 ≤ q
  pub modulus_high : q < 2 ^ 56

pub ring : (n q : ℕ) → ring_fits n q ≡ true → Ring n q
unfolding ring_fits
ring n q e =
    let a = both (leb 4 n) _ e in
    let b = both (leb n 2048) _ a.1 in
    let c = both (leb 3 q) (ltb q (2 ^ 56)) b.1 in
    record { ring_low = leb-true 4 n a.0; ring_high = leb-true n 2048 b.0; modulus_low = leb-true 3 q c.0; modulus_high = ltb-true q (2 ^ 56) c.1 }

-- ---- the keys

module _ (n q : ℕ) (fits : Ring n q) (k : Bytes) (sized : length k ≡ 24 * n) (below : all_below q (vector k) ≡ true) where
  ranged : Below q (length k / 8) (poly k)
  unfolding vector
  ranged = below_sound q (length k / 8) (poly k) below

  -- one of the three, from a number on
  key : (m from : ℕ) → from ≡ 8 * m → m + n ≤ 3 * n → Polynomial n q (part k from (8 * n))
  key m from place h = record {
    ring_low = fits.ring_low;
    ring_high = fits.ring_high;
    modulus_low = fits.modulus_low;
    modulus_high = fits.modulus_high;
    sized = length_part k from (8 * n) (omega arith);
    below = record { at = λ j l. rw (poly_part k from n j l ∙ ap (λ (x : ℕ). slot k x j) (place ∙ sym (zero-add (8 * m))) ∙ slot_later k 0 m j ∙ slot_poly k (m + j)) (ranged.at (m + j) (omega arith)) };
  }

  pub public_keys : PublicKeys n q k
  public_keys = record { sized = sized; one = key 0 0 (omega arith) (omega arith); two = key n (8 * n) (omega arith) (omega arith); three = key (2 * n) (16 * n) (omega arith) (omega arith) }

-- ---- what is lent for a repetition

module _ (n q : ℕ) (x r p salts out w : Bytes) where
  pub record Lent (room : ℕ) : Type 0 where
    pub fits : Ring n q
    pub material : RepetitionMaterial q n x r p salts
    pub output : length out ≡ room
    pub scratch : length w ≡ 1048576

  pub digests_passed : (k : Bytes) → digests_reply n q k x r p salts out w ≡ Taken → PublicKeys n q k × Lent 96
  unfolding digests_reply
  digests_passed k e =
      let f = (taken_exactly _).0 e in
      let fits = ring n q (not-false _ f.0) in
      let l : same (lengths x r p salts out w) (wanted n 96) ≡ true = not-false _ f.1.1.0 in
      let at : List ℕ = lengths x r p salts out w in
      let to : List ℕ = wanted n 96 in (
        public_keys n q fits k (eqb-true (length k) (24 * n) (not-false _ f.1.0)) (not-false _ f.1.1.1.0),
        record {
          fits = fits;
          material = record {
            size_x = length_at at to 0 l;
            size_r = length_at at to 1 l;
            size_p = length_at at to 2 l;
            size_salts = length_at at to 3 l;
            below = not-false _ f.1.1.1.1.1.0;
            permutes = not-false _ f.1.1.1.1.1.1.0;
          };
          output = length_at at to 4 l;
          scratch = length_at at to 5 l;
        },
      )

  pub answer_passed : (challenge : ℕ) → answer_reply n q challenge x r p salts out w ≡ Taken → Lent (answer_length n challenge)
  unfolding answer_reply
  answer_passed challenge e =
      let f = (taken_exactly _).0 e in
      let at : List ℕ = lengths x r p salts out w in
      let to : List ℕ = wanted n (answer_length n challenge) in
      let l : same at to ≡ true = not-false _ f.1.0 in
      record {
        fits = ring n q (not-false _ f.0);
        material = record {
          size_x = length_at at to 0 l;
          size_r = length_at at to 1 l;
          size_p = length_at at to 2 l;
          size_salts = length_at at to 3 l;
          below = not-false _ f.1.1.1.0;
          permutes = not-false _ f.1.1.1.1.0;
        };
        output = length_at at to 4 l;
        scratch = length_at at to 5 l;
      }

-- the digests of a repetition are 96 bytes
pub digests_length : (q n : ℕ) (k : Keys) (x : Bytes) (drawn : Drawn) → length (honest_digests q n k x drawn) ≡ 96
digests_length q n k x drawn = simp (length-append, length_sha3)
