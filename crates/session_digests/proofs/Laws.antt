-- Laws of the digests: each is 32 bytes; the digests of ballots are one for each, and those of ballots that stand one after the other are the digests of each of them.
-- Assumes nothing.
use mathlib.Core.Path.{◌≡◌, refl, sym, ap, ap₂, ◌∙◌}
use mathlib.Core.List.{List, [], ◌∷◌, ◌++◌, map, map-append, append-nil, append_assoc, flatten}
use Prim.Native.Nat.{ℕ, zero, suc, ◌+◌, ◌*◌, ◌≤◌, ◌<◌}
use native.Mathlib.Nat.{mul-suc, mul-zero}
use native.Mathlib.Omega.{arith}
use lib.ListN.{length, take, drop, get_or, length-append}
use lib.Seq.{take_at, take-suc, take-length, drop-append-add}
use Rattle.codec.specs.Bytes.{Bytes, bytes, part}
use Rattle.sha3.specs.Sponge.{sha3}
use Rattle.sha3.proofs.Squeezing.{length_sha3}
use Rattle.session_digests.specs.Digests.{ballot_digests, closing_digest, claim_digest, round_digest}

-- ---- strings one after the other

pub flatten_append : (ss ts : List Bytes) → flatten (ss ++ ts) ≡ flatten ss ++ flatten ts
unfolding flatten
flatten_append [] ts = refl
flatten_append (s ∷ ss) ts = ap (λ (u : Bytes). s ++ u) (flatten_append ss ts) ∙ sym (append_assoc s (flatten ss) (flatten ts))

pub flatten_more : (ss : List Bytes) (s : Bytes) → flatten (ss ++ (s ∷ [])) ≡ flatten ss ++ s
unfolding flatten
flatten_more ss s = flatten_append ss (s ∷ []) ∙ ap (λ (u : Bytes). flatten ss ++ u) (append-nil s)

-- ---- lengths

pub length_closing_digest : (sheet : Bytes) (ds : List Bytes) → length (closing_digest sheet ds) ≡ 32
unfolding closing_digest
length_closing_digest sheet ds = length_sha3 _

pub length_claim_digest : (closing claims : Bytes) → length (claim_digest closing claims) ≡ 32
unfolding claim_digest
length_claim_digest closing claims = length_sha3 _

pub length_round_digest : (claim : Bytes) (round : ℕ) (head shares0 shares1 : Bytes) → length (round_digest claim round head shares0 shares1) ≡ 32
unfolding round_digest
length_round_digest claim round head shares0 shares1 = length_sha3 (claim ++ (bytes 2 round ++ (head ++ (shares0 ++ shares1))))

pub length_ballot_digests : (size m : ℕ) (ballots : Bytes) → length (ballot_digests size m ballots) ≡ m
unfolding ballot_digests
length_ballot_digests size zero ballots = refl
length_ballot_digests size (suc m) ballots = simp length-append (omega (arith, length_ballot_digests size m ballots))

-- ---- ballots of one length

-- each string has that length
abbrev pub Long : ℕ → List Bytes → Type 0
Long size [] = Unit
Long size (s ∷ ss) = (length s ≡ size) × Long size ss

-- the k-th stands at its place
part_flatten : (size : ℕ) (bs : List Bytes) (k : ℕ) → Long size bs → k < length bs → part (flatten bs) (size * k) size ≡ get_or bs k []
unfolding flatten
part_flatten size [] k h l = absurd (omega arith)
part_flatten size (b ∷ bs) zero h l = rw (mul-zero size) (take_at b (flatten bs) size h.0)
part_flatten size (b ∷ bs) (suc k) h l =
    let e : size * suc k ≡ length b + size * k = omega (arith, mul-suc size k, h.0) in
    ap (take size) (ap (λ (n : ℕ). drop n (b ++ flatten bs)) e ∙ drop-append-add b (flatten bs) (size * k))
    ∙ part_flatten size bs k h.1 (omega arith)

first_digests : (size : ℕ) (bs : List Bytes) (k : ℕ) → Long size bs → k ≤ length bs → ballot_digests size k (flatten bs) ≡ map sha3 (take k bs)
unfolding ballot_digests
first_digests size bs zero h l = refl
first_digests size bs (suc k) h l =
    ap₂ (λ (ds : List Bytes) (b : Bytes). ds ++ (sha3 b ∷ [])) (first_digests size bs k h (omega arith)) (part_flatten size bs k h (omega arith))
    ∙ sym (map-append sha3 (take k bs) (get_or bs k [] ∷ []))
    ∙ ap (map sha3) (sym (take-suc bs k [] (omega arith)))

pub ballot_digests_flatten : (size : ℕ) (bs : List Bytes) → Long size bs → ballot_digests size (length bs) (flatten bs) ≡ map sha3 bs
ballot_digests_flatten size bs h = first_digests size bs (length bs) h (omega arith) ∙ ap (map sha3) (take-length bs)
