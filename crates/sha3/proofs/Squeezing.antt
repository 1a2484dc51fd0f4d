-- The digest: 32 bytes, and four lanes that are written one after another. Assumes nothing.
use mathlib.Core.Path.{◌≡◌, sym, ap, ◌∙◌}
use mathlib.Core.List.{◌++◌, append_assoc}
use Prim.Native.Nat.{ℕ, ◌+◌, ◌%◌, ◌≤◌}
use native.Mathlib.Omega.{arith}
use lib.ListN.{length, length-append}
use Rattle.codec.specs.Bytes.{Bytes, Octets, bytes, put}
use Rattle.codec.proofs.Laws.{put_append, put_whole, octets_append}
use Rattle.codec.proofs.Numbers.{length_bytes, bytes_octets}
use Rattle.keccak.specs.Keccak.{StateArray, lane}
use Rattle.sha3.specs.Absorb.{absorb, zero_state}
use Rattle.sha3.specs.Sponge.{padding, squeeze, sha3}

length_squeeze : (s : StateArray) → length (squeeze s) ≡ 32
unfolding squeeze
length_squeeze s = simp (length-append, length_bytes)

pub length_sha3 : (m : Bytes) → length (sha3 m) ≡ 32
unfolding sha3
length_sha3 m = length_squeeze (absorb zero_state 0 (m ++ padding (length m % 136)))

octets_squeeze : (s : StateArray) → Octets (squeeze s)
unfolding squeeze
octets_squeeze s =
    let l : (x : ℕ) → Octets (bytes 8 (lane s x 0)) = λ x. bytes_octets 8 (lane s x 0) in
    let b = bytes 8 (lane s 1 0) in
    let c = bytes 8 (lane s 2 0) in
    let d = bytes 8 (lane s 3 0) in
    octets_append (bytes 8 (lane s 0 0)) (b ++ (c ++ d)) (l 0) (octets_append b (c ++ d) (l 1) (octets_append c d (l 2) (l 3)))

pub octets_sha3 : (m : Bytes) → Octets (sha3 m)
unfolding sha3
octets_sha3 m = octets_squeeze (absorb zero_state 0 (m ++ padding (length m % 136)))

-- 8 bytes after the n that were written
after : (o a : Bytes) (n v : ℕ) → length a ≡ n → n + 8 ≤ length o → put (put o 0 a) n (bytes 8 v) ≡ put o 0 (a ++ bytes 8 v)
after o a n v e l =
    let k : n ≡ 0 + length a = omega arith in
    let w = length_bytes 8 v in
    ap (λ (i : ℕ). put (put o 0 a) i (bytes 8 v)) k ∙ put_append o 0 a (bytes 8 v) (omega arith)

pub squeezed : (o : Bytes) (s : StateArray) → length o ≡ 32
    → put (put (put (put o 0 (bytes 8 (lane s 0 0))) 8 (bytes 8 (lane s 1 0))) 16 (bytes 8 (lane s 2 0))) 24 (bytes 8 (lane s 3 0)) ≡ squeeze s
unfolding squeeze
squeezed o s l =
    let a = bytes 8 (lane s 0 0) in
    let b = bytes 8 (lane s 1 0) in
    let c = bytes 8 (lane s 2 0) in
    let d = bytes 8 (lane s 3 0) in
    ap (λ (t : Bytes). put (put t 16 c) 24 d) (after o a 8 (lane s 1 0) (length_bytes 8 (lane s 0 0)) (omega arith))
    ∙ ap (λ (t : Bytes). put t 24 d) (after o (a ++ b) 16 (lane s 2 0) (simp (length-append, length_bytes)) (omega arith))
    ∙ after o ((a ++ b) ++ c) 24 (lane s 3 0) (simp (length-append, length_bytes)) (omega arith)
    ∙ put_whole o (((a ++ b) ++ c) ++ d) (simp (length-append, length_bytes) (sym l))
    ∙ simp append_assoc
