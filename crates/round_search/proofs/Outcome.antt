-- What is answered and written by what differs, what is zero and what is not; and the same by a sheet. Assumes nothing.
use mathlib.Core.Path.{◌≡◌, refl, sym, ap, ◌∙◌}
use mathlib.Core.Logic.{◌≢◌}
use mathlib.Core.Bool.{Bool, true, false, cond, not}
use mathlib.Core.List.{List, ◌++◌}
use Prim.Native.Nat.{ℕ, ◌-◌, ◌*◌, ◌<◌}
use native.Mathlib.Omega.{arith}
use lib.Dec.{ltb}
use lib.ListN.{take, drop}
use Rattle.codec.specs.Bytes.{Bytes, part, zeros, same}
use Rattle.ring.specs.Poly.{modulo}
use Rattle.ring.specs.Slots.{encode}
use Rattle.sheet_numbers.specs.declared.Numbers.{Numbers}
use Rattle.commitment.specs.Commitment.{Three, keys_of}
use Rattle.commitment.specs.Loaded as commitment
use Rattle.stern.specs.Argument.{one_by2, one_by3, two_by1, two_by3, three_by1, three_by2}
use Rattle.stern.specs.Shortness.{polynomial, setting, answer1_of, answer2_of, answer3_of}
use Rattle.commitment.specs.Parameters.{Parameters, parameters}
use Rattle.commitment.proofs.Cut.{keys_cut}
use Rattle.round.specs.Extractor.{Openings, openings_of, three_bytes, is_zero, ternary_bytes, open0, open1, argument, read1, read2, read3, unknowns, vector_s, vector_e, kind, extracted}
use Rattle.round.proofs.ExtractionWritten.{collision_written}
use Rattle.round_search.specs.Internal.{Finds, unknowns_of, less_unknowns, excess, solved, written_vectors, vector_at, recovered_key, solved_by, written_by}
use Rattle.round_collision.specs.Internal.{differing}
use Rattle.round_search.proofs.Unknowns.{told_excess}

-- ---- the two vectors, in order, of the r of two openings

module _ (q N : ℕ) (o0 o1 : Bytes) (z : List ℕ) where
  module _ (r1 : Bool) (d1 : Bytes) (y1 : r1 ≡ same d1 (zeros (24 * N)))
      (e1 : d1 ≡ encode (3 * N) (modulo q (excess q N (part o0 (16 * N) (3 * N)) (part o1 (16 * N) (3 * N)) z (2 * N)))) where
    first : (r1 ≡ is_zero q N (vector_at q N o0 o1 z (16 * N) 2)) × (d1 ≡ three_bytes q N (vector_at q N o0 o1 z (16 * N) 2))
    first = told_excess q N o0 o1 z (16 * N) 2 (2 * N) (omega arith) r1 d1 y1 e1

    pub s_nonzero : r1 ≡ false → (4 ≡ solved_by q N o0 o1 z) × (d1 ≡ written_by q N o0 o1 z)
    unfolding solved written_vectors
    s_nonzero n1 = rw (← first.0, n1) (refl, first.1)

    module _ (n1 : r1 ≡ true) (r2 : Bool) (d2 : Bytes) (y2 : r2 ≡ same d2 (zeros (24 * N)))
        (e2 : d2 ≡ encode (3 * N) (modulo q (excess q N (part o0 (19 * N) (3 * N)) (part o1 (19 * N) (3 * N)) z (8 * N)))) where
      second : (r2 ≡ is_zero q N (vector_at q N o0 o1 z (19 * N) 8)) × (d2 ≡ three_bytes q N (vector_at q N o0 o1 z (19 * N) 8))
      second = told_excess q N o0 o1 z (19 * N) 8 (8 * N) (omega arith) r2 d2 y2 e2

      pub e_nonzero : r2 ≡ false → (5 ≡ solved_by q N o0 o1 z) × (d2 ≡ written_by q N o0 o1 z)
      unfolding solved written_vectors
      e_nonzero n2 = rw (← first.0, n1, ← second.0, n2) (refl, second.1)

      pub both_zero : r2 ≡ true → (6 ≡ solved_by q N o0 o1 z) × (recovered_key q N o0 o1 z ≡ written_by q N o0 o1 z)
      unfolding solved written_vectors
      both_zero n2 = rw (← first.0, n1, ← second.0, n2) (refl, refl)

-- ---- the kind and the output

module _ (P : Parameters) (m : ℕ) (x : Openings) where
  open P use {q, N, k}

  abbrev agree1 : Bool
  agree1 = same (one_by2 (argument P m x) (read2 P m x)) (one_by3 (argument P m x) (read3 P m x))

  abbrev agree2 : Bool
  agree2 = same (two_by1 (argument P m x) (read1 P m x)) (two_by3 (argument P m x) (read3 P m x))

  abbrev agree3 : Bool
  agree3 = same (three_by1 (argument P m x) (read1 P m x)) (three_by2 (argument P m x) (read2 P m x))

  abbrev lowest : ℕ
  lowest = differing (argument P m x) (read1 P m x) (read2 P m x) (read3 P m x)

  abbrev key_bytes : Bytes
  key_bytes = ternary_bytes q N (polynomial N (unknowns P m x) 0) ++ (ternary_bytes q N (polynomial N (unknowns P m x) 1) ++ zeros (22 * N))

  -- a digest's strings differ
  by_digest : (b1 b2 b3 : Bool) (rest d : ℕ) → d ≡ cond (not b1) 1 (cond (not b2) 2 (cond (not b3) 3 0)) → d ≢ 0 → (d ≡ cond (not b1) 1 (cond (not b2) 2 (cond (not b3) 3 rest))) × (d < 4)
  by_digest false b2 b3 rest d e h = (e, omega arith)
  by_digest true false b3 rest d e h = (e, omega arith)
  by_digest true true false rest d e h = (e, omega arith)
  by_digest true true true rest d e h = absurd (h e)

  digest_found : (d : ℕ) → d ≡ lowest → d ≢ 0 → (d ≡ kind P m x) × (zeros (24 * N) ≡ extracted P m x)
  unfolding differing kind solved
  digest_found d e h =
      let r = by_digest agree1 agree2 agree3 (solved q N (vector_s P m x) (vector_e P m x)) d e h in
      (r.0, sym (collision_written P m x (rw (← r.0) r.1)))

  -- no digest's strings differ
  by_vectors : (b1 b2 b3 : Bool) (rest : ℕ) → ◌≡◌ {A = ℕ} 0 (cond (not b1) 1 (cond (not b2) 2 (cond (not b3) 3 0))) → rest ≡ cond (not b1) 1 (cond (not b2) 2 (cond (not b3) 3 rest))
  by_vectors false b2 b3 rest e = absurd (omega arith)
  by_vectors true false b3 rest e = absurd (omega arith)
  by_vectors true true false rest e = absurd (omega arith)
  by_vectors true true true rest e = refl

  by_kind : (z s e y : Bytes) (b4 b5 : Bool) (n : ℕ) → cond (not b4) 4 (cond (not b5) 5 6) ≡ n → cond (not b4) s (cond (not b5) e y) ≡ cond (ltb n 4) z (cond (ltb n 5) s (cond (ltb n 6) e y))
  by_kind z s e y false b5 n h = rw (← h)
  by_kind z s e y true false n h = rw (← h)
  by_kind z s e y true true n h = rw (← h)

  none_found : 0 ≡ lowest → solved q N (vector_s P m x) (vector_e P m x) ≡ kind P m x
  unfolding differing kind solved
  none_found e = by_vectors agree1 agree2 agree3 (solved q N (vector_s P m x) (vector_e P m x)) e

  none_written : 0 ≡ lowest → written_vectors q N (vector_s P m x) (vector_e P m x) key_bytes ≡ extracted P m x
  unfolding extracted solved written_vectors
  none_written e = by_kind (zeros (24 * N)) (three_bytes q N (vector_s P m x)) (three_bytes q N (vector_e P m x)) key_bytes (is_zero q N (vector_s P m x)) (is_zero q N (vector_e P m x)) (kind P m x) (none_found e)

  -- the same where the pairs of the head, and extended + R and R, are lent with lengths that are differences of places
  module _ (i d : ℕ) (ei : i ≡ 64 * N) (ed : d ≡ differing (setting q N k (take i (drop (16 * N) x.head))) (read1 P m x) (read2 P m x) (read3 P m x)) where
    lent_digest : d ≡ lowest
    lent_digest = ed ∙ ap (λ (j : ℕ). differing (setting q N k (take j (drop (16 * N) x.head))) (read1 P m x) (read2 P m x) (read3 P m x)) ei

    lent_found : d ≢ 0 → (d ≡ kind P m x) × (zeros (24 * N) ≡ extracted P m x)
    lent_found h = digest_found d lent_digest h

    abbrev z : ℕ → List ℕ
    z j = unknowns_of q N (take j (drop (168 * N) x.answer2)) (take j (drop (168 * N) x.answer3))

    abbrev for_s : ℕ → Three
    for_s j = less_unknowns q N (open0 P m x).rs (open1 P m x).rs (z j) 2

    abbrev for_e : ℕ → Three
    for_e j = less_unknowns q N (open0 P m x).re (open1 P m x).re (z j) 8

    lent_solved : d ≡ 0 → (j r : ℕ) (out : Bytes) → j ≡ 336 * N → r ≡ solved q N (for_s j) (for_e j)
        → out ≡ written_vectors q N (for_s j) (for_e j) (ternary_bytes q N (polynomial N (z j) 0) ++ (ternary_bytes q N (polynomial N (z j) 1) ++ zeros (22 * N)))
        → (r ≡ kind P m x) × (out ≡ extracted P m x)
    lent_solved h j r out e er eo =
        let none : 0 ≡ lowest = sym h ∙ lent_digest in (
          er ∙ ap (λ (l : ℕ). solved q N (for_s l) (for_e l)) e ∙ none_found none,
          eo ∙ ap (λ (l : ℕ). written_vectors q N (for_s l) (for_e l) (ternary_bytes q N (polynomial N (z l) 0) ++ (ternary_bytes q N (polynomial N (z l) 1) ++ zeros (22 * N)))) e ∙ none_written none,
        )

-- ---- by a sheet's numbers and polynomials, whose keys are lent on

module _ (k : Numbers) (s head opening0 opening1 answer1 answer2 answer3 : Bytes) where
  abbrev n : ℕ
  n = k.ring

  abbrev digest_by : (keys : Bytes) → ℕ
  digest_by keys = differing (setting k.modulus n (keys_of n keys) (take (80 * n - 16 * n) (drop (16 * n) head))) (answer1_of n answer1) (answer2_of n answer2) (answer3_of n answer3)

  -- what is lent beside them
  abbrev lent : (shares0 shares1 ballots claims : Bytes) (repetition : ℕ) → Openings
  lent shares0 shares1 ballots claims repetition = openings_of head shares0 shares1 ballots claims opening0 opening1 repetition answer1 answer2 answer3

  module _ {d : ℕ} (e : d ≡ digest_by (take (40 * n - 16 * n) (drop (16 * n) s))) where
    keyed : d ≡ digest_by (commitment.key_bytes k s)
    keyed = e ∙ ap digest_by (keys_cut k s)

    pub finds_digest : {out : Bytes} → d ≢ 0 → out ≡ zeros (24 * n) → Finds (parameters k s) head opening0 opening1 answer1 answer2 answer3 d out
    finds_digest h o = record {
      kind_is = λ m a b c f i. (lent_found (parameters k s) m (lent a b c f i) (80 * n - 16 * n) d (omega arith) keyed h).0;
      out_is = λ m a b c f i. o ∙ (lent_found (parameters k s) m (lent a b c f i) (80 * n - 16 * n) d (omega arith) keyed h).1;
    }

    abbrev unknown_numbers : List ℕ
    unknown_numbers = unknowns_of k.modulus n (take (504 * n - 168 * n) (drop (168 * n) answer2)) (take (504 * n - 168 * n) (drop (168 * n) answer3))

    pub finds_solved : {r : ℕ} {out : Bytes} → d ≡ 0 → r ≡ solved_by k.modulus n opening0 opening1 unknown_numbers → out ≡ written_by k.modulus n opening0 opening1 unknown_numbers
        → Finds (parameters k s) head opening0 opening1 answer1 answer2 answer3 r out
    finds_solved {r} {out} h er eo = record {
      kind_is = λ m a b c f i. (lent_solved (parameters k s) m (lent a b c f i) (80 * n - 16 * n) d (omega arith) keyed h (504 * n - 168 * n) r out (omega arith) er eo).0;
      out_is = λ m a b c f i. (lent_solved (parameters k s) m (lent a b c f i) (80 * n - 16 * n) d (omega arith) keyed h (504 * n - 168 * n) r out (omega arith) er eo).1;
    }
