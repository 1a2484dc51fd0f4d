-- Extraction (the third demand, first part): where no test of the extractor holds, its answer is two different strings with one SHA3-256, a short vector on which the
-- commitment row is zero, or the key, under which every ballot with noise within D decrypts to its claim. Assumes nothing.
use mathlib.Core.Path.{◌≡◌, refl, sym, ◌∙◌}
use mathlib.Core.Bool.{Bool, true, false, cond, not}
use Prim.Native.Nat.{ℕ, ◌+◌, ◌*◌, ◌^◌, ◌≤◌, ◌<◌}
use native.Mathlib.Omega.{arith}
use Rattle.codec.specs.Bytes.{same}
use Rattle.codec.specs.Reply.{None}
use Rattle.codec.proofs.Laws.{same_equal}
use Rattle.codec.proofs.Lists.{list_cong}
use Rattle.ring.specs.Poly.{Poly, plus, Alike}
use Rattle.ring.specs.Slots.{slot}
use Rattle.ring.proofs.Polynomials.{alike_eq, alike_sym, alike_refl, ◌so◌, alike_plus}
use Rattle.bgv.specs.Scheme.{Small, noise_in, decrypted, recovered_mask, reconstructed}
use Rattle.bgv.specs.Internal.{Sound}
use Rattle.bgv.proofs.Form.{noisy_adds, noisy_alike}
use Rattle.bgv.proofs.Round.{share_worked, reconstructs}
use Rattle.commitment.specs.Commitment.{pair_of}
use Rattle.vector.specs.Vector.{vector}
use Rattle.stern.specs.Argument.{one_by2, one_by3, two_by1, two_by3, three_by1, three_by2}
use Rattle.stern.specs.Internal.{Passes1, Passes2, Passes3, Extracted, broken1, broken2, broken3, found}
use Rattle.stern.specs.Shortness.{polynomial, first_of}
use Rattle.stern.specs.Claims.{Meets}
use Rattle.stern.proofs.FourEquations.{setting_valid}
use Rattle.stern.proofs.Sound.{extract}
use Rattle.stern.proofs.Extraction.{none_passes1, none_passes2, none_passes3, solves_meets}
use Rattle.round.specs.Layout.{u_at, v_at, share_at, pair_at}
use Rattle.commitment.specs.Parameters.{Parameters}
use Rattle.round.specs.Extractor.{Openings, Lent, is_zero, pairs, digests, open0, open1, extract_tests, argument, read1, read2, read3, unknowns, vector_s, vector_e, kind, Collision, Key, Found, collision1, collision2, collision3, short_s, short_e, secret}
use Rattle.round.specs.OpeningsAccepted.{OpeningsAccepted}
use Rattle.round.proofs.Ranged.{each_exactly}
use Rattle.round.proofs.Tests.{differ, pair_half}
use Rattle.round.proofs.OpeningsAccepted.{groups, openings_exactly}
use Rattle.round.proofs.ExtractionVectors.{Decided, vector_decides}

module _ (P : Parameters) (m : ℕ) (x : Openings) where
  open P use {q, N, p, D, B, a, k}

  module _ (three : 2 < q) (fits : q ≤ 2 ^ 64) (lent : Lent P m x) where
    module _ (none : None (extract_tests P m x)) where
      -- ---- the tests, group by group

      accepted : OpeningsAccepted P m x
      accepted = (openings_exactly P m x (omega arith) fits lent).0 none

      passes1 : Passes1 (argument P m x) (first_of (digests P m x)) (read1 P m x)
      passes1 = none_passes1 q N k (pairs P m x) (digests P m x) x.repetition x.answer1 lent.answer1 ((each_exactly q (vector (read1 P m x).t)).1 (accepted.in_range.answer1.to1 refl)) (groups P m x none).2

      passes2 : Passes2 (argument P m x) (first_of (digests P m x)) (read2 P m x)
      passes2 = none_passes2 q N k (pairs P m x) (digests P m x) x.repetition x.answer2 lent.answer2 ((each_exactly q (vector (read2 P m x).u)).1 (accepted.in_range.answer2.to2 refl)) (groups P m x none).3

      passes3 : Passes3 (argument P m x) (first_of (digests P m x)) (read3 P m x)
      passes3 = none_passes3 q N k (pairs P m x) (digests P m x) x.repetition x.answer3 lent.answer3 ((each_exactly q (vector (read3 P m x).r)).1 (accepted.in_range.answer3.to3 refl)) (groups P m x none).4

      -- equal strings give unknowns that meet the equations
      meets : one_by2 (argument P m x) (read2 P m x) ≡ one_by3 (argument P m x) (read3 P m x) → two_by1 (argument P m x) (read1 P m x) ≡ two_by3 (argument P m x) (read3 P m x) → three_by1 (argument P m x) (read1 P m x) ≡ three_by2 (argument P m x) (read2 P m x) → Meets q N k (pairs P m x) (unknowns P m x)
      meets e1 e2 e3 = go (extract (argument P m x) (setting_valid q N k (pairs P m x) three fits) (first_of (digests P m x)) (read1 P m x) (read2 P m x) (read3 P m x) passes1 passes2 passes3)
        where
          go : Extracted (argument P m x) (read1 P m x) (read2 P m x) (read3 P m x) → Meets q N k (pairs P m x) (unknowns P m x)
          go (broken1 c) = absurd (c.differ e1)
          go (broken2 d1 c) = absurd (c.differ e2)
          go (broken3 d1 d2 c) = absurd (c.differ e3)
          go (found d1 d2 d3 y) = solves_meets q N k (pairs P m x) three (unknowns P m x) y

      -- ---- collisions

      collides1 : same (one_by2 (argument P m x) (read2 P m x)) (one_by3 (argument P m x) (read3 P m x)) ≡ false → Collision (one_by2 (argument P m x) (read2 P m x)) (one_by3 (argument P m x) (read3 P m x))
      collides1 e = record { differ = differ (one_by2 (argument P m x) (read2 P m x)) (one_by3 (argument P m x) (read3 P m x)) e; collide = sym passes2.opens1 ∙ passes3.opens1 }

      collides2 : same (two_by1 (argument P m x) (read1 P m x)) (two_by3 (argument P m x) (read3 P m x)) ≡ false → Collision (two_by1 (argument P m x) (read1 P m x)) (two_by3 (argument P m x) (read3 P m x))
      collides2 e = record { differ = differ (two_by1 (argument P m x) (read1 P m x)) (two_by3 (argument P m x) (read3 P m x)) e; collide = sym passes1.d2 ∙ passes3.opens }

      collides3 : same (three_by1 (argument P m x) (read1 P m x)) (three_by2 (argument P m x) (read2 P m x)) ≡ false → Collision (three_by1 (argument P m x) (read1 P m x)) (three_by2 (argument P m x) (read2 P m x))
      collides3 e = record { differ = differ (three_by1 (argument P m x) (read1 P m x)) (three_by2 (argument P m x) (read2 P m x)) e; collide = sym passes1.d3 ∙ passes2.opens }

      -- ---- vectors, and the key

      module _ (ok : Sound q p D B) (solved : Meets q N k (pairs P m x) (unknowns P m x)) where
        abbrev f : Poly
        f = polynomial N (unknowns P m x) 0

        abbrev g : Poly
        g = polynomial N (unknowns P m x) 1

        -- two halves of pairs added: in the first message, and among the four
        halves : (i j at to to' : ℕ) → to ≡ 16 * N * i + at → to' ≡ 16 * N * j + at → at + 8 * N ≤ 16 * N → to + 8 * N ≤ 64 * N → to' + 8 * N ≤ 64 * N
            → Alike q N (plus (slot (pairs P m x) to) (slot (pairs P m x) to')) (plus (slot (pair_at N x.head i) at) (slot (pair_at N x.head j) at))
        halves i j at to to' e e' l h h' = alike_sym (alike_plus (pair_half N x.head i at to e l h) (pair_half N x.head j at to' e' l h'))

        for_s : Decided P m x (vector_s P m x) (open0 P m x).s (open1 P m x).s f
        for_s =
            vector_decides P m x ok.odd three fits solved (open0 P m x).rs (open1 P m x).rs 2 5 0 (omega arith) (omega arith)
            (pair_of N (pair_at N x.head 0)) (pair_of N (pair_at N x.head 1)) (open0 P m x).s (open1 P m x).s accepted.side0.s_committed accepted.side1.s_committed
            (solved.one_s so halves 0 1 0 0 (16 * N) (omega arith) (omega arith) (omega arith) (omega arith) (omega arith))
            (solved.two_s so halves 0 1 (8 * N) (8 * N) (24 * N) (omega arith) (omega arith) (omega arith) (omega arith) (omega arith))

        for_e : Decided P m x (vector_e P m x) (open0 P m x).e (open1 P m x).e g
        for_e =
            vector_decides P m x ok.odd three fits solved (open0 P m x).re (open1 P m x).re 8 11 1 (omega arith) (omega arith)
            (pair_of N (pair_at N x.head 2)) (pair_of N (pair_at N x.head 3)) (open0 P m x).e (open1 P m x).e accepted.side0.e_committed accepted.side1.e_committed
            (solved.one_e so halves 2 3 0 (32 * N) (48 * N) (omega arith) (omega arith) (omega arith) (omega arith) (omega arith))
            (solved.two_e so halves 2 3 (8 * N) (40 * N) (56 * N) (omega arith) (omega arith) (omega arith) (omega arith) (omega arith))

        key_found : Alike q N (plus (open0 P m x).s (open1 P m x).s) f → Alike q N (plus (open0 P m x).e (open1 P m x).e) g → Key P m x f g
        key_found sums errors = record {
          short_s = record { at = solved.small 0 (omega arith) };
          short_e = record { at = solved.small 1 (omega arith) };
          matches = noisy_alike q N p alike_refl (alike_sym sums) (alike_sym errors)
              so alike_eq (noisy_adds q N p a (open0 P m x).s (open1 P m x).s (open0 P m x).e (open1 P m x).e)
              so alike_sym (alike_plus accepted.side0.key_opened accepted.side1.key_opened)
              so accepted.key_splits;
          opens = λ j l noise. sym (accepted.side0.claimed j l ∙ list_cong N (decrypts j l noise));
        }
          where
            decrypts : (j : ℕ) → j < m → Small q N D (noise_in q N f (u_at N x.ballots j) (v_at N x.ballots j)) → (i : ℕ) → i < N
                → reconstructed q p (v_at N x.ballots j) (share_at N x.shares0 j) (share_at N x.shares1 j) i ≡ decrypted q N p f (u_at N x.ballots j) (v_at N x.ballots j) i
            decrypts j l noise =
                let u = u_at N x.ballots j in
                let t0 = share_at N x.shares0 j in
                let t1 = share_at N x.shares1 j in
                reconstructs ok (open0 P m x).s (open1 P m x).s f u (v_at N x.ballots j) t0 t1 (recovered_mask q N p (open0 P m x).s u t0) (recovered_mask q N p (open1 P m x).s u t1) sums
                (alike_sym (share_worked ok (open0 P m x).s u t0)) (alike_sym (share_worked ok (open1 P m x).s u t1)) noise (accepted.side0.masked j l) (accepted.side1.masked j l)

      -- ---- by the kind

      choose : (b1 b2 b3 b4 b5 : Bool) → (b1 ≡ false → Found P m x 1) → (b2 ≡ false → Found P m x 2) → (b3 ≡ false → Found P m x 3)
          → (b1 ≡ true → b2 ≡ true → b3 ≡ true → b4 ≡ false → Found P m x 4) → (b1 ≡ true → b2 ≡ true → b3 ≡ true → b5 ≡ false → Found P m x 5)
          → (b1 ≡ true → b2 ≡ true → b3 ≡ true → b4 ≡ true → b5 ≡ true → Found P m x 6)
          → Found P m x (cond (not b1) 1 (cond (not b2) 2 (cond (not b3) 3 (cond (not b4) 4 (cond (not b5) 5 6)))))
      choose false b2 b3 b4 b5 one two three four five six = one refl
      choose true false b3 b4 b5 one two three four five six = two refl
      choose true true false b4 b5 one two three four five six = three refl
      choose true true true false b5 one two three four five six = four refl refl refl refl
      choose true true true true false one two three four five six = five refl refl refl refl
      choose true true true true true one two three four five six = six refl refl refl refl refl

      pub extraction : Sound q p D B → Found P m x (kind P m x)
      unfolding kind
      extraction ok =
          choose (same (one_by2 (argument P m x) (read2 P m x)) (one_by3 (argument P m x) (read3 P m x))) (same (two_by1 (argument P m x) (read1 P m x)) (two_by3 (argument P m x) (read3 P m x))) (same (three_by1 (argument P m x) (read1 P m x)) (three_by2 (argument P m x) (read2 P m x))) (is_zero q N (vector_s P m x)) (is_zero q N (vector_e P m x))
          (λ e. collision1 (collides1 e)) (λ e. collision2 (collides2 e)) (λ e. collision3 (collides3 e))
          (λ e1 e2 e3 e. short_s ((for_s ok (met e1 e2 e3)).nonzero_short e))
          (λ e1 e2 e3 e. short_e ((for_e ok (met e1 e2 e3)).nonzero_short e))
          (λ e1 e2 e3 es ee. secret (key_found ok (met e1 e2 e3) ((for_s ok (met e1 e2 e3)).zero_adds es) ((for_e ok (met e1 e2 e3)).zero_adds ee)))
        where
          met : same (one_by2 (argument P m x) (read2 P m x)) (one_by3 (argument P m x) (read3 P m x)) ≡ true → same (two_by1 (argument P m x) (read1 P m x)) (two_by3 (argument P m x) (read3 P m x)) ≡ true → same (three_by1 (argument P m x) (read1 P m x)) (three_by2 (argument P m x) (read2 P m x)) ≡ true → Meets q N k (pairs P m x) (unknowns P m x)
          met e1 e2 e3 = meets (same_equal (one_by2 (argument P m x) (read2 P m x)) (one_by3 (argument P m x) (read3 P m x)) e1) (same_equal (two_by1 (argument P m x) (read1 P m x)) (two_by3 (argument P m x) (read3 P m x)) e2) (same_equal (three_by1 (argument P m x) (read1 P m x)) (three_by2 (argument P m x) (read2 P m x)) e3)
