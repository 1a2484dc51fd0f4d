-- What the range tests of a round mean (5), in propositions on its coefficients and bytes: `ranged` passes exactly if the round is `InRange`. Assumes nothing.
use mathlib.Core.Path.{◌≡◌, refl, sym, ap, ap₂, ◌∙◌}
use mathlib.Core.Logic.{◌⊎◌, inl, inr, ◌↔◌}
use mathlib.Core.Bool.{Bool, true, ◌&&◌}
use mathlib.Core.List.{List, [], ◌∷◌, ◌++◌}
use Prim.Native.Nat.{ℕ, zero, suc, ◌+◌, ◌-◌, ◌*◌, ◌≤◌, ◌<◌}
use native.Mathlib.Nat.{mul-suc, mul_assoc}
use native.Mathlib.Omega.{arith}
use borrow.Author.Tests.{ltb-true, lt-ltb, leb-true, le-leb}
use lib.Dec.{ltb, leb}
use Rattle.codec.specs.Bytes.{Bytes, part}
use Rattle.codec.proofs.Laws.{le_or, both, part_append}
use Rattle.codec.specs.Lists.{list, all_below, all}
use Rattle.codec.proofs.Lists.{all_below_sound, all_below_complete, all_sound, all_complete}
use Rattle.ring.specs.Poly.{Below}
use Rattle.ring.specs.Slots.{poly, slot}
use Rattle.ring.proofs.Bridge.{slot_poly, slot_later}
use Rattle.ring.proofs.Ranges.{below_sound, below_complete}
use Rattle.vector.specs.Vector.{vector}
use Rattle.stern.specs.Shortness.{in_range, answer1_of, answer2_of, answer3_of}
use Rattle.round.specs.Layout.{u_at, pair_at, opening_of, answer_at}
use Rattle.round.specs.Round.{Round, challenge_at, is_challenge, ballots_ranged, opening_ranged, head_ranged, answers_ranged, ranged}
use Rattle.round.specs.Accepted.{EachBelow, AnswerRanged, BallotsRanged, HeadRanged, OpeningRanged, MessageRanged, InRange}
use Rattle.round.proofs.Many.{for_challenges, stretch}
use Rattle.round.proofs.Orders.{front}
use Rattle.round.proofs.Written.{slot_part, below_slot, below_append}
use Rattle.round.proofs.Compared.{first_below, second_below}
use Rattle.commitment.specs.Parameters.{Parameters}

-- ---- numbers of a list

pub each_exactly : (v : ℕ) (s : List ℕ) → (all_below v s ≡ true) ↔ EachBelow v s
each_exactly v s = (all_below_sound v s, all_below_complete v s)

-- both of two lists
append_below : (v : ℕ) (s t : List ℕ) → all_below v (s ++ t) ≡ true → (all_below v s ≡ true) × (all_below v t ≡ true)
unfolding all_below
append_below v [] t e = (refl, e)
append_below v (x ∷ s) t e =
    let r = both (ltb x v) (all_below v (s ++ t)) e in
    let f = append_below v s t r.1 in
    (ap₂ ◌&&◌ r.0 f.0, f.1)

-- ---- coefficients side by side

module _ (q : ℕ) (w : Bytes) where
  -- the same place, said otherwise
  moved : (n : ℕ) {from to : ℕ} → from ≡ to → Below q n (slot w from) → Below q n (slot w to)
  moved n e b = rw e at b

  -- l coefficients behind n others
  beside : (at n l : ℕ) → Below q n (slot w at) → Below q l (slot w (at + 8 * n)) → Below q (n + l) (slot w at)
  beside at n l b c = record { at = λ i h. go i h (le_or n i) }
    where
      go : (i : ℕ) → i < n + l → (n ≤ i) ⊎ (i < n) → slot w at i < q
      go i h (inl f) =
          let e : n + (i - n) ≡ i = omega arith in
          rw (ap (slot w at) (sym e) ∙ sym (slot_later w at n (i - n))) (c.at (i - n) (omega arith))
      go i h (inr f) = b.at i f

  -- polynomials end to end
  pieces : (at l n : ℕ) → ((i : ℕ) → i < n → Below q l (slot w (at + 8 * l * i))) → Below q (l * n) (slot w at)
  pieces at l zero h = record { at = λ i g. absurd (omega (arith, mul_assoc l 0 1)) }
  pieces at l (suc n) h =
      let e : l * suc n ≡ l * n + l = omega (arith, mul-suc l n) in
      rw e (beside at (l * n) l (pieces at l n (λ i g. h i (omega arith))) (moved l (omega (arith, mul_assoc 8 l n)) (h n (omega arith))))

  -- a polynomial of a part is one of the whole
  module _ (at n from l : ℕ) (short : from + 8 * l ≤ n) where
    part_below : Below q l (slot (part w at n) from) → Below q l (slot w (at + from))
    part_below b = record { at = λ i h. rw (← slot_part w at n from i (omega arith)) (b.at i h) }

    below_part : Below q l (slot w (at + from)) → Below q l (slot (part w at n) from)
    below_part b = record { at = λ i h. rw (slot_part w at n from i (omega arith)) (b.at i h) }

  -- the polynomial that bytes hold is the one at their head
  poly_below : (n : ℕ) → Below q n (poly w) → Below q n (slot w 0)
  poly_below n b = record { at = λ i h. rw (slot_poly w i) (b.at i h) }

  below_poly : (n : ℕ) → Below q n (slot w 0) → Below q n (poly w)
  below_poly n b = record { at = λ i h. rw (← slot_poly w i) (b.at i h) }

-- ---- an answer

module _ (q N : ℕ) (answer : Bytes) where
  answer_sound : (c : ℕ) → in_range q N c answer ≡ true → AnswerRanged q N c answer
  answer_sound c h = record {
    ternary = λ e. (each_exactly 3 _).0 (first e).0;
    to1 = λ e. (each_exactly q _).0 (first e).1;
    to2 = λ e. (each_exactly q (vector (answer2_of N answer).u)).0 (rw e at h);
    to3 = λ e. (each_exactly q (vector (answer3_of N answer).r)).0 (rw e at h);
  }
    where
      first : c ≡ 1 → (all_below 3 (answer1_of N answer).w ≡ true) × (all_below q (vector (answer1_of N answer).t) ≡ true)
      first e = both (all_below 3 (answer1_of N answer).w) (all_below q (vector (answer1_of N answer).t)) (rw e at h)

  answer_complete : (c : ℕ) → 1 ≤ c → c ≤ 3 → AnswerRanged q N c answer → in_range q N c answer ≡ true
  answer_complete =
      for_challenges (λ c. AnswerRanged q N c answer → in_range q N c answer ≡ true) (λ r. ap₂ ◌&&◌ ((each_exactly 3 _).1 (r.ternary refl)) ((each_exactly q _).1 (r.to1 refl)))
      (λ r. (each_exactly q _).1 (r.to2 refl)) (λ r. (each_exactly q _).1 (r.to3 refl))

  pub answer_exactly : (c : ℕ) → 1 ≤ c → c ≤ 3 → (in_range q N c answer ≡ true) ↔ AnswerRanged q N c answer
  answer_exactly c low high = (answer_sound c, answer_complete c low high)

module _ (P : Parameters) (m : ℕ) where
  open P use {q, N, p, repeats}

  -- ---- ballots

  pub ballots_exactly : (ballots : Bytes) → (ballots_ranged P m ballots ≡ true) ↔ BallotsRanged P m ballots
  unfolding ballots_ranged
  ballots_exactly ballots = (λ e. record { u = λ j l. first_below N q _ (both_of e j l); v = λ j l. second_below N q ballots _ (both_of e j l) }, λ r. all_complete m _ (λ j l. below_complete q (2 * N) (u_at N ballots j) (of_both r j l)))
    where
      both_of : all m (λ j. all_below q (list (2 * N) (u_at N ballots j))) ≡ true → (j : ℕ) → j < m → Below q (2 * N) (u_at N ballots j)
      both_of e j l = below_sound q (2 * N) (u_at N ballots j) (all_sound m (λ i. all_below q (list (2 * N) (u_at N ballots i))) e j l)

      two : N + N ≡ 2 * N
      two = omega arith

      of_both : BallotsRanged P m ballots → (j : ℕ) → j < m → Below q (2 * N) (u_at N ballots j)
      of_both r j l = rw two at (beside q ballots _ N N (r.u j l) (r.v j l))

  -- ---- the head

  pub head_exactly : (head : Bytes) → (head_ranged P.q P.N head ≡ true) ↔ HeadRanged P m head
  unfolding head_ranged
  head_exactly head = (λ e. sound (below_sound q (10 * N) (poly head) e), λ r. below_complete q (10 * N) (poly head) (complete r))
    where
      -- a half of pair i, from d coefficients on
      half : Below q (10 * N) (poly head) → (i from d : ℕ) → i < 4 → from ≡ 8 * d → d + N ≤ 2 * N → Below q N (slot (pair_at N head i) from)
      half b i from d four place short =
          below_part q head (16 * N + 16 * N * i) (16 * N) from N (omega arith)
          (below_slot q (10 * N) head (2 * N + 2 * N * i + d) N (16 * N + 16 * N * i + from) (omega (arith, mul_assoc 16 N i, mul_assoc 2 N i)) (omega (arith, stretch (2 * N) i 4 four)) b)

      sound : Below q (10 * N) (poly head) → HeadRanged P m head
      sound b = record {
        keys = λ i l. below_slot q (10 * N) head (N * i) N (8 * N * i) (mul_assoc 8 N i) (omega (arith, stretch N i 2 l)) b;
        first_halves = λ i l. half b i 0 0 l (omega arith) (omega arith);
        second_halves = λ i l. half b i (8 * N) N l (omega arith) (omega arith);
      }

      -- pair i, whole
      pair : HeadRanged P m head → (i : ℕ) → i < 4 → Below q (N + N) (slot head (16 * N + 16 * N * i))
      pair r i l =
          beside q head (16 * N + 16 * N * i) N N (moved q head N (omega arith) (part_below q head (16 * N + 16 * N * i) (16 * N) 0 N (omega arith) (r.first_halves i l)))
          (part_below q head (16 * N + 16 * N * i) (16 * N) (8 * N) N (omega arith) (r.second_halves i l))

      complete : HeadRanged P m head → Below q (10 * N) (poly head)
      complete r =
          let ten : N * 2 + (N + N) * 4 ≡ 10 * N = omega arith in
          let keys = pieces q head 0 N 2 (λ i l. moved q head N (omega arith) (r.keys i l)) in
          let pairs = pieces q head (0 + 8 * (N * 2)) (N + N) 4 (λ i l. moved q head (N + N) (omega (arith, mul_assoc 16 N i, mul_assoc 8 (N + N) i)) (pair r i l)) in
          below_poly q head (10 * N) (rw ten at (beside q head 0 (N * 2) ((N + N) * 4) keys pairs))

  -- ---- an opening

  pub opening_exactly : (o : Bytes) → (opening_ranged P.q P.N o ≡ true) ↔ OpeningRanged P m (opening_of N o)
  unfolding opening_ranged
  opening_exactly o = (sound, complete)
    where
      two : N + N ≡ 2 * N
      two = omega arith

      -- the two halves of the ternary bytes
      hiding : part o (16 * N) (6 * N) ≡ part o (16 * N) (3 * N) ++ part o (19 * N) (3 * N)
      hiding =
          let six : 6 * N ≡ 3 * N + 3 * N = omega arith in
          let at : 16 * N + 3 * N ≡ 19 * N = omega arith in
          ap (part o (16 * N)) six ∙ part_append o (16 * N) (3 * N) (3 * N) ∙ ap (λ (i : ℕ). part o (16 * N) (3 * N) ++ part o i (3 * N)) at

      sound : (all_below q (list (2 * N) (poly o)) && all_below 3 (part o (16 * N) (6 * N))) ≡ true → OpeningRanged P m (opening_of N o)
      sound h =
          let r = both (all_below q (list (2 * N) (poly o))) (all_below 3 (part o (16 * N) (6 * N))) h in
          let b = poly_below q o (2 * N) (below_sound q (2 * N) (poly o) r.0) in
          let t = append_below 3 (part o (16 * N) (3 * N)) (part o (19 * N) (3 * N)) (rw hiding at r.1) in
          record { s = first_below N q _ b; e = moved q o N (omega arith) (second_below N q o 0 b); rs = (each_exactly 3 _).0 t.0; re = (each_exactly 3 _).0 t.1 }

      complete : OpeningRanged P m (opening_of N o) → (all_below q (list (2 * N) (poly o)) && all_below 3 (part o (16 * N) (6 * N))) ≡ true
      complete r =
          ap₂ ◌&&◌ (below_complete q (2 * N) (poly o) (below_poly q o (2 * N) (rw two at (beside q o 0 N N r.s (moved q o N (omega arith) r.e)))))
          (ap (all_below 3) hiding ∙ below_append 3 (part o (16 * N) (3 * N)) (part o (19 * N) (3 * N)) ((each_exactly 3 _).1 r.rs) ((each_exactly 3 _).1 r.re))

  -- ---- ballots, claims and the first message

  module _ (ballots claims head shares0 shares1 : Bytes) where
    abbrev pub message : Bool
    message = ballots_ranged P m ballots && (all_below p claims && (head_ranged P.q P.N head && (all_below q (vector shares0) && all_below q (vector shares1))))

    -- with one test more behind them
    pub message_and : (f : Bool)
        → (ballots_ranged P m ballots && (all_below p claims && (head_ranged P.q P.N head && (all_below q (vector shares0) && (all_below q (vector shares1) && f))))) ≡ (message && f)
    message_and f = front (ballots_ranged P m ballots) (all_below p claims) (head_ranged P.q P.N head) (all_below q (vector shares0)) (all_below q (vector shares1)) f

    pub message_exactly : (message ≡ true) ↔ MessageRanged P m ballots claims head shares0 shares1
    message_exactly = (
      λ e.
          let after_ballots = both (ballots_ranged P m ballots) _ e in
          let after_claims = both (all_below p claims) _ after_ballots.1 in
          let after_head = both (head_ranged P.q P.N head) _ after_claims.1 in
          let shares = both (all_below q (vector shares0)) (all_below q (vector shares1)) after_head.1 in
          record {
            in_ballots = (ballots_exactly ballots).0 after_ballots.0;
            in_claims = (each_exactly p claims).0 after_claims.0;
            in_head = (head_exactly head).0 after_head.0;
            in_shares0 = (each_exactly q (vector shares0)).0 shares.0;
            in_shares1 = (each_exactly q (vector shares1)).0 shares.1;
          },
      λ r.
          ap₂ ◌&&◌ ((ballots_exactly ballots).1 r.in_ballots)
          (ap₂ ◌&&◌ ((each_exactly p claims).1 r.in_claims)
          (ap₂ ◌&&◌ ((head_exactly head).1 r.in_head) (ap₂ ◌&&◌ ((each_exactly q (vector shares0)).1 r.in_shares0) ((each_exactly q (vector shares1)).1 r.in_shares1)))),
    )

  -- ---- challenges and answers

  module _ (r : Round) where
    abbrev challenge : ℕ → ℕ
    challenge i = challenge_at r i

    abbrev answer : ℕ → Bytes
    answer i = answer_at N r.challenges r.answers i

    answers_sound : answers_ranged P.q P.N P.repeats r.challenges r.answers ≡ true → (i : ℕ) → i < repeats → ((1 ≤ challenge i) × (challenge i ≤ 3)) × AnswerRanged q N (challenge i) (answer i)
    unfolding answers_ranged
    answers_sound h i l =
        let one = both (is_challenge (challenge i)) (in_range q N (challenge i) (answer i)) (all_sound repeats (λ j. is_challenge (challenge j) && in_range q N (challenge j) (answer j)) h i l) in
        let c = both (leb 1 (challenge i)) (leb (challenge i) 3) one.0 in
        ((leb-true 1 _ c.0, leb-true _ 3 c.1), answer_sound q N (answer i) (challenge i) one.1)

    answers_complete : InRange P m r → answers_ranged P.q P.N P.repeats r.challenges r.answers ≡ true
    unfolding answers_ranged
    answers_complete s =
        all_complete repeats (λ j. is_challenge (challenge j) && in_range q N (challenge j) (answer j))
        (λ i l. let c = s.challenges i l in
        ap₂ ◌&&◌ (ap₂ ◌&&◌ (le-leb 1 _ c.0) (le-leb _ 3 c.1)) (answer_complete q N (answer i) (challenge i) c.0 c.1 (s.answers i l)))

    -- ---- the round

    range_holds : ranged P m r ≡ true → InRange P m r
    unfolding ranged
    range_holds h =
        let after_side = both (ltb r.side 2) _ h in
        let after_answers = both (answers_ranged P.q P.N P.repeats r.challenges r.answers) _ after_side.1 in
        let opened = opening_ranged P.q P.N r.opening in
        let rest = both (message r.ballots r.claims r.head r.shares0 r.shares1) opened (sym (message_and r.ballots r.claims r.head r.shares0 r.shares1 opened) ∙ after_answers.1) in
        record {
          side = ltb-true r.side 2 after_side.0;
          challenges = λ i l. (answers_sound after_answers.0 i l).0;
          answers = λ i l. (answers_sound after_answers.0 i l).1;
          message = (message_exactly r.ballots r.claims r.head r.shares0 r.shares1).0 rest.0;
          opening = (opening_exactly r.opening).0 rest.1;
        }

    range_passes : InRange P m r → ranged P m r ≡ true
    unfolding ranged
    range_passes s =
        ap₂ ◌&&◌ (lt-ltb r.side 2 s.side)
        (ap₂ ◌&&◌ (answers_complete s)
        (message_and r.ballots r.claims r.head r.shares0 r.shares1 (opening_ranged P.q P.N r.opening)
        ∙ ap₂ ◌&&◌ ((message_exactly r.ballots r.claims r.head r.shares0 r.shares1).1 s.message) ((opening_exactly r.opening).1 s.opening)))

    pub ranged_exactly : (ranged P m r ≡ true) ↔ InRange P m r
    ranged_exactly = (range_holds, range_passes)
