-- The producer refuses nothing exactly of material that is `Suitable`, and its second call exactly if what it is asked is in range besides. Assumes nothing.
use mathlib.Core.Path.{◌≡◌, ap, ap₂}
use mathlib.Core.Logic.{◌↔◌}
use mathlib.Core.Bool.{Bool, true, not, ◌&&◌}
use mathlib.Core.List.{List, [], ◌∷◌}
use Prim.Native.Nat.{ℕ, ◌*◌, ◌^◌, ◌≤◌, ◌<◌}
use native.Mathlib.Omega.{arith}
use borrow.Author.Tests.{not-false, ltb-true, lt-ltb, leb-true, le-leb}
use lib.Dec.{ltb, leb}
use lib.ListN.{get_or}
use Rattle.codec.specs.Bytes.{Bytes}
use Rattle.codec.specs.Reply.{Test, test, None}
use Rattle.codec.proofs.Laws.{both, same_equal}
use Rattle.codec.specs.Lists.{list, all_below, all}
use Rattle.codec.proofs.Lists.{all_sound, all_complete}
use Rattle.ring.specs.Poly.{Below}
use Rattle.ring.specs.Slots.{poly}
use Rattle.ring.proofs.Bridge.{encode_alike}
use Rattle.ring.proofs.Ranges.{below_sound, below_complete}
use Rattle.bgv.specs.Scheme.{Wholes, centred, Bounded, within, noise_in, lent_mask}
use Rattle.commitment.proofs.Opening.{encode_decides}
use Rattle.vector.specs.Vector.{vector}
use Rattle.vector.specs.Permutation.{entries, permutes}
use Rattle.vector.proofs.Counts.{permutes_sound, permutes_complete}
use Rattle.round.specs.Layout.{joined, u_at, v_at}
use Rattle.round.specs.Round.{is_challenge, ballots_ranged}
use Rattle.round.specs.Accepted.{EachBelow, BallotsRanged}
use Rattle.round.specs.Producer.{Material, secret_s, mask_at, permutation_at, material_ranged, asked_ranged, producer_tests}
use Rattle.round.specs.Suitable.{Suitable, Asked}
use Rattle.round.proofs.Many.{for_sides, append_none, none_append, each_none, none_each}
use Rattle.round.proofs.Ranged.{each_exactly, ballots_exactly}
use Rattle.round.proofs.Tests.{equal_same, within_sound, within_complete}
use Rattle.commitment.specs.Parameters.{Parameters}

module _ (P : Parameters) (m : ℕ) (x : Material) where
  open P use {q, N, B, D, repeats}

  -- ---- the lists of 12, 9 and 15

  abbrev mask : (side j : ℕ) → Wholes
  mask side j = lent_mask (mask_at P m x side j)

  abbrev noise : ℕ → Wholes
  noise j = centred q (noise_in q N (secret_s P m x) (u_at N x.ballots j) (v_at N x.ballots j))

  abbrev mask_test_lem : ℕ → List Test
  mask_test_lem j = test 12 j (not (within B N (mask 0 j) && within B N (mask 1 j))) ∷ []

  abbrev permutation_test : ℕ → List Test
  permutation_test i = test 9 i (not (permutes (42 * N) (entries (permutation_at P m x i)))) ∷ []

  abbrev noise_test : ℕ → List Test
  noise_test j = test 15 j (not (within D N (noise j))) ∷ []

  masks_say : (j : ℕ) → None (mask_test_lem j) → (side : ℕ) → side < 2 → Bounded N B (mask side j)
  masks_say j none =
      let h = both (within B N (mask 0 j)) (within B N (mask 1 j)) (not-false _ none.0) in
      for_sides (λ i. Bounded N B (mask i j)) (within_sound B N (mask 0 j) h.0) (within_sound B N (mask 1 j) h.1)

  -- ---- 5

  abbrev in_range : Bool
  in_range = material_ranged q N m x.secrets x.s0 x.e0 x.vectors x.ballots

  ranges_say : in_range ≡ true → (EachBelow 3 x.secrets × Below q N (poly x.s0) × Below q N (poly x.e0) × EachBelow q (vector x.vectors) × BallotsRanged P m x.ballots)
  unfolding ballots_ranged
  ranges_say e =
      let r = both (all_below 3 x.secrets) _ e in
      let s = both (all_below q (list N (poly x.s0))) _ r.1 in
      let t = both (all_below q (list N (poly x.e0))) _ s.1 in
      let u = both (all_below q (vector x.vectors)) (ballots_ranged P m x.ballots) t.1 in (
        (each_exactly 3 x.secrets).0 r.0,
        below_sound q N (poly x.s0) s.0,
        below_sound q N (poly x.e0) t.0,
        (each_exactly q (vector x.vectors)).0 u.0,
        (ballots_exactly P m x.ballots).0 u.1,
      )

  ranges_hold : Suitable P m x → in_range ≡ true
  unfolding ballots_ranged
  ranges_hold f =
      ap₂ ◌&&◌ ((each_exactly 3 x.secrets).1 f.ternary)
      (ap₂ ◌&&◌ (below_complete q N (poly x.s0) f.s0)
      (ap₂ ◌&&◌ (below_complete q N (poly x.e0) f.e0)
      (ap₂ ◌&&◌ ((each_exactly q (vector x.vectors)).1 f.vectors) ((ballots_exactly P m x.ballots).1 f.ballots))))

  -- ---- both ways

  module _ (positive : 0 < q) (fits : q ≤ 2 ^ 64) where
    suits : None (producer_tests P m x true) → Suitable P m x
    unfolding producer_tests
    suits none =
        let r = append_none (joined m mask_test_lem) _ none.1.1 in
        let s = append_none (joined repeats permutation_test) (joined m noise_test) r.1 in
        let range = ranges_say (not-false in_range none.0) in
        record {
          ternary = range.0;
          s0 = range.1;
          e0 = range.2;
          vectors = range.3;
          ballots = range.4;
          matches = encode_decides q N positive fits (same_equal _ _ (not-false _ none.1.0));
          masked = λ side j h l. masks_say j (none_each m mask_test_lem r.0 j l) side h;
          permuting = λ i l. permutes_sound (42 * N) (entries (permutation_at P m x i)) (not-false _ (none_each repeats permutation_test s.0 i l).0);
          quiet = λ j l. within_sound D N (noise j) (not-false _ (none_each m noise_test s.1 j l).0);
        }

    refuses_none : Suitable P m x → None (producer_tests P m x true)
    unfolding producer_tests
    refuses_none f = (
      ap not (ranges_hold f),
      (
        ap not (equal_same (encode_alike f.matches)),
        none_append (joined m mask_test_lem) _ (each_none m mask_test_lem (λ j l. (ap not (ap₂ ◌&&◌ (within_complete B N (mask 0 j) (f.masked 0 j (omega arith) l)) (within_complete B N (mask 1 j) (f.masked 1 j (omega arith) l))), tt)))
            (none_append (joined repeats permutation_test) (joined m noise_test) (each_none repeats permutation_test (λ i l. (ap not (permutes_complete (f.permuting i l)), tt)))
            (each_none m noise_test (λ j l. (ap not (within_complete D N (noise j) (f.quiet j l)), tt)))),
      ),
    )

    pub producer_exactly : None (producer_tests P m x true) ↔ Suitable P m x
    producer_exactly = (suits, refuses_none)

    -- ---- the second call, by what it is asked

    module _ (side : ℕ) (challenges : Bytes) where
      abbrev challenge : ℕ → ℕ
      challenge i = get_or challenges i 0

      asked_exactly : (asked_ranged P m x side challenges ≡ true) ↔ Asked P m x side challenges
      unfolding asked_ranged
      asked_exactly = (
        λ e.
            let r = both (ltb side 2) (all repeats (λ i. is_challenge (challenge i))) e in
            record {
              side_ranged = ltb-true side 2 r.0;
              challenges_ranged = λ i l.
                  let c = both (leb 1 (challenge i)) (leb (challenge i) 3) (all_sound repeats (λ j. is_challenge (challenge j)) r.1 i l) in
                  (leb-true 1 (challenge i) c.0, leb-true (challenge i) 3 c.1);
            },
        λ a.
            ap₂ ◌&&◌ (lt-ltb side 2 a.side_ranged)
            (all_complete repeats (λ j. is_challenge (challenge j)) (λ i l. ap₂ ◌&&◌ (le-leb 1 (challenge i) (a.challenges_ranged i l).0) (le-leb (challenge i) 3 (a.challenges_ranged i l).1))),
      )

      asked_first : (asked : Bool) → None (producer_tests P m x asked) → (asked ≡ true) × None (producer_tests P m x true)
      unfolding producer_tests
      asked_first asked none = let r = both asked in_range (not-false _ none.0) in (r.0, (ap not r.1, none.1))

      pub second_exactly : None (producer_tests P m x (asked_ranged P m x side challenges)) ↔ (Asked P m x side challenges × Suitable P m x)
      second_exactly = (
        λ none. let h = asked_first (asked_ranged P m x side challenges) none in (asked_exactly.0 h.0, suits h.1),
        λ f. rw (asked_exactly.1 f.0) (refuses_none f.1),
      )
