-- What the writing of a round asks for, where the producer's order is passed. Assumes nothing.
use mathlib.Core.Path.{◌≡◌, sym, ap, ◌∙◌}
use mathlib.Core.Bool.{Bool, true}
use Prim.Native.Nat.{ℕ, ◌≤◌, ◌<◌}
use borrow.Author.Tests.{ltb-true}
use lib.Dec.{ltb}
use lib.ListN.{length, length-replicate}
use Rattle.codec.specs.Bytes.{Bytes}
use Rattle.codec.specs.Reply.{first, Reply, Taken}
use Rattle.codec.proofs.Laws.{both}
use Rattle.sheet_numbers.specs.declared.Numbers.{Numbers}
use Rattle.scratch.specs.Call.{zeroized}
use Rattle.scratch.proofs.Zeroizing.{zeroized_taken}
use Rattle.commitment.specs.Internal.{Loaded}
use Rattle.commitment.specs.Parameters.{Parameters, parameters}
use Rattle.round.specs.Producer.{Material, MaterialSized, asked_ranged, producer_tests}
use Rattle.round.specs.Writes.{FirstRoom, first_room, SecondRoom, second_room}
use Rattle.round_material.proofs.Passed.{Passed, passed, none_refused}
use Rattle.round_head.specs.Internal.{Drawings}
use Rattle.round_shares.specs.Internal.{Masked}
use Rattle.round_write.specs.Internal.{FirstReady, SecondReady}
use Rattle.round_lengths.specs.Calls.{count_of, material_sized, first_sized, first_tests, second_sized, second_tests}
use Rattle.round_lengths.proofs.Sizes.{all_right, material_sizes, first_sizes, second_sizes}
use Rattle.round_produce.specs.Internal.{Tested}

-- scratch keeps its length where a call is taken
kept : (r : Reply) (w w' : Bytes) → r ≡ Taken → w' ≡ zeroized r w → length w' ≡ length w
kept r w w' e c = ap length (c ∙ zeroized_taken r w e) ∙ length-replicate (length w) 0

module _ (k : Numbers) (s : Bytes) (x : Material) (public : Loaded k s) where
  abbrev P : Parameters
  P = parameters k s

  abbrev n : ℕ
  n = k.ring

  abbrev q : ℕ
  q = k.modulus

  abbrev count : ℕ
  count = count_of n x.ballots

  -- the material, by its lengths and by its tests
  module _ (e : material_sized n k.repeats count x ≡ true) (asked : Bool) (t : first (producer_tests P count x asked) ≡ Taken) where
    sizes : MaterialSized P count x
    sizes = material_sizes P count x e

    fit : Passed P count x
    fit = let u = public.numbers in passed P count x asked t u.in_range.ring_low u.in_range.ring_high u.in_range.modulus_low u.in_range.modulus_high sizes

    drawings : Drawings q n k.repeats x.secrets x.vectors x.permutations x.salts
    drawings = record {
      secrets_sized = sizes.secrets;
      vectors_sized = sizes.vectors;
      permutations_sized = sizes.permutations;
      salts_sized = sizes.salts;
      below = fit.vectors;
      permuting = fit.permuting;
    }

    masked : Masked q n count x.ballots x.masks0 x.masks1
    masked = record { ballots_sized = sizes.ballots; masks0_sized = sizes.masks0; masks1_sized = sizes.masks1; below = fit.ballots }

  -- ---- the first call

  module _ (room : FirstRoom) {r : Reply} {w : Bytes} (t : Tested (first_tests P x room) r room.scratch w) (taken : r ≡ Taken) where
    all_passed : (count ≤ 4096) × (material_sized n k.repeats count x ≡ true) × (first_sized n k.repeats count room ≡ true) × (first (producer_tests P count x true) ≡ Taken)
    unfolding first_tests
    all_passed = all_right count _ _ _ (sym t.replied ∙ taken)

    abbrev tested : FirstRoom
    tested = first_room room.head room.shares0 room.shares1 room.claims w

    pub first_ready : FirstReady k x tested
    first_ready =
        let f = first_sizes n k.repeats count room all_passed.2 in
        let u = fit all_passed.1 true all_passed.3 in
        record {
          few = all_passed.0;
          s0 = u.s0;
          e0 = u.e0;
          drawings = drawings all_passed.1 true all_passed.3;
          masked = masked all_passed.1 true all_passed.3;
          head = f.0;
          shares0 = f.1;
          shares1 = f.2;
          claims = f.3;
          scratch = kept r room.scratch w taken t.cleared ∙ f.4;
        }

  -- ---- the second call

  module _ (side : ℕ) (challenges : Bytes) (room : SecondRoom) {r : Reply} {w : Bytes} (t : Tested (second_tests P x side challenges room) r room.scratch w) (taken : r ≡ Taken) where
    abbrev asked : Bool
    asked = asked_ranged P count x side challenges

    accepted : (count ≤ 4096) × (material_sized n k.repeats count x ≡ true) × (second_sized n k.repeats challenges room.opening room.answers room.scratch ≡ true) × (first (producer_tests P count x asked) ≡ Taken)
    unfolding second_tests
    accepted = all_right count _ _ _ (sym t.replied ∙ taken)

    small : side < 2
    unfolding asked_ranged
    small = ltb-true side 2 (both (ltb side 2) _ (none_refused P count x asked accepted.3).0).0

    pub second_ready : SecondReady k x.secrets x.s0 x.e0 x.vectors x.permutations x.salts side challenges (second_room room.opening room.answers w)
    second_ready =
        let f = second_sizes n k.repeats challenges room.opening room.answers room.scratch accepted.2 in
        let u = fit accepted.1 asked accepted.3 in
        record {
          numbers = public.numbers;
          half_s = u.s0;
          half_e = u.e0;
          drawings = drawings accepted.1 asked accepted.3;
          sided = small;
          asked = f.0;
          opening = f.1;
          answers = f.2;
          scratch = kept r room.scratch w taken t.cleared ∙ f.3;
        }
