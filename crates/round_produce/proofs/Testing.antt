-- The tests of a call, from the lengths on, as they leave a reply and scratch. Assumes nothing.
use mathlib.Core.Path.{◌≡◌, refl, sym, ap, ◌∙◌}
use mathlib.Core.Bool.{Bool, true, false, not, ◌&&◌}
use mathlib.Core.List.{List, ◌∷◌}
use Prim.Native.Nat.{ℕ, ◌≤◌, ◌<◌}
use Rattle.codec.specs.Bytes.{Bytes}
use lib.Dec.{leb}
use Rattle.codec.specs.Reply.{Test, test, first, Reply, Refused}
use Rattle.scratch.specs.Call.{zeroized}
use Rattle.scratch.proofs.Zeroizing.{kept_length}
use Rattle.commitment.specs.Parameters.{Parameters}
use Rattle.round.specs.Producer.{Material, asked_ranged, producer_tests}
use Rattle.round.specs.Writes.{FirstRoom, SecondRoom}
use Rattle.round_material.specs.Internal.{MaterialTested}
use Rattle.round_lengths.specs.Calls.{count_of, material_sized, first_sized, first_tests, second_sized, second_tests}
use Rattle.round_lengths.proofs.Sizes.{too_many, wrong_first, wrong_second, right}
use Rattle.round_lengths.proofs.Zeroized.{later_material, zeroized_later}
use Rattle.round_produce.specs.Internal.{call_tests, Tested}

-- ---- any call that is lent the material: two groups of lengths, and then the material

module _ (P : Parameters) (x : Material) (asked b : Bool) (w : Bytes) {count : ℕ} (is : count ≡ count_of P.N x.ballots) where
  abbrev a : ℕ → Bool
  a m = material_sized P.N P.repeats m x

  abbrev ts : ℕ → List Test
  ts m = producer_tests P m x asked

  -- a call that is refused for lengths leaves scratch as it is
  untouched : (r : Reply) → r ≡ Refused 1 0 → w ≡ zeroized r w
  untouched r e = sym (kept_length r 1 0 w e refl)

  pub many : {r : Reply} → r ≡ Refused 1 0 → 4096 < count → Tested (call_tests P x b asked) r w w
  many {r} e h = record { replied = too_many a (λ m. b) ts is e h; cleared = untouched r e }

  pub missized : {r : Reply} {y : Bool} → r ≡ Refused 1 0 → count ≤ 4096 → y ≡ a count → y ≡ false → Tested (call_tests P x b asked) r w w
  missized {r} e h f g = record { replied = wrong_first a (λ m. b) ts is e h f g; cleared = untouched r e }

  pub misfit : {r : Reply} {y : Bool} → r ≡ Refused 1 0 → count ≤ 4096 → y ≡ a count → y ≡ true → b ≡ false → Tested (call_tests P x b asked) r w w
  misfit {r} e h f g j = record { replied = wrong_second a (λ m. b) ts is e h f g refl j; cleared = untouched r e }

  pub tried : {r : Reply} {y : Bool} {w' : Bytes} → count ≤ 4096 → y ≡ a count → y ≡ true → b ≡ true → MaterialTested P count x asked r w w' → Tested (call_tests P x b asked) r w w'
  tried {r} h f g j m =
      record { replied = right a (λ m. b) ts is h f g refl j m.replied; cleared = m.cleared ∙ sym (zeroized_later (ts count) (later_material P count x asked) r m.replied w) }

-- ---- each call, by what it is lent beside the material

module _ (P : Parameters) (x : Material) where
  abbrev m : ℕ
  m = count_of P.N x.ballots

  pub first_tested : (room : FirstRoom) {fits : Bool} {count : ℕ} {r : Reply} {w w' : Bytes} → count ≡ m → fits ≡ first_sized P.N P.repeats count room → Tested (call_tests P x fits true) r w w' → Tested (first_tests P x room) r w w'
  unfolding first_tests
  first_tested room is e t =
      record { replied = t.replied ∙ ap (λ (b : Bool). first (call_tests P x b true)) (e ∙ ap (λ (n : ℕ). first_sized P.N P.repeats n room) is); cleared = t.cleared }

  -- what is asked counts only where the lengths are right
  asked_alike : (l a b t t' : Bool) → (b ≡ true → t ≡ t') → first (test 1 0 (not (l && (a && b))) ∷ producer_tests P m x t) ≡ first (test 1 0 (not (l && (a && b))) ∷ producer_tests P m x t')
  unfolding first
  asked_alike l a true t t' h = ap (λ (u : Bool). first (test 1 0 (not (l && (a && true))) ∷ producer_tests P m x u)) (h refl)
  asked_alike true true false t t' h = refl
  asked_alike true false false t t' h = refl
  asked_alike false a false t t' h = refl

  pub second_tested : (side : ℕ) (challenges : Bytes) (room : SecondRoom) {fits asked : Bool} {r : Reply} {w w' : Bytes} → fits ≡ second_sized P.N P.repeats challenges room.opening room.answers room.scratch
      → (fits ≡ true → asked ≡ asked_ranged P m x side challenges) → Tested (call_tests P x fits asked) r w w' → Tested (second_tests P x side challenges room) r w w'
  unfolding second_tests
  second_tested side challenges room {fits} {asked} e h t =
      record {
        replied = t.replied ∙ asked_alike (leb m 4096) (material_sized P.N P.repeats m x) fits asked (asked_ranged P m x side challenges) h
            ∙ ap (λ (b : Bool). first (call_tests P x b (asked_ranged P m x side challenges))) e;
        cleared = t.cleared;
      }
