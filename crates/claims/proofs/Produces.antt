-- The producer's two calls write exactly under the conditions of specs/Produces.antt. Assumes nothing.
use mathlib.Core.Path.{◌≡◌, ap, ap₂}
use mathlib.Core.Logic.{◌↔◌}
use mathlib.Core.Bool.{Bool, true, not, ◌&&◌}
use mathlib.Core.List.{List, ◌∷◌, ◌++◌}
use Prim.Native.Nat.{ℕ, ◌^◌, ◌≤◌, ◌<◌}
use native.Mathlib.Omega.{arith}
use lib.Dec.{leb}
use borrow.Author.Tests.{leb-true, le-leb, not-false}
use Rattle.codec.specs.Bytes.{Bytes}
use Rattle.codec.specs.Reply.{Test, None, Taken}
use Rattle.codec.proofs.Laws.{both}
use Rattle.codec.proofs.Replies.{taken_exactly}
use Rattle.sheet.specs.Sheet.{order}
use Rattle.commitment.specs.Parameters.{Parameters, parameters_of}
use Rattle.round.specs.Producer.{Material, asked_ranged, producer_tests}
use Rattle.round.proofs.Many.{append_none, none_append}
use Rattle.round.proofs.Passed.{producer_exactly, second_exactly}
use Rattle.round.specs.Writes.{first_room, second_room}
use Rattle.round_lengths.specs.Calls.{lengths_test, material_sized, first_sized, second_sized, first_tests, second_tests}
use Rattle.round_lengths.specs.Sheets.{ballots_in}
use Rattle.round_lengths.proofs.Sizes.{material_exactly, first_sizes, first_sized_lem, second_sizes, second_sized_lem}
use Rattle.round_produce.specs.Replies.{first_reply, second_reply}
use Rattle.session_histories.specs.Conditions.{SheetTaken}
use Rattle.session_histories.proofs.Valid.{sheet_exactly}
use Rattle.claims.specs.Produces.{WritesFirst, WritesSecond}

-- the modulus of a sheet that is taken
pub positive : (text : Bytes) → SheetTaken text → 0 < (parameters_of text).q
positive text t = omega (arith, t.inside.modulus_low)

pub fits : (text : Bytes) → SheetTaken text → (parameters_of text).q ≤ 2 ^ 64
fits text t = omega (arith, t.inside.modulus_high)

-- no test of a call refuses: the sheet is taken, the lengths are right, and the rest refuses nothing
pub call_none : (text : Bytes) (m : ℕ) (a b : Bool) (ts : List Test) → None (order text ++ (lengths_test m (a && b) ∷ ts)) → SheetTaken text × (m ≤ 4096) × (a ≡ true) × (b ≡ true) × None ts
call_none text m a b ts none =
    let parts = append_none (order text) (lengths_test m (a && b) ∷ ts) none in
    let h = both (leb m 4096) (a && b) (not-false _ parts.1.0) in
    let g = both a b h.1 in
    ((sheet_exactly text).0 parts.0, leb-true m 4096 h.0, g.0, g.1, parts.1.1)

pub none_call : (text : Bytes) (m : ℕ) (a b : Bool) (ts : List Test) → SheetTaken text → m ≤ 4096 → a ≡ true → b ≡ true → None ts → None (order text ++ (lengths_test m (a && b) ∷ ts))
none_call text m a b ts sheet few e f none =
    none_append (order text) (lengths_test m (a && b) ∷ ts) ((sheet_exactly text).1 sheet) (ap not (ap₂ ◌&&◌ (le-leb m 4096 few) (ap₂ ◌&&◌ e f)), none)

module _ (text : Bytes) (x : Material) where
  abbrev P : Parameters
  P = parameters_of text

  abbrev m : ℕ
  m = ballots_in text x.ballots

  abbrev material : Bool
  material = material_sized P.N P.repeats m x

  module _ (head shares0 shares1 claims scratch : Bytes) where
    abbrev room : Bool
    room = first_sized P.N P.repeats m (first_room head shares0 shares1 claims scratch)

    pub first_exactly : (first_reply text x (first_room head shares0 shares1 claims scratch) ≡ Taken) ↔ WritesFirst text x head shares0 shares1 claims scratch
    unfolding first_reply first_tests
    first_exactly = (
      λ e.
          let c = call_none text m material room (producer_tests P m x true) ((taken_exactly _).0 e) in
          let z = first_sizes P.N P.repeats m (first_room head shares0 shares1 claims scratch) c.3 in
          record {
            sheet = c.0;
            few = c.1;
            sized = (material_exactly P m x).0 c.2;
            head_size = z.0;
            shares0_size = z.1;
            shares1_size = z.2;
            claims_size = z.3;
            scratch_size = z.4;
            suitable = (producer_exactly P m x (positive text c.0) (fits text c.0)).0 c.4;
          },
      λ w.
          (taken_exactly _).1
          (none_call text m material room (producer_tests P m x true) w.sheet w.few ((material_exactly P m x).1 w.sized)
          (first_sized_lem P.N P.repeats m (first_room head shares0 shares1 claims scratch) w.head_size w.shares0_size w.shares1_size w.claims_size w.scratch_size)
          ((producer_exactly P m x (positive text w.sheet) (fits text w.sheet)).1 w.suitable)),
    )

  module _ (side : ℕ) (challenges opening answers scratch : Bytes) where
    abbrev asked_room : Bool
    asked_room = second_sized P.N P.repeats challenges opening answers scratch

    pub second_call_exactly : (second_reply text x side challenges (second_room opening answers scratch) ≡ Taken) ↔ WritesSecond text x side challenges opening answers scratch
    unfolding second_reply second_tests
    second_call_exactly = (
      λ e.
          let c = call_none text m material asked_room (producer_tests P m x (asked_ranged P m x side challenges)) ((taken_exactly _).0 e) in
          let z = second_sizes P.N P.repeats challenges opening answers scratch c.3 in
          let r = (second_exactly P m x (positive text c.0) (fits text c.0) side challenges).0 c.4 in
          record {
            sheet = c.0;
            few = c.1;
            sized = (material_exactly P m x).0 c.2;
            challenges_size = z.0;
            opening_size = z.1;
            answers_size = z.2;
            scratch_size = z.3;
            asked = r.0;
            suitable = r.1;
          },
      λ w.
          (taken_exactly _).1
          (none_call text m material asked_room (producer_tests P m x (asked_ranged P m x side challenges)) w.sheet w.few ((material_exactly P m x).1 w.sized)
          (second_sized_lem P.N P.repeats challenges opening answers scratch w.challenges_size w.opening_size w.answers_size w.scratch_size)
          ((second_exactly P m x (positive text w.sheet) (fits text w.sheet) side challenges).1 (w.asked, w.suitable))),
    )
