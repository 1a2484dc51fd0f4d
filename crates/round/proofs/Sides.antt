-- What the tests of a side's opening mean (7, 8, 12, 13): none of them holds exactly if the side is `SideOpened`, against a head of the right length and in range. Assumes
-- nothing.
use mathlib.Core.Path.{◌≡◌, ap}
use mathlib.Core.Logic.{◌↔◌}
use mathlib.Core.Bool.{true, not}
use mathlib.Core.List.{List, [], ◌∷◌}
use Prim.Native.Nat.{ℕ, ◌^◌, ◌≤◌, ◌<◌}
use borrow.Author.Tests.{not-false}
use lib.ListN.{length}
use Rattle.codec.specs.Bytes.{Bytes, Octets}
use Rattle.codec.specs.Reply.{Test, None}
use Rattle.codec.proofs.Laws.{same_equal}
use Rattle.round.specs.Layout.{Opening, head_length}
use Rattle.round.specs.Round.{of_side, head_ranged, mask_test, claim_test}
use Rattle.round.specs.Accepted.{HeadRanged, SideOpened}
use Rattle.round.specs.Extractor.{side_tests}
use Rattle.round.proofs.Many.{each_none, none_each}
use Rattle.round.proofs.Ranged.{head_exactly}
use Rattle.round.proofs.Tests.{equal_same, within_sound, within_complete, key_exactly, pairs_exactly}
use Rattle.commitment.specs.Parameters.{Parameters}

module _ (P : Parameters) (m : ℕ) (positive : 0 < P.q) (fits : P.q ≤ 2 ^ 64) (ballots claims head shares0 shares1 : Bytes)
    (sized : length head ≡ head_length P.N P.repeats) (octets : Octets head) (ranged : HeadRanged P m head) (side : ℕ) (low : side < 2) (o : Opening) where
  open P use {q, N, p, B}

  abbrev shares : Bytes
  shares = of_side side shares0 shares1

  abbrev ballot : ℕ → List Test
  ballot j = mask_test q N p B o.s ballots shares j ∷ claim_test q N p ballots claims shares0 shares1 j ∷ []

  in_range : head_ranged P.q P.N head ≡ true
  in_range = (head_exactly P m head).1 ranged

  opens_side : None (side_tests P m head ballots claims shares0 shares1 side shares o) → SideOpened P m ballots claims head shares0 shares1 side o
  opens_side n =
      let pairs = (pairs_exactly P m positive fits head sized octets in_range side low o).0 (not-false _ n.1.0) in
      record {
        key_opened = (key_exactly P m positive fits head sized octets in_range side low o).0 (not-false _ n.0);
        s_committed = pairs.0;
        e_committed = pairs.1;
        masked = λ j l. within_sound B N _ (not-false _ (none_each m ballot n.1.1 j l).0);
        claimed = λ j l. same_equal _ _ (not-false _ (none_each m ballot n.1.1 j l).1.0);
      }

  side_opened : SideOpened P m ballots claims head shares0 shares1 side o → None (side_tests P m head ballots claims shares0 shares1 side shares o)
  side_opened s = (
    ap not ((key_exactly P m positive fits head sized octets in_range side low o).1 s.key_opened),
    (
      ap not ((pairs_exactly P m positive fits head sized octets in_range side low o).1 (s.s_committed, s.e_committed)),
      each_none m ballot (λ j l. (ap not (within_complete B N _ (s.masked j l)), (ap not (equal_same (s.claimed j l)), tt))),
    ),
  )

  pub side_exactly : None (side_tests P m head ballots claims shares0 shares1 side shares o) ↔ SideOpened P m ballots claims head shares0 shares1 side o
  side_exactly = (opens_side, side_opened)
