-- What is known where neither 1 nor 16 holds: the sheet's numbers are the session's, and the lengths are those of a round with them. Assumes nothing.
use mathlib.Core.Path.{◌≡◌, sym, subst, ◌∙◌}
use mathlib.Core.Bool.{Bool, true, ◌&&◌}
use Prim.Native.Nat.{ℕ}
use borrow.Author.Tests.{not-false}
use lib.ListN.{length}
use Rattle.codec.specs.Bytes.{Bytes}
use Rattle.codec.specs.Reply.{first, None, Reply, Taken}
use Rattle.codec.proofs.Laws.{both}
use Rattle.codec.proofs.Replies.{taken_exactly}
use Rattle.sheet.specs.Reader.{sheet_of}
use Rattle.sheet_numbers.specs.declared.Numbers.{Numbers}
use Rattle.scratch.specs.Call.{scratch_length}
use Rattle.round.specs.Internal.{round_of, Lengths}
use Rattle.round_lengths.specs.Calls.{message_sized, second_sized}
use Rattle.commitment.specs.Parameters as sheets
use Rattle.round_lengths.proofs.Sizes.{check_lengths}
use Rattle.session_check.specs.declared.stored.Stored.{Stored}
use Rattle.session_check.specs.Stored.{Inputs, challenges_of, inputs_sized, stored_tests, lent_tests}
use Rattle.session_check.proofs.Numbers.{same_numbers_lem}

module _ (s : Stored) (x : Inputs) where
  abbrev message_sized_lem : Numbers → Bool
  message_sized_lem n = message_sized n.ring n.repeats s.closed x.head x.shares0 x.shares1 x.ballots x.claims

  abbrev second_sized_lem : Numbers → (challenges : Bytes) → Bool
  second_sized_lem n challenges = second_sized n.ring n.repeats challenges x.opening x.answers x.scratch

  module _ {k : Numbers} (read : (sheet_of x.sheet).numbers ≡ k) {r : Reply} (said : r ≡ first (lent_tests s x)) (taken : r ≡ Taken) where
    none : None (lent_tests s x)
    none = (taken_exactly (lent_tests s x)).0 (sym said ∙ taken)

    numbers_are : s.numbers ≡ k
    unfolding stored_tests
    numbers_are = sym ((same_numbers_lem (sheet_of x.sheet).numbers s.numbers).0 (not-false _ none.1.1.0)) ∙ read

    module _ {challenges : Bytes} (drawn : challenges ≡ challenges_of s) where
      sized : (message_sized_lem k && second_sized_lem k challenges) ≡ true
      unfolding inputs_sized
      sized =
          subst (λ (n : Numbers). (message_sized_lem n && second_sized_lem n challenges) ≡ true) numbers_are
          (subst (λ (d : Bytes). (message_sized_lem s.numbers && second_sized_lem s.numbers d) ≡ true) (sym drawn) (not-false _ none.0))

      pub round_lengths : (public : Bytes) (side : ℕ)
          → Lengths (sheets.parameters k public) s.closed (round_of side challenges x.ballots x.claims x.head x.shares0 x.shares1 x.opening x.answers) × (length x.scratch ≡ scratch_length)
      round_lengths public side =
          let h = both (message_sized_lem k) (second_sized_lem k challenges) sized in
          check_lengths (sheets.parameters k public) (round_of side challenges x.ballots x.claims x.head x.shares0 x.shares1 x.opening x.answers) x.scratch s.closed h.0 h.1
