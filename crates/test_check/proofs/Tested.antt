-- The order of a check: too many ballots, a slice of wrong length, and the round's own order where every length is right. Assumes nothing.
use mathlib.Core.Path.{◌≡◌}
use mathlib.Core.Bool.{Bool, true, false}
use Prim.Native.Nat.{ℕ, ◌≤◌, ◌<◌}
use Rattle.codec.specs.Bytes.{Bytes}
use Rattle.codec.specs.Reply.{first, Reply, Refused}
use Rattle.round.specs.Round.{Round, round_tests}
use Rattle.round_lengths.specs.Calls.{count_of, message_sized, second_sized}
use Rattle.round_lengths.proofs.Sizes.{too_many, wrong_first, wrong_second, right}
use Rattle.test_check.specs.Replies.{round_check_tests}
use Rattle.commitment.specs.Parameters.{Parameters}

module _ (P : Parameters) (r : Round) (scratch : Bytes) where
  open P use {N, repeats}

  -- the first message, the ballots and the claims, for m ballots; and the rest
  abbrev message : ℕ → Bool
  message m = message_sized N repeats m r.head r.shares0 r.shares1 r.ballots r.claims

  abbrev second : ℕ → Bool
  second m = second_sized N repeats r.challenges r.opening r.answers scratch

  module _ {count : ℕ} (is : count ≡ count_of N r.ballots) {reply : Reply} where
    pub check_many : reply ≡ Refused 1 0 → 4096 < count → reply ≡ first (round_check_tests P r scratch)
    unfolding round_check_tests
    check_many = too_many message second (λ m. round_tests P m r) is

    pub check_message : {x : Bool} → reply ≡ Refused 1 0 → count ≤ 4096 → x ≡ message count → x ≡ false → reply ≡ first (round_check_tests P r scratch)
    unfolding round_check_tests
    check_message = wrong_first message second (λ m. round_tests P m r) is

    pub check_second : {x y : Bool} → reply ≡ Refused 1 0 → count ≤ 4096 → x ≡ message count → x ≡ true → y ≡ second count → y ≡ false → reply ≡ first (round_check_tests P r scratch)
    unfolding round_check_tests
    check_second = wrong_second message second (λ m. round_tests P m r) is

    pub check_rest : {x y : Bool} → count ≤ 4096 → x ≡ message count → x ≡ true → y ≡ second count → y ≡ true → reply ≡ first (round_tests P count r)
        → reply ≡ first (round_check_tests P r scratch)
    unfolding round_check_tests
    check_rest = right message second (λ m. round_tests P m r) is
