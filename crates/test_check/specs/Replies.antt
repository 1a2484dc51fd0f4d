-- The check of one round over the sheet and lent bytes, with side and challenges lent (document 01, the order of check). It has no session: 31 and 16, and lengths by the
-- number that was closed, are the session's. Assumes nothing.
use Rattle.std.specs.Prelude.{◌≡◌, ◌&&◌, List, ◌∷◌, ◌++◌, ℕ}
use Rattle.codec.specs.Bytes.{Bytes}
use Rattle.codec.specs.Reply.{Test, first, packed, Reply}
use Rattle.sheet.specs.Sheet.{order}
use Rattle.scratch.specs.Call.{zeroized}
use Rattle.round.specs.Round.{Round, round_tests}
use Rattle.round_lengths.specs.Calls.{count_of, lengths_test, message_sized, second_sized}
use Rattle.commitment.specs.Parameters.{Parameters, parameters_of}

-- 1, then the round's own order
unfoldable pub round_check_tests : Parameters → Round → (scratch : Bytes) → List Test
round_check_tests P r scratch =
    let m = count_of P.N r.ballots in
    lengths_test m
    (message_sized P.N P.repeats m r.head r.shares0 r.shares1 r.ballots r.claims && second_sized P.N P.repeats r.challenges r.opening r.answers scratch)
    ∷ round_tests P m r

unfoldable pub check_reply : (text : Bytes) → Round → (scratch : Bytes) → Reply
check_reply text r scratch = first (order text ++ round_check_tests (parameters_of text) r scratch)

pub record RoundCheckCalled (text : Bytes) (r : Round) (scratch : Bytes) (answer : ℕ) (scratch' : Bytes) : Type 0 where
  pub replied : answer ≡ packed (check_reply text r scratch)
  pub cleared : scratch' ≡ zeroized (check_reply text r scratch) scratch
