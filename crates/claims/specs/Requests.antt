-- What the requests of document 02 ask to be shown, a record for each. Proved: proofs/Requests.antt. Assumes nothing.
use Rattle.std.specs.Prelude.{◌≡◌, ◌≢◌, [], ◌∷◌, ℕ, ◌%◌}
use Rattle.codec.specs.Bytes.{Bytes}
use Rattle.codec.specs.Reply.{packed}
use Rattle.session.specs.Machine.{Step, withdraw, State, tests}
use Rattle.session_image.specs.Images.{Host, host_reply}
use Rattle.claims.specs.HostSteps.{session_steps, step_calls}
use Rattle.claims.specs.HostClaims.{HostRollIsBatch, HostHonestAccepted}
use Rattle.claims.specs.Orders.{refusal_numbers}
use Rattle.claims.specs.Withdrawals.{WithdrawalClaims}
use Rattle.claims.specs.Products.{NoRoot, SomeRootless, TransformClaims, PlainClaims, SameBytes, RootClaims, ProductOrders, SomeProduct}

-- ---- L1. Withdrawals that arrive before their ballot

pub record L1 : Type 0 where
  -- of the steps of a session, and of the exported calls: none answers 34; when a withdrawal is taken and refused, and what it leaves; and over lists, a withdrawn mark is in no batch closed
  -- before the next clear taken, in either order of arrival, the late ballot is refused 33, and the entry that an early withdrawal makes never stands
  pub over_sessions : WithdrawalClaims session_steps
  pub over_calls : WithdrawalClaims step_calls
  -- nor is C told 34
  pub never_told_34 : (x : Step) (h : Host) → packed (host_reply x h) % 256 ≢ 34
  -- "The order for withdraw is now 31, 1, 33, 35"
  pub order : (mark : ℕ) (st : State) → refusal_numbers (tests (withdraw mark) st) ≡ 31 ∷ 1 ∷ 33 ∷ 35 ∷ []
  -- with such withdrawals too the ballots admitted and not withdrawn are the batch, and a round of the producer's that is lodged is accepted at its turn. That turns come in elections that begin
  -- with withdrawals: `turns_come` and `some_election` of Demand3
  pub roll_is_batch : HostRollIsBatch
  pub honest_accepted : HostHonestAccepted

-- ---- L2. Multiplying by transform

pub record L2 : Type 0 where
  -- "Add a call that multiplies two lent polynomials by number-theoretic transform, with a lent root w for which w^N is -1 modulo q", and "the plain method .. remains for callers without a root":
  -- the reply of each, case by case, and what is left of the product and of scratch. Both leave the ring's product `mul`
  pub by_transform : (text x y product scratch : Bytes) (root : ℕ) → TransformClaims text x y product scratch root
  pub plain : (text x y product scratch : Bytes) → PlainClaims text x y product scratch
  -- "It gives the same polynomial as the plain method on all inputs, for every N and every odd q of the sheet, prime or not"
  pub same_bytes : (text x y : Bytes) → SameBytes text x y
  -- "37, w is not below q or w^N is not -1,
  pub no_root : (text x y product scratch : Bytes) (root : ℕ) → NoRoot text x y product scratch root
  pub roots : RootClaims
  -- tested after 1 and before 5"
  pub orders : ProductOrders
  -- some call is taken, and on some sheet every root is refused
  pub some : SomeProduct
  pub some_rootless : SomeRootless
