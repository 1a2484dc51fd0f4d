-- The order of 1 and 16, test by test. Assumes nothing.
use mathlib.Core.Path.{◌≡◌, refl, sym, ap, ◌∙◌}
use mathlib.Core.Bool.{Bool, true, false, not}
use mathlib.Core.List.{List, [], ◌∷◌}
use Prim.Native.Nat.{ℕ, ◌*◌}
use lib.ListN.{length}
use Rattle.codec.specs.Bytes.{Bytes, same}
use Rattle.codec.specs.Reply.{Test, test, first, Reply, Taken, Refused}
use Rattle.codec.proofs.Laws.{both}
use Rattle.sheet_numbers.specs.declared.Numbers.{Numbers}
use Rattle.scratch.proofs.Order.{refuses, passes}
use Rattle.round.specs.Layout.{ballot_length}
use Rattle.round_lengths.specs.Calls.{message_sized, second_sized}
use Rattle.round_lengths.proofs.Sizes.{message_sizes}
use Rattle.session_check.specs.Stored.{Inputs, challenges_of, same_numbers, inputs_sized}
use Rattle.session_check.specs.declared.stored.Stored.{Stored}

-- a test by what was compared: it refuses, or the rest of the order decides
module _ (number place : ℕ) (passing : Bool) (ts : List Test) {x : Bool} (is : x ≡ passing) where
  pub refused_by_lem : x ≡ false → Refused number place ≡ first (test number place (not passing) ∷ ts)
  refused_by_lem e = refuses number place (not passing) ts (ap not (sym is ∙ e))

  pub passed_by : {r : Reply} → x ≡ true → r ≡ first ts → r ≡ first (test number place (not passing) ∷ ts)
  passed_by e f = f ∙ sym (passes number place (not passing) ts (ap not (sym is ∙ e)))

pub none_left : Taken ≡ first []
unfolding first
none_left = refl

-- the digests that are compared, and the numbers
pub told : (e : Bytes) {d d' : Bytes} {x : Bool} → x ≡ same d e → d ≡ d' → x ≡ same d' e
told e f g = f ∙ ap (λ (d : Bytes). same d e) g

pub numbers_told : (m : Numbers) {k n : Numbers} {x : Bool} → x ≡ same_numbers k m → n ≡ k → x ≡ same_numbers n m
numbers_told m f g = f ∙ ap (λ (n : Numbers). same_numbers n m) (sym g)

-- the lengths are right: that of the ballots
pub ballots_sized : (s : Stored) (x : Inputs) {b : Bool} → b ≡ inputs_sized s x → b ≡ true → length x.ballots ≡ ballot_length s.numbers.ring * s.closed
unfolding inputs_sized
ballots_sized s x {b} e f =
    let n = s.numbers.ring in
    let r = s.numbers.repeats in
    let h = both (message_sized n r s.closed x.head x.shares0 x.shares1 x.ballots x.claims) (second_sized n r (challenges_of s) x.opening x.answers x.scratch) (sym e ∙ f) in
    (message_sizes n r s.closed x.head x.shares0 x.shares1 x.ballots x.claims h.0).3
