-- The producer's order as one stretch of tests after another, and what decides. Assumes nothing.
use mathlib.Core.Path.{◌≡◌, refl, sym, ap, ◌∙◌}
use mathlib.Core.Bool.{Bool, true}
use mathlib.Core.List.{List, ◌++◌}
use Prim.Native.Nat.{ℕ}
use lib.ListN.{length, length-replicate}
use borrow.Author.Tests.{not-false}
use Rattle.codec.specs.Bytes.{Bytes, zeros}
use Rattle.std.proofs.Common.{Result, Ok, Err}
use Rattle.std.specs.Result.{result_and}
use Rattle.codec.specs.Reply.{Test, first, Reply, Taken, Refused}
use Rattle.codec.specs.Refusal.{as_reply}
use Rattle.codec.specs.declared.Refusal.{Refusal}
use Rattle.codec.proofs.Laws.{both}
use Rattle.codec.proofs.Replies.{taken_exactly}
use Rattle.codec.specs.Lists.{list, all_below}
use Rattle.ring.specs.Slots.{poly}
use Rattle.vector.specs.Vector.{vector}
use Rattle.round.specs.Layout.{ballots_below}
use Rattle.commitment.specs.Parameters.{Parameters}
use Rattle.round.specs.Producer.{Material, material_ranged, secret_tests, mask_tests, permutation_tests, noise_tests, producer_tests}
use Rattle.round.proofs.Many.{refused_there, continued}
use Rattle.round_material.specs.Internal.{MaterialTested}

-- the reply of both, where both are worked out
pub both_decided : {A : Type 0} (rs ts : List Test) (r t : Result A Refusal) → as_reply r ≡ first rs → as_reply t ≡ first ts → as_reply (result_and r t) ≡ first (rs ++ ts)
both_decided rs ts (Ok u) t e f = continued rs ts e refl f
both_decided rs ts (Err why) t e f = refused_there rs ts e _ _ refl

-- ---- what the range test says of each slice

pub all_below_lem : (q n count : ℕ) (secrets s0 e0 vectors ballots : Bytes) → material_ranged q n count secrets s0 e0 vectors ballots ≡ true
    → (all_below 3 secrets ≡ true) × (all_below q (list n (poly s0)) ≡ true) × (all_below q (list n (poly e0)) ≡ true) × (all_below q (vector vectors) ≡ true) × (ballots_below q n count ballots ≡ true)
all_below_lem q n count secrets s0 e0 vectors ballots t =
    let s = both (all_below 3 secrets) _ t in
    let u = both (all_below q (list n (poly s0))) _ s.1 in
    let v = both (all_below q (list n (poly e0))) _ u.1 in
    let w = both (all_below q (vector vectors)) (ballots_below q n count ballots) v.1 in
    (s.0, u.0, v.0, w.0, w.1)

-- ---- the whole order

-- zeroes over zeroes
again : {l m : ℕ} (w1 w2 : Bytes) → l ≡ m → w1 ≡ zeros l → w2 ≡ zeros (length w1) → w2 ≡ zeros m
again {l} w1 w2 e f g = g ∙ ap zeros (ap length f ∙ length-replicate l 0 ∙ e)

module _ (P : Parameters) (count : ℕ) (x : Material) (asked : Bool) where
  abbrev secret : List Test
  secret = secret_tests P count asked x.secrets x.s0 x.e0 x.vectors x.ballots

  abbrev later : List Test
  later =
      mask_tests P.N P.B count x.masks0 x.masks1 ++ (permutation_tests P.N P.repeats x.permutations ++ noise_tests P.q P.N P.D count x.secrets x.ballots)

  -- the ballots are in range where the first two tests are passed
  pub ballots_passed : {r : Reply} → r ≡ first secret → r ≡ Taken → ballots_below P.q P.N count x.ballots ≡ true
  ballots_passed e f =
      let d = both asked (material_ranged P.q P.N count x.secrets x.s0 x.e0 x.vectors x.ballots) (not-false _ ((taken_exactly secret).0 (sym e ∙ f)).0) in
      (all_below_lem P.q P.N count x.secrets x.s0 x.e0 x.vectors x.ballots d.1).4

  module _ {l : ℕ} {w w1 : Bytes} {r : Reply} (t : (r ≡ first secret) × (l ≡ length w)) (e1 : w1 ≡ zeros l) where
    pub stopped : (number place : ℕ) → r ≡ Refused number place → MaterialTested P count x asked (Refused number place) w w1
    unfolding producer_tests
    stopped number place e = record { replied = refused_there secret later t.0 number place e; cleared = e1 ∙ ap zeros t.1 }

    pub ended : {r' : Reply} {w2 : Bytes} → r ≡ Taken → (r' ≡ first later) × (w2 ≡ zeros (length w1)) → MaterialTested P count x asked r' w w2
    unfolding producer_tests
    ended {w2 = w2} e u = record { replied = continued secret later t.0 e u.0; cleared = again w1 w2 t.1 e1 u.1 }
