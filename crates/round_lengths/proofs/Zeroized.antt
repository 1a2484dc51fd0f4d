-- A call after its lengths: none of its tests refuses 1 or 31, so scratch is zeroed whatever it answers. Assumes nothing.
use mathlib.Core.Path.{◌≡◌, refl, ap, sym, ◌∙◌}
use mathlib.Core.Bool.{Bool, true, false, cond}
use mathlib.Core.Logic.{◌≢◌}
use mathlib.Core.List.{List, [], ◌∷◌, ◌++◌}
use Prim.Native.Nat.{ℕ, zero, suc}
use native.Mathlib.Omega.{arith}
use lib.Dec.{eqb}
use lib.ListN.{length}
use Rattle.codec.specs.Bytes.{Bytes, zeros}
use Rattle.codec.specs.Reply.{Test, test, first, Reply, Refused}
use Rattle.scratch.specs.Call.{zeroized}
use Rattle.scratch.proofs.Zeroizing.{zeroized_taken, zeroized_refused, kept_length}
use Rattle.commitment.specs.Commitment.{Keys}
use Rattle.stern.specs.Shortness.{answer1_of, answer2_of, answer3_of, tests1, tests2, tests3, answer_tests}
use Rattle.round.specs.Layout.{Opening, joined, pairs_of, digests_at, answer_at, opening_of}
use Rattle.round.specs.Round.{Round, challenge_at, shares_of, votes_tests, round_tests}
use Rattle.round.specs.Producer.{Material, producer_tests}
use Rattle.round.specs.Extractor.{Openings, pairs, digests, open0, open1, extract_tests, side_tests}
use Rattle.commitment.specs.Parameters.{Parameters}

-- no test of a list refuses 1 or 31
unfoldable pub Later : List Test → Type 0
Later [] = Unit
Later (t ∷ ts) = ((t.number ≢ 1) × (t.number ≢ 31)) × Later ts

pub later_none : Later []
unfolding Later
later_none = tt

pub later_test : (k place : ℕ) (b : Bool) (ts : List Test) → k ≢ 1 → k ≢ 31 → Later ts → Later (test k place b ∷ ts)
unfolding Later
later_test k place b ts f g h = ((f, g), h)

later_append : (ts us : List Test) → Later ts → Later us → Later (ts ++ us)
unfolding Later
later_append [] us h g = g
later_append (t ∷ ts) us h g = (h.0, later_append ts us h.1 g)

later_each : (n : ℕ) (f : ℕ → List Test) → ((i : ℕ) → Later (f i)) → Later (joined n f)
unfolding joined
later_each zero f h = later_none
later_each (suc n) f h = later_append (joined n f) (f n) (later_each n f h) (h n)

-- one test of each
later_one : (n k : ℕ) (b : ℕ → Bool) → k ≢ 1 → k ≢ 31 → Later (joined n (λ j. test k j (b j) ∷ []))
later_one n k b f g = later_each n (λ j. test k j (b j) ∷ []) (λ j. later_test k j (b j) [] f g later_none)

-- ---- the three lists

later_answer : (q N : ℕ) (k : Keys) (c d : Bytes) (place challenge : ℕ) (answer : Bytes) → Later (answer_tests q N k c d place challenge answer)
later_answer q N k c d place challenge answer = go (eqb challenge 1) (eqb challenge 2)
  where
    go : (b b' : Bool) → Later (cond b (tests1 q N k c d place (answer1_of N answer)) (cond b' (tests2 q N k c d place (answer2_of N answer)) (tests3 q N k c d place (answer3_of N answer))))
    go true b' = later_test 10 place _ _ (λ h. omega arith) (λ h. omega arith) (later_test 11 place _ _ (λ h. omega arith) (λ h. omega arith) later_none)
    go false true = later_test 9 place _ _ (λ h. omega arith) (λ h. omega arith) (later_test 11 place _ _ (λ h. omega arith) (λ h. omega arith) later_none)
    go false false = later_test 9 place _ _ (λ h. omega arith) (λ h. omega arith) (later_test 11 place _ _ (λ h. omega arith) (λ h. omega arith) later_none)

module _ (P : Parameters) (m : ℕ) where
  pub later_material : (x : Material) (asked : Bool) → Later (producer_tests P m x asked)
  unfolding producer_tests
  later_material x asked =
      later_test 5 0 _ _ (λ h. omega arith) (λ h. omega arith)
      (later_test 14 0 _ _ (λ h. omega arith) (λ h. omega arith)
      (later_append _ _ (later_one m 12 _ (λ h. omega arith) (λ h. omega arith))
      (later_append _ _ (later_one P.repeats 9 _ (λ h. omega arith) (λ h. omega arith)) (later_one m 15 _ (λ h. omega arith) (λ h. omega arith)))))

  -- the mask and the claim of each ballot
  later_ballots : (ballots claims shares shares0 shares1 : Bytes) (o : Opening) → Later (votes_tests P.q P.N P.p P.B m o.s ballots claims shares0 shares1 shares)
  later_ballots ballots claims shares shares0 shares1 o =
      later_each m _ (λ j. later_test 12 j _ _ (λ h. omega arith) (λ h. omega arith) (later_test 13 j _ _ (λ h. omega arith) (λ h. omega arith) later_none))

  pub later_round : (r : Round) → Later (round_tests P m r)
  unfolding round_tests
  later_round r =
      later_test 5 0 _ _ (λ h. omega arith) (λ h. omega arith)
      (later_test 6 0 _ _ (λ h. omega arith) (λ h. omega arith)
      (later_test 7 0 _ _ (λ h. omega arith) (λ h. omega arith)
      (later_test 8 0 _ _ (λ h. omega arith) (λ h. omega arith)
      (later_append _ _ (later_each P.repeats _ (λ i. later_answer P.q P.N P.k (pairs_of P.N r.head) (digests_at P.N r.head i) i (challenge_at r i) (answer_at P.N r.challenges r.answers i))) (later_ballots r.ballots r.claims (shares_of r r.side) r.shares0 r.shares1 (opening_of P.N r.opening))))))

  pub later_openings : (x : Openings) → Later (extract_tests P m x)
  unfolding extract_tests
  later_openings x =
      later_test 5 0 _ _ (λ h. omega arith) (λ h. omega arith)
      (later_test 6 0 _ _ (λ h. omega arith) (λ h. omega arith)
      (later_append _ _ (side 0 x.shares0 (open0 P m x))
      (later_append _ _ (side 1 x.shares1 (open1 P m x))
      (later_append _ _ (later_answer P.q P.N P.k (pairs P m x) (digests P m x) x.repetition 1 x.answer1) (later_append _ _ (later_answer P.q P.N P.k (pairs P m x) (digests P m x) x.repetition 2 x.answer2) (later_answer P.q P.N P.k (pairs P m x) (digests P m x) x.repetition 3 x.answer3))))))
    where
      side : (i : ℕ) (shares : Bytes) (o : Opening) → Later (side_tests P m x.head x.ballots x.claims x.shares0 x.shares1 i shares o)
      side i shares o = later_test 7 0 _ _ (λ h. omega arith) (λ h. omega arith) (later_test 8 0 _ _ (λ h. omega arith) (λ h. omega arith) (later_ballots x.ballots x.claims shares x.shares0 x.shares1 o))

-- ---- scratch

by_test : (t : Test) (ts : List Test) (r : Reply) (w : Bytes) → (t.number ≢ 1) × (t.number ≢ 31) → (b : Bool) → r ≡ cond b (Refused t.number t.place) (first ts)
    → (r ≡ first ts → zeroized r w ≡ zeros (length w)) → zeroized r w ≡ zeros (length w)
by_test t ts r w h true e rest = zeroized_refused r t.number t.place w e h.0 h.1
by_test t ts r w h false e rest = rest e

pub zeroized_later : (ts : List Test) → Later ts → (r : Reply) → r ≡ first ts → (w : Bytes) → zeroized r w ≡ zeros (length w)
unfolding first Later
zeroized_later [] h r e w = zeroized_taken r w e
zeroized_later (t ∷ ts) h r e w = by_test t ts r w h.0 t.holds e (λ f. zeroized_later ts h.1 r f w)

-- scratch of one length is left alike
pub zeroized_alike : (ts : List Test) → Later ts → (r : Reply) → r ≡ first ts → (w w' : Bytes) → length w' ≡ length w → zeroized r w' ≡ zeroized r w
zeroized_alike ts h r e w w' l = zeroized_later ts h r e w' ∙ ap zeros l ∙ sym (zeroized_later ts h r e w)

-- a call that 1 refuses leaves it alone
pub unzeroized : {r : Reply} {w : Bytes} → r ≡ Refused 1 0 → w ≡ zeroized r w
unzeroized {r} {w} e = sym (kept_length r 1 0 w e refl)
