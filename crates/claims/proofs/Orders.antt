-- The claim of specs/Orders.antt: the numbers and places of the orders. Assumes nothing.
use mathlib.Core.Path.{◌≡◌, refl, ap, ap₂, ◌∙◌}
use mathlib.Core.Bool.{Bool, true, false, cond}
use mathlib.Core.List.{List, [], ◌∷◌, ◌++◌, map-append}
use Prim.Native.Nat.{ℕ, zero, suc}
use lib.Dec.{eqb}
use Rattle.codec.specs.Bytes.{Bytes}
use Rattle.codec.specs.Reply.{Test, test}
use Rattle.commitment.specs.Commitment.{Keys}
use Rattle.commitment.specs.Parameters.{Parameters}
use Rattle.stern.specs.Shortness.{answer1_of, answer2_of, answer3_of, tests1, tests2, tests3, answer_tests}
use Rattle.ring.specs.Poly.{Poly}
use Rattle.round.specs.Layout.{Opening, joined, pairs_of, digests_at, answer_at}
use Rattle.round.specs.Round.{Round, challenge_at, answers_tests, votes_tests, round_tests}
use Rattle.round.specs.Producer.{Material, mask_tests, permutation_tests, noise_tests, producer_tests}
use Rattle.round.specs.Extractor.{Openings, open0, open1, side_tests, three_tests, extract_tests}
use Rattle.round_lengths.specs.Calls.{first_tests, second_tests, openings_tests}
use Rattle.session_check.specs.Check.{stored_tests, early_tests}
use Rattle.session.specs.Steps.{clear_tests, admit_tests, withdraw_tests, close_tests, claim_tests, commit_tests, draw_tests, check_early, challenges_tests, turnout_tests}
use Rattle.claims.specs.Orders.{refusals, answer_refusals, vote_refusals, side_refusals, producer_refusals, OrdersAsWritten}

-- ---- tests by ballot and by repetition

of_each : (n : ℕ) (f : ℕ → List Test) (g : ℕ → List (ℕ × ℕ)) → ((i : ℕ) → refusals (f i) ≡ g i) → refusals (joined n f) ≡ joined n g
unfolding joined
of_each zero f g h = refl
of_each (suc n) f g h = map-append _ (joined n f) (f n) ∙ ap₂ ◌++◌ (of_each n f g h) (h n)

then_these : (rs ts : List Test) {u v : List (ℕ × ℕ)} → refusals rs ≡ u → refusals ts ≡ v → refusals (rs ++ ts) ≡ u ++ v
then_these rs ts e f = map-append _ rs ts ∙ ap₂ ◌++◌ e f

answered : (q N : ℕ) (k : Keys) (c d : Bytes) (place challenge : ℕ) (answer : Bytes) → refusals (answer_tests q N k c d place challenge answer) ≡ answer_refusals challenge place
answered q N k c d place challenge answer = go (eqb challenge 1) (eqb challenge 2)
  where
    go : (a b : Bool)
        → refusals (cond a (tests1 q N k c d place (answer1_of N answer)) (cond b (tests2 q N k c d place (answer2_of N answer)) (tests3 q N k c d place (answer3_of N answer))))
        ≡ (cond a 10 9, place) ∷ (11, place) ∷ []
    go true b = refl
    go false true = refl
    go false false = refl

voted : (P : Parameters) (m : ℕ) (s : Poly) (ballots claims shares0 shares1 shares : Bytes)
    → refusals (votes_tests P.q P.N P.p P.B m s ballots claims shares0 shares1 shares) ≡ vote_refusals m
voted P m s ballots claims shares0 shares1 shares = of_each m _ _ (λ j. refl)

-- ---- a check behind 16, the producer, the extractor

checked : (P : Parameters) (m : ℕ) (r : Round)
    → refusals (round_tests P m r) ≡ (5, 0) ∷ (6, 0) ∷ (7, 0) ∷ (8, 0) ∷ (joined P.repeats (λ i. answer_refusals (challenge_at r i) i) ++ vote_refusals m)
unfolding round_tests
checked P m r =
    ap (λ (l : List (ℕ × ℕ)). (5, 0) ∷ (6, 0) ∷ (7, 0) ∷ (8, 0) ∷ l)
    (then_these (answers_tests P r.head r.challenges r.answers) _
    (of_each P.repeats _ _ (λ i. answered P.q P.N P.k (pairs_of P.N r.head) (digests_at P.N r.head i) i (challenge_at r i) (answer_at P.N r.challenges r.answers i)))
    (voted P m _ r.ballots r.claims r.shares0 r.shares1 _))

produced : (P : Parameters) (m : ℕ) (x : Material) (asked : Bool) → refusals (test 1 0 true ∷ producer_tests P m x asked) ≡ producer_refusals P.repeats m
unfolding producer_tests
produced P m x asked =
    ap (λ (l : List (ℕ × ℕ)). (1, 0) ∷ (5, 0) ∷ (14, 0) ∷ l)
    (then_these (mask_tests P.N P.B m x.masks0 x.masks1) _ (of_each m _ _ (λ j. refl))
    (then_these (permutation_tests P.N P.repeats x.permutations) (noise_tests P.q P.N P.D m x.secrets x.ballots) (of_each P.repeats _ _ (λ i. refl)) (of_each m _ _ (λ j. refl))))

sided : (P : Parameters) (m : ℕ) (head ballots claims shares0 shares1 : Bytes) (side : ℕ) (shares : Bytes) (o : Opening)
    → refusals (side_tests P m head ballots claims shares0 shares1 side shares o) ≡ side_refusals m
sided P m head ballots claims shares0 shares1 side shares o =
    ap (λ (l : List (ℕ × ℕ)). (7, 0) ∷ (8, 0) ∷ l) (voted P m o.s ballots claims shares0 shares1 shares)

extracted : (P : Parameters) (m : ℕ) (x : Openings) → let side = side_refusals m in
    refusals (extract_tests P m x)
    ≡ (5, 0) ∷ (6, 0) ∷ (side ++ (side ++ (answer_refusals 1 x.repetition ++ (answer_refusals 2 x.repetition ++ answer_refusals 3 x.repetition))))
unfolding extract_tests
extracted P m x =
    let tests = side_tests P m x.head x.ballots x.claims x.shares0 x.shares1 in
    let at = sided P m x.head x.ballots x.claims x.shares0 x.shares1 in
    let three = three_tests P x.head x.repetition x.answer1 x.answer2 x.answer3 in
    ap (λ (l : List (ℕ × ℕ)). (5, 0) ∷ (6, 0) ∷ l)
    (then_these (tests 0 x.shares0 (open0 P m x)) (tests 1 x.shares1 (open1 P m x) ++ three) (at 0 x.shares0 (open0 P m x))
    (then_these (tests 1 x.shares1 (open1 P m x)) three (at 1 x.shares1 (open1 P m x)) refl))

pub orders_as_written : OrdersAsWritten
unfolding clear_tests admit_tests withdraw_tests close_tests claim_tests commit_tests draw_tests check_early early_tests stored_tests challenges_tests turnout_tests first_tests second_tests openings_tests
orders_as_written = record {
  sheet = λ text. refl;
  clear = λ b st. refl;
  admit = λ ballot st. refl;
  withdraw = λ mark st. refl;
  close = λ st. refl;
  claim = λ claims st. refl;
  commit = λ round head shares0 shares1 st. refl;
  draw = λ seed st. refl;
  early_check = λ s round x. refl;
  late_check = checked;
  produce_first = λ P x room. produced P _ x true;
  produce_second = λ P x side challenges room. produced P _ x _;
  extract = λ P x room. ap (λ (l : List (ℕ × ℕ)). (1, 0) ∷ l) (extracted P _ x);
  challenges = λ s round out. refl;
  turnout = λ s reg enrolled. refl;
  keygen = λ k s e b scratch. refl;
  encrypt = λ k r e1 e2 m ciphertext scratch. refl;
  decrypt = λ k s ciphertext vote scratch. refl;
  split = λ k s e s0 e0 out scratch. refl;
  share = λ k half u mask t scratch. refl;
  reconstruct = λ k v t0 t1 vote scratch. refl;
  commitment = λ k m r pair scratch. refl;
  product = λ k x y product scratch. refl;
  multiply = λ k x y w product scratch. refl;
}
