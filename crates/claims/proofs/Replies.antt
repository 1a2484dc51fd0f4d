-- The one number that C is answered, of every exported call: each test of each order has a number of 1 to 255. Assumes nothing.
use mathlib.Core.Path.{◌≡◌, refl, sym, ap₂}
use mathlib.Core.Logic.{◌≢◌}
use mathlib.Core.Bool.{Bool, true, false, cond, not, ◌&&◌, ◌||◌}
use mathlib.Core.List.{List, [], ◌∷◌, ◌++◌}
use Prim.Native.Nat.{ℕ, zero, suc, ◌*◌, ◌/◌, ◌%◌, ◌<◌}
use native.Mathlib.Omega.{arith}
use borrow.Author.Tests.{ltb-true, eqb-false, not-true}
use lib.Dec.{eqb, ltb}
use lib.ListN.{length}
use Rattle.codec.specs.Bytes.{Bytes}
use Rattle.codec.specs.Reply.{Test, first, packed, Reply, Taken, Refused}
use Rattle.codec.proofs.Laws.{both}
use Rattle.codec.proofs.Replies.{not_taken}
use Rattle.sheet.specs.Sheet.{order}
use Rattle.register.specs.Register as entries
use Rattle.ring.specs.Poly.{Poly}
use Rattle.commitment.specs.Commitment.{Keys}
use Rattle.stern.specs.Shortness.{answer1_of, answer2_of, answer3_of, tests1, tests2, tests3, answer_tests}
use Rattle.round.specs.Layout.{Opening, joined, pairs_of, digests_at, answer_at}
use Rattle.round.specs.Round.{Round, challenge_at, votes_tests, answers_tests, round_tests}
use Rattle.round.specs.Producer.{Material, mask_tests, permutation_tests, noise_tests, producer_tests}
use Rattle.round.specs.Extractor.{Openings, open0, open1, side_tests, extract_tests}
use Rattle.commitment.specs.Parameters.{Parameters, parameters_of}
use Rattle.round_extract.specs.Extraction.{answered, extraction}
use Rattle.session_check.specs.Check.{stored_tests, early_tests, late_tests}
use Rattle.session.specs.declared.Session.{Session}
use Rattle.session.specs.Session.{valid}
use Rattle.session.specs.Steps.{clear_tests, admit_tests, withdraw_tests, close_tests, claim_tests, commit_tests, draw_tests, check_early, check_late, check_tests, turnout_tests, turnout_by}
use Rattle.session_image.specs.Image.{image_length, decode}
use Rattle.session_image.specs.Images.{Host, lent_reply, host_reply, turnout_reply, turnout_answer, counted_answer}
use Rattle.session.specs.Machine.{Step, clear, admit, withdraw, close, claim, commit, draw, check, State, state, tests, reply}
use Rattle.session_histories.proofs.Replies.{Others, others}
use Rattle.claims.specs.Calls.{Told}
use Rattle.session_check.specs.Stored.{Inputs}

abbrev pub Packed : Reply → Type 0
Packed reply = Told reply (packed reply)

-- ---- orders

-- whether a number is one of 1 to 255 that documents 01 and 02 use: 34 is not
abbrev in_use : ℕ → Bool
in_use n = ltb 0 n && (ltb n 256 && not (eqb n 34))

-- of each test
abbrev pub numbered : List Test → Bool
numbered [] = true
numbered (t ∷ ts) = in_use t.number && numbered ts

abbrev pub Numbered : List Test → Type 0
Numbered ts = numbered ts ≡ true

append : (rs ts : List Test) → Numbered rs → Numbered ts → Numbered (rs ++ ts)
append [] ts a b = b
append (r ∷ rs) ts a b = let h = both (in_use r.number) (numbered rs) a in ap₂ ◌&&◌ h.0 (append rs ts h.1 b)

numbered_others : (ts : List Test) → Numbered ts → Others 34 ts
numbered_others [] h = tt
numbered_others (t ∷ ts) h =
    let k = both (in_use t.number) (numbered ts) h in
    let low = both (ltb 0 t.number) (ltb t.number 256 && not (eqb t.number 34)) k.0 in
    (eqb-false t.number 34 (not-true _ (both (ltb t.number 256) (not (eqb t.number 34)) low.1).1), numbered_others ts k.1)

-- no order of such numbers answers 34
not_34 : (ts : List Test) → Numbered ts → (place : ℕ) → first ts ≢ Refused 34 place
not_34 ts h place = others 34 place ts (numbered_others ts h)

of_each : (n : ℕ) (f : ℕ → List Test) → ((i : ℕ) → Numbered (f i)) → Numbered (joined n f)
unfolding joined
of_each zero f h = refl
of_each (suc n) f h = append (joined n f) (f n) (of_each n f h) (h n)

told_taken : (v : ℕ) → Told Taken (256 * v)
told_taken v = record { taken = (λ e. refl, λ e. omega arith); refused = λ n p e. not_taken n p (sym e) }

told_refused : (n p : ℕ) → 0 < n → n < 256 → Packed (Refused n p)
told_refused n p low high = record {
  taken = (λ e. absurd (omega arith), λ e. not_taken n p e);
  refused = λ m r e.
      let en : n ≡ m = cc in
      let ep : p ≡ r = cc in
      (omega arith, omega arith);
}

pub told : (ts : List Test) → Numbered ts → Packed (first ts)
unfolding first
told [] h = told_taken 0
told (t ∷ ts) h =
    let k = both (in_use t.number) (numbered ts) h in
    let low = both (ltb 0 t.number) (ltb t.number 256 && not (eqb t.number 34)) k.0 in
    let high = both (ltb t.number 256) (not (eqb t.number 34)) low.1 in
    go t.holds (told_refused t.number t.place (ltb-true 0 t.number low.0) (ltb-true t.number 256 high.0)) (told ts k.1)
  where
    go : (b : Bool) → Packed (Refused t.number t.place) → Packed (first ts) → Packed (cond b (Refused t.number t.place) (first ts))
    go true refused rest = refused
    go false refused rest = rest

-- ---- the calls that are lent the sheet

pub in_order : (text : Bytes) → Numbered (order text)
in_order text = refl

-- a call's own order after the sheet's
pub behind : (text : Bytes) (ts : List Test) → Numbered ts → Packed (first (order text ++ ts))
behind text ts h = told (order text ++ ts) (append (order text) ts (in_order text) h)

pub in_producer : (P : Parameters) (m : ℕ) (x : Material) (asked : Bool) → Numbered (producer_tests P m x asked)
unfolding producer_tests
in_producer P m x asked =
    append (mask_tests P.N P.B m x.masks0 x.masks1) _ (of_each m _ (λ j. refl))
    (append (permutation_tests P.N P.repeats x.permutations) (noise_tests P.q P.N P.D m x.secrets x.ballots) (of_each P.repeats _ (λ i. refl)) (of_each m _ (λ j. refl)))

in_votes : (q N p B m : ℕ) (s : Poly) (ballots claims shares0 shares1 shares : Bytes) → Numbered (votes_tests q N p B m s ballots claims shares0 shares1 shares)
in_votes q N p B m s ballots claims shares0 shares1 shares = of_each m _ (λ j. refl)

in_side : (P : Parameters) (m : ℕ) (head ballots claims shares0 shares1 : Bytes) (side : ℕ) (shares : Bytes) (o : Opening) → Numbered (side_tests P m head ballots claims shares0 shares1 side shares o)
in_side P m head ballots claims shares0 shares1 side shares o = in_votes P.q P.N P.p P.B m o.s ballots claims shares0 shares1 shares

in_answer : (q N : ℕ) (k : Keys) (c d : Bytes) (place challenge : ℕ) (answer : Bytes) → Numbered (answer_tests q N k c d place challenge answer)
in_answer q N k c d place challenge answer = go (eqb challenge 1) (eqb challenge 2)
  where
    go : (a b : Bool) → Numbered (cond a (tests1 q N k c d place (answer1_of N answer)) (cond b (tests2 q N k c d place (answer2_of N answer)) (tests3 q N k c d place (answer3_of N answer))))
    go true b = refl
    go false true = refl
    go false false = refl

pub in_extract : (P : Parameters) (m : ℕ) (x : Openings) → Numbered (extract_tests P m x)
unfolding extract_tests
in_extract P m x =
    append (side_tests P m x.head x.ballots x.claims x.shares0 x.shares1 0 x.shares0 (open0 P m x)) _ (in_side P m x.head x.ballots x.claims x.shares0 x.shares1 0 x.shares0 (open0 P m x))
    (append (side_tests P m x.head x.ballots x.claims x.shares0 x.shares1 1 x.shares1 (open1 P m x)) _ (in_side P m x.head x.ballots x.claims x.shares0 x.shares1 1 x.shares1 (open1 P m x))
    refl)

pub extract_told : (reply : Reply) (kind : ℕ) → Packed reply → Told reply (answered (extraction reply kind))
unfolding extraction
extract_told Taken kind p = told_taken kind
extract_told (Refused number place) kind p = p

pub extract_value : (reply : Reply) (kind : ℕ) → reply ≡ Taken → answered (extraction reply kind) / 256 ≡ kind
unfolding extraction
extract_value Taken kind e = omega arith
extract_value (Refused number place) kind e = not_taken number place e

-- ---- the calls that are lent an image

pub lent : (image : Bytes) (R : Session → Reply) → ((s : Session) → Packed (R s)) → Packed (lent_reply image R)
lent image R h = go (eqb (length image) image_length)
  where
    go : (b : Bool) → Packed (cond b (R (decode image)) (Refused 1 0))
    go true = h (decode image)
    go false = told_refused 1 0 (omega arith) (omega arith)

in_round : (P : Parameters) (m : ℕ) (r : Round) → Numbered (round_tests P m r)
unfolding round_tests
in_round P m r =
    append (answers_tests P r.head r.challenges r.answers) _ (of_each P.repeats _ (λ i. in_answer P.q P.N P.k (pairs_of P.N r.head) (digests_at P.N r.head i) i (challenge_at r i) (answer_at P.N r.challenges r.answers i)))
    (in_votes P.q P.N P.p P.B m _ r.ballots r.claims r.shares0 r.shares1 _)

in_check : (s : Session) (round : ℕ) (x : Inputs) → Numbered (check_tests s round x)
unfolding check_tests check_early check_late early_tests late_tests stored_tests
in_check s round x = in_round (parameters_of x.sheet) s.progress.closed _

-- every step's order has such numbers
in_step : (x : Step) (st : State) → Numbered (tests x st)
unfolding clear_tests admit_tests withdraw_tests close_tests claim_tests commit_tests draw_tests
in_step (clear b) st = refl
in_step (admit ballot) st = refl
in_step (withdraw mark) st = refl
in_step close st = refl
in_step (claim claims) st = refl
in_step (commit k head shares0 shares1) st = refl
in_step (draw seed) st = refl
in_step (check k x) st = in_check st.session k x

step_told : (x : Step) (st : State) → Packed (reply x st)
unfolding reply
step_told x st = told (tests x st) (in_step x st)

pub step_not_34 : (x : Step) (st : State) (place : ℕ) → reply x st ≢ Refused 34 place
unfolding reply
step_not_34 x st place = not_34 (tests x st) (in_step x st) place

pub host_told : (x : Step) (h : Host) → Packed (host_reply x h)
unfolding host_reply
host_told x h = lent h.image (λ s. reply x (state s h.register)) (λ s. step_told x (state s h.register))

-- a count that is refused names no place, and none of its tests has one
pub turnout_told : (image reg : Bytes) (enrolled : ℕ) → Told (turnout_reply image reg enrolled) (turnout_answer image reg enrolled)
unfolding turnout_reply turnout_answer turnout_tests first
turnout_told image reg enrolled =
    go (eqb (length image) image_length) (not (valid (decode image))) (not (eqb (length reg) entries.register_length)) (ltb enrolled 1 || ltb 1000000 enrolled)
    (entries.turnout reg (decode image).progress.used enrolled)
  where
    go : (a b c d : Bool) (v : ℕ)
        → let reply = cond a (cond b (Refused 31 0) (cond c (Refused 1 0) (cond d (Refused 3 0) Taken))) (Refused 1 0) in Told reply (counted_answer (turnout_by reply v))
    go false b c d v = told_refused 1 0 (omega arith) (omega arith)
    go true true c d v = told_refused 31 0 (omega arith) (omega arith)
    go true false true d v = told_refused 1 0 (omega arith) (omega arith)
    go true false false true v = told_refused 3 0 (omega arith) (omega arith)
    go true false false false v = told_taken v

pub counted_value : (reply : Reply) (thousandths : ℕ) → reply ≡ Taken → counted_answer (turnout_by reply thousandths) / 256 ≡ thousandths
counted_value Taken thousandths e = omega arith
counted_value (Refused number place) thousandths e = not_taken number place e

pub value_or_none : (b : Bool) (v : ℕ) → cond b (256 * v) 0 % 256 ≡ 0
value_or_none true v = omega arith
value_or_none false v = refl
