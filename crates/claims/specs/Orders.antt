-- The orders as document 01 gives them ("Refused because of the state", and the producer's and the extractor's paragraphs): numbers, and places where they are not 0. Assumes nothing.
use Rattle.std.specs.Prelude.{◌≡◌, cond, List, [], ◌∷◌, ◌++◌, map, ℕ, eqb}
use Rattle.codec.specs.Bytes.{Bytes}
use Rattle.codec.specs.Reply.{Test}
use Rattle.sheet.specs.Sheet.{order}
use Rattle.sheet_numbers.specs.declared.Numbers.{Numbers}
use Rattle.scheme.specs.Calls.{keygen_tests, encrypt_tests, decrypt_tests, split_tests, share_tests, reconstruct_tests, commitment_tests, product_tests, multiply_tests}
use Rattle.commitment.specs.Parameters.{Parameters}
use Rattle.round.specs.Layout.{joined}
use Rattle.round.specs.Round.{Round, challenge_at, round_tests}
use Rattle.round.specs.Producer.{Material}
use Rattle.round.specs.Writes.{FirstRoom, SecondRoom}
use Rattle.round.specs.Extractor.{Openings, ExtractRoom}
use Rattle.round_lengths.specs.Calls.{count_of, first_tests, second_tests, openings_tests}
use Rattle.session_check.specs.Stored.{Inputs}
use Rattle.session.specs.Steps.{Beginning, challenges_tests, turnout_tests, check_early}
use Rattle.session.specs.Machine.{clear, admit, withdraw, close, claim, commit, draw, State, tests}
use Rattle.session.specs.declared.Session.{Session}

abbrev pub refusal_numbers : List Test → List ℕ
refusal_numbers ts = map (λ (t : Test). t.number) ts

-- numbers with their places
abbrev pub refusals : List Test → List (ℕ × ℕ)
refusals ts = map (λ (t : Test). (t.number, t.place)) ts

-- of the answer to a challenge in a repetition: 10 for challenge 1 and 9 for the others, then 11
abbrev pub answer_refusals : (challenge repetition : ℕ) → List (ℕ × ℕ)
answer_refusals challenge i = (cond (eqb challenge 1) 10 9, i) ∷ (11, i) ∷ []

-- by ballot 12, 13
abbrev pub vote_refusals : (m : ℕ) → List (ℕ × ℕ)
vote_refusals m = joined m (λ j. (12, j) ∷ (13, j) ∷ [])

-- of an opened side: 7, 8, and these
abbrev pub side_refusals : (m : ℕ) → List (ℕ × ℕ)
side_refusals m = (7, 0) ∷ (8, 0) ∷ vote_refusals m

-- the producer's: 1, 5, 14, by ballot 12, by repetition 9, by ballot 15
abbrev pub producer_refusals : (repeats m : ℕ) → List (ℕ × ℕ)
producer_refusals repeats m =
    (1, 0) ∷ (5, 0) ∷ (14, 0) ∷ (joined m (λ j. (12, j) ∷ []) ++ (joined repeats (λ i. (9, i) ∷ []) ++ joined m (λ j. (15, j) ∷ [])))

-- "Sheet and clear: 1, 2, 3, 4, 5. Admit: 31, 1, 5, 32, 33, 35. Withdraw: 31, 1, 33, 35 (02, L1). Close: 31, 1, 36. Claim: 31, 1, 5. Commit, draw: 31, 1. Turnout (any phase): 31, 1, 3.
-- Check: 31, the sheet's 1 to 5, 1, 16, 5, 6, 7, 8; then by repetition 9, 10, 11; then by ballot 12, 13. .. Remaining calls: 1, 5, 12." What 16 compares are five tests; of the remaining calls only
-- jdn_share is lent a mask. Multiply (02, L2): 37 "after 1 and before 5"
pub record OrdersAsWritten : Type 0 where
  pub sheet : (text : Bytes) → refusal_numbers (order text) ≡ 1 ∷ 2 ∷ 3 ∷ 4 ∷ 5 ∷ []
  -- the register's length, then the sheet
  pub clear : (b : Beginning) (st : State) → refusal_numbers (tests (clear b) st) ≡ 1 ∷ 1 ∷ 2 ∷ 3 ∷ 4 ∷ 5 ∷ []
  pub admit : (ballot : Bytes) (st : State) → refusal_numbers (tests (admit ballot) st) ≡ 31 ∷ 1 ∷ 5 ∷ 32 ∷ 33 ∷ 35 ∷ []
  pub withdraw : (mark : ℕ) (st : State) → refusal_numbers (tests (withdraw mark) st) ≡ 31 ∷ 1 ∷ 33 ∷ 35 ∷ []
  pub close : (st : State) → refusal_numbers (tests close st) ≡ 31 ∷ 1 ∷ 36 ∷ []
  pub claim : (claims : Bytes) (st : State) → refusal_numbers (tests (claim claims) st) ≡ 31 ∷ 1 ∷ 5 ∷ []
  pub commit : (round : ℕ) (head shares0 shares1 : Bytes) (st : State) → refusal_numbers (tests (commit round head shares0 shares1) st) ≡ 31 ∷ 1 ∷ []
  pub draw : (seed : Bytes) (st : State) → refusal_numbers (tests (draw seed) st) ≡ 31 ∷ 1 ∷ []
  pub early_check : (s : Session) (round : ℕ) (x : Inputs) → refusal_numbers (check_early s round x) ≡ 31 ∷ 1 ∷ 2 ∷ 3 ∷ 4 ∷ 5 ∷ 1 ∷ 16 ∷ 16 ∷ 16 ∷ 16 ∷ 16 ∷ []
  pub late_check : (P : Parameters) (m : ℕ) (r : Round)
      → refusals (round_tests P m r) ≡ (5, 0) ∷ (6, 0) ∷ (7, 0) ∷ (8, 0) ∷ (joined P.repeats (λ i. answer_refusals (challenge_at r i) i) ++ vote_refusals m)
  pub produce_first : (P : Parameters) (x : Material) (room : FirstRoom) → refusals (first_tests P x room) ≡ producer_refusals P.repeats (count_of P.N x.ballots)
  pub produce_second : (P : Parameters) (x : Material) (side : ℕ) (challenges : Bytes) (room : SecondRoom)
      → refusals (second_tests P x side challenges room) ≡ producer_refusals P.repeats (count_of P.N x.ballots)
  -- "1, 5, 6; then for side 0 and then side 1: 7, 8 and by ballot 12, 13; then by answer 9, 10, 11"
  pub extract : (P : Parameters) (x : Openings) (room : ExtractRoom) → let side = side_refusals (count_of P.N x.ballots) in
      refusals (openings_tests P x room)
      ≡ (1, 0) ∷ (5, 0) ∷ (6, 0) ∷ (side ++ (side ++ (answer_refusals 1 x.repetition ++ (answer_refusals 2 x.repetition ++ answer_refusals 3 x.repetition))))
  pub challenges : (s : Session) (round : ℕ) (out : Bytes) → refusal_numbers (challenges_tests s round out) ≡ 31 ∷ 1 ∷ []
  pub turnout : (s : Session) (reg : Bytes) (enrolled : ℕ) → refusal_numbers (turnout_tests s reg enrolled) ≡ 31 ∷ 1 ∷ 3 ∷ []
  pub keygen : (k : Numbers) (s e b scratch : Bytes) → refusal_numbers (keygen_tests k s e b scratch) ≡ 1 ∷ 5 ∷ []
  pub encrypt : (k : Numbers) (r e1 e2 m ciphertext scratch : Bytes) → refusal_numbers (encrypt_tests k r e1 e2 m ciphertext scratch) ≡ 1 ∷ 5 ∷ []
  pub decrypt : (k : Numbers) (s ciphertext vote scratch : Bytes) → refusal_numbers (decrypt_tests k s ciphertext vote scratch) ≡ 1 ∷ 5 ∷ []
  pub split : (k : Numbers) (s e s0 e0 out scratch : Bytes) → refusal_numbers (split_tests k s e s0 e0 out scratch) ≡ 1 ∷ 5 ∷ []
  pub share : (k : Numbers) (half u mask t scratch : Bytes) → refusal_numbers (share_tests k half u mask t scratch) ≡ 1 ∷ 5 ∷ 12 ∷ []
  pub reconstruct : (k : Numbers) (v t0 t1 vote scratch : Bytes) → refusal_numbers (reconstruct_tests k v t0 t1 vote scratch) ≡ 1 ∷ 5 ∷ []
  pub commitment : (k : Numbers) (m r pair scratch : Bytes) → refusal_numbers (commitment_tests k m r pair scratch) ≡ 1 ∷ 5 ∷ []
  pub product : (k : Numbers) (x y product scratch : Bytes) → refusal_numbers (product_tests k x y product scratch) ≡ 1 ∷ 5 ∷ []
  pub multiply : (k : Numbers) (x y : Bytes) (w : ℕ) (product scratch : Bytes) → refusal_numbers (multiply_tests k x y w product scratch) ≡ 1 ∷ 37 ∷ 5 ∷ []
