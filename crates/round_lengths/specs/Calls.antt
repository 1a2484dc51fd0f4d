-- The lengths of what the calls of a round are lent (document 01, "Layouts"), and the orders of the producer's two calls and of the extractor once the sheet is taken ("Refused because of
-- the state"). Assumes nothing.
use Rattle.std.specs.Prelude.{Bool, true, not, ◌&&◌, List, [], ◌∷◌, ℕ, ◌*◌, ◌/◌, leb, length}
use Rattle.codec.specs.Bytes.{Bytes, same}
use Rattle.codec.specs.Reply.{Test, test}
use Rattle.scratch.specs.Call.{scratch_length}
use Rattle.stern.specs.Shortness.{answer_length}
use Rattle.round.specs.Layout.{ballot_length, head_length, answers_length}
use Rattle.commitment.specs.Parameters.{Parameters}
use Rattle.round.specs.Producer.{Material, asked_ranged, producer_tests}
use Rattle.round.specs.Writes.{FirstRoom, SecondRoom}
use Rattle.round.specs.Extractor.{Openings, ExtractRoom, extract_tests}

-- how many ballots stand in a slice, if they are whole
abbrev pub count_of : ℕ → Bytes → ℕ
count_of N ballots = length ballots / ballot_length N

-- 1: more than 4,096 ballots, or a slice of wrong length
abbrev pub lengths_test : (m : ℕ) → Bool → Test
lengths_test m sized = test 1 0 (not (leb m 4096 && sized))

-- ---- lengths

module _ (N repeats : ℕ) where
  -- the material: by the key and the ballots, and by repetition
  unfoldable pub material_sized : (m : ℕ) → Material → Bool
  material_sized m x =
      same (length x.secrets ∷ length x.s0 ∷ length x.e0 ∷ length x.masks0 ∷ length x.masks1 ∷ length x.ballots ∷ [])
      (14 * N ∷ 8 * N ∷ 8 * N ∷ 8 * N * m ∷ 8 * N * m ∷ ballot_length N * m ∷ [])
      && same (length x.vectors ∷ length x.permutations ∷ length x.salts ∷ []) (336 * N * repeats ∷ 168 * N * repeats ∷ 96 * repeats ∷ [])

  -- what the first call writes, and scratch
  unfoldable pub first_sized : (m : ℕ) → FirstRoom → Bool
  first_sized m r =
      same (length r.head ∷ length r.shares0 ∷ length r.shares1 ∷ length r.claims ∷ length r.scratch ∷ [])
      (head_length N repeats ∷ 8 * N * m ∷ 8 * N * m ∷ N * m ∷ scratch_length ∷ [])

  -- challenges, an opening, the answers, and scratch
  unfoldable pub second_sized : (challenges opening answers scratch : Bytes) → Bool
  second_sized challenges opening answers scratch =
      same (length challenges ∷ length opening ∷ length answers ∷ length scratch ∷ []) (repeats ∷ 22 * N ∷ answers_length N challenges ∷ scratch_length ∷ [])

  -- the first message, the ballots and the claims
  unfoldable pub message_sized : (m : ℕ) → (head shares0 shares1 ballots claims : Bytes) → Bool
  message_sized m head shares0 shares1 ballots claims =
      same (length head ∷ length shares0 ∷ length shares1 ∷ length ballots ∷ length claims ∷ [])
      (head_length N repeats ∷ 8 * N * m ∷ 8 * N * m ∷ ballot_length N * m ∷ N * m ∷ [])

-- both openings, the three answers, the extractor's output, and scratch
unfoldable pub openings_sized : (N : ℕ) → (opening0 opening1 answer1 answer2 answer3 out scratch : Bytes) → Bool
openings_sized N opening0 opening1 answer1 answer2 answer3 out scratch =
    same (length opening0 ∷ length opening1 ∷ length out ∷ length scratch ∷ []) (22 * N ∷ 22 * N ∷ 24 * N ∷ scratch_length ∷ [])
    && same (length answer1 ∷ length answer2 ∷ length answer3 ∷ []) (answer_length N 1 ∷ answer_length N 2 ∷ answer_length N 3 ∷ [])

-- ---- the orders

module _ (P : Parameters) where
  open P use {N, repeats}

  -- the producer's first call
  unfoldable pub first_tests : Material → FirstRoom → List Test
  first_tests x r =
      let m = count_of N x.ballots in
      lengths_test m (material_sized N repeats m x && first_sized N repeats m r) ∷ producer_tests P m x true

  -- its second call
  unfoldable pub second_tests : Material → (side : ℕ) (challenges : Bytes) → SecondRoom → List Test
  second_tests x side challenges r =
      let m = count_of N x.ballots in
      lengths_test m (material_sized N repeats m x && second_sized N repeats challenges r.opening r.answers r.scratch)
      ∷ producer_tests P m x (asked_ranged P m x side challenges)

  -- the extractor
  unfoldable pub openings_tests : Openings → ExtractRoom → List Test
  openings_tests x r =
      let m = count_of N x.ballots in
      lengths_test m
      (message_sized N repeats m x.head x.shares0 x.shares1 x.ballots x.claims
      && openings_sized N x.opening0 x.opening1 x.answer1 x.answer2 x.answer3 r.out r.scratch)
      ∷ extract_tests P m x
