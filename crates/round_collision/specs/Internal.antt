-- What the contracts of inner functions and the proofs go by: no exported contract and no claim cites this file. Assumes nothing.
use Rattle.std.specs.Prelude.{◌≡◌, Bool, true, cond, not, ℕ, ◌*◌, ◌≤◌, length}
use Rattle.codec.specs.Bytes.{Bytes, same, zeros}
use Rattle.codec.specs.Lists.{all_below}
use Rattle.scratch.specs.Call.{scratch_length}
use Rattle.scratch.specs.Internal.{Free}
use Rattle.commitment.specs.Internal.{PublicKeys}
use Rattle.vector.specs.Vector.{vector}
use Rattle.vector.specs.Permutation.{entries, permutes}
use Rattle.stern.specs.Argument.{Setting, Answer1, Answer2, Answer3, one_by2, one_by3, two_by1, two_by3, three_by1, three_by2}
use Rattle.stern.specs.Shortness.{answer_length, answer2_of, answer3_of, in_range}

-- ---- what the search for a collision is lent, and what it answers (document 01, the extractor's paragraph)

-- answers that passed the tests of lengths, ranges and permutations
pub record ThreeAnswers (q N : ℕ) (answer1 answer2 answer3 : Bytes) : Type 0 where
  pub sized1 : length answer1 ≡ answer_length N 1
  pub sized2 : length answer2 ≡ answer_length N 2
  pub sized3 : length answer3 ≡ answer_length N 3
  pub below1 : in_range q N 1 answer1 ≡ true
  pub below2 : in_range q N 2 answer2 ≡ true
  pub below3 : in_range q N 3 answer3 ≡ true
  pub permutes2 : permutes (42 * N) (entries (answer2_of N answer2).p) ≡ true
  pub permutes3 : permutes (42 * N) (entries (answer3_of N answer3).p) ≡ true

-- what it goes by beside them: the keys k, the committed pairs c, scratch, and room for a pair
pub record Ground (q N : ℕ) (k c work room : Bytes) : Type 0 where
  pub keys : PublicKeys N q k
  pub sized_work : length work ≡ scratch_length
  pub sized_room : 16 * N ≤ length room
  pub sized_pairs : length c ≡ 64 * N
  pub below_pairs : all_below q (vector c) ≡ true

-- extended + R and R, in range
pub record MaskedVectors (q N : ℕ) (u r : Bytes) : Type 0 where
  pub sized_u : length u ≡ 336 * N
  pub sized_r : length r ≡ 336 * N
  pub below_u : all_below q (vector u) ≡ true
  pub below_r : all_below q (vector r) ≡ true

-- ---- what the functions answer and leave

-- two strings were compared, by way of scratch, which is left free
pub record Compared (s t : Bytes) (yes : Bool) (work work' : Bytes) : Type 0 where
  pub told : yes ≡ same s t
  pub kept_work : Free work work'

-- the same, by way of scratch and of a room
pub record ComparedBy (s t : Bytes) (yes : Bool) (work work' room room' : Bytes) : Type 0 where
  pub told : yes ≡ same s t
  pub kept_work : Free work work'
  pub kept_room : Free room room'

-- the lowest of three comparisons that failed, 0 if none did
abbrev pub lowest_of : (one two three : Bool) → ℕ
lowest_of one two three = cond (not one) 1 (cond (not two) 2 (cond (not three) 3 0))

-- the lowest digest whose two strings differ, 0 if there is none
unfoldable pub differing : Setting → Answer1 → Answer2 → Answer3 → ℕ
differing s a b c = lowest_of (same (one_by2 s b) (one_by3 s c)) (same (two_by1 s a) (two_by3 s c)) (same (three_by1 s a) (three_by2 s b))

-- it was searched for, and scratch and the room are zeroed
pub record Searched (s : Setting) (a : Answer1) (b : Answer2) (c : Answer3) (digest : ℕ) (work work' room room' : Bytes) : Type 0 where
  pub found : digest ≡ differing s a b c
  pub cleared_work : work' ≡ zeros (length work)
  pub cleared_room : room' ≡ zeros (length room)
