-- What is known of the lent slices where a call's lengths are right, and its order after them. Assumes nothing.
use mathlib.Core.Path.{◌≡◌, refl, sym, ap, ap₂, ◌∙◌}
use mathlib.Core.Logic.{◌↔◌}
use mathlib.Core.Bool.{Bool, true, false, ◌&&◌}
use mathlib.Core.List.{List, [], ◌∷◌}
use Prim.Native.Nat.{ℕ, ◌*◌, ◌≤◌, ◌<◌}
use native.Mathlib.Omega.{arith}
use borrow.Author.Tests.{le-leb, lt-leb, leb-true, not-false}
use lib.Dec.{leb}
use lib.ListN.{length}
use Rattle.codec.specs.Bytes.{Bytes, same}
use Rattle.codec.specs.Reply.{Test, first, Reply, Taken, Refused}
use Rattle.codec.proofs.Laws.{both}
use Rattle.codec.proofs.Replies.{taken_exactly}
use Rattle.scratch.specs.Call.{scratch_length}
use Rattle.scratch.proofs.Order.{length_at, refuses, passes}
use Rattle.stern.specs.Shortness.{answer_length}
use Rattle.round.specs.Layout.{ballot_length, head_length, answers_length}
use Rattle.round.specs.Round.{Round}
use Rattle.round.specs.Internal.{Lengths}
use Rattle.round.specs.Producer.{Material, MaterialSized}
use Rattle.round.specs.Writes.{FirstRoom}
use Rattle.round.proofs.Tests.{equal_same}
use Rattle.round_lengths.specs.Calls.{lengths_test, material_sized, first_sized, second_sized, message_sized, openings_sized}
use Rattle.commitment.specs.Parameters.{Parameters}

-- ---- the order: two groups of lengths and then the rest, by the number of ballots

module _ (a b : ℕ → Bool) (ts : ℕ → List Test) {count m : ℕ} (is : count ≡ m) where
  abbrev order : List Test
  order = lengths_test m (a m && b m) ∷ ts m

  -- too many ballots
  pub too_many : {r : Reply} → r ≡ Refused 1 0 → 4096 < count → r ≡ first order
  too_many e h = e ∙ refuses 1 0 _ (ts m) (rw (lt-leb m 4096 (omega (arith, h, is))) refl)

  -- a slice of wrong length in the first group, and in the second
  pub wrong_first : {r : Reply} {x : Bool} → r ≡ Refused 1 0 → count ≤ 4096 → x ≡ a count → x ≡ false → r ≡ first order
  wrong_first e h f g = e ∙ refuses 1 0 _ (ts m) (rw (le-leb m 4096 (omega (arith, h, is)), sym (f ∙ ap a is) ∙ g) refl)

  pub wrong_second : {r : Reply} {x y : Bool} → r ≡ Refused 1 0 → count ≤ 4096 → x ≡ a count → x ≡ true → y ≡ b count → y ≡ false → r ≡ first order
  wrong_second e h f g i j = e ∙ refuses 1 0 _ (ts m) (rw (le-leb m 4096 (omega (arith, h, is)), sym (f ∙ ap a is) ∙ g, sym (i ∙ ap b is) ∙ j) refl)

  -- all lengths are right
  pub right : {r : Reply} {x y : Bool} → count ≤ 4096 → x ≡ a count → x ≡ true → y ≡ b count → y ≡ true → r ≡ first (ts count) → r ≡ first order
  right h f g i j e = e ∙ ap (λ (k : ℕ). first (ts k)) is ∙ sym (passes 1 0 _ (ts m) (rw (le-leb m 4096 (omega (arith, h, is)), sym (f ∙ ap a is) ∙ g, sym (i ∙ ap b is) ∙ j) refl))

-- a call is taken: the lengths are right, and the rest is taken
pub all_right : (m : ℕ) (a b : Bool) (ts : List Test) → first (lengths_test m (a && b) ∷ ts) ≡ Taken → (m ≤ 4096) × (a ≡ true) × (b ≡ true) × (first ts ≡ Taken)
all_right m a b ts e =
    let n = (taken_exactly (lengths_test m (a && b) ∷ ts)).0 e in
    let h = both (leb m 4096) (a && b) (not-false (leb m 4096 && (a && b)) n.0) in
    let g = both a b h.1 in
    (leb-true m 4096 h.0, g.0, g.1, (taken_exactly ts).1 n.1)

-- ---- lengths

-- the material
module _ (P : Parameters) (m : ℕ) (x : Material) (e : material_sized P.N P.repeats m x ≡ true) where
  open P use {N, repeats}

  abbrev keyed : List ℕ
  keyed = length x.secrets ∷ length x.s0 ∷ length x.e0 ∷ length x.masks0 ∷ length x.masks1 ∷ length x.ballots ∷ []

  abbrev keyed_wanted : List ℕ
  keyed_wanted = 14 * N ∷ 8 * N ∷ 8 * N ∷ 8 * N * m ∷ 8 * N * m ∷ ballot_length N * m ∷ []

  abbrev repeated : List ℕ
  repeated = length x.vectors ∷ length x.permutations ∷ length x.salts ∷ []

  abbrev repeated_wanted : List ℕ
  repeated_wanted = 336 * N * repeats ∷ 168 * N * repeats ∷ 96 * repeats ∷ []

  halves : (same keyed keyed_wanted ≡ true) × (same repeated repeated_wanted ≡ true)
  unfolding material_sized
  halves = both (same keyed keyed_wanted) (same repeated repeated_wanted) e

  pub material_sizes : MaterialSized P m x
  material_sizes = record {
    secrets = length_at keyed keyed_wanted 0 halves.0;
    s0 = length_at keyed keyed_wanted 1 halves.0;
    e0 = length_at keyed keyed_wanted 2 halves.0;
    masks0 = length_at keyed keyed_wanted 3 halves.0;
    masks1 = length_at keyed keyed_wanted 4 halves.0;
    ballots = length_at keyed keyed_wanted 5 halves.0;
    vectors = length_at repeated repeated_wanted 0 halves.1;
    permutations = length_at repeated repeated_wanted 1 halves.1;
    salts = length_at repeated repeated_wanted 2 halves.1;
  }

pub material_exactly : (P : Parameters) (m : ℕ) (x : Material) → (material_sized P.N P.repeats m x ≡ true) ↔ MaterialSized P m x
unfolding material_sized
material_exactly P m x = (
  material_sizes P m x,
  λ s. ap₂ ◌&&◌ (equal_same (cc (s.secrets, s.s0, s.e0, s.masks0, s.masks1, s.ballots))) (equal_same (cc (s.vectors, s.permutations, s.salts))),
)

-- what the first call writes
module _ (N repeats m : ℕ) (r : FirstRoom) where
  abbrev room : List ℕ
  room = length r.head ∷ length r.shares0 ∷ length r.shares1 ∷ length r.claims ∷ length r.scratch ∷ []

  abbrev room_wanted : List ℕ
  room_wanted = head_length N repeats ∷ 8 * N * m ∷ 8 * N * m ∷ N * m ∷ scratch_length ∷ []

  pub first_sizes : first_sized N repeats m r ≡ true
      → (length r.head ≡ head_length N repeats) × (length r.shares0 ≡ 8 * N * m) × (length r.shares1 ≡ 8 * N * m) × (length r.claims ≡ N * m) × (length r.scratch ≡ scratch_length)
  unfolding first_sized
  first_sizes e = (length_at room room_wanted 0 e, length_at room room_wanted 1 e, length_at room room_wanted 2 e, length_at room room_wanted 3 e, length_at room room_wanted 4 e)

  pub first_sized_lem : length r.head ≡ head_length N repeats → length r.shares0 ≡ 8 * N * m → length r.shares1 ≡ 8 * N * m → length r.claims ≡ N * m
      → length r.scratch ≡ scratch_length → first_sized N repeats m r ≡ true
  unfolding first_sized
  first_sized_lem a b c d e = equal_same (cc (a, b, c, d, e))

-- what the second call is given and writes
pub second_sizes : (N repeats : ℕ) (challenges opening answers scratch : Bytes) → second_sized N repeats challenges opening answers scratch ≡ true
    → (length challenges ≡ repeats) × (length opening ≡ 22 * N) × (length answers ≡ answers_length N challenges) × (length scratch ≡ scratch_length)
unfolding second_sized
second_sizes N repeats challenges opening answers scratch e =
    let xs : List ℕ = length challenges ∷ length opening ∷ length answers ∷ length scratch ∷ [] in
    let ys : List ℕ = repeats ∷ 22 * N ∷ answers_length N challenges ∷ scratch_length ∷ [] in
    (length_at xs ys 0 e, length_at xs ys 1 e, length_at xs ys 2 e, length_at xs ys 3 e)

pub second_sized_lem : (N repeats : ℕ) (challenges opening answers scratch : Bytes) → length challenges ≡ repeats → length opening ≡ 22 * N
    → length answers ≡ answers_length N challenges → length scratch ≡ scratch_length → second_sized N repeats challenges opening answers scratch ≡ true
unfolding second_sized
second_sized_lem N repeats challenges opening answers scratch a b c d = equal_same (cc (a, b, c, d))

-- the first message, the ballots and the claims
pub message_sizes : (N repeats m : ℕ) (head shares0 shares1 ballots claims : Bytes) → message_sized N repeats m head shares0 shares1 ballots claims ≡ true
    → (length head ≡ head_length N repeats) × (length shares0 ≡ 8 * N * m) × (length shares1 ≡ 8 * N * m) × (length ballots ≡ ballot_length N * m) × (length claims ≡ N * m)
unfolding message_sized
message_sizes N repeats m head shares0 shares1 ballots claims e =
    let xs : List ℕ = length head ∷ length shares0 ∷ length shares1 ∷ length ballots ∷ length claims ∷ [] in
    let ys : List ℕ = head_length N repeats ∷ 8 * N * m ∷ 8 * N * m ∷ ballot_length N * m ∷ N * m ∷ [] in
    (length_at xs ys 0 e, length_at xs ys 1 e, length_at xs ys 2 e, length_at xs ys 3 e, length_at xs ys 4 e)

-- both openings, the three answers and the output of the extractor
pub openings_sizes : (N : ℕ) (opening0 opening1 answer1 answer2 answer3 out scratch : Bytes) → openings_sized N opening0 opening1 answer1 answer2 answer3 out scratch ≡ true
    → ((length opening0 ≡ 22 * N) × (length opening1 ≡ 22 * N) × (length out ≡ 24 * N) × (length scratch ≡ scratch_length))
    × ((length answer1 ≡ answer_length N 1) × (length answer2 ≡ answer_length N 2) × (length answer3 ≡ answer_length N 3))
unfolding openings_sized
openings_sizes N opening0 opening1 answer1 answer2 answer3 out scratch e =
    let xs : List ℕ = length opening0 ∷ length opening1 ∷ length out ∷ length scratch ∷ [] in
    let ys : List ℕ = 22 * N ∷ 22 * N ∷ 24 * N ∷ scratch_length ∷ [] in
    let us : List ℕ = length answer1 ∷ length answer2 ∷ length answer3 ∷ [] in
    let vs : List ℕ = answer_length N 1 ∷ answer_length N 2 ∷ answer_length N 3 ∷ [] in
    let h = both (same xs ys) (same us vs) e in (
      (length_at xs ys 0 h.0, length_at xs ys 1 h.0, length_at xs ys 2 h.0, length_at xs ys 3 h.0),
      (length_at us vs 0 h.1, length_at us vs 1 h.1, length_at us vs 2 h.1),
    )

-- the lengths of a round that is checked
pub check_lengths : (P : Parameters) (r : Round) (scratch : Bytes) (m : ℕ) → message_sized P.N P.repeats m r.head r.shares0 r.shares1 r.ballots r.claims ≡ true
    → second_sized P.N P.repeats r.challenges r.opening r.answers scratch ≡ true → Lengths P m r × (length scratch ≡ scratch_length)
check_lengths P r scratch m e f =
    let s = message_sizes P.N P.repeats m r.head r.shares0 r.shares1 r.ballots r.claims e in
    let t = second_sizes P.N P.repeats r.challenges r.opening r.answers scratch f in
    (record { challenges = t.0; ballots = s.3; claims = s.4; head = s.0; shares0 = s.1; shares1 = s.2; opening = t.1; answers = t.2 }, t.3)
