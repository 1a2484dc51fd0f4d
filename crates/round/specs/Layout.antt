-- Where the parts of a round stand (document 01, "Layouts"), with N as a parameter. Numbers count from 0. Assumes nothing.
use Rattle.std.specs.Prelude.{Bool, List, [], ◌∷◌, ◌++◌, ℕ, zero, suc, ◌+◌, ◌*◌, get_or, take}
use Rattle.codec.specs.Bytes.{Bytes, part}
use Rattle.codec.specs.Lists.{list, all_below, all}
use Rattle.ring.specs.Poly.{Poly}
use Rattle.ring.specs.Slots.{slot}
use Rattle.stern.specs.Shortness.{answer_length}

-- f 0, f 1, .., f (n - 1), end to end: the tests of each of n in order, or the bytes of each
unfoldable pub joined : {A : Type 0} → ℕ → (ℕ → List A) → List A
joined zero f = []
joined (suc n) f = joined n f ++ f n

-- ---- ballots: mark, u, v

abbrev pub ballot_length : ℕ → ℕ
ballot_length N = 4 + 16 * N

abbrev pub u_at : ℕ → Bytes → ℕ → Poly
u_at N ballots j = slot ballots (ballot_length N * j + 4)

abbrev pub v_at : ℕ → Bytes → ℕ → Poly
v_at N ballots j = slot ballots (ballot_length N * j + 4 + 8 * N)

-- u and v of m ballots are below q
abbrev pub ballots_below : (q N m : ℕ) (ballots : Bytes) → Bool
ballots_below q N m ballots = all m (λ j. all_below q (list (2 * N) (u_at N ballots j)))

-- a side's share of ballot j, and its claim
abbrev pub share_at : ℕ → Bytes → ℕ → Poly
share_at N shares j = slot shares (8 * N * j)

abbrev pub claim_at : ℕ → Bytes → ℕ → Bytes
claim_at N claims j = part claims (N * j) N

-- ---- the head of the first message: b0, b1, the committed pairs of s0, s1, e0, e1, and 96 bytes of digests a repetition

abbrev pub head_length : (N repeats : ℕ) → ℕ
head_length N repeats = 80 * N + 96 * repeats

abbrev pub key_at : ℕ → Bytes → ℕ → Poly
key_at N head side = slot head (8 * N * side)

abbrev pub pairs_of : ℕ → Bytes → Bytes
pairs_of N head = part head (16 * N) (64 * N)

-- the pair of s0, s1, e0, e1: number 0, 1, 2, 3
abbrev pub pair_at : ℕ → Bytes → ℕ → Bytes
pair_at N head i = part head (16 * N + 16 * N * i) (16 * N)

abbrev pub digests_at : ℕ → Bytes → ℕ → Bytes
digests_at N head i = part head (80 * N + 96 * i) 96

-- ---- an opening: s_i, e_i, the three r of s_i, then of e_i

pub record Opening : Type 0 where
  pub s : Poly
  pub e : Poly
  pub rs : Bytes
  pub re : Bytes

abbrev pub opening_of : ℕ → Bytes → Opening
opening_of N o = record { s = slot o 0; e = slot o (8 * N); rs = part o (16 * N) (3 * N); re = part o (19 * N) (3 * N) }

-- ---- the answers, end to end

unfoldable pub answers_length : ℕ → Bytes → ℕ
answers_length N [] = 0
answers_length N (c ∷ cs) = answer_length N c + answers_length N cs

abbrev pub answer_at : ℕ → (challenges answers : Bytes) → ℕ → Bytes
answer_at N challenges answers i = part answers (answers_length N (take i challenges)) (answer_length N (get_or challenges i 0))
