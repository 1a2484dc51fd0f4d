-- Entries of a register: which one a search finds, which ones stand, and what an admission and a withdrawal leave. Assumes nothing.
use mathlib.Core.Path.{◌≡◌, refl, sym, ap, ◌∙◌}
use mathlib.Core.Logic.{◌⊎◌, inl, inr, ◌≢◌}
use mathlib.Core.Bool.{Bool, true, false, cond}
use mathlib.Core.List.Memᴰ
use mathlib.Core.List.{[], ◌∷◌, ◌++◌, Memᴰ}
use Prim.Native.Nat.{ℕ, zero, suc, ◌+◌, ◌*◌, ◌≤◌, ◌<◌}
use native.Mathlib.Decide.{ℕ_discrete, dec_le}
use native.Mathlib.Omega.{arith}
use borrow.Author.Tests.{ltb-true, ltb-false, lt-ltb, le-ltb, eqb-true, eqb-false, eq-eqb, ne_eqb}
use lib.Dec.{eqb, ltb}
use lib.ListN.{length, take, drop, set, length-append, length-replicate}
use lib.Seq.{take_at, drop_at, drop-drop, take_all, get_or-set_same, get_or-set_other}
use Rattle.codec.specs.Bytes.{Bytes, bytes, number, part, put, zeros}
use Rattle.codec.proofs.Laws.{length_part, length_put, part_part, part_put, part_put_before, part_put_after, put_one}
use Rattle.codec.proofs.Numbers.{length_bytes, number_one}
use Rattle.sha3.specs.Sponge.{sha3}
use Rattle.sha3.proofs.Squeezing.{length_sha3}
use Rattle.register.specs.Register.{register_length, capacity, mark_at, state_at, digest_at, find, standing, mark_of, appended, admitted, withdrawn, withdrawn_early}

-- ---- search

-- f is what a search of the first n entries finds: the first of them that has the mark, or n
pub record Found (reg : Bytes) (mark n f : ℕ) : Type 0 where
  pub within : f ≤ n
  pub marked : f < n → mark_at reg f ≡ mark
  pub absent : f ≡ n → (i : ℕ) → i < n → mark_at reg i ≡ mark → ⊥
  pub before : (i : ℕ) → i < f → mark_at reg i ≡ mark → ⊥

found_more : (reg : Bytes) (mark n f : ℕ) (b c : Bool) → ltb f n ≡ b → eqb (mark_at reg n) mark ≡ c → Found reg mark n f
    → Found reg mark (suc n) (cond b f (cond c n (suc n)))
found_more reg mark n f true c eb ec h =
    let l = ltb-true f n eb in
    record { within = omega arith; marked = λ k. h.marked l; absent = λ e i k m. omega arith; before = h.before }
found_more reg mark n f false true eb ec h =
    let l = ltb-false f n eb in
    let w = h.within in
    record { within = omega arith; marked = λ k. eqb-true _ _ ec; absent = λ e i k m. omega arith; before = λ i k. h.before i (omega arith) }
found_more reg mark n f false false eb ec h =
    record { within = omega arith; marked = λ k. absurd (omega arith); absent = λ e. none; before = none }
  where
    last : (i : ℕ) → i < suc n → mark_at reg i ≡ mark → Dec (i ≡ n) → ⊥
    last i k m (yes e) = eqb-false _ _ ec (rw e at m)
    last i k m (no d) = h.absent (let l = ltb-false f n eb in let w = h.within in omega arith) i (omega arith) m

    none : (i : ℕ) → i < suc n → mark_at reg i ≡ mark → ⊥
    none i k m = last i k m (ℕ_discrete i n)

pub found : (reg : Bytes) (mark n : ℕ) → Found reg mark n (find reg mark n)
unfolding find
found reg mark zero = record { within = omega arith; marked = λ k. absurd (omega arith); absent = λ e i k m. omega arith; before = λ i k m. omega arith }
found reg mark (suc n) = found_more reg mark n (find reg mark n) (ltb (find reg mark n) n) (eqb (mark_at reg n) mark) refl refl (found reg mark n)

pub find_nothing : (reg : Bytes) (mark : ℕ) → find reg mark 0 ≡ 0
unfolding find
find_nothing reg mark = refl

-- none of the first n has the mark, and the next has it not either
pub find_none : (reg : Bytes) (mark n : ℕ) → find reg mark n ≡ n → mark_at reg n ≢ mark → find reg mark (suc n) ≡ suc n
unfolding find
find_none reg mark n e d = rw (e, le-ltb n n (omega arith), ne_eqb (mark_at reg n) mark d)

-- none of the first i has the mark, and entry i has it: however many are searched
pub find_first : (reg : Bytes) (mark i n : ℕ) → find reg mark i ≡ i → mark_at reg i ≡ mark → i < n → find reg mark n ≡ i
unfolding find
find_first reg mark i zero e m h = absurd (omega arith)
find_first reg mark i (suc n) e m h = go (ℕ_discrete i n) (find_first reg mark i n e m)
  where
    go : Dec (i ≡ n) → (i < n → find reg mark n ≡ i) → cond (ltb (find reg mark n) n) (find reg mark n) (cond (eqb (mark_at reg n) mark) n (suc n)) ≡ i
    go (yes p) rest =
        let k : find reg mark n ≡ n = rw p at e in
        let a : mark_at reg n ≡ mark = rw p at m in
        rw (k, le-ltb n n (omega arith), eq-eqb (mark_at reg n) mark a) (sym p)
    go (no d) rest = rw (rest (omega arith), lt-ltb i n (omega arith))

-- ---- entries that stand

-- they are below n, and their state is 1
pub stands : (reg : Bytes) (n i : ℕ) → Memᴰ i (standing reg n) → (i < n) × (state_at reg i ≡ 1)
unfolding standing
stands reg zero i m = absurd (Memᴰ.not-nil m)
stands reg (suc n) i m = go (Memᴰ.append_cases (standing reg n) m) (stands reg n i)
  where
    one : (b : Bool) → eqb (state_at reg n) 1 ≡ b → Memᴰ i (cond b (n ∷ []) []) → (i < suc n) × (state_at reg i ≡ 1)
    one true e m = let q = Memᴰ.eq_of_singleton m in (omega arith, rw q (eqb-true _ _ e))
    one false e m = absurd (Memᴰ.not-nil m)

    go : Memᴰ i (standing reg n) ⊎ Memᴰ i (cond (eqb (state_at reg n) 1) (n ∷ []) [])
        → (Memᴰ i (standing reg n) → (i < n) × (state_at reg i ≡ 1)) → (i < suc n) × (state_at reg i ≡ 1)
    go (inl l) rest = let r = rest l in (omega arith, r.1)
    go (inr l) rest = one (eqb (state_at reg n) 1) refl l

-- and every such entry is among them
pub stands_all : (reg : Bytes) (n i : ℕ) → i < n → state_at reg i ≡ 1 → Memᴰ i (standing reg n)
unfolding standing
stands_all reg zero i h s = absurd (omega arith)
stands_all reg (suc n) i h s = go (ℕ_discrete i n) (λ l. stands_all reg n i l s)
  where
    go : Dec (i ≡ n) → (i < n → Memᴰ i (standing reg n)) → Memᴰ i (standing reg n ++ cond (eqb (state_at reg n) 1) (n ∷ []) [])
    go (yes p) rest = rw (eq-eqb (state_at reg n) 1 (rw p at s)) (Memᴰ.append_right (standing reg n) (Memᴰ.head p))
    go (no d) rest = Memᴰ.append_left (cond (eqb (state_at reg n) 1) (n ∷ []) []) (rest (omega arith))

-- how many: none of none, and with one entry more
pub standing_none : (reg : Bytes) → length (standing reg 0) ≡ 0
unfolding standing
standing_none reg = refl

pub standing_counted : (reg : Bytes) (n : ℕ) → state_at reg n ≡ 1 → length (standing reg (suc n)) ≡ length (standing reg n) + 1
unfolding standing
standing_counted reg n e = rw (eq-eqb (state_at reg n) 1 e) (length-append (standing reg n) (n ∷ []))

pub standing_passed : (reg : Bytes) (n : ℕ) → state_at reg n ≢ 1 → length (standing reg (suc n)) ≡ length (standing reg n)
unfolding standing
standing_passed reg n e = rw (ne_eqb (state_at reg n) 1 e) (length-append (standing reg n) [] ∙ omega arith)

-- equal states, equal lists
pub standing_kept : (reg reg' : Bytes) (n : ℕ) → ((i : ℕ) → i < n → state_at reg i ≡ state_at reg' i) → standing reg n ≡ standing reg' n
unfolding standing
standing_kept reg reg' zero h = refl
standing_kept reg reg' (suc n) h = rw (standing_kept reg reg' n (λ i l. h i (omega arith)), h n (omega arith))

pub standing_few : (reg : Bytes) (n : ℕ) → length (standing reg n) ≤ n
standing_few reg zero = omega (arith, standing_none reg)
standing_few reg (suc n) = go (ℕ_discrete (state_at reg n) 1) (standing_few reg n)
  where
    go : Dec (state_at reg n ≡ 1) → length (standing reg n) ≤ n → length (standing reg (suc n)) ≤ suc n
    go (yes e) rest = omega (arith, standing_counted reg n e)
    go (no d) rest = omega (arith, standing_passed reg n d)

-- ---- an entry more: the entries before stay, and the new one has its mark, state and digest

pub record Appended (reg new : Bytes) (n mark state : ℕ) (digest : Bytes) : Type 0 where
  pub sized : length new ≡ register_length
  pub marks : (i : ℕ) → i < n → mark_at new i ≡ mark_at reg i
  pub states : (i : ℕ) → i < n → state_at new i ≡ state_at reg i
  pub digests : (i : ℕ) → i < n → digest_at new i ≡ digest_at reg i
  pub last_mark : mark_at new n ≡ mark
  pub last_state : state_at new n ≡ state
  pub last_digest : digest_at new n ≡ digest

module _ (reg : Bytes) (n : ℕ) (mark : Bytes) (state : ℕ) (digest : Bytes) (size : length reg ≡ register_length) (room : n < capacity) (four : length mark ≡ 4)
    (long : length digest ≡ 32) where
  abbrev entry : Bytes
  entry = mark ++ ((state ∷ 0 ∷ 0 ∷ 0 ∷ []) ++ digest)

  abbrev new : Bytes
  new = appended reg n mark state digest

  entry_length : length entry ≡ 40
  entry_length = simp length-append (omega arith)

  fits : 40 * n + length entry ≤ length reg
  fits = omega (arith, entry_length)

  -- a part before the new entry, and one in it
  earlier : (from k : ℕ) → from + k ≤ 40 * n → part new from k ≡ part reg from k
  unfolding appended
  earlier from k h = part_put_before reg (40 * n) entry from k fits h

  inside : (from k : ℕ) → from + k ≤ 40 → part new (40 * n + from) k ≡ part entry from k
  unfolding appended
  inside from k h =
      sym (part_part (put reg (40 * n) entry) (40 * n) (length entry) from k (omega (arith, entry_length)))
      ∙ ap (λ (s : Bytes). part s from k) (part_put reg (40 * n) entry fits)

  new_length : length new ≡ register_length
  unfolding appended
  new_length = length_put reg (40 * n) entry fits ∙ size

  old_states : (i : ℕ) → i < n → state_at new i ≡ state_at reg i
  unfolding state_at
  old_states i h =
      sym (number_one new (40 * i + 4) (omega (arith, new_length)))
      ∙ ap number (earlier (40 * i + 4) 1 (omega arith)) ∙ number_one reg (40 * i + 4) (omega arith)

  new_mark : mark_at new n ≡ number mark
  unfolding mark_at
  new_mark =
      let z : 40 * n ≡ 40 * n + 0 = omega arith in
      ap number (ap (λ (k : ℕ). part new k 4) z ∙ inside 0 4 (omega arith) ∙ take_at mark ((state ∷ 0 ∷ 0 ∷ 0 ∷ []) ++ digest) 4 four)

  -- the entry after its mark
  behind : drop 4 entry ≡ state ∷ 0 ∷ 0 ∷ 0 ∷ digest
  behind = drop_at mark (state ∷ 0 ∷ 0 ∷ 0 ∷ digest) 4 four

  new_state : state_at new n ≡ state
  unfolding state_at number
  new_state =
      sym (number_one new (40 * n + 4) (omega (arith, new_length)))
      ∙ ap number (inside 4 1 (omega arith) ∙ ap (take 1) behind) ∙ omega arith

  new_digest : digest_at new n ≡ digest
  unfolding digest_at
  new_digest =
      inside 8 32 (omega arith)
      ∙ ap (take 32) (sym (drop-drop 4 4 entry) ∙ ap (drop 4) behind)
      ∙ take_all 32 digest (omega arith)

  pub appended_entry : Appended reg new n (number mark) state digest
  appended_entry = record {
    sized = new_length;
    marks = λ i h. unfold mark_at in ap number (earlier (40 * i) 4 (omega arith));
    states = old_states;
    digests = λ i h. unfold digest_at in earlier (40 * i + 8) 32 (omega arith);
    last_mark = new_mark;
    last_state = new_state;
    last_digest = new_digest;
  }

pub admitted_entry : (reg : Bytes) (n : ℕ) (ballot : Bytes) → length reg ≡ register_length → n < capacity → 4 ≤ length ballot
    → Appended reg (admitted reg n ballot) n (mark_of ballot) 1 (sha3 ballot)
unfolding admitted mark_of
admitted_entry reg n ballot size room four = appended_entry reg n (part ballot 0 4) 1 (sha3 ballot) size room (length_part ballot 0 4 (omega arith)) (length_sha3 ballot)

-- a mark of 32 bits is the one that is written; of a larger number its low 32 bits are
pub early_entry : (reg : Bytes) (n mark : ℕ) → length reg ≡ register_length → n < capacity
    → Appended reg (withdrawn_early reg n mark) n (number (bytes 4 mark)) 2 (zeros 32)
unfolding withdrawn_early
early_entry reg n mark size room = appended_entry reg n (bytes 4 mark) 2 (zeros 32) size room (length_bytes 4 mark) (length-replicate {A = ℕ} 32 0)

-- ---- withdrawal: marks and digests stay, and the state of the one entry is 2

module _ (reg : Bytes) (at : ℕ) (size : length reg ≡ register_length) (place : at < capacity) where
  aside : (from k : ℕ) → Dec (from + k ≤ 40 * at + 4) → (40 * at + 4 < from + k → 40 * at + 5 ≤ from) → part (withdrawn reg at) from k ≡ part reg from k
  unfolding withdrawn
  aside from k (yes l) other = part_put_before reg (40 * at + 4) (2 ∷ []) from k (omega arith) l
  aside from k (no l) other = part_put_after reg (40 * at + 4) (2 ∷ []) from k (omega arith) (omega (arith, other (omega arith)))

  one_byte : withdrawn reg at ≡ set reg (40 * at + 4) 2
  unfolding withdrawn
  one_byte = put_one reg (40 * at + 4) 2 (omega arith)

  pub withdrawn_length : length (withdrawn reg at) ≡ register_length
  unfolding withdrawn
  withdrawn_length = length_put reg (40 * at + 4) (2 ∷ []) (omega arith) ∙ size

  pub withdrawn_marks : (i : ℕ) → mark_at (withdrawn reg at) i ≡ mark_at reg i
  unfolding mark_at
  withdrawn_marks i = ap number (aside (40 * i) 4 (dec_le (40 * i + 4) (40 * at + 4)) (λ l. omega arith))

  pub withdrawn_digests : (i : ℕ) → digest_at (withdrawn reg at) i ≡ digest_at reg i
  unfolding digest_at
  withdrawn_digests i = aside (40 * i + 8) 32 (dec_le (40 * i + 8 + 32) (40 * at + 4)) (λ l. omega arith)

  pub withdrawn_state : state_at (withdrawn reg at) at ≡ 2
  unfolding state_at
  withdrawn_state = rw one_byte (get_or-set_same reg (40 * at + 4) 2 0 (omega arith))

  pub withdrawn_states : (i : ℕ) → i ≢ at → state_at (withdrawn reg at) i ≡ state_at reg i
  unfolding state_at
  withdrawn_states i d = rw one_byte (get_or-set_other reg (40 * at + 4) (40 * i + 4) 2 0 (omega arith))
