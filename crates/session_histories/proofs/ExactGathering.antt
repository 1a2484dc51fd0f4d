-- Admit, withdraw and close are taken exactly if their conditions hold; what a withdrawal leaves, in its two cases. Their refusals: Refusals.antt. Assumes nothing.
use mathlib.Core.Path.{◌≡◌, refl, sym, ap, ap₂, subst}
use mathlib.Core.Logic.{◌↔◌, ◌≢◌, ◌⊎◌, inl, inr}
use mathlib.Core.Bool.{Bool, true, false, not, ◌&&◌}
use mathlib.Core.List.Memᴰ
use mathlib.Core.List.{List, [], ◌∷◌, Memᴰ}
use Prim.Native.Nat.{ℕ, ◌≤◌, ◌<◌}
use native.Mathlib.Decide.{dec_lt}
use native.Mathlib.Omega.{arith}
use lib.Dec.{eqb}
use lib.ListN.{length, drop}
use borrow.Author.Tests.{ltb-true, ltb-false, lt-ltb, le-ltb, eqb-true, eqb-false, eq-eqb, ne_eqb, not-false}
use Rattle.codec.specs.Bytes.{Bytes, same}
use Rattle.codec.specs.Reply.{Test, test, None, first, Taken}
use Rattle.codec.specs.Lists.{all_below}
use Rattle.codec.proofs.Replies.{taken_exactly}
use Rattle.vector.specs.Vector.{vector}
use Rattle.session_progress.specs.Progress.{gathering}
use Rattle.scratch.proofs.Order.{length_at}
use Rattle.round.specs.Layout.{ballot_length}
use Rattle.round.proofs.Ranged.{each_exactly}
use Rattle.register.specs.Register.{register_length, mark_at, state_at, find, known, standing, mark_of, withdrawn, withdrawn_early, after_withdrawal}
use Rattle.register.proofs.Entries.{found, find_first, stands, stands_all}
use Rattle.session.specs.declared.Session.{Session}
use Rattle.session.specs.Session.{valid}
use Rattle.session.specs.Steps.{due_test, admit_tests, entered_by, withdraw_tests, withdrawn_by, close_tests}
use Rattle.session.specs.Machine.{withdraw, State, state, next}
use Rattle.session_histories.specs.Conditions.{Gathers, NoEntry, FirstEntry, MarkStands, MayEnter, Presents, Admits, Withdraws, Closes}
use Rattle.session_histories.proofs.Valid.{numbers_match, numbers_pass, bytes_pass, ready, is_ready}

-- an order that says what a proposition says
pub by_order : {A : Type 0} (ts : List Test) → (None ts → A) → (A → None ts) → (first ts ≡ Taken) ↔ A
by_order ts says holds = let t = taken_exactly ts in (λ e. says (t.0 e), λ a. t.1 (holds a))

-- ---- search

-- a mark that no entry has is not found
absent : (reg : Bytes) (mark n : ℕ) → ((i : ℕ) → i < n → mark_at reg i ≢ mark) → find reg mark n ≡ n
absent reg mark n none = go (dec_lt (find reg mark n) n)
  where
    go : Dec (find reg mark n < n) → find reg mark n ≡ n
    go (yes l) = absurd (none (find reg mark n) l ((found reg mark n).marked l))
    go (no l) = let w = (found reg mark n).within in omega arith

-- the first entry with a mark is found
pub here : (reg : Bytes) (mark at n : ℕ) → at < n → mark_at reg at ≡ mark → ((i : ℕ) → i < at → mark_at reg i ≢ mark) → find reg mark n ≡ at
here reg mark at n within marked earlier = find_first reg mark at n (absent reg mark at earlier) marked within

-- ---- a session that gathers, and the entries

module _ (s : Session) (reg : Bytes) where
  -- the tests before those of the entries, in the orders of withdraw and close
  abbrev pub gathering_tests : List Test
  gathering_tests = due_test s (eqb s.progress.phase gathering) ∷ test 1 0 (not (eqb (length reg) register_length)) ∷ []

  gathers : not (valid s && eqb s.progress.phase gathering) ≡ false → length reg ≡ register_length → Gathers s reg
  gathers e size = let r = ready s _ e in record { sound = r.0; phase = eqb-true _ _ r.1; register_size = size }

  gathering_now : Gathers s reg → not (valid s && eqb s.progress.phase gathering) ≡ false
  gathering_now g = is_ready s g.sound (eq-eqb s.progress.phase gathering g.phase)

  pub gathers_exactly : None gathering_tests ↔ Gathers s reg
  gathers_exactly = (λ n. gathers n.0 (numbers_match n.1.0), λ g. (gathering_now g, (numbers_pass g.register_size, tt)))

-- which entry decides, by what the search finds
module _ (reg : Bytes) (mark n : ℕ) where
  pub first_entry : {Of : ℕ → Type 0} → find reg mark n < n → Of (state_at reg (find reg mark n)) → FirstEntry reg mark n Of
  first_entry l o =
      let f = found reg mark n in
      record { at = find reg mark n; within = l; marked = f.marked l; earlier = f.before; state = o }

  pub at_first : {Of : ℕ → Type 0} (f : FirstEntry reg mark n Of) → find reg mark n ≡ f.at
  at_first f = here reg mark f.at n f.within f.marked f.earlier

  pub is_known : {Of : ℕ → Type 0} → FirstEntry reg mark n Of → known reg mark n ≡ true
  is_known f = rw (at_first f) (lt-ltb f.at n f.within)

  pub is_unknown : NoEntry reg mark n → known reg mark n ≡ false
  is_unknown none = le-ltb (find reg mark n) n (omega (arith, absent reg mark n none))

  pub not_found : known reg mark n ≡ false → NoEntry reg mark n
  not_found e = let f = found reg mark n in let w = f.within in let l = ltb-false (find reg mark n) n e in f.absent (omega arith)

  may_enter : known reg mark n ≡ false → n ≤ 4096 → n ≢ 4096 → MayEnter reg mark n
  may_enter e few other = record { unknown = not_found e; room = omega arith }

-- ---- admit

module _ (s : Session) (reg ballot : Bytes) where
  abbrev place : ℕ
  place = find reg (mark_of ballot) s.progress.used

  abbrev sizes : List ℕ
  sizes = length reg ∷ length ballot ∷ []

  abbrev wanted : List ℕ
  wanted = register_length ∷ ballot_length s.numbers.ring ∷ []

  -- the tests before those of the entries
  abbrev pub present_tests : List Test
  present_tests =
      due_test s (eqb s.progress.phase gathering) ∷ test 1 0 (not (same sizes wanted)) ∷ test 5 0 (not (all_below s.numbers.modulus (vector (drop 4 ballot)))) ∷ []

  presents_says : None present_tests → Presents s reg ballot
  presents_says n =
      let sized = not-false (same sizes wanted) n.1.0 in
      record { gathers = gathers s reg n.0 (length_at sizes wanted 0 sized); ballot_size = length_at sizes wanted 1 sized; coefficients = (each_exactly _ _).0 (not-false _ n.1.1.0) }

  presents_holds : Presents s reg ballot → None present_tests
  presents_holds p = (
    gathering_now s reg p.gathers,
    (bytes_pass (ap₂ (λ (x y : ℕ). x ∷ y ∷ []) p.gathers.register_size p.ballot_size), (ap not ((each_exactly _ _).1 p.coefficients), tt)),
  )

  pub presents_exactly : None present_tests ↔ Presents s reg ballot
  presents_exactly = (presents_says, presents_holds)

  admits_says : None (admit_tests s reg ballot) → Admits s reg ballot
  unfolding admit_tests
  admits_says n =
      let p = presents_says (n.0, (n.1.0, (n.1.1.0, tt))) in
      record {
        presents = p;
        enters = may_enter reg (mark_of ballot) s.progress.used n.1.1.1.1.0 p.gathers.sound.used (eqb-false s.progress.used 4096 n.1.1.1.1.1.0);
      }

  admits_holds : Admits s reg ballot → None (admit_tests s reg ballot)
  unfolding admit_tests
  admits_holds a =
      let p = presents_holds a.presents in
      let past = is_unknown reg (mark_of ballot) s.progress.used a.enters.unknown in
      let room = a.enters.room in
      (p.0, (p.1.0, (p.1.1.0, (ap (λ (b : Bool). b && eqb (state_at reg place) 1) past, (past, (ne_eqb s.progress.used 4096 (λ e. omega arith), tt))))))

pub admitted_exactly : (s : Session) (reg ballot : Bytes) → (first (admit_tests s reg ballot) ≡ Taken) ↔ Admits s reg ballot
admitted_exactly s reg ballot = by_order _ (admits_says s reg ballot) (admits_holds s reg ballot)

-- ---- withdraw

module _ (s : Session) (reg : Bytes) (mark : ℕ) where
  abbrev used : ℕ
  used = s.progress.used

  abbrev standing_found : Bool
  standing_found = eqb (state_at reg (find reg mark used)) 1

  withdraws_says : None (withdraw_tests s reg mark) → Withdraws s reg mark
  unfolding withdraw_tests
  withdraws_says n = record { gathers = g; marked = go (known reg mark used) refl n.1.1.0 n.1.1.1.0 }
    where
      g : Gathers s reg
      g = (gathers_exactly s reg).0 (n.0, (n.1.0, tt))

      go : (k : Bool) → known reg mark used ≡ k → (k && not standing_found) ≡ false → (not k && eqb used 4096) ≡ false → MarkStands reg mark used ⊎ MayEnter reg mark used
      go true e f h = inl (first_entry reg mark used (ltb-true _ _ e) (numbers_match f))
      go false e f h = inr (may_enter reg mark used e g.sound.used (eqb-false used 4096 h))

  withdraws_holds : Withdraws s reg mark → None (withdraw_tests s reg mark)
  unfolding withdraw_tests
  withdraws_holds w = go w.marked
    where
      go : MarkStands reg mark used ⊎ MayEnter reg mark used → None (withdraw_tests s reg mark)
      go (inl f) =
          let stands : standing_found ≡ true = rw (at_first reg mark used f) (eq-eqb (state_at reg f.at) 1 f.state) in
          (gathering_now s reg w.gathers, (numbers_pass w.gathers.register_size, (rw (is_known reg mark used f, stands), (rw (is_known reg mark used f), tt))))
      go (inr m) =
          let room = m.room in
          let free : eqb used 4096 ≡ false = ne_eqb used 4096 (λ e. omega arith) in
          (gathering_now s reg w.gathers, (numbers_pass w.gathers.register_size, (rw (is_unknown reg mark used m.unknown), (rw (is_unknown reg mark used m.unknown, free), tt))))

  -- what a withdrawal that is taken leaves, in its two cases
  pub next_standing : (f : MarkStands reg mark used) → next (withdraw mark) (state s reg) ≡ state s (withdrawn reg f.at)
  unfolding withdrawn_by after_withdrawal
  next_standing f = rw (is_known reg mark used f, at_first reg mark used f)

  pub next_early : NoEntry reg mark used → next (withdraw mark) (state s reg) ≡ state (entered_by s) (withdrawn_early reg used mark)
  unfolding withdrawn_by after_withdrawal
  next_early none = rw (is_unknown reg mark used none)

  pub withdrawal : (P : State → Type 0) → Withdraws s reg mark → ((f : MarkStands reg mark used) → P (state s (withdrawn reg f.at)))
      → (MayEnter reg mark used → P (state (entered_by s) (withdrawn_early reg used mark))) → P (next (withdraw mark) (state s reg))
  withdrawal P w found enters = go w.marked
    where
      go : MarkStands reg mark used ⊎ MayEnter reg mark used → P (next (withdraw mark) (state s reg))
      go (inl f) = subst P (sym (next_standing f)) (found f)
      go (inr m) = subst P (sym (next_early m.unknown)) (enters m)

pub withdrawn_exactly : (s : Session) (reg : Bytes) (mark : ℕ) → (first (withdraw_tests s reg mark) ≡ Taken) ↔ Withdraws s reg mark
withdrawn_exactly s reg mark = by_order _ (withdraws_says s reg mark) (withdraws_holds s reg mark)

-- ---- close

pub some : (is : List ℕ) → length is ≢ 0 → (i : ℕ) × Memᴰ i is
some [] h = absurd (h refl)
some (i ∷ is) h = (i, Memᴰ.head refl)

pub not_empty : (i : ℕ) (is : List ℕ) → Memᴰ i is → length is ≢ 0
not_empty i [] m e = Memᴰ.not-nil m
not_empty i (j ∷ is) m e = omega arith

closes_says : (s : Session) (reg : Bytes) → None (close_tests s reg) → Closes s reg
unfolding close_tests
closes_says s reg n =
    let i = some (standing reg s.progress.used) (eqb-false _ _ n.1.1.0) in
    let t = stands reg s.progress.used i.0 i.1 in
    record { gathers = (gathers_exactly s reg).0 (n.0, (n.1.0, tt)); at = i.0; within = t.0; stands = t.1 }

closes_holds : (s : Session) (reg : Bytes) → Closes s reg → None (close_tests s reg)
unfolding close_tests
closes_holds s reg c = (
  gathering_now s reg c.gathers,
  (numbers_pass c.gathers.register_size, (ne_eqb _ _ (not_empty c.at (standing reg s.progress.used) (stands_all reg s.progress.used c.at c.within c.stands)), tt)),
)

pub closed_exactly : (s : Session) (reg : Bytes) → (first (close_tests s reg) ≡ Taken) ↔ Closes s reg
closed_exactly s reg = by_order _ (closes_says s reg) (closes_holds s reg)
