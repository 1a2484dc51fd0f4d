-- Withdraw, admit and close are refused exactly if conditions hold (document 01, "Refused because of the state"; document 02, L1). Assumes nothing.
use mathlib.Core.Path.{◌≡◌, refl, ap}
use mathlib.Core.Logic.Iff
use mathlib.Core.Logic.{◌↔◌, ◌≢◌}
use mathlib.Core.Bool.{Bool, true, false, not, ◌&&◌}
use mathlib.Core.List.{[], ◌∷◌, ◌++◌}
use Prim.Native.Nat.{ℕ, ◌<◌}
use native.Mathlib.Omega.{arith}
use lib.Dec.{eqb}
use lib.ListN.{length}
use borrow.Author.Tests.{ltb-true, eqb-true, eqb-false, eq-eqb, ne_eqb, not-true}
use Rattle.codec.specs.Bytes.{Bytes}
use Rattle.codec.specs.Reply.{test, first, Refused}
use Rattle.codec.proofs.Laws.{both}
use Rattle.register.specs.Register.{capacity, register_length, state_at, find, known, standing, mark_of}
use Rattle.register.specs.Orders.{withdrawal_tests}
use Rattle.register.proofs.Entries.{stands, stands_all}
use Rattle.session_progress.specs.Progress.{gathering}
use Rattle.session.specs.declared.Session.{Session}
use Rattle.session.specs.Session.{valid}
use Rattle.session.specs.Steps.{due_test, admit_tests, withdraw_tests, close_tests}
use Rattle.session_histories.specs.Conditions.{ValidSession, Gathers, NoEntry, MarkStands, MarkWithdrawn, Presents}
use Rattle.session_histories.proofs.Replies.{by_number}
use Rattle.session_histories.proofs.Valid.{ready, is_ready}
use Rattle.session_histories.proofs.ExactGathering.{gathering_tests, gathers_exactly, first_entry, at_first, is_known, is_unknown, not_found, present_tests, presents_exactly, some, not_empty}

-- ---- which entry decides, by what the search finds

module _ (reg : Bytes) (mark n : ℕ) where
  -- the entry found stands
  abbrev up : Bool
  up = eqb (state_at reg (find reg mark n)) 1

  marked_standing : (known reg mark n && up) ≡ true → MarkStands reg mark n
  marked_standing e = let h = both (known reg mark n) up e in first_entry reg mark n (ltb-true _ _ h.0) (eqb-true _ _ h.1)

  standing_found : MarkStands reg mark n → (known reg mark n && up) ≡ true
  standing_found f =
      let one : up ≡ true = rw (at_first reg mark n f) (eq-eqb (state_at reg f.at) 1 f.state) in
      rw (is_known reg mark n f, one)

  marked_withdrawn : known reg mark n ≡ true → up ≡ false → MarkWithdrawn reg mark n
  marked_withdrawn k u = first_entry reg mark n (ltb-true _ _ k) (eqb-false _ _ u)

  withdrawn_found : MarkWithdrawn reg mark n → up ≡ false
  withdrawn_found f = rw (at_first reg mark n f) (ne_eqb (state_at reg f.at) 1 f.state)

-- of a conjunction that fails, the second where the first holds
second_off : (a b : Bool) → a ≡ true → (a && b) ≡ false → b ≡ false
second_off true b e h = h
second_off false b e h = absurd (let z : ◌≡◌ {A = ℕ} 0 1 = cc in omega arith)

module _ (s : Session) (reg : Bytes) where
  abbrev used : ℕ
  used = s.progress.used

  -- 31
  undue_exactly : (not (valid s && eqb s.progress.phase gathering) ≡ true) ↔ (ValidSession s × (s.progress.phase ≡ gathering) → ⊥)
  undue_exactly = (
    λ e h. let f = is_ready s h.0 (eq-eqb s.progress.phase gathering h.1) in absurd (let z : ◌≡◌ {A = ℕ} 0 1 = cc in omega arith),
    λ h. go (not (valid s && eqb s.progress.phase gathering)) refl h,
  )
    where
      go : (b : Bool) → not (valid s && eqb s.progress.phase gathering) ≡ b → (ValidSession s × (s.progress.phase ≡ gathering) → ⊥) → b ≡ true
      go true e h = refl
      go false e h = absurd (let r = ready s _ e in h (r.0, eqb-true _ _ r.1))

  -- ---- withdraw

  module _ (mark : ℕ) where
    abbrev at_33 : Bool
    at_33 = known reg mark used && not (up reg mark used)

    abbrev at_35 : Bool
    at_35 = not (known reg mark used) && eqb used capacity

    pub withdraw_31 : (first (withdraw_tests s reg mark) ≡ Refused 31 0) ↔ (ValidSession s × (s.progress.phase ≡ gathering) → ⊥)
    unfolding withdraw_tests
    withdraw_31 =
        Iff.trans (by_number 31 0 _ (test 1 0 (not (eqb (length reg) register_length)) ∷ withdrawal_tests reg used mark) (omega arith) [] tt)
        (λ h. undue_exactly.0 h.1, λ d. (tt, undue_exactly.1 d))

    pub withdraw_1 : (first (withdraw_tests s reg mark) ≡ Refused 1 0) ↔ ((ValidSession s × (s.progress.phase ≡ gathering)) × (length reg ≢ 163840))
    unfolding withdraw_tests
    withdraw_1 =
        Iff.trans (by_number 1 0 _ (withdrawal_tests reg used mark) (omega arith) (due_test s (eqb s.progress.phase gathering) ∷ []) (omega arith)) (
          λ h. let r = ready s _ h.0.0 in ((r.0, eqb-true _ _ r.1), eqb-false _ _ (not-true _ h.1)),
          λ h. ((is_ready s h.0.0 (eq-eqb _ _ h.0.1), tt), ap not (ne_eqb (length reg) register_length h.1)),
        )

    pub withdraw_33 : (first (withdraw_tests s reg mark) ≡ Refused 33 0) ↔ (Gathers s reg × MarkWithdrawn reg mark used)
    unfolding withdraw_tests
    withdraw_33 =
        Iff.trans (by_number 33 0 at_33 (test 35 0 at_35 ∷ []) (omega arith) (gathering_tests s reg) (omega arith)) (
          λ h. let b = both (known reg mark used) (not (up reg mark used)) h.1 in ((gathers_exactly s reg).0 h.0, marked_withdrawn reg mark used b.0 (not-true _ b.1)),
          λ h. ((gathers_exactly s reg).1 h.0, rw (is_known reg mark used h.1, withdrawn_found reg mark used h.1)),
        )

    pub withdraw_35 : (first (withdraw_tests s reg mark) ≡ Refused 35 0) ↔ (Gathers s reg × (NoEntry reg mark used × (used ≡ 4096)))
    unfolding withdraw_tests
    withdraw_35 =
        Iff.trans (by_number 35 0 at_35 [] tt (gathering_tests s reg ++ (test 33 0 at_33 ∷ [])) (omega arith)) (
          λ h. let b = both (not (known reg mark used)) (eqb used capacity) h.1 in ((gathers_exactly s reg).0 (h.0.0, (h.0.1.0, tt)), (not_found reg mark used (not-true _ b.0), eqb-true used 4096 b.1)),
          λ h.
              let g = (gathers_exactly s reg).1 h.0 in
              let k = is_unknown reg mark used h.1.0 in
              ((g.0, (g.1.0, (rw k, tt))), rw (k, eq-eqb used 4096 h.1.1)),
        )

  -- ---- admit

  module _ (ballot : Bytes) where
    abbrev mark_known : Bool
    mark_known = known reg (mark_of ballot) used

    abbrev mark_up : Bool
    mark_up = up reg (mark_of ballot) used

    pub admit_32 : (first (admit_tests s reg ballot) ≡ Refused 32 0) ↔ (Presents s reg ballot × MarkStands reg (mark_of ballot) used)
    unfolding admit_tests
    admit_32 =
        Iff.trans (by_number 32 0 (mark_known && mark_up) (test 33 0 mark_known ∷ test 35 0 (eqb used capacity) ∷ []) (omega arith) (present_tests s reg ballot) (omega arith)) (
          λ h. ((presents_exactly s reg ballot).0 h.0, marked_standing reg (mark_of ballot) used h.1),
          λ h. ((presents_exactly s reg ballot).1 h.0, standing_found reg (mark_of ballot) used h.1),
        )

    pub admit_33 : (first (admit_tests s reg ballot) ≡ Refused 33 0) ↔ (Presents s reg ballot × MarkWithdrawn reg (mark_of ballot) used)
    unfolding admit_tests
    admit_33 =
        Iff.trans (by_number 33 0 mark_known (test 35 0 (eqb used capacity) ∷ []) (omega arith) (present_tests s reg ballot ++ (test 32 0 (mark_known && mark_up) ∷ [])) (omega arith)) (
          λ h. (
            (presents_exactly s reg ballot).0 (h.0.0, (h.0.1.0, (h.0.1.1.0, tt))),
            marked_withdrawn reg (mark_of ballot) used h.1 (second_off mark_known mark_up h.1 h.0.1.1.1.0),
          ),
          λ h.
              let p = (presents_exactly s reg ballot).1 h.0 in
              let k = is_known reg (mark_of ballot) used h.1 in
              ((p.0, (p.1.0, (p.1.1.0, (rw (k, withdrawn_found reg (mark_of ballot) used h.1), tt)))), k),
        )

    pub admit_35 : (first (admit_tests s reg ballot) ≡ Refused 35 0) ↔ (Presents s reg ballot × (NoEntry reg (mark_of ballot) used × (used ≡ 4096)))
    unfolding admit_tests
    admit_35 =
        Iff.trans (by_number 35 0 (eqb used capacity) [] tt (present_tests s reg ballot ++ (test 32 0 (mark_known && mark_up) ∷ test 33 0 mark_known ∷ [])) (omega arith)) (
          λ h. (
            (presents_exactly s reg ballot).0 (h.0.0, (h.0.1.0, (h.0.1.1.0, tt))),
            (not_found reg (mark_of ballot) used h.0.1.1.1.1.0, eqb-true used 4096 h.1),
          ),
          λ h.
              let p = (presents_exactly s reg ballot).1 h.0 in
              let k = is_unknown reg (mark_of ballot) used h.1.0 in
              ((p.0, (p.1.0, (p.1.1.0, (rw k, (k, tt))))), eq-eqb used 4096 h.1.1),
        )

  -- ---- close

  none_stands : (length (standing reg used) ≡ 0) ↔ ((i : ℕ) → i < used → state_at reg i ≢ 1)
  none_stands = (
    λ e i l t. not_empty i (standing reg used) (stands_all reg used i l t) e,
    λ h. go (eqb (length (standing reg used)) 0) refl h,
  )
    where
      go : (b : Bool) → eqb (length (standing reg used)) 0 ≡ b → ((i : ℕ) → i < used → state_at reg i ≢ 1) → length (standing reg used) ≡ 0
      go true e h = eqb-true _ _ e
      go false e h = let m = some (standing reg used) (eqb-false _ _ e) in absurd (let t = stands reg used m.0 m.1 in h m.0 t.0 t.1)

  pub close_36 : (first (close_tests s reg) ≡ Refused 36 0) ↔ (Gathers s reg × ((i : ℕ) → i < used → state_at reg i ≢ 1))
  unfolding close_tests
  close_36 =
      Iff.trans (by_number 36 0 (eqb (length (standing reg used)) 0) [] tt (gathering_tests s reg) (omega arith))
      (λ h. ((gathers_exactly s reg).0 h.0, none_stands.0 (eqb-true _ _ h.1)), λ h. ((gathers_exactly s reg).1 h.0, eq-eqb _ _ (none_stands.1 h.1)))
