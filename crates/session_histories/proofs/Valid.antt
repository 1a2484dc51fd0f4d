-- What the test of a session, the test 31 of a step and the order of a sheet say, and that they are passed where that holds. Assumes nothing.
use mathlib.Core.Path.{◌≡◌, refl, ap, ap₂}
use mathlib.Core.Logic.{◌↔◌, ◌≢◌, ◌⊎◌, inl, inr}
use mathlib.Core.Bool.{Bool, true, false, not, ◌&&◌, ◌||◌}
use Prim.Native.Nat.{ℕ, ◌≤◌, ◌<◌}
use native.Mathlib.Omega.{arith}
use lib.Dec.{eqb, ltb}
use lib.ListN.{length}
use borrow.Author.Tests.{le-leb, le-ltb, ltb-true, ltb-false, lt-ltb, eqb-true, eqb-false, eq-eqb, ne_eqb, not-false}
use Rattle.codec.specs.Bytes.{Bytes, same}
use Rattle.codec.specs.Reply.{None}
use Rattle.codec.proofs.Laws.{both}
use Rattle.sheet.specs.Reader.{formed, sheet_of}
use Rattle.sheet.specs.Sheet.{order}
use Rattle.sheet.proofs.Form.{form_exactly}
use Rattle.round.proofs.Tests.{equal_same}
use Rattle.session.specs.declared.Session.{Session}
use Rattle.sheet_numbers.proofs.Ranges.{range_exactly, sound_exactly}
use Rattle.session_progress.specs.Progress.{in_limits}
use Rattle.session_progress.proofs.Limits.{within}
use Rattle.session.specs.Session.{valid}
use Rattle.session_histories.specs.Conditions.{SheetTaken, ValidSession}
use Rattle.session_histories.proofs.Sheets.{lists_exactly}

-- ---- tests that something is not as it must be

pub numbers_match : {a b : ℕ} → not (eqb a b) ≡ false → a ≡ b
numbers_match {a} {b} e = eqb-true a b (not-false _ e)

pub numbers_pass : {a b : ℕ} → a ≡ b → not (eqb a b) ≡ false
numbers_pass {a} {b} e = ap not (eq-eqb a b e)

pub bytes_pass : {s t : Bytes} → s ≡ t → not (same s t) ≡ false
bytes_pass e = ap not (equal_same e)

-- neither of two
pub neither : (a b : Bool) → (a || b) ≡ false → (a ≡ false) × (b ≡ false)
neither true b e = absurd (let z : ◌≡◌ {A = ℕ} 0 1 = cc in omega arith)
neither false b e = (refl, e)

-- ---- a session

pub valid_says : (s : Session) → valid s ≡ true → ValidSession s
valid_says s e = within s.numbers s.progress e

pub valid_holds : (s : Session) → ValidSession s → valid s ≡ true
unfolding in_limits
valid_holds s v =
    rw (
      le-leb s.progress.phase 5 v.phase,
      (range_exactly s.numbers).1 v.inside,
      (sound_exactly s.numbers).1 v.sound,
      le-leb s.progress.used 4096 v.used,
      le-leb s.progress.closed 4096 v.closed,
      le-leb s.progress.committed s.numbers.rounds v.committed,
      le-leb s.progress.checked s.numbers.rounds v.checked,
    )

-- ---- 31

pub ready : (s : Session) (due : Bool) → not (valid s && due) ≡ false → ValidSession s × (due ≡ true)
ready s due e = let h = both (valid s) due (not-false _ e) in (valid_says s h.0, h.1)

pub is_ready : (s : Session) {due : Bool} → ValidSession s → due ≡ true → not (valid s && due) ≡ false
is_ready s v e = ap not (ap₂ ◌&&◌ (valid_holds s v) e)

-- in a phase, a round is due
pub on_turn : (phase at r k n : ℕ) → (eqb phase at && (eqb r k && ltb r n)) ≡ true → (phase ≡ at) × (r ≡ k) × (r < n)
on_turn phase at r k n e =
    let a = both (eqb phase at) (eqb r k && ltb r n) e in
    let b = both (eqb r k) (ltb r n) a.1 in
    (eqb-true phase at a.0, eqb-true r k b.0, ltb-true r n b.1)

pub is_turn : {phase at r k n : ℕ} → phase ≡ at → r ≡ k → r < n → (eqb phase at && (eqb r k && ltb r n)) ≡ true
is_turn {phase} {at} {r} {k} {n} a b c = ap₂ ◌&&◌ (eq-eqb phase at a) (ap₂ ◌&&◌ (eq-eqb r k b) (lt-ltb r n c))

-- where they are not both so, one is not
either : (a b : Bool) → (a && b) ≡ false → (a ≡ false) ⊎ (b ≡ false)
either true b e = inr e
either false b e = inl refl

pub off_both : (a b c d : ℕ) → (eqb a b && eqb c d) ≡ false → (a ≢ b) ⊎ (c ≢ d)
off_both a b c d e = go (either (eqb a b) (eqb c d) e)
  where
    go : (eqb a b ≡ false) ⊎ (eqb c d ≡ false) → (a ≢ b) ⊎ (c ≢ d)
    go (inl f) = inl (eqb-false a b f)
    go (inr f) = inr (eqb-false c d f)

pub off_turn : (phase at r k n : ℕ) → (eqb phase at && (eqb r k && ltb r n)) ≡ false → (phase ≢ at) ⊎ (r ≢ k) ⊎ (n ≤ r)
off_turn phase at r k n e = go (either (eqb phase at) (eqb r k && ltb r n) e)
  where
    round : (eqb r k ≡ false) ⊎ (ltb r n ≡ false) → (r ≢ k) ⊎ (n ≤ r)
    round (inl f) = inl (eqb-false r k f)
    round (inr f) = inr (ltb-false r n f)

    go : (eqb phase at ≡ false) ⊎ ((eqb r k && ltb r n) ≡ false) → (phase ≢ at) ⊎ (r ≢ k) ⊎ (n ≤ r)
    go (inl f) = inl (eqb-false phase at f)
    go (inr f) = inr (round (either (eqb r k) (ltb r n) f))

-- ---- the sheet's order

pub sheet_exactly : (text : Bytes) → None (order text) ↔ SheetTaken text
sheet_exactly text = (says, holds)
  where
    says : None (order text) → SheetTaken text
    says n =
        let l = neither (eqb (length text) 0) (ltb 262144 (length text)) n.0 in
        let some = eqb-false (length text) 0 l.0 in
        let form = (form_exactly text (sheet_of text)).0 (not-false (formed text) n.1.0, refl) in
        record {
          some = omega arith;
          few = ltb-false 262144 (length text) l.1;
          form = form.0;
          decimals = form.1;
          inside = (range_exactly (sheet_of text).numbers).0 n.1.1.0;
          sound = (sound_exactly (sheet_of text).numbers).0 n.1.1.1.0;
          fit = (lists_exactly (sheet_of text)).0 n.1.1.1.1.0;
        }

    holds : SheetTaken text → None (order text)
    holds t =
        let some = t.some in (
          ap₂ ◌||◌ (ne_eqb (length text) 0 (λ e. omega arith)) (le-ltb 262144 (length text) t.few),
          (
            ap not ((form_exactly text (sheet_of text)).1 (t.form, t.decimals)).0,
            ((range_exactly (sheet_of text).numbers).1 t.inside, ((sound_exactly (sheet_of text).numbers).1 t.sound, ((lists_exactly (sheet_of text)).1 t.fit, tt))),
          ),
        )
