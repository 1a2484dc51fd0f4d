-- The orders of clear, admit, withdraw, close and turnout, refusal by refusal, and what each takes. Assumes nothing.
use mathlib.Core.Path.{◌≡◌, sym, ap, ◌∙◌}
use mathlib.Core.Logic.{◌≢◌}
use mathlib.Core.Bool.{Bool, true, false, ◌&&◌, ◌||◌, and-false}
use Prim.Native.Nat.{ℕ, ◌-◌, ◌/◌, ◌≤◌}
use native.Mathlib.Omega.{arith}
use lib.Dec.{eqb, ltb}
use lib.ListN.{length, take, drop, length-drop, length-map}
use lib.Seq.{take_all}
use borrow.Author.Tests.{eq-eqb, ne_eqb}
use Rattle.codec.specs.Bytes.{Bytes, same}
use Rattle.codec.specs.Reply.{first, Taken, Refused}
use Rattle.codec.specs.Lists.{list, all_below}
use Rattle.ring.specs.Slots.{poly}
use Rattle.sheet.specs.Sheet.{reading, reply_of}
use Rattle.sheet_numbers.specs.declared.Numbers.{Numbers}
use Rattle.sheet.specs.Sheet as reading
use Rattle.sheet.proofs.Taken.{reply_is}
use Rattle.vector.specs.Vector.{vector}
use Rattle.round.specs.Layout.{ballot_length}
use Rattle.session_progress.specs.Progress.{gathering}
use Rattle.register.specs.Orders.{admission_tests, withdrawal_tests}
use Rattle.register.specs.Register.{register_length, digest_at, standing, standing_digests, mark_of}
use Rattle.session.specs.Session.{valid}
use Rattle.session.specs.Steps.{on, clear_tests, admit_tests, withdraw_tests, close_tests, turnout_tests}
use Rattle.session.specs.declared.Session.{Session}

-- ---- clear

module _ (reg text : Bytes) where
  pub clear_length : length reg ≢ register_length → first (clear_tests reg (on text)) ≡ Refused 1 0
  unfolding clear_tests first
  clear_length e = rw (ne_eqb (length reg) register_length e)

  module _ (e : length reg ≡ register_length) where
    said : first (clear_tests reg (on text)) ≡ reply_of (reading text)
    unfolding clear_tests first
    said = rw (eq-eqb (length reg) register_length e) (sym (reply_is text))

    pub clear_refused : {n : ℕ} → reading text ≡ reading.Refused n → first (clear_tests reg (on text)) ≡ Refused n 0
    clear_refused f = said ∙ ap reply_of f

    pub clear_taken : {k : Numbers} → reading text ≡ reading.Taken k → first (clear_tests reg (on text)) ≡ Taken
    clear_taken f = said ∙ ap reply_of f

-- ---- admit

-- the coefficients behind the mark
pub ranged : (q : ℕ) (ballot : Bytes) {b : Bool} → 4 ≤ length ballot
    → b ≡ all_below q (list (length (take (length ballot - 4) (drop 4 ballot)) / 8) (poly (take (length ballot - 4) (drop 4 ballot)))) → b ≡ all_below q (vector (drop 4 ballot))
unfolding vector
ranged q ballot h e = e ∙ ap (λ (x : Bytes). all_below q (list (length x / 8) (poly x))) (take_all (length ballot - 4) (drop 4 ballot) (omega (arith, length-drop 4 ballot)))

module _ (s : Session) (reg ballot : Bytes) where
  pub admit_phase : (valid s && eqb s.progress.phase gathering) ≡ false → first (admit_tests s reg ballot) ≡ Refused 31 0
  unfolding admit_tests first
  admit_phase e = rw e

  module _ (e : (valid s && eqb s.progress.phase gathering) ≡ true) where
    pub admit_register : length reg ≢ register_length → first (admit_tests s reg ballot) ≡ Refused 1 0
    unfolding admit_tests first same
    admit_register l = rw (e, ne_eqb (length reg) register_length l)

    pub admit_ballot : length ballot ≢ ballot_length s.numbers.ring → first (admit_tests s reg ballot) ≡ Refused 1 0
    unfolding admit_tests first same
    admit_ballot l = rw (e, ne_eqb (length ballot) (ballot_length s.numbers.ring) l, and-false (eqb (length reg) register_length))

    module _ (l : length reg ≡ register_length) (m : length ballot ≡ ballot_length s.numbers.ring) where
      pub admit_range : all_below s.numbers.modulus (vector (drop 4 ballot)) ≡ false → first (admit_tests s reg ballot) ≡ Refused 5 0
      unfolding admit_tests first same
      admit_range b = rw (e, eq-eqb (length reg) register_length l, eq-eqb (length ballot) (ballot_length s.numbers.ring) m, b)

      -- the register decides
      pub admit_on : all_below s.numbers.modulus (vector (drop 4 ballot)) ≡ true → first (admit_tests s reg ballot) ≡ first (admission_tests reg s.progress.used (mark_of ballot))
      unfolding admit_tests first same
      admit_on b = rw (e, eq-eqb (length reg) register_length l, eq-eqb (length ballot) (ballot_length s.numbers.ring) m, b)

-- ---- withdraw

module _ (s : Session) (reg : Bytes) (mark : ℕ) where
  pub withdraw_phase : (valid s && eqb s.progress.phase gathering) ≡ false → first (withdraw_tests s reg mark) ≡ Refused 31 0
  unfolding withdraw_tests first
  withdraw_phase e = rw e

  module _ (e : (valid s && eqb s.progress.phase gathering) ≡ true) where
    pub withdraw_register : length reg ≢ register_length → first (withdraw_tests s reg mark) ≡ Refused 1 0
    unfolding withdraw_tests first
    withdraw_register l = rw (e, ne_eqb (length reg) register_length l)

    -- the register decides
    pub withdraw_on : length reg ≡ register_length → first (withdraw_tests s reg mark) ≡ first (withdrawal_tests reg s.progress.used mark)
    unfolding withdraw_tests first
    withdraw_on l = rw (e, eq-eqb (length reg) register_length l)

-- ---- close

-- as many digests as standing entries
pub digests_counted : (reg : Bytes) (n : ℕ) → length (standing_digests reg n) ≡ length (standing reg n)
unfolding standing_digests
digests_counted reg n = length-map (standing reg n) (digest_at reg)

module _ (s : Session) (reg : Bytes) where
  pub close_phase : (valid s && eqb s.progress.phase gathering) ≡ false → first (close_tests s reg) ≡ Refused 31 0
  unfolding close_tests first
  close_phase e = rw e

  module _ (e : (valid s && eqb s.progress.phase gathering) ≡ true) where
    pub close_register : length reg ≢ register_length → first (close_tests s reg) ≡ Refused 1 0
    unfolding close_tests first
    close_register l = rw (e, ne_eqb (length reg) register_length l)

    module _ (l : length reg ≡ register_length) {count : ℕ} (f : count ≡ length (standing reg s.progress.used)) where
      pub close_none : count ≡ 0 → first (close_tests s reg) ≡ Refused 36 0
      unfolding close_tests first
      close_none h = rw (e, eq-eqb (length reg) register_length l, ← f, eq-eqb count 0 h)

      pub close_taken : count ≢ 0 → first (close_tests s reg) ≡ Taken
      unfolding close_tests first
      close_taken h = rw (e, eq-eqb (length reg) register_length l, ← f, ne_eqb count 0 h)

-- ---- turnout

module _ (s : Session) (reg : Bytes) (enrolled : ℕ) where
  pub turnout_invalid : valid s ≡ false → first (turnout_tests s reg enrolled) ≡ Refused 31 0
  unfolding turnout_tests first
  turnout_invalid e = rw e

  module _ (e : valid s ≡ true) where
    pub turnout_register : length reg ≢ register_length → first (turnout_tests s reg enrolled) ≡ Refused 1 0
    unfolding turnout_tests first
    turnout_register l = rw (e, ne_eqb (length reg) register_length l)

    module _ (l : length reg ≡ register_length) where
      pub turnout_outside : (ltb enrolled 1 || ltb 1000000 enrolled) ≡ true → first (turnout_tests s reg enrolled) ≡ Refused 3 0
      unfolding turnout_tests first
      turnout_outside h = rw (e, eq-eqb (length reg) register_length l, h)

      pub turnout_taken : (ltb enrolled 1 || ltb 1000000 enrolled) ≡ false → first (turnout_tests s reg enrolled) ≡ Taken
      unfolding turnout_tests first
      turnout_taken h = rw (e, eq-eqb (length reg) register_length l, h)
