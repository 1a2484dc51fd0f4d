-- Withdrawals, before their ballot or after it (the second demand; document 02, L1), said alike of the steps of a session and of the exported calls. Assumes nothing.
use Rattle.std.specs.Prelude.{◌≡◌, ◌↔◌, ◌≢◌, ◌⊎◌, ℕ, ◌+◌, ◌*◌, ◌^◌, ◌<◌, length}
use mathlib.Core.List.{List, [], ◌∷◌, ◌++◌, Memᴰ}
use Rattle.codec.specs.Bytes.{Bytes, bytes, put, zeros}
use Rattle.codec.specs.Reply.{Taken, Refused}
use Rattle.register.specs.Register.{state_at, standing, mark_of}
use Rattle.session_progress.specs.Progress.{gathering}
use Rattle.session.specs.declared.Session.{Session}
use Rattle.session.specs.Steps.{Beginning}
use Rattle.session.specs.Machine.{Step, clear, admit, withdraw, close}
use Rattle.session_histories.specs.Conditions.{ValidSession, Gathers, NoEntry, MarkStands, MarkWithdrawn, Presents, Withdraws}
use Rattle.session_histories.specs.Claims.{ClosedWithout}
use Rattle.claims.specs.HostSteps.{Stepping, after_all, NoClearTaken, roll_of}

-- one entry more is used, and everything else is as it was
pub record OneEntryMore (before after : Session) : Type 0 where
  pub used : after.progress.used ≡ before.progress.used + 1
  pub phase : after.progress.phase ≡ before.progress.phase
  pub counts : (after.progress.closed ≡ before.progress.closed) × (after.progress.committed ≡ before.progress.committed) × (after.progress.checked ≡ before.progress.checked)
  pub sheet : (after.numbers ≡ before.numbers) × (after.sheet ≡ before.sheet)
  pub digests : (after.closing ≡ before.closing) × (after.claim ≡ before.claim) × (after.trail ≡ before.trail)
  pub seed : after.seed ≡ before.seed

module _ (M : Stepping) where
  -- ---- one step, for every session, register, mark and ballot

  module _ (k : M.Kept) where
    abbrev s : Session
    s = M.session k

    abbrev reg : Bytes
    reg = M.register k

    abbrev used : ℕ
    used = s.progress.used

    -- "The order for withdraw is now 31, 1, 33, 35, the last only for a mark with no entry", each in conditions and not as the order again
    pub record WithdrawExactly (mark : ℕ) : Type 0 where
      pub taken : (M.answer (withdraw mark) k ≡ Taken) ↔ (M.Sized k × Withdraws s reg mark)
      pub undue : (M.answer (withdraw mark) k ≡ Refused 31 0) ↔ (M.Sized k × (ValidSession s × (s.progress.phase ≡ gathering) → ⊥))
      pub unsized : (M.answer (withdraw mark) k ≡ Refused 1 0) ↔ ((M.Sized k → ⊥) ⊎ (M.Sized k × ((ValidSession s × (s.progress.phase ≡ gathering)) × (length reg ≢ 163840))))
      pub already : (M.answer (withdraw mark) k ≡ Refused 33 0) ↔ (M.Sized k × (Gathers s reg × MarkWithdrawn reg mark used))
      pub full : (M.answer (withdraw mark) k ≡ Refused 35 0) ↔ (M.Sized k × (Gathers s reg × (NoEntry reg mark used × (used ≡ 4096))))

    -- what a withdrawal that is taken leaves
    pub record WithdrawalLeaves (mark : ℕ) : Type 0 where
      -- of a mark that stands, the state byte of its first entry, and everything else as it was
      pub stood : (f : MarkStands reg mark used) → (M.session (M.left (withdraw mark) k) ≡ s) × (M.register (M.left (withdraw mark) k) ≡ put reg (40 * f.at + 4) (2 ∷ []))
      -- of a mark with no entry, "a withdrawn entry with the mark and 32 zero bytes for the digest" behind the used ones, all 40 bytes of it, and one entry more
      pub early : NoEntry reg mark used
          → OneEntryMore s (M.session (M.left (withdraw mark) k)) × (M.register (M.left (withdraw mark) k) ≡ put reg (40 * used) (bytes 4 mark ++ (2 ∷ zeros 35)))

    -- a ballot that meets none of 31, 1, 5 is refused by its mark, or because the register is full
    pub record AdmitExactly (ballot : Bytes) : Type 0 where
      pub standing : (M.answer (admit ballot) k ≡ Refused 32 0) ↔ (M.Sized k × (Presents s reg ballot × MarkStands reg (mark_of ballot) used))
      pub withdrawn : (M.answer (admit ballot) k ≡ Refused 33 0) ↔ (M.Sized k × (Presents s reg ballot × MarkWithdrawn reg (mark_of ballot) used))
      pub full : (M.answer (admit ballot) k ≡ Refused 35 0) ↔ (M.Sized k × (Presents s reg ballot × (NoEntry reg (mark_of ballot) used × (used ≡ 4096))))

    -- a close is refused 36 where no entry stands, as after early withdrawals alone
    abbrev pub CloseExactly : Type 0
    CloseExactly = (M.answer close k ≡ Refused 36 0) ↔ (M.Sized k × (Gathers s reg × ((i : ℕ) → i < used → state_at reg i ≢ 1)))

  -- "refusal 34 no longer occurs"
  abbrev pub Never34 : Type 0
  Never34 = (x : Step) (k : M.Kept) (place : ℕ) → M.answer x k ≢ Refused 34 place

  -- ---- over lists, from a clear that is taken on, each step given what the last one left

  -- a withdrawal of the mark that was taken: `before` are the steps from a clear taken up to it, `since` those after it, among which no clear is taken. A mark has 32 bits
  pub record WithdrawnSince (mark : ℕ) : Type 0 where
    pub mark_size : mark < 2 ^ 32
    pub start : M.Kept
    pub beginning : Beginning
    pub before : List Step
    pub since : List Step
    pub clear_taken : M.ClearTaken start beginning
    pub taken : M.answer (withdraw mark) (after_all M before (M.left (clear beginning) start)) ≡ Taken
    pub uncleared : NoClearTaken M since (M.left (withdraw mark) (after_all M before (M.left (clear beginning) start)))

  module _ {mark : ℕ} (w : WithdrawnSince mark) where
    -- what the withdrawal was given, and what is there at the end
    abbrev pub at_withdrawal : M.Kept
    at_withdrawal = after_all M w.before (M.left (clear w.beginning) w.start)

    abbrev pub at_the_end : M.Kept
    at_the_end = after_all M w.since (M.left (withdraw mark) at_withdrawal)

  -- "A mark whose withdrawal was taken is out of every closed batch, in either order of arrival, until clear": what a close leaves is of entries that do not have it
  abbrev pub StaysOut : Type 0
  StaysOut = (mark : ℕ) (w : WithdrawnSince mark) → M.answer close (at_the_end w) ≡ Taken
      → ClosedWithout mark (M.session (at_the_end w)).progress.used (M.register (at_the_end w)) (M.session (M.left close (at_the_end w)))

  -- and said of ballots: none on the roll, which is the batch, has the mark
  abbrev pub OffTheRoll : Type 0
  OffTheRoll = (mark : ℕ) (w : WithdrawnSince mark) (ballot : Bytes)
      → Memᴰ ballot (roll_of M (w.before ++ (withdraw mark ∷ w.since)) (M.left (clear w.beginning) w.start) []) → mark_of ballot ≢ mark

  -- "the late ballot is refused 33": one with the mark that meets none of 31, 1, 5. It changes nothing
  abbrev pub LateRefused : Type 0
  LateRefused = (ballot : Bytes) (w : WithdrawnSince (mark_of ballot)) → Presents (M.session (at_the_end w)) (M.register (at_the_end w)) ballot
      → (M.answer (admit ballot) (at_the_end w) ≡ Refused 33 0) × (M.session (M.left (admit ballot) (at_the_end w)) ≡ M.session (at_the_end w))
      × (M.register (M.left (admit ballot) (at_the_end w)) ≡ M.register (at_the_end w))

  -- until the next clear taken, the entry that an early withdrawal made does not stand, and so is in no batch
  abbrev pub EarlyNeverStands : Type 0
  EarlyNeverStands = (mark : ℕ) (w : WithdrawnSince mark)
      → let entry = (M.session (at_withdrawal w)).progress.used in
      NoEntry (M.register (at_withdrawal w)) mark entry → Memᴰ entry (standing (M.register (at_the_end w)) (M.session (at_the_end w)).progress.used) → ⊥

  pub record WithdrawalClaims : Type 0 where
    pub never_34 : Never34
    pub withdraw_exactly : (k : M.Kept) (mark : ℕ) → WithdrawExactly k mark
    pub withdrawal_leaves : (k : M.Kept) (mark : ℕ) → M.InBytes k → M.answer (withdraw mark) k ≡ Taken → WithdrawalLeaves k mark
    pub admit_exactly : (k : M.Kept) (ballot : Bytes) → AdmitExactly k ballot
    pub close_exactly : (k : M.Kept) → CloseExactly k
    pub stays_out : StaysOut
    pub off_the_roll : OffTheRoll
    pub late_refused : LateRefused
    pub early_never_stands : EarlyNeverStands
