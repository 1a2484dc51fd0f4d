-- `register::withdraw` meets its contract. Assumes nothing.
use mathlib.Core.Path.{◌≡◌, refl, sym, ap, ◌∙◌}
use mathlib.Core.Bool.{true, false}
use Prim.Native.Nat.{ℕ, ◌≤◌, ◌<◌}
use native.Mathlib.Omega.{arith}
use borrow.Author.Tests.{lt-ltb, le-ltb}
use Rattle.codec.specs.Bytes.{Bytes}
use Rattle.codec.specs.Reply.{first, leaves, Taken, Refused}
use Rattle.register.specs.Register.{find, known, withdrawn, withdrawn_early, after_withdrawal}
use Rattle.register.specs.Orders.{withdrawal_tests}
use Rattle.register.specs.Internal.{Withdrawal, Withdrew}
use Rattle.register.proofs.Orders.{is_withdrawn_already, is_standing_still, is_unknown_full, is_unknown_free, silent, writes}
use Rattle.register.proofs.withdraw.Goals as goal

-- the first entry with the mark stands at i
module _ (reg : Bytes) (used mark : ℕ) {i : ℕ} (at : i ≡ find reg mark used) where
  refuses : {r : Withdrawal} {number : ℕ} → first (withdrawal_tests reg used mark) ≡ Refused number 0 → r.reply ≡ Refused number 0 → r.entered ≡ false → Withdrew reg used mark r reg
  unfolding leaves
  refuses {r} {number} e f g = record {
    wrote = rw f (silent (withdrawal_tests reg used mark) (after_withdrawal reg used mark) reg e);
    entered = rw f g;
  }

  withdraws : {r : Withdrawal} {reg' : Bytes} → i < used → first (withdrawal_tests reg used mark) ≡ Taken → r.reply ≡ Taken → r.entered ≡ false → reg' ≡ withdrawn reg i → Withdrew reg used mark r reg'
  unfolding after_withdrawal leaves
  withdraws h e f g w =
      let k : known reg mark used ≡ true = rw (← at) (lt-ltb i used h) in
      record { wrote = rw f (writes (withdrawal_tests reg used mark) _ reg e (rw k (w ∙ ap (withdrawn reg) at))); entered = rw (f, k) g }

  enters : {r : Withdrawal} {reg' : Bytes} → used ≤ i → first (withdrawal_tests reg used mark) ≡ Taken → r.reply ≡ Taken → r.entered ≡ true → reg' ≡ withdrawn_early reg used mark
      → Withdrew reg used mark r reg'
  unfolding after_withdrawal leaves
  enters h e f g w =
      let k : known reg mark used ≡ false = rw (← at) (le-ltb i used h) in
      record { wrote = rw f (writes (withdrawal_tests reg used mark) _ reg e (rw k w)); entered = rw (f, k) g }

pub returns-then-at-eq4096 : goal.returns-then-at-eq4096
returns-then-at-eq4096 c =
    let f = c.find-at.ensures in
    let low = f.1 in
    let most = c.requires.1 in
    let behind = c.if-at-eq4096.true in
    refuses _ _ _ f.0 (is_unknown_full _ _ _ f.0 refl (omega arith) (omega arith)) refl refl

pub write_early-requires : goal.write_early-requires
write_early-requires c =
    let f = c.find-at.ensures.1 in
    let size = c.requires.0 in
    let at : c.find-at.result ≡ c.args.used = c.if-at-used.true in
    let free = c.if-at-eq4096.false in
    let most = c.requires.1 in
    omega arith

pub returns-then-at-used : goal.returns-then-at-used
returns-then-at-used c =
    let f = c.find-at.ensures in
    let at = c.if-at-used.true in
    let l : c.args.used ≤ c.find-at.result = omega arith in
    enters _ _ _ f.0 l (is_unknown_free _ _ _ f.0 refl l (λ e. c.if-at-eq4096.false (omega arith))) refl refl c.write_early.ensures

pub is_standing-requires : goal.is_standing-requires
is_standing-requires c =
    let f = c.find-at.ensures.1 in
    let other = c.if-at-used.false in
    let size = c.requires.0 in
    let most = c.requires.1 in
    omega arith

pub returns-then-not-is_standing : goal.returns-then-not-is_standing
returns-then-not-is_standing c =
    let f = c.find-at.ensures in
    let low = f.1 in
    let other = c.if-at-used.false in
    refuses _ _ _ f.0 (is_withdrawn_already _ _ _ f.0 refl (omega arith) (sym c.is_standing.ensures ∙ c.if-not-is_standing.true)) refl refl

pub write_withdrawn-requires : goal.write_withdrawn-requires
write_withdrawn-requires c =
    let f = c.find-at.ensures.1 in
    let other = c.if-at-used.false in
    let size = c.requires.0 in
    let most = c.requires.1 in
    omega arith

pub returns : goal.returns
returns c =
    let f = c.find-at.ensures in
    let low = f.1 in
    let other = c.if-at-used.false in
    let l : c.find-at.result < c.args.used = omega arith in
    withdraws _ _ _ f.0 l (is_standing_still _ _ _ f.0 refl l (sym c.is_standing.ensures ∙ c.if-not-is_standing.false)) refl refl c.write_withdrawn.ensures
