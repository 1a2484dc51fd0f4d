-- What a call leaves in scratch, by its reply. Assumes nothing.
use mathlib.Core.Path.{◌≡◌, refl, ap, ◌∙◌}
use mathlib.Core.Bool.{Bool, cond, ◌||◌}
use mathlib.Core.List.{List}
use mathlib.Core.Logic.{◌≢◌}
use Prim.Native.Nat.{ℕ}
use borrow.Author.Tests.{eq-eqb, ne_eqb}
use lib.Dec.{eqb}
use lib.ListN.{length, length-replicate}
use Rattle.codec.specs.Bytes.{Bytes, zeros}
use Rattle.codec.specs.Reply.{Test, first, leaves, Reply, Taken, Refused}
use Rattle.scratch.specs.Call.{zeroized}
use Rattle.scratch.specs.Internal.{Computed}

pub zeroized_taken : (r : Reply) (w : Bytes) → r ≡ Taken → zeroized r w ≡ zeros (length w)
unfolding zeroized
zeroized_taken r w e = rw e

pub zeroized_refused : (r : Reply) (n p : ℕ) (w : Bytes) → r ≡ Refused n p → n ≢ 1 → n ≢ 31 → zeroized r w ≡ zeros (length w)
unfolding zeroized
zeroized_refused r n p w e f g = rw (e, ne_eqb n 1 f, ne_eqb n 31 g)

pub kept_length : (r : Reply) (n p : ℕ) (w : Bytes) → r ≡ Refused n p → n ≡ 1 → zeroized r w ≡ w
unfolding zeroized
kept_length r n p w e f = rw (e, eq-eqb n 1 f)

pub kept_state : (r : Reply) (n p : ℕ) (w : Bytes) → r ≡ Refused n p → n ≢ 1 → n ≡ 31 → zeroized r w ≡ w
unfolding zeroized
kept_state r n p w e f g = rw (e, ne_eqb n 1 f, eq-eqb n 31 g)

pub zeroized_by : (r : Reply) {n p : ℕ} (w : Bytes) → r ≡ Refused n p → {kept : Bool} → kept ≡ (eqb n 1 || eqb n 31)
    → zeroized r w ≡ cond kept w (zeros (length w))
unfolding zeroized
zeroized_by r w e k = rw (e, k)

-- ---- what a call leaves, taken and refused

pub leaves_taken : {A : Type 0} (r : Reply) {x : A} (y : A) → r ≡ Taken → x ≡ leaves r x y
unfolding leaves
leaves_taken r y e = rw e

pub leaves_refused : {A : Type 0} (r : Reply) (n p : ℕ) (x : A) {y : A} → r ≡ Refused n p → y ≡ leaves r x y
unfolding leaves
leaves_refused r n p x e = rw e

-- the part of a call after the sheet, by its tests
module _ {tests : List Test} {writes : Bytes} {r : Reply} (e : r ≡ first tests) {out w : Bytes} where
  pub worked_taken : {out' w' : Bytes} → r ≡ Taken → out' ≡ writes → w' ≡ zeros (length w) → Computed tests writes r out out' w w'
  unfolding leaves
  worked_taken t o z = record { replied = e; written = rw t o; cleared = rw t z }

  pub worked_refused : {n p : ℕ} → r ≡ Refused n p → Computed tests writes r out out w w
  worked_refused {n} {p} t = record { replied = e; written = leaves_refused r n p writes t; cleared = leaves_refused r n p (zeros (length w)) t }

-- and then the zeroize
pub zeroized_worked : (r : Reply) (w w' : Bytes) → w' ≡ leaves r (zeros (length w)) w → zeroized r w' ≡ zeroized r w
unfolding zeroized leaves
zeroized_worked r w w' e = rw e (by r)
  where
    by : (r : Reply) → zeroized r (leaves r (zeros (length w)) w) ≡ zeroized r w
    by Taken = ap zeros (length-replicate {A = ℕ} (length w) 0)
    by (Refused n p) = refl

-- what was zeroed keeps its length
pub length_zeros : {w : Bytes} {n : ℕ} → w ≡ zeros n → length w ≡ n
length_zeros {w} {n} e = ap length e ∙ length-replicate {A = ℕ} n 0
