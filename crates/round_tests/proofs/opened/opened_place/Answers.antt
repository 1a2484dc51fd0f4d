-- `opened::opened_place` meets its contract. Assumes nothing.
use native.Mathlib.Omega.{arith}
use borrow.Author.Rules.{rules}
use borrow.Author.Tests.{le-ltb, lt-ltb, le-leb, lt-leb, eq-eqb, ne_eqb}
use Prim.Native.Nat.{◌*◌}
use Rattle.sheet_numbers.proofs.Ranges.{divides}
use Rattle.round_tests.specs.Opened.{is_opened, opened_place}
use Rattle.round_tests.proofs.OpenedPlaces.{whole_stretch}
use Rattle.round_tests.proofs.opened.opened_place.Goals as goal

pub returns-then-side-gt1 : goal.returns-then-side-gt1
unfolding opened_place is_opened
returns-then-side-gt1 c = search (rules, le-ltb, lt-ltb, le-leb, lt-leb, eq-eqb, ne_eqb)

pub returns-then-n-lt4 : goal.returns-then-n-lt4
unfolding opened_place is_opened
returns-then-n-lt4 c = search (rules, le-ltb, lt-ltb, le-leb, lt-leb, eq-eqb, ne_eqb)

pub returns-then-n-gt2048 : goal.returns-then-n-gt2048
unfolding opened_place is_opened
returns-then-n-gt2048 c = search (rules, le-ltb, lt-ltb, le-leb, lt-leb, eq-eqb, ne_eqb)

pub returns-then-n-ne0 : goal.returns-then-n-ne0
unfolding opened_place is_opened
returns-then-n-ne0 c = rw (divides c.args.n (omega arith) (omega arith)) (search (rules, le-ltb, lt-ltb, le-leb, lt-leb, eq-eqb, ne_eqb))

pub returns-then-length0-length1 : goal.returns-then-length0-length1
unfolding opened_place is_opened
returns-then-length0-length1 c = rw (divides c.args.n (omega arith) (omega arith)) (search (rules, le-ltb, lt-ltb, le-leb, lt-leb, eq-eqb, ne_eqb))

pub returns-then-length0-n-ne0 : goal.returns-then-length0-n-ne0
unfolding opened_place is_opened
returns-then-length0-n-ne0 c = rw (divides c.args.n (omega arith) (omega arith)) (search (rules, le-ltb, lt-ltb, le-leb, lt-leb, eq-eqb, ne_eqb))

pub returns-then-length0-n : goal.returns-then-length0-n
unfolding opened_place is_opened
returns-then-length0-n c = rw (divides c.args.n (omega arith) (omega arith)) (search (rules, le-ltb, lt-ltb, le-leb, lt-leb, eq-eqb, ne_eqb))

pub overflow_mul-result-2 : goal.overflow_mul-result-2
overflow_mul-result-2 c = let a = c.args in omega (arith, whole_stretch a.length0 (8 * a.n) a.j (omega arith))

pub overflow_add-result : goal.overflow_add-result
overflow_add-result c = let a = c.args in omega (arith, whole_stretch a.length0 (8 * a.n) a.j (omega arith))

pub returns : goal.returns
unfolding opened_place is_opened
returns c = rw (divides c.args.n (omega arith) (omega arith)) (search (rules, le-ltb, lt-ltb, le-leb, lt-leb, eq-eqb, ne_eqb))
