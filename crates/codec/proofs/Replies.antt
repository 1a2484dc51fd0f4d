-- The law of an order of refusals: taken exactly if no test holds, refused with the first that holds. Assumes nothing.
use mathlib.Core.Path.{◌≡◌, refl, ap}
use mathlib.Core.Logic.{◌↔◌}
use mathlib.Core.Bool.{Bool, true, false, cond}
use mathlib.Core.List.{List, [], ◌∷◌, ◌++◌}
use Prim.Native.Nat.{ℕ}
use native.Mathlib.Omega.{arith}
use borrow.Author.Rules.{rules}
use borrow.Author.Tests.{le-ltb, lt-ltb, le-leb, lt-leb, eq-eqb, ne_eqb}
use Rattle.codec.specs.Reply.{Taken, Refused, Test, first, None, Decides}

-- what `search` closes a refusal by: the tests before it were passed, and its own was not
pub ruleset order = (rules, le-ltb, lt-ltb, le-leb, lt-leb, eq-eqb, ne_eqb)

pub not_taken : {A : Type 0} (n p : ℕ) → Refused n p ≡ Taken → A
not_taken n p e = absurd (let z : ◌≡◌ {A = ℕ} 0 1 = cc in omega arith)

passed : (ts : List Test) → first ts ≡ Taken → None ts
unfolding first
passed [] e = tt
passed (t ∷ ts) e = go t.holds refl e (passed ts)
  where
    go : (b : Bool) → t.holds ≡ b → cond b (Refused t.number t.place) (first ts) ≡ Taken → (first ts ≡ Taken → None ts) → None (t ∷ ts)
    go true h e rest = not_taken t.number t.place e
    go false h e rest = (h, rest e)

pass : (ts : List Test) → None ts → first ts ≡ Taken
unfolding first
pass [] n = refl
pass (t ∷ ts) n = rw n.0 (pass ts n.1)

pub taken_exactly : (ts : List Test) → (first ts ≡ Taken) ↔ None ts
taken_exactly ts = (passed ts, pass ts)

-- one order after another
pub first_append : (rs ts : List Test) → None rs → first (rs ++ ts) ≡ first ts
unfolding first
first_append [] ts n = refl
first_append (r ∷ rs) ts n = rw n.0 (first_append rs ts n.1)

decide : (n p : ℕ) (ts : List Test) → Decides n p ts → first ts ≡ Refused n p
unfolding first
decide n p ts d =
    rw (d.listed, first_append d.before (d.test ∷ d.after) d.earlier, d.holds, d.number_is, d.place_is)

decided : (n p : ℕ) (ts : List Test) → first ts ≡ Refused n p → Decides n p ts
unfolding first
decided n p [] e = absurd (let z : ◌≡◌ {A = ℕ} 0 1 = cc in omega arith)
decided n p (t ∷ ts) e = go t.holds refl e (decided n p ts)
  where
    go : (b : Bool) → t.holds ≡ b → cond b (Refused t.number t.place) (first ts) ≡ Refused n p → (first ts ≡ Refused n p → Decides n p ts) → Decides n p (t ∷ ts)
    go true h e rest = record { before = []; test = t; after = ts; listed = refl; earlier = tt; holds = h; number_is = cc; place_is = cc }
    go false h e rest =
        let d = rest e in
        record {
          before = t ∷ d.before;
          test = d.test;
          after = d.after;
          listed = ap (λ (l : List Test). t ∷ l) d.listed;
          earlier = (h, d.earlier);
          holds = d.holds;
          number_is = d.number_is;
          place_is = d.place_is;
        }

pub refused_exactly : (n p : ℕ) (ts : List Test) → (first ts ≡ Refused n p) ↔ Decides n p ts
refused_exactly n p ts = (decided n p ts, decide n p ts)
