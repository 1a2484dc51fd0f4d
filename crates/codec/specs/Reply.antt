-- What a call answers, and the order of its refusals (document 01, "Refused because of the input" and after). Assumes nothing.
use Rattle.std.specs.Prelude.{◌≡◌, Bool, true, false, cond, List, [], ◌∷◌, ◌++◌, ℕ, ◌+◌, ◌*◌}

-- what a call answers: taken; or refused, with document 01's number, and the repetition or ballot that the refusal names, else 0
pub data Reply : Type 0 where
  Taken : Reply
  Refused : ℕ → ℕ → Reply

-- document 01's number of a reply, 0 for a call that is taken
abbrev pub number_of : Reply → ℕ
number_of Taken = 0
number_of (Refused number place) = number

-- the repetition or ballot that a refusal names, else 0
abbrev pub place_of : Reply → ℕ
place_of Taken = 0
place_of (Refused number place) = place

-- the one number that the C host is answered
abbrev pub packed : Reply → ℕ
packed r = number_of r + 256 * place_of r

-- one test of an order: the number and place of its refusal, and whether it holds
pub record Test : Type 0 where
  pub number : ℕ
  pub place : ℕ
  pub holds : Bool

abbrev pub test : ℕ → ℕ → Bool → Test
test n p b = record { number = n; place = p; holds = b }

-- the first test that holds decides; none: the call is taken
unfoldable pub first : List Test → Reply
first [] = Taken
first (t ∷ ts) = cond t.holds (Refused t.number t.place) (first ts)

-- no test of the list holds
abbrev pub None : List Test → Type 0
None [] = Unit
None (t ∷ ts) = (t.holds ≡ false) × None ts

-- a test with this number and place holds, and none before it
pub record Decides (number place : ℕ) (ts : List Test) : Type 0 where
  pub before : List Test
  pub test : Test
  pub after : List Test
  pub listed : ts ≡ before ++ test ∷ after
  pub earlier : None before
  pub holds : test.holds ≡ true
  pub number_is : test.number ≡ number
  pub place_is : test.place ≡ place

-- what a call leaves where it writes: what it writes if it is taken, else what was there
unfoldable pub leaves : {A : Type 0} → Reply → A → A → A
leaves Taken written kept = written
leaves (Refused number place) written kept = kept
