-- What a step leaves by its reply, and which test a refusal comes from. Assumes nothing.
use mathlib.Core.Path.{◌≡◌, refl, sym, ◌∙◌}
use mathlib.Core.Logic.{◌↔◌, ◌≢◌}
use mathlib.Core.Bool.{Bool, true, false, cond}
use mathlib.Core.List.{List, [], ◌∷◌, ◌++◌}
use Prim.Native.Nat.{ℕ}
use Rattle.codec.specs.Reply.{Test, test, first, None, leaves, Reply, Taken, Refused}
use Rattle.codec.proofs.Replies.{not_taken, first_append}
use Rattle.round_lengths.proofs.Zeroized.{Later}

-- what is left has P, if what is left by a step taken has it, and what was there
pub left : {A : Type 0} (P : A → Type 0) (r : Reply) {new old : A} → (r ≡ Taken → P new) → P old → P (leaves r new old)
unfolding leaves
left P Taken f k = f refl
left P (Refused n place) f k = k

-- ---- which test a refusal comes from

-- no test of the list has the number
abbrev pub Others : ℕ → List Test → Type 0
Others n [] = Unit
Others n (t ∷ ts) = (t.number ≢ n) × Others n ts

pub others_append : (n : ℕ) (ts us : List Test) → Others n ts → Others n us → Others n (ts ++ us)
others_append n [] us h g = g
others_append n (t ∷ ts) us h g = (h.0, others_append n ts us h.1 g)

pub later_others : (ts : List Test) → Later ts → Others 31 ts
unfolding Later
later_others [] h = tt
later_others (t ∷ ts) h = (h.0.1, later_others ts h.1)

pub others : (n place : ℕ) (ts : List Test) → Others n ts → first ts ≢ Refused n place
unfolding first
others n place [] o e = not_taken n place (sym e)
others n place (t ∷ ts) o e = go t.holds e (others n place ts o.1)
  where
    go : (b : Bool) → cond b (Refused t.number t.place) (first ts) ≡ Refused n place → (first ts ≢ Refused n place) → ⊥
    go true e rest = o.0 (cc)
    go false e rest = rest e

-- of a list in which only the first test has the number
pub head_holds : (n place : ℕ) (t : Test) (ts : List Test) → Others n ts → first (t ∷ ts) ≡ Refused n place → t.holds ≡ true
unfolding first
head_holds n place t ts o e = go t.holds refl e
  where
    go : (b : Bool) → t.holds ≡ b → cond b (Refused t.number t.place) (first ts) ≡ Refused n place → t.holds ≡ true
    go true h e = h
    go false h e = absurd (others n place ts o e)

-- the reply of the one test with this number: it holds, and none before it
module _ (n place : ℕ) (b : Bool) (us : List Test) (behind : Others n us) where
  by_number_says : (rs : List Test) → Others n rs → first (rs ++ (test n place b ∷ us)) ≡ Refused n place → None rs × (b ≡ true)
  unfolding first
  by_number_says [] o e = go b e
    where
      go : (c : Bool) → cond c (Refused n place) (first us) ≡ Refused n place → None [] × (c ≡ true)
      go true e = (tt, refl)
      go false e = absurd (others n place us behind e)
  by_number_says (r ∷ rs) o e = go r.holds refl e (by_number_says rs o.1)
    where
      go : (c : Bool) → r.holds ≡ c → cond c (Refused r.number r.place) (first (rs ++ (test n place b ∷ us))) ≡ Refused n place
          → (first (rs ++ (test n place b ∷ us)) ≡ Refused n place → None rs × (b ≡ true)) → None (r ∷ rs) × (b ≡ true)
      go true h e rest = absurd (o.0 (cc))
      go false h e rest = let s = rest e in ((h, s.0), s.1)

  pub by_number : (rs : List Test) → Others n rs → (first (rs ++ (test n place b ∷ us)) ≡ Refused n place) ↔ (None rs × (b ≡ true))
  by_number rs o = (by_number_says rs o, λ h. first_append rs (test n place b ∷ us) h.0 ∙ (unfold first in rw h.1))
