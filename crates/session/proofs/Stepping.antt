-- What a method of `Session` hands back, by the reply of its step. Assumes nothing.
use mathlib.Core.Path.{◌≡◌, refl, sym, ap, ◌∙◌}
use mathlib.Core.List.{List}
use Prim.Native.Nat.{ℕ}
use Rattle.codec.specs.Bytes.{Bytes}
use Rattle.codec.specs.Reply.{Test, first, leaves, Reply, Taken, Refused}
use Rattle.register.specs.Internal.{Wrote}
use Rattle.session.specs.Machine.{Step, State, tests, next, still, reply, after}
use Rattle.session.specs.Internal.{Stepped, Done}

module _ (x : Step) (st : State) {r : Stepped} where
  -- refused, with everything left
  pub stays : {n : ℕ} → first (tests x st) ≡ Refused n 0 → still x st ≡ st → (r.session ≡ st.session) × (r.reply ≡ Refused n 0) → Done x st r st.register
  unfolding reply after leaves
  stays e f h = record { replied = h.1 ∙ sym e; session = rw (e, f) h.0; register_left = rw (e, f) }

  -- taken
  pub moves : {register : Bytes} → first (tests x st) ≡ Taken → r.reply ≡ Taken → r.session ≡ (next x st).session → register ≡ (next x st).register → Done x st r register
  unfolding reply after leaves
  moves e t s w = record { replied = t ∙ sym e; session = rw e s; register_left = rw e w }

  -- the register's own order decides, and the register is left as it leaves it
  pub decides : (us : List Test) {register : Bytes} → first (tests x st) ≡ first us → still x st ≡ st → Wrote us (next x st).register r.reply st.register register
      → r.session ≡ leaves r.reply (next x st).session st.session → Done x st r register
  unfolding reply after leaves
  decides us on f w s = record {
    replied = w.replied ∙ sym on;
    session = s ∙ ap (λ (q : Reply). leaves q (next x st).session st.session) (w.replied ∙ sym on) ∙ within (λ (z : State). z.session) (first (tests x st));
    register_left = w.written ∙ ap (λ (q : Reply). leaves q (next x st).register st.register) (sym on) ∙ within (λ (z : State). z.register) (first (tests x st));
  }
    where
      -- of one part of the state
      within : {A : Type 0} (part : State → A) (q : Reply) → leaves q (part (next x st)) (part st) ≡ part (leaves q (next x st) (still x st))
      within part Taken = refl
      within part (Refused number place) = ap part (sym f)

-- what is left alone in any case
pub left_alone : {A : Type 0} (q : Reply) (a : A) → leaves q a a ≡ a
unfolding leaves
left_alone Taken a = refl
left_alone (Refused number place) a = refl
