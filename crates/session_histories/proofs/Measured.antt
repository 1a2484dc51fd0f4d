-- The lengths of what was lodged: each digest of the batch has 32 bytes, and each first message the lengths that its commit asked for. Assumes nothing.
use mathlib.Core.Path.{◌≡◌, refl}
use mathlib.Core.Bool.{cond}
use mathlib.Core.List.{List, [], ◌∷◌, map, Memᴰ}
use Prim.Native.Nat.{ℕ, ◌+◌, ◌*◌, ◌≤◌, ◌<◌}
use native.Mathlib.Omega.{arith}
use native.Mathlib.Decide.{ℕ_discrete}
use lib.Dec.{eqb}
use lib.ListN.{length}
use borrow.Author.Tests.{eq-eqb, ne_eqb}
use Rattle.codec.specs.Bytes.{Bytes}
use Rattle.codec.specs.Reply.{leaves, Taken}
use Rattle.codec.proofs.Laws.{length_part}
use Rattle.round.specs.Layout.{head_length}
use Rattle.register.specs.Register.{digest_at, standing, standing_digests}
use Rattle.register.proofs.Entries.{stands}
use Rattle.session_digests.proofs.Laws.{Long}
use Rattle.session.specs.declared.Session.{Session}
use Rattle.session.specs.Steps.{Beginning, cleared, entered_by, closed_by, claimed_by, committed_by, drawn_by, accepted_by, refused_by}
use Rattle.session.specs.Machine.{Step, clear, admit, withdraw, close, claim, commit, draw, check, State, state, next, reply, after}
use Rattle.session_histories.specs.Runs.{Message, message, Call, History, empty_history, history_after}
use Rattle.session_histories.specs.Internal.{Begins, Trace, extend_trace, trace, initial_trace}
use Rattle.session_histories.proofs.Stepped.{taken_turn, stepped_with}
use Rattle.session_histories.proofs.ExactGathering.{withdrawn_exactly, withdrawal, closed_exactly}
use Rattle.session_histories.proofs.Exact.{claimed_exactly, committed_exactly, drawn_exactly}
use Rattle.session_histories.proofs.Kept.{Kept, kept_step, kept}

-- the head and the shares of side 0; those of side 1 are what is left
pub record MessageSized (s : Session) (m : Message) : Type 0 where
  pub head : length m.head ≡ head_length s.numbers.ring s.numbers.repeats
  pub shares0 : length m.shares0 ≡ 8 * s.numbers.ring * s.progress.closed

pub record Measured (s : Session) (h : History) : Type 0 where
  pub batch : Long 32 h.batch
  pub firsts : 1 < s.progress.phase → (j : ℕ) → j < s.progress.committed → MessageSized s (h.firsts j)

-- ---- the digests in a register

long_map : (size : ℕ) (f : ℕ → Bytes) (is : List ℕ) → ((i : ℕ) → Memᴰ i is → length (f i) ≡ size) → Long size (map f is)
long_map size f [] h = tt
long_map size f (i ∷ is) h = (h i (Memᴰ.head refl), long_map size f is (λ j m. h j (Memᴰ.tail m)))

long_standing : (reg : Bytes) (n : ℕ) → length reg ≡ 163840 → n ≤ 4096 → Long 32 (standing_digests reg n)
unfolding standing_digests digest_at
long_standing reg n size few = long_map 32 (digest_at reg) (standing reg n) (λ i m. let low = (stands reg n i m).0 in length_part reg (40 * i + 8) 32 (omega arith))

-- ---- one step

measured_clear : (b : Beginning) → Measured (cleared b) (empty_history b)
unfolding cleared
measured_clear b = record { batch = tt; firsts = λ l. absurd (omega arith) }

module _ (reg : Bytes) (s : Session) (h : History) (k : Kept s h) (m : Measured s h) where
  abbrev st : State
  st = state s reg

  measured_entered : Measured (entered_by s) h
  unfolding entered_by
  measured_entered = record { batch = m.batch; firsts = λ l j g. let z = m.firsts l j g in record { head = z.head; shares0 = z.shares0 } }

  measured_next : (x : Step) → reply x st ≡ Taken → Measured (next x st).session (history_after x st h)
  unfolding reply history_after closed_by claimed_by committed_by drawn_by accepted_by
  measured_next (clear b) e = measured_clear b
  measured_next (admit ballot) e = measured_entered
  measured_next (withdraw mark) e = withdrawal s reg mark (λ (z : State). Measured z.session h) ((withdrawn_exactly s reg mark).0 e) (λ f. m) (λ w. measured_entered)
  measured_next close e =
      let c = (closed_exactly s reg).0 e in
      let was = c.gathers.phase in
      record { batch = long_standing reg s.progress.used c.gathers.register_size k.sound.used; firsts = λ l. absurd (omega arith) }
  measured_next (claim claims) e =
      let was = ((claimed_exactly s claims).0 e).phase in
      record { batch = m.batch; firsts = λ l j g. let z = k.counts.uncommitted (omega arith) in absurd (omega arith) }
  measured_next (commit r head shares0 shares1) e = record { batch = m.batch; firsts = λ l j g. go j (ℕ_discrete j r) l g }
    where
      go : (j : ℕ) → Dec (j ≡ r) → 1 < s.progress.phase → j < s.progress.committed + 1
          → MessageSized (committed_by s r head shares0 shares1) (cond (eqb j r) (message head shares0 shares1) (h.firsts j))
      go j (yes p) l g = let c = (committed_exactly s r head shares0 shares1).0 e in rw (eq-eqb j r p) (record { head = c.head_size; shares0 = c.shares0_size })
      go j (no p) l g =
          let due = ((committed_exactly s r head shares0 shares1).0 e).due in
          let z = m.firsts l j (omega arith) in
          rw (ne_eqb j r p) (record { head = z.head; shares0 = z.shares0 })
  measured_next (draw seed) e =
      let was = ((drawn_exactly s seed).0 e).phase in
      record { batch = m.batch; firsts = λ l j g. let z = m.firsts (omega arith) j g in record { head = z.head; shares0 = z.shares0 } }
  measured_next (check r x) e =
      let was = (taken_turn s r x e).0 in
      record { batch = m.batch; firsts = λ l j g. let z = m.firsts (omega arith) j g in record { head = z.head; shares0 = z.shares0 } }

  measured_refused : s.progress.phase ≡ 3 → Measured (refused_by s) h
  unfolding refused_by
  measured_refused was = record { batch = m.batch; firsts = λ l j g. let z = m.firsts (omega arith) j g in record { head = z.head; shares0 = z.shares0 } }

  measured_step : (x : Step) → Measured (after x st).session (leaves (reply x st) (history_after x st h) h)
  measured_step x = stepped_with st (λ (z : State) (g : History). Measured z.session g) x (measured_next x) (λ number place e. m) (λ number place e was low. measured_refused was)

-- ---- lists of steps

measured_trace : (cs : List Call) (l : Trace) → Kept l.session l.history → Measured l.session l.history → Measured (trace cs l).session (trace cs l).history
unfolding trace extend_trace
measured_trace [] l k m = m
measured_trace (c ∷ cs) l k m =
    measured_trace cs (extend_trace c l) (kept_step c.register l.session l.history k c.step) (measured_step c.register l.session l.history k m c.step)

pub measured : (b : Beginning) (cs : List Call) → Begins b → Measured (trace cs (initial_trace b)).session (trace cs (initial_trace b)).history
unfolding initial_trace trace
measured b cs e = measured_trace cs (initial_trace b) (kept b [] e) (measured_clear b)
