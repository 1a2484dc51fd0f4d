-- The second demand: every round that a session counts as checked was checked, since the last clear taken and against what the session still holds; of a session that
-- ended accepted every round was. Assumes nothing.
use mathlib.Core.Path.{◌≡◌, refl, sym, ap, subst, ◌∙◌}
use mathlib.Core.Logic.{◌⊎◌, inl, inr}
use mathlib.Core.Bool.{Bool, true, false}
use mathlib.Core.List.{List, [], ◌∷◌, ◌++◌, append_assoc, append-nil}
use Prim.Native.Nat.{ℕ, ◌+◌, ◌<◌}
use native.Mathlib.Numerals.{add-one}
use native.Mathlib.Omega.{arith}
use lib.Dec.{eqb}
use borrow.Author.Tests.{eqb-true}
use Rattle.codec.specs.Bytes.{Bytes}
use Rattle.codec.specs.Reply.{Taken}
use Rattle.round.proofs.Many.{last}
use Rattle.session_check.specs.Stored.{Inputs}
use Rattle.session.specs.declared.Session.{Session}
use Rattle.session.specs.Session.{trail_at}
use Rattle.session.specs.Steps.{Beginning, stored_for, cleared, entered_by, closed_by, claimed_by, committed_by, drawn_by, accepted_by, refused_by}
use Rattle.session.specs.Machine.{Step, clear, admit, withdraw, close, claim, commit, draw, check, State, state, next, reply, after}
use Rattle.session_histories.specs.Runs.{Call, call, clears}
use Rattle.session_histories.specs.Internal.{Begins, Trace, lent, NoClear, extend_trace, trace, initial_trace, StepChecked}
use Rattle.session_histories.proofs.Stepped.{clears_refused, stepped, taken_turn}
use Rattle.session_histories.proofs.ExactGathering.{withdrawn_exactly, withdrawal, closed_exactly}
use Rattle.session_histories.proofs.Exact.{claimed_exactly, committed_exactly, drawn_exactly}
use Rattle.session_histories.proofs.Checked.{accepted_exactly}
use Rattle.session_histories.proofs.Kept.{kept}

-- ---- one step

-- what a step does to the count of rounds checked, and to what checks are held against
data Move (s : Session) (reg : Bytes) : Step → Session → Type 0 where
  -- a clear that is taken starts the count
  restarted : {x : Step} {t : Session} → t.progress.checked ≡ 0 → Move s reg x t
  -- a check that is taken counts its round
  counted : {round : ℕ} {x : Inputs} {t : Session} → round ≡ s.progress.checked → reply (check round x) (state s reg) ≡ Taken → t.progress.checked ≡ s.progress.checked + 1
      → ((k : ℕ) → stored_for s k ≡ stored_for t k) → Move s reg (check round x) t
  -- all else leaves the count, and from the first round checked on what checks are held against
  same : {x : Step} {t : Session} → clears x (reply x (state s reg)) ≡ false → t.progress.checked ≡ s.progress.checked → (0 < s.progress.checked → (k : ℕ) → stored_for s k ≡ stored_for t k) → Move s reg x t

module _ (s : Session) (reg : Bytes) (unchecked : s.progress.phase < 3 → s.progress.checked ≡ 0) where
  abbrev st : State
  st = state s reg

  -- a step that is taken before draw
  early : (x : Step) (t : Session) → clears x (reply x st) ≡ false → t.progress.checked ≡ s.progress.checked → s.progress.phase < 3 → Move s reg x t
  early x t c n low = same c n (λ l k. absurd (omega (arith, unchecked low)))

  moved : (x : Step) → reply x st ≡ Taken → Move s reg x (next x st).session
  unfolding reply cleared entered_by closed_by claimed_by committed_by drawn_by accepted_by trail_at
  moved (clear b) e = restarted refl
  moved (admit ballot) e = same refl refl (λ l k. refl)
  moved (withdraw mark) e =
      withdrawal s reg mark (λ (z : State). Move s reg (withdraw mark) z.session) ((withdrawn_exactly s reg mark).0 e) (λ f. same refl refl (λ l k. refl)) (λ m. same refl refl (λ l k. refl))
  moved close e = let was = ((closed_exactly s reg).0 e).gathers.phase in early close _ refl refl (omega arith)
  moved (claim claims) e = let was = ((claimed_exactly s claims).0 e).phase in early (claim claims) _ refl refl (omega arith)
  moved (commit k head shares0 shares1) e = let was = ((committed_exactly s k head shares0 shares1).0 e).phase in early (commit k head shares0 shares1) _ refl refl (omega arith)
  moved (draw seed) e = let was = ((drawn_exactly s seed).0 e).phase in early (draw seed) _ refl refl (omega arith)
  moved (check round x) e = counted (taken_turn s round x e).1 (unfold reply in e) refl (λ k. refl)

  moves : (x : Step) → Move s reg x (after x st).session
  unfolding refused_by trail_at
  moves x =
      stepped st (λ (z : State). Move s reg x z.session) x (moved x) (λ number place e. same (clears_refused x _ number place e) refl (λ l k. refl))
      (λ number place e was low. same {t = refused_by s} (clears_refused x _ number place e) refl (λ l k. refl))

-- a session that ended accepted counts all its rounds
abbrev Complete : Session → Type 0
Complete s = s.progress.phase ≡ 5 → s.progress.checked ≡ s.numbers.rounds

complete_next : (x : Step) (reg : Bytes) (s : Session) → Complete s → reply x (state s reg) ≡ Taken → Complete (next x (state s reg)).session
unfolding reply cleared entered_by closed_by claimed_by committed_by drawn_by
complete_next (clear b) reg s h e = λ l. absurd (omega arith)
complete_next (admit ballot) reg s h e = h
complete_next (withdraw mark) reg s h e = withdrawal s reg mark (λ (z : State). Complete z.session) ((withdrawn_exactly s reg mark).0 e) (λ f. h) (λ m. h)
complete_next close reg s h e = λ l. absurd (omega arith)
complete_next (claim claims) reg s h e = λ l. absurd (omega arith)
complete_next (commit k head shares0 shares1) reg s h e = λ l. let was = ((committed_exactly s k head shares0 shares1).0 e).phase in absurd (omega arith)
complete_next (draw seed) reg s h e = λ l. absurd (omega arith)
complete_next (check round x) reg s h e = accepted (eqb (s.progress.checked + 1) s.numbers.rounds) refl
  where
    accepted : (b : Bool) → eqb (s.progress.checked + 1) s.numbers.rounds ≡ b → Complete (accepted_by s)
    accepted true e = unfold accepted_by in λ l. eqb-true (s.progress.checked + 1) s.numbers.rounds e
    accepted false e = unfold accepted_by in (rw e (λ l. absurd (omega arith)))

complete_step : (x : Step) (reg : Bytes) (s : Session) → Complete s → Complete (after x (state s reg)).session
unfolding refused_by
complete_step x reg s h = stepped (state s reg) (λ (z : State). Complete z.session) x (complete_next x reg s h) (λ number place e. h) (λ number place e was low l. absurd (omega arith))

complete_trace : (cs : List Call) (l : Trace) → Complete l.session → Complete (trace cs l).session
unfolding trace extend_trace
complete_trace [] l h = h
complete_trace (c ∷ cs) l h = complete_trace cs (extend_trace c l) (complete_step c.step c.register l.session h)

-- ---- one call more

trace_append : (cs ds : List Call) (l : Trace) → trace (cs ++ ds) l ≡ trace ds (trace cs l)
unfolding trace
trace_append [] ds l = refl
trace_append (c ∷ cs) ds l = trace_append cs ds (extend_trace c l)

no_clear_more : (cs : List Call) (c : Call) (l : Trace) → NoClear cs l → clears c.step (reply c.step (lent (trace cs l) c)) ≡ false → NoClear (cs ++ (c ∷ [])) l
unfolding trace NoClear
no_clear_more [] c l h e = (e, tt)
no_clear_more (d ∷ cs) c l h e = (h.0, no_clear_more cs c (extend_trace d l) h.1 e)

module _ (b : Beginning) (readable : Begins b) where
  abbrev at : List Call → Trace
  at cs = trace cs (initial_trace b)

  at_more : (cs : List Call) (c : Call) → at (cs ++ (c ∷ [])) ≡ extend_trace c (at cs)
  at_more cs c = trace_append cs (c ∷ []) (initial_trace b) ∙ (unfold trace in refl)

  record All (cs : List Call) : Type 0 where
    of : (k : ℕ) → k < (at cs).session.progress.checked → StepChecked b cs k

  module _ (cs : List Call) (c : Call) (h : All cs) where
    abbrev s : Session
    s = (at cs).session

    abbrev t : Session
    t = (at (cs ++ (c ∷ []))).session

    -- a check that was taken before
    longer : clears c.step (reply c.step (lent (at cs) c)) ≡ false → (k : ℕ) → stored_for s k ≡ stored_for t k → StepChecked b cs k → StepChecked b (cs ++ (c ∷ [])) k
    longer e k d w =
        let this = call (check k w.inputs) w.register in
        let where_at : at cs ≡ trace w.later (extend_trace this (at w.before)) = ap at w.listed ∙ trace_append w.before (this ∷ w.later) (initial_trace b) ∙ (unfold trace in refl) in
        record {
          before = w.before;
          register = w.register;
          inputs = w.inputs;
          later = w.later ++ (c ∷ []);
          listed = ap (λ (l : List Call). l ++ (c ∷ [])) w.listed ∙ append_assoc w.before (this ∷ w.later) (c ∷ []);
          uncleared = no_clear_more w.later c (extend_trace this (at w.before)) w.uncleared (ap (λ (l : Trace). clears c.step (reply c.step (lent l c))) (sym where_at) ∙ e);
          taken = w.taken;
          checks = w.checks;
          stored = w.stored ∙ d;
        }

    -- one that is taken now
    new : (k : ℕ) (x : Inputs) → c.step ≡ check k x → reply (check k x) (lent (at cs) c) ≡ Taken → stored_for s k ≡ stored_for t k → StepChecked b (cs ++ (c ∷ [])) k
    new k x e r d = record {
      before = cs;
      register = c.register;
      inputs = x;
      later = [];
      listed = ap (λ (y : Step). cs ++ (call y c.register ∷ [])) e;
      uncleared = unfold NoClear in tt;
      taken = r;
      checks = λ octets. (accepted_exactly s k x octets).0 (unfold reply in r);
      stored = d;
    }

    step : All (cs ++ (c ∷ []))
    unfolding extend_trace
    step = record { of = λ k l. go c.step refl (moves s c.register (kept b cs readable).counts.unchecked c.step) k (rw (at_more cs c) at l) }
      where
        now : (after c.step (lent (at cs) c)).session ≡ t
        now = ap (λ (l : Trace). l.session) (sym (at_more cs c))

        go : (x : Step) → c.step ≡ x → Move s c.register x (after c.step (lent (at cs) c)).session → (k : ℕ) → k < (after c.step (lent (at cs) c)).session.progress.checked
            → StepChecked b (cs ++ (c ∷ [])) k
        go x e (restarted z) k l = absurd (omega arith)
        go x e (same u n d) k l =
            longer (ap (λ (y : Step). clears y (reply y (lent (at cs) c))) e ∙ u) k (d (omega arith) k ∙ ap (λ (w : Session). stored_for w k) now) (h.of k (omega arith))
        go x e (counted {round = round} {x = y} i r n d) k l = by (last s.progress.checked k (omega (arith, add-one s.progress.checked)))
          where
            by : (k < s.progress.checked) ⊎ (k ≡ s.progress.checked) → StepChecked b (cs ++ (c ∷ [])) k
            by (inl j) = longer (ap (λ (y : Step). clears y (reply y (lent (at cs) c))) e) k (d k ∙ ap (λ (w : Session). stored_for w k) now) (h.of k j)
            by (inr j) = rw (j ∙ sym i) (new round y e r (d round ∙ ap (λ (w : Session). stored_for w round) now))

  all : (cs ds : List Call) → All cs → All (cs ++ ds)
  all cs [] h = subst All (sym (append-nil cs)) h
  all cs (d ∷ ds) h = subst All (append_assoc cs (d ∷ []) ds) (all (cs ++ (d ∷ [])) ds (step cs d h))

  every : (cs : List Call) → All cs
  every cs = all [] cs (record { of = λ k l. absurd (unfold trace initial_trace cleared in omega arith) })

-- every round that a session counts as checked was checked
pub rounds_checked : (b : Beginning) (cs : List Call) → Begins b → (k : ℕ) → k < (trace cs (initial_trace b)).session.progress.checked → StepChecked b cs k
rounds_checked b cs e = (every b e cs).of

-- and of a session that ended accepted every round was
pub ended_accepted : (b : Beginning) (cs : List Call) → Begins b
    → let s = (trace cs (initial_trace b)).session in
    s.progress.phase ≡ 5 → (k : ℕ) → k < s.numbers.rounds → StepChecked b cs k
ended_accepted b cs e ended k l =
    let all : Complete (trace cs (initial_trace b)).session = complete_trace cs (initial_trace b) (λ w. absurd (unfold initial_trace cleared in omega arith)) in
    (every b e cs).of k (omega (arith, all ended))
