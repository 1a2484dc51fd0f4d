-- What was lodged stays until the next clear taken: after a claim that is taken no step changes the sheet, the batch, the claims or the roll, and after a commit of a round that
-- is taken none changes its first message. Assumes nothing.
use mathlib.Core.Path.{◌≡◌, refl, sym, ap, ◌∙◌}
use mathlib.Core.Bool.{Bool, true, false, cond}
use mathlib.Core.List.{List, [], ◌∷◌}
use Prim.Native.Nat.{ℕ, ◌+◌, ◌<◌}
use native.Mathlib.Omega.{arith}
use lib.Dec.{eqb}
use borrow.Author.Tests.{ne_eqb}
use Rattle.codec.specs.Bytes.{Bytes}
use Rattle.codec.specs.Reply.{Taken}
use Rattle.session.specs.declared.Session.{Session}
use Rattle.session.specs.Steps.{committed_by, drawn_by, accepted_by, refused_by}
use Rattle.session.specs.Machine.{Step, clear, admit, withdraw, close, claim, commit, draw, check, State, state, next, reply}
use Rattle.session_histories.specs.Runs.{History, history_after, roll_after, clears}
use Rattle.session_histories.specs.Internal.{OwnTrace, own_extend, own_trace}
use Rattle.session_histories.proofs.Stepped.{Uncleared, none, more, stepped_all}
use Rattle.session_histories.proofs.ExactGathering.{admitted_exactly, withdrawn_exactly, closed_exactly}
use Rattle.session_histories.proofs.Exact.{claimed_exactly, committed_exactly}

-- from a claim on, and with the first message of a round once it is committed
pub record Stays (round : ℕ) (t : OwnTrace) (now : State) (history : History) (roll : List Bytes) : Type 0 where
  pub claimed : 1 < now.session.progress.phase
  pub sheet : history.sheet ≡ t.history.sheet
  pub batch : history.batch ≡ t.history.batch
  pub claims : history.claims ≡ t.history.claims
  pub same_roll : roll ≡ t.roll
  pub committed : round < t.now.session.progress.committed → round < now.session.progress.committed
  pub message : round < t.now.session.progress.committed → history.firsts round ≡ t.history.firsts round

abbrev pub Goes : (round : ℕ) (t u : OwnTrace) → Type 0
Goes round t u = Stays round t u.now u.history u.roll

-- ---- one step

module _ (round : ℕ) (t : OwnTrace) (late : 1 < t.now.session.progress.phase) where
  abbrev s : Session
  s = t.now.session

  abbrev reg : Bytes
  reg = t.now.register

  -- one that changes the session only, and not its count of commits
  only : (now : State) → 1 < now.session.progress.phase → now.session.progress.committed ≡ s.progress.committed → Stays round t now t.history t.roll
  only now l e = record { claimed = l; sheet = refl; batch = refl; claims = refl; same_roll = refl; committed = λ c. omega arith; message = λ c. refl }

  taken : (x : Step) → clears x Taken ≡ false → reply x t.now ≡ Taken → Stays round t (next x t.now) (history_after x t.now t.history) (roll_after x t.roll)
  unfolding reply history_after roll_after committed_by drawn_by accepted_by
  taken (clear b) n e = absurd (let z : ◌≡◌ {A = ℕ} 0 1 = cc in omega arith)
  taken (admit ballot) n e = let was = ((admitted_exactly s reg ballot).0 e).presents.gathers.phase in absurd (omega arith)
  taken (withdraw mark) n e = let was = ((withdrawn_exactly s reg mark).0 e).gathers.phase in absurd (omega arith)
  taken close n e = let was = ((closed_exactly s reg).0 e).gathers.phase in absurd (omega arith)
  taken (claim claims) n e = let was = ((claimed_exactly s claims).0 e).phase in absurd (omega arith)
  taken (commit k head shares0 shares1) n e =
      let c = (committed_exactly s k head shares0 shares1).0 e in
      let due = c.due in
      record {
        claimed = late;
        sheet = refl;
        batch = refl;
        claims = refl;
        same_roll = refl;
        committed = λ l. omega arith;
        message = λ l. rw (ne_eqb round k (λ i. omega arith));
      }
  taken (draw seed) n e = only (next (draw seed) t.now) (omega arith) refl
  taken (check k x) n e = only (next (check k x) t.now) (go (eqb (s.progress.checked + 1) s.numbers.rounds)) refl
    where
      go : (b : Bool) → 1 < cond b 5 3
      go true = omega arith
      go false = omega arith

  pub goes_step : (x : Step) → clears x (reply x t.now) ≡ false → Goes round t (own_extend x t)
  unfolding own_extend refused_by
  goes_step x n =
      stepped_all t.now (λ (z : State) (h : History) (bs : List Bytes). Stays round t z h bs) x (λ e. taken x (ap (clears x) (sym e) ∙ n) e) (λ number place e. only t.now late refl)
      (λ number place e was low. only (state (refused_by s) reg) (omega arith) refl)

-- ---- lists of steps

goes_none : (round : ℕ) (t : OwnTrace) → 1 < t.now.session.progress.phase → Goes round t t
goes_none round t late = record { claimed = late; sheet = refl; batch = refl; claims = refl; same_roll = refl; committed = λ l. l; message = λ l. refl }

pub goes_on : {round : ℕ} {t u v : OwnTrace} → Goes round t u → Goes round u v → Goes round t v
goes_on g h = record {
  claimed = h.claimed;
  sheet = h.sheet ∙ g.sheet;
  batch = h.batch ∙ g.batch;
  claims = h.claims ∙ g.claims;
  same_roll = h.same_roll ∙ g.same_roll;
  committed = λ l. h.committed (g.committed l);
  message = λ l. h.message (g.committed l) ∙ g.message l;
}

pub goes_run : (round : ℕ) (xs : List Step) (t : OwnTrace) → 1 < t.now.session.progress.phase → Uncleared xs t.now → Goes round t (own_trace xs t)
unfolding own_trace own_extend
goes_run round [] t late none = goes_none round t late
goes_run round (x ∷ xs) t late (more n u) = let g = goes_step round t late x n in goes_on g (goes_run round xs (own_extend x t) g.claimed u)
