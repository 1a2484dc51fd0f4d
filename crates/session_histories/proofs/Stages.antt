-- How a count goes on, step by step: lists of steps that are taken, and what holds all the way, the sheet and from close on the batch. Assumes nothing.
use mathlib.Core.Path.{◌≡◌, refl, sym, ap, subst, ◌∙◌}
use mathlib.Core.Logic.{◌⊎◌, inl, inr}
use mathlib.Core.List.{List, [], ◌∷◌, ◌++◌}
use Prim.Native.Nat.{ℕ, zero, suc, ◌≤◌, ◌<◌}
use native.Mathlib.Omega.{arith}
use lib.ListN.{length}
use Rattle.codec.specs.Bytes.{Bytes}
use Rattle.codec.specs.Lists.{list}
use Rattle.codec.specs.Reply.{Taken}
use Rattle.sheet.specs.Reader.{sheet_of}
use Rattle.sheet_numbers.specs.declared.Numbers.{Numbers}
use Rattle.round.proofs.Many.{last}
use Rattle.session_digests.specs.Digests.{ballot_digests}
use Rattle.round.specs.Layout.{ballot_length}
use Rattle.session.specs.Machine.{Step, next, reply}
use Rattle.session_histories.specs.Runs.{history_after, roll_after}
use Rattle.session_histories.specs.Internal.{OwnTrace, own_extend, own_trace}
use Rattle.session_histories.proofs.Kept.{Kept, kept_extend}
use Rattle.session_histories.proofs.OwnTurn.{extend_taken}

-- ---- lists of steps

pub trace_append : (xs ys : List Step) (t : OwnTrace) → own_trace (xs ++ ys) t ≡ own_trace ys (own_trace xs t)
unfolding own_trace
trace_append [] ys t = refl
trace_append (x ∷ xs) ys t = trace_append xs ys (own_extend x t)

pub trace_cons : (x : Step) (xs : List Step) (t : OwnTrace) → own_trace (x ∷ xs) t ≡ own_trace xs (own_extend x t)
unfolding own_trace
trace_cons x xs t = refl

pub trace_none : (f : ℕ → Step) (t : OwnTrace) → own_trace (list 0 f) t ≡ t
unfolding list own_trace
trace_none f t = refl

-- one step more
pub trace_next : (n : ℕ) (f : ℕ → Step) (t : OwnTrace) → own_trace (list (suc n) f) t ≡ own_extend (f n) (own_trace (list n f) t)
trace_next n f t = unfold list in (trace_append (list n f) (f n ∷ []) t ∙ (unfold own_trace in refl))

-- what a step that is taken leaves
abbrev pub step_to : Step → OwnTrace → OwnTrace
step_to x t = record { now = next x t.now; history = history_after x t.now t.history; roll = roll_after x t.roll }

pub extend_is : (x : Step) (t : OwnTrace) → reply x t.now ≡ Taken → own_extend x t ≡ step_to x t
extend_is x t e = let z = extend_taken x t e in λ i. record { now = z.0 i; history = z.1 i; roll = z.2 i }

-- step by step
pub up_to : (A : ℕ → Type 0) (m : ℕ) → A 0 → ((n : ℕ) → n < m → A n → A (suc n)) → (n : ℕ) → n ≤ m → A n
up_to A m none more zero l = none
up_to A m none more (suc n) l = more n (omega arith) (up_to A m none more n (omega arith))

-- what holds below n and of n holds below n + 1
pub by_last : (A : ℕ → Type 0) (n i : ℕ) → i < suc n → (i < n → A i) → A n → A i
by_last A n i l below at = go (last n i l)
  where
    go : (i < n) ⊎ (i ≡ n) → A i
    go (inl h) = below h
    go (inr e) = rw e at

-- ---- the session is kept, and its sheet is the first one

module _ (sheet : Bytes) where
  abbrev k : Numbers
  k = (sheet_of sheet).numbers

  pub record On (t : OwnTrace) : Type 0 where
    pub kept : Kept t.now.session t.history
    pub sheet_is : t.history.sheet ≡ sheet

  pub numbers : (t : OwnTrace) → On t → t.now.session.numbers ≡ k
  numbers t o = o.kept.origin.numbers ∙ ap (λ (s : Bytes). (sheet_of s).numbers) o.sheet_is

  -- a step that is taken and no clear
  pub on_next : (x : Step) (t : OwnTrace) → On t → reply x t.now ≡ Taken → (history_after x t.now t.history).sheet ≡ t.history.sheet → On (step_to x t)
  on_next x t o e h = record {
    kept = subst (λ (u : OwnTrace). Kept u.now.session u.history) (extend_is x t e) (kept_extend x t o.kept);
    sheet_is = h ∙ o.sheet_is;
  }

  -- ---- the batch of m ballots was closed

  module _ (m : ℕ) (ballots : Bytes) where
    pub record Closed (t : OwnTrace) : Type 0 where
      pub on_sheet : On t
      pub batched : ballot_digests (ballot_length k.ring) (length t.history.batch) ballots ≡ t.history.batch
      pub count : length t.history.batch ≡ m
      pub closed : t.now.session.progress.closed ≡ m

    -- a step that leaves sheet, batch and closed count
    pub closed_next : (x : Step) (t : OwnTrace) → Closed t → reply x t.now ≡ Taken → (history_after x t.now t.history).sheet ≡ t.history.sheet
        → (history_after x t.now t.history).batch ≡ t.history.batch → (next x t.now).session.progress.closed ≡ t.now.session.progress.closed → Closed (step_to x t)
    closed_next x t o e hs hb hc = record {
      on_sheet = on_next x t o.on_sheet e hs;
      batched = subst (λ (ds : List Bytes). ballot_digests (ballot_length k.ring) (length ds) ballots ≡ ds) (sym hb) o.batched;
      count = ap length hb ∙ o.count;
      closed = hc ∙ o.closed;
    }
