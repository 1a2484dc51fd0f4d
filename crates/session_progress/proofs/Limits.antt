-- What a phase and counts within their limits keep to, that the test of it says so, and what is due. Assumes nothing.
use mathlib.Core.Path.{◌≡◌, sym, ◌∙◌}
use mathlib.Core.Logic.{◌≢◌}
use mathlib.Core.Bool.{Bool, true, false, not, ◌&&◌, and_assoc, and-false}
use Prim.Native.Nat.{ℕ, ◌<◌}
use lib.Dec.{eqb, ltb, leb}
use borrow.Author.Tests.{eq-eqb, ne_eqb, eqb-true, leb-true, ltb-true, not-true}
use Rattle.codec.proofs.Laws.{both}
use Rattle.sheet_numbers.specs.Rules.{outside, unsound}
use Rattle.sheet_numbers.specs.declared.Numbers.{Numbers}
use Rattle.sheet_numbers.specs.Ranges.{NumbersInRange}
use Rattle.sheet_numbers.proofs.Ranges.{range_exactly, sound_exactly}
use Rattle.session_progress.specs.Progress.{in_limits}
use Rattle.session_progress.specs.Limits.{WithinLimits}
use Rattle.session_progress.specs.declared.Progress.{Progress}

module _ (k : Numbers) (g : Progress) where
  pub within : in_limits k g ≡ true → WithinLimits k g
  unfolding in_limits
  within e =
      let a = both (leb g.phase 5) _ e in
      let b = both (not (outside k)) _ a.1 in
      let c = both (not (unsound k)) _ b.1 in
      let d = both (leb g.used 4096) _ c.1 in
      let f = both (leb g.closed 4096) _ d.1 in
      let h = both (leb g.committed k.rounds) _ f.1 in
      record {
        phase = leb-true _ _ a.0;
        inside = (range_exactly k).0 (not-true _ b.0);
        sound = (sound_exactly k).0 (not-true _ c.0);
        used = leb-true _ _ d.0;
        closed = leb-true _ _ f.0;
        committed = leb-true _ _ h.0;
        checked = leb-true _ _ h.1;
      }

  -- within the limits, and one thing more
  pub within_due : (more : Bool) → (in_limits k g && more) ≡ true → WithinLimits k g
  within_due more e = within (both (in_limits k g) more e).0

-- the numbers
pub bounds : {k : Numbers} {g : Progress} → WithinLimits k g → NumbersInRange k
bounds w = w.inside

-- ---- the test of 31: within the limits, in the phase, and one thing more

module _ (k : Numbers) (g : Progress) (phase : ℕ) (more : Bool) where
  pub wrong_phase : (in_limits k g && eqb g.phase phase) ≡ false → (in_limits k g && (eqb g.phase phase && more)) ≡ false
  wrong_phase e = sym (and_assoc (in_limits k g) (eqb g.phase phase) more) ∙ rw e

  pub wrong_turn : more ≡ false → (in_limits k g && (eqb g.phase phase && more)) ≡ false
  wrong_turn e = rw (e, and-false (eqb g.phase phase), and-false (in_limits k g))

  pub due : (in_limits k g && eqb g.phase phase) ≡ true → (in_limits k g && (eqb g.phase phase && more)) ≡ more
  due e = sym (and_assoc (in_limits k g) (eqb g.phase phase) more) ∙ rw e

-- the round that is due, of those counted so far
module _ (k : Numbers) (g : Progress) (phase count round : ℕ) where
  abbrev next : Bool
  next = eqb round count && ltb round k.rounds

  pub round_early : (in_limits k g && eqb g.phase phase) ≡ false → false ≡ (in_limits k g && (eqb g.phase phase && next))
  round_early e = sym (wrong_phase k g phase next e)

  pub round_other : round ≢ count → false ≡ (in_limits k g && (eqb g.phase phase && next))
  round_other h = sym (wrong_turn k g phase next (rw (ne_eqb round count h)))

  pub round_due : (in_limits k g && eqb g.phase phase) ≡ true → round ≡ count → ltb round k.rounds ≡ (in_limits k g && (eqb g.phase phase && next))
  round_due e h = sym (due k g phase next e ∙ rw (eq-eqb round count h))

-- what is known where a round is due
pub round_known : (k : Numbers) (g : Progress) (phase count round : ℕ) → (in_limits k g && (eqb g.phase phase && (eqb round count && ltb round k.rounds))) ≡ true
    → (g.phase ≡ phase) × ((round ≡ count) × (round < k.rounds))
round_known k g phase count round e =
    let a = both (eqb g.phase phase) _ (both (in_limits k g) _ e).1 in
    let b = both (eqb round count) (ltb round k.rounds) a.1 in
    (eqb-true g.phase phase a.0, (eqb-true round count b.0, ltb-true round k.rounds b.1))
