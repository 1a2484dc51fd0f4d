-- The phase and the counts of a session (document 01, "Register and session"): the phases, the limits that 31 holds them to, what is due in which phase, and how each step moves
-- them. Assumes nothing.
use Rattle.std.specs.Prelude.{Bool, not, cond, ◌&&◌, ℕ, ◌+◌, eqb, ltb, leb}
use Rattle.sheet_numbers.specs.Rules.{outside, unsound}
use Rattle.sheet_numbers.specs.declared.Numbers.{Numbers}
use Rattle.register.specs.Register.{capacity}
use Rattle.session_progress.specs.declared.Progress.{Progress}

-- ---- the phases, as the phase byte has them; above them it is unknown

abbrev pub gathering : ℕ
gathering = 0

abbrev pub closed : ℕ
closed = 1

abbrev pub claimed : ℕ
claimed = 2

abbrev pub drawn : ℕ
drawn = 3

abbrev pub ended_refused : ℕ
ended_refused = 4

abbrev pub ended_accepted : ℕ
ended_accepted = 5

-- a known phase, counts within their limits, and numbers that 3 and 4 take
unfoldable pub in_limits : Numbers → Progress → Bool
in_limits k g =
    leb g.phase 5
    && (not (outside k)
    && (not (unsound k)
    && (leb g.used capacity
    && (leb g.closed capacity
    && (leb g.committed k.rounds
    && leb g.checked k.rounds)))))

-- ---- what is due

-- rounds are committed in order
abbrev pub commit_due : Numbers → Progress → (round : ℕ) → Bool
commit_due k g round = eqb g.phase claimed && (eqb round g.committed && ltb round k.rounds)

-- a seed is drawn once all rounds are committed
abbrev pub draw_due : Numbers → Progress → Bool
draw_due k g = eqb g.phase claimed && eqb g.committed k.rounds

-- rounds are checked in order
abbrev pub check_due : Numbers → Progress → (round : ℕ) → Bool
check_due k g round = eqb g.phase drawn && (eqb round g.checked && ltb round k.rounds)

-- challenges are told from draw on, for any round of the session
abbrev pub challenges_due : Numbers → Progress → (round : ℕ) → Bool
challenges_due k g round = leb drawn g.phase && ltb round k.rounds

-- ---- how a step that is taken moves them

-- clear
abbrev pub initial : Progress
initial = record { phase = gathering; used = 0; closed = 0; committed = 0; checked = 0 }

-- admit, and a withdrawal of a mark that has no entry: one entry more
abbrev pub with_entry : Progress → Progress
with_entry g = record { phase = g.phase; used = g.used + 1; closed = g.closed; committed = g.committed; checked = g.checked }

-- close
abbrev pub with_batch : (ballots : ℕ) → Progress → Progress
with_batch ballots g = record { phase = closed; used = g.used; closed = ballots; committed = g.committed; checked = g.checked }

-- claim
abbrev pub with_claims : Progress → Progress
with_claims g = record { phase = claimed; used = g.used; closed = g.closed; committed = g.committed; checked = g.checked }

-- commit: one round more
abbrev pub with_message : Progress → Progress
with_message g = record { phase = g.phase; used = g.used; closed = g.closed; committed = g.committed + 1; checked = g.checked }

-- draw
abbrev pub with_seed : Progress → Progress
with_seed g = record { phase = drawn; used = g.used; closed = g.closed; committed = g.committed; checked = g.checked }

-- check: a round that is refused ends the session refused
abbrev pub with_refusal : Progress → Progress
with_refusal g = record { phase = ended_refused; used = g.used; closed = g.closed; committed = g.committed; checked = g.checked }

-- and the last acceptance ends it accepted
abbrev pub with_acceptance : (rounds : ℕ) → Progress → Progress
with_acceptance rounds g = record {
  phase = cond (eqb (g.checked + 1) rounds) ended_accepted drawn;
  used = g.used;
  closed = g.closed;
  committed = g.committed;
  checked = g.checked + 1;
}
