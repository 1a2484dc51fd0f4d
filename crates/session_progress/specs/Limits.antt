-- A known phase, counts within their limits, and numbers that 3 and 4 take (document 01, refusal 31) in plain propositions: no test stands in them. Assumes nothing.
use Rattle.std.specs.Prelude.{◌≤◌}
use Rattle.sheet_numbers.specs.Ranges.{NumbersInRange, NumbersSound}
use Rattle.sheet_numbers.specs.declared.Numbers.{Numbers}
use Rattle.session_progress.specs.declared.Progress.{Progress}

pub record WithinLimits (k : Numbers) (g : Progress) : Type 0 where
  pub phase : g.phase ≤ 5
  pub inside : NumbersInRange k
  pub sound : NumbersSound k
  pub used : g.used ≤ 4096
  pub closed : g.closed ≤ 4096
  pub committed : g.committed ≤ k.rounds
  pub checked : g.checked ≤ k.rounds
