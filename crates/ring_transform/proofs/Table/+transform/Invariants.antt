-- The measure of `transform`. Assumes nothing.
use Rattle.ring_transform.proofs.Table.+transform.Given as goal

-- the exponent of two in how many numbers there are
abbrev pub decreases-transform : goal.decreases-transform
decreases-transform l = l.l
