-- The measure of `untransform`. Assumes nothing.
use Rattle.ring_transform.proofs.Table.+untransform.Given as goal

-- the exponent of two in how many numbers there are
abbrev pub decreases-untransform : goal.decreases-untransform
decreases-untransform l = l.l
