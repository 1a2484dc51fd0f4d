-- `Session::message_sized` meets its contract. Assumes nothing.
use mathlib.Core.Path.{◌∙◌}
use native.Mathlib.Omega.{arith}
use Rattle.codec.specs.Bytes.{same}
use Rattle.session_progress.proofs.Limits.{within, bounds}
use Rattle.session.proofs.Session.message_sized.Goals as goal

pub overflow_mul-n : goal.overflow_mul-n
overflow_mul-n c = omega (arith, (bounds (within _ _ c.requires)).ring_high)

pub times-share-requires : goal.times-share-requires
times-share-requires c = let w = within _ _ c.requires in (omega (arith, (bounds w).ring_high), w.closed)

pub overflow_mul-front : goal.overflow_mul-front
overflow_mul-front c = omega (arith, (bounds (within _ _ c.requires)).ring_high)

pub overflow_mul-front-2 : goal.overflow_mul-front-2
overflow_mul-front-2 c = omega (arith, (bounds (within _ _ c.requires)).repeats_high)

pub overflow_add-front : goal.overflow_add-front
overflow_add-front c = let b = bounds (within _ _ c.requires) in omega (arith, b.ring_high, b.repeats_high)

pub returns : goal.returns
unfolding same
returns c = c.sized.ensures ∙ rw c.times-share.ensures
