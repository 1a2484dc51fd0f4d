-- A refusal that `?` hands on is the one that was met. Assumes nothing.
use mathlib.Core.Path.{◌≡◌, ap}
use Rattle.std.proofs.Common.{Result, Ok, Err}
use Rattle.std.specs.Result.{IsErrAnd}
use Rattle.codec.specs.declared.Refusal.{Refusal}

pub handed_on : {A : Type 0} (r : Result A Refusal) {e : Refusal} → IsErrAnd r (λ f. f ≡ e) → r ≡ Err e
handed_on (Ok x) h = absurd h
handed_on (Err f) h = ap Err h
