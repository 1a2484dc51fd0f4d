-- `ring::is_ternary` meets its contract. Assumes nothing.
use Rattle.std.proofs.Common.{ℕ, nat_lt, refl, rules}
use Rattle.std.proofs.lemmas.List.Recursion.{and_is}
use Rattle.codec.specs.Lists.{all_below}
use Rattle.ring.proofs.is_ternary.Goals as goal

pub returns : goal.returns
unfolding all_below
returns c = and_is (all_below 3) (λ (x : ℕ). nat_lt x 3) refl (λ _ _. refl) c.args.t.now 0 c.all.result (search rules) (search rules)
