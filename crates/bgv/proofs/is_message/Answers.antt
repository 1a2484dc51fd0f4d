-- `bgv::is_message` meets its contract. Assumes nothing.
use Rattle.std.proofs.Common.{ℕ, nat_lt, refl, rules}
use Rattle.std.proofs.lemmas.List.Recursion.{and_is}
use Rattle.codec.specs.Lists.{all_below}
use Rattle.bgv.proofs.is_message.Goals as goal

pub returns : goal.returns
unfolding all_below
returns c = and_is (all_below c.args.p) (λ (x : ℕ). nat_lt x c.args.p) refl (λ _ _. refl) c.args.m.now 0 c.all.result (search rules) (search rules)
