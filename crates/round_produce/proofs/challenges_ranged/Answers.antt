-- `round_produce::challenges_ranged` meets its contract. Assumes nothing.
use mathlib.Core.Path.{◌≡◌, refl, sym, ap, ◌∙◌}
use mathlib.Core.Bool.{Bool, ◌&&◌}
use mathlib.Core.List.{List}
use Prim.Native.Nat.{ℕ, zero, suc, ◌≤◌}
use native.Mathlib.Numerals.{add-one}
use native.Mathlib.Omega.{arith}
use lib.ListN.{length, take, get_or}
use lib.Seq.{take_all}
use Rattle.std.proofs.Common.{rules, tests}
use Rattle.std.proofs.lemmas.Iterator.{YieldsList-from_slice}
use Rattle.std.proofs.lemmas.Iterator.Search.{all_from_yields_List}
use Rattle.std.proofs.lemmas.List.Folds.{list_all_more}
use Rattle.std.specs.List.{list_all}
use Rattle.codec.specs.Lists.{all}
use Rattle.round.specs.Round.{is_challenge}
use Rattle.round_produce.proofs.challenges_ranged.Goals as goal

-- the first n of a list, one after the other and by their places
by_place : (p : ℕ → Bool) (xs : List ℕ) (n : ℕ) → n ≤ length xs → list_all p (take n xs) ≡ all n (λ i. p (get_or xs i 0))
unfolding all
by_place p xs zero h = refl
by_place p xs (suc n) h =
    ap (λ (k : ℕ). list_all p (take k xs)) (sym (add-one n)) ∙ list_all_more p xs n 0 (omega arith)
    ∙ ap (λ (b : Bool). b && p (get_or xs n 0)) (by_place p xs n (omega arith))

pub returns : goal.returns
returns c =
    let xs = c.args.challenges.now in
    all_from_yields_List is_challenge _ _ _ c.all.ensures.ran (YieldsList-from_slice xs (cc)) (λ x b q k. search (rules, tests))
    ∙ ap (list_all is_challenge) (sym (take_all (length xs) xs (omega arith))) ∙ by_place is_challenge xs (length xs) (omega arith)
