-- Document 01, "Small ring, by hand": A to J, which are the scheme's, and K, which is the register's, as one list. Assumes nothing.
use Rattle.std.specs.Prelude.{◌≡◌, refl, List, [], ◌∷◌, ◌++◌, map, pos}
use Rattle.std.proofs.Common.{sym, ap₂, ◌∙◌}
use Rattle.std.proofs.lemmas.List.{map-append}
use Rattle.codec.specs.Bytes.{Bytes, zeros}
use Rattle.bgv.specs.Examples.{Example, comparisons, examples}
use Rattle.register.specs.Register.{state_at, standing, thousandths, turnout}

-- two entries, of which the second is withdrawn
abbrev two_entries : Bytes
two_entries = zeros 4 ++ (1 ∷ zeros 39) ++ (2 ∷ zeros 35)

abbrev comparison_K : Example
comparison_K = record { got = pos (thousandths 1 16) ∷ pos (turnout two_entries 2 16) ∷ []; said = pos 63 ∷ pos 63 ∷ [] }

pub all_comparisons : List Example
all_comparisons = comparisons ++ (comparison_K ∷ [])

fact_K : map (λ (x : Example). x.got) (comparison_K ∷ []) ≡ map (λ (x : Example). x.said) (comparison_K ∷ [])
unfolding state_at standing thousandths turnout
fact_K = refl

-- each row is as the paper says
pub all_examples : map (λ (x : Example). x.got) all_comparisons ≡ map (λ (x : Example). x.said) all_comparisons
unfolding all_comparisons
all_examples = map-append _ comparisons (comparison_K ∷ []) ∙ ap₂ ◌++◌ examples fact_K ∙ sym (map-append _ comparisons (comparison_K ∷ []))
