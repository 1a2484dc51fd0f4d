-- The numbers of the three digests in what the extractor answers. Assumes nothing.
use Rattle.std.specs.Prelude.{ℕ, Option, None, Some}
use Rattle.round_collision.specs.declared.Digest.{Digest}
use Rattle.round_collision.specs.declared.Digest.TheVariants.{First, Second, Third}

abbrev pub number_of_digest : Digest → ℕ
number_of_digest First = 1
number_of_digest Second = 2
number_of_digest Third = 3

-- 0 if there is none
abbrev pub digest_or_none : Option Digest → ℕ
digest_or_none None = 0
digest_or_none (Some d) = number_of_digest d
