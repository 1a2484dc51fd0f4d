-- The strings that the digests cover, taken in part by part: a first string, then a digest at a time; and how the digests of standing entries and of ballots grow.
-- Assumes nothing.
use mathlib.Core.Path.{◌≡◌, sym, ap, ◌∙◌}
use mathlib.Core.Bool.{Bool, true, false, cond}
use mathlib.Core.List.{List, [], ◌∷◌, ◌++◌, map-append, append-nil, append_assoc, flatten}
use Prim.Native.Nat.{ℕ, ◌+◌, ◌*◌}
use native.Mathlib.Numerals.{add-one}
use lib.Dec.{eqb}
use Rattle.codec.specs.Bytes.{Bytes, part}
use Rattle.sha3.specs.Sponge.{sha3}
use Rattle.hasher.specs.declared.Hasher.{Hasher}
use Rattle.hasher.specs.Internal.{holding, updated, finished}
use Rattle.hasher.proofs.Laws.{taken, finished_holding}
use Rattle.register.specs.Register.{state_at, digest_at, standing, standing_digests}
use Rattle.session_digests.specs.Digests.{ballot_digests, closing_digest}
use Rattle.session_digests.proofs.Laws.{flatten_more}

-- ---- taking in

-- no digest yet
pub none : (lead : Bytes) {h g : Hasher} → h ≡ holding [] → g ≡ updated h lead → g ≡ holding (lead ++ flatten [])
unfolding flatten
none lead e f = taken [] lead e f ∙ ap holding (sym (append-nil lead))

-- one digest more
pub next : (lead : Bytes) (ds : List Bytes) (d : Bytes) {h g : Hasher} → h ≡ holding (lead ++ flatten ds) → g ≡ updated h d → g ≡ holding (lead ++ flatten (ds ++ (d ∷ [])))
next lead ds d e f = taken (lead ++ flatten ds) d e f ∙ ap holding (append_assoc lead (flatten ds) d ∙ ap (λ (u : Bytes). lead ++ u) (sym (flatten_more ds d)))

-- the closing digest
pub closing_done : (lead : Bytes) (ds : List Bytes) {h : Hasher} → h ≡ holding (lead ++ flatten ds) → finished h ≡ closing_digest lead ds
unfolding closing_digest
closing_done lead ds e = ap finished e ∙ finished_holding (lead ++ flatten ds)

-- ---- one entry more

pub standing_more : (reg : Bytes) (i : ℕ) (b : Bool) → eqb (state_at reg i) 1 ≡ b → standing_digests reg (i + 1) ≡ standing_digests reg i ++ cond b (digest_at reg i ∷ []) []
unfolding standing_digests standing
standing_more reg i true e = rw (add-one i, standing, e) (map-append (digest_at reg) (standing reg i) (i ∷ []))
standing_more reg i false e = rw (add-one i, standing, e) (map-append (digest_at reg) (standing reg i) [])

pub ballots_more : (size j : ℕ) (ballots : Bytes) → ballot_digests size (j + 1) ballots ≡ ballot_digests size j ballots ++ (sha3 (part ballots (size * j) size) ∷ [])
unfolding ballot_digests
ballots_more size j ballots = rw (add-one j)
