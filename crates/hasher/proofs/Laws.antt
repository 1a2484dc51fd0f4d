-- What a hasher has taken in: parts of a message are as the whole of it, and the digest is that of the whole. Assumes nothing.
use mathlib.Core.Path.{◌≡◌, refl, sym, ap, ap₂, ◌∙◌}
use Prim.Native.Nat.{ℕ, ◌+◌, ◌%◌}
use mathlib.Core.List.{[], ◌++◌}
use native.Mathlib.Omega.{arith}
use lib.ListN.{length, length-append}
use Rattle.codec.specs.Bytes.{Bytes}
use Rattle.sha3.specs.Absorb.{absorb, zero_state}
use Rattle.sha3.proofs.Absorbing.{absorb_append}
use Rattle.sha3.specs.Sponge.{padding, squeeze, sha3}
use Rattle.sha3.proofs.Parts.{done}
use Rattle.hasher.specs.declared.Hasher.{Hasher}
use Rattle.hasher.specs.Internal.{made, holding, updated, finished}

-- two parts, of any hasher
pub updated_append : (h : Hasher) (a b : Bytes) → updated (updated h a) b ≡ updated h (a ++ b)
unfolding updated
updated_append h a b =
    let l : length (a ++ b) ≡ length a + length b = length-append a b in
    ap₂ made
    (ap (λ (p : ℕ). absorb (absorb h.state (h.place % 136) a) p b) (omega arith) ∙ sym (absorb_append a b h.state (h.place % 136) (omega arith)))
    (omega arith)

-- a first part
first_part : (m : Bytes) → updated (holding []) m ≡ holding m
unfolding updated holding absorb
first_part m = ap (made (absorb zero_state 0 m)) (omega arith)

-- one part more
pub updated_holding : (m b : Bytes) → updated (holding m) b ≡ holding (m ++ b)
updated_holding m b = ap (λ (h : Hasher). updated h b) (sym (first_part m)) ∙ updated_append (holding []) m b ∙ first_part (m ++ b)

-- the same of what a call left
pub taken : {h g : Hasher} (m b : Bytes) → h ≡ holding m → g ≡ updated h b → g ≡ holding (m ++ b)
taken m b e f = f ∙ ap (λ (h : Hasher). updated h b) e ∙ updated_holding m b

-- the digest
pub finished_holding : (m : Bytes) → finished (holding m) ≡ sha3 m
unfolding finished holding
finished_holding m =
    ap (λ (p : ℕ). squeeze (absorb (absorb zero_state 0 m) p (padding p))) (omega arith)
    ∙ done (absorb zero_state 0 m) (length m % 136) m (record { state = refl; place = refl })

-- the digest of four parts
pub four_parts : (a b c d : Bytes) → finished (updated (updated (updated (updated (holding []) a) b) c) d) ≡ sha3 (a ++ (b ++ (c ++ d)))
four_parts a b c d =
    ap finished
    (updated_append (updated (updated (holding []) a) b) c d ∙ updated_append (updated (holding []) a) b (c ++ d) ∙ updated_append (holding []) a (b ++ (c ++ d))
    ∙ first_part (a ++ (b ++ (c ++ d))))
    ∙ finished_holding (a ++ (b ++ (c ++ d)))
