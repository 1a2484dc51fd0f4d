-- The challenges that are drawn so far, in the slice that takes them. Assumes nothing.
use mathlib.Core.Path.{◌≡◌, refl, sym, ◌∙◌}
use mathlib.Core.List.{◌++◌, append-nil, append_assoc}
use Prim.Native.Nat.{ℕ, suc, ◌+◌, ◌%◌, ◌<◌}
use native.Mathlib.Numerals.{add-one}
use lib.ListN.{length, drop, set}
use lib.Seq.{drop-cons, drop-length, set_at}
use Rattle.codec.specs.Bytes.{Bytes}
use Rattle.session_digests.specs.Draw as def
use Rattle.session_digests.proofs.Range.{length_challenges}

-- the first i places are drawn, and the others as they were
module _ (seed : Bytes) (k : ℕ) (out : Bytes) where
  abbrev pub drawn : ℕ → Bytes
  drawn i = def.drawn_challenges seed k i ++ drop i out

  pub drawn_first : out ≡ drawn 0
  unfolding def.drawn_challenges
  drawn_first = refl

  pub drawn_more : (i x : ℕ) → i < length out → x ≡ def.stream seed k (i + 1) % 3 + 1 → set (drawn i) i x ≡ drawn (i + 1)
  unfolding def.drawn_challenges
  drawn_more i x h e =
      let s = def.drawn_challenges seed k i in
      rw (add-one i, drop-cons out i 0 h) (set_at s _ (drop (suc i) out) x i (length_challenges seed k i) ∙ rw (e, add-one i) (sym (append_assoc s _ (drop (suc i) out))))

  pub drawn_all : drawn (length out) ≡ def.drawn_challenges seed k (length out)
  drawn_all = rw (drop-length out) (append-nil (def.drawn_challenges seed k (length out)))
