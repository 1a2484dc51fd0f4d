-- What the extractor's call answers and leaves, by the reply of its tests. Assumes nothing.
use mathlib.Core.Path.{◌≡◌, sym, ap, ◌∙◌}
use Prim.Native.Nat.{ℕ}
use lib.ListN.{length}
use Rattle.codec.specs.Bytes.{Bytes, zeros}
use Rattle.codec.specs.Reply.{first, Reply}
use Rattle.codec.specs.Reply as reply
use Rattle.scratch.specs.Call.{zeroized}
use Rattle.scratch.proofs.Zeroizing.{zeroized_taken, leaves_taken, leaves_refused}
use Rattle.commitment.specs.Parameters.{Parameters}
use Rattle.round.specs.Extractor.{Openings, ExtractRoom, extract_room, kind, extracted}
use Rattle.round.proofs.Wiped.{again}
use Rattle.round_lengths.specs.Calls.{count_of, openings_tests}
use Rattle.round_extract.specs.Extraction.{Found, Refused, extraction}
use Rattle.round_extract.specs.Internal.{ExtractWritten}

extraction_found : (r : Reply) {k k' : ℕ} → r ≡ reply.Taken → k ≡ k' → Found k ≡ extraction r k'
unfolding extraction
extraction_found r e f = rw e (ap Found f)

extraction_refused : (r : Reply) (n p k : ℕ) → r ≡ reply.Refused n p → Refused n p ≡ extraction r k
unfolding extraction
extraction_refused r n p k e = rw e

module _ (P : Parameters) (x : Openings) (before : ExtractRoom) {r : Reply} {w : Bytes} (is : r ≡ first (openings_tests P x before)) (left : w ≡ zeroized r before.scratch) where
  abbrev m : ℕ
  m = count_of P.N x.ballots

  -- scratch where the tests take what is lent
  cleared : r ≡ reply.Taken → w ≡ zeros (length before.scratch)
  cleared e = left ∙ zeroized_taken r before.scratch e

  pub extract_taken : {found : ℕ} {out w' : Bytes} → r ≡ reply.Taken → found ≡ kind P m x → out ≡ extracted P m x → w' ≡ zeros (length w)
      → ExtractWritten P x before (Found found) (extract_room out w')
  extract_taken e f o z =
      let t = sym is ∙ e in
      record { told = extraction_found _ t f; out = o ∙ leaves_taken _ _ t; scratch = again (length before.scratch) (cleared e) z ∙ sym (zeroized_taken _ before.scratch t) }

  pub extract_refused : {n p : ℕ} → r ≡ reply.Refused n p → ExtractWritten P x before (Refused n p) (extract_room before.out w)
  extract_refused {n} {p} e =
      let t = sym is ∙ e in
      record { told = extraction_refused _ n p _ t; out = leaves_refused _ _ _ _ t; scratch = left ∙ ap (λ (z : Reply). zeroized z before.scratch) is }
