-- The replies of the call, and four words in 32 bytes. Assumes nothing.
use mathlib.Core.Path.{◌≡◌, sym, ap, ◌∙◌}
use mathlib.Core.List.{◌++◌}
use Prim.Native.Nat.{ℕ}
use native.Mathlib.Omega.{arith}
use borrow.Author.Tests.{eq-eqb, ne_eqb}
use lib.ListN.{length, length-append}
use Rattle.codec.specs.Bytes.{Bytes, put}
use Rattle.codec.specs.Reply.{first}
use Rattle.codec.specs.Reply as reply
use Rattle.codec.proofs.Laws.{put_behind, put_whole}
use Rattle.sheet.specs.Sheet.{reading, reply_of, Taken, Refused}
use Rattle.sheet_numbers.specs.declared.Numbers.{Numbers}
use Rattle.sheet.proofs.Taken.{reply_is}
use Rattle.sheet.specs.Calls.{describe_reply}

-- the call that writes N, D, B and L
module _ (text out : Bytes) where
  pub describe_length : (length out ≡ 32 → ⊥) → describe_reply text out ≡ reply.Refused 1 0
  unfolding describe_reply first
  describe_length h = rw (ne_eqb (length out) 32 h)

  module _ (h : length out ≡ 32) where
    -- as the sheet is read
    said : describe_reply text out ≡ reply_of (reading text)
    unfolding describe_reply first
    said = rw (eq-eqb (length out) 32 h) (sym (reply_is text))

    pub describe_refused : {v : ℕ} → reading text ≡ Refused v → describe_reply text out ≡ reply.Refused v 0
    describe_refused e = said ∙ ap reply_of e

    pub describe_taken : {k : Numbers} → reading text ≡ Taken k → describe_reply text out ≡ reply.Taken
    describe_taken e = said ∙ ap reply_of e

-- one more part, after those that were put at the head
pub four_words : (d a b c e : Bytes) → length a ≡ 8 → length b ≡ 8 → length c ≡ 8 → length e ≡ 8 → length d ≡ 32
    → put (put (put (put d 0 a) 8 b) 16 c) 24 e ≡ a ++ b ++ c ++ e
four_words d a b c e ha hb hc he hd =
    let l2 = length-append a b in
    let l3 = length-append (a ++ b) c in
    let l4 = length-append (a ++ b ++ c) e in
    rw (
      put_behind d a b 0 8 (omega arith) (omega arith),
      put_behind d (a ++ b) c 0 16 (omega arith) (omega arith),
      put_behind d (a ++ b ++ c) e 0 24 (omega arith) (omega arith),
    )
    (put_whole d (a ++ b ++ c ++ e) (omega arith))
