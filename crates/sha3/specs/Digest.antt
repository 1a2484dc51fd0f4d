-- The plain digest as a call (document 01: refused by 1 only). Assumes nothing.
use Rattle.std.specs.Prelude.{not, [], ◌∷◌, eqb, length}
use Rattle.codec.specs.Bytes.{Bytes}
use Rattle.codec.specs.Reply.{test, first, leaves, Reply}
use Rattle.sha3.specs.Sponge.{sha3}

-- 1: the output is not of 32 bytes
unfoldable pub digest_reply : Bytes → Reply
digest_reply out = first (test 1 0 (not (eqb (length out) 32)) ∷ [])

-- the output after the call
unfoldable pub digest_out : Bytes → Bytes → Bytes
digest_out m out = leaves (digest_reply out) (sha3 m) out
