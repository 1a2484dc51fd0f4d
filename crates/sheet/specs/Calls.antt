-- The sheet as a call (document 01, "Refused because of the state": "Sheet and clear: 1, 2, 3, 4, 5"). Assumes nothing.
use Rattle.std.specs.Prelude.{not, ◌∷◌, ◌++◌, eqb, length}
use Rattle.codec.specs.Bytes.{Bytes, bytes}
use Rattle.codec.specs.Reply.{test, first, leaves, Reply}
use Rattle.sheet_numbers.specs.Bounds.{unknown_count}
use Rattle.sheet_numbers.specs.Plain.{noise_bound_of, mask_bound_of}
use Rattle.sheet.specs.Reader.{sheet_of}
use Rattle.sheet.specs.Sheet.{order}
use Rattle.sheet_numbers.specs.declared.Numbers.{Numbers}

-- N, D, B and L, 8 bytes each
unfoldable pub description : Numbers → Bytes
description k =
    bytes 8 k.ring ++ bytes 8 (noise_bound_of k) ++ bytes 8 (mask_bound_of k) ++ bytes 8 (unknown_count k.ring)

-- 1, 2, 3, 4, 5: an output of another length is 1, as a sheet of wrong length is
unfoldable pub describe_reply : Bytes → Bytes → Reply
describe_reply text out = first (test 1 0 (not (eqb (length out) 32)) ∷ order text)

unfoldable pub describe_out : Bytes → Bytes → Bytes
describe_out text out = leaves (describe_reply text out) (description (sheet_of text).numbers) out
