-- A call for tests that hands a sheet's polynomials out. Assumes nothing.
use Rattle.std.specs.Prelude.{not, [], ◌∷◌, ◌++◌, ◌*◌, eqb, length}
use Rattle.codec.specs.Bytes.{Bytes}
use Rattle.codec.specs.Reply.{test, first, leaves, Reply}
use Rattle.sheet.specs.Reader.{sheet_of}
use Rattle.sheet.specs.Sheet.{order, polynomials}

-- the five polynomials, 40N bytes: N is known once the sheet is taken, so an output of another length is 1 after its order
unfoldable pub sheet_polynomials_reply : Bytes → Bytes → Reply
sheet_polynomials_reply text out = first (order text ++ test 1 0 (not (eqb (length out) (40 * (sheet_of text).numbers.ring))) ∷ [])

unfoldable pub sheet_polynomials_out : Bytes → Bytes → Bytes
sheet_polynomials_out text out = leaves (sheet_polynomials_reply text out) (polynomials text) out
