-- `sha3::pad` meets its contract. Assumes nothing.
use mathlib.Core.Path.{◌∙◌, ap, sym}
use borrow.Author.Rules.{rules}
use native.Mathlib.Omega.{arith}
use Rattle.keccak.specs.Keccak.{StateArray, keccak}
use Rattle.sha3.specs.Absorb.{xor_byte}
use Rattle.sha3.proofs.Padding.{pad_early, pad_late}
use Rattle.sha3.proofs.pad.Goals as goal

pub returns-then-at-lt135 : goal.returns-then-at-lt135
returns-then-at-lt135 c =
    c.permuted.ensures
    ∙ ap keccak (c.xor_byte-then-at-lt135.ensures ∙ ap (λ (s : StateArray). xor_byte s 135 128) c.xor_byte.ensures)
    ∙ sym (pad_early c.args.s c.args.at (search rules))

pub returns-else-at-lt135 : goal.returns-else-at-lt135
returns-else-at-lt135 c =
    c.permuted-else-at-lt135.ensures ∙ ap keccak c.xor_byte-else-at-lt135.ensures ∙ sym (pad_late c.args.s c.args.at (omega arith))
