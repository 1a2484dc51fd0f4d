-- The sheet's polynomials as they are lent on, and what is known of them. Assumes nothing.
use mathlib.Core.Path.{sym, subst}
use Prim.Native.Nat.{◌-◌, ◌*◌}
use lib.ListN.{take, drop}
use Rattle.codec.specs.Bytes.{Bytes}
use Rattle.sheet_numbers.specs.declared.Numbers.{Numbers}
use Rattle.scratch.specs.Internal.{Polynomial}
use Rattle.commitment.specs.Internal.{PublicKeys, Loaded}
use Rattle.commitment.proofs.Cut.{a_cut, b_cut, keys_cut}

module _ (k : Numbers) (s : Bytes) (l : Loaded k s) where
  pub a_lent : Polynomial k.ring k.modulus (take (8 * k.ring - 0) (drop 0 s))
  a_lent = subst (Polynomial k.ring k.modulus) (sym (a_cut k s)) l.a

  pub b_lent : Polynomial k.ring k.modulus (take (16 * k.ring - 8 * k.ring) (drop (8 * k.ring) s))
  b_lent = subst (Polynomial k.ring k.modulus) (sym (b_cut k s)) l.b

  pub keys_lent : PublicKeys k.ring k.modulus (take (40 * k.ring - 16 * k.ring) (drop (16 * k.ring) s))
  keys_lent = subst (PublicKeys k.ring k.modulus) (sym (keys_cut k s)) l.keys
