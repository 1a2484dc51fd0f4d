-- Document 01's sheet on its small ring, with two repetitions, any modulus and any b: its own are 97 and 3, 7, 94, 92. Assumes nothing.
use mathlib.Core.List.{List, [], ◌∷◌}
use Prim.Native.Nat.{ℕ}
use Rattle.codec.specs.Bytes.{Bytes}
use Rattle.sheet.specs.Form.{written}

abbrev pub small_sheet : (modulus : ℕ) (b : List ℕ) → Bytes
small_sheet modulus b = written (record {
  numbers = record { ring = 4; modulus = modulus; drown = 0; rounds = 1; repeats = 2 };
  a = 3 ∷ 5 ∷ 0 ∷ 0 ∷ [];
  b = b;
  k1 = 10 ∷ 0 ∷ 0 ∷ 0 ∷ [];
  k2 = 0 ∷ 20 ∷ 0 ∷ 0 ∷ [];
  k3 = 0 ∷ 0 ∷ 30 ∷ 0 ∷ [];
})
