-- What the register refuses by its entries (document 01, "Refused because of the state"; document 02, L1), in the orders of admit and withdraw: 32 mark standing, 33 mark
-- withdrawn, 35 4,096 entries used. Of several entries with one mark the first decides. Assumes nothing.
use Rattle.std.specs.Prelude.{not, ◌&&◌, List, [], ◌∷◌, ℕ, eqb, ltb}
use Rattle.codec.specs.Bytes.{Bytes}
use Rattle.codec.specs.Reply.{Test, test}
use Rattle.register.specs.Register.{capacity, state_at, find}

module _ (reg : Bytes) (used mark : ℕ) where
  -- a ballot with the mark, after the used entries
  abbrev pub admission_tests : List Test
  admission_tests =
      let i = find reg mark used in
      test 32 0 (ltb i used && eqb (state_at reg i) 1)
      ∷ test 33 0 (ltb i used)
      ∷ test 35 0 (eqb used capacity)
      ∷ []

  -- a withdrawal of the mark; 35 "only for a mark with no entry"
  abbrev pub withdrawal_tests : List Test
  withdrawal_tests =
      let i = find reg mark used in
      test 33 0 (ltb i used && not (eqb (state_at reg i) 1))
      ∷ test 35 0 (not (ltb i used) && eqb used capacity)
      ∷ []
