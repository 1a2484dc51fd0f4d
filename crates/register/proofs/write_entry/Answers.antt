-- `register::write_entry` meets its contract. Assumes nothing.
use mathlib.Core.Path.{◌≡◌, refl, ap, ◌∙◌}
use mathlib.Core.List.{[], ◌∷◌, ◌++◌}
use Prim.Native.Nat.{ℕ, ◌+◌, ◌*◌, ◌/◌, ◌%◌, ◌≤◌, ◌<◌}
use native.Mathlib.Omega.{arith}
use lib.ListN.{length, length-append}
use Rattle.codec.specs.Bytes.{Bytes, bytes, put}
use Rattle.codec.proofs.Laws.{length_put, put_append}
use Rattle.register.specs.Register as def
use Rattle.register.proofs.write_entry.Goals as goal

-- three writes side by side
three : (d : Bytes) (at : ℕ) (s t u : Bytes) → length s ≡ 4 → length t ≡ 4 → at + 8 + length u ≤ length d
    → put (put (put d at s) (at + 4) t) (at + 8) u ≡ put d at (s ++ (t ++ u))
three d at s t u e f h =
    let k : at + 8 ≡ at + 4 + length t = omega arith in
    let m : at + 4 ≡ at + length s = omega arith in
    let w : length (put d at s) ≡ length d = length_put d at s (omega arith) in
    ap (λ (i : ℕ). put (put (put d at s) (at + 4) t) i u) k ∙ put_append (put d at s) (at + 4) t u (omega arith)
    ∙ ap (λ (i : ℕ). put (put d at s) i (t ++ u)) m ∙ put_append d at s (t ++ u) (simp length-append (omega arith))

-- the state byte and three zeros
state-bytes : (v : ℕ) → v < 256 → bytes 4 v ≡ v ∷ 0 ∷ 0 ∷ 0 ∷ []
unfolding bytes
state-bytes v h =
    let low : v % 256 ≡ v = omega arith in
    let high : v / 256 ≡ 0 = omega arith in
    rw (low, high)

pub returns : goal.returns
unfolding def.appended
returns c =
    let a = c.args in
    rw (c.copy-2.ensures, c.write32.ensures, c.copy.ensures, state-bytes a.state (omega arith))
    (three a.reg.now (40 * a.n) a.mark.now (a.state ∷ 0 ∷ 0 ∷ 0 ∷ []) a.digest.now c.requires.1 refl (omega arith))
