-- A product by transforms leaves one slot of the room zero, and the wiping of the other two makes the whole room zero. Assumes nothing.
use mathlib.Core.Path.{◌≡◌, ap, ap₂, ◌∙◌}
use mathlib.Core.List.{◌++◌}
use Prim.Native.Nat.{ℕ, ◌+◌, ◌-◌, ◌*◌, ◌≤◌}
use native.Mathlib.Omega.{arith}
use lib.ListN.{length, take, drop, length-replicate, replicate-append-replicate}
use Rattle.codec.proofs.Laws.{length_part, length_put, put_append, put_between}
use Rattle.codec.specs.Bytes.{Bytes, put, part, zeros}

zeros_length : (n : ℕ) → length (zeros n) ≡ n
zeros_length n = length-replicate n 0

pub wiped : (n room : ℕ) (d W : Bytes) → room + 24 * n ≤ length d → W ≡ put d room (zeros (8 * n)) → (z : Bytes) → z ≡ zeros (length (part W (room + 8 * n) (room + 24 * n - (room + 8 * n))))
    → take (room + 8 * n) W ++ (z ++ drop (room + 24 * n - (room + 8 * n)) (drop (room + 8 * n) W)) ≡ put d room (zeros (24 * n))
wiped n room d W h e z ez =
    let l : length W ≡ length d = ap length e ∙ length_put d room (zeros (8 * n)) (omega (arith, zeros_length (8 * n))) in
    let k : length (part W (room + 8 * n) (room + 24 * n - (room + 8 * n))) ≡ 16 * n = length_part W (room + 8 * n) (room + 24 * n - (room + 8 * n)) (omega (arith, l)) ∙ omega arith in
    let y : z ≡ zeros (16 * n) = ez ∙ ap zeros k in
    let place : room + 8 * n ≡ room + length (zeros (8 * n)) = omega (arith, zeros_length (8 * n)) in
    let whole : 8 * n + 16 * n ≡ 24 * n = omega arith in
    put_between W z (room + 8 * n) (room + 24 * n) (omega arith) (ap length y ∙ zeros_length (16 * n) ∙ omega arith)
    ∙ ap₂ (λ (x u : Bytes). put x (room + 8 * n) u) e y
    ∙ ap (λ (j : ℕ). put (put d room (zeros (8 * n))) j (zeros (16 * n))) place
    ∙ put_append d room (zeros (8 * n)) (zeros (16 * n)) (omega (arith, zeros_length (8 * n), zeros_length (16 * n)))
    ∙ ap (put d room) (replicate-append-replicate (8 * n) (16 * n) 0 ∙ ap zeros whole)
