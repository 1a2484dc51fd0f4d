-- Two writes that do not meet may be done in either order. Assumes nothing.
use mathlib.Core.Path.{◌≡◌, sym, ap, ap₂, ◌∙◌}
use mathlib.Core.List.{◌++◌}
use Prim.Native.Nat.{ℕ, ◌+◌, ◌-◌, ◌≤◌}
use native.Mathlib.Omega.{arith}
use lib.ListN.{length, take, drop, take-append-drop}
use lib.Seq.{length-take-le, take-append-add, take-take, drop_at, drop-drop}
use Rattle.codec.specs.Bytes.{Bytes, put}
use Rattle.codec.proofs.Laws.{drop_take, length_put, before_put, drop_put}

halves_equal : (m : ℕ) (s t : Bytes) → take m s ≡ take m t → drop m s ≡ drop m t → s ≡ t
halves_equal m s t e f = sym (take-append-drop m s) ∙ ap₂ (λ (x y : Bytes). x ++ y) e f ∙ take-append-drop m t

rest_of_take : (m a : ℕ) (x : Bytes) → m ≤ a → drop m (take a x) ≡ take (a - m) (drop m x)
rest_of_take m a x h =
    let e : a ≡ m + (a - m) = omega arith in
    ap (λ (k : ℕ). drop m (take k x)) e ∙ drop_take m (a - m) x

-- before a place, only what is written before it counts
take_put_within : (a b : ℕ) (t x : Bytes) → b + length t ≤ a → a ≤ length x → take a (put x b t) ≡ put (take a x) b t
unfolding put
take_put_within a b t x h l =
    let m = b + length t in
    let j : length (take b x) ≡ b = length-take-le b x (omega arith) in
    let e : a ≡ length (take b x) + (length t + (a - m)) = omega arith in
    ap (λ (n : ℕ). take n (take b x ++ (t ++ drop m x))) e ∙ take-append-add (take b x) (t ++ drop m x) (length t + (a - m))
    ∙ ap₂ (λ (u v : Bytes). u ++ v) (sym (take-take b a x (omega arith))) (take-append-add t (drop m x) (a - m) ∙ ap (λ (v : Bytes). t ++ v) (sym (rest_of_take m a x h)))

-- behind what is written nothing changes
drop_put_beyond : (m b : ℕ) (t x : Bytes) → b + length t ≤ m → b + length t ≤ length x → drop m (put x b t) ≡ drop m x
drop_put_beyond m b t x h l =
    let r = m - (b + length t) in
    let e : m ≡ b + length t + r = omega arith in
    ap (λ (n : ℕ). drop n (put x b t)) e ∙ sym (drop-drop r (b + length t) (put x b t)) ∙ ap (drop r) (drop_put x b t l) ∙ drop-drop r (b + length t) x
    ∙ ap (λ (n : ℕ). drop n x) (sym e)

from_put : (a : ℕ) (s x : Bytes) → a + length s ≤ length x → drop a (put x a s) ≡ s ++ drop (a + length s) x
unfolding put
from_put a s x h = drop_at (take a x) (s ++ drop (a + length s) x) a (length-take-le a x (omega arith))

-- they may be done in either order
pub put_comm : (d : Bytes) (a : ℕ) (s : Bytes) (b : ℕ) (t : Bytes) → b + length t ≤ a → a + length s ≤ length d → put (put d a s) b t ≡ put (put d b t) a s
put_comm d a s b t h l =
    let k : length (put d a s) ≡ length d = length_put d a s l in
    let j : length (put d b t) ≡ length d = length_put d b t (omega arith) in
    halves_equal a (put (put d a s) b t) (put (put d b t) a s)
    (take_put_within a b t (put d a s) h (omega arith) ∙ ap (λ (x : Bytes). put x b t) (before_put d a s l)
    ∙ sym (take_put_within a b t d h (omega arith)) ∙ sym (before_put (put d b t) a s (omega arith)))
    (drop_put_beyond a b t (put d a s) h (omega arith) ∙ from_put a s d l ∙ ap (λ (x : Bytes). s ++ x) (sym (drop_put_beyond (a + length s) b t d (omega arith) (omega arith)))
    ∙ sym (from_put a s (put d b t) (omega arith)))
