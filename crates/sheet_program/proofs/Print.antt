-- A number's digits as `io::decimal` puts them, and lines put one after the other. Assumes nothing.
use mathlib.Core.Path.{◌≡◌, sym, ap, ◌∙◌}
use mathlib.Core.Logic.{⊎_elim}
use mathlib.Core.List.{[], ◌∷◌, ◌++◌, append_assoc}
use Prim.Native.Nat.{ℕ, zero, suc, ◌+◌, ◌*◌, ◌-◌, ◌/◌, ◌%◌, ◌^◌, ◌≤◌, ◌<◌}
use native.Mathlib.Nat.{pow-suc, one-le-pow, pow-le-pow_right}
use native.Mathlib.Omega.{arith}
use borrow.Author.Tests.{lt-ltb}
use lib.ListN.{length, take, length-append}
use Rattle.codec.specs.Bytes.{Bytes, put}
use Rattle.codec.proofs.Laws.{length_put, put_append, part_put, le_or}
use Rattle.io.specs.Counts.{IsPrefixLen}
use Rattle.io.specs.Digits.{last_digits, IsDigitCount}
use Rattle.sheet_lines.specs.Form.{decimal}
use Rattle.sheet_lines.proofs.LineForm.{decimal_small, decimal_large}
use Rattle.sheet_program.specs.Print.{printed_line, Puts}

-- the fewest digits are those of `decimal`
pub fewest : (j k n : ℕ) → k ≤ j → IsDigitCount 10 1 n k → last_digits 10 k n ≡ decimal j n
fewest j zero n l f = absurd (omega (arith, f.0))
fewest zero (suc k) n l f = absurd (omega arith)
fewest (suc j) (suc zero) n l f =
    let h : n < 10 = f.1 in
    let e : n % 10 ≡ n = omega arith in
    rw (e, lt-ltb n 10 h) (sym (decimal_small j n h))
fewest (suc j) (suc (suc k)) n l f =
    let i : suc (suc k) - 1 ≡ suc k = omega arith in
    let g : suc k - 1 ≡ k = omega arith in
    let p : 10 ^ suc k ≤ n = rw i at (f.2 (omega arith)) in
    let q : 10 ^ suc k ≡ 10 ^ k * 10 = pow-suc 10 k in
    let r : 1 ≤ 10 ^ k = one-le-pow k 10 (omega arith) in
    let h : 10 ≤ n = omega arith in
    let u : n / 10 < 10 ^ suc k = omega (arith, pow-suc 10 (suc k), f.1) in
    let m : n % 10 < 10 = omega arith in
    let v : 1 < suc k → 10 ^ (suc k - 1) ≤ n / 10 = λ z. rw g (omega arith) in
    rw (lt-ltb (n % 10) 10 m, decimal_large j n h)
    (ap (λ (s : Bytes). s ++ (48 + n % 10) ∷ []) (fewest j (suc k) (n / 10) (omega arith) (omega arith, u, v)))

-- a number of 64 bits has at most 20 digits
pub few : (k n : ℕ) → n < 2 ^ 64 → IsDigitCount 10 1 n k → k ≤ 20
few k n h f =
    ⊎_elim (λ l. l)
    (λ l.
    let p : 10 ^ 20 ≤ 10 ^ (k - 1) = pow-le-pow_right {n = 10} (omega arith) {i = 20} {j = k - 1} (omega arith) in
    absurd (omega (arith, f.2 (omega arith))))
    (le_or k 20)

-- the three parts of a printed line
pub line_put : (d key ds : Bytes) (at k n : ℕ) → length ds ≡ k → ds ≡ decimal 20 n → at + (length key + 21) ≤ length d → k ≤ 20
    → Puts d at (printed_line key n) (at + length key + k + 1) (put (put (put d at key) (at + length key) ds) (at + length key + k) (10 ∷ []))
unfolding printed_line
line_put d key ds at k n l e h b =
    let m : length (key ++ ds) ≡ length key + k = length-append key ds ∙ omega arith in
    let j : at + length key + k ≡ at + length (key ++ ds) = omega arith in
    let a : length (key ++ (ds ++ 10 ∷ [])) ≡ length key + k + 1 = simp length-append (omega arith) in
    record {
      wrote =
          rw (put_append d at key ds (omega arith), j, put_append d at (key ++ ds) (10 ∷ []) (omega arith), append_assoc key ds (10 ∷ []))
          (ap (λ (s : Bytes). put d at (key ++ (s ++ 10 ∷ []))) e);
      end = rw (← e) (omega arith);
      fits = omega arith;
    }

-- lines one after the other
pub puts_more : {d s t o u : Bytes} {a b : ℕ} → Puts d 0 s a o → Puts o a t b u → b ≤ length d → Puts d 0 (s ++ t) b u
puts_more {d} {s} {t} {o} {u} {a} {b} p q h =
    let e : a ≡ 0 + length s = omega (arith, p.end) in
    record {
      wrote = q.wrote ∙ rw (p.wrote, e) (put_append d 0 s t (omega (arith, p.end, q.end)));
      end = rw (length-append s t) (omega (arith, p.end, q.end));
      fits = h;
    }

-- what stands at the head
pub puts_head : {d t out : Bytes} {r : ℕ} → Puts d 0 t r out → take r out ≡ t
puts_head {d} {t} {out} {r} p =
    let e : r ≡ length t = omega (arith, p.end) in
    rw (e, p.wrote) (part_put d 0 t (omega (arith, p.fits, p.end)))

pub puts_counts : {d t out : Bytes} {r : ℕ} → Puts d 0 t r out → IsPrefixLen r out
puts_counts {d} {t} {out} {r} p =
    let l = ap length p.wrote ∙ length_put d 0 t (omega (arith, p.fits, p.end)) in
    (omega (arith, p.fits), sym (ap length (puts_head p) ∙ omega (arith, p.end)))
