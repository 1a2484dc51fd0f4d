-- Numbers and lines of a sheet: what is written is read, and what is read is as it is written. Assumes nothing.
use mathlib.Core.Path.{◌≡◌, refl, sym, ap, ◌∙◌}
use mathlib.Core.Logic.{⊎_elim}
use mathlib.Core.Bool.{Bool, true, false, cond}
use mathlib.Core.List.{List, [], ◌∷◌, ◌++◌, append_assoc}
use Prim.Native.Nat.{ℕ, zero, suc, ◌+◌, ◌*◌, ◌/◌, ◌%◌, ◌^◌, ◌≤◌, ◌<◌}
use native.Mathlib.Nat.{pow-suc}
use native.Mathlib.Omega.{arith}
use borrow.Author.Tests.{le-ltb, lt-ltb, eq-eqb, eqb-true}
use lib.Dec.{eqb}
use lib.ListN.{length}
use lib.Seq.{append_snoc}
use Rattle.codec.specs.Bytes.{Bytes}
use Rattle.sheet_lines.specs.Form.{decimal, listed, lines, Plain, AllPlain}
use Rattle.sheet_lines.specs.Reader.{digit, Place, fresh, within, LineFound, missing, found, values, line, Block, broken, block, preceded_by, onward, rows}
use Rattle.codec.proofs.Laws.{le_or}
use Rattle.sheet_lines.proofs.Steps.{same_or, never_found, digit_is, digit_of, begins, no_number, grows, leading_zero, too_long, comma, ends, neither}

-- ---- decimals

pub decimal_small : (k v : ℕ) → v < 10 → decimal (suc k) v ≡ (48 + v) ∷ []
unfolding decimal
decimal_small k v h = rw (lt-ltb v 10 h)

pub decimal_large : (k v : ℕ) → 10 ≤ v → decimal (suc k) v ≡ decimal k (v / 10) ++ (48 + v % 10) ∷ []
unfolding decimal
decimal_large k v h = rw (le-ltb v 10 h)

-- more room changes nothing
enough : (k v : ℕ) → v < 10 ^ suc k → decimal (suc (suc k)) v ≡ decimal (suc k) v
enough zero v h = decimal_small 1 v h ∙ sym (decimal_small 0 v h)
enough (suc j) v h =
    ⊎_elim
    (λ l.
    let r : v / 10 < 10 ^ suc j = omega (arith, rw (pow-suc 10 (suc j)) at h) in
    decimal_large (suc (suc j)) v l ∙ ap (λ (s : Bytes). s ++ (48 + v % 10) ∷ []) (enough j (v / 10) r) ∙ sym (decimal_large (suc j) v l))
    (λ l. decimal_small (suc (suc j)) v l ∙ sym (decimal_small (suc j) v l))
    (le_or 10 v)

-- one more digit
decimal_more : (v d : ℕ) → (v ≡ 0 → ⊥) → v < 10 ^ 16 → d < 10 → decimal 17 (10 * v + d) ≡ decimal 17 v ++ (48 + d) ∷ []
decimal_more v d z h l =
    let q : (10 * v + d) / 10 ≡ v = omega arith in
    let m : (10 * v + d) % 10 ≡ d = omega arith in
    decimal_large 16 (10 * v + d) (omega arith) ∙ rw (q, m, enough 15 v h)

-- ---- lines as they are written are read

module _ (xs : List ℕ) where
  read_digit : (k v : ℕ) (t : Bytes) → v < 10 → values xs fresh (decimal (suc k) v ++ t) ≡ values xs (within v) t
  read_digit k v t l =
      let e = digit_of v l in
      rw (decimal_small k v l) (begins xs (48 + v) t (rw e l) ∙ rw e)

  -- the last digit of more
  read_next : (v : ℕ) (s t : Bytes) → 10 ≤ v → v < 10 ^ 17 → values xs fresh (s ++ (48 + v % 10) ∷ t) ≡ values xs (within (v / 10)) ((48 + v % 10) ∷ t)
      → values xs fresh ((s ++ (48 + v % 10) ∷ []) ++ t) ≡ values xs (within v) t
  read_next v s t l h e =
      let d = digit_of (v % 10) (omega arith) in
      let w : 10 * (v / 10) + v % 10 ≡ v = omega arith in
      rw (append_snoc s (48 + v % 10) t)
      (e ∙ grows xs (48 + v % 10) t (v / 10) (rw d (omega arith)) (λ z. omega arith) (omega arith) ∙ rw (d, w))

  read_decimal : (k v : ℕ) (t : Bytes) → v < 10 ^ suc k → v < 10 ^ 17 → values xs fresh (decimal (suc k) v ++ t) ≡ values xs (within v) t
  read_decimal zero v t h s = read_digit 0 v t h
  read_decimal (suc j) v t h s =
      let r : v / 10 < 10 ^ suc j = omega (arith, rw (pow-suc 10 (suc j)) at h) in
      let q : v / 10 < 10 ^ 17 = omega arith in
      ⊎_elim (λ l. rw (decimal_large (suc j) v l) (read_next v (decimal (suc j) (v / 10)) t l s (read_decimal j (v / 10) ((48 + v % 10) ∷ t) r q)))
      (read_digit (suc j) v t)
      (le_or 10 v)

not_digit : (10 ≤ digit 10) × (10 ≤ digit 44)
unfolding digit
not_digit = (omega arith, omega arith)

read_listed : (xs vs : List ℕ) (t : Bytes) → Plain vs → values xs fresh (listed vs ++ 10 ∷ t) ≡ found (xs ++ vs) t
unfolding listed
read_listed xs [] t p = absurd p
read_listed xs (v ∷ []) t p = read_decimal xs 16 v (10 ∷ t) p p ∙ ends xs 10 t v not_digit.0 refl
read_listed xs (v ∷ w ∷ vs) t p =
    rw (append_assoc (decimal 17 v) (44 ∷ listed (w ∷ vs)) (10 ∷ t))
    (read_decimal xs 16 v (44 ∷ (listed (w ∷ vs) ++ 10 ∷ t)) p.0 p.0
    ∙ comma xs 44 (listed (w ∷ vs) ++ 10 ∷ t) v not_digit.1 refl
    ∙ read_listed (xs ++ v ∷ []) (w ∷ vs) t p.1
    ∙ ap (λ (l : List ℕ). found l t) (append_snoc xs v (w ∷ vs)))

read_key : (key t : Bytes) → line key (key ++ t) ≡ values [] fresh t
unfolding line
read_key [] t = refl
read_key (k ∷ ks) t = rw (eq-eqb k k refl) (read_key ks t)

pub read_lines : (ks : List Bytes) (rs : List (List ℕ)) (t : Bytes) → length rs ≡ length ks → AllPlain rs → rows ks (lines ks rs ++ t) ≡ block rs t
unfolding rows lines
read_lines [] [] t e p = refl
read_lines [] (r ∷ rs) t e p = absurd (omega arith)
read_lines (k ∷ ks) [] t e p = absurd (omega arith)
read_lines (k ∷ ks) (r ∷ rs) t e p =
    rw (
      append_assoc k (listed r ++ 10 ∷ lines ks rs) t,
      append_assoc (listed r) (10 ∷ lines ks rs) t,
      read_key k (listed r ++ 10 ∷ (lines ks rs ++ t)),
      read_listed [] r (lines ks rs ++ t) p.0,
      read_lines ks rs t (omega arith) p.1,
    )

-- ---- lines that are read are as they are written

-- w is the text of the numbers that ys has after xs, LF, and r
record Split (xs : List ℕ) (w : Bytes) (ys : List ℕ) (r : Bytes) : Type 0 where
  zs : List ℕ
  more_of : ys ≡ xs ++ zs
  is : w ≡ listed zs ++ 10 ∷ r
  plain : Plain zs

-- what was read of a number that is not at its end
data Before : Place → Bytes → Type 0 where
  nothing : Before fresh []
  begun : {v : ℕ} {s : Bytes} → v < 10 ^ 17 → s ≡ decimal 17 v → Before (within v) s

pub no_more : (xs : List ℕ) (p : Place) → values xs p [] ≡ missing
unfolding values
no_more xs p = refl

listed_cons : (v : ℕ) (zs : List ℕ) → v < 10 ^ 17 → Plain zs → (listed (v ∷ zs) ≡ decimal 17 v ++ 44 ∷ listed zs) × Plain (v ∷ zs)
unfolding listed
listed_cons v [] h p = absurd p
listed_cons v (z ∷ zs) h p = (refl, (h, p))

listed_one : (v : ℕ) → listed (v ∷ []) ≡ decimal 17 v
unfolding listed
listed_one v = refl

after_comma : {xs ys : List ℕ} {t r s : Bytes} {v : ℕ} → v < 10 ^ 17 → s ≡ decimal 17 v → Split (xs ++ v ∷ []) t ys r → Split xs (s ++ 44 ∷ t) ys r
after_comma {xs} {ys} {t} {r} {s} {v} h e q =
    let l = listed_cons v q.zs h q.plain in
    record {
      zs = v ∷ q.zs;
      more_of = q.more_of ∙ append_snoc xs v q.zs;
      is = rw (l.0, e, q.is) (sym (append_assoc (decimal 17 v) (44 ∷ listed q.zs) (10 ∷ r)));
      plain = l.1;
    }

at_end : {xs ys : List ℕ} {t r s : Bytes} {v : ℕ} → v < 10 ^ 17 → s ≡ decimal 17 v → found (xs ++ v ∷ []) t ≡ found ys r → Split xs (s ++ 10 ∷ t) ys r
at_end {xs} {ys} {t} {r} {s} {v} h e f =
    let g : t ≡ r = cc in
    record { zs = v ∷ []; more_of = cc; is = rw (listed_one v, e, g); plain = h }

spelled : (xs : List ℕ) (p : Place) (t s : Bytes) {ys : List ℕ} {r : Bytes} → Before p s → values xs p t ≡ found ys r → Split xs (s ++ t) ys r
spelled xs p [] s b e = never_found (sym (no_more xs p) ∙ e)
spelled xs fresh (c ∷ t) s nothing e =
    ⊎_elim (λ h. never_found (sym (no_number xs c t h) ∙ e))
    (λ h.
    let d : c ≡ 48 + digit c = digit_is c h in
    spelled xs (within (digit c)) t (c ∷ []) (begun (omega arith) (ap (λ (x : ℕ). x ∷ []) d ∙ sym (decimal_small 16 (digit c) h))) (sym (begins xs c t h) ∙ e))
    (le_or 10 (digit c))
spelled xs (within v) (c ∷ t) s {ys} {r} (begun l b) e =
    ⊎_elim
    (λ h.
    ⊎_elim (λ q. rw q (after_comma l b (spelled (xs ++ v ∷ []) fresh t [] nothing (sym (comma xs c t v h q) ∙ e))))
    (λ q.
    ⊎_elim (λ n. rw n (at_end l b (sym (ends xs c t v h n) ∙ e)))
    (λ n. never_found (sym (neither xs c t v h n q) ∙ e))
    (same_or c 10))
    (same_or c 44))
    (λ h.
    ⊎_elim (λ z. never_found (sym (leading_zero xs c t v h z) ∙ e))
    (λ z.
    ⊎_elim (λ m. never_found (sym (too_long xs c t v h z m) ∙ e))
    (λ m.
    let d : c ≡ 48 + digit c = digit_is c h in
    let k : s ++ c ∷ [] ≡ decimal 17 (10 * v + digit c) = rw b (ap (λ (x : ℕ). decimal 17 v ++ x ∷ []) d ∙ sym (decimal_more v (digit c) z m h)) in
    rw (append_snoc s c t) at
    (spelled xs (within (10 * v + digit c)) t (s ++ c ∷ []) (begun (omega arith) k) (sym (grows xs c t v h z m) ∙ e)))
    (le_or (10 ^ 16) v))
    (same_or v 0))
    (le_or 10 (digit c))

-- a line that is there is its key, its numbers, LF, and the rest
record Keyed (key t : Bytes) (ys : List ℕ) (r : Bytes) : Type 0 where
  is : t ≡ key ++ (listed ys ++ 10 ∷ r)
  plain : Plain ys

keyed : (key t : Bytes) {ys : List ℕ} {r : Bytes} → line key t ≡ found ys r → Keyed key t ys r
unfolding line
keyed [] t {ys} {r} e =
    let q = spelled [] fresh t [] nothing e in
    record { is = rw q.more_of q.is; plain = rw q.more_of q.plain }
keyed (k ∷ ks) [] e = never_found e
keyed (k ∷ ks) (c ∷ t) {ys} {r} e = go (eqb c k) refl e (λ f. keyed ks t f)
  where
    go : (b : Bool) → eqb c k ≡ b → cond b (line ks t) missing ≡ found ys r → (line ks t ≡ found ys r → Keyed ks t ys r) → Keyed (k ∷ ks) (c ∷ t) ys r
    go false q e f = never_found e
    go true q e f =
        let g = f e in
        let z : c ≡ k = eqb-true c k q in
        record { is = cc (z, g.is); plain = g.plain }

pub record Lined (ks : List Bytes) (text : Bytes) (rs : List (List ℕ)) (t : Bytes) : Type 0 where
  pub is : text ≡ lines ks rs ++ t
  pub plain : AllPlain rs
  pub count : length rs ≡ length ks

pub never_block : {A : Type 0} {rs : List (List ℕ)} {t : Bytes} → broken ≡ block rs t → A
never_block e = let z : ◌≡◌ {A = ℕ} 0 1 = cc in absurd (omega arith)

relined : {ks : List Bytes} {text : Bytes} {rs ss : List (List ℕ)} {t u : Bytes} → block rs t ≡ block ss u → Lined ks text rs t → Lined ks text ss u
relined {ks} {text} {rs} {ss} {t} {u} e l =
    let a : rs ≡ ss = cc in
    let b : t ≡ u = cc in
    rw (← a, ← b) l

pub lined : (ks : List Bytes) (text : Bytes) {rs : List (List ℕ)} {t : Bytes} → rows ks text ≡ block rs t → Lined ks text rs t
unfolding rows lines
lined [] text e = relined e (record { is = refl; plain = tt; count = refl })
lined (k ∷ ks) text {rs} {t} e = by_line (line k text) refl e (λ u ss w g. lined ks u g)
  where
    by_rest : (r : List ℕ) (u : Bytes) → line k text ≡ found r u → (b : Block) → ((ss : List (List ℕ)) (w : Bytes) → b ≡ block ss w → Lined ks u ss w)
        → preceded_by (r ∷ []) b ≡ block rs t → Lined (k ∷ ks) text rs t
    by_rest r u f broken h e = never_block e
    by_rest r u f (block ss w) h e =
        let y = keyed k text f in
        let l = h ss w refl in
        relined e (record {
          is =
              y.is ∙ rw l.is
              (sym (append_assoc k (listed r ++ 10 ∷ lines ks ss) w ∙ ap (λ (x : Bytes). k ++ x) (append_assoc (listed r) (10 ∷ lines ks ss) w)));
          plain = (y.plain, l.plain);
          count = ap suc l.count;
        })

    by_line : (f : LineFound) → line k text ≡ f → onward f (rows ks) ≡ block rs t
        → ((u : Bytes) (ss : List (List ℕ)) (w : Bytes) → rows ks u ≡ block ss w → Lined ks u ss w) → Lined (k ∷ ks) text rs t
    by_line missing f e h = never_block e
    by_line (found r u) f e h = by_rest r u f (rows ks u) (h u) e
