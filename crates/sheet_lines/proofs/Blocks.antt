-- Lines one after the other: the state of `scan_lines`, and what two blocks of five lines say of a text. Assumes nothing.
use mathlib.Core.Path.{◌≡◌, refl, sym, ap, ◌∙◌}
use mathlib.Core.Bool.{Bool, true, false}
use mathlib.Core.List.{List, [], ◌∷◌, ◌++◌, map, append_assoc, append-nil}
use Prim.Native.Nat.{ℕ, suc, ◌+◌, ◌-◌, ◌≤◌, ◌<◌}
use native.Mathlib.Numerals.{add-one}
use native.Mathlib.Omega.{arith}
use lib.ListN.{length, take, drop, get_or, set, length-append, length-drop, length-map, drop_of_length-le}
use lib.Seq.{length-take-le, get_or-take, get_or-drop, set-append_seam}
use Rattle.codec.specs.Bytes.{Bytes, zeros}
use Rattle.sheet_lines.specs.Form.{number_keys, list_keys}
use Rattle.sheet_lines.specs.Reader.{LineFound, missing, found, line, Block, broken, block, preceded_by, onward, rows}
use Rattle.sheet_lines.specs.Internal.{largest, bad, sum, summed, none, outline, outlined, seen, Reached, behind, further, reached, filled, Scanned}
use Rattle.sheet_lines.specs.declared.Lines.{Lines}
use Rattle.sheet_lines.proofs.Steps.{unroll}
use Rattle.sheet_lines.proofs.LineForm.{never_block}

after_none : (b : Block) → preceded_by [] b ≡ b
after_none broken = refl
after_none (block rs t) = refl

after_after : (rs ss : List (List ℕ)) (b : Block) → preceded_by rs (preceded_by ss b) ≡ preceded_by (rs ++ ss) b
after_after rs ss broken = refl
after_after rs ss (block us t) = ap (λ (l : List (List ℕ)). block l t) (sym (append_assoc rs ss us))

behind_behind : (rs ss : List (List ℕ)) (r : Reached) → behind rs (behind ss r) ≡ behind (rs ++ ss) r
behind_behind rs ss r = ap (λ (l : List (List ℕ)). record { numbers = l; rest = r.rest }) (sym (append_assoc rs ss r.numbers))

map_snoc : (f : List ℕ → ℕ) (rs : List (List ℕ)) (r : List ℕ) → map f (rs ++ r ∷ []) ≡ map f rs ++ f r ∷ []
map_snoc f [] r = refl
map_snoc f (s ∷ rs) r = ap (λ (l : List ℕ). f s ∷ l) (map_snoc f rs r)

-- a line that was summed is there
pub record Met (f : LineFound) (n top : ℕ) (t : Bytes) : Type 0 where
  pub xs : List ℕ
  pub is : f ≡ found xs t
  pub count : n ≡ length xs
  pub most : top ≡ largest 0 xs

pub meet : (f : LineFound) {n top : ℕ} {t : Bytes} → sum n top t ≡ summed f → Met f n top t
meet missing e = absurd (let z : ◌≡◌ {A = ℕ} 0 1 = cc in omega arith)
meet (found xs u) {n} {top} {t} e =
    let q : u ≡ t = cc in
    record { xs = xs; is = ap (found xs) q; count = cc; most = cc }

unmet : (f : LineFound) → bad ≡ summed f → f ≡ missing
unmet missing e = refl
unmet (found xs u) e = absurd (let z : ◌≡◌ {A = ℕ} 0 1 = cc in omega arith)

-- five numbers, as many of them filled as lines were read
module _ (f : List ℕ → ℕ) (rs : List (List ℕ)) where
  filled_more : (r : List ℕ) → length rs < 5 → set (filled f rs) (length rs) (f r) ≡ filled f (rs ++ r ∷ [])
  filled_more r h =
      let m = 5 - (length rs + 1) in
      let e : 5 - length rs ≡ suc m = omega (arith, add-one m) in
      let g : 5 - length (rs ++ r ∷ []) ≡ m = simp length-append (omega arith) in
      rw (e, g, map_snoc f rs r, append_assoc) (ap (λ (i : ℕ). set (map f rs ++ zeros (suc m)) i (f r)) (sym (length-map rs f)) ∙ set-append_seam (map f rs) 0 (zeros m) (f r))

  filled_all : 5 ≤ length rs → filled f rs ≡ map f rs
  filled_all h = let e : 5 - length rs ≡ 0 = omega arith in rw e (append-nil (map f rs))

-- the scan of the lines of the keys ks stands after i of them, at next
pub record Passed (ks : List Bytes) (text : Bytes) (at i next : ℕ) (counts tops : List ℕ) : Type 0 where
  pub rs : List (List ℕ)
  pub many : length rs ≡ i
  pub same : rows ks (drop at text) ≡ preceded_by rs (rows (drop i ks) (drop next text))
  pub reach : reached ks (drop at text) ≡ behind rs (reached (drop i ks) (drop next text))
  pub counted : counts ≡ filled length rs
  pub most : tops ≡ filled (largest 0) rs

module _ {ks : List Bytes} {text : Bytes} {at : ℕ} where
  pub starts : {counts tops : List ℕ} → counts ≡ zeros 5 → tops ≡ zeros 5 → Passed ks text at 0 at counts tops
  starts c t = record { rs = []; many = refl; same = sym (after_none (rows ks (drop at text))); reach = refl; counted = c; most = t }

  module _ {i next : ℕ} {counts tops : List ℕ} (p : Passed ks text at i next counts tops) where
    row : i < length ks → rows ks (drop at text) ≡ preceded_by p.rs (onward (line (get_or ks i []) (drop next text)) (rows (drop (i + 1) ks)))
    unfolding rows
    row h = p.same ∙ rw (unroll [] ks i h)

    reach_row : i < length ks → reached ks (drop at text) ≡ behind p.rs (further (line (get_or ks i []) (drop next text)) (reached (drop (i + 1) ks)) (drop next text))
    unfolding reached
    reach_row h = p.reach ∙ rw (unroll [] ks i h)

    -- nothing more is read
    ended : (whole : Bool) → reached ks (drop at text) ≡ behind p.rs (record { numbers = []; rest = drop next text })
        → seen text (record { whole = whole; counts = counts; largest = tops; next = next }) ≡ outlined (rows ks (drop at text))
        → Scanned ks (drop at text) text (record { whole = whole; counts = counts; largest = tops; next = next })
    ended whole e s =
        let n : p.rs ≡ (reached ks (drop at text)).numbers = sym (ap (λ (r : Reached). r.numbers) e ∙ append-nil p.rs) in
        record { told = s; counts = p.counted ∙ ap (filled length) n; tops = p.most ∙ ap (filled (largest 0)) n; rest = sym (ap (λ (r : Reached). r.rest) e) }

    pub stops : i < length ks → bad ≡ summed (line (get_or ks i []) (drop next text)) → Scanned ks (drop at text) text (record { whole = false; counts = counts; largest = tops; next = next })
    stops h e = let m = unmet (line (get_or ks i []) (drop next text)) e in ended false (reach_row h ∙ rw m) (rw (row h, m))

    module _ (h : i < length ks) (l : i < 5) {n top e : ℕ} where
      longer : (m : Met (line (get_or ks i []) (drop next text)) n top (drop e text)) → Passed ks text at (i + 1) e (set counts i n) (set tops i top)
      longer m = record {
        rs = p.rs ++ m.xs ∷ [];
        many = simp length-append (omega (arith, p.many));
        same = row h ∙ rw m.is (after_after p.rs (m.xs ∷ []) (rows (drop (i + 1) ks) (drop e text)));
        reach = reach_row h ∙ rw m.is (behind_behind p.rs (m.xs ∷ []) (reached (drop (i + 1) ks) (drop e text)));
        counted = rw (p.counted, m.count, ← p.many) (filled_more length p.rs m.xs (omega (arith, p.many)));
        most = rw (p.most, m.most, ← p.many) (filled_more (largest 0) p.rs m.xs (omega (arith, p.many)));
      }

      pub goes_on : sum n top (drop e text) ≡ summed (line (get_or ks i []) (drop next text)) → Passed ks text at (i + 1) e (set counts i n) (set tops i top)
      goes_on s = longer (meet (line (get_or ks i []) (drop next text)) s)

    pub all : length ks ≤ i → 5 ≤ i → Scanned ks (drop at text) text (record { whole = true; counts = counts; largest = tops; next = next })
    unfolding rows reached
    all h l =
        let d = drop_of_length-le ks h in
        let m : 5 ≤ length p.rs = omega (arith, p.many) in
        ended true (p.reach ∙ rw d) (rw (p.same, d, append-nil p.rs, p.counted, p.most, filled_all length p.rs m, filled_all (largest 0) p.rs m))

-- five of the ten keys
module _ (from : ℕ) (h : from + 5 ≤ 10) where
  pub five_keys : length (take 5 (drop from (number_keys ++ list_keys))) ≡ 5
  five_keys = length-take-le 5 (drop from (number_keys ++ list_keys)) (simp length-drop (omega arith))

  pub key_at_lem : (i : ℕ) → i < 5 → get_or (take 5 (drop from (number_keys ++ list_keys))) i [] ≡ get_or (number_keys ++ list_keys) (from + i) []
  key_at_lem i l = get_or-take 5 (drop from (number_keys ++ list_keys)) i [] l ∙ get_or-drop from (number_keys ++ list_keys) i []

-- ---- two blocks

pub rows_append : (ks ls : List Bytes) (t : Bytes) {rs : List (List ℕ)} {u : Bytes} → rows ks t ≡ block rs u → rows (ks ++ ls) t ≡ preceded_by rs (rows ls u)
unfolding rows
rows_append [] ls t {rs} {u} e =
    let a : rs ≡ [] = cc in
    let b : t ≡ u = cc in
    rw (a, b) (sym (after_none (rows ls u)))
rows_append (k ∷ ks) ls t {rs} {u} e = by_line (line k t) e (λ w ss v f. rows_append ks ls w f)
  where
    by_rest : (r : List ℕ) (w : Bytes) (b : Block) → rows ks w ≡ b → preceded_by (r ∷ []) b ≡ block rs u
        → ((ss : List (List ℕ)) (v : Bytes) → rows ks w ≡ block ss v → rows (ks ++ ls) w ≡ preceded_by ss (rows ls v))
        → preceded_by (r ∷ []) (rows (ks ++ ls) w) ≡ preceded_by rs (rows ls u)
    by_rest r w broken f e h = never_block e
    by_rest r w (block ss v) f e h =
        let a : r ∷ ss ≡ rs = cc in
        let b : v ≡ u = cc in
        rw (h ss v f, ← a, ← b) (after_after (r ∷ []) ss (rows ls v))

    by_line : (f : LineFound) → onward f (rows ks) ≡ block rs u
        → ((w : Bytes) (ss : List (List ℕ)) (v : Bytes) → rows ks w ≡ block ss v → rows (ks ++ ls) w ≡ preceded_by ss (rows ls v))
        → onward f (rows (ks ++ ls)) ≡ preceded_by rs (rows ls u)
    by_line missing e h = never_block e
    by_line (found r w) e h = by_rest r w (rows ks w) refl e (h w)

pub rows_broken : (ks ls : List Bytes) (t : Bytes) → rows ks t ≡ broken → rows (ks ++ ls) t ≡ broken
unfolding rows
rows_broken [] ls t e = never_block (sym e)
rows_broken (k ∷ ks) ls t e = by_line (line k t) e (λ w f. rows_broken ks ls w f)
  where
    by_rest : (r : List ℕ) (w : Bytes) (b : Block) → rows ks w ≡ b → preceded_by (r ∷ []) b ≡ broken → (rows ks w ≡ broken → rows (ks ++ ls) w ≡ broken)
        → preceded_by (r ∷ []) (rows (ks ++ ls) w) ≡ broken
    by_rest r w broken f e h = rw (h f)
    by_rest r w (block ss v) f e h = never_block (sym e)

    by_line : (f : LineFound) → onward f (rows ks) ≡ broken → ((w : Bytes) → rows ks w ≡ broken → rows (ks ++ ls) w ≡ broken) → onward f (rows (ks ++ ls)) ≡ broken
    by_line missing e h = refl
    by_line (found r w) e h = by_rest r w (rows ks w) refl e (h w)

-- what five lines that the code saw are
pub record Five (b : Block) (counts tops : List ℕ) (t : Bytes) : Type 0 where
  pub rs : List (List ℕ)
  pub is : b ≡ block rs t
  pub counted : counts ≡ map length rs
  pub most : tops ≡ map (largest 0) rs

pub five : (text : Bytes) (l : Lines) (b : Block) → seen text l ≡ outlined b → l.whole ≡ true → Five b l.counts l.largest (drop l.next text)
five text l b e w = by_block b (sym (rw w) ∙ e)
  where
    by_block : (b : Block) → outline l.counts l.largest (drop l.next text) ≡ outlined b → Five b l.counts l.largest (drop l.next text)
    by_block broken e = absurd (let z : ◌≡◌ {A = ℕ} 0 1 = cc in omega arith)
    by_block (block rs t) e =
        let q : t ≡ drop l.next text = cc in
        record { rs = rs; is = ap (block rs) q; counted = cc; most = cc }

pub not_five : (text : Bytes) (l : Lines) (b : Block) → seen text l ≡ outlined b → l.whole ≡ false → b ≡ broken
not_five text l b e w = by_block b (sym (rw w) ∙ e)
  where
    by_block : (b : Block) → none ≡ outlined b → b ≡ broken
    by_block broken e = refl
    by_block (block rs t) e = absurd (let z : ◌≡◌ {A = ℕ} 0 1 = cc in omega arith)
