-- The shape of a state: five rows of five lanes. What a function is told of such an array, and what a round leaves, has it. Assumes nothing.
use mathlib.Core.Path.{◌≡◌, refl, sym, subst, ◌∙◌}
use mathlib.Core.List.{List, [], ◌∷◌}
use Prim.Native.Nat.{ℕ, zero, suc, ◌^◌, ◌<◌}
use native.Mathlib.Nat.{not-suc-le-zero, le_of_suc-le-suc}
use native.Mathlib.Omega.{arith}
use lib.ListN.{length, get_or}
use base.Fml.{Fml}
use denote.Array.{each, in_array}
use denote.Shadow.{shadow}
use denote.Plain.{UInt}
use mir.Syntax.{w64}
use mir.Val.{Val}
use Rattle.keccak.specs.Keccak.{StateArray, lane, five, lanes, chi_row, chi, iota, round, rounds, keccak}

-- five rows of five
pub record Shape {A : Type 0} (s : List (List A)) : Type 0 where
  pub rows : length s ≡ 5
  pub row : (y : ℕ) → y < 5 → length (get_or s y []) ≡ 5

-- a list of five is its elements
pub five_of : {A : Type 0} (d : A) (l : List A) → length l ≡ 5 → l ≡ five (λ k. get_or l k d)
five_of d [] h = absurd (omega arith)
five_of d (a ∷ []) h = absurd (omega arith)
five_of d (a ∷ b ∷ []) h = absurd (omega arith)
five_of d (a ∷ b ∷ c ∷ []) h = absurd (omega arith)
five_of d (a ∷ b ∷ c ∷ e ∷ []) h = absurd (omega arith)
five_of d (a ∷ b ∷ c ∷ e ∷ f ∷ []) h = refl
five_of d (a ∷ b ∷ c ∷ e ∷ f ∷ g ∷ l) h = absurd (omega arith)

-- a shaped state is its lanes
pub shaped : (s : StateArray) → Shape s → s ≡ lanes (lane s)
shaped s h =
    five_of [] s h.rows
    ∙ (λ i. five_of 0 (get_or s 0 []) (h.row 0 (omega arith)) i ∷ five_of 0 (get_or s 1 []) (h.row 1 (omega arith)) i
    ∷ five_of 0 (get_or s 2 []) (h.row 2 (omega arith)) i ∷ five_of 0 (get_or s 3 []) (h.row 3 (omega arith)) i
    ∷ five_of 0 (get_or s 4 []) (h.row 4 (omega arith)) i ∷ [])

-- ---- what a function is told of an array of five arrays of five 64-bit lanes

-- the rows' lengths
each_long : (D : Type 0) (own : D → List Val → Fml) (n : ℕ) (xs : List (List D)) (us : List Val) → shadow (each (List D) (in_array D own n) xs us)
    → (y : ℕ) → y < length xs → length (get_or xs y []) ≡ n
each_long D own n [] us g y h = absurd (not-suc-le-zero h)
each_long D own n (x ∷ xs) [] g y h = absurd g
each_long D own n (x ∷ xs) (u ∷ us) g zero h = g.0.1.0.1
each_long D own n (x ∷ xs) (u ∷ us) g (suc y) h = each_long D own n xs us g.1 y (le_of_suc-le-suc h)

pub array_shape : (D : Type 0) (own : D → List Val → Fml) (s : List (List D)) (vs : List Val) → shadow (in_array (List D) (in_array D own 5) 5 s vs) → Shape s
array_shape D own s vs g = record {
  rows = g.1.0.1;
  row = λ y h. each_long D own 5 s g.0 g.1.1 y (subst (λ (n : ℕ). y < n) (sym g.1.0.1) h);
}

-- the same of words, where nothing is left to be found out at the call
pub words_shape : (s : StateArray) (vs : List Val) → shadow (in_array (List ℕ) (in_array ℕ (UInt w64).own_val 5) 5 s vs) → Shape s
words_shape s vs g = array_shape ℕ (UInt w64).own_val s vs g

-- the lanes' bound, at every place
each_word : (xs : List ℕ) (us : List Val) → shadow (each ℕ (UInt w64).own_val xs us) → (x : ℕ) → get_or xs x 0 < 2 ^ 64
each_word [] us g x = omega arith
each_word (a ∷ xs) [] g x = absurd g
each_word (a ∷ xs) (u ∷ us) g zero = g.0.1
each_word (a ∷ xs) (u ∷ us) g (suc x) = each_word xs us g.1 x

each_row : (n : ℕ) (xs : StateArray) (us : List Val) → shadow (each (List ℕ) (in_array ℕ (UInt w64).own_val n) xs us) → (x y : ℕ) → lane xs x y < 2 ^ 64
each_row n [] us g x y = omega arith
each_row n (r ∷ xs) [] g x y = absurd g
each_row n (r ∷ xs) (u ∷ us) g x zero = each_word r g.0.0 g.0.1.1 x
each_row n (r ∷ xs) (u ∷ us) g x (suc y) = each_row n xs us g.1 x y

pub array_words : (s : StateArray) (vs : List Val) → shadow (in_array (List ℕ) (in_array ℕ (UInt w64).own_val 5) 5 s vs) → (x y : ℕ) → lane s x y < 2 ^ 64
array_words s vs g = each_row 5 s g.0 g.1.1

-- ---- five rows of five that are written out

pub shape_of : {A : Type 0} (a b c d e : List A) → length a ≡ 5 → length b ≡ 5 → length c ≡ 5 → length d ≡ 5 → length e ≡ 5 → Shape (a ∷ b ∷ c ∷ d ∷ e ∷ [])
shape_of a b c d e ha hb hc hd he = record { rows = refl; row = row }
  where
    row : (y : ℕ) → y < 5 → length (get_or (a ∷ b ∷ c ∷ d ∷ e ∷ []) y []) ≡ 5
    row zero h = ha
    row (suc zero) h = hb
    row (suc (suc zero)) h = hc
    row (suc (suc (suc zero))) h = hd
    row (suc (suc (suc (suc zero)))) h = he
    row (suc (suc (suc (suc (suc y))))) h = absurd (omega arith)

-- so has what a round leaves
pub keccak_shape : (s : StateArray) → Shape (keccak s)
unfolding keccak rounds round iota chi chi_row
keccak_shape s = shape_of _ _ _ _ _ refl refl refl refl refl
