-- Fields one after the other: taken out by name, cut from a whole, and written in order. Assumes nothing.
use mathlib.Core.Path.{◌≡◌, refl, sym, ap, ap₂, ◌∙◌}
use mathlib.Core.Bool.{Bool, true, false, cond}
use mathlib.Core.List.{List, [], ◌∷◌, ◌++◌, flatten}
use Prim.Native.Nat.{ℕ, ◌+◌, ◌≤◌}
use Prim.Native.String.{String}
use native.Mathlib.Omega.{arith}
use lib.Text.{eqt}
use lib.ListN.{length, take, length-append}
use lib.Seq.{take_at, drop-append-add}
use Rattle.codec.specs.Bytes.{Bytes, part, put}
use Rattle.codec.proofs.Laws.{part_append, length_put, put_append, put_none}
use Rattle.session.specs.declared.Session.{Session}
use Rattle.session_image.specs.Image.{Field, size, contents_of, start, width}

-- what stands in each field has its width
abbrev pub Fits : List Field → Session → Type 0
Fits [] s = Unit
Fits (f ∷ fs) s = (length (f.contents s) ≡ f.width) × Fits fs s

pub fits_append : (fs gs : List Field) (s : Session) → Fits fs s → Fits gs s → Fits (fs ++ gs) s
fits_append [] gs s h g = g
fits_append (f ∷ fs) gs s h g = (h.0, fits_append fs gs s h.1 g)

pub length_values : (fs : List Field) (s : Session) → Fits fs s → length (flatten (contents_of fs s)) ≡ size fs
unfolding flatten
length_values [] s h = refl
length_values (f ∷ fs) s h = length-append (f.contents s) (flatten (contents_of fs s)) ∙ ap₂ (λ (n m : ℕ). n + m) h.0 (length_values fs s h.1)

-- ---- taken out

-- what stands in the field with a name
abbrev pub named : List Field → String → Session → Bytes
named [] name s = []
named (f ∷ fs) name s = cond (eqt f.name name) (f.contents s) (named fs name s)

pub taken_out : (fs : List Field) (s : Session) (name : String) → Fits fs s → part (flatten (contents_of fs s)) (start fs name) (width fs name) ≡ named fs name s
unfolding flatten
taken_out [] s name h = refl
taken_out (f ∷ fs) s name h = go (eqt f.name name) (taken_out fs s name h.1)
  where
    rest : Bytes
    rest = flatten (contents_of fs s)

    go : (b : Bool) → part rest (start fs name) (width fs name) ≡ named fs name s
        → part (f.contents s ++ rest) (cond b 0 (f.width + start fs name)) (cond b f.width (width fs name)) ≡ cond b (f.contents s) (named fs name s)
    go true e = take_at (f.contents s) rest f.width h.0
    go false e =
        ap (λ (n : ℕ). part (f.contents s ++ rest) (n + start fs name) (width fs name)) (sym h.0)
        ∙ ap (λ (t : Bytes). take (width fs name) t) (drop-append-add (f.contents s) rest (start fs name)) ∙ e

-- ---- cut from a whole

abbrev pub cut : Bytes → ℕ → List Field → List Bytes
cut b at [] = []
cut b at (f ∷ fs) = part b at f.width ∷ cut b (at + f.width) fs

pub flatten_cut : (b : Bytes) (at : ℕ) (fs : List Field) → flatten (cut b at fs) ≡ part b at (size fs)
unfolding flatten
flatten_cut b at [] = refl
flatten_cut b at (f ∷ fs) = ap (λ (t : Bytes). part b at f.width ++ t) (flatten_cut b (at + f.width) fs) ∙ sym (part_append b at f.width (size fs))

-- ---- written in order

abbrev pub puts : Bytes → ℕ → List Field → Session → Bytes
puts d at [] s = d
puts d at (f ∷ fs) s = puts (put d at (f.contents s)) (at + f.width) fs s

pub puts_all : (fs : List Field) (s : Session) (d : Bytes) (at : ℕ) → Fits fs s → at + size fs ≤ length d → puts d at fs s ≡ put d at (flatten (contents_of fs s))
unfolding flatten
puts_all [] s d at h l = sym (put_none d at)
puts_all (f ∷ fs) s d at h l =
    let k = h.0 in
    let n = length_values fs s h.1 in
    puts_all fs s (put d at (f.contents s)) (at + f.width) h.1 (omega (arith, length_put d at (f.contents s) (omega arith)))
    ∙ ap (λ (n : ℕ). put (put d at (f.contents s)) (at + n) (flatten (contents_of fs s))) (sym h.0) ∙ put_append d at (f.contents s) (flatten (contents_of fs s)) (omega arith)
