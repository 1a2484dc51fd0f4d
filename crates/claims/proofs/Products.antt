-- The claims of specs/Products.antt: of the calls that multiply, and of roots. Assumes nothing.
use mathlib.Core.Path.{◌≡◌, refl, sym, ap, ◌∙◌}
use mathlib.Core.Logic.Iff
use mathlib.Core.Logic.{◌↔◌}
use mathlib.Core.Bool.{Bool, true, false, cond, not}
use mathlib.Core.List.{List, [], ◌∷◌, ◌++◌}
use Prim.Native.Nat.{ℕ}
use native.Mathlib.Omega.{arith}
use borrow.Author.Tests.{not-true, not-false}
use lib.ListN.{length, length-replicate}
use Rattle.codec.specs.Bytes.{Bytes, bytes, number, words, zeros}
use Rattle.codec.specs.Lists.{all, all_below, list}
use Rattle.codec.specs.Reply.{Test, test, first, None, leaves, Reply, Taken, Refused}
use Rattle.codec.proofs.Lists.{all_sound}
use Rattle.codec.proofs.Replies.{taken_exactly, first_append}
use Rattle.modular.specs.Roots.{Root, is_root}
use Rattle.ring.specs.Poly.{Below}
use Rattle.ring.specs.Slots.{poly}
use Rattle.round.proofs.Many.{none_append, append_none}
use Rattle.ring.proofs.Ranges.{below_sound}
use Rattle.ring_transform.proofs.Roots.{root_sound, root_complete}
use Rattle.sheet_numbers.specs.Plain.{plain}
use Rattle.sheet_numbers.specs.Bounds.{most, least, power}
use Rattle.sheet_numbers.specs.Rules.{any, outside, unsound}
use Rattle.sheet_lines.specs.Form.{decimal, listed, lines}
use Rattle.sheet_lines.specs.Reader.{digit, step, values, line, rows}
use Rattle.sheet.specs.Form.{written}
use Rattle.sheet.specs.Reader.{formed, sheet_of}
use Rattle.sheet.specs.Sheet.{order, unfit}
use Rattle.scratch.specs.Call.{scratch_length, length_test, coefficients_below, zeroized}
use Rattle.scratch.proofs.Zeroizing.{leaves_taken}
use Rattle.scheme.specs.Calls.{product_writes}
use Rattle.scheme.specs.Orders.{product_of}
use Rattle.commitment.specs.Parameters.{parameters_of}
use Rattle.session_histories.specs.Conditions.{SheetTaken}
use Rattle.session_histories.proofs.Replies.{by_number}
use Rattle.session_histories.proofs.Valid.{sheet_exactly}
use Rattle.claims.specs.Products.{InRange, ProductSized, ProductClaims, PlainClaims, TransformClaims, NoRoot, SameBytes, RootClaims, ProductOrders, SomeProduct, SomeRootless}
use Rattle.claims.proofs.SmallSheet.{small_sheet}
use Rattle.claims.proofs.Scheme.{sized_exactly, root_exactly, coefficients_exactly, lent, wanted}

-- ---- the two calls

-- an order that refuses decides, whatever follows
first_stops : (rs ts : List Test) → (None rs → ⊥) → first (rs ++ ts) ≡ first rs
unfolding first
first_stops [] ts n = absurd (n tt)
first_stops (r ∷ rs) ts n = go r.holds refl (λ m. first_stops rs ts m)
  where
    go : (b : Bool) → r.holds ≡ b → ((None rs → ⊥) → first (rs ++ ts) ≡ first rs)
        → cond r.holds (Refused r.number r.place) (first (rs ++ ts)) ≡ cond r.holds (Refused r.number r.place) (first rs)
    go true e rest = rw e refl
    go false e rest = rw e (rest (λ h. n (e, h)))

leaves_kept : {A : Type 0} (r : Reply) (written there : A) → (r ≡ Taken → ⊥) → leaves r written there ≡ there
unfolding leaves
leaves_kept Taken written there n = absurd (n refl)
leaves_kept (Refused number place) written there n = refl

-- a test that fails
off_exactly : {b : Bool} {A : Type 0} → (b ≡ true) ↔ A → (not b ≡ true) ↔ (A → ⊥)
off_exactly {b} {A} f = (λ e a. let g = f.1 a in let h = not-true b e in absurd (let z : ◌≡◌ {A = ℕ} 0 1 = cc in omega arith), λ n. go b refl n)
  where
    go : (c : Bool) → b ≡ c → (A → ⊥) → not c ≡ true
    go true e n = absurd (n (f.0 e))
    go false e n = refl

module _ (text x y product scratch : Bytes) where
  open parameters_of text use {q, N}

  abbrev lengths : Test
  lengths = length_test (lent text x y product scratch) (wanted text x y product scratch)

  abbrev ranges : Test
  ranges = test 5 0 (not (coefficients_below q N (x ∷ y ∷ [])))

  sized : None (order text ++ (lengths ∷ [])) ↔ ProductSized text x y product scratch
  sized =
      let s = sized_exactly text (lent text x y product scratch) (wanted text x y product scratch) [] in (
        λ n.
            let l = s.0 n in
            record { served = record { sheet = l.0; scratch_size = l.1.1.1.1.0 }; one_size = l.1.0; other_size = l.1.1.0; product_size = l.1.1.1.0 },
        λ l. s.1 (l.served.sheet, (l.one_size, (l.other_size, (l.product_size, (l.served.scratch_size, tt)))), tt),
      )

  ranged : (coefficients_below q N (x ∷ y ∷ []) ≡ true) ↔ InRange text x y product scratch
  ranged = let c = coefficients_exactly q N (x ∷ y ∷ []) in (λ e. let h = c.0 e in (h.0, h.1.0), λ h. c.1 (h.0, (h.1, tt)))

  -- what a call's own tests of the root come to, between its lengths and its ranges
  module _ (rest : List Test) {Rooted : Type 0} (rooted : SheetTaken text → None rest ↔ Rooted) (clears : (b : Bool) → zeroized (first (rest ++ (test 5 0 b ∷ []))) scratch ≡ zeros (length scratch)) where
    abbrev tests : List Test
    tests = order text ++ (lengths ∷ (rest ++ (ranges ∷ [])))

    claims_taken : (first tests ≡ Taken) ↔ (ProductSized text x y product scratch × Rooted × InRange text x y product scratch)
    claims_taken =
        Iff.trans (taken_exactly tests) (
          λ n.
              let h = append_none (order text ++ (lengths ∷ [])) (rest ++ (ranges ∷ [])) n in
              let l = sized.0 h.0 in
              let g = append_none rest (ranges ∷ []) h.1 in
              (l, (rooted l.served.sheet).0 g.0, ranged.0 (not-false _ g.1.0)),
          λ h. none_append (order text ++ (lengths ∷ [])) (rest ++ (ranges ∷ [])) (sized.1 h.0) (none_append rest (ranges ∷ []) ((rooted h.0.served.sheet).1 h.1) (ap not (ranged.1 h.2), tt)),
        )

    unsized : SheetTaken text → (ProductSized text x y product scratch → ⊥) → first tests ≡ Refused 1 0
    unfolding first
    unsized s n = first_append (order text) (lengths ∷ (rest ++ (ranges ∷ []))) ((sheet_exactly text).1 s) ∙ go lengths.holds refl
      where
        go : (b : Bool) → lengths.holds ≡ b → cond lengths.holds (Refused 1 0) (first (rest ++ (ranges ∷ []))) ≡ Refused 1 0
        go true e = rw e
        go false e = absurd (n (sized.0 (none_append (order text) (lengths ∷ []) ((sheet_exactly text).1 s) (e, tt))))

    unranged : ProductSized text x y product scratch → Rooted → (InRange text x y product scratch → ⊥) → first tests ≡ Refused 5 0
    unfolding first
    unranged l r n =
        first_append (order text ++ (lengths ∷ [])) (rest ++ (ranges ∷ [])) (sized.1 l) ∙ first_append rest (ranges ∷ []) ((rooted l.served.sheet).1 r) ∙ go (coefficients_below q N (x ∷ y ∷ [])) refl
      where
        go : (b : Bool) → coefficients_below q N (x ∷ y ∷ []) ≡ b → cond (not (coefficients_below q N (x ∷ y ∷ []))) (Refused 5 0) Taken ≡ Refused 5 0
        go true e = absurd (n (ranged.0 e))
        go false e = rw e

    pub product_claims : ProductClaims text x y product scratch Rooted (first tests) (leaves (first tests) (product_of text x y) product) (zeroized (first tests) scratch)
    unfolding product_writes zeroized
    product_claims = record {
      sheet_first = λ n. first_stops (order text) (lengths ∷ (rest ++ (ranges ∷ []))) (λ h. n ((sheet_exactly text).0 h));
      then_lengths = unsized;
      ranges_last = unranged;
      taken = claims_taken;
      written = λ e. sym (leaves_taken (first tests) product e);
      kept = leaves_kept (first tests) (product_of text x y) product;
      zeroed = λ l. ap (λ (r : Reply). zeroized r scratch) (first_append (order text ++ (lengths ∷ [])) (rest ++ (ranges ∷ [])) (sized.1 l)) ∙ clears ranges.holds;
      untouched = λ s n. ap (λ (r : Reply). zeroized r scratch) (unsized s n);
    }

  pub plain_claims : PlainClaims text x y product scratch
  unfolding zeroized first
  plain_claims = product_claims [] (λ s. (λ n. tt, λ n. tt)) (λ b. go b)
    where
      go : (b : Bool) → zeroized (first (test 5 0 b ∷ [])) scratch ≡ zeros (length scratch)
      go true = refl
      go false = refl

  module _ (root : ℕ) where
    abbrev root_test : Test
    root_test = test 37 0 (not (is_root q N root))

    rooted : SheetTaken text → None (root_test ∷ []) ↔ Root q N root
    rooted s = let r = root_exactly q N root (omega (arith, s.inside.modulus_low)) in (λ n. r.0 (not-false _ n.0), λ h. (ap not (r.1 h), tt))

    pub transform_claims : TransformClaims text x y product scratch root
    unfolding zeroized first
    transform_claims = product_claims (root_test ∷ []) rooted (λ b. go (not (is_root q N root)) b)
      where
        go : (a b : Bool) → zeroized (first (test 37 0 a ∷ test 5 0 b ∷ [])) scratch ≡ zeros (length scratch)
        go true b = refl
        go false true = refl
        go false false = refl

    pub no_root : NoRoot text x y product scratch root
    no_root =
        Iff.trans (by_number 37 0 (not (is_root q N root)) (ranges ∷ []) (omega arith) (order text ++ (lengths ∷ [])) (omega arith)) (
          λ h. let l = sized.0 h.0 in (l, (off l.served.sheet).0 h.1),
          λ h. (sized.1 h.0, (off h.0.served.sheet).1 h.1),
        )
      where
        off : SheetTaken text → (not (is_root q N root) ≡ true) ↔ (Root q N root → ⊥)
        off s = off_exactly (root_exactly q N root (omega (arith, s.inside.modulus_low)))

pub same_bytes : (text x y : Bytes) → SameBytes text x y
same_bytes text x y root product scratch product' scratch' e f = (transform_claims text x y product scratch root).written e ∙ sym ((plain_claims text x y product' scratch').written f)

-- ---- roots

none_of_81 : all 81 (λ w. not (is_root 81 4 w)) ≡ true
unfolding all is_root
none_of_81 = refl

pub root_claims : RootClaims
unfolding is_root
root_claims = record {
  tested = root_exactly;
  beyond = λ text x y product scratch root h l. (no_root text x y product scratch root).1 (l, λ r. omega (arith, r.below));
  composite = root_sound 697 4 495 (omega arith) refl;
  rootless = λ w r. let e = all_sound 81 (λ v. not (is_root 81 4 v)) none_of_81 w r.below in let f = root_complete 81 4 w (omega arith) r in absurd (let z : ◌≡◌ {A = ℕ} 0 1 = cc in omega arith);
}

pub product_orders : ProductOrders
product_orders = record { multiply = λ text x y root product scratch. refl; product = λ text x y product scratch. refl }

-- ---- a call that is taken

abbrev sheet : Bytes
sheet = small_sheet 697 (3 ∷ 7 ∷ 94 ∷ 92 ∷ [])

sheet_taken : first (order sheet) ≡ Taken
unfolding written lines listed decimal first formed sheet_of rows line values step digit any outside unsound plain unfit all_below power least most
sheet_taken = refl

ring : (parameters_of sheet).N ≡ 4
unfolding written lines listed decimal sheet_of rows line values step digit
ring = refl

modulus : (parameters_of sheet).q ≡ 697
unfolding written lines listed decimal sheet_of rows line values step digit
modulus = refl

abbrev factor : Bytes
factor = words (696 ∷ 1 ∷ 2 ∷ 3 ∷ [])

factor_size : length factor ≡ 32
unfolding words bytes
factor_size = refl

in_range : all_below 697 (list 4 (poly factor)) ≡ true
unfolding all_below list poly number words bytes
in_range = refl

pub some_product : SomeProduct
some_product = record {
  text = sheet;
  x = factor;
  y = factor;
  root = 495;
  product = zeros 32;
  scratch = zeros scratch_length;
  modulus = modulus;
  taken = (transform_claims sheet factor factor (zeros 32) (zeros scratch_length) 495).taken.1 (
    record {
      served = record { sheet = (sheet_exactly sheet).0 ((taken_exactly (order sheet)).0 sheet_taken); scratch_size = length-replicate {A = ℕ} scratch_length 0 };
      one_size = rw ring factor_size;
      other_size = rw ring factor_size;
      product_size = rw ring refl;
    },
    rw (ring, modulus) root_claims.composite,
    (below, below),
  );
}
  where
    below : Below (parameters_of sheet).q (parameters_of sheet).N (poly factor)
    below = rw (ring, modulus) (below_sound 697 4 (poly factor) in_range)

-- ---- a sheet without a root

abbrev rootless_sheet : Bytes
rootless_sheet = small_sheet 81 (3 ∷ 7 ∷ 14 ∷ 12 ∷ [])

rootless_taken : first (order rootless_sheet) ≡ Taken
unfolding written lines listed decimal first formed sheet_of rows line values step digit any outside unsound plain unfit all_below power least most
rootless_taken = refl

rootless_ring : (parameters_of rootless_sheet).N ≡ 4
unfolding written lines listed decimal sheet_of rows line values step digit
rootless_ring = refl

rootless_modulus : (parameters_of rootless_sheet).q ≡ 81
unfolding written lines listed decimal sheet_of rows line values step digit
rootless_modulus = refl

pub some_rootless : SomeRootless
some_rootless = record {
  text = rootless_sheet;
  sheet = (sheet_exactly rootless_sheet).0 ((taken_exactly (order rootless_sheet)).0 rootless_taken);
  modulus = rootless_modulus;
  refused = λ x y product scratch root l. (no_root rootless_sheet x y product scratch root).1 (l, λ r. root_claims.rootless root (rw (rootless_ring, rootless_modulus) at r));
}
