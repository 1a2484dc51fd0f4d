-- The two calls that multiply (document 02, L2), jdn_multiply by transforms with a lent root and jdn_product by the plain method: what they answer and what they leave in the slice of the
-- product, as their contracts say it, and what is claimed of them. Assumes nothing.
use Rattle.std.specs.Prelude.{◌≡◌, ◌↔◌, true, List, [], ◌∷◌, ◌++◌, ℕ, ◌*◌, ◌≤◌, ◌<◌, length}
use Rattle.codec.specs.Bytes.{Bytes, zeros}
use Rattle.codec.specs.Reply.{first, leaves, Reply, Taken, Refused}
use Rattle.modular.specs.Roots.{Root, is_root}
use Rattle.ring.specs.Poly.{mul, Below}
use Rattle.ring.specs.Slots.{coefficient_bytes, poly}
use Rattle.commitment.specs.Parameters.{Parameters, parameters_of}
use Rattle.sheet.specs.Sheet.{order}
use Rattle.scratch.specs.Call.{zeroized}
use Rattle.scheme.specs.Orders.{product_order, multiply_order, product_of}
use Rattle.session_histories.specs.Conditions.{SheetTaken}
use Rattle.claims.specs.Scheme.{Served}
use Rattle.claims.specs.Orders.{refusals}

module _ (text x y : Bytes) where
  -- what the sheet gives
  abbrev P : Parameters
  P = parameters_of text

  open P use {q, N}

  -- the bytes of x y modulo X^N + 1 and q, each coefficient below q
  abbrev pub ring_product : Bytes
  ring_product = coefficient_bytes q N (mul q N (poly x) (poly y))

  module _ (product scratch : Bytes) where
    -- ---- what the two calls answer and leave

    abbrev pub product_reply : Reply
    product_reply = first (product_order text x y product scratch)

    abbrev pub product_left : Bytes
    product_left = leaves product_reply (product_of text x y) product

    abbrev pub multiply_reply : ℕ → Reply
    multiply_reply root = first (multiply_order text x y root product scratch)

    abbrev pub multiply_left : ℕ → Bytes
    multiply_left root = leaves (multiply_reply root) (product_of text x y) product

    -- ---- what is claimed of either

    -- the sheet is taken and no length is refused
    pub record ProductSized : Type 0 where
      pub served : Served text scratch
      pub one_size : length x ≡ 8 * N
      pub other_size : length y ≡ 8 * N
      pub product_size : length product ≡ 8 * N

    abbrev pub InRange : Type 0
    InRange = Below q N (poly x) × Below q N (poly y)

    -- the reply case by case, and what is left: `Rooted` is what the call asks of its root, and nothing for the plain method
    pub record ProductClaims (Rooted : Type 0) (reply : Reply) (product' scratch' : Bytes) : Type 0 where
      pub sheet_first : (SheetTaken text → ⊥) → reply ≡ first (order text)
      pub then_lengths : SheetTaken text → (ProductSized → ⊥) → reply ≡ Refused 1 0
      pub ranges_last : ProductSized → Rooted → (InRange → ⊥) → reply ≡ Refused 5 0
      pub taken : (reply ≡ Taken) ↔ (ProductSized × Rooted × InRange)
      pub written : reply ≡ Taken → product' ≡ ring_product
      pub kept : (reply ≡ Taken → ⊥) → product' ≡ product
      -- a call that is taken, 37 and 5 zero scratch, 1 leaves it
      pub zeroed : ProductSized → scratch' ≡ zeros (length scratch)
      pub untouched : SheetTaken text → (ProductSized → ⊥) → scratch' ≡ scratch

    abbrev pub PlainClaims : Type 0
    PlainClaims = ProductClaims Unit product_reply product_left (zeroized product_reply scratch)

    abbrev pub TransformClaims : ℕ → Type 0
    TransformClaims root = ProductClaims (Root q N root) (multiply_reply root) (multiply_left root) (zeroized (multiply_reply root) scratch)

    -- 37 exactly: neither the sheet nor a length is refused, and the root fails, whatever the coefficients are
    abbrev pub NoRoot : ℕ → Type 0
    NoRoot root = (multiply_reply root ≡ Refused 37 0) ↔ (ProductSized × (Root q N root → ⊥))

  -- what two calls leave that are taken, each lent its own room and scratch
  abbrev pub SameBytes : Type 0
  SameBytes = (root : ℕ) (product scratch product' scratch' : Bytes) → multiply_reply product scratch root ≡ Taken → product_reply product' scratch' ≡ Taken
      → multiply_left product scratch root ≡ product_left product' scratch'

-- what is a root: "w^N is -1 modulo q", below q
pub record RootClaims : Type 0 where
  -- the test that runs is that of the two conditions
  pub tested : (q N w : ℕ) → 0 < q → (is_root q N w ≡ true) ↔ Root q N w
  -- a number from q on is none, a root plus q among them, and is refused
  pub beyond : (text x y product scratch : Bytes) (root : ℕ) → (parameters_of text).q ≤ root → ProductSized text x y product scratch → multiply_reply text x y product scratch root ≡ Refused 37 0
  -- "prime or not": 17 · 41 has a root for N = 4, and 3 · 3 · 3 · 3 has none
  pub composite : Root (17 * 41) 4 495
  pub rootless : (w : ℕ) → Root (3 * 3 * 3 * 3) 4 w → ⊥

-- the sheet's own order, and then 1, 37, 5, or 1, 5, none with a place
abbrev sheet_refusals : List (ℕ × ℕ)
sheet_refusals = (1, 0) ∷ (2, 0) ∷ (3, 0) ∷ (4, 0) ∷ (5, 0) ∷ []

pub record ProductOrders : Type 0 where
  pub multiply : (text x y : Bytes) (root : ℕ) (product scratch : Bytes) → refusals (multiply_order text x y root product scratch) ≡ sheet_refusals ++ ((1, 0) ∷ (37, 0) ∷ (5, 0) ∷ [])
  pub product : (text x y product scratch : Bytes) → refusals (product_order text x y product scratch) ≡ sheet_refusals ++ ((1, 0) ∷ (5, 0) ∷ [])

-- there is a call that is taken, on a sheet whose modulus is 17 · 41
pub record SomeProduct : Type 0 where
  pub text : Bytes
  pub x : Bytes
  pub y : Bytes
  pub root : ℕ
  pub product : Bytes
  pub scratch : Bytes
  pub modulus : (parameters_of text).q ≡ 17 * 41
  pub taken : multiply_reply text x y product scratch root ≡ Taken

-- and a sheet that is taken and has no root: every one is refused, and the plain method multiplies
pub record SomeRootless : Type 0 where
  pub text : Bytes
  pub sheet : SheetTaken text
  pub modulus : (parameters_of text).q ≡ 3 * 3 * 3 * 3
  pub refused : (x y product scratch : Bytes) (root : ℕ) → ProductSized text x y product scratch → multiply_reply text x y product scratch root ≡ Refused 37 0
