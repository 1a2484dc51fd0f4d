-- The calls of encryption, shares, commitment and products are taken exactly under the conditions of specs/Scheme.antt. Assumes nothing.
use mathlib.Core.Path.{◌≡◌, refl, ap, ap₂}
use mathlib.Core.Logic.Iff
use mathlib.Core.Logic.{◌↔◌}
use mathlib.Core.Bool.{Bool, true, not, ◌&&◌}
use mathlib.Core.List.{List, [], ◌∷◌, ◌++◌}
use Prim.Native.Nat.{ℕ, ◌*◌, ◌<◌}
use native.Mathlib.Omega.{arith}
use lib.ListN.{length}
use borrow.Author.Tests.{not-false}
use Rattle.codec.specs.Bytes.{Bytes, same}
use Rattle.codec.specs.Reply.{Test, test, first, None, Taken}
use Rattle.codec.proofs.Laws.{both, same_equal}
use Rattle.codec.proofs.Replies.{taken_exactly}
use Rattle.modular.specs.Roots.{is_root, Root}
use Rattle.ring.specs.Poly.{Below}
use Rattle.ring.specs.Slots.{poly}
use Rattle.ring.proofs.Ranges.{below_sound, below_complete}
use Rattle.ring_transform.proofs.Roots.{root_sound, root_complete}
use Rattle.sheet.specs.Sheet.{order}
use Rattle.scratch.specs.Call.{scratch_length, length_test, bytes_below, coefficients_below}
use Rattle.bgv.specs.Scheme.{within, lent_mask}
use Rattle.commitment.specs.Parameters.{parameters_of}
use Rattle.round.specs.Accepted.{EachBelow}
use Rattle.round.proofs.Many.{append_none, none_append}
use Rattle.round.proofs.Ranged.{each_exactly}
use Rattle.round.proofs.Tests.{within_sound, within_complete}
use Rattle.scheme.specs.Orders.{keygen_order, encrypt_order, decrypt_order, split_order, share_order, reconstruct_order, commitment_order, product_order, multiply_order}
use Rattle.session_histories.specs.Conditions.{SheetTaken}
use Rattle.session_histories.proofs.Valid.{bytes_pass, sheet_exactly}
use Rattle.claims.specs.Scheme.{Keygens, Encrypts, Decrypts, Splits, Shares, Reconstructs, CommitsTo, Products, Multiplies}

-- ---- ranges of several slices

-- two tests
and_exactly : {a b : Bool} {A B : Type 0} → (a ≡ true) ↔ A → (b ≡ true) ↔ B → ((a && b) ≡ true) ↔ (A × B)
and_exactly {a} {b} f g = (λ e. let h = both a b e in (f.0 h.0, g.0 h.1), λ h. ap₂ ◌&&◌ (f.1 h.0) (g.1 h.1))

-- each slice has the property
abbrev Every : (Bytes → Type 0) → List Bytes → Type 0
Every Q [] = Unit
Every Q (s ∷ ss) = Q s × Every Q ss

bytes_exactly : (v : ℕ) (ss : List Bytes) → (bytes_below v ss ≡ true) ↔ Every (λ s. EachBelow v s) ss
bytes_exactly v [] = (λ e. tt, λ h. refl)
bytes_exactly v (s ∷ ss) = and_exactly (each_exactly v s) (bytes_exactly v ss)

pub coefficients_exactly : (q n : ℕ) (ss : List Bytes) → (coefficients_below q n ss ≡ true) ↔ Every (λ s. Below q n (poly s)) ss
coefficients_exactly q n [] = (λ e. tt, λ h. refl)
coefficients_exactly q n (s ∷ ss) = and_exactly (below_sound q n (poly s), below_complete q n (poly s)) (coefficients_exactly q n ss)

-- ---- lengths

-- each number is the one that is wanted
abbrev Match : (lengths wanted : List ℕ) → Type 0
Match [] [] = Unit
Match [] (y ∷ ys) = ⊥
Match (x ∷ xs) [] = ⊥
Match (x ∷ xs) (y ∷ ys) = (x ≡ y) × Match xs ys

match_says : (xs ys : List ℕ) → xs ≡ ys → Match xs ys
match_says xs ys e = rw (← e) (itself xs)
  where
    itself : (zs : List ℕ) → Match zs zs
    itself [] = tt
    itself (z ∷ zs) = (refl, itself zs)

matched : (xs ys : List ℕ) → Match xs ys → xs ≡ ys
matched [] [] h = refl
matched [] (y ∷ ys) h = absurd h
matched (x ∷ xs) [] h = absurd h
matched (x ∷ xs) (y ∷ ys) h = ap₂ (λ (n : ℕ) (l : List ℕ). n ∷ l) h.0 (matched xs ys h.1)

-- ---- a call that is lent the sheet: its lengths, and what comes after them

pub sized_exactly : (text : Bytes) (xs ys : List ℕ) (ts : List Test) → None (order text ++ (length_test xs ys ∷ ts)) ↔ (SheetTaken text × Match xs ys × None ts)
sized_exactly text xs ys ts =
    let own = length_test xs ys ∷ ts in (
      λ n. let h = append_none (order text) own n in ((sheet_exactly text).0 h.0, match_says xs ys (same_equal xs ys (not-false (same xs ys) h.1.0)), h.1.1),
      λ h. none_append (order text) own ((sheet_exactly text).1 h.0) (bytes_pass (matched xs ys h.1), h.2),
    )

-- its ranges next
sheet_call : (text : Bytes) (xs ys : List ℕ) {ranged : Bool} {Ranges : Type 0} → (ranged ≡ true) ↔ Ranges → (ts : List Test)
    → (first (order text ++ (length_test xs ys ∷ test 5 0 (not ranged) ∷ ts)) ≡ Taken) ↔ (SheetTaken text × Match xs ys × Ranges × None ts)
sheet_call text xs ys {ranged} ranges ts =
    let sized = sized_exactly text xs ys (test 5 0 (not ranged) ∷ ts) in
    Iff.trans (taken_exactly _) (
      λ n. let h = sized.0 n in (h.0, h.1, ranges.0 (not-false ranged h.2.0), h.2.1),
      λ h. sized.1 (h.0, h.1, (ap not (ranges.1 h.2), h.3)),
    )

-- the test of a root
pub root_exactly : (q N w : ℕ) → 0 < q → (is_root q N w ≡ true) ↔ Root q N w
root_exactly q N w h = (root_sound q N w h, root_complete q N w h)

module _ (text : Bytes) where
  open parameters_of text use {q, N, p, B}

  pub keygen_exactly : (s e b scratch : Bytes) → (first (keygen_order text s e b scratch) ≡ Taken) ↔ Keygens text s e b scratch
  keygen_exactly s e b scratch =
      let lengths = length s ∷ length e ∷ length b ∷ length scratch ∷ [] in
      let call = sheet_call text lengths (N ∷ N ∷ 8 * N ∷ scratch_length ∷ []) (bytes_exactly 3 (s ∷ e ∷ [])) [] in
      Iff.trans call (
        λ h. record {
          served = record { sheet = h.0; scratch_size = h.1.1.1.1.0 };
          secret = record { size = h.1.0; below = h.2.0 };
          error = record { size = h.1.1.0; below = h.2.1.0 };
          key_size = h.1.1.1.0;
        },
        λ w. (w.served.sheet, (w.secret.size, (w.error.size, (w.key_size, (w.served.scratch_size, tt)))), (w.secret.below, (w.error.below, tt)), tt),
      )

  pub encrypt_exactly : (r e1 e2 m ciphertext scratch : Bytes) → (first (encrypt_order text r e1 e2 m ciphertext scratch) ≡ Taken) ↔ Encrypts text r e1 e2 m ciphertext scratch
  encrypt_exactly r e1 e2 m ciphertext scratch =
      let lengths = length r ∷ length e1 ∷ length e2 ∷ length m ∷ length ciphertext ∷ length scratch ∷ [] in
      let call = sheet_call text lengths (N ∷ N ∷ N ∷ N ∷ 16 * N ∷ scratch_length ∷ []) (and_exactly (bytes_exactly 3 (r ∷ e1 ∷ e2 ∷ [])) (bytes_exactly p (m ∷ []))) [] in
      Iff.trans call (
        λ h. record {
          served = record { sheet = h.0; scratch_size = h.1.1.1.1.1.1.0 };
          random = record { size = h.1.0; below = h.2.0.0 };
          error1 = record { size = h.1.1.0; below = h.2.0.1.0 };
          error2 = record { size = h.1.1.1.0; below = h.2.0.1.1.0 };
          message = record { size = h.1.1.1.1.0; below = h.2.1.0 };
          ciphertext_size = h.1.1.1.1.1.0;
        },
        λ w. (w.served.sheet, (w.random.size, (w.error1.size, (w.error2.size, (w.message.size, (w.ciphertext_size, (w.served.scratch_size, tt)))))), ((w.random.below, (w.error1.below, (w.error2.below, tt))), (w.message.below, tt)), tt),
      )

  pub decrypt_exactly : (s ciphertext vote scratch : Bytes) → (first (decrypt_order text s ciphertext vote scratch) ≡ Taken) ↔ Decrypts text s ciphertext vote scratch
  decrypt_exactly s ciphertext vote scratch =
      let lengths = length s ∷ length ciphertext ∷ length vote ∷ length scratch ∷ [] in
      let call = sheet_call text lengths (N ∷ 16 * N ∷ N ∷ scratch_length ∷ []) (and_exactly (bytes_exactly 3 (s ∷ [])) (coefficients_exactly q (2 * N) (ciphertext ∷ []))) [] in
      Iff.trans call (
        λ h. record {
          served = record { sheet = h.0; scratch_size = h.1.1.1.1.0 };
          secret = record { size = h.1.0; below = h.2.0.0 };
          both_halves = record { size = omega (arith, h.1.1.0); below = h.2.1.0 };
          vote_size = h.1.1.1.0;
        },
        λ w. (w.served.sheet, (w.secret.size, (omega (arith, w.both_halves.size), (w.vote_size, (w.served.scratch_size, tt)))), ((w.secret.below, tt), (w.both_halves.below, tt)), tt),
      )

  pub split_exactly : (s e s0 e0 out scratch : Bytes) → (first (split_order text s e s0 e0 out scratch) ≡ Taken) ↔ Splits text s e s0 e0 out scratch
  split_exactly s e s0 e0 out scratch =
      let lengths = length s ∷ length e ∷ length s0 ∷ length e0 ∷ length out ∷ length scratch ∷ [] in
      let call = sheet_call text lengths (N ∷ N ∷ 8 * N ∷ 8 * N ∷ 32 * N ∷ scratch_length ∷ []) (and_exactly (bytes_exactly 3 (s ∷ e ∷ [])) (coefficients_exactly q N (s0 ∷ e0 ∷ []))) [] in
      Iff.trans call (
        λ h. record {
          served = record { sheet = h.0; scratch_size = h.1.1.1.1.1.1.0 };
          secret = record { size = h.1.0; below = h.2.0.0 };
          error = record { size = h.1.1.0; below = h.2.0.1.0 };
          secret0 = record { size = h.1.1.1.0; below = h.2.1.0 };
          error0 = record { size = h.1.1.1.1.0; below = h.2.1.1.0 };
          out_size = h.1.1.1.1.1.0;
        },
        λ w. (w.served.sheet, (w.secret.size, (w.error.size, (w.secret0.size, (w.error0.size, (w.out_size, (w.served.scratch_size, tt)))))), ((w.secret.below, (w.error.below, tt)), (w.secret0.below, (w.error0.below, tt))), tt),
      )

  pub share_exactly : (half u mask t scratch : Bytes) → (first (share_order text half u mask t scratch) ≡ Taken) ↔ Shares text half u mask t scratch
  share_exactly half u mask t scratch =
      let lengths = length half ∷ length u ∷ length mask ∷ length t ∷ length scratch ∷ [] in
      let call = sheet_call text lengths (8 * N ∷ 8 * N ∷ 8 * N ∷ 8 * N ∷ scratch_length ∷ []) (coefficients_exactly q N (half ∷ u ∷ [])) (test 12 0 (not (within B N (lent_mask mask))) ∷ []) in
      Iff.trans call (
        λ h. record {
          served = record { sheet = h.0; scratch_size = h.1.1.1.1.1.0 };
          key_half = record { size = h.1.0; below = h.2.0 };
          cipher_half = record { size = h.1.1.0; below = h.2.1.0 };
          mask_size = h.1.1.1.0;
          masked = within_sound B N (lent_mask mask) (not-false _ h.3.0);
          share_size = h.1.1.1.1.0;
        },
        λ w. (w.served.sheet, (w.key_half.size, (w.cipher_half.size, (w.mask_size, (w.share_size, (w.served.scratch_size, tt))))), (w.key_half.below, (w.cipher_half.below, tt)), (ap not (within_complete B N (lent_mask mask) w.masked), tt)),
      )

  pub reconstruct_exactly : (v t0 t1 vote scratch : Bytes) → (first (reconstruct_order text v t0 t1 vote scratch) ≡ Taken) ↔ Reconstructs text v t0 t1 vote scratch
  reconstruct_exactly v t0 t1 vote scratch =
      let lengths = length v ∷ length t0 ∷ length t1 ∷ length vote ∷ length scratch ∷ [] in
      let call = sheet_call text lengths (8 * N ∷ 8 * N ∷ 8 * N ∷ N ∷ scratch_length ∷ []) (coefficients_exactly q N (v ∷ t0 ∷ t1 ∷ [])) [] in
      Iff.trans call (
        λ h. record {
          served = record { sheet = h.0; scratch_size = h.1.1.1.1.1.0 };
          cipher_half = record { size = h.1.0; below = h.2.0 };
          share0 = record { size = h.1.1.0; below = h.2.1.0 };
          share1 = record { size = h.1.1.1.0; below = h.2.1.1.0 };
          vote_size = h.1.1.1.1.0;
        },
        λ w. (w.served.sheet, (w.cipher_half.size, (w.share0.size, (w.share1.size, (w.vote_size, (w.served.scratch_size, tt))))), (w.cipher_half.below, (w.share0.below, (w.share1.below, tt))), tt),
      )

  pub commitment_exactly : (m r pair scratch : Bytes) → (first (commitment_order text m r pair scratch) ≡ Taken) ↔ CommitsTo text m r pair scratch
  commitment_exactly m r pair scratch =
      let lengths = length m ∷ length r ∷ length pair ∷ length scratch ∷ [] in
      let call = sheet_call text lengths (8 * N ∷ 3 * N ∷ 16 * N ∷ scratch_length ∷ []) (and_exactly (bytes_exactly 3 (r ∷ [])) (coefficients_exactly q N (m ∷ []))) [] in
      Iff.trans call (
        λ h. record {
          served = record { sheet = h.0; scratch_size = h.1.1.1.1.0 };
          message = record { size = h.1.0; below = h.2.1.0 };
          random = record { size = h.1.1.0; below = h.2.0.0 };
          pair_size = h.1.1.1.0;
        },
        λ w. (w.served.sheet, (w.message.size, (w.random.size, (w.pair_size, (w.served.scratch_size, tt)))), ((w.random.below, tt), (w.message.below, tt)), tt),
      )

  module _ (x y product scratch : Bytes) where
    -- the lengths of what is lent, and those that are wanted
    abbrev pub lent : List ℕ
    lent = length x ∷ length y ∷ length product ∷ length scratch ∷ []

    abbrev pub wanted : List ℕ
    wanted = 8 * N ∷ 8 * N ∷ 8 * N ∷ scratch_length ∷ []

    pub product_exactly : (first (product_order text x y product scratch) ≡ Taken) ↔ Products text x y product scratch
    product_exactly = Iff.trans (sheet_call text lent wanted (coefficients_exactly q N (x ∷ y ∷ [])) []) (
      λ h. record {
        served = record { sheet = h.0; scratch_size = h.1.1.1.1.0 };
        one = record { size = h.1.0; below = h.2.0 };
        other = record { size = h.1.1.0; below = h.2.1.0 };
        product_size = h.1.1.1.0;
      },
      λ p. (p.served.sheet, (p.one.size, (p.other.size, (p.product_size, (p.served.scratch_size, tt)))), (p.one.below, (p.other.below, tt)), tt),
    )

    module _ (w : ℕ) where
      -- taken exactly if the plain method is, with a root
      pub multiply_as_product : (first (multiply_order text x y w product scratch) ≡ Taken) ↔ ((first (product_order text x y product scratch) ≡ Taken) × Root q N w)
      multiply_as_product =
          let ranges = test 5 0 (not (coefficients_below q N (x ∷ y ∷ []))) ∷ [] in
          let both = sized_exactly text lent wanted (test 37 0 (not (is_root q N w)) ∷ ranges) in
          let plain = sized_exactly text lent wanted ranges in
          let rooted : SheetTaken text → (is_root q N w ≡ true) ↔ Root q N w = λ s. root_exactly q N w (omega (arith, s.inside.modulus_low)) in (
            λ e. let h = both.0 ((taken_exactly _).0 e) in ((taken_exactly _).1 (plain.1 (h.0, h.1, h.2.1)), (rooted h.0).0 (not-false _ h.2.0)),
            λ t. let h = plain.0 ((taken_exactly _).0 t.0) in (taken_exactly _).1 (both.1 (h.0, h.1, (ap not ((rooted h.0).1 t.1), h.2))),
          )

      pub multiply_exactly : (first (multiply_order text x y w product scratch) ≡ Taken) ↔ Multiplies text x y w product scratch
      multiply_exactly = Iff.trans multiply_as_product (λ h. record { products = product_exactly.0 h.0; root = h.1 }, λ m. (product_exactly.1 m.products, m.root))
