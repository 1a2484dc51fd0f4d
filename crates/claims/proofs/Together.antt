-- Definition 1 of document 000 over what the exported calls write (`DecryptsTogether`, specs/Papers.antt). Assumes nothing.
use mathlib.Core.Path.{◌≡◌, sym, ap, ◌∙◌}
use mathlib.Core.Bool.{true}
use mathlib.Core.List.{List, [], ◌∷◌}
use Prim.Native.Nat.{ℕ, ◌*◌, ◌<◌}
use native.Mathlib.Omega.{arith}
use borrow.Author.Tests.{not-false}
use lib.ListN.{length, get_or}
use Rattle.codec.specs.Bytes.{Bytes, part, same}
use Rattle.codec.specs.Reply.{None}
use Rattle.codec.specs.Lists.{list, all_below}
use Rattle.codec.proofs.Laws.{both, part_whole}
use Rattle.codec.proofs.Lists.{all_below_sound, list_cong, list_get_d}
use Rattle.codec.proofs.Replies.{taken_exactly}
use Rattle.ring.specs.Poly.{Poly, plus, modulo, Alike}
use Rattle.ring.specs.Slots.{coefficient_bytes, poly}
use Rattle.ring.specs.Ternary.{ternary}
use Rattle.ring.proofs.Bridge.{length_encode, slot_poly}
use Rattle.ring.proofs.Polynomials.{alike_eq, alike_refl, alike_sym, ◌so◌, alike_plus}
use Rattle.modular.proofs.Congruence.{same_eq}
use Rattle.sheet_numbers.specs.Plain.{plain}
use Rattle.sheet.specs.Reader.{sheet_of}
use Rattle.sheet.specs.Sheet.{order}
use Rattle.scratch.specs.Call.{scratch_length, bytes_below, coefficients}
use Rattle.scratch.proofs.Order.{length_at}
use Rattle.bgv.specs.Scheme.{Bounded, Small, key, cipher_u, cipher_v, noise_in, decrypted, other, share, lent_mask}
use Rattle.bgv.specs.Internal.{Sound}
use Rattle.bgv.proofs.Ballot.{honest_noise, honest_decrypts}
use Rattle.bgv.proofs.Form.{halves, noise_alike}
use Rattle.bgv.proofs.Round as round
use Rattle.commitment.proofs.Opening.{encode_decides}
use Rattle.scheme.specs.Calls.{encrypt_tests, share_tests, encrypt_writes, split_writes, share_writes, keygen_writes, decrypt_writes, reconstruct_writes}
use Rattle.stern.proofs.Honest.{slot_alike}
use Rattle.stern.proofs.Layouts.{part_first, part_rest}
use Rattle.round_shares.proofs.ShareAlgebra.{plain_alike}
use Rattle.commitment.specs.Parameters.{Parameters, parameters_of}
use Rattle.round.proofs.ExtractionSizes.{small_alike, small_ternary}
use Rattle.round.proofs.Many.{append_none}
use Rattle.round.proofs.Tests.{within_sound}
use Rattle.scheme.specs.Orders.{key_of, ciphertext_of, vote_of, split_of, share_of, vote_of_shares}
use Rattle.session_histories.specs.Conditions.{SheetTaken}
use Rattle.session_histories.proofs.Valid.{sheet_exactly}
use Rattle.claims.specs.Papers.{DecryptsTogether}
use Rattle.claims.proofs.Papers.{sound}
use Rattle.claims.proofs.Produces.{positive, fits}

module _ (text : Bytes) (sheet : None (order text)) where
  abbrev P : Parameters
  P = parameters_of text

  open P use {q, N, p, B, D, a, b}

  taken : SheetTaken text
  taken = (sheet_exactly text).0 sheet

  ok : Sound q p D B
  ok = sound text taken

  short : (t : Bytes) → Small q N 1 (ternary q t)
  short t = small_ternary q ok.odd N t (let r = taken.inside.modulus_low in omega arith)

  -- a polynomial that is written is read as it was
  read : (f : Poly) → Alike q N (poly (coefficient_bytes q N f)) f
  read f = record { at = λ k l. same_eq (sym (slot_poly (coefficient_bytes q N f) k)) } so slot_alike q N (positive text taken) (fits text taken) (coefficient_bytes q N f) 0 f
      (ap (part (coefficient_bytes q N f) 0) (sym (length_encode N (modulo q f))) ∙ part_whole (coefficient_bytes q N f))

  -- ---- a ciphertext of m

  module _ (s e r e1 e2 m : Bytes) (matches : key_of text s e ≡ coefficient_bytes q N b) (long : length m ≡ N) (message : (i : ℕ) → i < N → get_or m i 0 < p) where
    abbrev c : Bytes
    c = ciphertext_of text r e1 e2 m

    abbrev uf : Poly
    uf = cipher_u q N p a (ternary q r) (ternary q e1)

    abbrev vf : Poly
    vf = cipher_v q N p b (ternary q r) (ternary q e2) (coefficients m)

    halves_of : (part c 0 (8 * N) ≡ coefficient_bytes q N uf) × (part c (8 * N) (8 * N) ≡ coefficient_bytes q N vf)
    unfolding encrypt_writes
    halves_of = (part_first (coefficient_bytes q N uf) (coefficient_bytes q N vf) (8 * N) (length_encode N (modulo q uf)), part_rest (coefficient_bytes q N uf) (coefficient_bytes q N vf) (8 * N) (8 * N) (length_encode N (modulo q uf)) (length_encode N (modulo q vf)))

    key_matches_lem : Alike q N (key q N p a (ternary q s) (ternary q e)) b
    unfolding keygen_writes
    key_matches_lem = encode_decides q N (positive text taken) (fits text taken) matches

    noise : Small q N D (noise_in q N (ternary q s) uf vf)
    noise = honest_noise ok (omega arith) a b (ternary q s) (ternary q e) (ternary q r) (ternary q e1) (ternary q e2) (coefficients m) (short s) (short e) (short r) (short e1) (short e2) message key_matches_lem

    votes : list N (decrypted q N p (ternary q s) uf vf) ≡ m
    votes =
        list_cong N (honest_decrypts ok (omega arith) a b (ternary q s) (ternary q e) (ternary q r) (ternary q e1) (ternary q e2) (coefficients m) (short s) (short e) (short r) (short e1) (short e2) message key_matches_lem)
        ∙ ap (λ (k : ℕ). list k (coefficients m)) (sym long) ∙ list_get_d m

    decrypts : vote_of text s c ≡ m
    unfolding decrypt_writes
    decrypts =
        plain_alike p
        (noise_alike q N (ternary q s) (slot_alike q N (positive text taken) (fits text taken) c 0 uf halves_of.0) (slot_alike q N (positive text taken) (fits text taken) c (8 * N) vf halves_of.1))
        ∙ votes

    -- ---- two shares of it

    abbrev u : Bytes
    u = part c 0 (8 * N)

    abbrev v : Bytes
    v = part c (8 * N) (8 * N)

    module _ (s0 e0 mask0 mask1 : Bytes) (bounded0 : Bounded N B (lent_mask mask0)) (bounded1 : Bounded N B (lent_mask mask1)) where
      abbrev s1 : Bytes
      s1 = part (split_of text s e s0 e0) 0 (8 * N)

      other_half : s1 ≡ coefficient_bytes q N (other q (ternary q s) (poly s0))
      unfolding split_writes
      other_half = part_first (coefficient_bytes q N (other q (ternary q s) (poly s0))) _ (8 * N) (length_encode N (modulo q (other q (ternary q s) (poly s0))))

      adds : Alike q N (plus (poly s0) (poly s1)) (ternary q s)
      adds =
          alike_plus alike_refl (alike_eq (ap poly other_half) so read (other q (ternary q s) (poly s0))) so halves (ternary q s) (poly s0) (positive text taken)

      u_alike : Alike q N (poly u) uf
      u_alike = alike_eq (ap poly halves_of.0) so read uf

      v_alike : Alike q N (poly v) vf
      v_alike = alike_eq (ap poly halves_of.1) so read vf

      noise_same : Alike q N (noise_in q N (ternary q s) (poly u) (poly v)) (noise_in q N (ternary q s) uf vf)
      noise_same = noise_alike q N (ternary q s) u_alike v_alike

      made : (half mask : Bytes) → Alike q N (poly (share_of text half u mask)) (share q N p (poly half) (poly u) (lent_mask mask))
      unfolding share_writes
      made half mask = read (share q N p (poly half) (poly u) (lent_mask mask))

      reconstructs : vote_of_shares text v (share_of text s0 u mask0) (share_of text s1 u mask1) ≡ m
      unfolding reconstruct_writes
      reconstructs =
          list_cong N (round.reconstructs ok (poly s0) (poly s1) (ternary q s) (poly u) (poly v) (poly (share_of text s0 u mask0)) (poly (share_of text s1 u mask1)) (lent_mask mask0) (lent_mask mask1) adds
          (made s0 mask0) (made s1 mask1) (small_alike D (alike_sym noise_same) noise) bounded0 bounded1)
          ∙ plain_alike p noise_same
          ∙ votes

pub decrypts_together : DecryptsTogether
decrypts_together text s e s0 e0 r e1 e2 m mask0 mask1 room0 room1 room2 room3 scratch0 scratch1 scratch2 scratch3 matches encrypts splits share0 share1 =
    let P = parameters_of text in
    let k = (sheet_of text).numbers in
    let parts = append_none (order text) (encrypt_tests k r e1 e2 m room0 scratch0) ((taken_exactly _).0 encrypts) in
    let sizes : List ℕ = length r ∷ length e1 ∷ length e2 ∷ length m ∷ length room0 ∷ length scratch0 ∷ [] in
    let wanted : List ℕ = k.ring ∷ k.ring ∷ k.ring ∷ k.ring ∷ 16 * k.ring ∷ scratch_length ∷ [] in
    let long = length_at sizes wanted 3 (not-false (same sizes wanted) parts.1.0) in
    let below = (both (all_below (plain k) m) true (both (bytes_below 3 (r ∷ e1 ∷ e2 ∷ [])) (bytes_below (plain k) (m ∷ [])) (not-false _ parts.1.1.0)).1).0 in
    let message : (i : ℕ) → i < P.N → get_or m i 0 < P.p = λ i l. all_below_sound P.p m below i (omega (arith, long)) in
    let c = ciphertext_of text r e1 e2 m in
    let u = part c 0 (8 * P.N) in
    let s1 = part (split_of text s e s0 e0) 0 (8 * P.N) in
    let b0 = within_sound P.B P.N (lent_mask mask0) (not-false _ (append_none (order text) (share_tests k s0 u mask0 room2 scratch2) ((taken_exactly _).0 share0)).1.1.1.0) in
    let b1 = within_sound P.B P.N (lent_mask mask1) (not-false _ (append_none (order text) (share_tests k s1 u mask1 room3 scratch3) ((taken_exactly _).0 share1)).1.1.1.0) in
    (decrypts text parts.0 s e r e1 e2 m matches long message, reconstructs text parts.0 s e r e1 e2 m matches long message s0 e0 mask0 mask1 b0 b1)
