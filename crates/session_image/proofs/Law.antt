-- The image of a session, read back, is the session; and the session of an image, written, is the image. Assumes nothing.
use mathlib.Core.Path.{◌≡◌, refl, sym, ap, ◌∙◌}
use mathlib.Core.List.{[], ◌∷◌, ◌++◌, append_assoc, flatten}
use Prim.Native.Nat.{ℕ, ◌+◌, ◌≤◌, ◌<◌, ◌^◌}
use Prim.Native.String.{String}
use native.Mathlib.Omega.{arith}
use lib.ListN.{length, get_or, length-append}
use lib.Seq.{take-suc}
use Rattle.codec.specs.Bytes.{Bytes, Octets, bytes, number, part, put}
use Rattle.codec.proofs.Laws.{length_part, octets_part, part_whole, put_whole, written_behind}
use Rattle.codec.proofs.Numbers.{length_bytes, number_bytes, bytes_number}
use Rattle.session_digests.proofs.Laws.{flatten_append}
use Rattle.session.specs.declared.Session.{Session}
use Rattle.session_image.specs.Image.{image_length, size, contents_of, start, head_fields, batch_fields, round_fields, fields, at, image_of, decode}
use Rattle.session_image.specs.Internal.{Typed}
use Rattle.session_image.proofs.Pieces.{Fits, fits_append, length_values, named, taken_out, cut, flatten_cut}

-- ---- of a session

module _ (s : Session) where
  pub fits_head : length s.sheet ≡ 32 → Fits head_fields s
  fits_head sheet = (refl, (length_bytes 8 _, (length_bytes 8 _, (length_bytes 8 _, (length_bytes 8 _, (length_bytes 8 _, (sheet, tt)))))))

  pub fits_batch : length s.closing ≡ 32 → length s.claim ≡ 32 → Fits batch_fields s
  fits_batch closing claim = (length_bytes 8 _, (length_bytes 8 _, (closing, (claim, tt))))

  pub fits_rounds : length s.seed ≡ 32 → length s.trail ≡ 4096 → Fits round_fields s
  fits_rounds seed trail = (length_bytes 8 _, (seed, (length_bytes 8 _, (trail, tt))))

module _ (s : Session) (t : Typed s) where
  h : Fits head_fields s
  h = fits_head s t.sheet_long

  m : Fits batch_fields s
  m = fits_batch s t.closing_long t.claim_long

  r : Fits round_fields s
  r = fits_rounds s t.seed_long t.trail_long

  fits : Fits fields s
  fits = fits_append head_fields (batch_fields ++ round_fields) s h (fits_append batch_fields round_fields s m r)

  -- every image has one length
  pub length_encode : length (image_of s) ≡ image_length
  unfolding image_of
  length_encode = length_values fields s fits

  -- the three groups of fields, written one behind the other
  pub written : (d : Bytes) → length d ≡ image_length
      → put (put (put d 0 (flatten (contents_of head_fields s))) (size head_fields) (flatten (contents_of batch_fields s))) (size head_fields + size batch_fields) (flatten (contents_of round_fields s)) ≡ image_of s
  unfolding image_of
  written d l =
      let first = flatten (contents_of head_fields s) in
      let second = flatten (contents_of batch_fields s) in
      let third = flatten (contents_of round_fields s) in
      let i = length_values head_fields s h in
      let j = length_values batch_fields s m in
      let k = length_values round_fields s r in
      let lb : length (first ++ second) ≡ size head_fields + size batch_fields = length-append first second ∙ omega arith in
      let w = written_behind d _ _ first second 0 (size head_fields) (omega arith) (omega arith) refl refl in
      let v = written_behind d _ _ (first ++ second) third 0 (size head_fields + size batch_fields) (omega arith) (omega arith) w refl in
      v ∙ put_whole d ((first ++ second) ++ third) (length-append (first ++ second) third ∙ omega arith)
      ∙ append_assoc first second third
      ∙ ap (λ (u : Bytes). first ++ u) (sym (flatten_append (contents_of batch_fields s) (contents_of round_fields s)))
      ∙ sym (flatten_append (contents_of head_fields s) (contents_of batch_fields s ++ contents_of round_fields s))

  -- a number that stands in a field of eight bytes
  word : (name : String) (v : ℕ) → named fields name s ≡ bytes 8 v → v < 2 ^ 64 → number (at (flatten (contents_of fields s)) name) ≡ v
  word name v e h = ap number (taken_out fields s name fits ∙ e) ∙ number_bytes 8 v h

  -- the phase stands first
  first : get_or (flatten (contents_of fields s)) 0 0 ≡ s.progress.phase
  unfolding flatten
  first = refl

  -- written, then read
  pub load_store : decode (image_of s) ≡ s
  unfolding image_of decode
  load_store =
      rw (
        first,
        word "ring" s.numbers.ring refl t.ring_fits,
        word "modulus" s.numbers.modulus refl t.modulus_fits,
        word "drown" s.numbers.drown refl t.drown_fits,
        word "rounds" s.numbers.rounds refl t.rounds_fits,
        word "repeats" s.numbers.repeats refl t.repeats_fits,
        taken_out fields s "sheet" fits,
        word "used" s.progress.used refl t.used_fits,
        word "closed" s.progress.closed refl t.closed_fits,
        taken_out fields s "closing" fits,
        taken_out fields s "claim" fits,
        word "committed" s.progress.committed refl t.committed_fits,
        taken_out fields s "seed" fits,
        word "checked" s.progress.checked refl t.checked_fits,
        taken_out fields s "trail" fits,
      )

-- ---- of an image

module _ (b : Bytes) (l : length b ≡ image_length) (o : Octets b) where
  -- a number read and written
  kept : (name : String) → start fields name + 8 ≤ length b → bytes 8 (number (part b (start fields name) 8)) ≡ part b (start fields name) 8
  kept name h =
      let i = start fields name in
      ap (λ (k : ℕ). bytes k (number (part b i 8))) (sym (length_part b i 8 h)) ∙ bytes_number (part b i 8) (octets_part b i 8 o)

  byte_kept : ◌≡◌ {A = Bytes} (get_or b 0 0 ∷ []) (part b 0 1)
  byte_kept = sym (take-suc b 0 0 (omega arith))

  cuts : contents_of fields (decode b) ≡ cut b 0 fields
  unfolding decode
  cuts =
      rw (
        byte_kept,
        kept "ring" (omega arith),
        kept "modulus" (omega arith),
        kept "drown" (omega arith),
        kept "rounds" (omega arith),
        kept "repeats" (omega arith),
        kept "used" (omega arith),
        kept "closed" (omega arith),
        kept "committed" (omega arith),
        kept "checked" (omega arith),
      )

  -- read, then written
  pub store_load : image_of (decode b) ≡ b
  unfolding image_of
  store_load = ap flatten cuts ∙ flatten_cut b 0 fields ∙ ap (λ (n : ℕ). part b 0 n) (sym l) ∙ part_whole b
