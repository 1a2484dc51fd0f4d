-- Both parts of the first message, from what is promised of each. Assumes nothing.
use mathlib.Core.Path.{◌≡◌, sym, ap, subst, ◌∙◌}
use Prim.Native.Nat.{ℕ, ◌*◌, ◌≤◌}
use lib.ListN.{length, length-replicate}
use Rattle.codec.specs.Bytes.{Bytes, zeros}
use Rattle.sheet_numbers.specs.declared.Numbers.{Numbers}
use Rattle.sheet_numbers.specs.Internal.{Usable}
use Rattle.scratch.specs.Call.{scratch_length}
use Rattle.scratch.specs.Internal.{Polynomial}
use Rattle.round.specs.Producer.{Material, head_bytes, produced_head, produced_shares, produced_claims}
use Rattle.commitment.specs.Parameters.{parameters}
use Rattle.round.specs.Writes.{FirstRoom}
use Rattle.round.specs.Internal.{FirstProduced}
use Rattle.round_lengths.specs.Calls.{count_of}
use Rattle.round_shares.specs.Internal.{Masked, room_of, BallotsWritten}
use Rattle.round_write.specs.Internal.{FirstReady}

-- scratch is zeroed, and then used and zeroed again
pub again : (l : ℕ) (w w' : Bytes) → w ≡ zeros l → w' ≡ zeros (length w) → w' ≡ zeros l
again l w w' e f = f ∙ ap zeros (ap length e ∙ length-replicate l 0)

module _ (k : Numbers) (s : Bytes) (x : Material) {m n : ℕ} (is : n ≡ m) (before after : FirstRoom) (w : Bytes) where
  pub first_produced : (after.head ≡ head_bytes (parameters k s) x.secrets x.s0 x.e0 x.vectors x.permutations x.salts) × (w ≡ zeros (length before.scratch))
      → BallotsWritten k n x.secrets x.s0 x.masks0 x.masks1 x.ballots (room_of before.shares0 before.shares1 before.claims w) (room_of after.shares0 after.shares1 after.claims after.scratch)
      → FirstProduced (parameters k s) m x before after
  unfolding produced_head produced_shares produced_claims
  first_produced h b =
      let f = subst (λ (i : ℕ). BallotsWritten k i x.secrets x.s0 x.masks0 x.masks1 x.ballots (room_of before.shares0 before.shares1 before.claims w) (room_of after.shares0 after.shares1 after.claims after.scratch)) is b in
      record { head = h.0; shares0 = f.shares0; shares1 = f.shares1; claims = f.claims; cleared = again (length before.scratch) w after.scratch h.1 f.cleared }

-- what the writing of shares and claims asks for, with scratch as the head left it
pub ballots_asked : (k : Numbers) (x : Material) (room : FirstRoom) → Usable k → FirstReady k x room → {n : ℕ} → n ≡ count_of k.ring x.ballots → (w : Bytes) → w ≡ zeros (length room.scratch)
    → Usable k × Polynomial k.ring k.modulus x.s0 × (length x.secrets ≡ 14 * k.ring) × (n ≤ 4096) × Masked k.modulus k.ring n x.ballots x.masks0 x.masks1
    × (length room.shares0 ≡ 8 * k.ring * n) × (length room.shares1 ≡ 8 * k.ring * n) × (length room.claims ≡ k.ring * n) × (length w ≡ scratch_length)
ballots_asked k x room u r is w e =
    let f = subst (λ (i : ℕ). (i ≤ 4096) × Masked k.modulus k.ring i x.ballots x.masks0 x.masks1 × (length room.shares0 ≡ 8 * k.ring * i) × (length room.shares1 ≡ 8 * k.ring * i) × (length room.claims ≡ k.ring * i)) (sym is)
    (r.few, r.masked, r.shares0, r.shares1, r.claims) in
    (u, r.s0, r.drawings.secrets_sized, f.0, f.1, f.2, f.3, f.4, ap length e ∙ length-replicate (length room.scratch) 0 ∙ r.scratch)
