-- What the claims about lists of calls speak of (the second and the third demand; document 01, the paragraph on demand 3's last sentence). The claims themselves: claims,
-- specs/HostClaims.antt and specs/Withdrawals.antt. Assumes nothing.
use Rattle.std.specs.Prelude.{◌≡◌, ◌≢◌, ◌⊎◌, ℕ, ◌≤◌, length}
use mathlib.Core.List.{Memᴰ, map}
use Rattle.codec.specs.Bytes.{Bytes}
use Rattle.sheet.specs.Reader.{sheet_of}
use Rattle.scratch.specs.Call.{scratch_length}
use Rattle.round.specs.Layout.{ballot_length}
use Rattle.commitment.specs.Parameters.{Parameters, parameters_of}
use Rattle.round.specs.Producer.{Material, MaterialSized, produced_head, produced_shares, produced_claims, produced_opening, produced_answers}
use Rattle.round.specs.Suitable.{Suitable}
use Rattle.session_check.specs.Stored.{Inputs}
use Rattle.register.specs.Register.{mark_at, digest_at, standing}
use Rattle.session_digests.specs.Digests.{ballot_digests, closing_digest}
use Rattle.session_digests.specs.Draw.{drawn_side, drawn_challenges}
use Rattle.session.specs.declared.Session.{Session}
use Rattle.session_progress.specs.Progress.{gathering, closed, claimed, drawn}
use Rattle.session.specs.Machine.{Step, clear, admit, withdraw, close, claim, commit, draw, check}
use Rattle.session_histories.specs.Runs.{History, message}

-- the phase or the round is not that of the step
unfoldable pub Undue : Step → Session → Type 0
Undue (clear b) s = ⊥
Undue (admit ballot) s = s.progress.phase ≢ gathering
Undue (withdraw mark) s = s.progress.phase ≢ gathering
Undue close s = s.progress.phase ≢ gathering
Undue (claim claims) s = s.progress.phase ≢ closed
Undue (commit k head shares0 shares1) s = (s.progress.phase ≢ claimed) ⊎ (k ≢ s.progress.committed) ⊎ (s.numbers.rounds ≤ k)
Undue (draw seed) s = (s.progress.phase ≢ claimed) ⊎ (s.progress.committed ≢ s.numbers.rounds)
Undue (check k x) s = (s.progress.phase ≢ drawn) ⊎ (k ≢ s.progress.checked) ⊎ (s.numbers.rounds ≤ k)

-- a closed session, with the register that was closed and the entries used before: it holds the count and the closing digest of the entries that stand there, and none of them has the mark
pub record ClosedWithout (mark used : ℕ) (reg : Bytes) (s : Session) : Type 0 where
  pub out : (i : ℕ) → Memᴰ i (standing reg used) → mark_at reg i ≢ mark
  pub count : s.progress.closed ≡ length (standing reg used)
  pub digest : s.closing ≡ closing_digest s.sheet (map (digest_at reg) (standing reg used))

-- what the producer makes of material, as a check of round k is lent it: made for the parameters of a sheet, m ballots, and what a seed draws
module _ (P : Parameters) (m : ℕ) (material : Material) (seed : Bytes) (k : ℕ) where
  pub record Produced (x : Inputs) : Type 0 where
    pub sized : MaterialSized P m material  -- 1
    pub suitable : Suitable P m material  -- 5, 14, 12, 9, 15
    pub ballots : x.ballots ≡ material.ballots
    pub claims : x.claims ≡ produced_claims P m material
    pub head : x.head ≡ produced_head P m material
    pub shares0 : x.shares0 ≡ produced_shares P m material 0
    pub shares1 : x.shares1 ≡ produced_shares P m material 1
    pub opening : x.opening ≡ produced_opening P m material (drawn_side seed k)
    pub answers : x.answers ≡ produced_answers P m material (drawn_challenges seed k P.repeats)

-- a round's turn: the check of the round next due after draw, lent the session's sheet and batch, the claims and the first message that were lodged (taken since the last clear), all of it
-- the producer's, and scratch
pub record Turn (s : Session) (h : History) (material : Material) (round : ℕ) (x : Inputs) : Type 0 where
  pub phase : s.progress.phase ≡ drawn
  pub due : round ≡ s.progress.checked
  pub sheet : x.sheet ≡ h.sheet
  pub batch : ballot_digests (ballot_length (sheet_of x.sheet).numbers.ring) (length h.batch) x.ballots ≡ h.batch
  pub claims : x.claims ≡ h.claims
  pub first_message : message x.head x.shares0 x.shares1 ≡ h.firsts round
  pub made : Produced (parameters_of x.sheet) (length h.batch) material s.seed round x
  pub scratch : length x.scratch ≡ scratch_length
