-- The orders of claim, commit and draw, refusal by refusal, and what each takes. Assumes nothing.
use mathlib.Core.Path.{◌≡◌}
use mathlib.Core.Logic.{◌≢◌}
use mathlib.Core.Bool.{Bool, true, false, ◌&&◌}
use mathlib.Core.List.{[], ◌∷◌}
use Prim.Native.Nat.{ℕ, ◌*◌}
use lib.Dec.{eqb}
use lib.ListN.{length}
use borrow.Author.Tests.{eq-eqb, ne_eqb}
use Rattle.codec.specs.Bytes.{Bytes, same}
use Rattle.codec.specs.Reply.{first, Taken, Refused}
use Rattle.codec.specs.Lists.{all_below}
use Rattle.sheet_numbers.specs.Plain.{plain}
use Rattle.round.specs.Layout.{head_length}
use Rattle.session_progress.specs.Progress.{closed, commit_due, draw_due}
use Rattle.session.specs.Session.{valid}
use Rattle.session.specs.Steps.{claim_tests, commit_tests, draw_tests}
use Rattle.session.specs.declared.Session.{Session}

-- ---- claim

module _ (s : Session) (claims : Bytes) where
  pub claim_phase : (valid s && eqb s.progress.phase closed) ≡ false → first (claim_tests s claims) ≡ Refused 31 0
  unfolding claim_tests first
  claim_phase e = rw e

  module _ (e : (valid s && eqb s.progress.phase closed) ≡ true) where
    pub claim_length : length claims ≢ s.numbers.ring * s.progress.closed → first (claim_tests s claims) ≡ Refused 1 0
    unfolding claim_tests first
    claim_length l = rw (e, ne_eqb (length claims) (s.numbers.ring * s.progress.closed) l)

    module _ (l : length claims ≡ s.numbers.ring * s.progress.closed) where
      pub claim_range : all_below (plain s.numbers) claims ≡ false → first (claim_tests s claims) ≡ Refused 5 0
      unfolding claim_tests first
      claim_range b = rw (e, eq-eqb (length claims) (s.numbers.ring * s.progress.closed) l, b)

      pub claim_taken : all_below (plain s.numbers) claims ≡ true → first (claim_tests s claims) ≡ Taken
      unfolding claim_tests first
      claim_taken b = rw (e, eq-eqb (length claims) (s.numbers.ring * s.progress.closed) l, b)

-- ---- commit

module _ (s : Session) (round : ℕ) (head shares0 shares1 : Bytes) where
  pub commit_undue : (valid s && commit_due s.numbers s.progress round) ≡ false → first (commit_tests s round head shares0 shares1) ≡ Refused 31 0
  unfolding commit_tests first
  commit_undue e = rw e

  module _ (e : (valid s && commit_due s.numbers s.progress round) ≡ true) {b : Bool}
      (f : b ≡ same (length head ∷ length shares0 ∷ length shares1 ∷ []) (head_length s.numbers.ring s.numbers.repeats ∷ 8 * s.numbers.ring * s.progress.closed ∷ 8 * s.numbers.ring * s.progress.closed ∷ [])) where
    pub commit_length : b ≡ false → first (commit_tests s round head shares0 shares1) ≡ Refused 1 0
    unfolding commit_tests first
    commit_length g = rw (e, ← f, g)

    pub commit_taken : b ≡ true → first (commit_tests s round head shares0 shares1) ≡ Taken
    unfolding commit_tests first
    commit_taken g = rw (e, ← f, g)

-- ---- draw

module _ (s : Session) (seed : Bytes) where
  pub draw_undue : (valid s && draw_due s.numbers s.progress) ≡ false → first (draw_tests s seed) ≡ Refused 31 0
  unfolding draw_tests first
  draw_undue e = rw e

  module _ (e : (valid s && draw_due s.numbers s.progress) ≡ true) where
    pub draw_length : length seed ≢ 32 → first (draw_tests s seed) ≡ Refused 1 0
    unfolding draw_tests first
    draw_length h = rw (e, ne_eqb (length seed) 32 h)

    pub draw_taken : length seed ≡ 32 → first (draw_tests s seed) ≡ Taken
    unfolding draw_tests first
    draw_taken h = rw (e, eq-eqb (length seed) 32 h)
