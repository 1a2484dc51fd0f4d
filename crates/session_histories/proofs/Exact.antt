-- Clear, claim, commit and draw are taken exactly if their conditions hold; for admit, withdraw and close: ExactGathering.antt. Assumes nothing.
use mathlib.Core.Path.{◌≡◌, ap, ap₂}
use mathlib.Core.Logic.{◌↔◌}
use mathlib.Core.Bool.{not, ◌&&◌}
use mathlib.Core.List.{List, [], ◌∷◌}
use Prim.Native.Nat.{ℕ, ◌*◌}
use lib.ListN.{length}
use borrow.Author.Tests.{eqb-true, eq-eqb, not-false}
use Rattle.codec.specs.Bytes.{Bytes, same}
use Rattle.codec.specs.Reply.{None, first, Taken}
use Rattle.codec.proofs.Laws.{both}
use Rattle.scratch.proofs.Order.{length_at}
use Rattle.sheet_numbers.specs.Plain.{plain}
use Rattle.round.specs.Layout.{head_length}
use Rattle.round.proofs.Ranged.{each_exactly}
use Rattle.session.specs.declared.Session.{Session}
use Rattle.session.specs.Steps.{Beginning, clear_tests, claim_tests, commit_tests, draw_tests}
use Rattle.session_histories.specs.Conditions.{Clears, Claims, Commits, Draws}
use Rattle.session_histories.proofs.Valid.{numbers_match, numbers_pass, bytes_pass, ready, is_ready, on_turn, is_turn, sheet_exactly}
use Rattle.session_histories.proofs.ExactGathering.{by_order}

pub cleared_exactly : (reg : Bytes) (b : Beginning) → (first (clear_tests reg b) ≡ Taken) ↔ Clears reg b
unfolding clear_tests
cleared_exactly reg b =
    by_order _ (λ n. record { register_size = numbers_match n.0; sheet = (sheet_exactly b.sheet).0 n.1 })
    (λ c. (numbers_pass c.register_size, (sheet_exactly b.sheet).1 c.sheet))

-- ---- claim, commit, draw

claims_says : (s : Session) (claims : Bytes) → None (claim_tests s claims) → Claims s claims
unfolding claim_tests
claims_says s claims n =
    let r = ready s _ n.0 in
    record { sound = r.0; phase = eqb-true _ _ r.1; size = numbers_match n.1.0; votes = (each_exactly (plain s.numbers) claims).0 (not-false _ n.1.1.0) }

claims_holds : (s : Session) (claims : Bytes) → Claims s claims → None (claim_tests s claims)
unfolding claim_tests
claims_holds s claims c = (is_ready s c.sound (eq-eqb s.progress.phase 1 c.phase), (numbers_pass c.size, (ap not ((each_exactly (plain s.numbers) claims).1 c.votes), tt)))

pub claimed_exactly : (s : Session) (claims : Bytes) → (first (claim_tests s claims) ≡ Taken) ↔ Claims s claims
claimed_exactly s claims = by_order _ (claims_says s claims) (claims_holds s claims)

module _ (s : Session) (round : ℕ) (head shares0 shares1 : Bytes) where
  abbrev lengths : List ℕ
  lengths = length head ∷ length shares0 ∷ length shares1 ∷ []

  abbrev right : List ℕ
  right = head_length s.numbers.ring s.numbers.repeats ∷ 8 * s.numbers.ring * s.progress.closed ∷ 8 * s.numbers.ring * s.progress.closed ∷ []

  commits_says : None (commit_tests s round head shares0 shares1) → Commits s round head shares0 shares1
  unfolding commit_tests
  commits_says n =
      let r = ready s _ n.0 in
      let t = on_turn s.progress.phase 2 round s.progress.committed s.numbers.rounds r.1 in
      let sized = not-false (same lengths right) n.1.0 in
      record {
        sound = r.0;
        phase = t.0;
        due = t.1;
        within = t.2;
        head_size = length_at lengths right 0 sized;
        shares0_size = length_at lengths right 1 sized;
        shares1_size = length_at lengths right 2 sized;
      }

  commits_holds : Commits s round head shares0 shares1 → None (commit_tests s round head shares0 shares1)
  unfolding commit_tests
  commits_holds c = (is_ready s c.sound (is_turn c.phase c.due c.within), (bytes_pass (cc (c.head_size, c.shares0_size, c.shares1_size)), tt))

pub committed_exactly : (s : Session) (round : ℕ) (head shares0 shares1 : Bytes)
    → (first (commit_tests s round head shares0 shares1) ≡ Taken) ↔ Commits s round head shares0 shares1
committed_exactly s round head shares0 shares1 = by_order _ (commits_says s round head shares0 shares1) (commits_holds s round head shares0 shares1)

draws_says : (s : Session) (seed : Bytes) → None (draw_tests s seed) → Draws s seed
unfolding draw_tests
draws_says s seed n =
    let r = ready s _ n.0 in
    let t = both _ _ r.1 in
    record { sound = r.0; phase = eqb-true _ _ t.0; all = eqb-true _ _ t.1; size = numbers_match n.1.0 }

draws_holds : (s : Session) (seed : Bytes) → Draws s seed → None (draw_tests s seed)
unfolding draw_tests
draws_holds s seed d = (is_ready s d.sound (ap₂ ◌&&◌ (eq-eqb s.progress.phase 2 d.phase) (eq-eqb s.progress.committed s.numbers.rounds d.all)), (numbers_pass d.size, tt))

pub drawn_exactly : (s : Session) (seed : Bytes) → (first (draw_tests s seed) ≡ Taken) ↔ Draws s seed
drawn_exactly s seed = by_order _ (draws_says s seed) (draws_holds s seed)
