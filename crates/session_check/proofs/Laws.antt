-- Laws of the check for what builds on it: 1 and 16 as equations, and what a verdict says of its two replies. Assumes nothing.
use mathlib.Core.Path.{◌≡◌, refl, sym, ap, subst, ◌∙◌}
use mathlib.Core.Logic.{◌↔◌}
use mathlib.Core.Bool.{Bool, true, false, not, ◌&&◌}
use mathlib.Core.List.{[], ◌∷◌}
use Prim.Native.Nat.{ℕ}
use native.Mathlib.Omega.{arith}
use borrow.Author.Tests.{not-false}
use lib.ListN.{length}
use Rattle.codec.specs.Bytes.{Bytes, same}
use Rattle.codec.specs.Reply.{test, None, Reply}
use Rattle.codec.specs.Reply as reply
use Rattle.codec.proofs.Laws.{both, same_refl, same_equal}
use Rattle.codec.proofs.Replies.{not_taken}
use Rattle.sheet.specs.Sheet.{order}
use Rattle.scratch.specs.Call.{scratch_length}
use Rattle.round.specs.Internal.{Lengths}
use Rattle.round.proofs.Many.{none_append, append_none}
use Rattle.round_lengths.specs.Calls.{message_sized, second_sized}
use Rattle.round_lengths.proofs.Sizes.{message_sizes, second_sizes}
use Rattle.session_digests.proofs.Range.{length_challenges}
use Rattle.session_check.specs.declared.stored.Stored.{Stored}
use Rattle.session_check.specs.Stored.{Inputs, challenges_of, drawn_round, inputs_sized, stored_tests}
use Rattle.session_check.specs.Check.{early_tests}
use Rattle.session_check.specs.Internal.{Stopped, Failed, Passed, verdict}
use Rattle.session_check.specs.Equations.{InputsSized, Held}
use Rattle.session_check.proofs.Numbers.{same_numbers_lem}
use Rattle.commitment.specs.Parameters.{Parameters}

-- a test that asks for b, as an equation
asks : (b : Bool) → (not b ≡ false) ↔ (b ≡ true)
asks b = (not-false b, ap not)

agree : (d e : Bytes) → (not (same d e) ≡ false) ↔ (d ≡ e)
agree d e = (λ h. same_equal d e (not-false (same d e) h), λ h. ap not (subst (λ (f : Bytes). same d f ≡ true) h (same_refl d)))

module _ (s : Stored) (x : Inputs) where
  abbrev message_sized_lem : Bool
  message_sized_lem = message_sized s.numbers.ring s.numbers.repeats s.closed x.head x.shares0 x.shares1 x.ballots x.claims

  abbrev second_sized_lem : Bool
  second_sized_lem = second_sized s.numbers.ring s.numbers.repeats (challenges_of s) x.opening x.answers x.scratch

  -- ---- 1

  message_right : InputsSized s x → message_sized_lem ≡ true
  unfolding message_sized
  message_right l = rw (l.head, l.shares0, l.shares1, l.ballots, l.claims) (same_refl _)

  second_right : InputsSized s x → second_sized_lem ≡ true
  unfolding second_sized
  second_right l = rw (length_challenges s.seed s.round s.numbers.repeats, l.opening, l.answers, l.scratch) (same_refl _)

  pub sized_exactly : (inputs_sized s x ≡ true) ↔ InputsSized s x
  unfolding inputs_sized
  sized_exactly = (to, from)
    where
      to : (message_sized_lem && second_sized_lem) ≡ true → InputsSized s x
      to e =
          let h = both message_sized_lem second_sized_lem e in
          let m = message_sizes s.numbers.ring s.numbers.repeats s.closed x.head x.shares0 x.shares1 x.ballots x.claims h.0 in
          let t = second_sizes s.numbers.ring s.numbers.repeats (challenges_of s) x.opening x.answers x.scratch h.1 in
          record { ballots = m.3; claims = m.4; head = m.0; shares0 = m.1; shares1 = m.2; opening = t.1; answers = t.2; scratch = t.3 }

      from : InputsSized s x → (message_sized_lem && second_sized_lem) ≡ true
      from l = rw (message_right l, second_right l)

  pub length_test_lem : (None (test 1 0 (not (inputs_sized s x)) ∷ [])) ↔ InputsSized s x
  length_test_lem = (λ n. sized_exactly.0 ((asks (inputs_sized s x)).0 n.0), λ l. ((asks (inputs_sized s x)).1 (sized_exactly.1 l), tt))

  -- the same for a round with what was drawn, and parameters of the session's ring size and repetitions
  module _ (P : Parameters) (ring : P.N ≡ s.numbers.ring) (repeats : P.repeats ≡ s.numbers.repeats) where
    pub round_sized : InputsSized s x → Lengths P s.closed (drawn_round s x)
    round_sized l = record {
      challenges = length_challenges s.seed s.round s.numbers.repeats ∙ sym repeats;
      ballots = rw ring l.ballots;
      claims = rw ring l.claims;
      head = rw (ring, repeats) l.head;
      shares0 = rw ring l.shares0;
      shares1 = rw ring l.shares1;
      opening = rw ring l.opening;
      answers = rw ring l.answers;
    }

    pub sized_round : Lengths P s.closed (drawn_round s x) → length x.scratch ≡ scratch_length → InputsSized s x
    sized_round l w = record {
      ballots = rw (sym ring) l.ballots;
      claims = rw (sym ring) l.claims;
      head = rw (sym ring, sym repeats) l.head;
      shares0 = rw (sym ring) l.shares0;
      shares1 = rw (sym ring) l.shares1;
      opening = rw (sym ring) l.opening;
      answers = rw (sym ring) l.answers;
      scratch = w;
    }

  -- ---- 16

  pub held_exactly : None (stored_tests s x) ↔ Held s x
  unfolding stored_tests
  held_exactly = (
    λ n. record {
      sheet = (agree _ _).0 n.0;
      numbers = (same_numbers_lem _ _).0 ((asks _).0 n.1.0);
      ballots = (agree _ _).0 n.1.1.0;
      claims = (agree _ _).0 n.1.1.1.0;
      message = (agree _ _).0 n.1.1.1.1.0;
    },
    λ h. ((agree _ _).1 h.sheet, ((asks _).1 ((same_numbers_lem _ _).1 h.numbers), ((agree _ _).1 h.ballots, ((agree _ _).1 h.claims, ((agree _ _).1 h.message, tt))))),
  )

  -- ---- all before the round

  pub early_exactly : None (early_tests s x) ↔ (None (order x.sheet) × InputsSized s x × Held s x)
  unfolding early_tests
  early_exactly = (
    λ n.
        let m = append_none (order x.sheet) (test 1 0 (not (inputs_sized s x)) ∷ stored_tests s x) n in
        (m.0, sized_exactly.0 ((asks (inputs_sized s x)).0 m.1.0), held_exactly.0 m.1.1),
    λ h. none_append (order x.sheet) (test 1 0 (not (inputs_sized s x)) ∷ stored_tests s x) h.0 ((asks (inputs_sized s x)).1 (sized_exactly.1 h.1), held_exactly.1 h.2),
  )

-- ---- the verdict

not_stopped : {A : Type 0} {number place : ℕ} → Stopped number place ≡ Passed → A
not_stopped e = absurd (let z : ◌≡◌ {A = ℕ} 0 1 = cc in omega arith)

not_failed : {A : Type 0} {number place : ℕ} → Failed number place ≡ Passed → A
not_failed e = absurd (let z : ◌≡◌ {A = ℕ} 0 1 = cc in omega arith)

pub passed_exactly : (early late : Reply) → (verdict early late ≡ Passed) ↔ ((early ≡ reply.Taken) × (late ≡ reply.Taken))
passed_exactly (reply.Refused number place) late = (not_stopped, λ h. not_taken number place h.0)
passed_exactly reply.Taken (reply.Refused number place) = (not_failed, λ h. not_taken number place h.1)
passed_exactly reply.Taken reply.Taken = (λ e. (refl, refl), λ h. refl)
