-- The orders of check and challenges, what a verdict comes to, and the bytes that challenges writes. Assumes nothing.
use mathlib.Core.Path.{◌≡◌, refl, sym, ap, ◌∙◌}
use mathlib.Core.Logic.{◌≢◌}
use mathlib.Core.Bool.{Bool, true, false, ◌&&◌}
use mathlib.Core.List.{List, [], ◌∷◌, ◌++◌, append-nil}
use Prim.Native.Nat.{ℕ, ◌+◌, ◌-◌, ◌<◌}
use native.Mathlib.Omega.{arith}
use lib.Dec.{leb}
use lib.ListN.{length, take, drop, set, length-take, length-drop, length-set, drop_of_length-le}
use borrow.Author.Tests.{eq-eqb, ne_eqb, ltb-true}
use Rattle.codec.specs.Bytes.{Bytes}
use Rattle.codec.proofs.Laws.{both}
use Rattle.codec.specs.Reply.{Test, first, leaves, Reply, Taken, Refused}
use Rattle.scratch.specs.Call.{zeroized}
use Rattle.session_check.specs.declared.stored.Stored.{Stored}
use Rattle.session_check.specs.Check.{early_tests}
use Rattle.session_check.specs.Internal.{Verdict, verdict, reply_of_verdict, outcome}
use Rattle.session_progress.specs.Progress.{drawn, check_due, challenges_due}
use Rattle.session.specs.Session.{valid, trail_at}
use Rattle.session.specs.Steps.{stored_for, check_early, check_late, check_tests, accepted_by, refused_by, challenges_tests}
use Rattle.session.specs.Internal.{Stepped, judged_by, CheckDone}
use Rattle.session.specs.Machine.{check, State, state, reply, after}
use Rattle.session.specs.declared.Session.{Session}
use Rattle.session.proofs.Stepping.{stays}
use Rattle.session_check.specs.Stored.{Inputs}

-- ---- a verdict

-- its reply is that of the two orders, one after the other
pub verdict_first : (early late : List Test) → reply_of_verdict (verdict (first early) (first late)) ≡ first (early ++ late)
unfolding first
verdict_first [] late = alone (first late)
  where
    alone : (r : Reply) → reply_of_verdict (verdict Taken r) ≡ r
    alone Taken = refl
    alone (Refused n p) = refl
verdict_first (t ∷ early) late = go t.holds refl (verdict_first early late)
  where
    go : (b : Bool) → t.holds ≡ b → reply_of_verdict (verdict (first early) (first late)) ≡ first (early ++ late) → reply_of_verdict (verdict (first (t ∷ early)) (first late)) ≡ first ((t ∷ early) ++ late)
    go true e rest = rw e
    go false e rest = rw e rest

-- and what it leaves of the session is what the two replies leave
pub verdict_leaves : (early late : Reply) (s : Session) (reg : Bytes)
    → state (judged_by (verdict early late) s) reg ≡ leaves (reply_of_verdict (verdict early late)) (state (accepted_by s) reg) (leaves early (state (refused_by s) reg) (state s reg))
unfolding leaves
verdict_leaves (Refused n p) late s reg = refl
verdict_leaves Taken (Refused n p) s reg = refl
verdict_leaves Taken Taken s reg = refl

-- ---- check

-- what a session holds for a round, with the digest that was read from its trail
abbrev holding : Session → (round : ℕ) → (message : Bytes) → Stored
holding s round message = record {
  numbers = s.numbers;
  closed = s.progress.closed;
  sheet = s.sheet;
  closing = s.closing;
  claim = s.claim;
  message = message;
  seed = s.seed;
  round = round;
}

module _ (s : Session) (round : ℕ) (x : Inputs) where
  -- 31: nothing is touched
  pub check_undue : {r : Stepped} → (valid s && check_due s.numbers s.progress round) ≡ false → (r.session ≡ s) × (r.reply ≡ Refused 31 0) → CheckDone round x s r x.scratch
  unfolding check_tests check_early first leaves zeroized
  check_undue e h = record {
    done = λ register. stays (check round x) (state s register) (rw e) (rw e) h;
    cleared = rw h.1;
  }

  -- the round is due, and the verdict decides
  module _ (e : (valid s && check_due s.numbers s.progress round) ≡ true) where
    on : first (check_early s round x) ≡ first (early_tests (stored_for s round) x)
    unfolding check_early first
    on = rw e

    pub check_judged : {r : Stepped} {v : Verdict} {message scratch : Bytes} → message ≡ trail_at s round → v ≡ outcome (holding s round message) x
        → (r.reply ≡ reply_of_verdict v) × (r.session ≡ judged_by v s) → scratch ≡ zeroized (reply_of_verdict v) x.scratch → CheckDone round x s r scratch
    unfolding check_tests check_late reply after
    check_judged {r} {v} m f g w =
        let early = first (check_early s round x) in
        let late = first (check_late s round x) in
        let d : v ≡ verdict early late = f ∙ ap (λ (y : Bytes). outcome (holding s round y) x) m ∙ ap (λ (y : Reply). verdict y late) (sym on) in
        let said = verdict_first (check_early s round x) (check_late s round x) in
        let left : (register : Bytes) → state (judged_by (verdict early late) s) register ≡ after (check round x) (state s register) = λ register.
        verdict_leaves early late s register
        ∙ ap (λ (y : Reply). leaves y (state (accepted_by s) register) (leaves early (state (refused_by s) register) (state s register))) said in
        record {
          done = λ register. record {
            replied = g.0 ∙ ap reply_of_verdict d ∙ said;
            session = g.1 ∙ ap (λ (y : Verdict). judged_by y s) d ∙ ap (λ (z : State). z.session) (left register);
            register_left = ap (λ (z : State). z.register) (left register);
          };
          cleared = w ∙ ap (λ (y : Reply). zeroized y x.scratch) (sym g.0);
        }

-- ---- challenges

module _ (s : Session) (round : ℕ) (out : Bytes) where
  pub challenges_undue : (valid s && challenges_due s.numbers s.progress round) ≡ false → first (challenges_tests s round out) ≡ Refused 31 0
  unfolding challenges_tests first
  challenges_undue e = rw e

  module _ (e : (valid s && challenges_due s.numbers s.progress round) ≡ true) where
    -- the round is one of the session's
    pub challenges_below : round < s.numbers.rounds
    challenges_below = ltb-true round s.numbers.rounds (both (leb drawn s.progress.phase) _ (both (valid s) _ e).1).1

    pub challenges_length : length out ≢ 1 + s.numbers.repeats → first (challenges_tests s round out) ≡ Refused 1 0
    unfolding challenges_tests first
    challenges_length n = rw (e, ne_eqb (length out) (1 + s.numbers.repeats) n)

    pub challenges_taken : length out ≡ 1 + s.numbers.repeats → first (challenges_tests s round out) ≡ Taken
    unfolding challenges_tests first
    challenges_taken n = rw (e, eq-eqb (length out) (1 + s.numbers.repeats) n)

-- a byte, and the rest behind it
pub laid : (out : Bytes) (side n : ℕ) (rest : Bytes) → length out ≡ 1 + n
    → take 1 (set out 0 side) ++ (rest ++ drop (length (set out 0 side) - 1) (drop 1 (set out 0 side))) ≡ side ∷ rest
laid [] side n rest e = absurd (omega arith)
laid (b ∷ out) side n rest e =
    ap (λ (t : Bytes). side ∷ (rest ++ t)) (drop_of_length-le out {i = length (side ∷ out) - 1} (omega arith)) ∙ ap (λ (t : Bytes). side ∷ t) (append-nil rest)

-- the room for the rest
pub room : (out : Bytes) (side n : ℕ) → length out ≡ 1 + n → length (take (length (set out 0 side) - 1) (drop 1 (set out 0 side))) ≡ n
room out side n e = simp (length-take, length-drop, length-set) (omega arith)
