-- The calls that read are taken exactly under the conditions of specs/Queries.antt. Assumes nothing.
use mathlib.Core.Path.{◌≡◌, refl, ap, ap₂}
use mathlib.Core.Logic.Iff
use mathlib.Core.Logic.{◌↔◌}
use mathlib.Core.Bool.{Bool, true, false, ◌&&◌, ◌||◌, not}
use Prim.Native.Nat.{ℕ, ◌+◌, ◌*◌, ◌/◌, ◌%◌, ◌^◌, ◌<◌}
use borrow.Author.Tests.{eqb-true, eq-eqb, leb-true, le-leb, ltb-true, lt-ltb, ltb-false, le-ltb, not-false}
use Rattle.codec.specs.Bytes.{Bytes}
use Rattle.codec.specs.Reply.{first, Taken}
use Rattle.codec.proofs.Laws.{both}
use Rattle.codec.proofs.Replies.{taken_exactly}
use Rattle.session_progress.specs.Progress.{drawn}
use Rattle.session.specs.declared.Session.{Session}
use Rattle.session.specs.Steps.{challenges_tests, turnout_tests}
use Rattle.round_tests.specs.Opened.{is_opened, opened_place, opened_reply}
use Rattle.sheet_numbers.proofs.Ranges.{power_of, power_found, low_power}
use Rattle.session_histories.proofs.Valid.{numbers_match, numbers_pass, ready, is_ready, valid_says, valid_holds, neither}
use Rattle.claims.specs.Queries.{TellsChallenges, Counts, ShareThere}

-- ---- over a session

pub challenges_exactly : (s : Session) (round : ℕ) (out : Bytes) → (first (challenges_tests s round out) ≡ Taken) ↔ TellsChallenges s round out
unfolding challenges_tests
challenges_exactly s round out =
    Iff.trans (taken_exactly _) (
      λ n.
          let r = ready s _ n.0 in
          let t = both _ _ r.1 in
          record { sound = r.0; phase = leb-true _ _ t.0; within = ltb-true _ _ t.1; size = numbers_match n.1.0 },
      λ c. (is_ready s c.sound (ap₂ ◌&&◌ (le-leb drawn s.progress.phase c.phase) (lt-ltb round s.numbers.rounds c.within)), (numbers_pass c.size, tt)),
    )

pub turnout_exactly : (s : Session) (reg : Bytes) (enrolled : ℕ) → (first (turnout_tests s reg enrolled) ≡ Taken) ↔ Counts s reg enrolled
unfolding turnout_tests
turnout_exactly s reg enrolled =
    Iff.trans (taken_exactly _) (
      λ n.
          let r = neither _ _ n.1.1.0 in
          record { sound = valid_says s (not-false _ n.0); register_size = numbers_match n.1.0; some = ltb-false _ _ r.0; few = ltb-false _ _ r.1 },
      λ c. (ap not (valid_holds s c.sound), (numbers_pass c.register_size, (ap₂ ◌||◌ (le-ltb enrolled 1 c.some) (le-ltb 1000000 enrolled c.few), tt))),
    )

-- ---- over two slices of shares

module _ (side N length0 length1 j : ℕ) where
  share_there : is_opened side N length0 length1 j ≡ true → ShareThere side N length0 length1 j
  unfolding is_opened
  share_there e =
      let a = both _ _ e in
      let b = both _ _ a.1 in
      let c = both _ _ b.1 in
      let d = both _ _ c.1 in
      let f = both _ _ d.1 in
      let g = both _ _ f.1 in
      record {
        side_high = leb-true _ _ a.0;
        ring_low = leb-true _ _ b.0;
        ring_high = leb-true _ _ c.0;
        ring_power = power_of 12 N d.0;
        equal = eqb-true _ _ f.0;
        whole = eqb-true _ _ g.0;
        within = ltb-true _ _ g.1;
      }

  there_opened : ShareThere side N length0 length1 j → is_opened side N length0 length1 j ≡ true
  unfolding is_opened
  there_opened t =
      let i = t.ring_power in
      ap₂ ◌&&◌ (le-leb side 1 t.side_high) (ap₂ ◌&&◌ (le-leb 4 N t.ring_low) (ap₂ ◌&&◌ (le-leb N 2048 t.ring_high)
      (ap₂ ◌&&◌ (power_found 12 N i.0 (low_power N i.0 t.ring_high i.1) i.1) (ap₂ ◌&&◌ (eq-eqb length0 length1 t.equal)
      (ap₂ ◌&&◌ (eq-eqb (length0 % (8 * N)) 0 t.whole) (lt-ltb j (length0 / (8 * N)) t.within))))))

  pub opened_there : ShareThere side N length0 length1 j → 8 * N * j + 1 < 2 ^ 56 → opened_reply side N length0 length1 j ≡ 256 * (8 * N * j + 1)
  unfolding opened_place
  opened_there t l = rw (there_opened t, lt-ltb (8 * N * j + 1) (2 ^ 56) l)

  pub opened_absent : (ShareThere side N length0 length1 j → ⊥) → opened_reply side N length0 length1 j ≡ 0
  opened_absent none = go (is_opened side N length0 length1 j) refl
    where
      go : (b : Bool) → is_opened side N length0 length1 j ≡ b → opened_reply side N length0 length1 j ≡ 0
      go true e = absurd (none (share_there e))
      go false e = unfold opened_place in rw (e)
