-- What a session reached from a clear taken keeps, whatever register each step was lent: it is valid, and its digests are functions of what was taken. Assumes nothing.
use mathlib.Core.Path.{◌≡◌, refl, sym, ap, ◌∙◌}
use mathlib.Core.Bool.{Bool, true, false, cond}
use mathlib.Core.List.{List, [], ◌∷◌}
use Prim.Native.Nat.{ℕ, ◌+◌, ◌*◌, ◌≤◌, ◌<◌}
use native.Mathlib.Omega.{arith}
use native.Mathlib.Decide.{ℕ_discrete}
use lib.Dec.{eqb}
use lib.ListN.{length, length-map, length-replicate}
use borrow.Author.Tests.{eqb-false, eq-eqb, ne_eqb}
use Rattle.codec.specs.Bytes.{Bytes, part, put}
use Rattle.codec.specs.Reply.{leaves, Taken}
use Rattle.codec.proofs.Laws.{length_put, part_put, part_put_before}
use Rattle.codec.proofs.Replies.{taken_exactly}
use Rattle.sha3.specs.Sponge.{sha3}
use Rattle.sheet_numbers.specs.declared.Numbers.{Numbers}
use Rattle.sheet.specs.Reader.{sheet_of}
use Rattle.sheet.specs.Sheet.{order}
use Rattle.register.specs.Register.{digest_at, standing, standing_digests}
use Rattle.register.proofs.Entries.{standing_few}
use Rattle.session_digests.specs.Digests.{closing_digest, claim_digest, round_digest}
use Rattle.session_digests.proofs.Laws.{length_round_digest}
use Rattle.session.specs.declared.Session.{Session}
use Rattle.session_progress.specs.declared.Progress.{Progress}
use Rattle.session.specs.Session.{changed}
use Rattle.session.specs.Steps.{Beginning, cleared, entered_by, closed_by, claimed_by, committed_by, drawn_by, accepted_by, refused_by}
use Rattle.session.specs.Machine.{Step, clear, admit, withdraw, close, claim, commit, draw, check, State, state, next, reply, after}
use Rattle.session_histories.specs.Runs.{Message, message, Call, History, empty_history, history_after}
use Rattle.session_histories.specs.Internal.{Begins, Trace, extend_trace, trace, initial_trace, OwnTrace, own_initial, own_extend, own_trace}
use Rattle.session_histories.specs.Conditions.{SheetTaken, ValidSession, Closes, Claims, Commits, Draws}
use Rattle.session_histories.proofs.Valid.{sheet_exactly}
use Rattle.session_histories.proofs.Stepped.{taken_turn, stepped_with}
use Rattle.session_histories.proofs.ExactGathering.{admitted_exactly, withdrawn_exactly, withdrawal, closed_exactly}
use Rattle.session_histories.proofs.Exact.{cleared_exactly, claimed_exactly, committed_exactly, drawn_exactly}

-- the digest of a first message
abbrev pub message_digest : Bytes → (k : ℕ) → Message → Bytes
message_digest d k m = round_digest d k m.head m.shares0 m.shares1

-- what clear sets and no later step changes: the numbers k of the sheet's text, and its digest
pub record Origin (k : Numbers) (digest text : Bytes) : Type 0 where
  pub taken : SheetTaken text
  pub numbers : k ≡ (sheet_of text).numbers
  pub sheet : digest ≡ sha3 text

-- how many rounds are committed and checked in a phase
pub record Counts (phase committed checked rounds : ℕ) : Type 0 where
  pub uncommitted : phase < 2 → committed ≡ 0
  pub unchecked : phase < 3 → checked ≡ 0
  pub whole : 2 < phase → committed ≡ rounds
  pub next : phase ≡ 3 → checked < rounds

-- d, c, m are the digests of sheet, closing and claims, ds those of the rounds committed, n the closed count
pub record Digests (d c m ds : Bytes) (phase n committed : ℕ) (h : History) : Type 0 where
  pub closing : 0 < phase → c ≡ closing_digest d h.batch
  pub closed : 0 < phase → n ≡ length h.batch
  pub claim : 1 < phase → m ≡ claim_digest c h.claims
  pub trail : 1 < phase → (j : ℕ) → j < committed → part ds (32 * j) 32 ≡ message_digest m j (h.firsts j)

pub record Kept (s : Session) (h : History) : Type 0 where
  pub sound : ValidSession s
  pub origin : Origin s.numbers s.sheet h.sheet
  pub long : length s.trail ≡ 4096
  pub counts : Counts s.progress.phase s.progress.committed s.progress.checked s.numbers.rounds
  pub digests : Digests s.sheet s.closing s.claim s.trail s.progress.phase s.progress.closed s.progress.committed h

kept_clear : (b : Beginning) → SheetTaken b.sheet → Kept (cleared b) (empty_history b)
unfolding cleared
kept_clear b t = record {
  sound = record { phase = omega arith; inside = t.inside; sound = t.sound; used = omega arith; closed = omega arith; committed = omega arith; checked = omega arith };
  origin = record { taken = t; numbers = refl; sheet = refl };
  long = length-replicate {A = ℕ} 4096 0;
  counts = record { uncommitted = λ l. refl; unchecked = λ l. refl; whole = λ l. absurd (omega arith); next = λ l. absurd (omega arith) };
  digests = record { closing = λ l. absurd (omega arith); closed = λ l. absurd (omega arith); claim = λ l. absurd (omega arith); trail = λ l. absurd (omega arith) };
}

module _ (s : Session) (h : History) (k : Kept s h) where
  abbrev v : ValidSession s
  v = k.sound

  kept_entered : s.progress.used < 4096 → Kept (entered_by s) h
  unfolding entered_by
  kept_entered room = record {
    sound = record { phase = v.phase; inside = v.inside; sound = v.sound; used = omega arith; closed = v.closed; committed = v.committed; checked = v.checked };
    origin = k.origin;
    long = k.long;
    counts = k.counts;
    digests = k.digests;
  }

  kept_close : (reg : Bytes) → Closes s reg → Kept (closed_by s reg) (history_after close (state s reg) h)
  unfolding closed_by history_after standing_digests
  kept_close reg c =
      let was = c.gathers.phase in
      let few = standing_few reg s.progress.used in
      let used = v.used in
      record {
        sound = record {
          phase = omega arith;
          inside = v.inside;
          sound = v.sound;
          used = v.used;
          closed = rw (length-map (standing reg s.progress.used) (digest_at reg)) (omega arith);
          committed = v.committed;
          checked = v.checked;
        };
        origin = k.origin;
        long = k.long;
        counts = record {
          uncommitted = λ l. k.counts.uncommitted (omega arith);
          unchecked = λ l. k.counts.unchecked (omega arith);
          whole = λ l. absurd (omega arith);
          next = λ l. absurd (omega arith);
        };
        digests = record { closing = λ l. refl; closed = λ l. refl; claim = λ l. absurd (omega arith); trail = λ l. absurd (omega arith) };
      }

  kept_claim : (st : State) (claims : Bytes) → Claims s claims → Kept (claimed_by s claims) (history_after (claim claims) st h)
  unfolding claimed_by history_after
  kept_claim st claims c =
      let was = c.phase in
      let z = k.counts.uncommitted (omega arith) in
      record {
        sound = record { phase = omega arith; inside = v.inside; sound = v.sound; used = v.used; closed = v.closed; committed = v.committed; checked = v.checked };
        origin = k.origin;
        long = k.long;
        counts = record { uncommitted = λ l. z; unchecked = λ l. k.counts.unchecked (omega arith); whole = λ l. absurd (omega arith); next = λ l. absurd (omega arith) };
        digests = record {
          closing = λ l. k.digests.closing (omega arith);
          closed = λ l. k.digests.closed (omega arith);
          claim = λ l. refl;
          trail = λ l j g. absurd (omega arith);
        };
      }

  -- ---- commit

  module _ (r : ℕ) (head shares0 shares1 : Bytes) (c : Commits s r head shares0 shares1) where
    abbrev new : Bytes
    new = round_digest s.claim r head shares0 shares1

    size : length new ≡ 32
    size = length_round_digest s.claim r head shares0 shares1

    fits : 32 * r + length new ≤ length s.trail
    fits =
        let long = k.long in
        let low = c.within in
        let few = v.inside.rounds_high in
        omega (arith, size)

    -- the new digest stands at its place, and the earlier ones stay
    stands : (j : ℕ) → Dec (j ≡ r) → j < s.progress.committed + 1 → 1 < s.progress.phase
        → part (put s.trail (32 * r) new) (32 * j) 32 ≡ message_digest s.claim j (cond (eqb j r) (message head shares0 shares1) (h.firsts j))
    stands j (yes e) l g = rw (e, eq-eqb r r refl) (ap (λ (n : ℕ). part (put s.trail (32 * r) new) (32 * r) n) (sym size) ∙ part_put s.trail (32 * r) new fits)
    stands j (no e) l g =
        let due = c.due in
        rw (ne_eqb j r e) (part_put_before s.trail (32 * r) new (32 * j) 32 fits (omega arith) ∙ k.digests.trail g j (omega arith))

    kept_commit : (st : State) → Kept (committed_by s r head shares0 shares1) (history_after (commit r head shares0 shares1) st h)
    unfolding committed_by history_after
    kept_commit st =
        let was = c.phase in
        let due = c.due in
        let low = c.within in
        record {
          sound = record { phase = v.phase; inside = v.inside; sound = v.sound; used = v.used; closed = v.closed; committed = omega arith; checked = v.checked };
          origin = k.origin;
          long = length_put s.trail (32 * r) new fits ∙ k.long;
          counts = record { uncommitted = λ l. absurd (omega arith); unchecked = k.counts.unchecked; whole = λ l. absurd (omega arith); next = k.counts.next };
          digests = record {
            closing = k.digests.closing;
            closed = k.digests.closed;
            claim = k.digests.claim;
            trail = λ l j g. stands j (ℕ_discrete j r) g l;
          };
        }

  -- ---- draw and check

  abbrev moved : (phase checked : ℕ) → Progress
  moved phase checked = record { phase = phase; used = s.progress.used; closed = s.progress.closed; committed = s.progress.committed; checked = checked }

  -- once all rounds are committed, a step leaves another phase, from drawn on, a count of checks and a seed
  kept_moved : (phase checked : ℕ) (seed : Bytes) → 1 < s.progress.phase → 3 ≤ phase → phase ≤ 5 → s.progress.committed ≡ s.numbers.rounds
      → checked ≤ s.numbers.rounds → (phase ≡ 3 → checked < s.numbers.rounds)
      → Kept (changed s (moved phase checked) s.closing s.claim seed s.trail) h
  kept_moved phase checked seed was low high all few next = record {
    sound = record { phase = high; inside = v.inside; sound = v.sound; used = v.used; closed = v.closed; committed = v.committed; checked = few };
    origin = k.origin;
    long = k.long;
    counts = record { uncommitted = λ l. absurd (omega arith); unchecked = λ l. absurd (omega arith); whole = λ l. all; next = next };
    digests = record {
      closing = λ l. k.digests.closing (omega arith);
      closed = λ l. k.digests.closed (omega arith);
      claim = λ l. k.digests.claim was;
      trail = λ l. k.digests.trail was;
    };
  }

  kept_draw : (seed : Bytes) → Draws s seed → Kept (drawn_by s seed) h
  unfolding drawn_by
  kept_draw seed d =
      let was = d.phase in
      let some = v.inside.rounds_low in
      let none = k.counts.unchecked (omega arith) in
      kept_moved 3 s.progress.checked seed (omega arith) (omega arith) (omega arith) d.all (omega arith) (λ l. omega arith)

  -- a check in its turn
  kept_checked : (phase checked : ℕ) → s.progress.phase ≡ 3 → 3 ≤ phase → phase ≤ 5 → checked ≤ s.numbers.rounds → (phase ≡ 3 → checked < s.numbers.rounds)
      → Kept (changed s (moved phase checked) s.closing s.claim s.seed s.trail) h
  kept_checked phase checked was low high few next = kept_moved phase checked s.seed (omega arith) low high (k.counts.whole (omega arith)) few next

  kept_accepted : s.progress.phase ≡ 3 → s.progress.checked < s.numbers.rounds → Kept (accepted_by s) h
  unfolding accepted_by
  kept_accepted was low = go (eqb (s.progress.checked + 1) s.numbers.rounds) refl
    where
      go : (b : Bool) → eqb (s.progress.checked + 1) s.numbers.rounds ≡ b
          → Kept (changed s (moved (cond b 5 3) (s.progress.checked + 1)) s.closing s.claim s.seed s.trail) h
      go true e = kept_checked 5 (s.progress.checked + 1) was (omega arith) (omega arith) (omega arith) (λ l. absurd (omega arith))
      go false e =
          let other = eqb-false (s.progress.checked + 1) s.numbers.rounds e in
          kept_checked 3 (s.progress.checked + 1) was (omega arith) (omega arith) (omega arith) (λ l. omega arith)

  kept_refused : s.progress.phase ≡ 3 → s.progress.checked < s.numbers.rounds → Kept (refused_by s) h
  unfolding refused_by
  kept_refused was low = kept_checked 4 s.progress.checked was (omega arith) (omega arith) (omega arith) (λ l. absurd (omega arith))

-- ---- every step, and every list of them

module _ (reg : Bytes) (s : Session) (h : History) (k : Kept s h) where
  abbrev st : State
  st = state s reg

  kept_next : (x : Step) → reply x st ≡ Taken → Kept (next x st).session (history_after x st h)
  unfolding reply history_after
  kept_next (clear b) e = kept_clear b ((cleared_exactly reg b).0 e).sheet
  kept_next (admit ballot) e = kept_entered s h k ((admitted_exactly s reg ballot).0 e).enters.room
  kept_next (withdraw mark) e = withdrawal s reg mark (λ (z : State). Kept z.session h) ((withdrawn_exactly s reg mark).0 e) (λ f. k) (λ m. kept_entered s h k m.room)
  kept_next close e = kept_close s h k reg ((closed_exactly s reg).0 e)
  kept_next (claim claims) e = kept_claim s h k st claims ((claimed_exactly s claims).0 e)
  kept_next (commit r head shares0 shares1) e = kept_commit s h k r head shares0 shares1 ((committed_exactly s r head shares0 shares1).0 e) st
  kept_next (draw seed) e = kept_draw s h k seed ((drawn_exactly s seed).0 e)
  kept_next (check r x) e = let t = taken_turn s r x e in kept_accepted s h k t.0 (omega (arith, t.1, t.2))

  pub kept_step : (x : Step) → Kept (after x st).session (leaves (reply x st) (history_after x st h) h)
  kept_step x = stepped_with st (λ (z : State) (g : History). Kept z.session g) x (kept_next x) (λ number place e. k) (λ number place e. kept_refused s h k)

kept_trace : (cs : List Call) (l : Trace) → Kept l.session l.history → Kept (trace cs l).session (trace cs l).history
unfolding trace extend_trace
kept_trace [] l k = k
kept_trace (c ∷ cs) l k = kept_trace cs (extend_trace c l) (kept_step c.register l.session l.history k c.step)

-- the same with the register that each step left
pub kept_extend : (x : Step) (t : OwnTrace) → Kept t.now.session t.history → Kept (own_extend x t).now.session (own_extend x t).history
unfolding own_extend
kept_extend x t k = kept_step t.now.register t.now.session t.history k x

pub kept_steps : (xs : List Step) (t : OwnTrace) → Kept t.now.session t.history → Kept (own_trace xs t).now.session (own_trace xs t).history
unfolding own_trace
kept_steps [] t k = k
kept_steps (x ∷ xs) t k = kept_steps xs (own_extend x t) (kept_extend x t k)

pub kept : (b : Beginning) (cs : List Call) → Begins b → Kept (trace cs (initial_trace b)).session (trace cs (initial_trace b)).history
unfolding initial_trace
kept b cs e = kept_trace cs (initial_trace b) (kept_clear b ((sheet_exactly b.sheet).0 ((taken_exactly (order b.sheet)).0 e)))

pub kept_own : (b : Beginning) (xs : List Step) → Begins b → Kept (own_trace xs (own_initial b)).now.session (own_trace xs (own_initial b)).history
unfolding own_initial
kept_own b xs e = kept_steps xs (own_initial b) (kept_clear b ((sheet_exactly b.sheet).0 ((taken_exactly (order b.sheet)).0 e)))
