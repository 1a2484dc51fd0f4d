-- The fields of a session fit in their places: of one that is read from bytes, and of one that a step leaves. Assumes nothing.
use mathlib.Core.Path.{◌≡◌, ◌∙◌}
use mathlib.Core.Bool.{Bool, true, false, cond}
use Prim.Native.Nat.{ℕ, ◌+◌, ◌*◌, ◌^◌, ◌≤◌, ◌<◌}
use Prim.Native.String.{String}
use native.Mathlib.Omega.{arith}
use lib.Dec.{eqb}
use lib.ListN.{length, length-map, length-replicate}
use Rattle.codec.specs.Bytes.{Bytes, Octets, number, part}
use Rattle.codec.specs.Reply.{Taken}
use Rattle.codec.proofs.Numbers.{number_lt}
use Rattle.codec.proofs.Laws.{length_part, octets_part, length_put}
use Rattle.sha3.proofs.Squeezing.{length_sha3}
use Rattle.register.specs.Register.{digest_at, standing, standing_digests}
use Rattle.register.proofs.Entries.{standing_few}
use Rattle.session_digests.specs.Digests.{round_digest}
use Rattle.session_digests.proofs.Laws.{length_closing_digest, length_claim_digest, length_round_digest}
use Rattle.session_progress.specs.Progress.{with_entry, with_batch, with_claims, with_message, with_seed, with_refusal, with_acceptance}
use Rattle.session_progress.specs.declared.Progress.{Progress}
use Rattle.session.specs.declared.Session.{Session}
use Rattle.session.specs.Session.{changed}
use Rattle.session.specs.Steps.{Beginning, cleared, entered_by, closed_by, claimed_by, committed_by, drawn_by, accepted_by, refused_by}
use Rattle.session.specs.Machine.{Step, clear, admit, withdraw, close, claim, commit, draw, check, State, next, reply, after}
use Rattle.session_image.specs.Image.{image_length, fields, start, decode}
use Rattle.session_image.specs.Internal.{Typed}
use Rattle.session_histories.specs.Conditions.{Clears, Closes, Commits, Draws}
use Rattle.session_histories.proofs.Stepped.{stepped, taken_turn}
use Rattle.session_histories.proofs.ExactGathering.{admitted_exactly, withdrawn_exactly, withdrawal, closed_exactly}
use Rattle.session_histories.proofs.Exact.{cleared_exactly, committed_exactly, drawn_exactly}

module _ (b : Bytes) (l : length b ≡ image_length) (o : Octets b) where
  eight : (name : String) → start fields name + 8 ≤ length b → number (part b (start fields name) 8) < 2 ^ 64
  eight name h = let i = start fields name in rw (length_part b i 8 h) at (number_lt (part b i 8) (octets_part b i 8 o))

  -- of a session that is read from bytes they do
  pub typed_decode : Typed (decode b)
  unfolding decode
  typed_decode = record {
    phase_fits = o 0 (omega arith);
    ring_fits = eight "ring" (omega arith);
    modulus_fits = eight "modulus" (omega arith);
    drown_fits = eight "drown" (omega arith);
    rounds_fits = eight "rounds" (omega arith);
    repeats_fits = eight "repeats" (omega arith);
    sheet_long = length_part b (start fields "sheet") 32 (omega arith);
    used_fits = eight "used" (omega arith);
    closed_fits = eight "closed" (omega arith);
    closing_long = length_part b (start fields "closing") 32 (omega arith);
    claim_long = length_part b (start fields "claim") 32 (omega arith);
    committed_fits = eight "committed" (omega arith);
    seed_long = length_part b (start fields "seed") 32 (omega arith);
    checked_fits = eight "checked" (omega arith);
    trail_long = length_part b (start fields "trail") 4096 (omega arith);
  }

-- of one that a step changes they do if what is changed fits
typed_changed : (s : Session) (g : Progress) (closing claimed seed trail : Bytes) → Typed s
    → g.phase < 256 → g.used < 2 ^ 64 → g.closed < 2 ^ 64 → length closing ≡ 32 → length claimed ≡ 32 → g.committed < 2 ^ 64 → length seed ≡ 32 → g.checked < 2 ^ 64 → length trail ≡ 4096
    → Typed (changed s g closing claimed seed trail)
typed_changed s _ closing claimed seed trail t a b c d e f g h i = record {
  phase_fits = a;
  ring_fits = t.ring_fits;
  modulus_fits = t.modulus_fits;
  drown_fits = t.drown_fits;
  rounds_fits = t.rounds_fits;
  repeats_fits = t.repeats_fits;
  sheet_long = t.sheet_long;
  used_fits = b;
  closed_fits = c;
  closing_long = d;
  claim_long = e;
  committed_fits = f;
  seed_long = g;
  checked_fits = h;
  trail_long = i;
}

typed_cleared : (reg : Bytes) (b : Beginning) → Clears reg b → Typed (cleared b)
unfolding cleared
typed_cleared reg b c =
    let r = c.sheet.inside in
    record {
      phase_fits = omega arith;
      ring_fits = omega (arith, r.ring_high);
      modulus_fits = omega (arith, r.modulus_high);
      drown_fits = omega (arith, r.drown_high);
      rounds_fits = omega (arith, r.rounds_high);
      repeats_fits = omega (arith, r.repeats_high);
      sheet_long = length_sha3 b.sheet;
      used_fits = omega arith;
      closed_fits = omega arith;
      closing_long = length-replicate {A = ℕ} 32 0;
      claim_long = length-replicate {A = ℕ} 32 0;
      committed_fits = omega arith;
      seed_long = length-replicate {A = ℕ} 32 0;
      checked_fits = omega arith;
      trail_long = length-replicate {A = ℕ} 4096 0;
    }

module _ (s : Session) (reg : Bytes) (t : Typed s) where
  typed_entered : s.progress.used < 4096 → Typed (entered_by s)
  unfolding entered_by
  typed_entered room =
      typed_changed s (with_entry s.progress) s.closing s.claim s.seed s.trail t t.phase_fits (omega arith) t.closed_fits
      t.closing_long t.claim_long t.committed_fits t.seed_long t.checked_fits t.trail_long

  typed_closed : Closes s reg → Typed (closed_by s reg)
  unfolding closed_by standing_digests
  typed_closed c =
      typed_changed s (with_batch _ s.progress) _ s.claim s.seed s.trail t (omega arith) t.used_fits
      (rw (length-map (standing reg s.progress.used) (digest_at reg)) (omega (arith, standing_few reg s.progress.used, c.gathers.sound.used))) (length_closing_digest s.sheet _) t.claim_long t.committed_fits
      t.seed_long t.checked_fits t.trail_long

  typed_claimed : (claims : Bytes) → Typed (claimed_by s claims)
  unfolding claimed_by
  typed_claimed claims =
      typed_changed s (with_claims s.progress) s.closing _ s.seed s.trail t (omega arith) t.used_fits t.closed_fits t.closing_long
      (length_claim_digest s.closing claims) t.committed_fits t.seed_long t.checked_fits t.trail_long

  typed_committed : (k : ℕ) (head shares0 shares1 : Bytes) → Commits s k head shares0 shares1 → Typed (committed_by s k head shares0 shares1)
  unfolding committed_by
  typed_committed k head shares0 shares1 c =
      let few = c.sound.inside.rounds_high in
      let low = c.within in
      let due = c.due in
      let long = t.trail_long in
      let new = round_digest s.claim k head shares0 shares1 in
      let size : length new ≡ 32 = length_round_digest s.claim k head shares0 shares1 in
      typed_changed s (with_message s.progress) s.closing s.claim s.seed _ t t.phase_fits t.used_fits t.closed_fits t.closing_long
      t.claim_long (omega arith) t.seed_long t.checked_fits (length_put s.trail (32 * k) new (omega (arith, size)) ∙ t.trail_long)

  typed_drawn : (seed : Bytes) → Draws s seed → Typed (drawn_by s seed)
  unfolding drawn_by
  typed_drawn seed d =
      typed_changed s (with_seed s.progress) s.closing s.claim seed s.trail t (omega arith) t.used_fits t.closed_fits t.closing_long t.claim_long
      t.committed_fits d.size t.checked_fits t.trail_long

  typed_refused : Typed (refused_by s)
  unfolding refused_by
  typed_refused =
      typed_changed s (with_refusal s.progress) s.closing s.claim s.seed s.trail t (omega arith) t.used_fits t.closed_fits t.closing_long t.claim_long t.committed_fits t.seed_long
      t.checked_fits t.trail_long

  typed_accepted : s.progress.checked < s.numbers.rounds → Typed (accepted_by s)
  unfolding accepted_by
  typed_accepted l =
      typed_changed s (with_acceptance s.numbers.rounds s.progress) s.closing s.claim s.seed s.trail t (phase (eqb (s.progress.checked + 1) s.numbers.rounds)) t.used_fits t.closed_fits
      t.closing_long t.claim_long t.committed_fits t.seed_long (omega (arith, t.rounds_fits)) t.trail_long
    where
      phase : (b : Bool) → cond b 5 3 < 256
      phase true = omega arith
      phase false = omega arith

module _ (st : State) (t : Typed st.session) where
  abbrev s : Session
  s = st.session

  abbrev reg : Bytes
  reg = st.register

  typed_next : (x : Step) → reply x st ≡ Taken → Typed (next x st).session
  unfolding reply
  typed_next (clear b) e = typed_cleared reg b ((cleared_exactly reg b).0 e)
  typed_next (admit ballot) e = typed_entered s reg t ((admitted_exactly s reg ballot).0 e).enters.room
  typed_next (withdraw mark) e = withdrawal s reg mark (λ (z : State). Typed z.session) ((withdrawn_exactly s reg mark).0 e) (λ f. t) (λ m. typed_entered s reg t m.room)
  typed_next close e = typed_closed s reg t ((closed_exactly s reg).0 e)
  typed_next (claim claims) e = typed_claimed s reg t claims
  typed_next (commit k head shares0 shares1) e = typed_committed s reg t k head shares0 shares1 ((committed_exactly s k head shares0 shares1).0 e)
  typed_next (draw seed) e = typed_drawn s reg t seed ((drawn_exactly s seed).0 e)
  typed_next (check k x) e = let d = taken_turn s k x e in typed_accepted s reg t (omega (arith, d.1, d.2))

  -- of one that any step leaves they do
  pub typed_after : (x : Step) → Typed (after x st).session
  typed_after x = stepped st (λ (z : State). Typed z.session) x (typed_next x) (λ number place e. t) (λ number place e was low. typed_refused s reg t)
