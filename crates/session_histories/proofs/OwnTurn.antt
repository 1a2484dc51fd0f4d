-- From what was lodged to the turn, where each step is lent the register that the last one left: the sheet of the clear, the roll at the claim as the batch, the claims, and the
-- first message of the round. Assumes nothing.
use mathlib.Core.Path.{◌≡◌, refl, sym, ap, subst, ◌∙◌}
use mathlib.Core.Bool.{false}
use mathlib.Core.List.{List, [], ◌∷◌, flatten}
use Prim.Native.Nat.{ℕ, ◌*◌, ◌<◌}
use native.Mathlib.Omega.{arith}
use lib.ListN.{length}
use borrow.Author.Tests.{eq-eqb}
use Rattle.codec.specs.Bytes.{Bytes}
use Rattle.codec.specs.Reply.{leaves, Reply, Taken, Refused}
use Rattle.sheet.specs.Reader.{sheet_of}
use Rattle.sheet_numbers.specs.declared.Numbers.{Numbers}
use Rattle.scratch.specs.Call.{scratch_length}
use Rattle.round.specs.Producer.{Material}
use Rattle.commitment.specs.Parameters.{parameters_of}
use Rattle.session_check.specs.Stored.{Inputs}
use Rattle.session_progress.specs.Progress.{drawn}
use Rattle.session.specs.Steps.{Beginning, claimed_by, committed_by}
use Rattle.session.specs.Machine.{Step, clear, admit, withdraw, close, claim, commit, draw, check, next, reply, after}
use Rattle.session_histories.specs.Runs.{History, history_after, roll_after, clears, message}
use Rattle.session_histories.specs.Internal.{Trace, OwnTrace, Begins, own_initial, own_extend, own_trace}
use Rattle.session_histories.specs.Claims.{Produced, Turn}
use Rattle.session_histories.proofs.Stepped.{Uncleared, none, more}
use Rattle.session_histories.proofs.Exact.{claimed_exactly, committed_exactly}
use Rattle.session_histories.proofs.Kept.{Kept, kept_extend, kept_steps, kept_own}
use Rattle.session_histories.proofs.Roll.{roll_is_batch}
use Rattle.session_histories.proofs.Honest.{turn_accepted}
use Rattle.session_histories.proofs.Lodged.{Goes, goes_step, goes_on, goes_run}

-- ---- the sheet

-- no step but a clear changes it
sheet_step : (x : Step) (t : OwnTrace) → clears x (reply x t.now) ≡ false → (own_extend x t).history.sheet ≡ t.history.sheet
unfolding own_extend leaves
sheet_step x t n = go x (reply x t.now) n
  where
    go : (y : Step) (r : Reply) → clears y r ≡ false → (leaves r (history_after y t.now t.history) t.history).sheet ≡ t.history.sheet
    go (clear b) Taken n = absurd (let z : ◌≡◌ {A = ℕ} 0 1 = cc in omega arith)
    go (admit ballot) Taken n = unfold history_after in refl
    go (withdraw mark) Taken n = unfold history_after in refl
    go close Taken n = unfold history_after in refl
    go (claim claims) Taken n = unfold history_after in refl
    go (commit k head shares0 shares1) Taken n = unfold history_after in refl
    go (draw seed) Taken n = unfold history_after in refl
    go (check k x) Taken n = unfold history_after in refl
    go y (Refused number place) n = refl

sheet_run : (xs : List Step) (t : OwnTrace) → Uncleared xs t.now → (own_trace xs t).history.sheet ≡ t.history.sheet
unfolding own_trace own_extend
sheet_run [] t none = refl
sheet_run (x ∷ xs) t (more n u) = sheet_run xs (own_extend x t) u ∙ sheet_step x t n

-- ---- a step that is taken

pub extend_taken : (x : Step) (t : OwnTrace) → reply x t.now ≡ Taken
    → ((own_extend x t).now ≡ next x t.now) × ((own_extend x t).history ≡ history_after x t.now t.history) × ((own_extend x t).roll ≡ roll_after x t.roll)
unfolding own_extend after leaves
extend_taken x t e = (rw e, rw e, rw e)

module _ (b : Beginning) (readable : Begins b) (before between later last : List Step) (claims head shares0 shares1 seed : Bytes) (round : ℕ) where
  abbrev pub gathered : OwnTrace
  gathered = own_trace before (own_initial b)

  abbrev claimed_now : OwnTrace
  claimed_now = own_extend (claim claims) gathered

  abbrev pub with_claims_trace : OwnTrace
  with_claims_trace = own_trace between claimed_now

  abbrev committed_now : OwnTrace
  committed_now = own_extend (commit round head shares0 shares1) with_claims_trace

  abbrev pub with_message_trace : OwnTrace
  with_message_trace = own_trace later committed_now

  abbrev drawn_now : OwnTrace
  drawn_now = own_extend (draw seed) with_message_trace

  abbrev pub with_seed_trace : OwnTrace
  with_seed_trace = own_trace last drawn_now

  -- each taken, and no clear among the others
  pub record Lodges : Type 0 where
    pub uncleared : Uncleared before (own_initial b).now
    pub claim_taken : reply (claim claims) gathered.now ≡ Taken
    pub uncleared_between : Uncleared between (after (claim claims) gathered.now)
    pub commit_taken : reply (commit round head shares0 shares1) with_claims_trace.now ≡ Taken
    pub uncleared_later : Uncleared later (after (commit round head shares0 shares1) with_claims_trace.now)
    pub draw_taken : reply (draw seed) with_message_trace.now ≡ Taken
    pub uncleared_last : Uncleared last (after (draw seed) with_message_trace.now)

  module _ (l : Lodges) where
    k : Kept gathered.now.session gathered.history
    k = kept_own b before readable

    -- when the claim is taken
    closed_then : gathered.now.session.progress.phase ≡ 1
    closed_then = ((claimed_exactly gathered.now.session claims).0 (unfold reply in l.claim_taken)).phase

    phase_then : 1 < claimed_now.now.session.progress.phase
    phase_then = rw (extend_taken (claim claims) gathered l.claim_taken).0 (unfold claimed_by in omega arith)

    history_then : claimed_now.history ≡ history_after (claim claims) gathered.now gathered.history
    history_then = (extend_taken (claim claims) gathered l.claim_taken).1

    to_claims : Goes round claimed_now with_claims_trace
    to_claims = goes_run round between claimed_now phase_then (unfold own_extend in l.uncleared_between)

    -- when the commit is taken
    commit_goes : Goes round with_claims_trace committed_now
    commit_goes = goes_step round with_claims_trace to_claims.claimed (commit round head shares0 shares1) refl

    counted : round < committed_now.now.session.progress.committed
    counted =
        let due = ((committed_exactly with_claims_trace.now.session round head shares0 shares1).0 (unfold reply in l.commit_taken)).due in
        rw (extend_taken (commit round head shares0 shares1) with_claims_trace l.commit_taken).0 (unfold committed_by in omega (arith, due))

    lodged_then : committed_now.history.firsts round ≡ message head shares0 shares1
    lodged_then =
        ap (λ (h : History). h.firsts round) (extend_taken (commit round head shares0 shares1) with_claims_trace l.commit_taken).1 ∙ (unfold history_after in rw (eq-eqb round round refl))

    to_message : Goes round committed_now with_message_trace
    to_message = goes_run round later committed_now commit_goes.claimed (unfold own_extend in l.uncleared_later)

    draw_goes : Goes round with_message_trace drawn_now
    draw_goes = goes_step round with_message_trace to_message.claimed (draw seed) refl

    to_seed : Goes round drawn_now with_seed_trace
    to_seed = goes_run round last drawn_now draw_goes.claimed (unfold own_extend in l.uncleared_last)

    from_commit : Goes round committed_now with_seed_trace
    from_commit = goes_on to_message (goes_on draw_goes to_seed)

    from_claim : Goes round claimed_now with_seed_trace
    from_claim = goes_on to_claims (goes_on commit_goes from_commit)

    -- ---- what is there at the end

    same_sheet : gathered.history.sheet ≡ b.sheet
    same_sheet = sheet_run before (own_initial b) l.uncleared ∙ (unfold own_initial in refl)

    sheet_is : with_seed_trace.history.sheet ≡ b.sheet
    sheet_is = from_claim.sheet ∙ ap (λ (h : History). h.sheet) history_then ∙ (unfold history_after in same_sheet)

    batch_is : with_seed_trace.history.batch ≡ gathered.history.batch
    batch_is = from_claim.batch ∙ ap (λ (h : History). h.batch) history_then ∙ (unfold history_after in refl)

    claims_are : with_seed_trace.history.claims ≡ claims
    claims_are = from_claim.claims ∙ ap (λ (h : History). h.claims) history_then ∙ (unfold history_after in refl)

    message_is : with_seed_trace.history.firsts round ≡ message head shares0 shares1
    message_is = from_commit.message counted ∙ lodged_then

    kept_last : Kept with_seed_trace.now.session with_seed_trace.history
    kept_last =
        kept_steps last drawn_now (kept_extend (draw seed) with_message_trace (kept_steps later committed_now (kept_extend (commit round head shares0 shares1) with_claims_trace
        (kept_steps between claimed_now (kept_extend (claim claims) gathered k)))))

    pub numbers_are : with_seed_trace.now.session.numbers ≡ (sheet_of b.sheet).numbers
    numbers_are = kept_last.origin.numbers ∙ ap (λ (t : Bytes). (sheet_of t).numbers) sheet_is

    -- the claims that were taken are of as many ballots as were closed
    closed_count : gathered.now.session.progress.closed ≡ length with_seed_trace.history.batch
    closed_count = k.digests.closed (omega (arith, closed_then)) ∙ sym (ap (λ (ds : List Bytes). length ds) batch_is)

    pub claims_size : length claims ≡ (sheet_of b.sheet).numbers.ring * gathered.now.session.progress.closed
    claims_size =
        ((claimed_exactly gathered.now.session claims).0 (unfold reply in l.claim_taken)).size
        ∙ ap (λ (n : Numbers). n.ring * gathered.now.session.progress.closed) (k.origin.numbers ∙ ap (λ (t : Bytes). (sheet_of t).numbers) same_sheet)

    -- ---- the turn

    module _ (material : Material) (x : Inputs) (phase : with_seed_trace.now.session.progress.phase ≡ drawn) (due : round ≡ with_seed_trace.now.session.progress.checked)
        (sheet : x.sheet ≡ b.sheet) (ballots : x.ballots ≡ flatten gathered.roll) (claimed : x.claims ≡ claims) (first : message x.head x.shares0 x.shares1 ≡ message head shares0 shares1)
        (made : Produced (parameters_of x.sheet) gathered.now.session.progress.closed material with_seed_trace.now.session.seed round x) (scratch : length x.scratch ≡ scratch_length) where
      ring : (sheet_of x.sheet).numbers.ring ≡ gathered.now.session.numbers.ring
      ring = ap (λ (t : Bytes). (sheet_of t).numbers.ring) (sheet ∙ sym same_sheet) ∙ sym (ap (λ (n : Numbers). n.ring) k.origin.numbers)

      abbrev reached : Trace
      reached = record { session = with_seed_trace.now.session; history = with_seed_trace.history }

      turn : Turn reached.session reached.history material round x
      turn = record {
        phase = phase;
        due = due;
        sheet = sheet ∙ sym sheet_is;
        batch = rw (ring, batch_is, ballots) (roll_is_batch b before (omega (arith, closed_then))).2;
        claims = claimed ∙ sym claims_are;
        first_message = first ∙ sym message_is;
        made = subst (λ (m : ℕ). Produced (parameters_of x.sheet) m material with_seed_trace.now.session.seed round x) closed_count made;
        scratch = scratch;
      }

      pub own_turn : reply (check round x) with_seed_trace.now ≡ Taken
      unfolding reply
      own_turn = turn_accepted reached kept_last material round x turn
