-- Without host writing, the ballots admitted and not withdrawn are the batch that close found standing. Assumes nothing.
use mathlib.Core.Path.{◌≡◌, refl, sym, ap, subst, ◌∙◌}
use mathlib.Core.Logic.{◌≢◌, ◌⊎◌, inl, inr}
use mathlib.Core.Bool.{Bool, true, false, cond}
use mathlib.Core.List.Memᴰ
use mathlib.Core.List.{List, [], ◌∷◌, ◌++◌, map, map-append, append-nil, Memᴰ}
use Prim.Native.Nat.{ℕ, zero, suc, ◌^◌, ◌<◌}
use native.Mathlib.Omega.{arith}
use native.Mathlib.Numerals.{add-one}
use native.Mathlib.Decide.{ℕ_discrete}
use lib.Dec.{eqb}
use lib.ListN.{length, length-map}
use borrow.Author.Tests.{eq-eqb, ne_eqb}
use Rattle.codec.specs.Bytes.{Bytes}
use Rattle.codec.specs.Reply.{leaves, Taken}
use Rattle.sha3.specs.Sponge.{sha3}
use Rattle.round.specs.Layout.{ballot_length}
use Rattle.register.specs.Register.{mark_at, state_at, digest_at, standing, standing_digests, mark_of, admitted, withdrawn, withdrawn_early}
use Rattle.register.proofs.Entries.{Appended, admitted_entry, early_entry, withdrawn_marks, withdrawn_digests, withdrawn_state, withdrawn_states}
use Rattle.session_digests.proofs.Laws.{Long, ballot_digests_flatten}
use Rattle.session.specs.declared.Session.{Session}
use Rattle.session.specs.Steps.{Beginning, cleared, entered_by, closed_by, claimed_by, committed_by, drawn_by, accepted_by, refused_by}
use Rattle.session.specs.Machine.{Step, clear, admit, withdraw, close, claim, commit, draw, check, State, state, next, reply, after}
use Rattle.session_histories.specs.Runs.{History, history_after, without, roll_after}
use Rattle.session_histories.specs.Internal.{run, OwnTrace, Trace, initial_trace, own_initial, own_extend, own_trace, extend_trace, trace, calls, RollIsBatch, OwnRegister}
use Rattle.session_histories.specs.Conditions.{NoEntry, MarkStands, MayEnter, Admits, Withdraws, Claims, Draws}
use Rattle.session_histories.proofs.Stepped.{Uncleared, taken_turn, stepped_all}
use Rattle.session_histories.proofs.ExactGathering.{admitted_exactly, withdrawn_exactly, withdrawal}
use Rattle.session_histories.proofs.Exact.{claimed_exactly, drawn_exactly}
use Rattle.session_histories.proofs.Withdrawn.{OnlyFirst, only_first_none, no_other, only_first_step, none_stands}
use Rattle.session_histories.proofs.Reach.{clear_taken}

-- the first n entries are those of the ballots, in order, and of others that do not stand
data Rows (reg : Bytes) : ℕ → List Bytes → Type 0 where
  start : Rows reg zero []
  up : {n : ℕ} {bs : List Bytes} (b : Bytes) → Rows reg n bs → state_at reg n ≡ 1 → mark_at reg n ≡ mark_of b → digest_at reg n ≡ sha3 b → Rows reg (suc n) (bs ++ (b ∷ []))
  down : {n : ℕ} {bs : List Bytes} → Rows reg n bs → state_at reg n ≢ 1 → Rows reg (suc n) bs

-- so their digests are those of the standing entries
rows_digests : {reg : Bytes} {n : ℕ} {bs : List Bytes} → Rows reg n bs → map sha3 bs ≡ map (digest_at reg) (standing reg n)
unfolding standing
rows_digests start = refl
rows_digests {reg} (up {n = n} {bs = bs} b r s m d) =
    rw (eq-eqb _ _ s, map-append sha3 bs (b ∷ []), map-append (digest_at reg) (standing reg n) (n ∷ []), d) (ap (λ (l : List Bytes). l ++ (sha3 b ∷ [])) (rows_digests r))
rows_digests {reg} (down {n = n} r s) = rw (ne_eqb _ _ s, append-nil (standing reg n)) (rows_digests r)

-- entries that stay the same
rows_keep : {reg : Bytes} (new : Bytes) {n : ℕ} {bs : List Bytes} → Rows reg n bs
    → ((i : ℕ) → i < n → (state_at new i ≡ state_at reg i) × (mark_at new i ≡ mark_at reg i) × (digest_at new i ≡ digest_at reg i)) → Rows new n bs
rows_keep new start e = start
rows_keep new (up {n = n} b r s m d) e =
    let q = e n (omega arith) in
    up b (rows_keep new r (λ i h. e i (omega arith))) (q.0 ∙ s) (q.1 ∙ m) (q.2 ∙ d)
rows_keep new (down {n = n} r s) e = down (rows_keep new r (λ i h. e i (omega arith))) (λ t. s (sym (e n (omega arith)).0 ∙ t))

-- ---- the roll without a mark

without_append : (mark : ℕ) (bs : List Bytes) (b : Bytes) → without mark (bs ++ (b ∷ [])) ≡ without mark bs ++ without mark (b ∷ [])
unfolding without
without_append mark [] b = refl
without_append mark (c ∷ bs) b = go (eqb (mark_of c) mark) (without_append mark bs b)
  where
    go : (t : Bool) → without mark (bs ++ (b ∷ [])) ≡ without mark bs ++ without mark (b ∷ [])
        → cond t (without mark (bs ++ (b ∷ []))) (c ∷ without mark (bs ++ (b ∷ []))) ≡ cond t (without mark bs) (c ∷ without mark bs) ++ without mark (b ∷ [])
    go true e = e
    go false e = ap (λ (l : List Bytes). c ∷ l) e

without_it : (mark : ℕ) (bs : List Bytes) (b : Bytes) → mark_of b ≡ mark → without mark (bs ++ (b ∷ [])) ≡ without mark bs
unfolding without
without_it mark bs b e = without_append mark bs b ∙ rw (eq-eqb (mark_of b) mark e, append-nil (without mark bs))

without_other : (mark : ℕ) (bs : List Bytes) (b : Bytes) → mark_of b ≢ mark → without mark (bs ++ (b ∷ [])) ≡ without mark bs ++ (b ∷ [])
unfolding without
without_other mark bs b e = without_append mark bs b ∙ rw (ne_eqb (mark_of b) mark e)

-- an entry withdrawn
module _ (reg : Bytes) (at mark : ℕ) (size : length reg ≡ 163840) (place : at < 4096) (marked : mark_at reg at ≡ mark) where
  abbrev left_by : Bytes
  left_by = withdrawn reg at

  -- its state, where it is entry n
  not_one : (n : ℕ) → n ≡ at → state_at left_by n ≢ 1
  not_one n e t =
      let two = withdrawn_state reg at size place in
      let one : state_at left_by at ≡ 1 = rw e at t in
      omega arith

  rows_withdraw : {n : ℕ} {bs : List Bytes} → Rows reg n bs → ((i : ℕ) → i < n → i ≢ at → state_at reg i ≡ 1 → mark_at reg i ≢ mark) → Rows left_by n (without mark bs)
  rows_withdraw start u = unfold without in start
  rows_withdraw (up {n = n} {bs = bs} b r s m d) u = go (ℕ_discrete n at) (rows_withdraw r (λ i h. u i (omega arith)))
    where
      go : Dec (n ≡ at) → Rows left_by n (without mark bs) → Rows left_by (suc n) (without mark (bs ++ (b ∷ [])))
      go (yes e) rest = rw (without_it mark bs b (sym m ∙ ap (mark_at reg) e ∙ marked)) (down rest (not_one n e))
      go (no e) rest =
          rw (without_other mark bs b (λ f. u n (omega arith) e s (m ∙ f)))
          (up b rest (withdrawn_states reg at size place n e ∙ s) (withdrawn_marks reg at size place n ∙ m) (withdrawn_digests reg at size place n ∙ d))
  rows_withdraw (down {n = n} {bs = bs} r s) u = down (rows_withdraw r (λ i h. u i (omega arith))) (go (ℕ_discrete n at))
    where
      go : Dec (n ≡ at) → state_at left_by n ≢ 1
      go (yes e) = not_one n e
      go (no e) = λ t. s (sym (withdrawn_states reg at size place n e) ∙ t)

-- a mark that no entry has is no ballot's
without_none : {reg : Bytes} (mark : ℕ) {n : ℕ} {bs : List Bytes} → Rows reg n bs → NoEntry reg mark n → without mark bs ≡ bs
without_none mark start u = unfold without in refl
without_none mark (up {n = n} {bs = bs} b r s m d) u =
    without_other mark bs b (λ f. u n (omega arith) (m ∙ f)) ∙ ap (λ (l : List Bytes). l ++ (b ∷ [])) (without_none mark r (λ i h. u i (omega arith)))
without_none mark (down r s) u = without_none mark r (λ i h. u i (omega arith))

-- ---- ballots of one length

pub long_more : (size : ℕ) (bs : List Bytes) (b : Bytes) → Long size bs → length b ≡ size → Long size (bs ++ (b ∷ []))
long_more size [] b h e = (e, tt)
long_more size (c ∷ bs) b h e = (h.0, long_more size bs b h.1 e)

long_without : (size mark : ℕ) (bs : List Bytes) → Long size bs → Long size (without mark bs)
unfolding without
long_without size mark [] h = tt
long_without size mark (b ∷ bs) h = go (eqb (mark_of b) mark) (long_without size mark bs h.1)
  where
    go : (t : Bool) → Long size (without mark bs) → Long size (cond t (without mark bs) (b ∷ without mark bs))
    go true rest = rest
    go false rest = (h.0, rest)

-- ---- what is kept where nothing else writes the register

record Own (st : State) (h : History) (bs : List Bytes) : Type 0 where
  rows : Rows st.register st.session.progress.used bs
  long : Long (ballot_length st.session.numbers.ring) bs
  noted : 0 < st.session.progress.phase → h.batch ≡ map sha3 bs

module _ (st : State) (h : History) (bs : List Bytes) (o : Own st h bs) where
  abbrev s : Session
  s = st.session

  abbrev reg : Bytes
  reg = st.register

  -- the rows before a new entry
  rows_before : {new digest : Bytes} {mark state : ℕ} → Appended reg new s.progress.used mark state digest → Rows new s.progress.used bs
  rows_before e = rows_keep _ o.rows (λ i l. (e.states i l, e.marks i l, e.digests i l))

  own_admit : (ballot : Bytes) → Admits s reg ballot → Own (state (entered_by s) (admitted reg s.progress.used ballot)) h (bs ++ (ballot ∷ []))
  unfolding entered_by
  own_admit ballot a =
      let was = a.presents.gathers.phase in
      let size = a.presents.ballot_size in
      let e = admitted_entry reg s.progress.used ballot a.presents.gathers.register_size a.enters.room (omega arith) in
      record {
        rows = rw (add-one s.progress.used) (up ballot (rows_before e) e.last_state e.last_mark e.last_digest);
        long = long_more _ bs ballot o.long size;
        noted = λ l. absurd (omega arith);
      }

  own_withdraw : OnlyFirst reg s.progress.used → (mark : ℕ) → Withdraws s reg mark → Own (next (withdraw mark) (state s reg)) h (without mark bs)
  own_withdraw only mark w = withdrawal s reg mark (λ (z : State). Own z h (without mark bs)) w found enters
    where
      found : (f : MarkStands reg mark s.progress.used) → Own (state s (withdrawn reg f.at)) h (without mark bs)
      found f =
          let was = w.gathers.phase in
          let l = f.within in
          let few = w.gathers.sound.used in
          record {
            rows = rows_withdraw reg f.at mark w.gathers.register_size (omega arith) f.marked o.rows (no_other reg mark s.progress.used only f);
            long = long_without _ mark bs o.long;
            noted = λ l. absurd (omega arith);
          }

      enters : MayEnter reg mark s.progress.used → Own (state (entered_by s) (withdrawn_early reg s.progress.used mark)) h (without mark bs)
      enters m =
          let was = w.gathers.phase in
          let e = early_entry reg s.progress.used mark w.gathers.register_size m.room in
          let two = e.last_state in
          unfold entered_by in rw (without_none mark o.rows m.unknown)
          (record { rows = rw (add-one s.progress.used) (down (rows_before e) (λ t. omega arith)); long = o.long; noted = λ l. absurd (omega arith) })

  own_close : Own (state (closed_by s reg) reg) (history_after close st h) bs
  unfolding closed_by history_after standing_digests
  own_close = record { rows = o.rows; long = o.long; noted = λ l. sym (rows_digests o.rows) }

  own_claim : (claims : Bytes) → Claims s claims → Own (state (claimed_by s claims) reg) (history_after (claim claims) st h) bs
  unfolding claimed_by history_after
  own_claim claims c = let was = c.phase in record { rows = o.rows; long = o.long; noted = λ l. o.noted (omega arith) }

  own_draw : (seed : Bytes) → Draws s seed → Own (state (drawn_by s seed) reg) h bs
  unfolding drawn_by
  own_draw seed d = let was = d.phase in record { rows = o.rows; long = o.long; noted = λ l. o.noted (omega arith) }

  own_checked : s.progress.phase ≡ 3 → Own (state (accepted_by s) reg) h bs
  unfolding accepted_by
  own_checked was = record { rows = o.rows; long = o.long; noted = λ l. o.noted (omega arith) }

  own_ended : s.progress.phase ≡ 3 → Own (state (refused_by s) reg) h bs
  unfolding refused_by
  own_ended was = record { rows = o.rows; long = o.long; noted = λ l. o.noted (omega arith) }

  own_next : OnlyFirst reg s.progress.used → (x : Step) → reply x st ≡ Taken → Own (next x st) (history_after x st h) (roll_after x bs)
  unfolding reply cleared committed_by history_after roll_after
  own_next only (clear b) e = record { rows = start; long = tt; noted = λ l. absurd (omega arith) }
  own_next only (admit ballot) e = own_admit ballot ((admitted_exactly s reg ballot).0 e)
  own_next only (withdraw mark) e = own_withdraw only mark ((withdrawn_exactly s reg mark).0 e)
  own_next only close e = own_close
  own_next only (claim claims) e = own_claim claims ((claimed_exactly s claims).0 e)
  own_next only (commit k head shares0 shares1) e = record { rows = o.rows; long = o.long; noted = o.noted }
  own_next only (draw seed) e = own_draw seed ((drawn_exactly s seed).0 e)
  own_next only (check k x) e = own_checked (taken_turn s k x e).0

  own_step : OnlyFirst reg s.progress.used → (x : Step) → Own (after x st) (leaves (reply x st) (history_after x st h) h) (leaves (reply x st) (roll_after x bs) bs)
  own_step only x = stepped_all st Own x (own_next only x) (λ number place e. o) (λ number place e was low. own_ended was)

own_own_trace : (xs : List Step) (t : OwnTrace) → OnlyFirst t.now.register t.now.session.progress.used → Own t.now t.history t.roll
    → Own (own_trace xs t).now (own_trace xs t).history (own_trace xs t).roll
unfolding own_trace own_extend
own_own_trace [] t only o = o
own_own_trace (x ∷ xs) t only o = own_own_trace xs (own_extend x t) (only_first_step t.now x only) (own_step t.now t.history t.roll o only x)

-- each of them has that length
each_long : (size : ℕ) (bs : List Bytes) → Long size bs → (b : Bytes) → Memᴰ b bs → length b ≡ size
each_long size [] h b m = absurd (Memᴰ.not-nil m)
each_long size (c ∷ cs) h b m = go (Memᴰ.append_cases (c ∷ []) m) (each_long size cs h.1 b)
  where
    go : Memᴰ b (c ∷ []) ⊎ Memᴰ b cs → (Memᴰ b cs → length b ≡ size) → length b ≡ size
    go (inl n) rest = let e = Memᴰ.eq_of_singleton n in rw e h.0
    go (inr n) rest = rest n

own_kept : (b : Beginning) (steps : List Step) → let t = own_trace steps (own_initial b) in Own t.now t.history t.roll
unfolding own_initial cleared
own_kept b steps = own_own_trace steps (own_initial b) (only_first_none _) (record { rows = start; long = tt; noted = λ q. absurd (omega arith) })

pub roll_is_batch : RollIsBatch
roll_is_batch b steps l =
    let t = own_trace steps (own_initial b) in
    let o = own_kept b steps in
    (o.noted l, each_long _ t.roll o.long, rw (o.noted l, length-map t.roll sha3) (ballot_digests_flatten _ t.roll o.long))

-- ---- no ballot of the roll has a withdrawn mark

-- a ballot of the roll has an entry that stands, with its mark
pub record Entered (y reg : Bytes) (n : ℕ) : Type 0 where
  pub at : ℕ
  pub within : at < n
  pub up_there : state_at reg at ≡ 1
  pub marked : mark_at reg at ≡ mark_of y

rows_entered : {reg : Bytes} {n : ℕ} {bs : List Bytes} (y : Bytes) → Rows reg n bs → Memᴰ y bs → Entered y reg n
rows_entered y start m = absurd (Memᴰ.not-nil m)
rows_entered {reg} y (up {n = n} {bs = bs} b r s k d) m = go (Memᴰ.append_cases bs m) (λ l. rows_entered y r l)
  where
    go : Memᴰ y bs ⊎ Memᴰ y (b ∷ []) → (Memᴰ y bs → Entered y reg n) → Entered y reg (suc n)
    go (inl l) rest = let e = rest l in let w = e.within in record { at = e.at; within = omega arith; up_there = e.up_there; marked = e.marked }
    go (inr l) rest = record { at = n; within = omega arith; up_there = s; marked = k ∙ ap mark_of (sym (Memᴰ.eq_of_singleton l)) }
rows_entered y (down r s) m = let e = rows_entered y r m in let w = e.within in record { at = e.at; within = omega arith; up_there = e.up_there; marked = e.marked }

own_now : (xs : List Step) (t : OwnTrace) → (own_trace xs t).now ≡ run xs t.now
unfolding own_trace own_extend run
own_now [] t = refl
own_now (x ∷ xs) t = own_now xs (own_extend x t)

run_append : (xs ys : List Step) (st : State) → run (xs ++ ys) st ≡ run ys (run xs st)
unfolding run
run_append [] ys st = refl
run_append (x ∷ xs) ys st = run_append xs ys (after x st)

-- run any steps after a clear taken, then a withdrawal that is taken, then any steps among which no clear is taken
pub off_the_roll : (from : State) (b : Beginning) (before since : List Step) (mark : ℕ) → mark < 2 ^ 32 → reply (clear b) from ≡ Taken
    → reply (withdraw mark) (run before (after (clear b) from)) ≡ Taken → Uncleared since (after (withdraw mark) (run before (after (clear b) from)))
    → (y : Bytes) → Memᴰ y (own_trace (before ++ (withdraw mark ∷ since)) (own_initial b)).roll → mark_of y ≢ mark
off_the_roll from b before since mark low c e u y m same =
    let steps = before ++ (withdraw mark ∷ since) in
    let rows = (own_kept b steps).rows in
    let r = rows_entered y rows m in
    let last = run since (after (withdraw mark) (run before (after (clear b) from))) in
    let now : (own_trace steps (own_initial b)).now ≡ last =
    own_now steps (own_initial b) ∙ ap (run steps) (sym (clear_taken from b c).1) ∙ run_append before (withdraw mark ∷ since) (after (clear b) from) ∙ (unfold run in refl) in
    let there : Entered y last.register last.session.progress.used = subst (λ (st : State). Entered y st.register st.session.progress.used) now r in
    none_stands from b before since mark low c e u there.at there.within (there.marked ∙ same) there.up_there

-- ---- such a list is one of those in which each step is lent any register

same_trace : (xs : List Step) (t : OwnTrace) (l : Trace) → l.session ≡ t.now.session → l.history ≡ t.history
    → ((trace (calls xs t.now) l).session ≡ (own_trace xs t).now.session) × ((trace (calls xs t.now) l).history ≡ (own_trace xs t).history)
unfolding trace extend_trace own_trace own_extend calls
same_trace [] t l es eh = (es, eh)
same_trace (x ∷ xs) t l es eh = same_trace xs (own_extend x t) (extend_trace (record { step = x; register = t.now.register }) l) (rw es) (rw (es, eh))

pub own_register : OwnRegister
unfolding own_initial initial_trace
own_register b steps = same_trace steps (own_initial b) (initial_trace b) refl refl
