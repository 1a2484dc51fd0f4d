-- The second demand and document 02, L1: a mark whose withdrawal was taken stands in no batch closed later, before the next clear taken, whether its ballot came before or after;
-- and a ballot that comes after is refused 33. Assumes nothing.
use mathlib.Core.Path.{◌≡◌, refl, sym, ap, subst, ◌∙◌}
use mathlib.Core.Logic.{◌≢◌}
use mathlib.Core.Bool.{true, false}
use mathlib.Core.List.{List, [], ◌∷◌, Memᴰ}
use Prim.Native.Nat.{ℕ, ◌+◌, ◌^◌, ◌≤◌, ◌<◌}
use native.Mathlib.Omega.{arith}
use native.Mathlib.Decide.{ℕ_discrete, dec_lt}
use lib.ListN.{length, length-map}
use Rattle.codec.specs.Bytes.{Bytes, bytes, number, zeros}
use Rattle.codec.specs.Reply.{Reply, Taken, Refused}
use Rattle.codec.proofs.Numbers.{number_bytes}
use Rattle.sha3.specs.Sponge.{sha3}
use Rattle.register.specs.Register.{register_length, mark_at, state_at, digest_at, find, standing, standing_digests, mark_of, admitted, withdrawn, withdrawn_early}
use Rattle.register.proofs.Entries.{Appended, found, stands, admitted_entry, early_entry, withdrawn_marks, withdrawn_state, withdrawn_states}
use Rattle.session.specs.declared.Session.{Session}
use Rattle.session.specs.Steps.{Beginning, cleared, entered_by, closed_by, claimed_by, committed_by, drawn_by, accepted_by, refused_by}
use Rattle.session.specs.Machine.{Step, clear, admit, withdraw, close, claim, commit, draw, check, State, next, reply, after}
use Rattle.session_histories.specs.Runs.{clears}
use Rattle.session_histories.specs.Internal.{run}
use Rattle.session_histories.specs.Conditions.{Gathers, NoEntry, MarkStands, MarkWithdrawn, MayEnter, Presents, Admits}
use Rattle.session_histories.specs.Claims.{ClosedWithout}
use Rattle.session_histories.proofs.Stepped.{Uncleared, none, more, stepped, after_taken}
use Rattle.session_histories.proofs.ExactGathering.{first_entry, admitted_exactly, withdrawn_exactly, withdrawal}
use Rattle.session_histories.proofs.Refusals.{admit_33}

clears_taken : (b : Beginning) (r : Reply) → r ≡ Taken → clears (clear b) r ≡ true
clears_taken b r e = rw e

-- ---- what holds of the first n entries

-- of several with one mark only the first can stand
pub record OnlyFirst (reg : Bytes) (n : ℕ) : Type 0 where
  pub later : (i j : ℕ) → i < j → j < n → mark_at reg i ≡ mark_at reg j → state_at reg j ≢ 1

-- entry `at` has the mark, and none that has it stands
record Gone (mark at : ℕ) (reg : Bytes) (n : ℕ) : Type 0 where
  within : at < n
  marked : mark_at reg at ≡ mark
  down : (i : ℕ) → i < n → mark_at reg i ≡ mark → state_at reg i ≢ 1

pub only_first_none : (reg : Bytes) → OnlyFirst reg 0
only_first_none reg = record { later = λ i j k l m. absurd (omega arith) }

-- besides the first, no entry with a mark that stands has it and stands
pub no_other : (reg : Bytes) (mark n : ℕ) → OnlyFirst reg n → (f : MarkStands reg mark n) → (i : ℕ) → i < n → i ≢ f.at → state_at reg i ≡ 1 → mark_at reg i ≢ mark
no_other reg mark n o f i l d s m = go (dec_lt i f.at)
  where
    go : Dec (i < f.at) → ⊥
    go (yes h) = f.earlier i h m
    go (no h) = o.later f.at i (omega arith) l (f.marked ∙ sym m) s

-- ---- with an entry more

module _ (reg new : Bytes) (n mark state : ℕ) (digest : Bytes) (a : Appended reg new n mark state digest) where
  only_first_append : ((i : ℕ) → i < n → mark_at reg i ≡ mark → state ≢ 1) → OnlyFirst reg n → OnlyFirst new (n + 1)
  only_first_append last o = record { later = λ i j k l m. go i j (ℕ_discrete j n) k l m }
    where
      go : (i j : ℕ) → Dec (j ≡ n) → i < j → j < n + 1 → mark_at new i ≡ mark_at new j → state_at new j ≢ 1
      go i j (yes e) k l m s =
          let same : mark_at new i ≡ mark = m ∙ ap (mark_at new) e ∙ a.last_mark in
          last i (omega arith) (sym (a.marks i (omega arith)) ∙ same) (sym a.last_state ∙ ap (state_at new) (sym e) ∙ s)
      go i j (no e) k l m s =
          o.later i j k (omega arith) (sym (a.marks i (omega arith)) ∙ m ∙ a.marks j (omega arith)) (sym (a.states j (omega arith)) ∙ s)

  gone_append : {gone at : ℕ} → (mark ≡ gone → state ≢ 1) → Gone gone at reg n → Gone gone at new (n + 1)
  gone_append {gone} {at} last g =
      let l = g.within in
      record { within = omega arith; marked = a.marks at l ∙ g.marked; down = λ i k m. go i (ℕ_discrete i n) k m }
    where
      go : (i : ℕ) → Dec (i ≡ n) → i < n + 1 → mark_at new i ≡ gone → state_at new i ≢ 1
      go i (yes e) k m s = last (sym a.last_mark ∙ ap (mark_at new) (sym e) ∙ m) (sym a.last_state ∙ ap (state_at new) (sym e) ∙ s)
      go i (no e) k m s = g.down i (omega arith) (sym (a.marks i (omega arith)) ∙ m) (sym (a.states i (omega arith)) ∙ s)

-- ---- with an entry withdrawn that stood

module _ (reg : Bytes) (n mark : ℕ) (size : length reg ≡ register_length) (few : n ≤ 4096) (f : MarkStands reg mark n) where
  abbrev left_by : Bytes
  left_by = withdrawn reg f.at

  place : f.at < 4096
  place = let l = f.within in omega arith

  marks : (i : ℕ) → mark_at left_by i ≡ mark_at reg i
  marks = withdrawn_marks reg f.at size place

  -- what did not stand does not stand
  still_down : (i : ℕ) → (i ≢ f.at → state_at reg i ≢ 1) → state_at left_by i ≢ 1
  still_down i d = go (ℕ_discrete i f.at)
    where
      go : Dec (i ≡ f.at) → state_at left_by i ≢ 1
      go (yes e) s =
          let two = withdrawn_state reg f.at size place in
          let one : state_at left_by f.at ≡ 1 = ap (state_at left_by) (sym e) ∙ s in
          omega arith
      go (no e) s = d e (sym (withdrawn_states reg f.at size place i e) ∙ s)

  only_first_withdraw : OnlyFirst reg n → OnlyFirst left_by n
  only_first_withdraw o = record { later = λ i j k l m. still_down j (λ d. o.later i j k l (sym (marks i) ∙ m ∙ marks j)) }

  gone_withdraw : {gone at : ℕ} → Gone gone at reg n → Gone gone at left_by n
  gone_withdraw {gone} {at} g = record { within = g.within; marked = marks at ∙ g.marked; down = λ i l m. still_down i (λ d. g.down i l (sym (marks i) ∙ m)) }

  gone_now : OnlyFirst reg n → Gone mark f.at left_by n
  gone_now o = record {
    within = f.within;
    marked = marks f.at ∙ f.marked;
    down = λ i l m. still_down i (λ d s. no_other reg mark n o f i l d s (sym (marks i) ∙ m));
  }

-- ---- after any step

module _ (P : Bytes → ℕ → Type 0) (st : State)
    (admits : (ballot : Bytes) → Admits st.session st.register ballot → P (admitted st.register st.session.progress.used ballot) (st.session.progress.used + 1))
    (withdraws : (mark : ℕ) → Gathers st.session st.register → (f : MarkStands st.register mark st.session.progress.used)
    → P (withdrawn st.register f.at) st.session.progress.used)
    (enters : (mark : ℕ) → Gathers st.session st.register → MayEnter st.register mark st.session.progress.used
    → P (withdrawn_early st.register st.session.progress.used mark) (st.session.progress.used + 1)) where
  abbrev Here : State → Type 0
  Here z = P z.register z.session.progress.used

  rule : (x : Step) → (clears x (reply x st) ≡ true → P (zeros register_length) 0) → Here st → Here (after x st)
  unfolding refused_by
  rule x c h = stepped st Here x (taken x c) (λ number place e. h) (λ number place e was low. h)
    where
      taken : (x : Step) → (clears x (reply x st) ≡ true → P (zeros register_length) 0) → reply x st ≡ Taken → Here (next x st)
      taken (clear b) c e = unfold cleared in c (clears_taken b _ e)
      taken (admit ballot) c e = unfold reply entered_by in admits ballot ((admitted_exactly st.session st.register ballot).0 e)
      taken (withdraw mark) c e =
          let w = (withdrawn_exactly st.session st.register mark).0 (unfold reply in e) in
          withdrawal st.session st.register mark Here w (withdraws mark w.gathers) (unfold entered_by in enters mark w.gathers)
      taken close c e = unfold closed_by in h
      taken (claim claims) c e = unfold claimed_by in h
      taken (commit k head shares0 shares1) c e = unfold committed_by in h
      taken (draw seed) c e = unfold drawn_by in h
      taken (check k x) c e = unfold accepted_by in h

module _ (st : State) where
  abbrev s : Session
  s = st.session

  abbrev reg : Bytes
  reg = st.register

  abbrev used : ℕ
  used = s.progress.used

  admits_entry : (ballot : Bytes) → Admits s reg ballot → Appended reg (admitted reg used ballot) used (mark_of ballot) 1 (sha3 ballot)
  admits_entry ballot a = admitted_entry reg used ballot a.presents.gathers.register_size a.enters.room (omega (arith, a.presents.ballot_size))

  enters_entry : (mark : ℕ) → Gathers s reg → MayEnter reg mark used → Appended reg (withdrawn_early reg used mark) used (number (bytes 4 mark)) 2 (zeros 32)
  enters_entry mark g m = early_entry reg used mark g.register_size m.room

  pub only_first_step : (x : Step) → OnlyFirst reg used → OnlyFirst (after x st).register (after x st).session.progress.used
  only_first_step x o =
      rule OnlyFirst st (λ ballot a. only_first_append _ _ _ _ _ _ (admits_entry ballot a) (λ i l m t. a.enters.unknown i l m) o)
      (λ mark g f. only_first_withdraw reg used mark g.register_size g.sound.used f o)
      (λ mark g m. only_first_append _ _ _ _ _ _ (enters_entry mark g m) (λ i l k t. omega arith) o) x (λ c. only_first_none (zeros register_length)) o

  gone_step : (mark at : ℕ) (x : Step) → clears x (reply x st) ≡ false → Gone mark at reg used → Gone mark at (after x st).register (after x st).session.progress.used
  gone_step mark at x c h =
      rule (Gone mark at) st (λ ballot a. gone_append _ _ _ _ _ _ (admits_entry ballot a) (λ e t. a.enters.unknown at h.within (h.marked ∙ sym e)) h)
      (λ other g f. gone_withdraw reg used other g.register_size g.sound.used f h)
      (λ other g m. gone_append _ _ _ _ _ _ (enters_entry other g m) (λ e t. omega arith) h) x (λ t. absurd (let z : ◌≡◌ {A = ℕ} 0 1 = cc in omega arith)) h

  -- a mark without an entry gets one that does not stand
  gone_early : (mark : ℕ) → mark < 2 ^ 32 → Gathers s reg → MayEnter reg mark used → Gone mark used (withdrawn_early reg used mark) (used + 1)
  gone_early mark low g m = record { within = omega arith; marked = a.last_mark ∙ same; down = λ i l k. go i (ℕ_discrete i used) l k }
    where
      a : Appended reg (withdrawn_early reg used mark) used (number (bytes 4 mark)) 2 (zeros 32)
      a = enters_entry mark g m

      same : number (bytes 4 mark) ≡ mark
      same = number_bytes 4 mark (omega arith)

      go : (i : ℕ) → Dec (i ≡ used) → i < used + 1 → mark_at (withdrawn_early reg used mark) i ≡ mark → state_at (withdrawn_early reg used mark) i ≢ 1
      go i (yes e) l k t =
          let two : state_at (withdrawn_early reg used mark) i ≡ 2 = ap (state_at (withdrawn_early reg used mark)) e ∙ a.last_state in
          omega arith
      go i (no e) l k t = m.unknown i (omega arith) (sym (a.marks i (omega arith)) ∙ k)

  -- after a withdrawal that is taken
  gone_after : (mark : ℕ) → mark < 2 ^ 32 → OnlyFirst reg used → reply (withdraw mark) st ≡ Taken
      → (at : ℕ) × Gone mark at (after (withdraw mark) st).register (after (withdraw mark) st).session.progress.used
  gone_after mark low o e =
      let w = (withdrawn_exactly s reg mark).0 (unfold reply in e) in
      let g = w.gathers in
      rw (after_taken st (withdraw mark) e)
      (withdrawal s reg mark (λ (z : State). (at : ℕ) × Gone mark at z.register z.session.progress.used) w
      (λ f. (f.at, gone_now reg used mark g.register_size g.sound.used f o)) (unfold entered_by in (λ m. (used, gone_early mark low g m))))

  -- and of a mark that had no entry
  gone_entered : (mark : ℕ) → mark < 2 ^ 32 → NoEntry reg mark used → reply (withdraw mark) st ≡ Taken
      → Gone mark used (after (withdraw mark) st).register (after (withdraw mark) st).session.progress.used
  gone_entered mark low unknown e =
      let w = (withdrawn_exactly s reg mark).0 (unfold reply in e) in
      rw (after_taken st (withdraw mark) e)
      (withdrawal s reg mark (λ (z : State). Gone mark used z.register z.session.progress.used) w (λ f. absurd (unknown f.at f.within f.marked))
      (unfold entered_by in gone_early mark low w.gathers))

  -- an entry that stands does not have the mark
  out : (mark at : ℕ) → Gone mark at reg used → (i : ℕ) → Memᴰ i (standing reg used) → mark_at reg i ≢ mark
  out mark at g i m k = let t = stands reg used i m in g.down i t.0 k t.1

  -- the mark's first entry is a withdrawn one
  first_down : (mark at : ℕ) → Gone mark at reg used → MarkWithdrawn reg mark used
  first_down mark at g =
      let f = found reg mark used in
      let w = f.within in
      let l : find reg mark used < used = go (dec_lt (find reg mark used) used) in
      first_entry reg mark used l (g.down (find reg mark used) l (f.marked l))
    where
      go : Dec (find reg mark used < used) → find reg mark used < used
      go (yes l) = l
      go (no l) = let f = found reg mark used in let w = f.within in absurd (f.absent (omega arith) at g.within g.marked)

  -- after a clear that is taken no entry is used
  only_first_clear : (b : Beginning) → reply (clear b) st ≡ Taken → OnlyFirst (after (clear b) st).register (after (clear b) st).session.progress.used
  only_first_clear b e = rw (after_taken st (clear b) e) (unfold cleared in only_first_none (zeros register_length))

-- ---- over a run

only_first_run : (xs : List Step) (st : State) → OnlyFirst st.register st.session.progress.used → OnlyFirst (run xs st).register (run xs st).session.progress.used
unfolding run
only_first_run [] st h = h
only_first_run (x ∷ xs) st h = only_first_run xs (after x st) (only_first_step st x h)

gone_run : (mark at : ℕ) {xs : List Step} {st : State} → Uncleared xs st → Gone mark at st.register st.session.progress.used
    → Gone mark at (run xs st).register (run xs st).session.progress.used
unfolding run
gone_run mark at none h = h
gone_run mark at (more {x = x} {st = st} c u) h = gone_run mark at u (gone_step st mark at x c h)

-- what close leaves, where no entry that stands has the mark
closed_without : (mark : ℕ) (st : State) → reply close st ≡ Taken
    → ((i : ℕ) → Memᴰ i (standing st.register st.session.progress.used) → mark_at st.register i ≢ mark)
    → ClosedWithout mark st.session.progress.used st.register (after close st).session
unfolding closed_by standing_digests
closed_without mark st e others =
    let s = st.session in
    let reg = st.register in
    rw (after_taken st close e) (record { out = others; count = length-map (standing reg s.progress.used) (digest_at reg); digest = refl })

-- any steps after a clear that is taken, a withdrawal of a mark of 32 bits that is taken, and any steps among which no clear is taken
module _ (start : State) (b : Beginning) (before between : List Step) (mark : ℕ) (low : mark < 2 ^ 32) (c : reply (clear b) start ≡ Taken) where
  abbrev found_by : State
  found_by = run before (after (clear b) start)

  abbrev gone_by : State
  gone_by = after (withdraw mark) found_by

  abbrev last : State
  last = run between gone_by

  module _ (e : reply (withdraw mark) found_by ≡ Taken) (u : Uncleared between gone_by) where
    gone : (at : ℕ) × Gone mark at last.register last.session.progress.used
    gone =
        let first = gone_after found_by mark low (only_first_run before (after (clear b) start) (only_first_clear start b c)) e in
        (first.0, gone_run mark first.0 u first.1)

    -- no entry that has it stands
    pub none_stands : (i : ℕ) → i < last.session.progress.used → mark_at last.register i ≡ mark → state_at last.register i ≢ 1
    none_stands = gone.1.down

    -- what a close taken then leaves is a batch without that mark
    pub withdrawn_stays_out : reply close last ≡ Taken → ClosedWithout mark last.session.progress.used last.register (after close last).session
    withdrawn_stays_out d = closed_without mark last d (out last mark gone.0 gone.1)

    -- and a ballot with it that meets none of 31, 1, 5 is refused 33
    pub late_refused : (ballot : Bytes) → mark_of ballot ≡ mark → Presents last.session last.register ballot → reply (admit ballot) last ≡ Refused 33 0
    unfolding reply
    late_refused ballot m p =
        (admit_33 last.session last.register ballot).1 (
          p,
          subst (λ (n : ℕ). MarkWithdrawn last.register n last.session.progress.used) (sym m) (first_down last mark gone.0 gone.1),
        )

    -- of a mark that had no entry: the entry that it got does not stand
    pub early_down : NoEntry found_by.register mark found_by.session.progress.used
        → Memᴰ found_by.session.progress.used (standing last.register last.session.progress.used) → ⊥
    early_down unknown m =
        let g = gone_run mark found_by.session.progress.used u (gone_entered found_by mark low unknown e) in
        out last mark found_by.session.progress.used g found_by.session.progress.used m g.marked
