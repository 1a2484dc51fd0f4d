-- In an election (specs/Elections.antt) the marks are withdrawn that come first, the ballots are admitted and the batch is closed. Assumes nothing.
use mathlib.Core.Path.{◌≡◌, refl, sym, ap, subst, ◌∙◌}
use mathlib.Core.Logic.{◌≢◌, inr}
use mathlib.Core.List.{List, [], ◌∷◌, ◌++◌, map, Memᴰ, flatten}
use Prim.Native.Nat.{ℕ, suc, ◌+◌, ◌-◌, ◌<◌}
use native.Mathlib.Decide.{dec_lt}
use native.Mathlib.Omega.{arith}
use lib.ListN.{length, length-map, length-replicate}
use Rattle.codec.specs.Bytes.{Bytes, bytes, number}
use Rattle.codec.specs.Lists.{list}
use Rattle.codec.specs.Reply.{Taken}
use Rattle.codec.proofs.Lists.{length_list}
use Rattle.codec.proofs.Numbers.{number_bytes}
use Rattle.sha3.specs.Sponge.{sha3}
use Rattle.round.specs.Producer.{Material}
use Rattle.register.specs.Register.{register_length, mark_at, state_at, mark_of, admitted, withdrawn_early}
use Rattle.register.proofs.Entries.{admitted_entry, early_entry}
use Rattle.session_digests.specs.Digests.{ballot_digests}
use Rattle.round.specs.Layout.{ballot_length}
use Rattle.session.specs.Steps.{on, cleared, entered_by, closed_by}
use Rattle.session.specs.Machine.{Step, admit, withdraw, close, State, reply}
use Rattle.session.specs.declared.Session.{Session}
use Rattle.session_histories.specs.Runs.{history_after, without, roll_after}
use Rattle.session_histories.specs.Conditions.{NoEntry}
use Rattle.session_histories.specs.Internal.{OwnTrace, Begins, own_initial, own_extend, own_trace}
use Rattle.session_histories.specs.Elections.{batch_bytes, Countable}
use Rattle.session_histories.proofs.ExactGathering.{admitted_exactly, withdrawn_exactly, next_early, closed_exactly}
use Rattle.session_histories.proofs.Kept.{kept_own}
use Rattle.session_histories.proofs.Roll.{roll_is_batch}
use Rattle.session_histories.proofs.Stages.{trace_append, trace_none, trace_next, extend_is, up_to, by_last, On, numbers, on_next, Closed}

module _ (sheet : Bytes) (m : ℕ) (ballot : ℕ → Bytes) (material : ℕ → Material) (claims seed : Bytes) (e : ℕ) (early : ℕ → ℕ)
    (c : Countable sheet m ballot material claims seed e early) (readable : Begins (on sheet)) where
  -- ---- withdraw

  record Warned (n : ℕ) (t : OwnTrace) : Type 0 where
    on_sheet : On sheet t
    phase : t.now.session.progress.phase ≡ 0
    used : t.now.session.progress.used ≡ n
    size : length t.now.register ≡ register_length
    marks : (i : ℕ) → i < n → mark_at t.now.register i ≡ early i
    roll : t.roll ≡ []

  abbrev start : OwnTrace
  start = own_initial (on sheet)

  begun : Warned 0 start
  unfolding own_initial cleared
  begun = record {
    on_sheet = record { kept = unfold own_trace in kept_own (on sheet) [] readable; sheet_is = refl };
    phase = refl;
    used = refl;
    size = length-replicate {A = ℕ} register_length 0;
    marks = λ i l. absurd (omega arith);
    roll = refl;
  }

  abbrev pub withdrawing : ℕ → Step
  withdrawing i = withdraw (early i)

  module _ (n : ℕ) (t : OwnTrace) (l : n < e) (g : Warned n t) where
    abbrev s : Session
    s = t.now.session

    abbrev reg : Bytes
    reg = t.now.register

    abbrev u : ℕ
    u = s.progress.used

    room : u < 4096
    room = let used = g.used in let few = c.few in omega arith

    unknown : NoEntry reg (early n) u
    unknown i h q = let used = g.used in c.early_marks i n (omega arith) l (sym (g.marks i (omega arith)) ∙ q)

    withdraws : reply (withdrawing n) t.now ≡ Taken
    unfolding reply
    withdraws =
        (withdrawn_exactly s reg (early n)).1
        (record { gathers = record { sound = g.on_sheet.kept.sound; phase = g.phase; register_size = g.size }; marked = inr (record { unknown = unknown; room = room }) })

    withdraw_next : Warned (suc n) (own_extend (withdrawing n) t)
    unfolding entered_by history_after roll_after without
    withdraw_next =
        let used = g.used in
        let new = early_entry reg u (early n) g.size room in
        let now = next_early s reg (early n) unknown in
        let same : number (bytes 4 (early n)) ≡ early n = number_bytes 4 (early n) (let small = c.early_size n l in omega arith) in
        subst (Warned (suc n)) (sym (extend_is (withdrawing n) t withdraws)) (record {
          on_sheet = on_next sheet (withdrawing n) t g.on_sheet withdraws refl;
          phase = ap (λ (st : State). st.session.progress.phase) now ∙ g.phase;
          used = ap (λ (st : State). st.session.progress.used) now ∙ omega arith;
          size = ap (λ (st : State). length st.register) now ∙ new.sized;
          marks = λ i h. ap (λ (st : State). mark_at st.register i) now
              ∙ by_last (λ j. mark_at (withdrawn_early reg u (early n)) j ≡ early j) n i h (λ j. new.marks i (omega arith) ∙ g.marks i j)
              (ap (mark_at (withdrawn_early reg u (early n))) (sym used) ∙ new.last_mark ∙ same);
          roll = ap (without (early n)) g.roll;
        })

  abbrev pub warned : OwnTrace
  warned = own_trace (list e withdrawing) start

  all_warned : Warned e warned
  all_warned =
      up_to (λ n. Warned n (own_trace (list n withdrawing) start)) e (subst (Warned 0) (sym (trace_none withdrawing start)) begun)
      (λ n l h. subst (Warned (suc n)) (sym (trace_next n withdrawing start)) (withdraw_next n (own_trace (list n withdrawing) start) l h)) e (omega arith)

  -- ---- admit

  record Gathering (n : ℕ) (t : OwnTrace) : Type 0 where
    on_sheet : On sheet t
    phase : t.now.session.progress.phase ≡ 0
    used : t.now.session.progress.used ≡ e + n
    size : length t.now.register ≡ register_length
    early_marks : (i : ℕ) → i < e → mark_at t.now.register i ≡ early i
    marks : (i : ℕ) → i < n → mark_at t.now.register (e + i) ≡ mark_of (ballot i)
    states : (i : ℕ) → i < n → state_at t.now.register (e + i) ≡ 1
    roll : t.roll ≡ list n ballot

  gathering_starts : Gathering 0 warned
  unfolding list
  gathering_starts =
      let h = all_warned in
      record {
        on_sheet = h.on_sheet;
        phase = h.phase;
        used = h.used ∙ omega arith;
        size = h.size;
        early_marks = h.marks;
        marks = λ i l. absurd (omega arith);
        states = λ i l. absurd (omega arith);
        roll = h.roll;
      }

  module _ (n : ℕ) (t : OwnTrace) (l : n < m) (g : Gathering n t) where
    new_mark : (i : ℕ) → i < t.now.session.progress.used → mark_at t.now.register i ≢ mark_of (ballot n)
    new_mark i h q = go (dec_lt i e)
      where
        go : Dec (i < e) → ⊥
        go (yes k) = c.apart i n k l (sym (g.early_marks i k) ∙ q)
        go (no k) =
            let used = g.used in
            let at : e + (i - e) ≡ i = omega arith in
            c.marks (i - e) n (omega arith) l (sym (g.marks (i - e) (omega arith)) ∙ ap (mark_at t.now.register) at ∙ q)

    admits : reply (admit (ballot n)) t.now ≡ Taken
    unfolding reply
    admits =
        let used = g.used in
        let few = c.few in
        (admitted_exactly t.now.session t.now.register (ballot n)).1 (record {
          presents = record {
            gathers = record { sound = g.on_sheet.kept.sound; phase = g.phase; register_size = g.size };
            ballot_size = rw (numbers sheet t g.on_sheet) (c.ballot_size n l);
            coefficients = rw (numbers sheet t g.on_sheet) (c.ballot_range n l);
          };
          enters = record { unknown = new_mark; room = omega arith };
        })

    admit_next : Gathering (suc n) (own_extend (admit (ballot n)) t)
    unfolding entered_by history_after roll_after list
    admit_next =
        let before = t.now.register in
        let place = t.now.session.progress.used in
        let used = g.used in
        let few = c.few in
        let new = admitted_entry before place (ballot n) g.size (omega arith) (rw (c.ballot_size n l) (omega arith)) in
        let at : e + n ≡ place = sym used in
        subst (Gathering (suc n)) (sym (extend_is (admit (ballot n)) t admits)) (record {
          on_sheet = on_next sheet (admit (ballot n)) t g.on_sheet admits refl;
          phase = g.phase;
          used = omega arith;
          size = new.sized;
          early_marks = λ i h. new.marks i (omega arith) ∙ g.early_marks i h;
          marks = λ i h. by_last (λ j. mark_at (admitted before place (ballot n)) (e + j) ≡ mark_of (ballot j)) n i h (λ j. new.marks (e + i) (omega arith) ∙ g.marks i j)
              (ap (mark_at (admitted before place (ballot n))) at ∙ new.last_mark);
          states = λ i h. by_last (λ j. state_at (admitted before place (ballot n)) (e + j) ≡ 1) n i h (λ j. new.states (e + i) (omega arith) ∙ g.states i j)
              (ap (state_at (admitted before place (ballot n))) at ∙ new.last_state);
          roll = ap (λ (bs : List Bytes). bs ++ (ballot n ∷ [])) g.roll;
        })

  abbrev pub admitting : ℕ → Step
  admitting i = admit (ballot i)

  -- ---- close and claim

  abbrev pub gathered : OwnTrace
  gathered = own_trace (list m admitting) warned

  all_gathered : Gathering m gathered
  all_gathered =
      up_to (λ n. Gathering n (own_trace (list n admitting) warned)) m (subst (Gathering 0) (sym (trace_none admitting warned)) gathering_starts)
      (λ n l h. subst (Gathering (suc n)) (sym (trace_next n admitting warned)) (admit_next n (own_trace (list n admitting) warned) l h)) m (omega arith)

  closes : reply close gathered.now ≡ Taken
  unfolding reply
  closes =
      let g = all_gathered in
      let used = g.used in
      let some = c.some in
      (closed_exactly gathered.now.session gathered.now.register).1 (record {
        gathers = record { sound = g.on_sheet.kept.sound; phase = g.phase; register_size = g.size };
        at = e + 0;
        within = omega arith;
        stands = g.states 0 (omega arith);
      })

  abbrev pub shut : OwnTrace
  shut = own_extend close gathered

  shut_is : shut ≡ own_trace (list e withdrawing ++ (list m admitting ++ (close ∷ []))) start
  shut_is =
      sym
      (trace_append (list e withdrawing) (list m admitting ++ (close ∷ [])) start ∙ trace_append (list m admitting) (close ∷ []) warned ∙ (unfold own_trace in refl))

  pub shut_phase : shut.now.session.progress.phase ≡ 1
  shut_phase = rw (extend_is close gathered closes) (unfold closed_by in refl)

  shut_roll : shut.roll ≡ list m ballot
  shut_roll = ap (λ (t : OwnTrace). t.roll) (extend_is close gathered closes) ∙ (unfold roll_after in all_gathered.roll)

  shut_on : On sheet shut
  shut_on = subst (On sheet) (sym (extend_is close gathered closes)) (on_next sheet close gathered all_gathered.on_sheet closes (unfold history_after in refl))

  pub shut_closed : Closed sheet m (batch_bytes sheet m ballot material claims seed) shut
  shut_closed =
      let one = shut_phase in
      let of : OwnTrace → Type 0 = λ t. 0 < t.now.session.progress.phase
      → (t.history.batch ≡ map sha3 t.roll) × ((y : Bytes) → Memᴰ y t.roll → length y ≡ ballot_length t.now.session.numbers.ring)
      × (ballot_digests (ballot_length t.now.session.numbers.ring) (length t.history.batch) (flatten t.roll) ≡ t.history.batch) in
      let r = subst of (sym shut_is) (roll_is_batch (on sheet) (list e withdrawing ++ (list m admitting ++ (close ∷ [])))) (omega arith) in
      let count : length shut.history.batch ≡ m = ap length r.0 ∙ length-map shut.roll sha3 ∙ ap length shut_roll ∙ length_list m ballot in
      record {
        on_sheet = shut_on;
        batched = (λ i. ballot_digests (ballot_length (sym (numbers sheet shut shut_on) i).ring) (length shut.history.batch) (flatten (sym shut_roll i))) ∙ r.2;
        count = count;
        closed = shut_on.kept.digests.closed (omega arith) ∙ count;
      }
