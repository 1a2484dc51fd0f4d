-- Where what is lent is bytes, the strings that bind a session are bytes: `ChecksHashed` of specs/Bound.antt. Assumes nothing.
use mathlib.Core.Bool.{Bool, true, false, cond}
use mathlib.Core.List.{List, [], ◌∷◌, ◌++◌, map, flatten}
use Prim.Native.Nat.{ℕ, zero, suc, ◌+◌, ◌*◌}
use native.Mathlib.Omega.{arith}
use lib.Dec.{eqb}
use Rattle.codec.specs.Bytes.{Bytes, Octets, bytes, part}
use Rattle.codec.proofs.Laws.{octets_part, octets_append}
use Rattle.codec.proofs.Numbers.{bytes_octets}
use Rattle.sha3.specs.Sponge.{sha3}
use Rattle.sha3.proofs.Squeezing.{octets_sha3}
use Rattle.register.specs.Register.{digest_at, standing, standing_digests}
use Rattle.session_digests.specs.Digests.{ballot_digests}
use Rattle.session_digests.proofs.Laws.{flatten_more}
use Rattle.session_check.specs.Stored.{Inputs}
use Rattle.session.specs.Steps.{Beginning}
use Rattle.session.specs.Machine.{Step, clear, admit, withdraw, close, claim, commit, draw, check, State, reply}
use Rattle.session_histories.specs.Runs.{Message, message, History, Call, empty_history, history_after}
use Rattle.session_histories.specs.Internal.{lent, Trace, extend_trace, trace, initial_trace, ChecksHashed}
use Rattle.session_histories.specs.Bound.{lent_message, lent_batch, batch_string, claims_string, BoundBytes, Lodges, LodgesAll, LentBytes}
use Rattle.session_histories.proofs.Replies.{left}

octets_none : Octets []
octets_none i h = absurd (omega arith)

-- ---- what was lodged

record MessageBytes (m : Message) : Type 0 where
  head : Octets m.head
  shares0 : Octets m.shares0
  shares1 : Octets m.shares1

record Lodged (h : History) : Type 0 where
  sheet : Octets h.sheet
  batch : Octets (flatten h.batch)
  claims : Octets h.claims
  firsts : (j : ℕ) → MessageBytes (h.firsts j)

octets_digests : (reg : Bytes) (is : List ℕ) → Octets reg → Octets (flatten (map (digest_at reg) is))
unfolding flatten digest_at
octets_digests reg [] o = octets_none
octets_digests reg (i ∷ is) o = octets_append (digest_at reg i) (flatten (map (digest_at reg) is)) (octets_part reg (40 * i + 8) 32 o) (octets_digests reg is o)

lodged_first : (b : Beginning) → Octets b.sheet → Lodged (empty_history b)
unfolding flatten
lodged_first b o = record { sheet = o; batch = octets_none; claims = octets_none; firsts = λ j. record { head = octets_none; shares0 = octets_none; shares1 = octets_none } }

lodged_next : (x : Step) (st : State) (h : History) → Lodges x st.register → Lodged h → Lodged (history_after x st h)
unfolding history_after standing_digests
lodged_next (clear b) st h o l = lodged_first b o
lodged_next (admit ballot) st h o l = l
lodged_next (withdraw mark) st h o l = l
lodged_next close st h o l = record { sheet = l.sheet; batch = octets_digests st.register (standing st.register st.session.progress.used) o; claims = l.claims; firsts = l.firsts }
lodged_next (claim claims) st h o l = record { sheet = l.sheet; batch = l.batch; claims = o; firsts = l.firsts }
lodged_next (commit k head shares0 shares1) st h o l = record { sheet = l.sheet; batch = l.batch; claims = l.claims; firsts = λ j. go j (eqb j k) }
  where
    go : (j : ℕ) (t : Bool) → MessageBytes (cond t (message head shares0 shares1) (h.firsts j))
    go j true = record { head = o.0; shares0 = o.1; shares1 = o.2 }
    go j false = l.firsts j
lodged_next (draw seed) st h o l = l
lodged_next (check k x) st h o l = l

lodged_trace : (cs : List Call) (l : Trace) → LodgesAll cs → Lodged l.history → Lodged (trace cs l).history
unfolding trace extend_trace
lodged_trace [] l o h = h
lodged_trace (c ∷ cs) l o h =
    lodged_trace cs (extend_trace c l) o.1 (left (λ (g : History). Lodged g) (reply c.step (lent l c)) (λ e. lodged_next c.step (lent l c) l.history o.0 h) h)

-- ---- the strings

octets_ballot_digests : (size m : ℕ) (ballots : Bytes) → Octets (flatten (ballot_digests size m ballots))
unfolding ballot_digests flatten
octets_ballot_digests size zero ballots = octets_none
octets_ballot_digests size (suc m) ballots =
    rw (flatten_more (ballot_digests size m ballots) (sha3 (part ballots (size * m) size)))
    (octets_append (flatten (ballot_digests size m ballots)) (sha3 (part ballots (size * m) size)) (octets_ballot_digests size m ballots) (octets_sha3 (part ballots (size * m) size)))

-- behind a digest
behind : (t u : Bytes) → Octets u → Octets (sha3 t ++ u)
behind t u o = octets_append (sha3 t) u (octets_sha3 t) o

octets_message : (k : ℕ) (m : Message) → MessageBytes m → Octets (bytes 2 k ++ (m.head ++ (m.shares0 ++ m.shares1)))
octets_message k m o =
    octets_append (bytes 2 k) (m.head ++ (m.shares0 ++ m.shares1)) (bytes_octets 2 k)
    (octets_append m.head (m.shares0 ++ m.shares1) o.head (octets_append m.shares0 m.shares1 o.shares0 o.shares1))

hashed : (h : History) (k : ℕ) (x : Inputs) → Lodged h → LentBytes x → BoundBytes h k x
hashed h k x l o =
    let batch = batch_string h h.batch in
    let claims = claims_string h h.claims in
    let sent : MessageBytes (lent_message x) = record { head = o.head; shares0 = o.shares0; shares1 = o.shares1 } in
    record {
      sheet = (o.sheet, l.sheet);
      batch = (behind h.sheet (flatten (lent_batch h x)) (octets_ballot_digests _ _ x.ballots), behind h.sheet (flatten h.batch) l.batch);
      claims = (behind batch x.claims o.claims, behind batch h.claims l.claims);
      first_message = (behind claims _ (octets_message k (lent_message x) sent), behind claims _ (octets_message k (h.firsts k) (l.firsts k)));
    }

pub checks_hashed : ChecksHashed
unfolding initial_trace
checks_hashed b cs first all k x o = hashed (trace cs (initial_trace b)).history k x (lodged_trace cs (initial_trace b) all (lodged_first b first)) o
