-- A check that is taken is bound to what was lodged: `ChecksBound` of specs/Bound.antt. Assumes nothing.
use mathlib.Core.Path.{◌≡◌, refl, sym, ap, ap₂, ◌∙◌}
use mathlib.Core.Logic.{inl, inr}
use mathlib.Core.Bool.{Bool, true, false}
use mathlib.Core.List.{List, [], ◌∷◌, ◌++◌, append_cancel_left, flatten}
use Prim.Native.Nat.{ℕ, zero, suc, ◌*◌, ◌<◌}
use native.Mathlib.Omega.{arith}
use lib.ListN.{length}
use Rattle.codec.specs.Bytes.{Bytes, bytes, part, same}
use Rattle.codec.proofs.Laws.{same_equal}
use Rattle.codec.proofs.Replies.{taken_exactly}
use Rattle.sha3.specs.Sponge.{sha3}
use Rattle.sha3.proofs.Squeezing.{length_sha3}
use Rattle.stern.proofs.Sound.{parts}
use Rattle.round.proofs.Tests.{differ}
use Rattle.session_digests.specs.Digests.{ballot_digests, closing_digest, claim_digest, round_digest}
use Rattle.session_digests.proofs.Laws.{Long, length_ballot_digests}
use Rattle.session_check.specs.Stored.{Inputs}
use Rattle.session.specs.declared.Session.{Session}
use Rattle.session.specs.Session.{trail_at}
use Rattle.session.specs.Machine.{reply}
use Rattle.session_histories.specs.Runs.{Message, message, History}
use Rattle.session_histories.specs.Conditions.{Reaches}
use Rattle.session_histories.specs.Bound.{Agrees, lent_message, lent_batch, batch_string, claims_string, message_string, Bound}
use Rattle.session_histories.specs.Internal.{ChecksBound}
use Rattle.session_histories.proofs.Stepped.{early_taken}
use Rattle.session_histories.proofs.Checked.{reaches_exactly}
use Rattle.session_histories.proofs.Kept.{Kept, kept}
use Rattle.session_histories.proofs.Measured.{Measured, measured}
use Rattle.session_histories.proofs.Roll.{long_more}

-- ---- strings that have one SHA3-256

-- where equal strings hold equal things, the things are equal or the strings collide
agrees : {A : Type 0} (string : A → Bytes) (a b : A) → (string a ≡ string b → a ≡ b) → sha3 (string a) ≡ sha3 (string b) → Agrees string a b
agrees string a b back e = go (same (string a) (string b)) refl
  where
    go : (t : Bool) → same (string a) (string b) ≡ t → Agrees string a b
    go true s = inl (back (same_equal (string a) (string b) s))
    go false s = inr (record { differ = differ (string a) (string b) s; collide = e })

-- ---- what strings hold

-- as many strings of one length
apart : (size : ℕ) (ss ts : List Bytes) → Long size ss → Long size ts → length ss ≡ length ts → flatten ss ≡ flatten ts → ss ≡ ts
unfolding flatten
apart size [] [] hs ht l e = refl
apart size [] (t ∷ ts) hs ht l e = absurd (omega arith)
apart size (s ∷ ss) [] hs ht l e = absurd (omega arith)
apart size (s ∷ ss) (t ∷ ts) hs ht l e =
    let p = parts s t (hs.0 ∙ sym ht.0) e in
    ap₂ (λ (u : Bytes) (us : List Bytes). u ∷ us) p.0 (apart size ss ts hs.1 ht.1 (omega arith) p.1)

long_ballot_digests : (size m : ℕ) (ballots : Bytes) → Long 32 (ballot_digests size m ballots)
unfolding ballot_digests
long_ballot_digests size zero ballots = tt
long_ballot_digests size (suc m) ballots =
    long_more 32 (ballot_digests size m ballots) (sha3 (part ballots (size * m) size)) (long_ballot_digests size m ballots) (length_sha3 (part ballots (size * m) size))

-- first messages of one shape
message_apart : (m n : Message) → length m.head ≡ length n.head → length m.shares0 ≡ length n.shares0
    → m.head ++ (m.shares0 ++ m.shares1) ≡ n.head ++ (n.shares0 ++ n.shares1) → m ≡ n
message_apart m n l0 l1 e =
    let p = parts m.head n.head l0 e in
    let r = parts m.shares0 n.shares0 l1 p.1 in
    ap₂ (λ (a b : Bytes). message a b m.shares1) p.0 r.0 ∙ ap (message n.head n.shares0) r.1

-- ---- a session, and what was lodged

module _ (s : Session) (h : History) (k : Kept s h) (m : Measured s h) (round : ℕ) (x : Inputs) (r : Reaches s round x) where
  late : 2 < s.progress.phase
  late = let was = r.phase in omega arith

  -- the session's digests are those of the strings
  sheet_is : s.sheet ≡ sha3 h.sheet
  sheet_is = k.origin.sheet

  closing_is : s.closing ≡ sha3 (batch_string h h.batch)
  unfolding closing_digest
  closing_is = k.digests.closing (let l = late in omega arith) ∙ ap (λ (d : Bytes). sha3 (d ++ flatten h.batch)) sheet_is

  claim_is : s.claim ≡ sha3 (claims_string h h.claims)
  unfolding claim_digest
  claim_is = k.digests.claim (let l = late in omega arith) ∙ ap (λ (d : Bytes). sha3 (d ++ h.claims)) closing_is

  committed : round < s.progress.committed
  committed = let all = k.counts.whole late in let within = r.within in omega arith

  message_is : trail_at s round ≡ sha3 (message_string h round (h.firsts round))
  unfolding trail_at round_digest
  message_is =
      let f = h.firsts round in
      k.digests.trail (let l = late in omega arith) round committed ∙ ap (λ (d : Bytes). sha3 (d ++ (bytes 2 round ++ (f.head ++ (f.shares0 ++ f.shares1))))) claim_is

  -- and so are those of what is lent
  lent_closing : sha3 (batch_string h (lent_batch h x)) ≡ sha3 (batch_string h h.batch)
  unfolding closing_digest
  lent_closing = rw (← k.origin.numbers, ← (k.digests.closed (let l = late in omega arith)), ← sheet_is) (r.matches.ballots ∙ k.digests.closing (let l = late in omega arith))

  lent_claim : sha3 (claims_string h x.claims) ≡ sha3 (claims_string h h.claims)
  unfolding claim_digest
  lent_claim = ap (λ (d : Bytes). sha3 (d ++ x.claims)) (sym closing_is) ∙ r.matches.claims ∙ claim_is

  lent_round_lem : sha3 (message_string h round (lent_message x)) ≡ sha3 (message_string h round (h.firsts round))
  unfolding round_digest
  lent_round_lem = ap (λ (d : Bytes). sha3 (d ++ (bytes 2 round ++ (x.head ++ (x.shares0 ++ x.shares1))))) (sym claim_is) ∙ r.matches.message ∙ message_is

  bound : Bound h round x
  bound =
      let z = m.firsts (let l = late in omega arith) round committed in
      record {
        sheet = agrees (λ (text : Bytes). text) x.sheet h.sheet (λ e. e) (r.matches.sheet ∙ sheet_is);
        batch = agrees (batch_string h) (lent_batch h x) h.batch
            (λ e. apart 32 (lent_batch h x) h.batch (long_ballot_digests _ (length h.batch) x.ballots) m.batch (length_ballot_digests _ (length h.batch) x.ballots) (append_cancel_left (sha3 h.sheet) _ _ e))
            lent_closing;
        claims = agrees (claims_string h) x.claims h.claims (λ e. append_cancel_left (sha3 (batch_string h h.batch)) _ _ e) lent_claim;
        first_message = agrees (message_string h round) (lent_message x) (h.firsts round)
            (λ e. message_apart (lent_message x) (h.firsts round) (r.lengths.head ∙ sym z.head) (r.lengths.shares0 ∙ sym z.shares0)
            (append_cancel_left (bytes 2 round) _ _ (append_cancel_left (sha3 (claims_string h h.claims)) _ _ e)))
            lent_round_lem;
      }

pub checks_bound : ChecksBound
unfolding reply
checks_bound b cs e register round x t =
    bound _ _ (kept b cs e) (measured b cs e) round x ((reaches_exactly _ round x).0 ((taken_exactly _).0 (early_taken _ round x t)))
