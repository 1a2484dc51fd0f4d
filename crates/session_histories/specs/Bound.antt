-- What binds a session to what was lodged (document 01, "Register and session"): a check that is taken was lent the sheet, the ballots, the claims and the first message that were
-- lodged, or what it was lent and what was lodged are two different strings with one SHA3-256. The strings are named: that some strings or other collide says nothing, since some do.
-- Assumes nothing.
use Rattle.std.specs.Prelude.{◌≡◌, ◌⊎◌, ℕ, length}
use mathlib.Core.List.{List, [], ◌∷◌, ◌++◌, flatten}
use Rattle.codec.specs.Bytes.{Bytes, Octets, bytes}
use Rattle.sha3.specs.Sponge.{sha3}
use Rattle.sheet.specs.Reader.{sheet_of}
use Rattle.round.specs.Extractor.{Collision}
use Rattle.round.specs.Layout.{ballot_length}
use Rattle.session_digests.specs.Digests.{ballot_digests}
use Rattle.session_check.specs.Stored.{Inputs}
use Rattle.session.specs.Machine.{Step, clear, admit, withdraw, close, claim, commit, draw, check}
use Rattle.session_histories.specs.Runs.{Message, message, History, Call}

-- what is lent is what was lodged, or the strings in which the two stand collide
abbrev pub Agrees : {A : Type 0} (string : A → Bytes) (lent lodged : A) → Type 0
Agrees string lent lodged = (lent ≡ lodged) ⊎ Collision (string lent) (string lodged)

-- both strings are bytes, as SHA3-256 takes them
abbrev pub Hashes : {A : Type 0} (string : A → Bytes) (lent lodged : A) → Type 0
Hashes string lent lodged = Octets (string lent) × Octets (string lodged)

-- the first message that a check is lent
abbrev pub lent_message : Inputs → Message
lent_message x = message x.head x.shares0 x.shares1

module _ (h : History) where
  -- the digests of ballots, behind the digest of the sheet that was lodged
  abbrev pub batch_string : List Bytes → Bytes
  batch_string ds = sha3 h.sheet ++ flatten ds

  -- claims, behind the digest of that sheet and batch
  abbrev pub claims_string : Bytes → Bytes
  claims_string claims = sha3 (batch_string h.batch) ++ claims

  -- a first message, behind the digest of those and the claims that were lodged, and the round
  abbrev pub message_string : ℕ → Message → Bytes
  message_string k m = sha3 (claims_string h.claims) ++ (bytes 2 k ++ (m.head ++ (m.shares0 ++ m.shares1)))

  -- the digests of the lent ballots, as many as were closed
  abbrev pub lent_batch : Inputs → List Bytes
  lent_batch x = ballot_digests (ballot_length (sheet_of h.sheet).numbers.ring) (length h.batch) x.ballots

  -- what a check of round k is lent, held against what was lodged
  pub record Bound (k : ℕ) (x : Inputs) : Type 0 where
    pub sheet : Agrees (λ (text : Bytes). text) x.sheet h.sheet
    pub batch : Agrees batch_string (lent_batch x) h.batch
    pub claims : Agrees claims_string x.claims h.claims
    pub first_message : Agrees (message_string k) (lent_message x) (h.firsts k)

  -- a collision among these is one of byte strings
  pub record BoundBytes (k : ℕ) (x : Inputs) : Type 0 where
    pub sheet : Hashes (λ (text : Bytes). text) x.sheet h.sheet
    pub batch : Hashes batch_string (lent_batch x) h.batch
    pub claims : Hashes claims_string x.claims h.claims
    pub first_message : Hashes (message_string k) (lent_message x) (h.firsts k)

-- ---- where what is lent is bytes, as a C host lends it

-- to a step whose taking lodges it
abbrev pub Lodges : Step → (register : Bytes) → Type 0
Lodges (clear b) register = Octets b.sheet
Lodges (admit ballot) register = Unit
Lodges (withdraw mark) register = Unit
Lodges close register = Octets register
Lodges (claim claims) register = Octets claims
Lodges (commit k head shares0 shares1) register = Octets head × Octets shares0 × Octets shares1
Lodges (draw seed) register = Unit
Lodges (check k x) register = Unit

abbrev pub LodgesAll : List Call → Type 0
LodgesAll [] = Unit
LodgesAll (c ∷ cs) = Lodges c.step c.register × LodgesAll cs

-- to a check
pub record LentBytes (x : Inputs) : Type 0 where
  pub sheet : Octets x.sheet
  pub claims : Octets x.claims
  pub head : Octets x.head
  pub shares0 : Octets x.shares0
  pub shares1 : Octets x.shares1
