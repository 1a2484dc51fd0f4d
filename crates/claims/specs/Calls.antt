-- The exported calls, each in a row: its reply, the number that C is answered, the list of tests that decides, and when it is taken. Four calls refuse nothing: the opened share has fields of
-- its own below, and of the three that give a length the contracts say all. Assumes nothing.
use Rattle.std.specs.Prelude.{◌≡◌, ◌↔◌, not, List, [], ◌∷◌, ◌++◌, ℕ, ◌+◌, ◌*◌, ◌/◌, ◌%◌, ◌^◌, ◌≤◌, ◌<◌, eqb, length}
use Rattle.codec.specs.Bytes.{Bytes, Octets}
use Rattle.codec.specs.Reply.{Test, test, first, packed, None, Decides, Reply, Taken, Refused}
use Rattle.sheet.specs.Sheet.{order}
use Rattle.sha3.specs.Digest.{digest_reply}
use Rattle.sheet.specs.Calls.{describe_reply}
use Rattle.register.specs.Register.{standing}
use Rattle.round.specs.Producer.{Material}
use Rattle.round.specs.Writes.{first_room, second_room}
use Rattle.round.specs.Extractor.{Openings, extract_room, kind}
use Rattle.round_lengths.specs.Calls.{first_tests, second_tests, openings_tests}
use Rattle.round_lengths.specs.Sheets.{ballots_in}
use Rattle.round_tests.specs.Opened.{opened_reply}
use Rattle.commitment.specs.Parameters.{parameters_of}
use Rattle.scheme.specs.Orders.{keygen_order, encrypt_order, decrypt_order, split_order, share_order, reconstruct_order, commitment_order, product_order, multiply_order}
use Rattle.round_produce.specs.Replies.{first_reply, second_reply}
use Rattle.round_extract.specs.Extraction.{answered}
use Rattle.round_extract.specs.Replies.{extract_reply, extract_found}
use Rattle.session.specs.Steps.{challenges_tests, turnout_tests}
use Rattle.session.specs.Machine.{Step, state, tests}
use Rattle.session_image.specs.Image.{image_length, decode}
use Rattle.session_image.specs.Images.{host, host_reply, challenges_reply, turnout_reply, turnout_answer}
use Rattle.session_histories.specs.Conditions.{SheetTaken, HeadIsBytes, Takes}
use Rattle.claims.specs.Scheme.{Keygens, Encrypts, Decrypts, Splits, Shares, Reconstructs, CommitsTo, Products, Multiplies}
use Rattle.claims.specs.Produces.{WritesFirst, WritesSecond}
use Rattle.claims.specs.Extracts.{TakesOpenings}
use Rattle.claims.specs.Queries.{TellsChallenges, Counts, ShareThere}

-- "A refusal carries number and place", and "calls the case through plain numbers": the remainder by 256 of what C is answered is 0 exactly if the call is taken, and else the number
-- of the refusal; the quotient is then its place
pub record Told (reply : Reply) (answer : ℕ) : Type 0 where
  pub taken : (answer % 256 ≡ 0) ↔ (reply ≡ Taken)
  pub refused : (number place : ℕ) → reply ≡ Refused number place → (answer % 256 ≡ number) × (answer / 256 ≡ place)

-- "The first case that holds in the order given decides, and no refusal comes otherwise": taken exactly if no test of the list holds, refused exactly with number and place of a test
-- that holds and none before it. That the lists are the orders of document 01: specs/Orders.antt
pub record Decided (reply : Reply) (ts : List Test) : Type 0 where
  pub taken : (reply ≡ Taken) ↔ None ts
  pub refused : (number place : ℕ) → (reply ≡ Refused number place) ↔ Decides number place ts

-- one call: what C is told of its reply, the list that decides it, and the conditions under which it is taken, where what is lent is as `Lent` says
pub record ExportedCall (reply : Reply) (answer : ℕ) (ts : List Test) (Lent Conditions : Type 0) : Type 0 where
  pub told : Told reply answer
  pub decided : Decided reply ts
  pub exactly : Lent → (reply ≡ Taken) ↔ Conditions

-- one whose answer has no value but its reply
abbrev pub PackedCall : Reply → List Test → Type 0 → Type 0
PackedCall reply ts Conditions = ExportedCall reply (packed reply) ts Unit Conditions

-- and whose reply is said by its order
abbrev pub OrderedCall : List Test → Type 0 → Type 0
OrderedCall ts Conditions = PackedCall (first ts) ts Conditions

-- an output of another length than n bytes, and an image of another length than its own, are refused 1 before all else
abbrev pub size_test : ℕ → Bytes → Test
size_test n lent = test 1 0 (not (eqb (length lent) n))

-- ---- digest, sheet, encryption, shares, commitment, products

pub record SchemeCalls : Type 0 where
  pub digest : (out : Bytes) → PackedCall (digest_reply out) (size_test 32 out ∷ []) (length out ≡ 32)
  pub sheet : (text out : Bytes) → PackedCall (describe_reply text out) (size_test 32 out ∷ order text) ((length out ≡ 32) × SheetTaken text)
  pub keygen : (text s e b scratch : Bytes) → OrderedCall (keygen_order text s e b scratch) (Keygens text s e b scratch)
  pub encrypt : (text r e1 e2 m ciphertext scratch : Bytes) → OrderedCall (encrypt_order text r e1 e2 m ciphertext scratch) (Encrypts text r e1 e2 m ciphertext scratch)
  pub decrypt : (text s ciphertext vote scratch : Bytes) → OrderedCall (decrypt_order text s ciphertext vote scratch) (Decrypts text s ciphertext vote scratch)
  pub split : (text s e s0 e0 out scratch : Bytes) → OrderedCall (split_order text s e s0 e0 out scratch) (Splits text s e s0 e0 out scratch)
  pub share : (text half u mask t scratch : Bytes) → OrderedCall (share_order text half u mask t scratch) (Shares text half u mask t scratch)
  pub reconstruct : (text v t0 t1 vote scratch : Bytes) → OrderedCall (reconstruct_order text v t0 t1 vote scratch) (Reconstructs text v t0 t1 vote scratch)
  pub commitment : (text m r pair scratch : Bytes) → OrderedCall (commitment_order text m r pair scratch) (CommitsTo text m r pair scratch)
  pub product : (text x y product scratch : Bytes) → OrderedCall (product_order text x y product scratch) (Products text x y product scratch)
  pub multiply : (text x y : Bytes) (w : ℕ) (product scratch : Bytes) → OrderedCall (multiply_order text x y w product scratch) (Multiplies text x y w product scratch)

-- ---- a round: producer, extractor, opened share

pub record RoundCalls : Type 0 where
  -- the producer writes a round from all material that meets none of its refusals: its first message, and what answers a side and challenges
  pub produce_first : (text : Bytes) (x : Material) (head shares0 shares1 claims scratch : Bytes) → let room = first_room head shares0 shares1 claims scratch in
      PackedCall (first_reply text x room) (order text ++ first_tests (parameters_of text) x room) (WritesFirst text x head shares0 shares1 claims scratch)
  pub produce_second : (text : Bytes) (x : Material) (side : ℕ) (challenges opening answers scratch : Bytes) → let room = second_room opening answers scratch in
      PackedCall (second_reply text x side challenges room) (order text ++ second_tests (parameters_of text) x side challenges room)
      (WritesSecond text x side challenges opening answers scratch)
  -- the head of a first message is bytes, as all that is lent; where the extractor takes, the quotient is the kind of what it found
  pub extract : (text : Bytes) (x : Openings) (out scratch : Bytes) → let room = extract_room out scratch in
      ExportedCall (extract_reply text x room) (answered (extract_found text x room)) (order text ++ openings_tests (parameters_of text) x room) (Octets x.head) (TakesOpenings text x out scratch)
  pub extract_value : (text : Bytes) (x : Openings) (out scratch : Bytes) → let room = extract_room out scratch in
      extract_reply text x room ≡ Taken → answered (extract_found text x room) / 256 ≡ kind (parameters_of text) (ballots_in text x.ballots) x
  -- the call of the opened share refuses nothing. Its value is the place of the share's first byte in the slice of the opened side, plus one, where the share is there and the value has 56 bits;
  -- where it is not there, 0
  pub opened_told : (side N length0 length1 j : ℕ) → opened_reply side N length0 length1 j % 256 ≡ 0
  pub opened_there : (side N length0 length1 j : ℕ) → ShareThere side N length0 length1 j → 8 * N * j + 1 < 2 ^ 56 → opened_reply side N length0 length1 j ≡ 256 * (8 * N * j + 1)
  pub opened_absent : (side N length0 length1 j : ℕ) → (ShareThere side N length0 length1 j → ⊥) → opened_reply side N length0 length1 j ≡ 0

-- ---- a session

-- t is n in thousandths of the enrolled, half up
pub record Thousandths (n enrolled t : ℕ) : Type 0 where
  pub low : 2 * enrolled * t ≤ 2000 * n + enrolled
  pub high : 2000 * n + enrolled < 2 * enrolled * (t + 1)

pub record SessionCalls : Type 0 where
  -- the eight steps are taken exactly if the image has its length and their conditions hold of the session in it: a check in every round if all of `Checks` holds, a ballot is admitted if
  -- all of `Admits` does, where "full" means 4,096 entries, and so on
  pub step : (x : Step) (image register : Bytes) → let reply = host_reply x (host image register) in
      let at = state (decode image) register in
      ExportedCall reply (packed reply) (size_test image_length image ∷ tests x at) (HeadIsBytes x) ((length image ≡ image_length) × Takes x at)
  pub challenges : (image : Bytes) (round : ℕ) (out : Bytes)
      → PackedCall (challenges_reply image round out) (size_test image_length image ∷ challenges_tests (decode image) round out) ((length image ≡ image_length) × TellsChallenges (decode image) round out)
  pub turnout : (image reg : Bytes) (enrolled : ℕ) → ExportedCall (turnout_reply image reg enrolled) (turnout_answer image reg enrolled)
      (size_test image_length image ∷ turnout_tests (decode image) reg enrolled) Unit ((length image ≡ image_length) × Counts (decode image) reg enrolled)
  -- where it is taken, the quotient is the thousandths of the entries that stand, of those that the session in the image counts as used
  pub turnout_value : (image reg : Bytes) (enrolled : ℕ) → turnout_reply image reg enrolled ≡ Taken
      → Thousandths (length (standing reg (decode image).progress.used)) enrolled (turnout_answer image reg enrolled / 256)
