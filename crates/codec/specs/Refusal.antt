-- Document 01's number of each refusal, and the reply that a result of the code stands for. Assumes nothing.
use Rattle.std.specs.Prelude.{ℕ, ◌+◌, ◌*◌, Result, Ok, Err}
use Rattle.codec.specs.Reply.{Reply, Taken, Refused}
use Rattle.codec.specs.declared.Refusal.{Refusal}
use Rattle.codec.specs.declared.Refusal.TheVariants.{
  WrongLength,
  SheetForm,
  NumberOutOfRange,
  SheetUnsound,
  ValueOutOfRange,
  HalvesNotAdding,
  OpenedKeyWrong,
  OpenedCommitmentWrong,
  NoPermutation,
  NotBalanced,
  DigestDiffers,
  MaskTooLarge,
  ClaimDiffers,
  SecretNotMatching,
  NoiseTooLarge,
  StoredDiffers,
  NotDue,
  MarkStanding,
  MarkWithdrawn,
  RegisterFull,
  NoneStanding,
  NoRoot,
}

abbrev pub number_of_refusal : Refusal → ℕ
number_of_refusal WrongLength = 1
number_of_refusal SheetForm = 2
number_of_refusal NumberOutOfRange = 3
number_of_refusal SheetUnsound = 4
number_of_refusal ValueOutOfRange = 5
number_of_refusal HalvesNotAdding = 6
number_of_refusal OpenedKeyWrong = 7
number_of_refusal OpenedCommitmentWrong = 8
number_of_refusal (NoPermutation place) = 9
number_of_refusal (NotBalanced place) = 10
number_of_refusal (DigestDiffers place) = 11
number_of_refusal (MaskTooLarge place) = 12
number_of_refusal (ClaimDiffers place) = 13
number_of_refusal SecretNotMatching = 14
number_of_refusal (NoiseTooLarge place) = 15
number_of_refusal StoredDiffers = 16
number_of_refusal NotDue = 31
number_of_refusal MarkStanding = 32
number_of_refusal MarkWithdrawn = 33
number_of_refusal RegisterFull = 35
number_of_refusal NoneStanding = 36
number_of_refusal NoRoot = 37

-- the repetition or ballot that it names, else 0
abbrev pub place_of_refusal : Refusal → ℕ
place_of_refusal WrongLength = 0
place_of_refusal SheetForm = 0
place_of_refusal NumberOutOfRange = 0
place_of_refusal SheetUnsound = 0
place_of_refusal ValueOutOfRange = 0
place_of_refusal HalvesNotAdding = 0
place_of_refusal OpenedKeyWrong = 0
place_of_refusal OpenedCommitmentWrong = 0
place_of_refusal (NoPermutation place) = place
place_of_refusal (NotBalanced place) = place
place_of_refusal (DigestDiffers place) = place
place_of_refusal (MaskTooLarge place) = place
place_of_refusal (ClaimDiffers place) = place
place_of_refusal SecretNotMatching = 0
place_of_refusal (NoiseTooLarge place) = place
place_of_refusal StoredDiffers = 0
place_of_refusal NotDue = 0
place_of_refusal MarkStanding = 0
place_of_refusal MarkWithdrawn = 0
place_of_refusal RegisterFull = 0
place_of_refusal NoneStanding = 0
place_of_refusal NoRoot = 0

-- the reply that a result is, by the number and the place of what refuses
abbrev pub reply_by : {A E : Type 0} → (E → ℕ) → (E → ℕ) → Result A E → Reply
reply_by number place (Ok value) = Taken
reply_by number place (Err why) = Refused (number why) (place why)

-- the reply that a result of the code is
abbrev pub as_reply : {A : Type 0} → Result A Refusal → Reply
as_reply = reply_by number_of_refusal place_of_refusal

-- the one number that the C host is answered: a value times 256, or the number of what refuses and 256 times its place
abbrev pub packed_value_by : {E : Type 0} → (E → ℕ) → (E → ℕ) → Result ℕ E → ℕ
packed_value_by number place (Ok value) = 256 * value
packed_value_by number place (Err why) = number why + 256 * place why

-- the same of a result of the code
abbrev pub packed_value : Result ℕ Refusal → ℕ
packed_value = packed_value_by number_of_refusal place_of_refusal
