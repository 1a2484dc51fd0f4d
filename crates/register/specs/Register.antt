-- The register (document 01, "Register and session"; document 02, L1): 4,096 entries of 40 bytes, used from the first on. An entry is mark (4 bytes), state (1 standing,
-- otherwise withdrawn), three zeros, and SHA3-256 of the ballot: mark, u, v; or 32 zeros, where a mark was withdrawn before its ballot came. Entries count from 0. Assumes nothing.
use Rattle.std.specs.Prelude.{Bool, cond, List, [], ◌∷◌, ◌++◌, map, ℕ, zero, suc, ◌+◌, ◌*◌, ◌/◌, eqb, ltb, length, get_or}
use Rattle.codec.specs.Bytes.{Bytes, bytes, number, part, put, zeros}
use Rattle.sha3.specs.Sponge.{sha3}

abbrev pub capacity : ℕ
capacity = 4096

abbrev pub register_length : ℕ
register_length = 163840

-- ---- entry i

unfoldable pub mark_at : Bytes → ℕ → ℕ
mark_at reg i = number (part reg (40 * i) 4)

unfoldable pub state_at : Bytes → ℕ → ℕ
state_at reg i = get_or reg (40 * i + 4) 0

unfoldable pub digest_at : Bytes → ℕ → Bytes
digest_at reg i = part reg (40 * i + 8) 32

-- ---- the first n entries

-- the first of them that has the mark; n where none has
unfoldable pub find : (reg : Bytes) (mark n : ℕ) → ℕ
find reg mark zero = 0
find reg mark (suc n) = cond (ltb (find reg mark n) n) (find reg mark n) (cond (eqb (mark_at reg n) mark) n (suc n))

-- whether one of them has it
abbrev pub known : (reg : Bytes) (mark n : ℕ) → Bool
known reg mark n = ltb (find reg mark n) n

-- those that stand, in order of admission
unfoldable pub standing : (reg : Bytes) (n : ℕ) → List ℕ
standing reg zero = []
standing reg (suc n) = standing reg n ++ cond (eqb (state_at reg n) 1) (n ∷ []) []

-- and their digests
unfoldable pub standing_digests : (reg : Bytes) (n : ℕ) → List Bytes
standing_digests reg n = map (digest_at reg) (standing reg n)

-- ---- admission and withdrawal

-- the mark of a ballot
unfoldable pub mark_of : Bytes → ℕ
mark_of ballot = number (part ballot 0 4)

-- an entry written after n entries: its mark, state and digest
unfoldable pub appended : (reg : Bytes) (n : ℕ) (mark : Bytes) (state : ℕ) (digest : Bytes) → Bytes
appended reg n mark state digest = put reg (40 * n) (mark ++ ((state ∷ 0 ∷ 0 ∷ 0 ∷ []) ++ digest))

-- a ballot admitted after n entries
unfoldable pub admitted : (reg : Bytes) (n : ℕ) (ballot : Bytes) → Bytes
admitted reg n ballot = appended reg n (part ballot 0 4) 1 (sha3 ballot)

-- entry i withdrawn: state byte 2
unfoldable pub withdrawn : (reg : Bytes) (i : ℕ) → Bytes
withdrawn reg i = put reg (40 * i + 4) (2 ∷ [])

-- "a withdrawn entry with the mark and 32 zero bytes for the digest", after n entries
unfoldable pub withdrawn_early : (reg : Bytes) (n mark : ℕ) → Bytes
withdrawn_early reg n mark = appended reg n (bytes 4 mark) 2 (zeros 32)

-- what a withdrawal that is taken leaves: the first of the n entries with the mark withdrawn; where none has it, a withdrawn entry more
unfoldable pub after_withdrawal : (reg : Bytes) (n mark : ℕ) → Bytes
after_withdrawal reg n mark = cond (known reg mark n) (withdrawn reg (find reg mark n)) (withdrawn_early reg n mark)

-- ---- turnout

-- n in thousandths of the enrolled, half up
unfoldable pub thousandths : (n enrolled : ℕ) → ℕ
thousandths n enrolled = (2000 * n + enrolled) / (2 * enrolled)

-- of the first n entries, those that stand
unfoldable pub turnout : (reg : Bytes) (n enrolled : ℕ) → ℕ
turnout reg n enrolled = thousandths (length (standing reg n)) enrolled
