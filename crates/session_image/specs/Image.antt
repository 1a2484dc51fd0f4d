-- The byte image of a session (document 01, "Register and session"): its fields one after the other, little-endian. Assumes nothing.
use Rattle.std.specs.Prelude.{cond, ℕ, ◌+◌, get_or}
use mathlib.Core.List.{List, [], ◌∷◌, ◌++◌, flatten}
use Prim.Native.String.{String}
use lib.Text.{eqt}
use Rattle.codec.specs.Bytes.{Bytes, bytes, number, part}
use Rattle.session.specs.declared.Session.{Session}

-- ---- the fields in order: their names, their widths in bytes and what stands in them. All else follows from these lists

pub record Field : Type 0 where
  pub name : String
  pub width : ℕ
  pub contents : Session → Bytes

abbrev field : String → ℕ → (Session → Bytes) → Field
field name width contents = record { name = name; width = width; contents = contents }

-- a number in eight bytes, the least first
abbrev word : String → (Session → ℕ) → Field
word name value = field name 8 (λ s. bytes 8 (value s))

-- the phase, the sheet's numbers before a, and the sheet's digest
abbrev pub head_fields : List Field
head_fields =
    field "phase" 1 (λ s. s.progress.phase ∷ [])
    ∷ word "ring" (λ s. s.numbers.ring)
    ∷ word "modulus" (λ s. s.numbers.modulus)
    ∷ word "drown" (λ s. s.numbers.drown)
    ∷ word "rounds" (λ s. s.numbers.rounds)
    ∷ word "repeats" (λ s. s.numbers.repeats)
    ∷ field "sheet" 32 (λ s. s.sheet)
    ∷ []

-- entries used, ballots closed, closing digest and claim digest
abbrev pub batch_fields : List Field
batch_fields =
    word "used" (λ s. s.progress.used)
    ∷ word "closed" (λ s. s.progress.closed)
    ∷ field "closing" 32 (λ s. s.closing)
    ∷ field "claim" 32 (λ s. s.claim)
    ∷ []

-- rounds committed, seed, rounds checked, and the digests of the first messages
abbrev pub round_fields : List Field
round_fields =
    word "committed" (λ s. s.progress.committed)
    ∷ field "seed" 32 (λ s. s.seed)
    ∷ word "checked" (λ s. s.progress.checked)
    ∷ field "trail" 4096 (λ s. s.trail)
    ∷ []

abbrev pub fields : List Field
fields = head_fields ++ (batch_fields ++ round_fields)

-- ---- what follows from a list of fields

-- how many bytes they have
abbrev pub size : List Field → ℕ
size [] = 0
size (f ∷ fs) = f.width + size fs

-- what stands in them
abbrev pub contents_of : List Field → Session → List Bytes
contents_of [] s = []
contents_of (f ∷ fs) s = f.contents s ∷ contents_of fs s

-- where a field begins, and its width
abbrev pub start : List Field → String → ℕ
start [] name = 0
start (f ∷ fs) name = cond (eqt f.name name) 0 (f.width + start fs name)

abbrev pub width : List Field → String → ℕ
width [] name = 0
width (f ∷ fs) name = cond (eqt f.name name) f.width (width fs name)

-- 4,297 bytes
abbrev pub image_length : ℕ
image_length = size fields

-- the bytes of a field in an image
abbrev pub at : Bytes → String → Bytes
at b name = part b (start fields name) (width fields name)

-- ---- to bytes and back

-- the image of a session
unfoldable pub image_of : Session → Bytes
image_of s = flatten (contents_of fields s)

-- the session that an image holds
unfoldable pub decode : Bytes → Session
decode b = record {
  progress = record {
    phase = get_or b (start fields "phase") 0;
    used = number (at b "used");
    closed = number (at b "closed");
    committed = number (at b "committed");
    checked = number (at b "checked");
  };
  numbers = record {
    ring = number (at b "ring");
    modulus = number (at b "modulus");
    drown = number (at b "drown");
    rounds = number (at b "rounds");
    repeats = number (at b "repeats");
  };
  sheet = at b "sheet";
  closing = at b "closing";
  claim = at b "claim";
  seed = at b "seed";
  trail = at b "trail";
}
