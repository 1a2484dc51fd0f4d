-- What a sheet gives to the calls that are lent it (document 01, "Ring and scheme" and "Sheet"). Assumes nothing.
use Rattle.std.specs.Prelude.{ℕ}
use Rattle.codec.specs.Bytes.{Bytes}
use Rattle.ring.specs.Poly.{Poly}
use Rattle.ring.specs.Slots.{poly}
use Rattle.sheet.specs.Reader.{sheet_of}
use Rattle.sheet.specs.Sheet.{polynomials}
use Rattle.sheet_numbers.specs.Plain.{plain, noise_bound_of, mask_bound_of}
use Rattle.sheet_numbers.specs.declared.Numbers.{Numbers}
use Rattle.commitment.specs.Commitment.{Keys, keys_of}
use Rattle.commitment.specs.Loaded.{a_of, b_of, key_bytes}

-- modulus, ring size, plaintext modulus, mask bound, noise bound, repetitions, and its polynomials
pub record Parameters : Type 0 where
  pub q : ℕ
  pub N : ℕ
  pub p : ℕ
  pub B : ℕ
  pub D : ℕ
  pub repeats : ℕ
  pub a : Poly
  pub b : Poly
  pub k : Keys

-- from its numbers and the bytes of a, of b and of the three keys
abbrev pub parameters_by : (k : Numbers) (a b keys : Bytes) → Parameters
parameters_by k a b keys = record {
  q = k.modulus;
  N = k.ring;
  p = plain k;
  B = mask_bound_of k;
  D = noise_bound_of k;
  repeats = k.repeats;
  a = poly a;
  b = poly b;
  k = keys_of k.ring keys;
}

-- from its numbers and the bytes that its polynomials were put into
abbrev pub parameters : (k : Numbers) (public : Bytes) → Parameters
parameters k public = parameters_by k (a_of k public) (b_of k public) (key_bytes k public)

-- those of a sheet's text
abbrev pub parameters_of : (text : Bytes) → Parameters
parameters_of text = parameters (sheet_of text).numbers (polynomials text)
