-- When the calls of encryption, shares, commitment and products are taken (document 01, "Ring and scheme", and the order of the remaining calls after the sheet's; document 02, L2), in
-- conditions to hold against the paper: no test stands in them, and the numbers beside them are those of the refusals that they exclude. Assumes nothing.
use Rattle.std.specs.Prelude.{◌≡◌, ℕ, ◌*◌, length}
use Rattle.codec.specs.Bytes.{Bytes}
use Rattle.modular.specs.Roots.{Root}
use Rattle.ring.specs.Poly.{Below}
use Rattle.ring.specs.Slots.{poly}
use Rattle.scratch.specs.Call.{scratch_length}
use Rattle.bgv.specs.Scheme.{Bounded, lent_mask}
use Rattle.commitment.specs.Parameters.{Parameters, parameters_of}
use Rattle.round.specs.Accepted.{EachBelow}
use Rattle.session_histories.specs.Conditions.{SheetTaken}

-- ---- what they share

-- n bytes, each below v: ternary bytes (v = 3), and a message (v = p)
pub record SmallBytes (v n : ℕ) (s : Bytes) : Type 0 where
  pub size : length s ≡ n  -- 1
  pub below : EachBelow v s  -- 5

-- n coefficients of 8 bytes, each below q
pub record Coefficients (q n : ℕ) (x : Bytes) : Type 0 where
  pub size : length x ≡ 8 * n  -- 1
  pub below : Below q n (poly x)  -- 5

module _ (text : Bytes) where
  -- what the sheet gives
  abbrev P : Parameters
  P = parameters_of text

  open P use {q, N, p, B}

  -- the sheet, and scratch
  pub record Served (scratch : Bytes) : Type 0 where
    pub sheet : SheetTaken text  -- the sheet's own 1 to 5
    pub scratch_size : length scratch ≡ scratch_length  -- 1

  -- ---- call by call

  pub record Keygens (s e b scratch : Bytes) : Type 0 where
    pub served : Served scratch  -- the sheet's own 1 to 5, 1
    pub secret : SmallBytes 3 N s  -- 1, 5
    pub error : SmallBytes 3 N e  -- 1, 5
    pub key_size : length b ≡ 8 * N  -- 1

  pub record Encrypts (r e1 e2 m ciphertext scratch : Bytes) : Type 0 where
    pub served : Served scratch  -- the sheet's own 1 to 5, 1
    pub random : SmallBytes 3 N r  -- 1, 5
    pub error1 : SmallBytes 3 N e1  -- 1, 5
    pub error2 : SmallBytes 3 N e2  -- 1, 5
    pub message : SmallBytes p N m  -- 1, 5
    pub ciphertext_size : length ciphertext ≡ 16 * N  -- 1

  pub record Decrypts (s ciphertext vote scratch : Bytes) : Type 0 where
    pub served : Served scratch  -- the sheet's own 1 to 5, 1
    pub secret : SmallBytes 3 N s  -- 1, 5
    pub both_halves : Coefficients q (2 * N) ciphertext  -- 1, 5, u and v
    pub vote_size : length vote ≡ N  -- 1

  -- the output is s1, e1, b0 and b1
  pub record Splits (s e s0 e0 out scratch : Bytes) : Type 0 where
    pub served : Served scratch  -- the sheet's own 1 to 5, 1
    pub secret : SmallBytes 3 N s  -- 1, 5
    pub error : SmallBytes 3 N e  -- 1, 5
    pub secret0 : Coefficients q N s0  -- 1, 5
    pub error0 : Coefficients q N e0  -- 1, 5
    pub out_size : length out ≡ 32 * N  -- 1

  pub record Shares (half u mask t scratch : Bytes) : Type 0 where
    pub served : Served scratch  -- the sheet's own 1 to 5, 1
    pub key_half : Coefficients q N half  -- 1, 5
    pub cipher_half : Coefficients q N u  -- 1, 5
    pub mask_size : length mask ≡ 8 * N  -- 1
    pub masked : Bounded N B (lent_mask mask)  -- 12, the mask as it is lent is at most B in size
    pub share_size : length t ≡ 8 * N  -- 1

  pub record Reconstructs (v t0 t1 vote scratch : Bytes) : Type 0 where
    pub served : Served scratch  -- the sheet's own 1 to 5, 1
    pub cipher_half : Coefficients q N v  -- 1, 5
    pub share0 : Coefficients q N t0  -- 1, 5
    pub share1 : Coefficients q N t1  -- 1, 5
    pub vote_size : length vote ≡ N  -- 1

  -- r is r1, r2, r3
  pub record CommitsTo (m r pair scratch : Bytes) : Type 0 where
    pub served : Served scratch  -- the sheet's own 1 to 5, 1
    pub message : Coefficients q N m  -- 1, 5
    pub random : SmallBytes 3 (3 * N) r  -- 1, 5
    pub pair_size : length pair ≡ 16 * N  -- 1

  -- x y by the plain method
  pub record Products (x y product scratch : Bytes) : Type 0 where
    pub served : Served scratch  -- the sheet's own 1 to 5, 1
    pub one : Coefficients q N x  -- 1, 5
    pub other : Coefficients q N y  -- 1, 5
    pub product_size : length product ≡ 8 * N  -- 1

  -- and by transforms, with a lent w
  pub record Multiplies (x y : Bytes) (w : ℕ) (product scratch : Bytes) : Type 0 where
    pub products : Products x y product scratch  -- the sheet's own 1 to 5, 1, 5
    pub root : Root q N w  -- 37
