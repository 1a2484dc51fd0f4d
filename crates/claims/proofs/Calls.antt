-- The claim of specs/Calls.antt, a row for each exported call. Assumes nothing.
use mathlib.Core.Path.{◌≡◌, refl, sym, subst}
use mathlib.Core.Logic.Iff
use mathlib.Core.Logic.{◌↔◌}
use mathlib.Core.Bool.{Bool, true, false, cond, not}
use mathlib.Core.List.{List, ◌∷◌, ◌++◌}
use Prim.Native.Nat.{ℕ, ◌+◌, ◌*◌, ◌/◌, ◌^◌, ◌≤◌}
use native.Mathlib.Nat.{mul-add, mul_comm, div-add-mod', mod-lt}
use native.Mathlib.Omega.{arith}
use lib.Dec.{eqb, ltb}
use lib.ListN.{length}
use Rattle.codec.specs.Bytes.{Bytes}
use Rattle.codec.specs.Reply.{Test, test, first, Taken, Refused}
use Rattle.codec.proofs.Replies.{taken_exactly, refused_exactly}
use Rattle.sha3.specs.Digest.{digest_reply}
use Rattle.sheet.specs.Sheet.{order}
use Rattle.register.specs.Register.{standing, thousandths, turnout}
use Rattle.sheet.specs.Calls.{describe_reply}
use Rattle.commitment.specs.Parameters.{parameters_of}
use Rattle.round_lengths.specs.Calls.{first_tests, second_tests, openings_tests}
use Rattle.round_tests.specs.Opened.{opened_place}
use Rattle.round_produce.specs.Replies.{first_reply, second_reply}
use Rattle.round_extract.specs.Replies.{extract_reply}
use Rattle.session.specs.declared.Session.{Session}
use Rattle.session.specs.Steps.{challenges_tests, turnout_tests}
use Rattle.session.specs.Machine.{state, tests, reply}
use Rattle.session_image.specs.Image.{image_length, decode}
use Rattle.session_image.specs.Images.{lent_reply, host, host_reply, challenges_reply, turnout_reply, turnout_answer}
use Rattle.session_histories.proofs.Valid.{numbers_match, numbers_pass, sheet_exactly}
use Rattle.session_histories.proofs.Checked.{step_exactly}
use Rattle.claims.specs.Calls.{Decided, OrderedCall, size_test, Thousandths, SchemeCalls, RoundCalls, SessionCalls}
use Rattle.claims.proofs.Images.{over_image}
use Rattle.claims.proofs.Scheme.{keygen_exactly, encrypt_exactly, decrypt_exactly, split_exactly, share_exactly, reconstruct_exactly, commitment_exactly, product_exactly, multiply_exactly}
use Rattle.claims.proofs.Produces.{first_exactly, second_call_exactly}
use Rattle.claims.proofs.Extracts.{extractor_exactly}
use Rattle.claims.proofs.Queries.{challenges_exactly, turnout_exactly, opened_there, opened_absent}
use Rattle.claims.proofs.Replies.{Numbered, told, behind, in_producer, in_extract, extract_told, extract_value, lent, host_told, turnout_told, counted_value, value_or_none}

-- ---- what decides

decided : (ts : List Test) → Decided (first ts) ts
decided ts = record { taken = taken_exactly ts; refused = λ number place. refused_exactly number place ts }

-- a call that is lent an image
over : (image : Bytes) (ts : Session → List Test) → Decided (lent_reply image (λ s. first (ts s))) (size_test image_length image ∷ ts (decode image))
over image ts = go (eqb (length image) image_length)
  where
    go : (b : Bool) → Decided (cond b (first (ts (decode image))) (Refused 1 0)) (test 1 0 (not b) ∷ ts (decode image))
    go true = unfold first in decided (test 1 0 false ∷ ts (decode image))
    go false = unfold first in decided (test 1 0 true ∷ ts (decode image))

-- ---- rows

-- a call that is lent the sheet, and whose own order comes behind the sheet's
ordered : (text : Bytes) (ts : List Test) {Conditions : Type 0} → Numbered ts → (first (order text ++ ts) ≡ Taken) ↔ Conditions → OrderedCall (order text ++ ts) Conditions
ordered text ts numbers exactly = record { told = behind text ts numbers; decided = decided (order text ++ ts); exactly = λ _. exactly }

pub scheme_calls : SchemeCalls
unfolding digest_reply describe_reply
scheme_calls = record {
  digest = λ out. record { told = told _ refl; decided = decided _; exactly = λ _. Iff.trans (taken_exactly _) (λ n. numbers_match n.0, λ e. (numbers_pass e, tt)) };
  sheet = λ text out. record {
    told = told _ refl;
    decided = decided _;
    exactly = λ _. Iff.trans (taken_exactly _) (λ n. (numbers_match n.0, (sheet_exactly text).0 n.1), λ h. (numbers_pass h.0, (sheet_exactly text).1 h.1));
  };
  keygen = λ text s e b scratch. ordered text _ refl (keygen_exactly text s e b scratch);
  encrypt = λ text r e1 e2 m ciphertext scratch. ordered text _ refl (encrypt_exactly text r e1 e2 m ciphertext scratch);
  decrypt = λ text s ciphertext vote scratch. ordered text _ refl (decrypt_exactly text s ciphertext vote scratch);
  split = λ text s e s0 e0 out scratch. ordered text _ refl (split_exactly text s e s0 e0 out scratch);
  share = λ text half u mask t scratch. ordered text _ refl (share_exactly text half u mask t scratch);
  reconstruct = λ text v t0 t1 vote scratch. ordered text _ refl (reconstruct_exactly text v t0 t1 vote scratch);
  commitment = λ text m r pair scratch. ordered text _ refl (commitment_exactly text m r pair scratch);
  product = λ text x y product scratch. ordered text _ refl (product_exactly text x y product scratch);
  multiply = λ text x y w product scratch. ordered text _ refl (multiply_exactly text x y product scratch w);
}

pub round_calls : RoundCalls
unfolding first_reply second_reply first_tests second_tests extract_reply openings_tests
round_calls = record {
  produce_first = λ text x head shares0 shares1 claims scratch.
      ordered text _ (in_producer (parameters_of text) _ x true) (first_exactly text x head shares0 shares1 claims scratch);
  produce_second = λ text x side challenges opening answers scratch.
      ordered text _ (in_producer (parameters_of text) _ x _) (second_call_exactly text x side challenges opening answers scratch);
  extract = λ text x out scratch. record {
    told = extract_told _ _ (behind text _ (in_extract (parameters_of text) _ x));
    decided = decided _;
    exactly = extractor_exactly text x out scratch;
  };
  extract_value = λ text x out scratch. extract_value _ _;
  opened_told = λ side N length0 length1 j. value_or_none (ltb (opened_place side N length0 length1 j) (2 ^ 56)) (opened_place side N length0 length1 j);
  opened_there = opened_there;
  opened_absent = opened_absent;
}

-- half up: the quotient by twice the enrolled
half_up : (n enrolled : ℕ) → 1 ≤ enrolled → Thousandths n enrolled (thousandths n enrolled)
unfolding thousandths
half_up n enrolled some =
    let x = 2000 * n + enrolled in
    let d = 2 * enrolled in
    record { low = omega (arith, div-add-mod' x d, mul_comm d (x / d)); high = omega (arith, div-add-mod' x d, mul_comm d (x / d), mod-lt x {m = d} (omega arith), mul-add d (x / d) 1) }

turnout_value : (image reg : Bytes) (enrolled : ℕ) → turnout_reply image reg enrolled ≡ Taken
    → Thousandths (length (standing reg (decode image).progress.used)) enrolled (turnout_answer image reg enrolled / 256)
unfolding turnout_answer turnout turnout_reply
turnout_value image reg enrolled taken =
    let c = ((over_image image (λ s. first (turnout_tests s reg enrolled)) (turnout_exactly (decode image) reg enrolled)).0 taken).1 in
    subst (Thousandths (length (standing reg (decode image).progress.used)) enrolled) (sym (counted_value (turnout_reply image reg enrolled) _ taken))
    (half_up (length (standing reg (decode image).progress.used)) enrolled c.some)

pub session_calls : SessionCalls
unfolding host_reply reply challenges_reply turnout_reply challenges_tests
session_calls = record {
  step = λ x image register. record {
    told = host_told x (host image register);
    decided = over image (λ s. tests x (state s register));
    exactly = λ bytes. over_image image (λ s. reply x (state s register)) (step_exactly x (state (decode image) register) bytes);
  };
  challenges = λ image round out. record {
    told = lent image (λ s. first (challenges_tests s round out)) (λ s. told (challenges_tests s round out) refl);
    decided = over image (λ s. challenges_tests s round out);
    exactly = λ _. over_image image (λ s. first (challenges_tests s round out)) (challenges_exactly (decode image) round out);
  };
  turnout = λ image reg enrolled. record {
    told = turnout_told image reg enrolled;
    decided = over image (λ s. turnout_tests s reg enrolled);
    exactly = λ _. over_image image (λ s. first (turnout_tests s reg enrolled)) (turnout_exactly (decode image) reg enrolled);
  };
  turnout_value = turnout_value;
}
