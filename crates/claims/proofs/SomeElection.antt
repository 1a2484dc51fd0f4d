-- There is an election whose rounds come to their turn (specs/FromCalls.antt): on document 01's small ring, with the ballot of its example B and material for one round.
-- Assumes nothing.
use mathlib.Core.Path.{◌≡◌, refl}
use mathlib.Core.Bool.{true}
use mathlib.Core.List.{[], ◌∷◌, ◌++◌, flat_map, flatten}
use Prim.Native.Nat.{ℕ}
use native.Mathlib.Omega.{arith}
use lib.ListN.{length, drop, length-replicate}
use Rattle.codec.specs.Bytes.{Bytes, bytes, words, number, same, zeros, signed}
use Rattle.codec.specs.Lists.{list, all_below, all}
use Rattle.codec.specs.Reply.{first, Taken}
use Rattle.codec.proofs.Laws.{octets_zeros}
use Rattle.codec.proofs.Replies.{taken_exactly}
use Rattle.modular.specs.Modulo.{centre, remainder}
use Rattle.ring.specs.Poly.{sum, turn, coefficient, mul, plus, scale, modulo}
use Rattle.ring.specs.Slots.{poly, slot, encode}
use Rattle.ring.specs.Ternary.{meaning, ternary, count}
use Rattle.vector.specs.Vector.{vector}
use Rattle.vector.specs.Permutation.{entries, permutes}
use Rattle.sheet_numbers.specs.Plain.{plain}
use Rattle.sheet_numbers.specs.Bounds.{most, least, power}
use Rattle.sheet_numbers.specs.Rules.{any, outside, unsound}
use Rattle.sheet_lines.specs.Form.{decimal, listed, lines}
use Rattle.sheet_lines.specs.Reader.{digit, step, values, line, rows}
use Rattle.sheet.specs.Form.{written}
use Rattle.sheet.specs.Reader.{formed, sheet_of}
use Rattle.sheet.specs.Sheet.{order, unfit, polynomials}
use Rattle.bgv.specs.Scheme as scheme
use Rattle.bgv.specs.Scheme.{noisy, noise_in, within}
use Rattle.commitment.specs.Parameters.{Parameters, parameters_of}
use Rattle.round.specs.Layout.{joined}
use Rattle.round.specs.Producer.{Material, MaterialSized, producer_tests, produced_claims}
use Rattle.round.proofs.Passed.{producer_exactly}
use Rattle.round.proofs.Ranged.{each_exactly}
use Rattle.register.specs.Register.{mark_of}
use Rattle.session.specs.Steps.{on}
use Rattle.session.specs.Machine.{clear, state, reply}
use Rattle.session_image.specs.Image.{image_length}
use Rattle.session_image.specs.Images.{host, host_reply}
use Rattle.session_histories.specs.Elections.{Countable}
use Rattle.session_histories.proofs.Valid.{sheet_exactly}
use Rattle.session_histories.proofs.Exact.{cleared_exactly}
use Rattle.claims.specs.HostSteps.{Starts}
use Rattle.claims.specs.FromCalls.{SomeElection}
use Rattle.claims.proofs.Images.{over_image}
use Rattle.claims.proofs.SmallSheet.{small_sheet}

abbrev sheet : Bytes
sheet = small_sheet 97 (3 ∷ 7 ∷ 94 ∷ 92 ∷ [])

sheet_taken : first (order sheet) ≡ Taken
unfolding written lines listed decimal first formed sheet_of rows line values step digit any outside unsound plain unfit all_below power least most
sheet_taken = refl

-- mark 0, u and v of example B
abbrev ballot : Bytes
ballot = zeros 4 ++ words (0 ∷ 3 ∷ 5 ∷ 0 ∷ 8 ∷ 3 ∷ 8 ∷ 95 ∷ [])

-- s = 1 - X^2, e = X, every r zero; s0 of example D; no masks; R zero, the identity permutation and zero salts in both repetitions
abbrev material : Material
material = record {
  secrets = 1 ∷ 0 ∷ 2 ∷ 0 ∷ 0 ∷ 1 ∷ 0 ∷ 0 ∷ zeros 48;
  s0 = words (10 ∷ 20 ∷ 30 ∷ 40 ∷ []);
  e0 = zeros 32;
  masks0 = zeros 32;
  masks1 = zeros 32;
  vectors = zeros 2688;
  permutations = let identity = flat_map (bytes 4) (list 168 (λ i. i)) in identity ++ identity;
  salts = zeros 192;
  ballots = ballot;
}

abbrev P : Parameters
P = parameters_of sheet

-- none of the producer's tests refuses it
passes : first (producer_tests P 1 material true) ≡ Taken
unfolding written lines listed decimal formed sheet_of rows line values step digit any plain polynomials first producer_tests joined all all_below list vector poly slot number words bytes encode modulo same noisy noise_in mul coefficient turn sum plus scale ternary meaning remainder centre within signed entries permutes count flat_map
passes = refl

-- the ring, the modulus, one round and two repetitions, as the text says
ring : P.N ≡ 4
unfolding written lines listed decimal sheet_of rows line values step digit
ring = refl

modulus : P.q ≡ 97
unfolding written lines listed decimal sheet_of rows line values step digit
modulus = refl

repeats : P.repeats ≡ 2
unfolding written lines listed decimal sheet_of rows line values step digit
repeats = refl

-- the vote of example C
votes : produced_claims P 1 material ≡ 1 ∷ 0 ∷ 1 ∷ 1 ∷ []
unfolding written lines listed decimal formed sheet_of rows line values step digit any plain polynomials produced_claims joined list poly slot number words bytes noise_in mul coefficient turn sum plus scale ternary meaning remainder centre scheme.plaintext
votes = refl

sized : MaterialSized P 1 material
unfolding words bytes list flat_map
sized = rw (ring, repeats) (record { secrets = refl; s0 = refl; e0 = refl; masks0 = refl; masks1 = refl; vectors = refl; permutations = refl; salts = refl; ballots = refl })

in_range : all_below 97 (vector (drop 4 ballot)) ≡ true
unfolding all_below vector list poly number words bytes
in_range = refl

one_ballot : ballot ≡ flatten (list 1 (λ i. ballot))
unfolding flatten list words bytes
one_ballot = refl

size : length ballot ≡ 68
unfolding words bytes
size = refl

mark_zero : mark_of ballot ≡ 0
unfolding mark_of number words bytes
mark_zero = refl

-- and the mark 7 is withdrawn, with which no ballot comes
countable : Countable sheet 1 (λ i. ballot) (λ k. material) (1 ∷ 0 ∷ 1 ∷ 1 ∷ []) (zeros 32) 1 (λ i. 7)
countable = record {
  some = omega arith;
  few = omega arith;
  early_size = λ i l. omega arith;
  early_marks = λ i j l h. absurd (omega arith);
  apart = λ i j l h q. omega (arith, mark_zero, q);
  ballot_size = λ i l. rw ring size;
  ballot_range = λ i l. rw modulus ((each_exactly 97 (vector (drop 4 ballot))).0 in_range);
  marks = λ i j l h. absurd (omega arith);
  over_batch = λ k l. one_ballot;
  sized = λ k l. sized;
  suitable = λ k l. (producer_exactly P 1 material (omega (arith, modulus)) (omega (arith, modulus))).0 ((taken_exactly (producer_tests P 1 material true)).0 passes);
  votes = λ k l. votes;
  seed_size = refl;
}

-- a clear on its sheet is taken, over zero bytes
starts : Starts (host (zeros image_length) (zeros 163840)) (on sheet)
unfolding host_reply reply
starts = record {
  sized = length-replicate {A = ℕ} image_length 0;
  octets = octets_zeros image_length;
  taken = (over_image (zeros image_length) (λ s. reply (clear (on sheet)) (state s (zeros 163840))) (cleared_exactly (zeros 163840) (on sheet))).1
      (length-replicate {A = ℕ} image_length 0, record { register_size = length-replicate {A = ℕ} 163840 0; sheet = (sheet_exactly sheet).0 ((taken_exactly (order sheet)).0 sheet_taken) });
}

pub some_election : SomeElection
some_election = record {
  sheet = sheet;
  start = host (zeros image_length) (zeros 163840);
  m = 1;
  ballot = λ i. ballot;
  material = λ k. material;
  claims = 1 ∷ 0 ∷ 1 ∷ 1 ∷ [];
  seed = zeros 32;
  e = 1;
  early = λ i. 7;
  some_early = omega arith;
  starts = starts;
  countable = countable;
}
