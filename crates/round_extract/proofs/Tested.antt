-- The order of the extractor: too many ballots, a slice of wrong length, and what is known of the lent slices where every length is right. Assumes nothing.
use mathlib.Core.Path.{◌≡◌}
use mathlib.Core.Bool.{Bool, true, false}
use Prim.Native.Nat.{ℕ, ◌*◌, ◌≤◌, ◌<◌}
use lib.ListN.{length}
use Rattle.codec.specs.Bytes.{Octets}
use Rattle.codec.specs.Reply.{first, Reply, Refused}
use Rattle.scratch.specs.Call.{scratch_length}
use Rattle.commitment.specs.Parameters.{Parameters}
use Rattle.round.specs.Extractor.{Openings, ExtractRoom, Lent, extract_tests}
use Rattle.round_lengths.specs.Calls.{count_of, message_sized, openings_sized, openings_tests}
use Rattle.round_lengths.proofs.Sizes.{too_many, wrong_first, wrong_second, right, message_sizes, openings_sizes}

module _ (P : Parameters) (x : Openings) (room : ExtractRoom) where
  open P use {N, repeats}

  abbrev pub lent_message_lem : ℕ → Bool
  lent_message_lem m = message_sized N repeats m x.head x.shares0 x.shares1 x.ballots x.claims

  -- both openings, the three answers, the output, and scratch
  abbrev pub lent_openings : ℕ → Bool
  lent_openings m = openings_sized N x.opening0 x.opening1 x.answer1 x.answer2 x.answer3 room.out room.scratch

  module _ {count : ℕ} (is : count ≡ count_of N x.ballots) {reply : Reply} where
    pub extract_many : reply ≡ Refused 1 0 → 4096 < count → reply ≡ first (openings_tests P x room)
    unfolding openings_tests
    extract_many = too_many lent_message_lem lent_openings (λ m. extract_tests P m x) is

    pub extract_message : {y : Bool} → reply ≡ Refused 1 0 → count ≤ 4096 → y ≡ lent_message_lem count → y ≡ false → reply ≡ first (openings_tests P x room)
    unfolding openings_tests
    extract_message = wrong_first lent_message_lem lent_openings (λ m. extract_tests P m x) is

    pub extract_openings : {y z : Bool} → reply ≡ Refused 1 0 → count ≤ 4096 → y ≡ lent_message_lem count → y ≡ true → z ≡ lent_openings count → z ≡ false
        → reply ≡ first (openings_tests P x room)
    unfolding openings_tests
    extract_openings = wrong_second lent_message_lem lent_openings (λ m. extract_tests P m x) is

    pub extract_rest : {y z : Bool} → count ≤ 4096 → y ≡ lent_message_lem count → y ≡ true → z ≡ lent_openings count → z ≡ true → reply ≡ first (extract_tests P count x)
        → reply ≡ first (openings_tests P x room)
    unfolding openings_tests
    extract_rest = right lent_message_lem lent_openings (λ m. extract_tests P m x) is

  pub extract_lengths : (m : ℕ) → Octets x.head → lent_message_lem m ≡ true → lent_openings m ≡ true → Lent P m x × (length room.out ≡ 24 * N) × (length room.scratch ≡ scratch_length)
  extract_lengths m o e f =
      let s = message_sizes N repeats m x.head x.shares0 x.shares1 x.ballots x.claims e in
      let t = openings_sizes N x.opening0 x.opening1 x.answer1 x.answer2 x.answer3 room.out room.scratch f in (
        record {
          head = s.0;
          octets = o;
          shares0 = s.1;
          shares1 = s.2;
          ballots = s.3;
          claims = s.4;
          opening0 = t.0.0;
          opening1 = t.0.1;
          answer1 = t.1.0;
          answer2 = t.1.1;
          answer3 = t.1.2;
        },
        t.0.2,
        t.0.3,
      )
