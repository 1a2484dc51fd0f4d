-- The extractor takes exactly under the conditions of specs/Extracts.antt. Assumes nothing.
use mathlib.Core.Path.{◌≡◌, ap₂}
use mathlib.Core.Logic.{◌↔◌}
use mathlib.Core.Bool.{true, ◌&&◌}
use Prim.Native.Nat.{ℕ, ◌*◌, ◌≤◌}
use lib.ListN.{length}
use Rattle.codec.specs.Bytes.{Bytes, Octets}
use Rattle.codec.specs.Reply.{None, Taken}
use Rattle.codec.proofs.Replies.{taken_exactly}
use Rattle.scratch.specs.Call.{scratch_length}
use Rattle.commitment.specs.Parameters.{Parameters, parameters_of}
use Rattle.round.specs.Extractor.{Openings, ExtractRoom, extract_room, Lent, extract_tests}
use Rattle.round.proofs.OpeningsAccepted.{openings_exactly}
use Rattle.round.proofs.Tests.{equal_same}
use Rattle.round_lengths.specs.Calls.{message_sized, openings_sized, openings_tests}
use Rattle.round_lengths.specs.Sheets.{ballots_in}
use Rattle.round_extract.proofs.Tested.{lent_message_lem, lent_openings, extract_lengths}
use Rattle.round_extract.specs.Replies.{extract_reply}
use Rattle.session_histories.specs.Conditions.{SheetTaken}
use Rattle.claims.proofs.Produces.{positive, fits, call_none, none_call}
use Rattle.claims.specs.Extracts.{TakesOpenings}

module _ (text : Bytes) (x : Openings) (out scratch : Bytes) where
  abbrev P : Parameters
  P = parameters_of text

  abbrev m : ℕ
  m = ballots_in text x.ballots

  abbrev room : ExtractRoom
  room = extract_room out scratch

  -- lengths that are right pass
  sizes : Lent P m x → length out ≡ 24 * P.N → length scratch ≡ scratch_length → (lent_message_lem P x room m ≡ true) × (lent_openings P x room m ≡ true)
  unfolding message_sized openings_sized
  sizes l e f = (
    equal_same (cc (l.head, l.shares0, l.shares1, l.ballots, l.claims)),
    ap₂ ◌&&◌ (equal_same (cc (l.opening0, l.opening1, e, f))) (equal_same (cc (l.answer1, l.answer2, l.answer3))),
  )

  pub lent_takes : SheetTaken text → m ≤ 4096 → Lent P m x → length out ≡ 24 * P.N → length scratch ≡ scratch_length → None (extract_tests P m x) → extract_reply text x room ≡ Taken
  unfolding extract_reply openings_tests
  lent_takes sheet few l e f none =
      let z = sizes l e f in
      (taken_exactly _).1 (none_call text m (lent_message_lem P x room m) (lent_openings P x room m) (extract_tests P m x) sheet few z.0 z.1 none)

  pub extractor_exactly : Octets x.head → (extract_reply text x room ≡ Taken) ↔ TakesOpenings text x out scratch
  unfolding extract_reply openings_tests
  extractor_exactly octets = (
    λ e.
        let c = call_none text m (lent_message_lem P x room m) (lent_openings P x room m) (extract_tests P m x) ((taken_exactly _).0 e) in
        let l = extract_lengths P x room m octets c.2 c.3 in
        record {
          sheet = c.0;
          few = c.1;
          lengths = l.0;
          out_size = l.1;
          scratch_size = l.2;
          accepted = (openings_exactly P m x (positive text c.0) (fits text c.0) l.0).0 c.4;
        },
    λ t.
        lent_takes t.sheet t.few t.lengths t.out_size t.scratch_size
        ((openings_exactly P m x (positive text t.sheet) (fits text t.sheet) t.lengths).1 t.accepted),
  )
