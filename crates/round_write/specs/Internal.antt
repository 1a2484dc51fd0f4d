-- What the contracts of inner functions and the proofs go by: no exported contract and no claim cites this file. Assumes nothing.
use Rattle.std.specs.Prelude.{◌≡◌, ℕ, ◌*◌, ◌≤◌, ◌<◌, length}
use Rattle.codec.specs.Bytes.{Bytes}
use Rattle.sheet_numbers.specs.declared.Numbers.{Numbers}
use Rattle.sheet_numbers.specs.Internal.{Usable}
use Rattle.scratch.specs.Call.{scratch_length}
use Rattle.scratch.specs.Internal.{Polynomial}
use Rattle.round.specs.Layout.{head_length, answers_length}
use Rattle.round.specs.Producer.{Material}
use Rattle.round.specs.Writes.{FirstRoom, SecondRoom}
use Rattle.round_lengths.specs.Calls.{count_of}
use Rattle.round_head.specs.Internal.{Drawings}
use Rattle.round_shares.specs.Internal.{Masked}

-- ---- what the writing of a first message, and of an opening with answers, asks for: material that passed all tests, and room of right lengths

module _ (k : Numbers) (x : Material) (room : FirstRoom) where
  -- how many ballots are lent
  abbrev m : ℕ
  m = count_of k.ring x.ballots

  pub record FirstReady : Type 0 where
    pub few : m ≤ 4096
    pub s0 : Polynomial k.ring k.modulus x.s0
    pub e0 : Polynomial k.ring k.modulus x.e0
    pub drawings : Drawings k.modulus k.ring k.repeats x.secrets x.vectors x.permutations x.salts
    pub masked : Masked k.modulus k.ring m x.ballots x.masks0 x.masks1
    pub head : length room.head ≡ head_length k.ring k.repeats
    pub shares0 : length room.shares0 ≡ 8 * k.ring * m
    pub shares1 : length room.shares1 ≡ 8 * k.ring * m
    pub claims : length room.claims ≡ k.ring * m
    pub scratch : length room.scratch ≡ scratch_length

module _ (k : Numbers) (secrets s0 e0 vectors permutations salts : Bytes) (side : ℕ) (challenges : Bytes) (room : SecondRoom) where
  pub record SecondReady : Type 0 where
    pub numbers : Usable k
    pub half_s : Polynomial k.ring k.modulus s0
    pub half_e : Polynomial k.ring k.modulus e0
    pub drawings : Drawings k.modulus k.ring k.repeats secrets vectors permutations salts
    pub sided : side < 2
    pub asked : length challenges ≡ k.repeats
    pub opening : length room.opening ≡ 22 * k.ring
    pub answers : length room.answers ≡ answers_length k.ring challenges
    pub scratch : length room.scratch ≡ scratch_length
