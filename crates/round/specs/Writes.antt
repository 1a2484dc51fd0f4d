-- The room that the producer's calls are lent to write into. Assumes nothing.
use Rattle.codec.specs.Bytes.{Bytes}

-- the room for the first message and the claims, and scratch
pub record FirstRoom : Type 0 where
  pub head : Bytes
  pub shares0 : Bytes
  pub shares1 : Bytes
  pub claims : Bytes
  pub scratch : Bytes

-- the same from the slices one by one
abbrev pub first_room : (head shares0 shares1 claims scratch : Bytes) → FirstRoom
first_room head shares0 shares1 claims scratch = record { head = head; shares0 = shares0; shares1 = shares1; claims = claims; scratch = scratch }

-- the room for an opening and answers, and scratch
pub record SecondRoom : Type 0 where
  pub opening : Bytes
  pub answers : Bytes
  pub scratch : Bytes

abbrev pub second_room : (opening answers scratch : Bytes) → SecondRoom
second_room opening answers scratch = record { opening = opening; answers = answers; scratch = scratch }
