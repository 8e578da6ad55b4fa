-- What mmc.rs reads and writes beyond the codes that RP-013 has (Rp013Code.antt, pp. 8, 9). proofs/Laws.antt says that it is this
-- and no more. Assumes nothing.
use Rattle.std.specs.Prelude.{ℕ, ◌≤◌, ◌≡◌, true, false}
use Rattle.codes.specs.Rp013Code.{is_zero, last_allowed}
use Rattle.codes.specs.declared.time_code.FinalByte.{FinalByte}
use Rattle.codes.specs.declared.time_code.FinalByte.TheVariants.{Subframes}
use Rattle.codes.specs.declared.time_code.StandardTimeCode.{StandardTimeCode}
use Rattle.codes.specs.declared.time_code.ShortTimeCode.{ShortTimeCode}
use Rattle.labels.specs.St12.{frames_per_second, is_valid}
use Rattle.labels.specs.declared.time.TimeCodeType.{TimeCodeType}

-- ---- reading

-- Subframes 100 to 127.
pub record SubframesBeyond (f : FinalByte) : Type 0 where
  pub subframes : ℕ
  pub form : f ≡ Subframes subframes
  pub from : 100 ≤ subframes
  pub to : subframes ≤ 127

-- Subframes 100 to 127, a label that ST 12-1 does not have, or a blank code with counts that are not zeros.
pub data ReadBeyond (c : StandardTimeCode) : Type 0 where
  last_byte : SubframesBeyond c.final_byte → ReadBeyond c
  no_label : is_valid c.time ≡ false → ReadBeyond c
  blank_counts : c.blank ≡ true → is_zero c.time ≡ false → ReadBeyond c

-- In the short form of a field at a rate: subframes 100 to 127, or frames from the rate to 31.
pub data ShortReadBeyond (rate : TimeCodeType) (c : ShortTimeCode) : Type 0 where
  short_last_byte : SubframesBeyond c.final_byte → ShortReadBeyond rate c
  short_frames : frames_per_second rate ≤ c.frames → c.frames ≤ 31 → ShortReadBeyond rate c

-- ---- writing

-- A blank code with counts that are not zeros, whatever they are. It is written with zeros.
pub record WrittenBeyond (c : StandardTimeCode) : Type 0 where
  pub blank : c.blank ≡ true
  pub counts : is_zero c.time ≡ false
  pub last : last_allowed c.final_byte ≡ true

-- In the short form of a field at a rate, frames from the rate to 29: 24 to 29 at 24 frames, 25 to 29 at 25, none at 30.
pub record ShortWrittenBeyond (rate : TimeCodeType) (c : ShortTimeCode) : Type 0 where
  pub from : frames_per_second rate ≤ c.frames
  pub to : c.frames ≤ 29
  pub last : last_allowed c.final_byte ≡ true
