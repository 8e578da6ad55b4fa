-- MIDI Machine Control (RP-013), time code fields: the Standard Time Code `hr mn sc fr {ff|st}` in five bytes, the Standard
-- Short Time Code `fr {ff|st}` in two (pp. 8, 9), and the rules of MOVE between the two forms of the last byte (p. 32). The
-- letters are the page's. A byte is given once, by its letters, and which codes there are is said once: bytes are read as the
-- code whose letters they are, and a code is written as the bytes that its letters give. Left out: which fields allow a sign
-- or a status. Assumes nothing.
use Rattle.std.specs.Prelude.{ℕ, ◌+◌, ◌*◌, ◌^◌, ◌≤◌, ◌<◌, ◌≡◌, Bool, true, false, not, ◌&&◌, ◌||◌, List, [], ◌∷◌, leb, ltb, eqb}
use Rattle.codes.specs.declared.time_code.TimeCodeStatus.{TimeCodeStatus}
use Rattle.codes.specs.declared.time_code.FinalByte.{FinalByte}
use Rattle.codes.specs.declared.time_code.FinalByte.TheVariants.{Subframes, Status}
use Rattle.codes.specs.declared.time_code.StandardTimeCode.{StandardTimeCode}
use Rattle.codes.specs.declared.time_code.ShortTimeCode.{ShortTimeCode}
use Rattle.labels.specs.St12.{one, label, frames_per_second, is_valid}
use Rattle.labels.specs.declared.time.MtcTime.{MtcTime}
use Rattle.labels.specs.declared.time.TimeCodeType.{TimeCodeType}
use Rattle.labels.specs.declared.time.TimeCodeType.TheVariants.{Fps24, Fps25, Fps30Drop, Fps30}

-- ---- the bytes by their letters (p. 8)

-- hr = 0 yy zzzzz: the type, the hours.
abbrev pub hr : ℕ → ℕ → ℕ
hr yy zzzzz = yy * 2 ^ 5 + zzzzz

-- mn = 0 c mmmmmm: the colour frame flag, the minutes.
abbrev pub mn : ℕ → ℕ → ℕ
mn c mmmmmm = c * 2 ^ 6 + mmmmmm

-- sc = 0 k ssssss: the blank flag, the seconds.
abbrev pub sc : ℕ → ℕ → ℕ
sc k ssssss = k * 2 ^ 6 + ssssss

-- fr = 0 g i fffff: the sign, the form of the last byte, the frames.
abbrev pub fr : ℕ → ℕ → ℕ → ℕ
fr g i fffff = g * 2 ^ 6 + i * 2 ^ 5 + fffff

-- ff = 0 bbbbbbb: the fractional frames.
abbrev pub ff : ℕ → ℕ
ff bbbbbbb = bbbbbbb

-- st = 0 e v d n xxx: estimated code, invalid code, video field 1, no time code; xxx is reserved (p. 9).
abbrev pub st : ℕ → ℕ → ℕ → ℕ → ℕ → ℕ
st e v d n xxx = e * 2 ^ 6 + v * 2 ^ 5 + d * 2 ^ 4 + n * 2 ^ 3 + xxx

-- yy: 00 is 24 frames, 01 is 25, 10 is 30 drop-frame, 11 is 30.
abbrev pub yy : TimeCodeType → ℕ
yy Fps24 = 0
yy Fps25 = 1
yy Fps30Drop = 2
yy Fps30 = 3

-- i: 0 for {ff}, 1 for {st}.
abbrev pub i : FinalByte → ℕ
i (Subframes b) = 0
i (Status s) = 1

-- A code status with its reserved bits.
abbrev pub status : TimeCodeStatus → ℕ → ℕ
status s xxx = st (one s.estimated) (one s.invalid) (one s.video_field1) (one s.no_time_code) xxx

-- ---- the short form (p. 9)

-- The short form of a code: the frames, the sign and the last byte.
abbrev pub short : StandardTimeCode → ShortTimeCode
short c = record { frames = c.time.frames; negative = c.negative; final_byte = c.final_byte }

-- A field's code after a short one: hours, minutes, seconds and their flags stay as in the last full one.
abbrev pub after_short : StandardTimeCode → ShortTimeCode → StandardTimeCode
after_short c s =
    record {
      time = label c.time.rate c.time.hours c.time.minutes c.time.seconds s.frames;
      color_frame = c.color_frame;
      blank = c.blank;
      negative = s.negative;
      final_byte = s.final_byte;
    }

-- A field 01H to 1FH has a short name, 20H above its own.
pub record ShortNamed (name short_name_of : ℕ) : Type 0 where
  pub from : 1 ≤ name
  pub to : name ≤ 31
  pub above : short_name_of ≡ name + 32

-- ---- which codes there are

-- Subframes 00 to 99 (p. 8), any status (p. 9).
abbrev pub last_allowed : FinalByte → Bool
last_allowed (Subframes b) = leb b 99
last_allowed (Status s) = true

-- The hours, minutes, seconds and frames are zeros.
abbrev pub is_zero : MtcTime → Bool
is_zero t = eqb t.hours 0 && (eqb t.minutes 0 && (eqb t.seconds 0 && eqb t.frames 0))

-- Such a last byte, and a label that ST 12-1 has; with k = 1 its counts are zeros (p. 8).
abbrev pub allowed : StandardTimeCode → Bool
allowed c = last_allowed c.final_byte && (is_valid c.time && (not c.blank || is_zero c.time))

-- In the short form of a field (p. 9): such a last byte, and frames below that field's rate.
abbrev pub short_allowed : TimeCodeType → ShortTimeCode → Bool
short_allowed r c = ltb c.frames (frames_per_second r) && last_allowed c.final_byte

-- ---- the letters of a code

-- The last byte: seven bits of subframes, or four flags beside any reserved bits.
abbrev pub LastLetters : FinalByte → ℕ → Type 0
LastLetters (Subframes b) byte = (b < 2 ^ 7) × (byte ≡ ff b)
LastLetters (Status s) byte = (xxx : ℕ) × (xxx < 2 ^ 3) × (byte ≡ status s xxx)

-- Two bytes are a short code's letters: its numbers fit them, and they give the bytes.
pub record ShortLetters (frames last : ℕ) (c : ShortTimeCode) : Type 0 where
  pub fffff : c.frames < 2 ^ 5
  pub frames_byte_is : frames ≡ fr (one c.negative) (i c.final_byte) c.frames
  pub last_byte : LastLetters c.final_byte last

-- Five bytes are a code's letters, likewise.
pub record Letters (hours minutes seconds frames last : ℕ) (c : StandardTimeCode) : Type 0 where
  pub zzzzz : c.time.hours < 2 ^ 5
  pub mmmmmm : c.time.minutes < 2 ^ 6
  pub ssssss : c.time.seconds < 2 ^ 6
  pub hours_byte_is : hours ≡ hr (yy c.time.rate) c.time.hours
  pub minutes_byte_is : minutes ≡ mn (one c.color_frame) c.time.minutes
  pub seconds_byte_is : seconds ≡ sc (one c.blank) c.time.seconds
  pub last_two : ShortLetters frames last (short c)

-- ---- reading

-- Five bytes read as a code that there is, where they are its letters.
pub record Reads (hours minutes seconds frames last : ℕ) (c : StandardTimeCode) : Type 0 where
  pub letters : Letters hours minutes seconds frames last c
  pub code : allowed c ≡ true

-- Two bytes in the short form of a field at a rate, likewise.
pub record ReadsShort (rate : TimeCodeType) (frames last : ℕ) (c : ShortTimeCode) : Type 0 where
  pub letters : ShortLetters frames last c
  pub code : short_allowed rate c ≡ true

-- ---- writing

-- The last byte, with xxx = 000.
abbrev pub last : FinalByte → ℕ
last (Subframes b) = ff b
last (Status s) = status s 0

-- fr {ff|st}.
abbrev pub short_written : ShortTimeCode → List ℕ
short_written c = fr (one c.negative) (i c.final_byte) c.frames ∷ last c.final_byte ∷ []

-- hr mn sc fr {ff|st}.
abbrev pub written : StandardTimeCode → List ℕ
written c =
    hr (yy c.time.rate) c.time.hours
    ∷ mn (one c.color_frame) c.time.minutes
    ∷ sc (one c.blank) c.time.seconds
    ∷ fr (one c.negative) (i c.final_byte) c.time.frames
    ∷ last c.final_byte
    ∷ []

-- ---- MOVE (p. 32)

-- From {st} to {ff}: i = 0 and subframes 00. {ff} stays.
abbrev pub move_to_ff : FinalByte → FinalByte
move_to_ff (Subframes b) = Subframes b
move_to_ff (Status s) = Subframes 0

-- From {ff} to {st}: i = 1, e = 0, v = 0, d as given, n = 1. {st} stays.
abbrev pub move_to_st : Bool → FinalByte → FinalByte
move_to_st d (Subframes b) = Status (record { estimated = false; invalid = false; video_field1 = d; no_time_code = true })
move_to_st d (Status s) = Status s
