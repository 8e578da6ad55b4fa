-- A label in a word, and its mark. Assumes nothing.
use Rattle.std.specs.Prelude.{Some}
use Prim.Native.Nat.{ℕ, ◌+◌, ◌*◌, ◌/◌, ◌%◌, ◌≤◌}
use mathlib.Core.Bool.{true}
use mathlib.Core.Path.{◌≡◌, refl}
use native.Mathlib.Omega.{arith}
use Rattle.fast_mtc.specs.Generator.{is_set}
use Rattle.fast_mtc.specs.Reader.{label_in, time_in}
use Rattle.labels.specs.Time.{bits_of, type_of}
use Rattle.labels.specs.declared.time.MtcTime.{MtcTime}
use Rattle.labels.specs.declared.time.TimeCodeType.{TimeCodeType}
use Rattle.labels.specs.declared.time.TimeCodeType.TheVariants.{Fps24, Fps25, Fps30Drop, Fps30}

module _ (h m s f : ℕ) (hh : h ≤ 255) (hm : m ≤ 255) (hs : s ≤ 255) (hf : f ≤ 255) where
  hours_back : (h + m * 256 + s * 65536 + f * 16777216) % 256 ≡ h
  hours_back = omega arith

  minutes_back : (h + m * 256 + s * 65536 + f * 16777216) / 256 % 256 ≡ m
  minutes_back = omega arith

  seconds_back : (h + m * 256 + s * 65536 + f * 16777216) / 65536 % 256 ≡ s
  seconds_back = omega arith

  frames_back : (h + m * 256 + s * 65536 + f * 16777216) / 16777216 % 256 ≡ f
  frames_back = omega arith

pub label_back : (t : MtcTime) → t.hours ≤ 255 → t.minutes ≤ 255 → t.seconds ≤ 255 → t.frames ≤ 255
    → label_in t.rate (t.hours + t.minutes * 256 + t.seconds * 65536 + t.frames * 16777216) ≡ t
unfolding label_in
label_back t h m s f =
    rw (hours_back t.hours t.minutes t.seconds t.frames h m s f, minutes_back t.hours t.minutes t.seconds t.frames h m s f, seconds_back t.hours t.minutes t.seconds t.frames h m s f, frames_back t.hours t.minutes t.seconds t.frames h m s f)

mark_set : (r : TimeCodeType) → is_set ((1 + 2 * bits_of r) % 2) ≡ true
mark_set Fps24 = refl
mark_set Fps25 = refl
mark_set Fps30Drop = refl
mark_set Fps30 = refl

mark_rate : (r : TimeCodeType) → type_of ((1 + 2 * bits_of r) / 2) ≡ r
mark_rate Fps24 = refl
mark_rate Fps25 = refl
mark_rate Fps30Drop = refl
mark_rate Fps30 = refl

pub marked : (t : MtcTime) (m w : ℕ) → m ≡ 1 + 2 * bits_of t.rate → label_in t.rate w ≡ t → time_in m w ≡ Some t
unfolding time_in
marked t m w em e = rw (em, mark_set t.rate, mark_rate t.rate, e)
