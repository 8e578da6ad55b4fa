-- What only the contracts of inner functions need, on the way to `next_word` and `write_words`. Assumes nothing.
use Rattle.std.specs.Prelude.{ℕ, ◌+◌, ◌*◌, ◌/◌, ◌%◌, ◌≤◌, ◌<◌, ◌≡◌, List, true, false, ◌⊎◌, length, Option, Some, None}
use Rattle.mmc.specs.declared.part.Part.{Part}
use Rattle.mmc.specs.Command.{command_by_name, command_of_case}
use Rattle.mmc.specs.Length.{within}
use Rattle.mmc.specs.Write.{Writing, out_after}
use Rattle.fast_mmc.specs.Word.{byte_at, command_word, word_item}
use Rattle.fast_mmc.specs.Write.{writing_at, writer_after}
use Rattle.universal.specs.Overlay.{overlay}

-- ---- reading

-- The word of a name without prefixes and data, wherever it stands.
abbrev pub AloneWord : ℕ → ℕ → Type 0
AloneWord name word =
    (d : List ℕ) (n a : Part) → n.len ≡ 1 → a.len ≡ 0 → word ≡ command_word (command_of_case (command_by_name name d) n a)

-- The word of a name, or none where it has prefixes or a count.
pub data ShortWord (name : ℕ) : Option ℕ → Type 0 where
  longer : (name ≡ 0) ⊎ (within 64 120 name ≡ true) → ShortWord name None
  alone_word : {word : ℕ} → (name ≡ 0 → ⊥) → within 64 120 name ≡ false → AloneWord name word → ShortWord name (Some word)

-- ---- a message of words

-- A writing that nothing has refused.
abbrev pub open_writing : ℕ → ℕ → Writing
open_writing at items = record { at = at; items = items; stop = None }

-- A word whose command went out whole, from a position to the next.
pub record WentWhole (word at : ℕ) (out : List ℕ) (next : ℕ) (left : List ℕ) : Type 0 where
  pub whole : (word_item word).stop ≡ None
  pub moves : next ≡ at + length (word_item word).bytes
  pub near : next ≤ at + 8
  pub bytes : left ≡ overlay out at (word_item word).bytes

-- A word whose command went out whole, or of which nothing did.
abbrev pub PutWhole : ℕ → ℕ → List ℕ → Option ℕ → List ℕ → Type 0
PutWhole word at out None left = left ≡ out
PutWhole word at out (Some next) left = WentWhole word at out next left

-- The five bytes above the case, each below 128, and no more than two bits above them.
pub record LowBytes (n : ℕ) : Type 0 where
  pub most : n / 1125899906842624 ≡ 0
  pub first : byte_at 256 n ≤ 127
  pub second : byte_at 65536 n ≤ 127
  pub third : byte_at 16777216 n ≤ 127
  pub fourth : byte_at 4294967296 n ≤ 127
  pub fifth : byte_at 1099511627776 n ≤ 127

-- A time code whose counts are in range at 30 frames, with subframes in range and no mark but the rate.
pub record WordInRange (w : ℕ) : Type 0 where
  pub hours : byte_at 256 w ≤ 23
  pub minutes : byte_at 65536 w ≤ 59
  pub seconds : byte_at 16777216 w ≤ 59
  pub frames : byte_at 4294967296 w ≤ 29
  pub subframes : byte_at 1099511627776 w ≤ 99
  pub rate : byte_at 281474976710656 w ≤ 3
  pub top : w / 1125899906842624 ≡ 0

-- A label in range at 30 frames that its rate, given in bits, has: frames below 24 or 25, and at drop-frame no skipped number.
pub record AtRate (m s f rate : ℕ) : Type 0 where
  pub slow : rate < 2 → f < 24 + rate
  pub fast : 2 ≤ rate → (rate ≡ 3 → ⊥) → (m % 10 ≡ 0) ⊎ (2 ≤ s * 30 + f)

-- A word after which the writer has this number, or of which nothing was put.
abbrev pub PutOne : ℕ → ℕ → List ℕ → Option ℕ → List ℕ → Type 0
PutOne word writer out None left = left ≡ out
PutOne word writer out (Some after) left =
    (after ≡ writer_after writer (word_item word)) × (left ≡ out_after (writing_at writer) out (word_item word))
