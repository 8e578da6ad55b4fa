-- The refusals by their numbers, 1 to 10 document 01's ("Turned back by the input", "Turned back by the state"), from 11 on document
-- 02's, and answers that may be a refusal. Contracts and reference definitions speak in these numbers. Assumes nothing.
use Rattle.std.specs.Prelude.{ℕ, cond, List, [], ◌∷◌, eqb, Result, Ok, Err}
use Rattle.universal.specs.declared.error.SysexError.{SysexError}
use Rattle.universal.specs.declared.error.SysexError.TheVariants.{DataByte, Length, OutOfRange, BufferTooSmall, Device, Source, Target, Stopped, End, ItemLimit, NoField, Track, StatusByte}

-- A refusal: its number, and the values given with it.
pub record Refusal : Type 0 where
  pub number : ℕ
  pub values : List ℕ

-- A refusal that gives its number alone.
abbrev pub refusal : ℕ → Refusal
refusal n = record { number = n; values = [] }

-- Refusal 4, with the needed length.
abbrev pub too_small : ℕ → Refusal
too_small needed = record { number = 4; values = needed ∷ [] }

-- The number and values of each case.
abbrev pub refusal_of : SysexError → Refusal
refusal_of DataByte = refusal 1
refusal_of Length = refusal 2
refusal_of OutOfRange = refusal 3
refusal_of (BufferTooSmall needed) = too_small needed
refusal_of Device = refusal 5
refusal_of Source = refusal 6
refusal_of Target = refusal 7
refusal_of Stopped = refusal 8
refusal_of End = refusal 9
refusal_of ItemLimit = refusal 10
refusal_of NoField = refusal 11
refusal_of Track = refusal 12
refusal_of StatusByte = refusal 13

-- The first of a refusal's values, or 0.
abbrev pub first_of : List ℕ → ℕ
first_of [] = 0
first_of (n ∷ ns) = n

-- The needed length, which only refusal 4 gives.
abbrev pub needed_of : Refusal → ℕ
needed_of r = first_of r.values

-- The refusal of a number from 10 on; a number that is no refusal's is taken as 10.
unfoldable pub error_from_10 : ℕ → SysexError
error_from_10 n = cond (eqb n 11) NoField (cond (eqb n 12) Track (cond (eqb n 13) StatusByte ItemLimit))

-- The refusal of a number, likewise.
unfoldable pub error_of : ℕ → ℕ → SysexError
error_of n needed =
    cond (eqb n 1) DataByte
    (cond (eqb n 2) Length
    (cond (eqb n 3) OutOfRange
    (cond (eqb n 4) (BufferTooSmall needed)
    (cond (eqb n 5) Device
    (cond (eqb n 6) Source
    (cond (eqb n 7) Target (cond (eqb n 8) Stopped (cond (eqb n 9) End (error_from_10 n)))))))))

-- What a call that may refuse answers: a value, or its refusal.
pub data Answer (A : Type 0) : Type 0 where
  gives : A → Answer A
  refused : Refusal → Answer A

-- What a call answers, in the paper's numbers.
abbrev pub answer_of : {A : Type 0} → Result A SysexError → Answer A
answer_of (Ok a) = gives a
answer_of (Err e) = refused (refusal_of e)
