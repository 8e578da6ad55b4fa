-- RP-013, p. 5, Message Length: how many data bytes follow a name, by the range of its last byte. Assumes nothing.
use Rattle.std.specs.Prelude.{ℕ, Bool, cond, ◌&&◌, leb, ltb}
use Rattle.mmc.specs.declared.length.Kind.{Kind}
use Rattle.mmc.specs.declared.length.Kind.TheVariants.{Commands, Fields}
use Rattle.mmc.specs.declared.length.Length.{Length}
use Rattle.mmc.specs.declared.length.Length.TheVariants.{Fixed, Count}

-- From a byte up to, not including, another.
abbrev pub within : ℕ → ℕ → ℕ → Bool
within from to n = leb from n && ltb n to

-- Commands: 40H to 77H a count byte and that many, the others none.
unfoldable pub command_length : ℕ → Length
command_length n = cond (within 64 120 n) Count (Fixed 0)

-- Fields: 01H to 1FH five, 20H to 3FH two, 40H to 77H a count byte and that many, the others none.
unfoldable pub field_length : ℕ → Length
field_length n = cond (within 1 32 n) (Fixed 5) (cond (within 32 64 n) (Fixed 2) (cond (within 64 120 n) Count (Fixed 0)))

unfoldable pub length_of : Kind → ℕ → Length
length_of Commands n = command_length n
length_of Fields n = field_length n
