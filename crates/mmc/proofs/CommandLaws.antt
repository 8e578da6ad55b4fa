-- The laws of what commands and fields mean by the pages of RP-013: the page's bytes are written from the page's command or field and
-- read as it; and what exactly is written and read, which is more than the page has. Assumes nothing.
use Rattle.std.specs.Prelude.{None}
use Prim.Native.Nat.{ℕ}
use mathlib.Core.Path.{◌≡◌}
use mathlib.Core.Logic.{◌↔◌, ◌≢◌}
use mathlib.Core.List.{List, ◌++◌}
use lib.ListN.{length}
use Rattle.mmc.specs.declared.command.MmcCommand.{MmcCommand}
use Rattle.mmc.specs.declared.field.InfoField.{InfoField}
use Rattle.mmc.specs.ByPage.{StandsFor, FieldStandsFor, CommandAt, FieldAt, ReadsAs, FieldReadsAs, Writes, FieldWrites}
use Rattle.mmc.specs.Command.{CommandCase, other, read_command}
use Rattle.mmc.specs.Field.{FieldCase, read_field, other_field}
use Rattle.mmc.specs.Item.{command_item, field_item}
use Rattle.mmc.specs.Rp013Commands.{Command, command_bytes, received_bytes, IsCommand, Field, field_bytes, IsField}
use Rattle.universal.specs.Emission.{sent}
use Rattle.mmc.proofs.Reading.CommandReading as reading
use Rattle.mmc.proofs.Writing.CommandWriting as writing

-- ---- by the pages

-- A command that stands for one of the page is written as the page's bytes.
pub command_written_by_page : (p : Command) (source : List ℕ) (c : MmcCommand) → IsCommand p → StandsFor source p c
    → command_item source c ≡ sent (command_bytes p)
command_written_by_page = writing.command_written_by_page

-- Where the page's bytes of a command stand in a string, with data past its own or none, it is read as one that stands for it.
pub command_read_by_page : (p : Command) (past body pre post : List ℕ) (place : ℕ) → IsCommand p
    → body ≡ pre ++ (received_bytes p past ++ post) → place ≡ length pre → CommandAt body place p past
command_read_by_page = reading.command_read_by_page

-- A field that stands for one of the page is written as the page's bytes.
pub field_written_by_page : (p : Field) (source : List ℕ) (x : InfoField) → IsField p → FieldStandsFor p x
    → field_item source x ≡ sent (field_bytes p)
field_written_by_page = writing.field_written_by_page

-- Where the page's bytes of a field stand in a string, it is read as one that stands for it.
pub field_read_by_page : (p : Field) (body pre post : List ℕ) (place : ℕ) → IsField p → body ≡ pre ++ (field_bytes p ++ post)
    → place ≡ length pre → FieldAt body place p
field_read_by_page = reading.field_read_by_page

-- ---- exactly

-- A name and data are read as a case, and not as another command, exactly where they are said to be.
pub command_read_exactly : (k : CommandCase) (name d : List ℕ) → ((read_command name d ≡ k) × (k ≢ other)) ↔ ReadsAs k name d
command_read_exactly = reading.command_read_exactly

-- A field's name and data are read as a time code exactly where they are said to be.
pub field_read_exactly : (k : FieldCase) (name d : List ℕ) → ((read_field name d ≡ k) × (k ≢ other_field)) ↔ FieldReadsAs k name d
field_read_exactly = reading.field_read_exactly

-- A command is accepted exactly where it is said that it may be written.
pub command_written_exactly : (source : List ℕ) (c : MmcCommand) → ((command_item source c).stop ≡ None) ↔ Writes source c
command_written_exactly = writing.command_written_exactly

-- A field is accepted exactly where it is said that it may be written.
pub field_written_exactly : (source : List ℕ) (x : InfoField) → ((field_item source x).stop ≡ None) ↔ FieldWrites source x
field_written_exactly = writing.field_written_exactly
