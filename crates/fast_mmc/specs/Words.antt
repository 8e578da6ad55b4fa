-- A whole command message given as words: opened, given what each word says, and closed, as a writing of commands is
-- (`string_answer`, `string_left`); the law `words_as_commands` says so of the words of commands. Assumes nothing.
use Rattle.std.specs.Prelude.{ℕ, List, [], ◌∷◌, map, length}
use Rattle.mmc.specs.declared.command.MmcCommand.{MmcCommand}
use Rattle.mmc.specs.declared.length.Kind.TheVariants.{Commands}
use Rattle.mmc.specs.Command.{command_of_case}
use Rattle.mmc.specs.Part.{part}
use Rattle.mmc.specs.Strings as S
use Rattle.mmc.specs.Strings.{command_back}
use Rattle.fast_mmc.specs.Word.{word_item, OneWord}
use Rattle.mmc.specs.Write.{Writing, opened_commands, begun, out_after, writing_after, closed_message, whole_message}
use Rattle.mmc.specs.Writings.{State}
use Rattle.universal.specs.Overlay.{overlay}
use Rattle.universal.specs.Refusals.{Answer}

-- What a writing and its buffer become by words.
unfoldable pub after_words : Writing → List ℕ → List ℕ → State
after_words w out [] = record { writing = w; out = out }
after_words w out (x ∷ ws) =
    after_words (writing_after w (word_item x)) (out_after w out (word_item x)) ws

-- The buffer that a close leaves.
abbrev pub closed_out : State → List ℕ
closed_out s = overlay s.out s.writing.at (closed_message s.writing).bytes

-- The writing that a device's opening begins, given the words.
abbrev pub words_state : ℕ → List ℕ → List ℕ → State
words_state device ws out = after_words (begun (opened_commands device)) (overlay out 0 (opened_commands device).bytes) ws

-- The answer of a whole message of words, and the bytes that it leaves in a buffer.
unfoldable pub words_answer : ℕ → List ℕ → List ℕ → Answer ℕ
words_answer device ws out = whole_message (words_state device ws out).writing (length out)

unfoldable pub words_left : ℕ → List ℕ → List ℕ → List ℕ
words_left device ws out = closed_out (words_state device ws out)

-- ---- the words of commands

-- Each of the commands has a word of its own.
abbrev pub OneWords : List MmcCommand → Type 0
OneWords [] = Unit
OneWords (c ∷ cs) = OneWord c × OneWords cs

-- Commands that have no parts, as they are given to be written.
abbrev pub given_all : List MmcCommand → List (S.Given Commands)
given_all cs = map (S.given Commands []) cs

-- ---- what a read gives of them

-- A command without parts as it is read back: a blank target with zeros, any other as it was written.
abbrev pub as_read : MmcCommand → MmcCommand
as_read c = command_of_case (command_back [] c) (part 0 0) (part 0 0)
