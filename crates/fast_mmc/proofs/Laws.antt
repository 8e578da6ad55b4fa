-- The laws that readers and upper crates cite: what is flattened is the same value when it is read back; a word and its command are
-- each other's inverse, what is written of a word reads back as it, and a message of words is the writing of their commands; the bytes of a record are those of the answer, zeros
-- on a refusal. Assumes nothing.
pub use Rattle.fast_mmc.proofs.FlatBack.{flat_code_back, flat_short_back, flat_command_back, flat_field_back, kind_says, standard_left_lem, short_left_lem}
pub use Rattle.fast_mmc.proofs.CommandWords.{word_back, command_word_back, read_target_back, words_as_commands}
pub use Rattle.fast_mmc.proofs.WordsReadBack.{word_reads_back, same_word_back}
