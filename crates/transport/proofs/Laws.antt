-- The laws that readers and upper crates cite: demand 3, what a string's commands leave, what one call leaves, and what a target
-- resolves to. Assumes nothing.

-- Demand 3: by what the list reads back as; in reverse; and by what is written, without a sign and with one. Of the twenty-four bytes
-- alone, without any others among them, it is what it was before document 02's #105.
pub use Rattle.transport.proofs.Demand3.{demand3, demand3_reverse, demand3_written, demand3_unsigned, demand3_negative, promised_alone}
-- In any data the commands read have acted, those before a cut too; a refused command leaves the generator and holds up none; Locate
-- and then Play leave it located and running forward.
pub use Rattle.transport.proofs.Obeying.{obey_more, read_acts, cut_acts, refused_unchanged, refused_passes, applied_append, answers_each, target_played}
-- One call: 5, "not mine", or what the command does.
pub use Rattle.transport.proofs.Acting.{device_above, own_above, not_mine_lem, mine}
-- It leaves no last piece above 7 where there was none before.
pub use Rattle.transport.proofs.Acting.{applied_fits}
-- A target: none where blank or still invalid, else by its sign from its label, a skipped one moved to the least valid label above it;
-- always valid. Without a sign it is what it was; the last byte is unread.
pub use Rattle.transport.proofs.Targets.{blank_none, invalid_none, valid_some, valid_by_sign, skipped_moved, resolved_valid, unsigned_as_before, last_byte_unread}
-- Before midnight (document 02, #103): as many labels back from midnight as the label counts, by ST 12-1, so that it is midnight when moved
-- ahead by that count, and the two counts make up a day; minus zero is zero; a valid label of the same rate.
pub use Rattle.transport.proofs.Targets.{counted_back, ahead_to_midnight, counts_make_a_day, before_midnight_by_count, minus_zero, before_midnight_valid, before_midnight_rate}
