-- `universal::message::Universal::open_with_sub_id2` meets its contract, by the outcome of each test. Assumes nothing.
use Rattle.universal.proofs.Openings.{fields_put, with_against, with_high_sub_id2, with_whole}
use Rattle.universal.proofs.message.Universal.open_with_sub_id2.Goals as goal

pub returns-then-not-has_sub_id2 : goal.returns-then-not-has_sub_id2
returns-then-not-has_sub_id2 c =
    fields_put c.args.self _ _ _ _ c.requires.1
    (with_against _ _ _ c.requires.0 _ c.has_sub_id2.ensures _ _ c.if-not-has_sub_id2.true)

pub returns-then-sub_id2-gt127 : goal.returns-then-sub_id2-gt127
returns-then-sub_id2-gt127 c =
    fields_put c.args.self _ _ _ _ c.requires.1
    (with_high_sub_id2 _ _ _ c.requires.0 _ c.has_sub_id2.ensures _ _ c.put_start.ensures _
    c.if-not-has_sub_id2.false c.if-self-gt127.false _ c.put.ensures c.if-sub_id2-gt127.true)

pub returns : goal.returns
returns c =
    fields_put c.args.self _ _ _ _ c.requires.1
    (with_whole _ _ _ c.requires.0 _ c.has_sub_id2.ensures _ _ c.put_start.ensures _
    c.if-not-has_sub_id2.false c.if-self-gt127.false _ c.put.ensures c.if-sub_id2-gt127.false _ c.put-2.ensures)
