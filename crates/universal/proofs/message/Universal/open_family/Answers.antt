-- `universal::message::Universal::open_family` meets its contract, by the outcome of each test. Assumes nothing.
use Rattle.universal.proofs.Openings.{fields_put, plain_against, plain_high, plain_whole}
use Rattle.universal.proofs.message.Universal.open_family.Goals as goal

pub returns-then-has_sub_id2 : goal.returns-then-has_sub_id2
returns-then-has_sub_id2 c =
    fields_put c.args.self _ _ _ _ c.requires.1
    (plain_against _ _ _ c.requires.0 _ c.has_sub_id2.ensures _ c.if-has_sub_id2.true)

pub returns-then-self-gt127 : goal.returns-then-self-gt127
returns-then-self-gt127 c =
    fields_put c.args.self _ _ _ _ c.requires.1
    (plain_high _ _ _ c.requires.0 _ c.has_sub_id2.ensures _ _ c.put_start.ensures c.if-has_sub_id2.false c.if-self-gt127.true)

pub returns : goal.returns
returns c =
    fields_put c.args.self _ _ _ _ c.requires.1
    (plain_whole _ _ _ c.requires.0 _ c.has_sub_id2.ensures _ _ c.put_start.ensures
    c.if-has_sub_id2.false c.if-self-gt127.false _ c.put.ensures)
