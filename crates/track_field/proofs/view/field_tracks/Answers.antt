-- `track_field::view::field_tracks` meets its contract: the name is one byte, and no more. Assumes nothing.
use mathlib.Core.Path.{◌≡◌, sym, ap, ◌∙◌}
use lib.ListN.{length, get_or}
use Rattle.std.proofs.Common.{rules, true}
use Rattle.std.specs.Prelude.{Some}
use Rattle.mmc.specs.Part.{is_inside, part_of}
use Rattle.track_field.specs.View.{TRACK-RECORD-READY}
use Rattle.tracks.specs.Tracks.{read_tracks}
use Rattle.track_field.proofs.Named.{named_view}
use Rattle.track_field.proofs.view.field_tracks.Goals as goal

pub returns : goal.returns
returns c =
    let name_inside : is_inside c.args.source.now c.in-Other.name ≡ true = search rules in
    let data_inside : is_inside c.args.source.now c.in-Other.«data» ≡ true = search rules in
    let one : length (part_of c.args.source.now c.in-Other.name) ≡ 1 = search rules in
    let first : get_or (part_of c.args.source.now c.in-Other.name) 0 0 ≡ TRACK-RECORD-READY = search rules in
    ap Some (c.read.ensures ∙ ap read_tracks c.of-2.ensures)
    ∙ sym (named_view _ _ _ _ c.in-Other.is name_inside data_inside one first)
