use Rattle.listing.proofs.ChangeLaws.{ready_of, refused_line, refused_room, accepted_line}
use Rattle.listing.proofs.read_line.Goals as goal

pub returns-then-not-is_accepted : goal.returns-then-not-is_accepted
returns-then-not-is_accepted c = refused_line _ _ _ _ _ c.record_of-item.ensures c.is_accepted.ensures c.if-not-is_accepted.true

pub returns-then-not-has_room : goal.returns-then-not-has_room
returns-then-not-has_room c =
    refused_room _ _ _ _ _ c.record_of-item.ensures c.is_accepted.ensures _ _ _ c.if-not-is_accepted.false c.after_record-next.ensures c.sizes_needed.ensures c.has_room.ensures c.if-not-has_room.true

pub change-requires : goal.change-requires
change-requires c =
    ready_of _ _ _ _ _ _ _ _ _ _ _ c.is_accepted.ensures c.if-not-is_accepted.false c.after_record-next.ensures c.sizes_needed.ensures c.has_room.ensures c.if-not-has_room.false

pub returns : goal.returns
returns c =
    accepted_line _ _ _ _ _ c.record_of-item.ensures c.is_accepted.ensures _ _ _ c.if-not-is_accepted.false c.after_record-next.ensures c.sizes_needed.ensures c.has_room.ensures _ c.if-not-has_room.false c.change.ensures
