use Rattle.lister.proofs.PlaceLaws.{list_bad, shaped, list_done, list_small, list_line}
use Rattle.lister.proofs.write_line.Goals as goal

pub returns-then-not-good_shape : goal.returns-then-not-good_shape
returns-then-not-good_shape c = list_bad _ _ _ _ c.good_shape.ensures c.if-not-good_shape.true

pub next_place-place-requires : goal.next_place-place-requires
next_place-place-requires c = shaped _ c.args.cursor c.args.out.now _ c.good_shape.ensures c.if-not-good_shape.false

pub returns-then-place-ge-PLACES : goal.returns-then-place-ge-PLACES
returns-then-place-ge-PLACES c = list_done _ _ _ _ c.good_shape.ensures c.if-not-good_shape.false _ c.next_place-place.ensures c.if-place-ge-PLACES.true

pub record_at-item-requires : goal.record_at-item-requires
record_at-item-requires c = record { good_shape = shaped _ c.args.cursor c.args.out.now _ c.good_shape.ensures c.if-not-good_shape.false; place_bound = c.if-place-ge-PLACES.false }

pub returns-then-out-size : goal.returns-then-out-size
returns-then-out-size c =
    list_small _ _ _ _ c.good_shape.ensures c.if-not-good_shape.false _ c.next_place-place.ensures c.if-place-ge-PLACES.false _ c.record_at-item.ensures _ c.line_len-size.ensures c.if-out-size.true

pub returns : goal.returns
returns c =
    list_line _ _ _ _ c.good_shape.ensures c.if-not-good_shape.false _ c.next_place-place.ensures c.if-place-ge-PLACES.false _ c.record_at-item.ensures _ c.line_len-size.ensures _ c.if-out-size.false c.put_line.ensures
