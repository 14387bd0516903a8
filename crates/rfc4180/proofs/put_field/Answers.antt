use Rattle.rfc4180.proofs.CsvLaws.{part_none, part_room, part_whole}
use Rattle.rfc4180.proofs.put_field.Goals as goal

pub returns-then-not-fit : goal.returns-then-not-fit
returns-then-not-fit c =
    part_none c.args.begun _ c.args.closed c.args.field.now c.args.out.now _ _ _ c.needs_quotes-quotes.ensures c.quote_count-count.ensures c.around-more.ensures
    c.fit.ensures c.if-not-fit.true

pub lay_part-requires : goal.lay_part-requires
lay_part-requires c =
    part_room c.args.begun _ c.args.closed c.args.field.now c.args.out.now _ _ _ c.needs_quotes-quotes.ensures c.quote_count-count.ensures c.around-more.ensures
    c.fit.ensures c.if-not-fit.false

pub returns : goal.returns
returns c =
    part_whole c.args.begun _ c.args.closed c.args.field.now c.args.out.now _ _ _ c.needs_quotes-quotes.ensures c.quote_count-count.ensures c.around-more.ensures
    c.fit.ensures c.if-not-fit.false c.lay_part.ensures
