use native.Mathlib.Omega.{arith}
use Rattle.rfc4180.proofs.CsvLaws.{when_length, quotes_length, when_break_length, order_length, part_laid}
use Rattle.rfc4180.proofs.lay_part.Goals as goal

pub lay_if-begin-requires : goal.lay_if-begin-requires
lay_if-begin-requires c =
    omega (arith, when_length c.args.begun 0x2C, order_length c.args.quotes c.args.field.now c.args.begun c.args.closed)

pub lay_quoted-end-requires : goal.lay_quoted-end-requires
lay_quoted-end-requires c =
    omega (arith, c.out-1.given, c.lay_if-begin.ensures.next, when_length c.args.begun 0x2C, quotes_length c.args.quotes c.args.field.now, order_length c.args.quotes c.args.field.now c.args.begun c.args.closed)

pub lay_if-requires : goal.lay_if-requires
lay_if-requires c =
    omega (
      arith,
      c.out-2-1.given,
      c.out-1.given,
      c.lay_quoted-end.ensures.next,
      c.lay_if-begin.ensures.next,
      when_break_length c.args.closed,
      when_length c.args.begun 0x2C,
      quotes_length c.args.quotes c.args.field.now,
      order_length c.args.quotes c.args.field.now c.args.begun c.args.closed,
    )

pub returns : goal.returns
returns c =
    part_laid c.args.begun c.args.quotes c.args.closed c.args.field.now c.requires c.lay_if-begin.ensures c.lay_quoted-end.ensures c.lay_if.ensures c.out-1.given
