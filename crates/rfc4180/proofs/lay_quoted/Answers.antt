use native.Mathlib.Omega.{arith}
use Rattle.rfc4180.proofs.CsvLaws.{when_length, quotes_length, quotes_laid}
use Rattle.rfc4180.proofs.lay_quoted.Goals as goal

pub lay_if-begin-requires : goal.lay_if-begin-requires
lay_if-begin-requires c =
    omega (arith, when_length c.args.quotes 0x22, quotes_length c.args.quotes c.args.field.now)

pub lay_field-end-requires : goal.lay_field-end-requires
lay_field-end-requires c =
    omega (arith, c.out-1.given, c.lay_if-begin.ensures.next, when_length c.args.quotes 0x22, quotes_length c.args.quotes c.args.field.now)

pub lay_if-requires : goal.lay_if-requires
lay_if-requires c =
    omega (arith, c.out-2-1.given, c.out-1.given, c.lay_field-end.ensures.next, c.lay_if-begin.ensures.next, when_length c.args.quotes 0x22, quotes_length c.args.quotes c.args.field.now)

pub returns : goal.returns
returns c =
    quotes_laid c.args.quotes c.args.field.now c.requires c.lay_if-begin.ensures c.lay_field-end.ensures c.lay_if.ensures c.out-1.given
