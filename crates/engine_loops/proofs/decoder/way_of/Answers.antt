use mathlib.Core.Path.{sym, subst, ◌∙◌}
use mathlib.Core.Bool.{Bool}
use Rattle.codepage_lookup.specs.Tables.{byte_reader}
use Rattle.engine_fastpath.specs.Runs.{Plain}
use Rattle.engine_loops.proofs.TurnedLaws.{none_pending}
use Rattle.engine_loops.proofs.decoder.way_of.Goals as goal

pub returns-then-decode_plain : goal.returns-then-decode_plain
returns-then-decode_plain c =
    let none = none_pending c.args.pending (sym c.is_some.ensures ∙ c.if-is_some.false) in
    record { known = (none, subst (λ (b : Bool). Plain (byte_reader c.args.tables.now) c.args.piece.now c.args.out.now b c.decode_plain.new.out) c.if-decode_plain.true (c.decode_plain.ensures c.args.tables.now.pairs.now)); same = (c.decode_plain.ensures c.args.tables.now.pairs.now).same }

pub returns-then-tables-gt0 : goal.returns-then-tables-gt0
returns-then-tables-gt0 c = record { known = (c.decode_plain.ensures c.args.tables.now.pairs.now).left c.if-decode_plain.false; same = (c.decode_plain.ensures c.args.tables.now.pairs.now).same }

pub returns-then-only_singles : goal.returns-then-only_singles
returns-then-only_singles c =
    let none = none_pending c.args.pending (sym c.is_some.ensures ∙ c.if-is_some.false) in
    record { known = (none, c.only_singles.ensures c.if-only_singles.true, (c.decode_plain.ensures c.args.tables.now.pairs.now).left c.if-decode_plain.false); same = (c.decode_plain.ensures c.args.tables.now.pairs.now).same }

pub returns : goal.returns
returns c = record { known = (c.decode_plain.ensures c.args.tables.now.pairs.now).left c.if-decode_plain.false; same = (c.decode_plain.ensures c.args.tables.now.pairs.now).same }
