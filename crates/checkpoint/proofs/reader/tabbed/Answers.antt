use mathlib.Core.Path.{sym}
use borrow.Author.Tests.{eq-eqb, ne_eqb}
use Rattle.checkpoint.specs.Line.{tab, is_byte}
use Rattle.checkpoint.proofs.PlaceLaws.{byte_end, byte_none, byte_some}
use Rattle.checkpoint.proofs.reader.tabbed.Goals as goal

pub returns-then-line-item-clause-value : goal.returns-then-line-item-clause-value
returns-then-line-item-clause-value g c = sym (byte_end (is_byte tab _) _ _ c.if-line-item.true)

pub returns-then-line-item-ne9-clause-value : goal.returns-then-line-item-ne9-clause-value
returns-then-line-item-ne9-clause-value g c = sym (byte_none (is_byte tab _) _ _ c.if-line-item.false (rw (ne_eqb _ _ c.if-line-item-ne9.true)))

pub returns-clause-value : goal.returns-clause-value
returns-clause-value g c = byte_some (is_byte tab _) _ _ _ c.if-line-item.false (rw (eq-eqb _ _ c.if-line-item-ne9.false))
