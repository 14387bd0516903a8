use borrow.Author.Tests.{eq-eqb, ne_eqb}
use Rattle.console_script.specs.Words.{plain}
use Rattle.console_script.proofs.words.is_plain.Goals as goal

pub returns-then-word-eq0 : goal.returns-then-word-eq0
unfolding plain
returns-then-word-eq0 c = rw (eq-eqb _ 0 c.if-word-eq0.true)

pub returns-then-word-eq48 : goal.returns-then-word-eq48
unfolding plain
returns-then-word-eq48 c = rw (ne_eqb _ 0 c.if-word-eq0.false, eq-eqb _ 0x30 c.if-word-eq48.true)

pub returns : goal.returns
unfolding plain
returns c = rw (ne_eqb _ 0 c.if-word-eq0.false, ne_eqb _ 0x30 c.if-word-eq48.false)
