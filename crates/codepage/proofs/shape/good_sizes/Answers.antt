use borrow.Author.Tests.{eq-eqb, ne_eqb, le-leb, lt-leb}
use Rattle.codepage.specs.Marks.{good_sizes}
use Rattle.codepage.proofs.shape.good_sizes.Goals as goal

pub returns-then-classes-ne256 : goal.returns-then-classes-ne256
unfolding good_sizes
returns-then-classes-ne256 c = rw (ne_eqb _ _ c.if-classes-ne256.true)

pub returns-then-singles-ne256 : goal.returns-then-singles-ne256
unfolding good_sizes
returns-then-singles-ne256 c = rw (eq-eqb _ _ c.if-classes-ne256.false, ne_eqb _ _ c.if-singles-ne256.true)

pub returns-then-index-ne256 : goal.returns-then-index-ne256
unfolding good_sizes
returns-then-index-ne256 c = rw (eq-eqb _ _ c.if-classes-ne256.false, eq-eqb _ _ c.if-singles-ne256.false, ne_eqb _ _ c.if-index-ne256.true)

pub returns-then-blocks-ne0 : goal.returns-then-blocks-ne0
unfolding good_sizes
returns-then-blocks-ne0 c = rw (eq-eqb _ _ c.if-classes-ne256.false, eq-eqb _ _ c.if-singles-ne256.false, eq-eqb _ _ c.if-index-ne256.false, ne_eqb _ _ c.if-blocks-ne0.true)

pub returns-then-blocks-lt1 : goal.returns-then-blocks-lt1
unfolding good_sizes
returns-then-blocks-lt1 c = rw (eq-eqb _ _ c.if-classes-ne256.false, eq-eqb _ _ c.if-singles-ne256.false, eq-eqb _ _ c.if-index-ne256.false, eq-eqb _ _ c.if-blocks-ne0.false, lt-leb _ _ c.if-blocks-lt1.true)

pub returns : goal.returns
unfolding good_sizes
returns c = rw (eq-eqb _ _ c.if-classes-ne256.false, eq-eqb _ _ c.if-singles-ne256.false, eq-eqb _ _ c.if-index-ne256.false, eq-eqb _ _ c.if-blocks-ne0.false, le-leb _ _ c.if-blocks-lt1.false)
