use native.Mathlib.Omega.{arith}
use borrow.Author.Tests.{le-leb, lt-leb, eq-eqb, ne_eqb}
use Rattle.codepage.specs.CodePage.{sizes_fault}
use Rattle.codepage.proofs.ShapeLaws.{below_all, below_le}
use Rattle.codepage.proofs.sizes_report.Goals as goal

pub returns-then-numbers-eq0 : goal.returns-then-numbers-eq0
unfolding sizes_fault
returns-then-numbers-eq0 c = rw (eq-eqb _ _ c.if-numbers-eq0.true)

pub returns-then-classes-ne256 : goal.returns-then-classes-ne256
unfolding sizes_fault
returns-then-classes-ne256 c = rw (ne_eqb _ _ c.if-numbers-eq0.false, ne_eqb _ _ c.if-classes-ne256.true)

pub returns-then-singles-ne256 : goal.returns-then-singles-ne256
unfolding sizes_fault
returns-then-singles-ne256 c = rw (ne_eqb _ _ c.if-numbers-eq0.false, eq-eqb _ _ c.if-classes-ne256.false, ne_eqb _ _ c.if-singles-ne256.true)

pub overflow_mul-leads_below : goal.overflow_mul-leads_below
overflow_mul-leads_below c = omega (arith, c.leads_below.ensures, below_le c.args.tables.now.classes.now 256)

pub returns-then-pairs-leads_below : goal.returns-then-pairs-leads_below
unfolding sizes_fault
returns-then-pairs-leads_below c = rw (ne_eqb _ _ c.if-numbers-eq0.false, eq-eqb _ _ c.if-classes-ne256.false, eq-eqb _ _ c.if-singles-ne256.false, ← below_all _ c.if-classes-ne256.false, ← c.leads_below.ensures, ne_eqb _ _ c.if-pairs-leads_below.true)

pub returns-then-index-ne256 : goal.returns-then-index-ne256
unfolding sizes_fault
returns-then-index-ne256 c =
    rw (ne_eqb _ _ c.if-numbers-eq0.false, eq-eqb _ _ c.if-classes-ne256.false, eq-eqb _ _ c.if-singles-ne256.false, ← below_all _ c.if-classes-ne256.false, ← c.leads_below.ensures, eq-eqb _ _ c.if-pairs-leads_below.false, ne_eqb _ _ c.if-index-ne256.true)

pub returns-then-blocks-ne0 : goal.returns-then-blocks-ne0
unfolding sizes_fault
returns-then-blocks-ne0 c =
    rw (ne_eqb _ _ c.if-numbers-eq0.false, eq-eqb _ _ c.if-classes-ne256.false, eq-eqb _ _ c.if-singles-ne256.false, ← below_all _ c.if-classes-ne256.false, ← c.leads_below.ensures, eq-eqb _ _ c.if-pairs-leads_below.false, eq-eqb _ _ c.if-index-ne256.false, ne_eqb _ _ c.if-blocks-ne0.true)

pub returns-then-count-lt1 : goal.returns-then-count-lt1
unfolding sizes_fault
returns-then-count-lt1 c =
    rw (
      ne_eqb _ _ c.if-numbers-eq0.false,
      eq-eqb _ _ c.if-classes-ne256.false,
      eq-eqb _ _ c.if-singles-ne256.false,
      ← below_all _ c.if-classes-ne256.false,
      ← c.leads_below.ensures,
      eq-eqb _ _ c.if-pairs-leads_below.false,
      eq-eqb _ _ c.if-index-ne256.false,
      eq-eqb _ _ c.if-blocks-ne0.false,
      lt-leb 1 _ c.if-count-lt1.true,
    )

pub returns-then-count-gt256 : goal.returns-then-count-gt256
unfolding sizes_fault
returns-then-count-gt256 c =
    rw (
      ne_eqb _ _ c.if-numbers-eq0.false,
      eq-eqb _ _ c.if-classes-ne256.false,
      eq-eqb _ _ c.if-singles-ne256.false,
      ← below_all _ c.if-classes-ne256.false,
      ← c.leads_below.ensures,
      eq-eqb _ _ c.if-pairs-leads_below.false,
      eq-eqb _ _ c.if-index-ne256.false,
      eq-eqb _ _ c.if-blocks-ne0.false,
      le-leb 1 _ c.if-count-lt1.false,
      lt-leb _ 256 c.if-count-gt256.true,
    )

pub returns : goal.returns
unfolding sizes_fault
returns c =
    rw (
      ne_eqb _ _ c.if-numbers-eq0.false,
      eq-eqb _ _ c.if-classes-ne256.false,
      eq-eqb _ _ c.if-singles-ne256.false,
      ← below_all _ c.if-classes-ne256.false,
      ← c.leads_below.ensures,
      eq-eqb _ _ c.if-pairs-leads_below.false,
      eq-eqb _ _ c.if-index-ne256.false,
      eq-eqb _ _ c.if-blocks-ne0.false,
      le-leb 1 _ c.if-count-lt1.false,
      le-leb _ 256 c.if-count-gt256.false,
    )
