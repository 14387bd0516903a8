use Rattle.codepage.proofs.MarkLaws.{good_if, bad_if, sizes_needed, marks_needed, number_needed, good_by_marks, classes_size, index_size, low_leads, leads_high}
use Rattle.codepage.specs.CodePage.{page_of}
use lib.ListN.{length}
use native.Mathlib.Omega.{arith}
use Prim.Native.Nat.{ℕ, ◌*◌}
use mathlib.Core.Bool.{true≢false}
use mathlib.Core.Path.{sym, ap, ◌∙◌}
use Rattle.codepage.proofs.shape.good_shape.Goals as goal

pub returns-then-numbers-eq0 : goal.returns-then-numbers-eq0
returns-then-numbers-eq0 c =
    let page = page_of c.args.tables.now in
    bad_if page (λ g. g.page c.if-numbers-eq0.true)

pub returns-then-not-good_sizes : goal.returns-then-not-good_sizes
returns-then-not-good_sizes c =
    let page = page_of c.args.tables.now in
    bad_if page (λ g. true≢false (sym (sizes_needed page g) ∙ sym c.good_sizes.ensures ∙ c.if-not-good_sizes.true))

pub scan_classes-scan-requires : goal.scan_classes-scan-requires
scan_classes-scan-requires c =
    classes_size (length c.args.tables.now.classes.now) (length c.args.tables.now.singles.now) (length c.args.tables.now.index.now) (length c.args.tables.now.blocks.now) (sym c.good_sizes.ensures ∙ c.if-not-good_sizes.false)

pub returns-then-scan-ne0 : goal.returns-then-scan-ne0
returns-then-scan-ne0 c =
    let page = page_of c.args.tables.now in
    bad_if page (λ g. marks_needed page g _ c.scan_classes-scan.ensures.marked (omega (arith, c.if-scan-ne0.true)))

pub largest-requires : goal.largest-requires
largest-requires c =
    index_size (length c.args.tables.now.classes.now) (length c.args.tables.now.singles.now) (length c.args.tables.now.index.now) (length c.args.tables.now.blocks.now) (sym c.good_sizes.ensures ∙ c.if-not-good_sizes.false)

pub returns-then-blocks-largest : goal.returns-then-blocks-largest
returns-then-blocks-largest c =
    let page = page_of c.args.tables.now in
    bad_if page (λ g. let f = number_needed page g _ c.largest.ensures in omega (arith, f))

pub returns-then-pairs-scan : goal.returns-then-pairs-scan
returns-then-pairs-scan c =
    let page = page_of c.args.tables.now in
    bad_if page (λ g. c.if-pairs-scan.true (g.pairs ∙ ap (λ (k : ℕ). 256 * k) (sym (leads_high c.args.tables.now.classes.now _ g.classes g.low c.scan_classes-scan.ensures.classes_value))))

pub returns : goal.returns
returns c =
    let page = page_of c.args.tables.now in
    let sizes = sym c.good_sizes.ensures ∙ c.if-not-good_sizes.false in
    let size = classes_size (length c.args.tables.now.classes.now) (length c.args.tables.now.singles.now) (length c.args.tables.now.index.now) (length c.args.tables.now.blocks.now) sizes in
    let leads = leads_high c.args.tables.now.classes.now _ size (low_leads c.args.tables.now.classes.now _ c.scan_classes-scan.ensures.marked c.if-scan-ne0.false) c.scan_classes-scan.ensures.classes_value in
    good_if page (good_by_marks page c.if-numbers-eq0.false sizes _ _ c.scan_classes-scan.ensures.marked c.if-scan-ne0.false c.largest.ensures (omega arith) (c.if-pairs-scan.false ∙ ap (λ (k : ℕ). 256 * k) leads))
