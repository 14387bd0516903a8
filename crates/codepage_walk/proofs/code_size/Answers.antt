use mathlib.Core.Path.{sym, ◌∙◌}
use native.Mathlib.Omega.{arith}
use Rattle.codepage_walk.proofs.WalkLaws.{size_single, size_last, size_high, size_trail, size_afresh}
use Rattle.codepage_walk.proofs.code_size.Goals as goal

pub returns-then-not-is_lead : goal.returns-then-not-is_lead
returns-then-not-is_lead c =
    size_single _ c.args.text.now _ c.requires.1 (sym c.is_lead.ensures ∙ c.if-not-is_lead.true)

pub returns-then-text-place-eq1 : goal.returns-then-text-place-eq1
returns-then-text-place-eq1 c =
    size_last _ c.args.text.now c.args.place (omega arith)

pub returns-then-text-place-ge128 : goal.returns-then-text-place-ge128
returns-then-text-place-ge128 c =
    let lead = sym c.is_lead.ensures ∙ c.if-not-is_lead.false in
    size_high _ c.args.text.now c.args.place (omega arith) lead (omega arith)

pub returns-then-is_trail_class : goal.returns-then-is_trail_class
returns-then-is_trail_class c =
    let lead = sym c.is_lead.ensures ∙ c.if-not-is_lead.false in
    size_trail _ c.args.text.now c.args.place (omega arith) lead (sym c.is_trail_class.ensures ∙ c.if-is_trail_class.true)

pub returns : goal.returns
returns c =
    let lead = sym c.is_lead.ensures ∙ c.if-not-is_lead.false in
    size_afresh _ c.args.text.now c.args.place (omega arith) lead (omega arith) (sym c.is_trail_class.ensures ∙ c.if-is_trail_class.false)
