use mathlib.Core.Path.{sym, ap, ◌∙◌}
use Rattle.spelling.specs.Spelling.{is_character}
use Rattle.spelling.proofs.SpellLaws.{back_single, back_no_lead, back_parted, back_pair}
use Rattle.spelling.proofs.Speller.reads_back.Goals as goal

pub returns-then-code-le255 : goal.returns-then-code-le255
returns-then-code-le255 c = c.is_character.ensures ∙ ap (is_character _) c.byte_alone.ensures ∙ sym (back_single _ _ _ _ _ c.if-code-le255.true)

pub returns-then-not-is_lead : goal.returns-then-not-is_lead
returns-then-not-is_lead c = sym (back_no_lead _ _ _ _ _ c.if-code-le255.false (sym c.is_lead.ensures ∙ c.if-not-is_lead.true))

pub returns-then-settled-eq0 : goal.returns-then-settled-eq0
returns-then-settled-eq0 c =
    let lead = sym c.is_lead.ensures ∙ c.if-not-is_lead.false in
    sym (back_parted _ c.args.self.now.bytes.tables.singles.now _ _ _ c.if-code-le255.false lead _ c.settle-settled.ensures c.if-settled-eq0.true)

pub returns : goal.returns
returns c =
    let lead = sym c.is_lead.ensures ∙ c.if-not-is_lead.false in
    c.is_character-2.ensures
    ∙ sym (back_pair _ c.args.self.now.bytes.tables.singles.now _ _ _ c.if-code-le255.false lead _ c.settle-settled.ensures c.if-settled-eq0.false)
