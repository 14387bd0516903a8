use mathlib.Core.Path.{sym, ap, ◌∙◌}
use Rattle.spelling.specs.Steps.{option_of}
use Rattle.spelling.proofs.SpellLaws.{own_back, own_not_back, own_lacking}
use Rattle.spelling.proofs.Speller.unit_spelling.Goals as goal

pub returns-then-reads_back : goal.returns-then-reads_back
returns-then-reads_back c = let own = sym c.unit_alone-own.ensures ∙ c.in-Ok.is in
    sym (ap option_of (own_back _ _ _ _ _ own (sym c.reads_back.ensures ∙ c.if-reads_back.true)))

pub returns-else-reads_back : goal.returns-else-reads_back
returns-else-reads_back c = let own = sym c.unit_alone-own.ensures ∙ c.in-Ok.is in
    sym (ap option_of (own_not_back _ _ _ _ _ own (sym c.reads_back.ensures ∙ c.if-reads_back.false)))

pub returns-in-Err : goal.returns-in-Err
returns-in-Err c = sym (ap option_of (own_lacking _ _ _ _ _ (sym c.unit_alone-own.ensures ∙ c.in-Err.is)))
