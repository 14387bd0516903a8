use Rattle.linebreak.proofs.RunLaws.{last_even, last_odd, last_alone}
use Rattle.linebreak.proofs.last_place.Goals as goal

pub returns-then-to-begin-eq0 : goal.returns-then-to-begin-eq0
returns-then-to-begin-eq0 c = last_even _ c.args.text.now c.requires.0 _ c.requires.2 _ _ c.leads_before-begin.ensures c.if-to-begin-eq0.true

pub returns-then-code_size-eq2 : goal.returns-then-code_size-eq2
returns-then-code_size-eq2 c =
    last_odd _ c.args.text.now c.requires.0 _ c.requires.2 _ _ c.leads_before-begin.ensures _ c.if-to-begin-eq0.false c.code_size.ensures c.if-code_size-eq2.true

pub returns : goal.returns
returns c =
    last_alone _ c.args.text.now c.requires.0 _ c.requires.2 _ _ c.leads_before-begin.ensures _ c.if-to-begin-eq0.false c.code_size.ensures c.if-code_size-eq2.false
