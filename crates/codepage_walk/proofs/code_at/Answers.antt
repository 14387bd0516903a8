use mathlib.Core.Path.{sym, ◌∙◌}
use Prim.Native.Nat.{◌+◌}
use native.Mathlib.Omega.{arith}
use Rattle.codepage.specs.CodePage.{entry_at}
use Rattle.codepage.specs.Reading.{decoder}
use Rattle.codepage.proofs.ReadingLaws.{more_le}
use Rattle.codepage_walk.proofs.WalkLaws.{read_single, read_last, read_settled}
use Rattle.codepage_walk.proofs.code_at.Goals as goal

pub returns-then-text-place-eq1 : goal.returns-then-text-place-eq1
returns-then-text-place-eq1 c =
    read_last _ _ _ c.args.text.now c.args.place _ (omega arith) c.byte_alone.ensures

pub returns-then-not-is_lead : goal.returns-then-not-is_lead
returns-then-not-is_lead c =
    read_single _ _ _ c.args.text.now c.args.place _ (omega arith) (sym c.is_lead.ensures ∙ c.if-not-is_lead.true) c.byte_alone-then-not-is_lead.ensures

pub overflow_add-result : goal.overflow_add-result
overflow_add-result c =
    let reader = decoder c.args.classes.now c.args.singles.now c.args.pairs.now in
    let lead = entry_at c.args.text.now c.args.place in
    omega (arith, (c.settle-settled.ensures c.args.singles.now).more, more_le reader lead (entry_at c.args.text.now (c.args.place + 1)))

pub returns : goal.returns
returns c =
    let lead = sym c.is_lead.ensures ∙ c.if-not-is_lead.false in
    read_settled _ _ _ c.args.text.now c.args.place _ (omega arith) lead (c.settle-settled.ensures c.args.singles.now)
