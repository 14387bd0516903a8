use Rattle.codepage.proofs.MarkLaws.{count_mark, mark_le}
use Rattle.codepage.specs.CodePage.{leads, leads_below, is_lead}
use native.Mathlib.Omega.{arith}
use lib.ListN.{take}
use mathlib.Core.Path.{◌≡◌, refl, ◌∙◌, ap}
use Prim.Native.Nat.{ℕ}
use Rattle.codepage.proofs.scans.leads_below.Goals as goal

pub loop-i-init : goal.loop-i-init
unfolding leads
loop-i-init c = (omega arith, refl)

pub loop-i-preserved : goal.loop-i-preserved
loop-i-preserved c =
    let m = mark_le (is_lead _) _ c.lead_mark.ensures in (omega (arith, m), count_mark c.args.classes.now c.loop-i.i c.loop-i.count _ c.loop-i.invariant.1 (omega arith) c.lead_mark.ensures)

pub returns : goal.returns
unfolding leads_below
returns c = let e : c.loop-i.i ≡ c.args.byte = omega arith in
    c.loop-i.invariant.1 ∙ ap (λ (k : ℕ). leads (take k c.args.classes.now)) e
