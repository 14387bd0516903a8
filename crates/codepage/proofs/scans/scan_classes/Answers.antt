use Rattle.codepage.proofs.MarkLaws.{MarkedHalves, halves_more, halves_whole, count_more, mark_le}
use Rattle.codepage.specs.CodePage.{bad_class, leads_below, is_lead}
use native.Mathlib.Omega.{arith}
use mathlib.Core.Path.{◌≡◌, subst}
use Prim.Native.Nat.{ℕ, ◌+◌}
use Rattle.codepage.proofs.scans.scan_classes.Goals as goal

pub loop-i-preserved : goal.loop-i-preserved
loop-i-preserved c =
    let m = mark_le (is_lead _) _ c.lead_mark-leads.ensures in (
      omega (arith, m),
      halves_more bad_class c.args.classes.now c.loop-i.i c.loop-i.mark _ _ (omega arith) c.loop-i.invariant.1 (c.low_mark.ensures c.loop-i.i (omega arith)) (c.high_mark.ensures (128 + c.loop-i.i) (omega arith)),
      count_more c.args.classes.now (128 + c.loop-i.i) _ _ c.loop-i.leads _ (omega arith) (omega arith) c.loop-i.invariant.2 c.lead_mark-leads.ensures,
    )

pub returns : goal.returns
returns c = let e : c.loop-i.i ≡ 128 = omega arith in record { marked = halves_whole bad_class c.args.classes.now c.loop-i.mark (subst (λ (k : ℕ). MarkedHalves bad_class c.args.classes.now k c.loop-i.mark) e c.loop-i.invariant.1); classes_value = subst (λ (k : ℕ). leads_below c.args.classes.now (128 + k) ≡ leads_below c.args.classes.now 128 + c.loop-i.leads) e c.loop-i.invariant.2 }
