use Rattle.engine_fastpath.proofs.RunLaws.{ran_start, ran_single, ran_pair}
use Rattle.codepage.specs.CodePage.{is_lead}
use lib.ListN.{length-set}
use native.Mathlib.Omega.{arith}
use mathlib.Core.Path.{refl, sym, ap, ◌∙◌}
use Rattle.engine_fastpath.proofs.runs.run_of_codes.Goals as goal

pub returns-then-end-i-lt3 : goal.returns-then-end-i-lt3
returns-then-end-i-lt3 c = ran_start c.requires.0 c.requires.1

pub loop-i-init : goal.loop-i-init
loop-i-init c =
    (refl, omega arith, omega arith, omega arith, c.class_of-class.ensures, ran_start c.requires.0 c.requires.1)

pub known_pair_unit-unit-requires : goal.known_pair_unit-unit-requires
known_pair_unit-unit-requires c = let lead = ap is_lead (sym c.loop-i.invariant.4) ∙ sym c.known_lead.ensures ∙ c.if-known_lead.true in record { is_lead = lead; class_value = c.class_of-next.ensures }

pub loop-i-preserved-then-known_lead : goal.loop-i-preserved-then-known_lead
loop-i-preserved-then-known_lead c =
    let lead = ap is_lead (sym c.loop-i.invariant.4) ∙ sym c.known_lead.ensures ∙ c.if-known_lead.true in (
      simp length-set c.loop-i.invariant.0,
      omega arith,
      c.loop-i.invariant.2,
      simp length-set (omega arith),
      c.class_of-after.ensures,
      ran_pair _ _ _ c.loop-i.invariant.5 c.known_pair_unit-unit.result (omega arith) (omega arith) lead (c.known_pair_unit-unit.ensures c.if-unit.false),
    )

pub loop-i-preserved : goal.loop-i-preserved
loop-i-preserved c =
    let alone = ap is_lead (sym c.loop-i.invariant.4) ∙ sym c.known_lead.ensures ∙ c.if-known_lead.false in (
      simp length-set c.loop-i.invariant.0,
      omega arith,
      c.loop-i.invariant.2,
      simp length-set (omega arith),
      c.class_of-next.ensures,
      ran_single _ _ _ c.loop-i.invariant.5 c.known_single_unit-unit.result (omega arith) (omega arith) alone (c.known_single_unit-unit.ensures c.if-unit-2.false _ c.loop-i.invariant.4),
    )
