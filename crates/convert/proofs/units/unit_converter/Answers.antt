use native.Mathlib.Omega.{arith}
use Rattle.convert.proofs.CallLaws.{index_high}
use Rattle.convert.proofs.units.unit_converter.Goals as goal

pub invariant_of-units : goal.invariant_of-units
invariant_of-units c =
    record { all_index = c.requires.good.index; by_index = λ high. index_high _ _ high c.requires.good.index c.requires.good.number (omega (arith, c.requires.good.blocks)) }
