use native.Mathlib.Omega.{arith}
use Rattle.rfc4180.proofs.CsvLaws.{laid_copied}
use Rattle.rfc4180.proofs.lay.Goals as goal

pub returns : goal.returns
returns c = laid_copied _ c.args.place _ c.args.units.now _ (omega arith) c.copy_from_slice.ensures.after
