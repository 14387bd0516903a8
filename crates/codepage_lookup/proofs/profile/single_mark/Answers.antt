use Rattle.codepage_lookup.proofs.ProfileLaws.{single_class}
use native.Mathlib.Omega.{arith}
use Rattle.codepage_lookup.proofs.profile.single_mark.Goals as goal

pub returns : goal.returns
returns c = λ e. single_class c.args.class (omega arith) e
