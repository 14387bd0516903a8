use Rattle.codepage_lookup.proofs.ProfileLaws.{known_lead_bit}
use native.Mathlib.Omega.{arith}
use Rattle.codepage_lookup.proofs.known_lead.Goals as goal

pub returns : goal.returns
returns c = known_lead_bit c.args.class (omega arith) c.requires
