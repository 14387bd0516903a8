use Rattle.capi.specs.Interface.{no_run}
use mathlib.Core.Path.{refl}
use Rattle.capi.proofs.no_run.Goals as goal

pub returns : goal.returns
unfolding no_run
returns c = refl
