use Rattle.tillbox_layout.proofs.FileLaws as laws
use Rattle.tillbox_layout.proofs.size_of.Goals as goal

pub returns-then-size-lt0 : goal.returns-then-size-lt0
returns-then-size-lt0 c = laws.below_zero c.args.size (record { sfits = c.well_formed.0 }) c.if-size-lt0.true

pub returns : goal.returns
returns c = laws.told c.args.size (record { sfits = c.well_formed.0 }) c.if-size-lt0.false
