use Rattle.engine.proofs.EncodeLaws.{encoded_settled}
use Rattle.engine.proofs.SettledLaws.{settled_more, settled_size}
use Rattle.engine.proofs.converters.UnitConverter.settled.Goals as goal

pub returns-clause-effect : goal.returns-clause-effect
returns-clause-effect c =
    encoded_settled _ _ _ _ _ _ (c.settle_high-code.ensures _ _ _ c.requires) _ (c.encoded-effect.ensures _)

pub returns-clause-more : goal.returns-clause-more
returns-clause-more c =
    let code = c.settle_high-code.ensures c.args.self.now.tables.index.now c.args.self.now.tables.blocks.now _ c.requires in
    (settled_more _ _ _ code, settled_size _ _ _ _ _ code)
