use Rattle.engine.proofs.DecodeLaws.{decoded_one}
use Rattle.engine.proofs.converters.ByteConverter.alone.Goals as goal

pub returns : goal.returns
returns c = decoded_one _ _ c.args.self.now.tables.pairs.now _ _ _ _ _ c.byte_alone-code.ensures c.decoded.ensures
