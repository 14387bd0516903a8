use Rattle.engine.proofs.EncodeLaws.{encoded_one}
use Rattle.engine.proofs.converters.UnitConverter.alone.Goals as goal

pub returns : goal.returns
returns c = encoded_one _ _ _ _ _ _ _ c.unit_alone-code.ensures (c.encoded.ensures _)
