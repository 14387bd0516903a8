use Rattle.fields.specs.Fields.{part_of}
use Rattle.fields.proofs.field.Goals as goal

pub returns-in-Buffer : goal.returns-in-Buffer
unfolding part_of
returns-in-Buffer c = rw c.in-Buffer.is (record { begins = c.first.ensures.0; units = c.first.ensures.1 })

pub returns-in-Block : goal.returns-in-Block
unfolding part_of
returns-in-Block c = rw c.in-Block.is (record { begins = c.first-in-Block.ensures.0; units = c.first-in-Block.ensures.1 })
