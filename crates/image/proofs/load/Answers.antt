use mathlib.Core.Path.{sym, ◌∙◌}
use native.Mathlib.Omega.{arith}
use Rattle.image.specs.Image.{singles_at, pairs_at, index_at, blocks_at}
use Rattle.image.proofs.ImageLaws.{image_head, image_known, refused, accepted}
use Rattle.image.proofs.load.Goals as goal

pub returns-then-not-is_image : goal.returns-then-not-is_image
returns-then-not-is_image c = refused _ _ _ _ _ _ (sym c.is_image.ensures ∙ c.if-not-is_image.true)

pub sizes_of-sizes-requires : goal.sizes_of-sizes-requires
sizes_of-sizes-requires c = image_head _ _ (sym c.is_image.ensures ∙ c.if-not-is_image.false)

pub load_bytes-requires : goal.load_bytes-requires
load_bytes-requires c = omega (arith, image_known _ _ _ (sym c.is_image.ensures ∙ c.if-not-is_image.false) c.sizes_of-sizes.ensures.value)

pub load_units-requires : goal.load_units-requires
load_units-requires c =
    omega (arith, image_known _ _ _ (sym c.is_image.ensures ∙ c.if-not-is_image.false) c.sizes_of-sizes.ensures.value)

pub load_units-requires-2 : goal.load_units-requires-2
load_units-requires-2 c =
    omega (arith, image_known _ _ _ (sym c.is_image.ensures ∙ c.if-not-is_image.false) c.sizes_of-sizes.ensures.value)

pub load_bytes-requires-2 : goal.load_bytes-requires-2
load_bytes-requires-2 c =
    omega (arith, image_known _ _ _ (sym c.is_image.ensures ∙ c.if-not-is_image.false) c.sizes_of-sizes.ensures.value)

pub load_units-requires-3 : goal.load_units-requires-3
load_units-requires-3 c =
    omega (arith, image_known _ _ _ (sym c.is_image.ensures ∙ c.if-not-is_image.false) c.sizes_of-sizes.ensures.value)

pub numbers_of-requires : goal.numbers_of-requires
numbers_of-requires c =
    image_head _ _ (sym c.is_image.ensures ∙ c.if-not-is_image.false)

pub returns : goal.returns
unfolding singles_at pairs_at index_at blocks_at
returns c =
    accepted _ _ _ _ _ _ _ _ _ _ _ _ _ (sym c.is_image.ensures ∙ c.if-not-is_image.false) c.numbers_of.ensures c.sizes_of-sizes.ensures.value c.load_bytes.ensures c.load_units.ensures c.load_units-2.ensures
    c.load_bytes-2.ensures c.load_units-3.ensures
