use native.Mathlib.Omega.{arith}
use lib.ListN.{length}
use Rattle.inplace.proofs.ChunkLaws.{encodes_small, chunk_small, piece_copied, chunk_from}
use Rattle.inplace.proofs.take_chunk.Goals as goal

pub add_chunk-requires : goal.add_chunk-requires
add_chunk-requires c =
    let small =
    chunk_small (length c.args.chunk.now) _ (encodes_small c.args.v.now.tables.index.now c.args.v.now.tables.blocks.now c.args.v.now.policy c.args.v.now.default) c.args.s c.args.buffer.now _ _ _ _
    (omega (arith, c.requires)) (omega (arith, c.requires)) (piece_copied c.args.s c.args.buffer.now c.args.chunk.now _ _ c.to_units-count.ensures.laid_over) c.encode_loop-made.ensures.value in
    (omega (arith, small.0, c.well_formed), omega (arith, small.1, c.well_formed))

pub returns : goal.returns
returns c = λ before g.
    chunk_from c.args.s c.args.buffer.now c.args.chunk.now _ _ c.to_units-count.ensures.laid_over _
    (encodes_small c.args.v.now.tables.index.now c.args.v.now.tables.blocks.now c.args.v.now.policy c.args.v.now.default) before _ _ _ g (omega (arith, c.requires)) (omega (arith, c.requires)) c.encode_loop-made.ensures.value c.encode_loop-made.ensures.out_after c.add_chunk.ensures
