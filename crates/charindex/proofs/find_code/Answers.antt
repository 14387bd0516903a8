use native.Mathlib.Omega.{arith}
use Rattle.charindex.proofs.FindLaws.{last_found, last_none, start_within, start_inside, no_block, in_block}
use Rattle.charindex.proofs.find_code.Goals as goal

pub returns-in_err-block : goal.returns-in_err-block
returns-in_err-block c =
    rw c.from_residual.ensures (λ singles pairs. no_block _ _ _ _ (last_none _ _ _ _ c.blocks_of.ensures c.in_err-block.ensures))

pub offset_bounds-entries-block : goal.offset_bounds-entries-block
offset_bounds-entries-block c = let last = last_found _ _ _ _ _ c.blocks_of.ensures c.in_ok-block.ensures in omega (arith, last.inside)

pub bounds-entries-block : goal.bounds-entries-block
bounds-entries-block c = let last = last_found _ _ _ _ _ c.blocks_of.ensures c.in_ok-block.ensures in omega (arith, last.inside)

pub start_of-start-requires : goal.start_of-start-requires
start_of-start-requires c = let last = last_found _ _ _ _ _ c.blocks_of.ensures c.in_ok-block.ensures in omega (arith, last.inside)

pub overflow_sub-n : goal.overflow_sub-n
overflow_sub-n c =
    let last = last_found _ _ _ _ _ c.blocks_of.ensures c.in_ok-block.ensures in
    start_within _ _ _ _ c.start_of-start.ensures last.counts

pub code_after-requires : goal.code_after-requires
code_after-requires c =
    let last = last_found _ _ _ _ _ c.blocks_of.ensures c.in_ok-block.ensures in
    (c.requires.0, start_inside _ _ _ _ c.start_of-start.ensures last.inside, c.requires.1)

pub returns : goal.returns
returns c =
    let last = last_found _ _ _ _ _ c.blocks_of.ensures c.in_ok-block.ensures in
    λ singles pairs. in_block _ _ _ _ _ last _ _ c.start_of-start.ensures (c.code_after.ensures singles pairs)
