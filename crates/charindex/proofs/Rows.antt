-- The worked calls hold.
use mathlib.Core.Path.{refl}
use Rattle.codepage_walk.specs.Walk.{placed_from, placed}
use Rattle.convert.proofs.Computing.{shape_rules, reading_rules}
use Rattle.charindex.specs.Index.{entry_of, starts_before, is_second, block_entry, entries_from, start_after, new_entries, append_of, last_block, code_number, code_after, code_in_block, find_of}
use Rattle.charindex.specs.Calls.{counts_within, append_refusal, appending_of, find_refusal, finding_of}
use Rattle.charindex.specs.Examples.{across_blocks, three_blocks, append_rows, find_rows, AllAppended, AllFound}

-- what a worked example computes with, named once
unfoldable pub index_rules : Type 0
unfolding shape_rules reading_rules placed_from placed entry_of starts_before is_second block_entry entries_from start_after new_entries append_of last_block code_number code_after code_in_block find_of counts_within append_refusal appending_of find_refusal finding_of across_blocks three_blocks
index_rules = Unit {0}

-- THE ROWS of appending.
pub appends_hold : AllAppended append_rows
unfolding index_rules
appends_hold =
    ((refl, refl), ((refl, refl), ((refl, refl), ((refl, refl), ((refl, refl), ((refl, refl), ((refl, refl), ((refl, refl), ((refl, refl), ((refl, refl), tt))))))))))

-- THE ROWS of finding.
pub finds_hold : AllFound find_rows
unfolding index_rules
finds_hold = (refl, (refl, (refl, (refl, (refl, (refl, (refl, (refl, (refl, (refl, (refl, (refl, (refl, (refl, (refl, tt)))))))))))))))
