use mathlib.Core.Path.{refl}
use Rattle.std.proofs.lemmas.Result.{err_from_is_err_and}
use Rattle.charindex.proofs.CallLaws.{on_wrong, on_start, start_found}
use Rattle.charindex.proofs.append_entries.Goals as goal

pub returns-in_err-start : goal.returns-in_err-start
returns-in_err-start c =
    let p = err_from_is_err_and c.from_residual.result c.from_residual.ensures.1 in
    rw (p.1, p.2) (λ singles pairs. on_wrong _ _ _ _ _ refl _ c.blocks_of-first.ensures _ c.in_err-start.ensures)

pub write_entries-requires-clause-classes_len : goal.write_entries-requires-clause-classes_len
write_entries-requires-clause-classes_len c =
    let s = start_found _ _ _ _ _ c.requires.1 c.blocks_of-first.ensures c.in_ok-start.ensures in
    (c.requires.0, record { place = s.place; count = s.count }, s.behind, c.requires.2)

pub returns : goal.returns
returns c =
    λ singles pairs. on_start _ _ _ _ _ c.blocks_of.ensures _ c.blocks_of-first.ensures _ _ c.in_ok-start.ensures (c.write_entries.ensures singles pairs)
