use mathlib.Core.Path.{ap, ◌∙◌}
use native.Mathlib.Omega.{arith}
use Rattle.codepage.specs.CodePage.{leads_below}
use Rattle.codepage_lookup.specs.declared.tables.ByteTables.{ByteTables}
use Rattle.codepage_lookup.proofs.TableLaws.{pair_room}
use Rattle.lister.proofs.records.pair_entry.Goals as goal

pub overflow_mul-result : goal.overflow_mul-result
overflow_mul-result c = omega (arith, c.block_of-block.ensures ∙ ap (λ (t : ByteTables). leads_below t.classes.now c.args.lead) c.with_leads.ensures, pair_room _ _ _ c.args.tables.now.all_pairs c.requires)

pub overflow_add-result : goal.overflow_add-result
overflow_add-result c = omega (arith, c.block_of-block.ensures ∙ ap (λ (t : ByteTables). leads_below t.classes.now c.args.lead) c.with_leads.ensures, pair_room _ _ _ c.args.tables.now.all_pairs c.requires)

pub offset_bounds-tables-block : goal.offset_bounds-tables-block
offset_bounds-tables-block c = omega (arith, c.block_of-block.ensures ∙ ap (λ (t : ByteTables). leads_below t.classes.now c.args.lead) c.with_leads.ensures, pair_room _ _ _ c.args.tables.now.all_pairs c.requires)

pub bounds-tables-block : goal.bounds-tables-block
bounds-tables-block c = omega (arith, c.block_of-block.ensures ∙ ap (λ (t : ByteTables). leads_below t.classes.now c.args.lead) c.with_leads.ensures, pair_room _ _ _ c.args.tables.now.all_pairs c.requires)
