use Prim.Native.Nat.{◌+◌}
use Rattle.codepage.specs.CodePage.{entry_at}
use Rattle.codepage_lookup.proofs.ProfileLaws.{single_no_lead}
use Rattle.engine_fastpath.proofs.RunLaws.{single_found}
use Rattle.engine_fastpath.proofs.MetLaws.{met_start, met_at, met_single}
use native.Mathlib.Omega.{arith}
use Rattle.engine_fastpath.proofs.counted.met_singles.Goals as goal

pub loop-k-init : goal.loop-k-init
loop-k-init c = (omega arith, λ classes pairs all. met_at (met_start (omega arith)) (omega arith) (omega arith))

pub loop-k-preserved : goal.loop-k-preserved
loop-k-preserved c =
    let byte = entry_at c.args.text.now (c.args.from + c.loop-k.k) in (
      omega arith,
      λ classes pairs all.
          let single = all byte (omega (arith, c.type_inv.text (c.args.from + c.loop-k.k))) in
          met_at
          (met_single _ _ _ (c.loop-k.invariant.1 classes pairs all) (entry_at c.args.tables.now.singles.now byte) (omega arith) (single_no_lead _ single) (single_found _ _ byte single c.if-singles-at.false))
          (omega arith) (omega arith),
    )
