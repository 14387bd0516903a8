use Rattle.codepage_lookup.proofs.LeadLaws.{block_at}
use Rattle.codepage_lookup.proofs.ProfileLaws.{settled_second, settled_high, settled_low}
use Rattle.codepage.specs.CodePage.{entry_at}
use Rattle.codepage.specs.Reading.{lookup}
use mathlib.Core.Path.{sym, ap, ◌∙◌}
use Prim.Native.Nat.{ℕ, ◌+◌, ◌*◌}
use native.Mathlib.Omega.{arith}
use Rattle.codepage_lookup.proofs.settle.Goals as goal

pub pair_entry-requires : goal.pair_entry-requires
pair_entry-requires c =
    omega (arith, c.requires.classes_len.2, c.block_counted-block.ensures ∙ block_at _ _ c.requires.classes_len.0 c.requires.classes_len.1 _ c.requires.leads_at)

pub returns-then-second : goal.returns-then-second
returns-then-second c =
    let trail = sym c.is_trail_class-second.ensures ∙ c.if-second.true in
    let block = c.block_counted-block.ensures ∙ block_at _ _ c.requires.classes_len.0 c.requires.classes_len.1 _ c.requires.leads_at in
    λ singles. settled_second _ singles _ _ _ trail (c.found-means.ensures ∙ ap (lookup _) (c.pair_entry.ensures ∙ ap (λ (x : ℕ). entry_at c.args.pairs.now (256 * x + c.args.byte)) block))

pub returns-then-byte-lt128 : goal.returns-then-byte-lt128
returns-then-byte-lt128 c = let trail = sym c.is_trail_class-second.ensures ∙ c.if-second.false in
    λ singles. settled_low _ singles _ _ _ c.requires.classes_len.1 trail (omega (arith, c.if-byte-lt128.true))

pub returns : goal.returns
returns c = let trail = sym c.is_trail_class-second.ensures ∙ c.if-second.false in
    λ singles. settled_high _ singles _ _ _ trail (omega (arith, c.if-byte-lt128.false))
