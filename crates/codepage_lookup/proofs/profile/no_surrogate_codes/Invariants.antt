use Rattle.codepage.specs.CodePage.{entry_at}
use Prim.Native.Nat.{ℕ, ◌<◌, ◌≤◌, ◌-◌}
use Rattle.codepage_lookup.proofs.ProfileLaws.{Empty}
use Rattle.codepage_lookup.proofs.profile.no_surrogate_codes.Given as goal

abbrev pub invariant-loop-half : goal.invariant-loop-half
invariant-loop-half l = (0xD9 ≤ l.half) × (l.half ≤ 0xE0) × ((h : ℕ) → 0xD8 ≤ h → h < l.half → Empty l.blocks (entry_at l.index h))
