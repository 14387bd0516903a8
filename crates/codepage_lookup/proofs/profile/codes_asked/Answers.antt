use native.Mathlib.Omega.{arith}
use Rattle.codepage_lookup.proofs.ProfileLaws.{halves_clear, below_clear}
use Rattle.codepage_lookup.proofs.profile.codes_asked.Goals as goal

pub returns-then-bound-lt55296 : goal.returns-then-bound-lt55296
returns-then-bound-lt55296 c =
    λ e. below_clear c.args.index.now c.args.blocks.now c.args.piece.now (λ k. omega (arith, c.requires.by_index_2 k, c.if-bound-lt55296.true))

pub returns : goal.returns
returns c =
    λ e. halves_clear c.args.index.now c.args.blocks.now (c.no_surrogate_codes.ensures e) c.args.piece.now
