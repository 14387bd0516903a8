use Rattle.codepage_lookup.proofs.WordLaws.{word_eight}
use mathlib.Core.Path.{sym}
use native.Mathlib.Omega.{arith}
use Rattle.codepage_lookup.proofs.words.word_at.Goals as goal

pub returns : goal.returns
returns c =
    record { bytes = λ k. omega (arith, c.shared_slice_known-8-1.given k); value = sym (word_eight c.args.piece.now c.args.i) }
