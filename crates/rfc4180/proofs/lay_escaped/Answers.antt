use native.Mathlib.Omega.{arith}
use Rattle.rfc4180.proofs.CsvLaws.{quote_length, other_length, laid_quote, laid_other}
use lib.ListN.{length-set}
use Rattle.rfc4180.proofs.lay_escaped.Goals as goal

pub bounds-out-place : goal.bounds-out-place
bounds-out-place c = omega (arith, quote_length _ c.if-unit-eq-QUOTE.true)

pub bounds-out-place-then-unit-eq-QUOTE : goal.bounds-out-place-then-unit-eq-QUOTE
bounds-out-place-then-unit-eq-QUOTE c = simp length-set (omega (arith, quote_length _ c.if-unit-eq-QUOTE.true))

pub returns-then-unit-eq-QUOTE : goal.returns-then-unit-eq-QUOTE
returns-then-unit-eq-QUOTE c = laid_quote _ _ _ c.if-unit-eq-QUOTE.true (omega (arith, quote_length _ c.if-unit-eq-QUOTE.true))

pub bounds-out-place-2 : goal.bounds-out-place-2
bounds-out-place-2 c = omega (arith, other_length _ c.if-unit-eq-QUOTE.false)

pub returns : goal.returns
returns c = laid_other _ _ _ c.if-unit-eq-QUOTE.false (omega (arith, other_length _ c.if-unit-eq-QUOTE.false))
