use mathlib.Core.List.{[]}
use mathlib.Core.Path.{◌≡◌, ap, ◌∙◌}
use Prim.Native.Nat.{ℕ, ◌+◌, ◌-◌}
use native.Mathlib.Omega.{arith}
use Rattle.codepage.specs.Reading.{decoder}
use Rattle.charindex.specs.Index.{codes_from, code_number}
use Rattle.charindex.proofs.FindLaws.{after_found, after_next, after_none, size_inside}
use Rattle.charindex.proofs.code_after.Goals as goal

pub loop-init : goal.loop-init
loop-init c =
    let all : c.args.skipped - 0 ≡ c.args.skipped = omega arith in
    (omega arith, λ singles pairs. ap (λ (n : ℕ). code_number n (codes_from (decoder c.args.classes.now singles pairs) c.args.journal.now c.args.from)) all)

pub loop-preserved : goal.loop-preserved
loop-preserved c =
    let left : c.args.skipped - (c.loop.counter + 1) ≡ c.args.skipped - c.loop.counter - 1 = omega arith in (
      let inside = size_inside (decoder _ [] []) _ _ _ (c.code_size-place.ensures [] []) in omega arith,
      λ singles pairs. ap (λ (n : ℕ). code_number n (codes_from (decoder c.args.classes.now singles pairs) c.args.journal.now (c.loop.place + c.code_size-place.result))) left
          ∙ after_next _ _ _ _ _ _ (c.loop.invariant.1 singles pairs) _ (c.code_size-place.ensures singles pairs) (omega arith),
    )

pub overflow_add-place : goal.overflow_add-place
overflow_add-place c = let inside = size_inside (decoder _ [] []) _ _ _ (c.code_size-place.ensures [] []) in omega arith

pub returns-then-journal-place : goal.returns-then-journal-place
returns-then-journal-place c = λ singles pairs. after_none _ _ _ _ _ _ (c.loop.invariant.1 singles pairs) (omega arith)

pub returns-then-journal-place-2 : goal.returns-then-journal-place-2
returns-then-journal-place-2 c = λ singles pairs. after_none _ _ _ _ _ _ (c.loop.invariant.1 singles pairs) (omega arith)

pub returns : goal.returns
returns c = λ singles pairs. after_found _ _ _ _ _ _ (c.loop.invariant.1 singles pairs) _ (c.code_size-length.ensures singles pairs) (omega arith)
