use mathlib.Core.Path.{sym, ap}
use Prim.Native.Nat.{ℕ}
use native.Mathlib.Omega.{arith}
use native.Mathlib.Nat.{add-zero}
use lib.ListN.{drop, length-drop}
use Rattle.checkpoint.specs.Line.{same_bytes}
use Rattle.checkpoint.proofs.PlaceLaws.{same_false, word_turn, word_differs, word_end}
use Rattle.checkpoint.proofs.reader.rest_is.Goals as goal

pub returns-then-line-at : goal.returns-then-line-at
returns-then-line-at c = sym (same_false (drop c.args.at c.args.line.now) c.args.word.now (λ q. c.if-line-at.true (omega (arith, q, length-drop c.args.at c.args.line.now))))

pub loop-i-init : goal.loop-i-init
loop-i-init c = ap (λ (n : ℕ). same_bytes (drop n c.args.line.now) c.args.word.now) (sym (add-zero c.args.at))

pub returns-then-line-at-2 : goal.returns-then-line-at-2
returns-then-line-at-2 c = sym (word_differs _ _ _ c.loop-i.i _ c.loop-i.invariant (omega arith) (omega arith) c.if-line-at-2.true)

pub loop-i-preserved : goal.loop-i-preserved
loop-i-preserved c = word_turn _ _ _ c.loop-i.i _ c.loop-i.invariant (omega arith) (omega arith) c.if-line-at-2.false

pub returns : goal.returns
returns c = sym (word_end _ _ _ c.loop-i.i _ c.loop-i.invariant (omega arith) (omega arith))
