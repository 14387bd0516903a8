use mathlib.Core.Path.{sym, ap}
use native.Mathlib.Omega.{arith}
use Rattle.engine.specs.declared.Direction.TheVariants.{Decoding, Encoding}
use Rattle.checkpoint.specs.Line.{letter, letter_value}
use Rattle.checkpoint.proofs.PlaceLaws.{byte_end, byte_none, byte_some, field_found, field_none}
use Rattle.checkpoint.proofs.reader.letter_at.Goals as goal

pub returns-then-line-at : goal.returns-then-line-at
unfolding letter
returns-then-line-at c = sym (field_none letter _ _ (byte_end letter_value _ _ c.if-line-at.true))

pub returns-in-68 : goal.returns-in-68
unfolding letter
returns-in-68 c = field_found letter _ _ Decoding _ _ (byte_some letter_value _ _ Decoding c.if-line-at.false (ap letter_value c.in-68.is)) c.tabbed.ensures.value

pub returns-in-69 : goal.returns-in-69
unfolding letter
returns-in-69 c = field_found letter _ _ Encoding _ _ (byte_some letter_value _ _ Encoding c.if-line-at.false (ap letter_value c.in-69.is)) c.tabbed-in-69.ensures.value

pub returns-in_default : goal.returns-in_default
unfolding letter
returns-in_default c = sym (field_none letter _ _ (byte_none letter_value _ _ c.if-line-at.false (grind arith)))
