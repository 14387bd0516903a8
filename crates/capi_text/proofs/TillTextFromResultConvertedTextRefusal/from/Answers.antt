use Rattle.capi_text.specs.Texts.{text_out}
use Rattle.capi_text.proofs.TillTextFromResultConvertedTextRefusal.from.Goals as goal

pub returns-in-Ok : goal.returns-in-Ok
unfolding text_out
returns-in-Ok c = rw (c.in-Ok.is, ← c.number-number.ensures)

pub returns-in-Err : goal.returns-in-Err
unfolding text_out
returns-in-Err c = rw (c.in-Err.is, ← c.number-refusal.ensures)
