use Rattle.spelling.proofs.SameLaws.{plain_passed}
use Rattle.spelling.proofs.Speller.is_plain.Goals as goal

pub returns : goal.returns
returns c =
    let below = c.bytes_below_80.ensures c.if-not-bytes_below_80.false in
    let bytes = c.keeps_plain.ensures c.if-not-keeps_plain.false in
    λ e. plain_passed _ _ _ _ _ _ below bytes (c.keeps_plain-2.ensures e)
