use Rattle.findings.proofs.finding_at.Goals as goal

pub returns : goal.returns
returns c = rw (c.kind_number-number.ensures, c.second_byte-second.ensures, c.digit_for-digit.ensures)
