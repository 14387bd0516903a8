use Rattle.codepage_lookup.proofs.ProfileLaws.{single_no_lead, plain_byte}
use Rattle.codepage_lookup.proofs.profile.plain_bytes.Goals as goal

pub returns : goal.returns
returns c = λ e byte h. let single = c.singles_below.ensures c.if-not-singles_below.false byte h in
    (single_no_lead _ single, plain_byte c.args.classes.now c.args.singles.now byte h single (c.counts_up.ensures e byte h))
