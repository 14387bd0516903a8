use Rattle.codepage_lookup.proofs.ProfileLaws.{found_single, clear_page}
use Rattle.codepage_lookup.proofs.profile.mixed_page.Goals as goal

pub returns : goal.returns
returns c = let plain = c.plain_bytes.ensures c.if-not-plain_bytes.false in record { byte_value = λ e. plain; clear_page = λ e. clear_page c.args.classes.now c.args.singles.now (λ byte h. found_single c.args.classes.now c.args.singles.now byte byte (plain byte h).1) (c.clear_from_80.ensures e) }
