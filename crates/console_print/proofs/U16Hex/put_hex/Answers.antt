use Rattle.console_print.proofs.PrintLaws.{hex_unit_printed}
use Rattle.console_print.proofs.U16Hex.put_hex.Goals as goal

pub returns : goal.returns
returns c = hex_unit_printed _ c.put_hex.ensures c.put_hex-2.ensures
