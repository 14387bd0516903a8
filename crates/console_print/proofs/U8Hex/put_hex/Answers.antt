use Rattle.console_print.proofs.PrintLaws.{hex_byte_printed}
use Rattle.console_print.proofs.U8Hex.put_hex.Goals as goal

pub returns : goal.returns
returns c =
    hex_byte_printed _ _ _ c.hex_digit.ensures c.hex_digit-2.ensures c.put_byte.ensures c.put_byte-2.ensures
