-- Document 02, CR 3: the table set of a whole listing, each table cut to the size needed.
use Rattle.std.specs.Prelude.{take}
use Rattle.codepage.specs.CodePage.{CodePage, code_page}
use Rattle.codepage.specs.declared.Numbers.{Numbers}
use Rattle.codepage.specs.declared.Sizes.{Sizes}
use Rattle.listing.specs.Tables.{Tables}

-- five tables, each cut to a size, with the numbers: the table set that a whole listing gives
unfoldable pub cut_set : Numbers → Sizes → Tables → CodePage
cut_set numbers n t =
    code_page numbers
    (take n.classes t.classes)
    (take n.singles t.singles)
    (take n.pairs t.pairs)
    (take n.index t.index)
    (take n.blocks t.blocks)
