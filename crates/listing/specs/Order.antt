-- Document 02, CR 3: the order of the records, and what has been read of a listing.
use Rattle.std.specs.Prelude.{Bool, false, not, ◌&&◌, ◌||◌, ℕ, ◌+◌, ◌-◌, ◌*◌, ◌/◌, ◌%◌, leb, ltb, eqb}
use Rattle.codepage.specs.CodePage.{pick}
use Rattle.listing.specs.declared.Record.{Record}
use Rattle.listing.specs.declared.Record.TheVariants.{Page, Defaults, Single, Lead, Trail, Pair, Code, NoRecord}
use Rattle.listing.specs.declared.Letter.{Letter}
use Rattle.listing.specs.declared.Letter.TheVariants.{Start, P, D, S, L, T, M, W}
use Rattle.listing.specs.declared.Progress.{Progress}
use Rattle.codepage.specs.declared.Sizes.{Sizes}
use Rattle.listing.specs.declared.Half.{Half}
use Rattle.listing.specs.Sets.{in_half, add_to_half, count_half, empty_half, in_bytes, add_to_bytes, empty_bytes}

-- the order of the letters
abbrev pub rank : Letter → ℕ
rank Start = 0
rank P = 1
rank D = 2
rank S = 3
rank L = 4
rank T = 5
rank M = 6
rank W = 7

-- Behind `D`: a later letter, or the same one with a larger key.
unfoldable pub follows : Progress → Letter → (key : ℕ) → Bool
follows s letter key =
    leb 2 (rank s.letter)
    && (ltb (rank s.letter) (rank letter) || eqb (rank s.letter) (rank letter) && ltb s.key key)

-- a lead byte that is listed
unfoldable pub is_listed_lead : Half → (byte : ℕ) → Bool
is_listed_lead leads byte = leb 0x80 byte && in_half leads (byte - 0x80)

-- Whether a record may come next: 22 is decided by the line and by what has been read alone.
abbrev pub accepts : Progress → Record → Bool
accepts s (Page page) = eqb (rank s.letter) 0
accepts s (Defaults byte unit) = eqb (rank s.letter) 1
accepts s (Single byte unit) = follows s S byte
accepts s (Lead byte) = follows s L byte && leb 0x80 byte && not (in_bytes s.singles byte)
accepts s (Trail byte) = follows s T byte
accepts s (Pair code unit) = follows s M code && is_listed_lead s.leads (code / 256) && in_bytes s.trails (code % 256)
accepts s (Code unit code) = follows s W unit
accepts s NoRecord = false

-- whether a unit is the first of its high half among the `W` records
unfoldable pub is_new_high : Progress → (unit : ℕ) → Bool
is_new_high s unit = not (eqb (rank s.letter) 7 && eqb (s.key / 256) (unit / 256))

-- The block of a `W` record: that of its high half. New blocks are numbered from 1; the 256th is the empty one, 0.
unfoldable pub code_block : Progress → (unit : ℕ) → ℕ
code_block s unit = pick (is_new_high s unit) ((s.block + 1) % 256) s.block

-- a lead byte listed; a byte below 80 is none
unfoldable pub with_lead : Half → (byte : ℕ) → Half
with_lead leads byte = pick (ltb byte 0x80) leads (add_to_half leads (byte - 0x80))

-- nothing but a letter and a page
abbrev pub only_page : Letter → (page : ℕ) → Progress
only_page letter page =
    record {
      letter = letter;
      key = 0;
      singles = empty_bytes;
      leads = empty_half;
      trails = empty_bytes;
      block = 0;
      numbers = record { page = page; default_byte = 0; default_unit = 0 };
    }

-- before the first line
abbrev pub nothing_read : Progress
nothing_read = only_page Start 0

-- behind `P`: all sets are empty again
abbrev pub after_page : (page : ℕ) → Progress
after_page page = only_page P page

-- What has been read once a record is accepted.
abbrev pub after_record : Progress → Record → Progress
after_record s (Page page) = after_page page
after_record s (Defaults byte unit) =
    record {
      letter = D;
      key = 0;
      singles = s.singles;
      leads = s.leads;
      trails = s.trails;
      block = s.block;
      numbers = record { page = s.numbers.page; default_byte = byte; default_unit = unit };
    }
after_record s (Single byte unit) =
    record {
      letter = S;
      key = byte;
      singles = add_to_bytes s.singles byte;
      leads = s.leads;
      trails = s.trails;
      block = s.block;
      numbers = s.numbers;
    }
after_record s (Lead byte) =
    record {
      letter = L;
      key = byte;
      singles = s.singles;
      leads = with_lead s.leads byte;
      trails = s.trails;
      block = s.block;
      numbers = s.numbers;
    }
after_record s (Trail byte) =
    record {
      letter = T;
      key = byte;
      singles = s.singles;
      leads = s.leads;
      trails = add_to_bytes s.trails byte;
      block = s.block;
      numbers = s.numbers;
    }
after_record s (Pair code unit) =
    record {
      letter = M;
      key = code;
      singles = s.singles;
      leads = s.leads;
      trails = s.trails;
      block = s.block;
      numbers = s.numbers;
    }
after_record s (Code unit code) =
    record {
      letter = W;
      key = unit;
      singles = s.singles;
      leads = s.leads;
      trails = s.trails;
      block = code_block s unit;
      numbers = s.numbers;
    }
after_record s NoRecord = s

-- how many blocks: one empty block, and one for each high half, but for a 256th
unfoldable pub blocks_listed : Progress → ℕ
blocks_listed s = pick (eqb (rank s.letter) 7 && eqb s.block 0) 256 (s.block + 1)

-- the sizes that the tables need, at the place reached
unfoldable pub sizes_listed : Progress → Sizes
sizes_listed s =
    record {
      classes = 256;
      singles = 256;
      pairs = 256 * count_half s.leads;
      index = 256;
      blocks = 256 * blocks_listed s;
    }

-- 0 never, 1 single, 2 lead, as listed
abbrev pub kind_of : Progress → (byte : ℕ) → ℕ
kind_of s byte = pick (is_listed_lead s.leads byte) 2 (pick (in_bytes s.singles byte) 1 0)

-- the class of a byte, as listed: plus 4 if it may be second
abbrev pub class_of : Progress → (byte : ℕ) → ℕ
class_of s byte = pick (in_bytes s.trails byte) (4 + kind_of s byte) (kind_of s byte)
