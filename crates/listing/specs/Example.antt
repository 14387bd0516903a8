-- Document 02, CR 3: the whole example.
use Rattle.std.specs.Prelude.{List, [], ◌∷◌, ℕ, replicate, set}
use Rattle.codepage.specs.declared.Numbers.{Numbers}
use Rattle.codepage.specs.declared.Sizes.{Sizes}
use Rattle.listing.specs.declared.Refusal.{Refusal}
use Rattle.std.specs.declared.result.Result.{Result}
use Rattle.std.specs.declared.result.Result.TheVariants.{Ok}
use Rattle.listing.specs.Tables.{Tables, tables}

-- `P>9`, `D>3F>30FB`, `S>00>0000`, `L>81`, `T>40`, `M>8140>3000`, `W>0000>0000`, `W>3000>8140`
unfoldable pub example_lines : List (List ℕ)
example_lines =
    (0x50 ∷ 9 ∷ 0x39 ∷ 10 ∷ [])
    ∷ (0x44 ∷ 9 ∷ 0x33 ∷ 0x46 ∷ 9 ∷ 0x33 ∷ 0x30 ∷ 0x46 ∷ 0x42 ∷ 10 ∷ [])
    ∷ (0x53 ∷ 9 ∷ 0x30 ∷ 0x30 ∷ 9 ∷ 0x30 ∷ 0x30 ∷ 0x30 ∷ 0x30 ∷ 10 ∷ [])
    ∷ (0x4C ∷ 9 ∷ 0x38 ∷ 0x31 ∷ 10 ∷ [])
    ∷ (0x54 ∷ 9 ∷ 0x34 ∷ 0x30 ∷ 10 ∷ [])
    ∷ (0x4D ∷ 9 ∷ 0x38 ∷ 0x31 ∷ 0x34 ∷ 0x30 ∷ 9 ∷ 0x33 ∷ 0x30 ∷ 0x30 ∷ 0x30 ∷ 10 ∷ [])
    ∷ (0x57 ∷ 9 ∷ 0x30 ∷ 0x30 ∷ 0x30 ∷ 0x30 ∷ 9 ∷ 0x30 ∷ 0x30 ∷ 0x30 ∷ 0x30 ∷ 10 ∷ [])
    ∷ (0x57 ∷ 9 ∷ 0x33 ∷ 0x30 ∷ 0x30 ∷ 0x30 ∷ 9 ∷ 0x38 ∷ 0x31 ∷ 0x34 ∷ 0x30 ∷ 10 ∷ [])
    ∷ []

-- tables just large enough, with anything in them
unfoldable pub example_room : Tables
example_room = tables (replicate 256 7) (replicate 256 7) (replicate 256 7) (replicate 256 7) (replicate 768 7)

-- what they hold after it: 3 blocks, index 00 is 1, index 30 is 2
unfoldable pub example_tables : Tables
example_tables =
    tables
    (set (set (set (replicate 256 0) 0 1) 0x81 2) 0x40 4)
    (set (replicate 256 0xFFFF) 0 0)
    (set (replicate 256 0xFFFF) 0x40 0x3000)
    (set (set (replicate 256 0) 0 1) 0x30 2)
    (set (set (replicate 768 0xFFFF) 256 0) 512 0x8140)

-- what its end answers: page, defaults and the sizes needed
unfoldable pub example_end : Result (Numbers × Sizes) Refusal
example_end = Ok ((record { page = 9; default_byte = 0x3F; default_unit = 0x30FB }), (record { classes = 256; singles = 256; pairs = 256; index = 256; blocks = 768 }))
