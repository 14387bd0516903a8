-- Document 01, "The table set"; docs/RULES.md, the same heading.
use Rattle.std.specs.Prelude.{Bool, true, false, not, ◌&&◌, ◌||◌, Option, Some, None, Result, Ok, Err, List, [], ◌∷◌, ◌≡◌, ℕ, suc, ◌+◌, ◌*◌, ◌/◌, ◌%◌, ◌<◌, ◌≤◌, leb, ltb, eqb, length, get_or, take}
use Rattle.codepage.specs.declared.Numbers.{Numbers}
use Rattle.codepage.specs.declared.TableSet.{TableSet}
use Rattle.codepage.specs.declared.TableRoom.{TableRoom}
use Rattle.codepage.specs.declared.Sizes.{Sizes}
use Rattle.codepage.specs.declared.Fault.{Fault}
use Rattle.codepage.specs.declared.Fault.TheVariants.{Page, ClassesSize, SinglesSize, PairsSize, IndexSize, BlocksSize, Class, Lead, Number}

-- The table set: three numbers and the five lent tables.
pub record CodePage : Type 0 where
  pub page : ℕ
  pub default_byte : ℕ
  pub default_unit : ℕ
  pub classes : List ℕ
  pub singles : List ℕ
  pub pairs : List ℕ
  pub index : List ℕ
  pub blocks : List ℕ

-- the table set of a call: its three numbers and the five lent tables
abbrev pub code_page : Numbers → List ℕ → List ℕ → List ℕ → List ℕ → List ℕ → CodePage
code_page n classes singles pairs index blocks =
    record {
      page = n.page;
      default_byte = n.default_byte;
      default_unit = n.default_unit;
      classes = classes;
      singles = singles;
      pairs = pairs;
      index = index;
      blocks = blocks;
    }

-- the table set that a caller lends
abbrev pub page_of : TableSet → CodePage
page_of t = code_page t.numbers t.classes.now t.singles.now t.pairs.now t.index.now t.blocks.now

-- the table set whose tables are the fronts of lent memory, so many elements of each
abbrev pub front_page : Numbers → Sizes → TableRoom → CodePage
front_page n sizes room =
    code_page n (take sizes.classes room.classes.now) (take sizes.singles room.singles.now) (take sizes.pairs room.pairs.now) (take sizes.index room.index.now) (take sizes.blocks room.blocks.now)

-- the first of two where a test holds, else the second
abbrev pub pick {ℓ} : {A : Type ℓ} → Bool → A → A → A
pick true a b = a
pick false a b = b

-- An entry of a table. Every place that a rule looks at lies inside a table of a good shape (`Inside`, below, and its law
-- `inside`), so the 0 is never met.
abbrev pub entry_at : List ℕ → ℕ → ℕ
entry_at table place = get_or table place 0

-- classes: 0 never, 1 single, 2 lead; plus 4 if the byte may be a second byte
unfoldable pub is_known : ℕ → Bool
is_known class = leb class 2 || leb 4 class && leb class 6

-- a byte of this class is a single
unfoldable pub is_single : ℕ → Bool
is_single class = eqb class 1 || eqb class 5

-- a byte of this class is a lead
unfoldable pub is_lead : ℕ → Bool
is_lead class = eqb class 2 || eqb class 6

-- a byte of this class may be a second byte
unfoldable pub is_trail : ℕ → Bool
is_trail class = leb 4 class

-- how many of some classes are those of leads
unfoldable pub leads : List ℕ → ℕ
leads [] = 0
leads (c ∷ cs) = pick (is_lead c) (suc (leads cs)) (leads cs)

-- the leads below a byte
unfoldable pub leads_below : List ℕ → ℕ → ℕ
leads_below classes byte = leads (take byte classes)

-- The shape is good exactly if all of this holds.
pub record GoodShape (p : CodePage) : Type 0 where
  pub page : p.page ≡ 0 → ⊥
  pub classes : length p.classes ≡ 256
  pub singles : length p.singles ≡ 256
  pub pairs : length p.pairs ≡ 256 * leads p.classes
  pub index : length p.index ≡ 256
  pub blocks : (n : ℕ) × (1 ≤ n) × (n ≤ 256) × (length p.blocks ≡ 256 * n)
  pub class : (byte : ℕ) → byte < 256 → is_known (entry_at p.classes byte) ≡ true
  pub low : (byte : ℕ) → byte < 0x80 → is_lead (entry_at p.classes byte) ≡ false
  pub number : (high : ℕ) → high < 256 → 256 * entry_at p.index high + 256 ≤ length p.blocks

-- The report: the shape is good, or its first bad place.
abbrev pub Report : Type 0
Report = Result Unit Fault

-- The first place, counted from `place`, at which an entry is bad; behind the last where none is.
unfoldable pub first_bad : (ℕ → ℕ → Bool) → ℕ → List ℕ → ℕ
first_bad bad place [] = place
first_bad bad place (x ∷ xs) = elim (bad place x) [ true ↦ place | false ↦ first_bad bad (suc place) xs ]

-- a place below an end, or none
abbrev pub place_below : ℕ → ℕ → Option ℕ
place_below end place = pick (ltb place end) (Some place) None

-- a class that no byte can have, or a lead below 80
unfoldable pub bad_class : ℕ → ℕ → Bool
bad_class byte class = not (is_known class) || ltb byte 0x80 && is_lead class

-- a number that names none of the blocks
unfoldable pub bad_number : ℕ → ℕ → ℕ → Bool
bad_number count place number = leb count number

-- what the report says of a byte whose class is bad: the class is unknown, or that of a lead below 80
unfoldable pub class_fault : List ℕ → ℕ → Report
class_fault classes byte = pick (is_known (entry_at classes byte)) (Err (Lead byte)) (Err (Class byte))

-- page, then the sizes in the order of the tables; where all of them hold, what comes then
unfoldable pub sizes_fault : CodePage → (then : Report) → Report
sizes_fault p then =
    pick (eqb p.page 0) (Err Page)
    (pick (not (eqb (length p.classes) 256)) (Err ClassesSize)
    (pick (not (eqb (length p.singles) 256)) (Err SinglesSize)
    (pick (not (eqb (length p.pairs) (256 * leads p.classes))) (Err PairsSize)
    (pick (not (eqb (length p.index) 256)) (Err IndexSize)
    (pick (not (eqb (length p.blocks % 256) 0)) (Err BlocksSize)
    (pick (not (leb 1 (length p.blocks / 256) && leb (length p.blocks / 256) 256)) (Err BlocksSize)
    then))))))

-- the first bad class or low lead, then the first index number that names none of so many blocks
unfoldable pub entries_fault : (classes index : List ℕ) → (count : ℕ) → Report
entries_fault classes index count =
    pick (ltb (first_bad bad_class 0 classes) 256) (class_fault classes (first_bad bad_class 0 classes))
    (pick (ltb (first_bad (bad_number count) 0 index) 256) (Err (Number (first_bad (bad_number count) 0 index)))
    (Ok tt))

-- The first bad place: page, then the sizes in the order of the tables, then the first bad class or low lead, then the first
-- bad index number.
unfoldable pub first_fault : CodePage → Report
first_fault p = sizes_fault p (entries_fault p.classes p.index (length p.blocks / 256))

-- whether the report found no bad place
abbrev pub is_good : Report → Bool
is_good (Ok _) = true
is_good (Err _) = false

-- What each case of the report says: all before it is good, and this is bad; of an entry's place, none below it is bad.

-- a class that a byte can have, and no lead below 80
pub record GoodClass (p : CodePage) (byte : ℕ) : Type 0 where
  pub known : is_known (entry_at p.classes byte) ≡ true
  pub not_low_lead : byte < 0x80 → is_lead (entry_at p.classes byte) ≡ false

-- a number that names a block
abbrev pub GoodNumber : CodePage → ℕ → Type 0
GoodNumber p high = 256 * entry_at p.index high + 256 ≤ length p.blocks

-- 1 to 256 blocks of 256
abbrev pub GoodBlocks : CodePage → Type 0
GoodBlocks p = (n : ℕ) × (1 ≤ n) × (n ≤ 256) × (length p.blocks ≡ 256 * n)

-- page and sizes, in the order of the tables, up to each of them
abbrev pub PageGood : CodePage → Type 0
PageGood p = p.page ≡ 0 → ⊥

-- the page and the size of classes are good: what the report says of singles' size stands on it
abbrev pub ClassesGood : CodePage → Type 0
ClassesGood p = PageGood p × (length p.classes ≡ 256)

-- the same, and the size of singles
abbrev pub SinglesGood : CodePage → Type 0
SinglesGood p = ClassesGood p × (length p.singles ≡ 256)

-- the same, and the size of pairs: 256 for each lead
abbrev pub PairsGood : CodePage → Type 0
PairsGood p = SinglesGood p × (length p.pairs ≡ 256 * leads p.classes)

-- the same, and the size of index
abbrev pub IndexGood : CodePage → Type 0
IndexGood p = PairsGood p × (length p.index ≡ 256)

-- the page and all five sizes are good: what the report says of an entry stands on it
abbrev pub SizesGood : CodePage → Type 0
SizesGood p = IndexGood p × GoodBlocks p

-- what a shape report says of a table set, case by case (docs/RULES.md, "The table set")
abbrev pub Names : CodePage → Report → Type 0
Names p (Ok _) = GoodShape p
Names p (Err Page) = p.page ≡ 0
Names p (Err ClassesSize) = PageGood p × (length p.classes ≡ 256 → ⊥)
Names p (Err SinglesSize) = ClassesGood p × (length p.singles ≡ 256 → ⊥)
Names p (Err PairsSize) = SinglesGood p × (length p.pairs ≡ 256 * leads p.classes → ⊥)
Names p (Err IndexSize) = PairsGood p × (length p.index ≡ 256 → ⊥)
Names p (Err BlocksSize) = IndexGood p × (GoodBlocks p → ⊥)
Names p (Err (Class byte)) = SizesGood p × (byte < 256) × (is_known (entry_at p.classes byte) ≡ false) × ((k : ℕ) → k < byte → GoodClass p k)
Names p (Err (Lead byte)) = SizesGood p × (byte < 0x80) × (is_lead (entry_at p.classes byte) ≡ true) × ((k : ℕ) → k < byte → GoodClass p k)
Names p (Err (Number place)) = SizesGood p × ((k : ℕ) → k < 256 → GoodClass p k) × (place < 256) × (GoodNumber p place → ⊥) × ((k : ℕ) → k < place → GoodNumber p k)
