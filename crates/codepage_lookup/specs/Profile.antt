-- Definitions that the contracts of looking up and of the page's profile cite, and that no promise does.
use Rattle.std.specs.Prelude.{Bool, true, false, ◌||◌, List, ◌≡◌, ℕ, zero, suc, ◌+◌, ◌-◌, ◌*◌, ◌/◌, ◌%◌, ◌^◌, ◌<◌, eqb, ltb, length}
use Rattle.std.specs.Int.Bits.{bit_and}
use Rattle.std.specs.Int.Count.{ones, count_leading_zeros, count_trailing_zeros}
use Rattle.codepage.specs.CodePage.{pick, entry_at, is_single, is_lead, is_known}
use Rattle.codepage.specs.Marks.{mark_of, NoLowLead}
use Rattle.codepage.specs.Reading.{byte_alone, is_surrogate, Code}
use Rattle.std.specs.Prelude.{Ok}
use Rattle.codepage_lookup.specs.declared.SettledCode.{SettledCode}
use Rattle.codepage_lookup.specs.declared.profile.Leads.{Leads}

-- the leads among so many bytes from one on, as bits: the first is the lowest
unfoldable pub lead_bits : (classes : List ℕ) (from count : ℕ) → ℕ
lead_bits classes from zero = 0
lead_bits classes from (suc count) = mark_of (is_lead (entry_at classes from)) + 2 * lead_bits classes (suc from) count

-- the leads of a page: those of 80 to BF, and those of C0 to FF
abbrev pub leads_as : List ℕ → Leads
leads_as classes = record { low = lead_bits classes 0x80 64; high = lead_bits classes 0xC0 64 }

-- two words that are the leads of a page on which no lead is below 80: what a lead's block is found by
abbrev pub LeadsAt : List ℕ → Leads → Type 0
LeadsAt classes l = (l ≡ leads_as classes) × NoLowLead classes

-- every byte's class is one of document 01's
abbrev pub KnownClasses : List ℕ → Type 0
KnownClasses classes = (byte : ℕ) → byte < 256 → is_known (entry_at classes byte) ≡ true

-- no byte but a single has an entry among the singles: they alone tell which bytes have a character alone
abbrev pub ClearPage : (classes singles : List ℕ) → Type 0
ClearPage classes singles = (byte : ℕ) → byte < 256 → (entry_at singles byte ≡ 0xFFFF → ⊥) → is_single (entry_at classes byte) ≡ true

-- every byte below 80 is a single whose character is itself
abbrev pub PlainPage : (classes singles : List ℕ) → Type 0
PlainPage classes singles = (byte : ℕ) → byte < 0x80 → (is_lead (entry_at classes byte) ≡ false) × (byte_alone classes singles byte ≡ Ok byte)

-- a page whose mixed text goes by the quick loops: text below 80 stays as it is, and the singles alone tell which bytes have a
-- character alone
abbrev pub MixedPage : (classes singles : List ℕ) → Type 0
MixedPage classes singles = PlainPage classes singles × ClearPage classes singles

-- how many ones of a word stand below a place
abbrev pub ones_below : (word place : ℕ) → ℕ
ones_below word place = ones (bit_and word (2 ^ place - 1))

-- the block of a lead: the number of ones below its own
unfoldable pub block_of : Leads → ℕ → ℕ
block_of l lead = pick (ltb lead 0xC0) (ones_below l.low (lead - 0x80)) (ones l.low + ones_below l.high (lead - 0xC0))

-- whether the ones of a word stand side by side: all digits but them are the zeros above and below
unfoldable pub side_by_side : ℕ → Bool
side_by_side word = eqb word 0 || eqb (count_leading_zeros 64 word + ones word + count_trailing_zeros 64 word) 64

-- a code in numbers: what it means, and how many units it takes after the first
pub record SettledAs (k : Code) (r : SettledCode) : Type 0 where
  pub means : r.means ≡ k.means
  pub more : r.more ≡ length k.more

-- the entry of a unit: in the block of its high half at its low half
abbrev pub unit_entry : (index blocks : List ℕ) → ℕ → ℕ
unit_entry index blocks unit = entry_at blocks (256 * entry_at index (unit / 256) + unit % 256)

-- no surrogate of a piece has an entry that is a code
abbrev pub NoCodes : (index blocks piece : List ℕ) → Type 0
NoCodes index blocks piece = (k : ℕ) → is_surrogate (entry_at piece k) ≡ true → unit_entry index blocks (entry_at piece k) ≡ 0xFFFF
