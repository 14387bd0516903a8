-- Rows of the count of ones: leads at the words' ends, all leads, and why no lead may be below 80.
use mathlib.Core.Bool.{true, not, ◌||◌}
use mathlib.Core.List.{List, [], ◌∷◌}
use mathlib.Core.Path.{◌≡◌, refl}
use Prim.Native.Nat.{ℕ, zero, suc}
use lib.Count.{ones, ones_in}
use lib.Dec.{leb, eqb}
use lib.ListN.{length}
use borrow.Author.Tests.{not-true}
use Rattle.codepage.specs.CodePage.{pick, entry_at, is_lead, leads, leads_below}
use Rattle.codepage.specs.Marks.{NoLowLead}
use Rattle.codepage.proofs.MarkLaws.{all_below, all_below_lem}
use Rattle.codepage_lookup.specs.Profile.{lead_bits, leads_as, block_of}
use Rattle.codepage_lookup.proofs.LeadLaws.{block_below}

-- so many classes, by the byte, from one on
abbrev classes_from : (byte count : ℕ) → (ℕ → ℕ) → List ℕ
classes_from byte zero class = []
classes_from byte (suc count) class = class byte ∷ classes_from (suc byte) count class

no_low : (cs : List ℕ) → all_below (λ (byte : ℕ). not (is_lead (entry_at cs byte))) 0x80 ≡ true → NoLowLead cs
no_low cs e byte h = not-true (is_lead (entry_at cs byte)) (all_below_lem (λ (b : ℕ). not (is_lead (entry_at cs b))) 0x80 e byte h)

-- leads 80, BF, C0 and FF have the blocks 0 to 3
pub corners : List ℕ
corners = classes_from 0 256 (λ (byte : ℕ). pick (eqb byte 0x80 || eqb byte 0xBF || eqb byte 0xC0 || eqb byte 0xFF) 2 1)

pub corner_blocks : (block_of (leads_as corners) 0x80 ≡ 0) × (block_of (leads_as corners) 0xBF ≡ 1) × (block_of (leads_as corners) 0xC0 ≡ 2) × (block_of (leads_as corners) 0xFF ≡ 3)
unfolding corners is_lead leads leads_below
corner_blocks =
    let low : NoLowLead corners = no_low corners refl in
    (block_below corners 0x80 refl low refl, block_below corners 0xBF refl low refl, block_below corners 0xC0 refl low refl, block_below corners 0xFF refl low refl)

-- of 128 leads the last has block 127
pub all_high : List ℕ
all_high = classes_from 0 256 (λ (byte : ℕ). pick (leb 0x80 byte) 6 1)

pub last_block : block_of (leads_as all_high) 0xFF ≡ 127
unfolding all_high is_lead leads leads_below
last_block = block_below all_high 0xFF refl (no_low all_high refl) refl

-- With a lead below 80 the count is another number: 41 and 81 are leads, and below 81 the words have none.
pub low_lead : List ℕ
low_lead = classes_from 0 256 (λ (byte : ℕ). pick (eqb byte 0x41 || eqb byte 0x81) 2 1)

pub low_lead_lost : (length low_lead ≡ 256) × (is_lead (entry_at low_lead 0x81) ≡ true) × (leads_below low_lead 0x81 ≡ 1) × (block_of (leads_as low_lead) 0x81 ≡ 0)
unfolding low_lead is_lead leads leads_below block_of lead_bits ones ones_in
low_lead_lost = (refl, refl, refl, refl)
