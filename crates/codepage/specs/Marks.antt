-- Definitions that the shape test's contracts cite, and that no promise does.
use Rattle.std.specs.Prelude.{Bool, true, false, ◌&&◌, List, ◌≡◌, ℕ, ◌<◌, ◌≤◌, ◌/◌, ◌%◌, leb, eqb}
use Rattle.codepage.specs.CodePage.{entry_at, is_lead}

-- 1 for a place that has something, else 0
abbrev pub mark_of : Bool → ℕ
mark_of true = 1
mark_of false = 0

-- a mark over the entries from `from` on and below `to`: over 0 exactly if one is bad
pub record Marked (bad : ℕ → ℕ → Bool) (xs : List ℕ) (from to mark : ℕ) : Type 0 where
  pub none_bad : mark ≡ 0 → (k : ℕ) → from ≤ k → k < to → bad k (entry_at xs k) ≡ false
  pub one_bad : 0 < mark → (k : ℕ) × (from ≤ k) × (k < to) × (bad k (entry_at xs k) ≡ true)

-- the largest of the entries below `to`
pub record Largest (xs : List ℕ) (to most : ℕ) : Type 0 where
  pub bound : (k : ℕ) → k < to → entry_at xs k ≤ most
  pub reached : (most ≡ 0 → ⊥) → (k : ℕ) × (k < to) × (entry_at xs k ≡ most)

-- the sizes of a good shape, but for the pairs'
unfoldable pub good_sizes : (classes singles index blocks : ℕ) → Bool
good_sizes classes singles index blocks = eqb classes 256 && eqb singles 256 && eqb index 256 && eqb (blocks % 256) 0 && leb 1 (blocks / 256) && leb (blocks / 256) 256

-- no lead is below 80
abbrev pub NoLowLead : List ℕ → Type 0
NoLowLead classes = (byte : ℕ) → byte < 0x80 → is_lead (entry_at classes byte) ≡ false
