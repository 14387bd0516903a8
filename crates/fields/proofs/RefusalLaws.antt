-- Each answer of a call exactly in its case.
use Rattle.std.proofs.Common.{Result, Ok, Err}
use mathlib.Core.Bool.{Bool, true, false}
use mathlib.Core.List.{List}
use mathlib.Core.Logic.{◌↔◌, ◌⊎◌, inl, inr}
use mathlib.Core.Option.{Option, none, some}
use mathlib.Core.Path.{◌≡◌, refl, sym, ◌∙◌, subst}
use Prim.Native.Nat.{ℕ, ◌+◌, ◌≤◌, ◌<◌}
use native.Mathlib.Omega.{arith}
use lib.Dec.{leb, eqb}
use lib.ListN.{length}
use borrow.Author.Tests.{leb-true, leb-false}
use Rattle.convert.specs.Runs.{piece_limit}
use Rattle.fields.specs.declared.End.{End}
use Rattle.fields.specs.declared.Found.{Found}
use Rattle.fields.specs.declared.Place.TheVariants.{Buffer, Block}
use Rattle.fields.specs.declared.Refusal.{Refusal}
use Rattle.fields.specs.declared.Refusal.TheVariants.{BufferTooShort, BlockTooLong, InvalidState, FieldTooLong}
use Rattle.fields.specs.declared.Answer.{Answer}
use Rattle.fields.specs.declared.Answer.TheVariants.{Field as FieldFound, Incomplete}
use Rattle.fields.specs.Fields.{field_units, end_in, field_limit, field_refusal, FieldCalled, read_with, found_call, held_call, refused_field_call, field_call}
use Rattle.fields.proofs.CallLaws.{short, too_long, invalid, over_limit, accepted}

-- What the checks that pass say: 20, 11, 27, 21.
abbrev pub BufferPasses : (buffer : List ℕ) → Type 0
BufferPasses buffer = field_limit ≤ length buffer

abbrev pub BlockPasses : (buffer block : List ℕ) → Type 0
BlockPasses buffer block = BufferPasses buffer × (length block ≤ piece_limit)

abbrev pub StatePasses : (held : ℕ) → (buffer block : List ℕ) → Type 0
StatePasses held buffer block = BlockPasses buffer block × (held ≤ field_limit)

abbrev pub AllPass : (held : ℕ) → (buffer block : List ℕ) → Type 0
AllPass held buffer block = StatePasses held buffer block × (held + length (field_units block) ≤ field_limit)

-- What each refusal says: all before it passes, and this does not.
abbrev pub Says : (held : ℕ) → (buffer block : List ℕ) → Refusal → Type 0
Says held buffer block BufferTooShort = length buffer < field_limit
Says held buffer block BlockTooLong = BufferPasses buffer × (piece_limit < length block)
Says held buffer block InvalidState = BlockPasses buffer block × (field_limit < held)
Says held buffer block FieldTooLong = StatePasses held buffer block × (field_limit < held + length (field_units block))

-- Each answer exactly in its case: a refusal is the first check that fails; no field is complete; the next field.
pub record Answers (held : ℕ) (buffer block : List ℕ) (last : Bool) (c : FieldCalled) : Type 0 where
  pub refused : (why : Refusal) → (c.answer ≡ Err why) ↔ Says held buffer block why
  pub incomplete : ((read : ℕ) × (c.answer ≡ Ok (Incomplete read))) ↔ (AllPass held buffer block × (end_in held block last ≡ none))
  pub found : ((found : Found) × (c.answer ≡ Ok (FieldFound found))) ↔ (AllPass held buffer block × ((end : End) × (end_in held block last ≡ some end)))

module _ (held : ℕ) (buffer block : List ℕ) where
  -- what holds is refused so
  is_refused : (why : Refusal) → Says held buffer block why → field_refusal held buffer block ≡ some why
  is_refused BufferTooShort h = short held buffer block false h
  is_refused BlockTooLong h = too_long held buffer block false h.0 h.1
  is_refused InvalidState h = invalid held buffer block false h.0.0 h.0.1 h.1
  is_refused FieldTooLong h = over_limit held buffer block false h.0.0.0 h.0.0.1 h.0.1 h.1

  -- one of the cases holds
  cases : ((why : Refusal) × Says held buffer block why) ⊎ AllPass held buffer block
  cases = by (leb field_limit (length buffer)) (leb (length block) piece_limit) (leb held field_limit) (leb (held + length (field_units block)) field_limit) refl refl refl refl
    where
      by : (a b c d : Bool) → leb field_limit (length buffer) ≡ a → leb (length block) piece_limit ≡ b → leb held field_limit ≡ c → leb (held + length (field_units block)) field_limit ≡ d
          → ((why : Refusal) × Says held buffer block why) ⊎ AllPass held buffer block
      by false b c d ea eb ec ed = inl (BufferTooShort, leb-false _ _ ea)
      by true false c d ea eb ec ed = inl (BlockTooLong, (leb-true _ _ ea, leb-false _ _ eb))
      by true true false d ea eb ec ed = inl (InvalidState, ((leb-true _ _ ea, leb-true _ _ eb), leb-false _ _ ec))
      by true true true false ea eb ec ed = inl (FieldTooLong, (((leb-true _ _ ea, leb-true _ _ eb), leb-true _ _ ec), leb-false _ _ ed))
      by true true true true ea eb ec ed = inr (((leb-true _ _ ea, leb-true _ _ eb), leb-true _ _ ec), leb-true _ _ ed)

  passes : AllPass held buffer block → field_refusal held buffer block ≡ none
  passes h = accepted held buffer block false h.0.0.0 h.0.0.1 h.0.1 h.1

  module _ (last : Bool) where
    abbrev given : FieldCalled
    given = field_call held buffer block last

    given_refused : (why : Refusal) → Says held buffer block why → given.answer ≡ Err why
    unfolding field_call refused_field_call
    given_refused why h = rw (is_refused why h)

    given_held : AllPass held buffer block → end_in held block last ≡ none → given.answer ≡ Ok (Incomplete (length block))
    unfolding field_call held_call
    given_held h e = rw (passes h, e)

    found_answer : (end : End) → (found : Found) × ((found_call held buffer (field_units block) end).answer ≡ Ok (FieldFound found))
    unfolding found_call
    found_answer end = by (eqb held 0) refl
      where
        by : (t : Bool) → eqb held 0 ≡ t → (found : Found) × ((found_call held buffer (field_units block) end).answer ≡ Ok (FieldFound found))
        by true q = (record { end = end; place = Block; count = length (field_units block); read = read_with end (length (field_units block)) }, rw q)
        by false q = (record { end = end; place = Buffer; count = held + length (field_units block); read = read_with end (length (field_units block)) }, rw q)

    given_found : AllPass held buffer block → (end : End) → end_in held block last ≡ some end → (found : Found) × (given.answer ≡ Ok (FieldFound found))
    unfolding field_call
    given_found h end e = let (found, q) = found_answer end in (found, rw (passes h, e) q)

    -- one of the cases holds, and the others do not
    abbrev Ending : Type 0
    Ending = ((why : Refusal) × Says held buffer block why) ⊎ ((AllPass held buffer block × (end_in held block last ≡ none)) ⊎ (AllPass held buffer block × ((end : End) × (end_in held block last ≡ some end))))

    ending : Ending
    ending = by_case cases
      where
        by_end : AllPass held buffer block → (o : Option End) → end_in held block last ≡ o → Ending
        by_end h none e = inr (inl (h, e))
        by_end h (some end) e = inr (inr (h, (end, e)))

        by_case : ((why : Refusal) × Says held buffer block why) ⊎ AllPass held buffer block → Ending
        by_case (inl w) = inl w
        by_case (inr h) = by_end h (end_in held block last) refl

    apart : (a b : Result Answer Refusal) → given.answer ≡ a → given.answer ≡ b → a ≡ b
    apart a b p q = sym p ∙ q

    refused_says : (why : Refusal) → given.answer ≡ Err why → Ending → Says held buffer block why
    refused_says why e (inl (other, h)) = let same : other ≡ why = refusals_same (apart _ _ (given_refused other h) e) in subst_says same h
      where
        refusals_same : {a b : Refusal} → ◌≡◌ {A = Result Answer Refusal} (Err a) (Err b) → a ≡ b
        refusals_same q = cc

        subst_says : {a b : Refusal} → a ≡ b → Says held buffer block a → Says held buffer block b
        subst_says q h = subst (Says held buffer block) q h
    refused_says why e (inr (inl (h, n))) = let q = apart _ _ (given_held h n) e in let z : ◌≡◌ {A = ℕ} 0 1 = cc in absurd (omega arith)
    refused_says why e (inr (inr (h, (end, n)))) = let (found, f) = given_found h end n in let q = apart _ _ f e in let z : ◌≡◌ {A = ℕ} 0 1 = cc in absurd (omega arith)

    incomplete_says : (read : ℕ) → given.answer ≡ Ok (Incomplete read) → Ending → AllPass held buffer block × (end_in held block last ≡ none)
    incomplete_says read e (inl (other, h)) = let q = apart _ _ (given_refused other h) e in let z : ◌≡◌ {A = ℕ} 0 1 = cc in absurd (omega arith)
    incomplete_says read e (inr (inl h)) = h
    incomplete_says read e (inr (inr (h, (end, n)))) = let (found, f) = given_found h end n in let q = apart _ _ f e in let z : ◌≡◌ {A = ℕ} 0 1 = cc in absurd (omega arith)

    found_says : (found : Found) → given.answer ≡ Ok (FieldFound found) → Ending → AllPass held buffer block × ((end : End) × (end_in held block last ≡ some end))
    found_says found e (inl (other, h)) = let q = apart _ _ (given_refused other h) e in let z : ◌≡◌ {A = ℕ} 0 1 = cc in absurd (omega arith)
    found_says found e (inr (inl (h, n))) = let q = apart _ _ (given_held h n) e in let z : ◌≡◌ {A = ℕ} 0 1 = cc in absurd (omega arith)
    found_says found e (inr (inr h)) = h

    -- EACH ANSWER EXACTLY IN ITS CASE.
    pub answers_exact : Answers held buffer block last given
    answers_exact =
        record {
          refused = λ why. (λ e. refused_says why e ending, given_refused why);
          incomplete = (λ (read, e). incomplete_says read e ending, λ (h, e). (length block, given_held h e));
          found = (λ (found, e). found_says found e ending, λ (h, (end, e)). given_found h end e);
        }
