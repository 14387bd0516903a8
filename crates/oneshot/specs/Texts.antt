-- Document 02, CR 10 (and document 01, "What the box does" and "One call of a run"): a text as a whole, in one call. With empty
-- room it only counts. docs/RULES.md, "A whole text in one call".
use Rattle.std.specs.Prelude.{true, List, [], ◌≡◌, ℕ, leb, ltb, eqb, length}
use Rattle.std.proofs.Math.Option.{Option, none, some}
use Rattle.std.specs.Borrow.{MutBor}
use Rattle.codepage.specs.CodePage.{CodePage, pick, first_fault, is_good}
use Rattle.engine.specs.declared.Direction.{Direction}
use Rattle.engine.specs.declared.Policy.{Policy}
use Rattle.oneshot.specs.declared.Totals.{Totals}
use Rattle.oneshot.specs.declared.Converted.{Converted}
use Rattle.oneshot.specs.declared.Ending.{Ending}
use Rattle.oneshot.specs.declared.Ending.TheVariants.{AllRead, OutputFull, Stopped}
use Rattle.oneshot.specs.declared.TextRefusal.{TextRefusal}
use Rattle.oneshot.specs.declared.TextRefusal.TheVariants.{BadPolicy, BadShape, TooLong}
use Rattle.std.specs.Prelude.{Result, Ok, Err}
use Rattle.engine.specs.Policies.{policy_allowed}
use Rattle.engine.specs.Engine.{Room, limit, endless, Fed, feed_from}
use Rattle.convert.specs.Runs.{piece_limit}
use Rattle.convert.specs.Calls.{check}
use Rattle.codepage.specs.Lent.{over}
use Rattle.engine.specs.Engine.{converter_of}

-- The call checks 17 (policy), 10, 11. 0: it is accepted.
unfoldable pub text_refusal : Direction → Policy → CodePage → (count : ℕ) → ℕ
text_refusal direction policy p count = check 17 (policy_allowed direction policy) (check 10 (is_good (first_fault p)) (check 11 (leb count piece_limit) 0))

-- What the call gives: its number, and flags, read, need and written with what was written; of a refusal the number alone.
pub record Text : Type 0 where
  pub number : ℕ
  pub totals : Option Totals
  pub output : List ℕ

-- a text converted as one piece that ends the text, from a fresh start
unfoldable pub text_fed : Direction → Policy → CodePage → Room → (text : List ℕ) → Fed
text_fed direction policy p room text = feed_from (converter_of direction p policy) true room none text

-- 2, ahead of 3, exactly if something did not fit: if the need is over the room; else the answer of the whole reading
unfoldable pub answer_of : (whole : Fed) → (room : ℕ) → ℕ
answer_of whole room = pick (ltb room (length whole.output)) 2 whole.answer

-- Need and flags are always those of the whole reading; what was written and the input read are the conversion's.
unfoldable pub accepted_text : (whole made : Fed) → (room : ℕ) → Text
accepted_text whole made room =
    record {
      number = answer_of whole room;
      totals = some (record { flags = whole.flags; read = made.used; need = length whole.output; written = length made.output });
      output = made.output;
    }

-- a refused call: its number, no totals, nothing written
unfoldable pub refused_text : ℕ → Text
refused_text number = record { number = number; totals = none; output = [] }

-- THE CALL: refused, or converted in the room, with flags and need of the same text with room that never ends.
unfoldable pub text_of : Direction → Policy → CodePage → (text : List ℕ) → (room : ℕ) → Text
text_of direction policy p text room =
    pick (eqb (text_refusal direction policy p (length text)) 0)
    (accepted_text (text_fed direction policy p endless text) (text_fed direction policy p (limit room) text) room)
    (refused_text (text_refusal direction policy p (length text)))

-- the number of each ending
abbrev pub ending_number : Ending → ℕ
ending_number AllRead = 0
ending_number OutputFull = 2
ending_number Stopped = 3

-- the number of each refusal
abbrev pub refused_number : TextRefusal → ℕ
refused_number BadPolicy = 17
refused_number BadShape = 10
refused_number TooLong = 11

-- the number of each case of the answer
abbrev pub converted_number : Result Converted TextRefusal → ℕ
converted_number (Ok c) = ending_number c.ending
converted_number (Err refusal) = refused_number refusal

-- flags, read, need and written of each case of the answer; a refusal has none
abbrev pub converted_totals : Result Converted TextRefusal → Option Totals
converted_totals (Ok c) = some c.totals
converted_totals (Err refusal) = none

-- flags, read, need and written, or zeros of a refusal
abbrev pub totals_or_none : Option Totals → Totals
totals_or_none none = record { flags = 0; read = 0; need = 0; written = 0 }
totals_or_none (some totals) = totals

-- The promise of the call: t is what the rules give, r what it returns, and the lent output before and after.
pub record ConvertedAs (t : Text) (r : Result Converted TextRefusal) (before after : List ℕ) : Type 0 where
  pub number : converted_number r ≡ t.number
  pub totals : converted_totals r ≡ t.totals
  pub lent : after ≡ over before t.output

-- the answer of a call that hands back the filled part, without the part
abbrev pub answer_beside : {A : Type 0} → Result (Converted × A) TextRefusal → Result Converted TextRefusal
answer_beside (Ok filled) = Ok filled.0
answer_beside (Err refusal) = Err refusal

-- The filled part is the front of the lent output, and has what was written, `written` as numbers. Of a refusal nothing was.
abbrev pub PartAs : {A : Type 0} → (written : List A → List ℕ) → Text → (lent : MutBor (List A)) → Result (Converted × MutBor (List A)) TextRefusal → Type 0
PartAs written t lent (Ok filled) = (filled.1.ref_ptr ≡ lent.ref_ptr) × (written filled.1.now ≡ t.output)
PartAs written t lent (Err refusal) = t.output ≡ []

-- The promise of the call that hands back the filled part: t is what the rules give, lent the lent output before the call, and r
-- what it returns.
pub record FilledAs {A : Type 0} (written : List A → List ℕ) (t : Text) (lent : MutBor (List A)) (r : Result (Converted × MutBor (List A)) TextRefusal) : Type 0 where
  pub number : converted_number (answer_beside r) ≡ t.number
  pub totals : converted_totals (answer_beside r) ≡ t.totals
  pub part : PartAs written t lent r
