-- CR 1, for the night import: demand 3 and the claim over cuttings together. Nothing about decoding is proved again.
use mathlib.Core.Bool.{true, false≢true}
use mathlib.Core.List.{List, [], ◌∷◌, ◌++◌}
use mathlib.Core.Logic.{◌⊎◌, inl, inr}
use mathlib.Core.Path.{◌≡◌, refl, sym, ap, ◌∙◌}
use Prim.Native.Nat.{ℕ, ◌≤◌}
use native.Mathlib.Omega.{arith}
use lib.ListN.{length}
use Rattle.convert.specs.declared.Run.{Run}
use Rattle.traces.specs.Model.{Setting, Call, whole_of, opened, play, AllAllowed}
use Rattle.traces.specs.Traces.{Entry, calls_of, Proper, Trace}
use Rattle.traces.specs.Examples.{on_sample}
use Rattle.traces.proofs.Computing.{list_rules}
use Rattle.traces.proofs.EveryTrace.{every_trace}
use Rattle.traces.proofs.ListLaws.{TraceOf, traces_exist}
use Rattle.fields.specs.declared.End.TheVariants.{Bar, LineFeed}
use Rattle.fields.specs.Fields.{Field, fields_of, separator, prepend, field_limit, AllWithin}
use Rattle.fields.specs.Cuttings.{FieldEntry, FieldTrace, NoneLast}
use Rattle.fields.proofs.EveryCutting.{every_cutting}
use Rattle.fields.proofs.Beginnings.{every_beginning}
use Rattle.fields.proofs.Witnesses.{all_given}
use Rattle.journal.specs.Import.{joined_output, is_ended, progress, Imported, night_text, night, broken_text}

-- THE THEOREM: for every table set, text, accepted start and list of run calls with results that meet the contracts, every buffer
-- and every list of field calls on what was written.
pub every_import : (s : Setting) → Proper s → (start : Run) (es : List Entry) → Trace s start es → (buffer : List ℕ) (cs : List FieldEntry) → FieldTrace (joined_output s es) buffer cs → Imported s es cs
unfolding joined_output is_ended progress
every_import s h start es t buffer cs c =
    let demand = (every_trace s h start es t).at_end in
    let here = every_cutting (joined_output s es) buffer cs c in
    record {
      begins = by;
      all_of_them = λ ended f. here.all_of_them f ∙ ap fields_of (demand.all_of_it ended).0;
    }
  where
    by : (is_ended s es ≡ true) ⊎ NoneLast cs → (others : List Field) × (fields_of (whole_of s).output ≡ (progress s es cs).given ++ others)
    by (inl ended) =
        let here = (every_cutting (joined_output s es) buffer cs c).begins in
        (here.0, ap fields_of (sym ((every_trace s h start es t).at_end.all_of_it ended).0) ∙ here.1)
    by (inr going) =
        let more = (every_trace s h start es t).at_end.begins in
        let here = every_beginning (joined_output s es) more.0 buffer cs c going in
        (here.0, ap fields_of more.1 ∙ here.1)

-- ---- THE NIGHT THAT LOST A FIELD
-- A list of run calls, and a list of field calls on what they wrote, with their traces, and the fields that were given.
pub record Night (s : Setting) (calls : List Call) (buffer : List ℕ) (given : List Field) : Type 0 where
  pub proper : Proper s
  pub runs : TraceOf s calls
  pub ended : is_ended s runs.entries ≡ true
  pub cuts : List FieldEntry
  pub cutting : FieldTrace (joined_output s runs.entries) buffer cuts
  pub given_are : (progress s runs.entries cuts).given ≡ given

night_proper : Proper (on_sample night_text)
unfolding list_rules
night_proper = record { start = refl; page = omega arith; units = (omega arith, (omega arith, (omega arith, tt))); within = omega arith }

night_allowed : AllAllowed (on_sample night_text) (opened (on_sample night_text)) night
unfolding list_rules
night_allowed = ((0x7C ∷ 0x7C ∷ [], refl, λ e. absurd (false≢true e)), (tt, (inl (_, refl), (([], refl, λ e. refl), tt))))

night_written : ((play (on_sample night_text) (opened (on_sample night_text)) night).joined ≡ 0x4E00 ∷ 0x7C ∷ []) × ((play (on_sample night_text) (opened (on_sample night_text)) night).ended ≡ true)
unfolding list_rules
night_written = (refl, refl)

night_fields : fields_of (0x4E00 ∷ 0x7C ∷ []) ≡ record { units = 0x4E00 ∷ []; end = Bar } ∷ []
unfolding fields_of separator prepend
night_fields = refl

within_limit : AllWithin (fields_of (0x4E00 ∷ 0x7C ∷ []))
unfolding AllWithin
within_limit = rw night_fields (omega arith, tt)

-- It gives ONE field, 4E00, ended by a bar.
pub night_kept : (buffer : List ℕ) → field_limit ≤ length buffer → Night (on_sample night_text) night buffer (record { units = 0x4E00 ∷ []; end = Bar } ∷ [])
unfolding joined_output is_ended progress
night_kept buffer room =
    let t = traces_exist (on_sample night_text) night_proper night night_allowed in
    let all : (play (on_sample night_text) (opened (on_sample night_text)) (calls_of t.entries)).joined ≡ 0x4E00 ∷ 0x7C ∷ [] =
    ap (λ (cs : List Call). (play (on_sample night_text) (opened (on_sample night_text)) cs).joined) t.calls ∙ night_written.0 in
    let g = all_given (play (on_sample night_text) (opened (on_sample night_text)) (calls_of t.entries)).joined buffer (rw all within_limit) room in
    record {
      proper = night_proper;
      runs = t;
      ended = ap (λ (cs : List Call). (play (on_sample night_text) (opened (on_sample night_text)) cs).ended) t.calls ∙ night_written.1;
      cuts = g.0;
      cutting = g.1;
      given_are = g.2 ∙ ap fields_of all ∙ night_fields;
    }

-- ---- THE NIGHT THAT MADE ONE RECORD OF TWO
broken_proper : Proper (on_sample broken_text)
unfolding list_rules
broken_proper = record { start = refl; page = omega arith; units = (omega arith, (omega arith, (omega arith, (omega arith, tt)))); within = omega arith }

broken_whole : (whole_of (on_sample broken_text)).output ≡ 0x30FB ∷ 0x0A ∷ 0x41 ∷ 0x7C ∷ []
unfolding list_rules whole_of
broken_whole = refl

broken_fields : fields_of (0x30FB ∷ 0x0A ∷ 0x41 ∷ 0x7C ∷ []) ≡ record { units = 0x30FB ∷ []; end = LineFeed } ∷ record { units = 0x41 ∷ []; end = Bar } ∷ []
unfolding fields_of separator prepend
broken_fields = refl

-- The line feed behind a broken half ends its record, under every list of run calls and every cutting.
pub broken_half_kept : (start : Run) (es : List Entry) → Trace (on_sample broken_text) start es → (buffer : List ℕ) (cs : List FieldEntry) → FieldTrace (joined_output (on_sample broken_text) es) buffer cs
    → is_ended (on_sample broken_text) es ≡ true → (progress (on_sample broken_text) es cs).finished ≡ true
    → (progress (on_sample broken_text) es cs).given ≡ record { units = 0x30FB ∷ []; end = LineFeed } ∷ record { units = 0x41 ∷ []; end = Bar } ∷ []
broken_half_kept start es t buffer cs c ended f =
    (every_import (on_sample broken_text) broken_proper start es t buffer cs c).all_of_them ended f ∙ ap fields_of broken_whole ∙ broken_fields
