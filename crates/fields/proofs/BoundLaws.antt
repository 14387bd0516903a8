-- Bounds of every call: what a caller's loop needs.
use Rattle.std.proofs.Common.{Result, Ok, Err}
use mathlib.Core.Bool.{Bool, true, false, ◌&&◌, false≢true}
use mathlib.Core.List.{List, ◌∷◌}
use mathlib.Core.Logic.{◌⊎◌, inl, inr}
use mathlib.Core.Option.{Option, none, some}
use mathlib.Core.Path.{◌≡◌, refl, sym, ap, ◌∙◌, subst}
use Prim.Native.Nat.{ℕ, suc, ◌+◌, ◌≤◌, ◌<◌}
use native.Mathlib.Omega.{arith}
use lib.Dec.{eqb, ltb}
use lib.ListN.{length, length-append}
use Rattle.codepage.specs.CodePage.{pick}
use Rattle.fields.specs.declared.End.{End}
use Rattle.fields.specs.declared.End.TheVariants.{Text}
use Rattle.fields.specs.declared.Place.{Place}
use Rattle.fields.specs.declared.Place.TheVariants.{Buffer, Block}
use Rattle.fields.specs.declared.Refusal.{Refusal}
use Rattle.fields.specs.declared.Answer.{Answer}
use Rattle.fields.specs.declared.Answer.TheVariants.{Field as FieldFound, Incomplete}
use Rattle.fields.specs.Fields.{field_units, separator_in, end_in, field_limit, field_refusal, read_with, over_from, found_call, held_call, refused_field_call, accepted_field_call, unless_field_refused, field_call, Bounded}
use Rattle.fields.proofs.FieldLaws.{units_all, split}
use Rattle.fields.proofs.EveryCutting.{accepted_fits, separator_read, or_cases}

module _ (held : ℕ) (buffer block : List ℕ) (last : Bool) where
  refused_bounded : (why : Refusal) → Bounded held block (refused_field_call held buffer why)
  unfolding refused_field_call
  refused_bounded why =
      record {
        read_within = omega arith;
        reads_some = λ e. absurd (false≢true e);
        count_within = λ found e. let z : ◌≡◌ {A = ℕ} 0 1 = cc in absurd (omega arith);
        held_within = λ h. h;
      }

  held_bounded : held + length block ≤ field_limit → Bounded held block (held_call held buffer block)
  unfolding held_call
  held_bounded fits =
      record {
        read_within = omega arith;
        reads_some = λ e h. h;
        count_within = λ found e. let z : ◌≡◌ {A = ℕ} 0 1 = cc in absurd (omega arith);
        held_within = λ h. fits;
      }

  -- a field of `count` units, for which `read` units were read
  one_bounded : (end : End) (place : Place) (count read : ℕ) (after : List ℕ) → read ≤ length block → (0 < length block → 0 < read) → count ≤ field_limit
      → Bounded held block (record { answer = Ok (FieldFound (record { end = end; place = place; count = count; read = read })); held = 0; buffer = after })
  one_bounded end place count read after a b fits =
      record {
        read_within = a;
        reads_some = λ e. b;
        count_within = λ found e. let q : count ≡ found.count = ap count_of e in omega arith;
        held_within = λ h. omega arith;
      }
    where
      count_of : Result Answer Refusal → ℕ
      count_of (Ok (FieldFound found)) = found.count
      count_of (Ok (Incomplete read)) = 0
      count_of (Err why) = 0

  found_bounded : (end : End) → read_with end (length (field_units block)) ≤ length block → (0 < length block → 0 < read_with end (length (field_units block)))
      → held + length (field_units block) ≤ field_limit → Bounded held block (found_call held buffer (field_units block) end)
  unfolding found_call
  found_bounded end a b fits = by (eqb held 0)
    where
      by : (t : Bool) → Bounded held block
          (pick t (record { answer = Ok (FieldFound (record { end = end; place = Block; count = length (field_units block); read = read_with end (length (field_units block)) })); held = 0; buffer = buffer })
          (record {
            answer = Ok (FieldFound (record { end = end; place = Buffer; count = held + length (field_units block); read = read_with end (length (field_units block)) }));
            held = 0;
            buffer = over_from held buffer (field_units block);
          }))
      by true = one_bounded end Block (length (field_units block)) _ buffer a b (omega arith)
      by false = one_bounded end Buffer (held + length (field_units block)) _ (over_from held buffer (field_units block)) a b fits

  accepted_bounded : (o : Option End) → field_refusal held buffer block ≡ none → end_in held block last ≡ o → Bounded held block (accepted_field_call held buffer block o)
  unfolding end_in
  accepted_bounded o a e = by_end (or_cases (separator_in block) (last && ltb 0 (held + length block)) o e)
    where
      fits : held + length (field_units block) ≤ field_limit
      fits = (accepted_fits held buffer block a).1

      by_test : (t : Bool) → separator_in block ≡ none → Bounded held block (accepted_field_call held buffer block (pick t (some Text) none))
      by_test true s =
          let n : length (field_units block) ≡ length block = ap length (units_all block s) in
          found_bounded Text (omega arith) (λ h. omega arith) fits
      by_test false s = let n : length (field_units block) ≡ length block = ap length (units_all block s) in held_bounded (omega (arith, fits))

      by_end : ((end : End) × (separator_in block ≡ some end) × (o ≡ some end)) ⊎ ((separator_in block ≡ none) × (o ≡ pick (last && ltb 0 (held + length block)) (some Text) none))
          → Bounded held block (accepted_field_call held buffer block o)
      by_end (inl (end, s, q)) =
          let w = split block end s in
          let n : read_with end (length (field_units block)) ≡ length (field_units block) + 1 = separator_read w.unit end (length (field_units block)) w.is_end in
          let size : length block ≡ length (field_units block) + suc (length w.behind) = ap length w.parts ∙ length-append (field_units block) (w.unit ∷ w.behind) in
          subst (λ (x : Option End). Bounded held block (accepted_field_call held buffer block x)) (sym q) (found_bounded end (omega arith) (λ h. omega arith) fits)
      by_end (inr (s, q)) = subst (λ (x : Option End). Bounded held block (accepted_field_call held buffer block x)) (sym q) (by_test (last && ltb 0 (held + length block)) s)

  pub every_call_bounded : Bounded held block (field_call held buffer block last)
  unfolding field_call
  every_call_bounded = by (field_refusal held buffer block) refl
    where
      by : (o : Option Refusal) → field_refusal held buffer block ≡ o → Bounded held block (unless_field_refused held buffer o (accepted_field_call held buffer block (end_in held block last)))
      by none e = accepted_bounded (end_in held block last) e refl
      by (some why) e = refused_bounded why
