-- The claim over lists is about something: every call has a result, a text within the limit is never refused, a list of calls
-- gives all its fields, and each refusal is met.
use Rattle.std.proofs.Common.{Result, Ok, Err}
use mathlib.Core.Bool.{Bool, true, false, ◌||◌, false≢true}
use mathlib.Core.List.{List, [], ◌∷◌, ◌++◌, append_assoc}
use mathlib.Core.Option.{Option, none, some}
use mathlib.Core.Path.{◌≡◌, refl, sym, ap, ◌∙◌, subst}
use Prim.Native.Nat.{ℕ, suc, ◌+◌, ◌≤◌, ◌<◌}
use native.Mathlib.Omega.{arith}
use lib.Dec.{eqb, ltb}
use lib.ListN.{length, take, drop, replicate, length-append, length-drop, length-replicate, take-append-drop}
use lib.Seq.{length-take-le}
use borrow.Author.Tests.{eq-eqb}
use Rattle.codepage.specs.CodePage.{pick}
use Rattle.convert.specs.Runs.{piece_limit}
use Rattle.fields.specs.declared.End.{End}
use Rattle.fields.specs.declared.End.TheVariants.{Text}
use Rattle.fields.specs.declared.Refusal.{Refusal}
use Rattle.fields.specs.declared.Refusal.TheVariants.{BufferTooShort, BlockTooLong, InvalidState, FieldTooLong}
use Rattle.fields.specs.declared.Answer.{Answer}
use Rattle.fields.specs.declared.Answer.TheVariants.{Field as FieldFound, Incomplete}
use Rattle.fields.specs.declared.Held.{Held}
use Rattle.fields.specs.Fields.{Field, separator, prepend, fields_of, units_before, field_units, either_end, separator_in, end_in, field_limit, AllWithin, fresh_held, field_refusal, FieldCalled, read_with, found_call, held_call, refused_field_call, accepted_field_call, field_call, is_field_accepted, read_by}
use Rattle.fields.specs.Cuttings.{FieldEntry, Shown, EntryMeets, AllFieldsMeet, Progress, opened_cutting, next_progress, play_fields, FieldAllowed, AllFieldsAllowed, FieldTrace, NoneRefused}
use Rattle.fields.specs.Examples.{field_rows, FieldRowsHold}
use Rattle.fields.proofs.FieldLaws.{separator_append, units_plain, begin, fields_begin}
use Rattle.fields.proofs.CallLaws.{units_taken, short, too_long, invalid, over_limit, accepted}
use Rattle.fields.proofs.EveryCutting.{drop_past, shown_of, separator_read, Kept, kept_start, kept_call, kept_size, every_cutting}

-- ---- every call has a result
shown_self : (a : Result Answer Refusal) (buffer block : List ℕ) → Shown a buffer block (shown_of a buffer block)
shown_self (Ok (FieldFound found)) buffer block = refl
shown_self (Ok (Incomplete read)) buffer block = tt
shown_self (Err why) buffer block = tt

answering : Held → (buffer block : List ℕ) → (last : Bool) → FieldEntry
answering state buffer block last =
    record {
      block = block;
      last = last;
      answer = (field_call state.count buffer block last).answer;
      state = record { count = (field_call state.count buffer block last).held };
      buffer = (field_call state.count buffer block last).buffer;
      part = shown_of (field_call state.count buffer block last).answer (field_call state.count buffer block last).buffer block;
    }

answering_meets : (state : Held) (buffer block : List ℕ) (last : Bool) → EntryMeets state buffer (answering state buffer block last)
unfolding answering
answering_meets state buffer block last =
    record {
      call = record { answer = refl; state = refl; buffer = refl };
      part = shown_self (field_call state.count buffer block last).answer (field_call state.count buffer block last).buffer block;
    }

pub every_call_answered : (state : Held) (buffer block : List ℕ) (last : Bool) → (e : FieldEntry) × (e.block ≡ block) × (e.last ≡ last) × EntryMeets state buffer e
unfolding answering
every_call_answered state buffer block last = (answering state buffer block last, refl, refl, answering_meets state buffer block last)

-- ---- a text whose fields are within the limit
within_right : (a b : List Field) → AllWithin (a ++ b) → AllWithin b
unfolding AllWithin
within_right [] b w = w
within_right (f ∷ a) b w = within_right a b w.1

-- a field that begins with some units has as many or more
prepend_long : (u n : ℕ) (fields : List Field) → (f : Field) × (rest : List Field) × (fields ≡ f ∷ rest) × (n ≤ length f.units)
    → (f : Field) × (rest : List Field) × (prepend u fields ≡ f ∷ rest) × (suc n ≤ length f.units)
unfolding prepend
prepend_long u n fields (f, rest, e, h) = (record { units = u ∷ f.units; end = f.end }, rest, ap (prepend u) e, omega arith)

prepend_any : (u : ℕ) (fields : List Field) → (f : Field) × (rest : List Field) × (prepend u fields ≡ f ∷ rest) × (1 ≤ length f.units)
unfolding prepend
prepend_any u [] = (_, _, refl, omega arith)
prepend_any u (f ∷ fields) = (_, _, refl, omega arith)

begin_long : (u : ℕ) (units : List ℕ) (fields : List Field) → (f : Field) × (rest : List Field) × (begin (u ∷ units) fields ≡ f ∷ rest) × (suc (length units) ≤ length f.units)
unfolding begin
begin_long u [] fields = prepend_any u fields
begin_long u (v ∷ units) fields = prepend_long u (suc (length units)) (begin (v ∷ units) fields) (begin_long v units fields)

short_units : (units text : List ℕ) → separator_in units ≡ none → AllWithin (fields_of (units ++ text)) → length units ≤ field_limit
unfolding AllWithin
short_units [] text e w = omega arith
short_units (u ∷ units) text e w =
    let (f, rest, q, h) = begin_long u units (fields_of text) in
    let g : AllWithin (f ∷ rest) = subst (λ (l : List Field). AllWithin l) (fields_begin (u ∷ units) text e ∙ q) w in
    omega (arith, g.0)

module _ (text : List ℕ) (state : Held) (buffer : List ℕ) (p : Progress) (block rest : List ℕ) (k : Kept text state buffer p) (here : drop p.position text ≡ block ++ rest)
    (within : AllWithin (fields_of text)) (room : field_limit ≤ length buffer) (piece : length block ≤ piece_limit) where
  accepted_here : field_refusal state.count buffer block ≡ none
  accepted_here =
      let held : List ℕ = take state.count buffer in
      let parts : block ≡ field_units block ++ drop (length (field_units block)) block =
      sym (take-append-drop (length (field_units block)) block) ∙ ap (λ (l : List ℕ). l ++ drop (length (field_units block)) block) (units_taken block) in
      let there : held ++ drop p.position text ≡ (held ++ field_units block) ++ (drop (length (field_units block)) block ++ rest) =
      ap (λ (l : List ℕ). held ++ l) (here ∙ ap (λ (l : List ℕ). l ++ rest) parts) ∙ simp append_assoc in
      let left : AllWithin (fields_of ((held ++ field_units block) ++ (drop (length (field_units block)) block ++ rest))) =
      subst (λ (l : List ℕ). AllWithin (fields_of l)) there (within_right p.given _ (subst (λ (l : List Field). AllWithin l) k.left within)) in
      let most : length (held ++ field_units block) ≤ field_limit = short_units (held ++ field_units block) _ (separator_append held (field_units block) k.plain ∙ units_plain block) left in
      let size : length (held ++ field_units block) ≡ state.count + length (field_units block) =
      length-append held (field_units block) ∙ ap (λ (n : ℕ). n + length (field_units block)) (length-take-le state.count buffer k.inside) in
      accepted state.count buffer block true room piece (omega arith) (omega arith)

-- an accepted call gives a field or holds the block
pick_accepted : (t : Bool) (a b : FieldCalled) → is_field_accepted a.answer ≡ true → is_field_accepted b.answer ≡ true → is_field_accepted (pick t a b).answer ≡ true
pick_accepted true a b p q = p
pick_accepted false a b p q = q

pick_read : (t : Bool) (a b : FieldCalled) (n : ℕ) → read_by a.answer ≡ n → read_by b.answer ≡ n → read_by (pick t a b).answer ≡ n
pick_read true a b n p q = p
pick_read false a b n p q = q

end_accepted : (held : ℕ) (buffer block : List ℕ) (o : Option End) → is_field_accepted (accepted_field_call held buffer block o).answer ≡ true
unfolding found_call held_call
end_accepted held buffer block none = refl
end_accepted held buffer block (some end) = pick_accepted (eqb held 0) _ _ refl refl

found_read : (held : ℕ) (buffer units : List ℕ) (end : End) → read_by (found_call held buffer units end).answer ≡ read_with end (length units)
unfolding found_call
found_read held buffer units end = pick_read (eqb held 0) _ _ _ refl refl

module _ (held : ℕ) (buffer : List ℕ) where
  call_accepted : (block : List ℕ) (last : Bool) → field_refusal held buffer block ≡ none → is_field_accepted (field_call held buffer block last).answer ≡ true
  unfolding field_call
  call_accepted block last e = rw e (end_accepted held buffer block (end_in held block last))

  -- a block of one unit is read whole
  one_with : (u : ℕ) (o : Option End) → separator u ≡ o → read_by (accepted_field_call held buffer (u ∷ []) (either_end (either_end o none) none)).answer ≡ 1
  unfolding held_call field_units
  one_with u none q = refl
  one_with u (some end) q = found_read held buffer (field_units (u ∷ [])) end ∙ separator_read u end _ q ∙ ap (λ (o : Option End). length (units_before o (u ∷ [])) + 1) q

  one_read : (u : ℕ) → field_refusal held buffer (u ∷ []) ≡ none → read_by (field_call held buffer (u ∷ []) false).answer ≡ 1
  unfolding field_call end_in separator_in
  one_read u e = rw e (one_with u (separator u) refl)

  -- the text's end reads nothing
  end_with : (t : Bool) → read_by (accepted_field_call held buffer [] (pick t (some Text) none)).answer ≡ 0
  unfolding held_call field_units
  end_with true = found_read held buffer (field_units []) Text
  end_with false = refl

  end_read : field_refusal held buffer [] ≡ none → read_by (field_call held buffer [] true).answer ≡ 0
  unfolding field_call end_in separator_in
  end_read e = rw e (end_with (ltb 0 (held + 0)))

-- A TEXT WITHIN THE LIMIT IS NEVER REFUSED, in no list of calls on blocks within the limit.
none_refused : (text : List ℕ) (es : List FieldEntry) (state : Held) (buffer : List ℕ) (p : Progress) → Kept text state buffer p → AllWithin (fields_of text) → field_limit ≤ length buffer
    → AllFieldsAllowed text p es → AllFieldsMeet state buffer es → NoneRefused es
unfolding AllFieldsAllowed FieldAllowed AllFieldsMeet NoneRefused
none_refused text [] state buffer p k within room ok w = tt
none_refused text (e ∷ es) state buffer p k within room ok w = (
  λ h. ap is_field_accepted w.0.call.answer
      ∙ call_accepted state.count buffer e.block e.last (accepted_here text state buffer p e.block ok.0.0 k ok.0.1 within room h),
  none_refused text es e.state e.buffer (next_progress text p e) (kept_call text state buffer p e ok.0.0 k ok.0.1 ok.0.2 w.0) within
      (omega (arith, kept_size text state buffer p e ok.0.0 k ok.0.1 ok.0.2 w.0)) ok.1 w.1,
)

pub never_refused : (text buffer : List ℕ) (es : List FieldEntry) → AllWithin (fields_of text) → field_limit ≤ length buffer → FieldTrace text buffer es → NoneRefused es
never_refused text buffer es within room t = none_refused text es fresh_held buffer opened_cutting (kept_start text buffer) within room t.allowed t.met

-- ---- a list that gives all fields: one unit a call, and a last call on an empty block
or_right : (a b : Bool) → b ≡ true → (a || b) ≡ true
or_right true b e = refl
or_right false b e = e

one_by_one : (left text : List ℕ) (state : Held) (buffer : List ℕ) (p : Progress) → Kept text state buffer p → drop p.position text ≡ left → AllWithin (fields_of text)
    → field_limit ≤ length buffer → (es : List FieldEntry) × AllFieldsAllowed text p es × AllFieldsMeet state buffer es × ((play_fields text p es).finished ≡ true)
unfolding AllFieldsAllowed FieldAllowed AllFieldsMeet play_fields next_progress answering
one_by_one [] text state buffer p k here within room =
    let ok = accepted_here text state buffer p [] [] k here within room (omega arith) in
    let all : p.position + read_by (field_call state.count buffer [] true).answer ≡ length text =
    omega (arith, end_read state.count buffer ok, ap length here, length-drop p.position text, k.within) in (
      answering state buffer [] true ∷ [],
      (([], here, λ e. refl), tt),
      (answering_meets state buffer [] true, tt),
      or_right p.finished _ (rw (call_accepted state.count buffer [] true ok) (eq-eqb _ _ all)),
    )
one_by_one (u ∷ left) text state buffer p k here within room =
    let ok = accepted_here text state buffer p (u ∷ []) left k here within room (omega arith) in
    let e = answering state buffer (u ∷ []) false in
    let met = answering_meets state buffer (u ∷ []) false in
    let past : drop (p.position + read_by e.answer) text ≡ left =
    ap (λ (n : ℕ). drop (p.position + n) text) (one_read state.count buffer u ok) ∙ drop_past p.position text (u ∷ []) left here in
    let later =
    one_by_one left text e.state e.buffer (next_progress text p e) (kept_call text state buffer p e left k here (λ q. absurd (false≢true q)) met) past within
    (omega (arith, kept_size text state buffer p e left k here (λ q. absurd (false≢true q)) met)) in
    (e ∷ later.0, ((left, here, λ q. absurd (false≢true q)), later.1), (met, later.2), later.3)

-- Every text whose fields are within the limit has a list of calls that gives all of its fields.
pub all_given : (text buffer : List ℕ) → AllWithin (fields_of text) → field_limit ≤ length buffer → (es : List FieldEntry) × FieldTrace text buffer es × ((play_fields text opened_cutting es).given ≡ fields_of text)
all_given text buffer within room =
    let (es, allowed, met, finished) = one_by_one text text fresh_held buffer opened_cutting (kept_start text buffer) refl within room in
    let t : FieldTrace text buffer es = record { allowed = allowed; met = met } in
    (es, t, (every_cutting text buffer es t).all_of_them finished)

-- ---- each refusal is met
refused_with : (held : ℕ) (buffer block : List ℕ) (why : Refusal) → field_refusal held buffer block ≡ some why → (field_call held buffer block false).answer ≡ Err why
unfolding field_call refused_field_call
refused_with held buffer block why e = rw e

buffer : List ℕ
buffer = replicate 256 0

room : length buffer ≡ 256
unfolding buffer
room = length-replicate {A = ℕ} 256 0

pub every_refusal : (why : Refusal) → (held : ℕ) × (buffer : List ℕ) × (block : List ℕ) × ((field_call held buffer block false).answer ≡ Err why)
unfolding field_units separator
every_refusal BufferTooShort = (0, [], [], refused_with 0 [] [] BufferTooShort (short 0 [] [] false (omega arith)))
every_refusal BlockTooLong = (0, buffer, block, refused_with 0 buffer block BlockTooLong (too_long 0 buffer block false (omega (arith, room)) (omega (arith, long))))
  where
    block : List ℕ
    block = replicate 65537 0

    long : length block ≡ 65537
    long = length-replicate {A = ℕ} 65537 0
every_refusal InvalidState = (257, buffer, [], refused_with 257 buffer [] InvalidState (invalid 257 buffer [] false (omega (arith, room)) (omega arith) (omega arith)))
every_refusal FieldTooLong =
    (256, buffer, 0x41 ∷ [], refused_with 256 buffer (0x41 ∷ []) FieldTooLong (over_limit 256 buffer (0x41 ∷ []) false (omega (arith, room)) (omega arith) (omega arith) one))
  where
    one : 256 < 256 + length (field_units (0x41 ∷ []))
    one = omega arith

-- ---- the worked texts
pub rows_hold : FieldRowsHold field_rows
unfolding fields_of separator prepend
rows_hold = (refl, (refl, (refl, (refl, (refl, (refl, (refl, tt)))))))
