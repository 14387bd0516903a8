-- CR 1: one claim over every list of calls.
use Rattle.std.proofs.Common.{Result, Ok, Err}
use mathlib.Core.Bool.{Bool, true, false, ◌&&◌, ◌||◌, false≢true}
use mathlib.Core.List.{List, [], ◌∷◌, ◌++◌, append_assoc, append-nil}
use mathlib.Core.Logic.{◌⊎◌, inl, inr}
use mathlib.Core.Option.{Option, none, some}
use mathlib.Core.Path.{◌≡◌, refl, sym, ap, ◌∙◌, subst}
use Prim.Native.Nat.{ℕ, suc, ◌+◌, ◌≤◌, ◌<◌}
use native.Mathlib.Omega.{arith}
use lib.Dec.{eqb, leb, ltb}
use lib.ListN.{length, take, drop, length-append, length-drop, length-take, drop_of_length-le}
use lib.Seq.{drop-drop, drop-append_seam, take_at, length-take-le}
use borrow.Author.Tests.{ltb-true, leb-true, eqb-true, le-leb, lt-ltb}
use Rattle.codepage.specs.CodePage.{pick}
use Rattle.codepage.specs.Lent.{over}
use Rattle.codepage_walk.specs.Checks.{refuse_unless}
use Rattle.convert.specs.Runs.{piece_limit}
use Rattle.fields.specs.declared.End.{End}
use Rattle.fields.specs.declared.End.TheVariants.{Bar, LineFeed, Text}
use Rattle.fields.specs.declared.Place.TheVariants.{Buffer, Block}
use Rattle.fields.specs.declared.Found.{Found}
use Rattle.fields.specs.declared.Refusal.{Refusal}
use Rattle.fields.specs.declared.Refusal.TheVariants.{BufferTooShort, BlockTooLong, InvalidState, FieldTooLong}
use Rattle.fields.specs.declared.Answer.{Answer}
use Rattle.fields.specs.declared.Answer.TheVariants.{Field as FieldFound, Incomplete}
use Rattle.fields.specs.declared.Held.{Held}
use Rattle.fields.specs.Fields.{Field, fields_of, separator, field_units, either_end, separator_in, end_in, field_limit, field_refusal, fresh_held, FieldCalled, read_with, over_from, found_call, held_call, refused_field_call, accepted_field_call, unless_field_refused, field_call, part_of, is_field_accepted, read_by}
use Rattle.fields.specs.Cuttings.{FieldEntry, Shown, EntryMeets, AllFieldsMeet, given_by, Progress, opened_cutting, next_progress, play_fields, FieldAllowed, AllFieldsAllowed, FieldTrace, Cut}
use Rattle.fields.proofs.FieldLaws.{separator_append, units_plain, units_all, split, field_first, field_last}
use Rattle.fields.proofs.CallLaws.{units_taken, units_fit}

-- ---- lists
-- what is left behind a block that was read
pub drop_past : (n : ℕ) (text a b : List ℕ) → drop n text ≡ a ++ b → drop (n + length a) text ≡ b
drop_past n text a b e = sym (drop-drop (length a) n text) ∙ ap (drop (length a)) e ∙ drop-append_seam a b

-- units laid behind those held
module _ (held : ℕ) (buffer units : List ℕ) (fits : held + length units ≤ length buffer) where
  laid_length : length (over_from held buffer units) ≡ length buffer
  unfolding over_from over
  laid_length =
      simp (length-append, length-drop, length-take) (omega arith)

  laid_front : take (held + length units) (over_from held buffer units) ≡ take held buffer ++ units
  unfolding over_from over
  laid_front =
      let size : length (take held buffer ++ units) ≡ held + length units =
      length-append (take held buffer) units ∙ ap (λ (n : ℕ). n + length units) (length-take-le held buffer (omega arith)) in
      ap (take (held + length units)) (sym (append_assoc (take held buffer) units (drop (length units) (drop held buffer))))
      ∙ take_at (take held buffer ++ units) (drop (length units) (drop held buffer)) (held + length units) size

-- ---- one call
-- what `field` shows of an answer
abbrev pub shown_of : Result Answer Refusal → (buffer block : List ℕ) → List ℕ
shown_of (Ok (FieldFound found)) buffer block = part_of found buffer block
shown_of (Ok (Incomplete read)) buffer block = []
shown_of (Err why) buffer block = []

-- a call that found a field
pub record FoundAs (c : FieldCalled) (buffer block units : List ℕ) (end : End) (read : ℕ) : Type 0 where
  pub found : Found
  pub answer : c.answer ≡ Ok (FieldFound found)
  pub end_is : found.end ≡ end
  pub read_is : found.read ≡ read
  pub held_is : c.held ≡ 0
  pub part_is : part_of found c.buffer block ≡ units
  pub same_size : length c.buffer ≡ length buffer

pub found_as : (held : ℕ) (buffer block : List ℕ) (end : End) → held + length (field_units block) ≤ length buffer
    → FoundAs (found_call held buffer (field_units block) end) buffer block (take held buffer ++ field_units block) end (read_with end (length (field_units block)))
unfolding found_call part_of
found_as held buffer block end fits = by (eqb held 0) refl
  where
    by : (t : Bool) → eqb held 0 ≡ t → FoundAs (found_call held buffer (field_units block) end) buffer block (take held buffer ++ field_units block) end (read_with end (length (field_units block)))
    by true q =
        rw q
        (record {
          found = record { end = end; place = Block; count = length (field_units block); read = read_with end (length (field_units block)) };
          answer = refl;
          end_is = refl;
          read_is = refl;
          held_is = refl;
          part_is = rw (le-leb (length (field_units block)) (length block) (units_fit block), eqb-true held 0 q) (units_taken block);
          same_size = refl;
        })
    by false q =
        rw q
        (record {
          found = record { end = end; place = Buffer; count = held + length (field_units block); read = read_with end (length (field_units block)) };
          answer = refl;
          end_is = refl;
          read_is = refl;
          held_is = refl;
          part_is =
              let inside : held + length (field_units block) ≤ length (over_from held buffer (field_units block)) = rw (laid_length held buffer (field_units block) fits) fits in
              rw (le-leb (held + length (field_units block)) (length (over_from held buffer (field_units block))) inside) (laid_front held buffer (field_units block) fits);
          same_size = laid_length held buffer (field_units block) fits;
        })

-- what an accepted call has of its checks
check_holds : (why : Refusal) (t : Bool) (o : Option Refusal) → refuse_unless why t o ≡ none → (t ≡ true) × (o ≡ none)
check_holds why true o e = (refl, e)
check_holds why false o e = let z : ◌≡◌ {A = ℕ} 0 1 = cc in absurd (omega arith)

-- an accepted call: the buffer has at least 256 units; the units held and the field's units in the block are at most 256
pub accepted_fits : (held : ℕ) (buffer block : List ℕ) → field_refusal held buffer block ≡ none → (field_limit ≤ length buffer) × (held + length (field_units block) ≤ field_limit)
unfolding field_refusal
accepted_fits held buffer block e =
    let fourth : Option Refusal = refuse_unless FieldTooLong (leb (held + length (field_units block)) field_limit) none in
    let third : Option Refusal = refuse_unless InvalidState (leb held field_limit) fourth in
    let second : Option Refusal = refuse_unless BlockTooLong (leb (length block) piece_limit) third in
    let a = check_holds BufferTooShort (leb field_limit (length buffer)) second e in
    let b = check_holds BlockTooLong (leb (length block) piece_limit) third a.1 in
    let d = check_holds InvalidState (leb held field_limit) fourth b.1 in
    let f = check_holds FieldTooLong (leb (held + length (field_units block)) field_limit) none d.1 in
    (leb-true _ _ a.0, leb-true _ _ f.0)

-- a separator is not the text's end: it is read with its field
pub separator_read : (u : ℕ) (end : End) (n : ℕ) → separator u ≡ some end → read_with end n ≡ n + 1
unfolding separator
separator_read u end n e = by (eqb u 0x7C) (eqb u 0x0A) end e
  where
    by : (a b : Bool) (end : End) → pick a (some Bar) (pick b (some LineFeed) none) ≡ some end → read_with end n ≡ n + 1
    by a b Bar e = refl
    by a b LineFeed e = refl
    by true b Text e = let z : ◌≡◌ {A = ℕ} 0 1 = cc in absurd (omega arith)
    by false true Text e = let z : ◌≡◌ {A = ℕ} 0 1 = cc in absurd (omega arith)
    by false false Text e = let z : ◌≡◌ {A = ℕ} 0 1 = cc in absurd (omega arith)

-- what ended the field: a separator in the block or, where there is none, the text's end or nothing
pub or_cases : (o : Option End) (t : Bool) (p : Option End) → either_end o (pick t (some Text) none) ≡ p
    → ((end : End) × (o ≡ some end) × (p ≡ some end)) ⊎ ((o ≡ none) × (p ≡ pick t (some Text) none))
or_cases none t p e = inr (refl, sym e)
or_cases (some end) t p e = inl (end, refl, sym e)

pub and_true : (a b : Bool) → (a && b) ≡ true → (a ≡ true) × (b ≡ true)
and_true true b e = (refl, e)
and_true false b e = absurd (false≢true e)

module _ (text : List ℕ) (held : ℕ) (buffer : List ℕ) (position : ℕ) (block rest : List ℕ) (last : Bool) (inside : held ≤ length buffer) (plain : separator_in (take held buffer) ≡ none)
    (here : drop position text ≡ block ++ rest) (to_end : last ≡ true → rest ≡ []) where
  -- what a call does to the fields that are left
  record Goes (c : FieldCalled) : Type 0 where
    given : List Field
    read : ℕ
    is_given : given_by c.answer (shown_of c.answer c.buffer block) ≡ given
    is_read : read_by c.answer ≡ read
    read_fits : read ≤ length block
    same_size : length c.buffer ≡ length buffer
    now_inside : c.held ≤ length c.buffer
    now_plain : separator_in (take c.held c.buffer) ≡ none
    left : fields_of (take held buffer ++ drop position text) ≡ given ++ fields_of (take c.held c.buffer ++ drop (position + read) text)
    done : is_field_accepted c.answer ≡ true → last ≡ true → drop (position + read) text ≡ [] → fields_of (take c.held c.buffer ++ drop (position + read) text) ≡ []

  goes_refused : (why : Refusal) → Goes (refused_field_call held buffer why)
  unfolding refused_field_call
  goes_refused why =
      let z : position + 0 ≡ position = omega arith in
      record {
        given = [];
        read = 0;
        is_given = refl;
        is_read = refl;
        read_fits = omega arith;
        same_size = refl;
        now_inside = inside;
        now_plain = plain;
        left = ap (λ (n : ℕ). fields_of (take held buffer ++ drop n text)) (sym z);
        done = λ e. absurd (false≢true e);
      }

  -- the units held and the block's
  both_plain : separator_in block ≡ none → separator_in (take held buffer ++ block) ≡ none
  both_plain e = separator_append (take held buffer) block plain ∙ e

  goes_held : held + length block ≤ length buffer → separator_in block ≡ none → (last ≡ true → held + length block ≡ 0) → Goes (held_call held buffer block)
  unfolding held_call fields_of
  goes_held fits none_there empty =
      record {
        given = [];
        read = length block;
        is_given = refl;
        is_read = refl;
        read_fits = omega arith;
        same_size = laid_length held buffer block fits;
        now_inside = rw (laid_length held buffer block fits) fits;
        now_plain = ap separator_in (laid_front held buffer block fits) ∙ both_plain none_there;
        left =
            ap (λ (l : List ℕ). fields_of (take held buffer ++ l)) here
            ∙ ap fields_of (sym (append_assoc (take held buffer) block rest))
            ∙ ap (λ (l : List ℕ). fields_of (l ++ rest)) (sym (laid_front held buffer block fits))
            ∙ ap (λ (l : List ℕ). fields_of (take (held + length block) (over_from held buffer block) ++ l)) (sym (drop_past position text block rest here));
        done = λ a e nothing.
            ap (λ (l : List ℕ). fields_of (take (held + length block) (over_from held buffer block) ++ l)) nothing
            ∙ ap (λ (n : ℕ). fields_of (take n (over_from held buffer block) ++ [])) (empty e);
      }

  -- a field was found: what is left is behind it
  goes_found : (c : FieldCalled) (end : End) (n : ℕ) → FoundAs c buffer block (take held buffer ++ field_units block) end n → n ≤ length block
      → fields_of (take held buffer ++ drop position text) ≡ record { units = take held buffer ++ field_units block; end = end } ∷ fields_of (drop (position + n) text) → Goes c
  unfolding fields_of separator_in
  goes_found c end n f fits e =
      let nothing : take c.held c.buffer ≡ [] = ap (λ (k : ℕ). take k c.buffer) f.held_is in
      record {
        given = record { units = take held buffer ++ field_units block; end = end } ∷ [];
        read = n;
        is_given =
            ap (λ (a : Result Answer Refusal). given_by a (shown_of a c.buffer block)) f.answer
            ∙ ap (λ (l : List ℕ). record { units = l; end = f.found.end } ∷ []) f.part_is
            ∙ ap (λ (x : End). record { units = take held buffer ++ field_units block; end = x } ∷ []) f.end_is;
        is_read = ap read_by f.answer ∙ f.read_is;
        read_fits = fits;
        same_size = f.same_size;
        now_inside = omega (arith, f.held_is);
        now_plain = ap separator_in nothing;
        left = e ∙ ap (λ (l : List ℕ). record { units = take held buffer ++ field_units block; end = end } ∷ fields_of (l ++ drop (position + n) text)) (sym nothing);
        done = λ a b q. ap (λ (l : List ℕ). fields_of (l ++ drop (position + n) text)) nothing ∙ ap fields_of q;
      }

  goes_separator : (end : End) → held + length (field_units block) ≤ length buffer → separator_in block ≡ some end → Goes (found_call held buffer (field_units block) end)
  goes_separator end fits e =
      let s = split block end e in
      let units = field_units block in
      let n : read_with end (length units) ≡ length units + 1 = separator_read s.unit end (length units) s.is_end in
      let there : drop position text ≡ (units ++ (s.unit ∷ [])) ++ (s.behind ++ rest) = here ∙ ap (λ (l : List ℕ). l ++ rest) s.parts ∙ simp append_assoc in
      let past : drop (position + read_with end (length units)) text ≡ s.behind ++ rest =
      ap (λ (k : ℕ). drop (position + k) text) (n ∙ sym (length-append units (s.unit ∷ []))) ∙ drop_past position text (units ++ (s.unit ∷ [])) (s.behind ++ rest) there in
      let size : length block ≡ length units + suc (length s.behind) = ap length s.parts ∙ length-append units (s.unit ∷ s.behind) in
      goes_found _ end (read_with end (length units)) (found_as held buffer block end fits) (omega arith)
      (ap (λ (l : List ℕ). fields_of (take held buffer ++ l)) there
      ∙ ap fields_of (simp append_assoc)
      ∙ field_first (take held buffer ++ units) s.unit end (s.behind ++ rest) (separator_append (take held buffer) units plain ∙ units_plain block) s.is_end
      ∙ ap (λ (l : List ℕ). record { units = take held buffer ++ units; end = end } ∷ fields_of l) (sym past))

  goes_text : held + length (field_units block) ≤ length buffer → separator_in block ≡ none → last ≡ true → 0 < held + length block → Goes (found_call held buffer (field_units block) Text)
  unfolding fields_of
  goes_text fits e l some_units =
      let all : field_units block ≡ block = units_all block e in
      let size : 0 < length (take held buffer ++ block) = rw (length-append, length-take-le held buffer inside) some_units in
      let past : drop (position + length (field_units block)) text ≡ [] =
      ap (λ (k : List ℕ). drop (position + length k) text) all ∙ drop_past position text block rest here ∙ to_end l in
      goes_found _ Text (length (field_units block)) (found_as held buffer block Text fits) (units_fit block)
      (ap (λ (k : List ℕ). fields_of (take held buffer ++ k)) (here ∙ ap (λ (r : List ℕ). block ++ r) (to_end l) ∙ append-nil block)
      ∙ field_last (take held buffer ++ block) (both_plain e) size
      ∙ ap (λ (k : List ℕ). record { units = take held buffer ++ k; end = Text } ∷ []) (sym all)
      ∙ ap (λ (k : List ℕ). record { units = take held buffer ++ field_units block; end = Text } ∷ fields_of k) (sym past))

  goes_accepted : (o : Option End) → field_refusal held buffer block ≡ none → end_in held block last ≡ o → Goes (accepted_field_call held buffer block o)
  unfolding end_in
  goes_accepted o a e = by_end (or_cases (separator_in block) (last && ltb 0 (held + length block)) o e)
    where
      fits : held + length (field_units block) ≤ length buffer
      fits = omega (arith, (accepted_fits held buffer block a).0, (accepted_fits held buffer block a).1)

      by_test : (t : Bool) → (last && ltb 0 (held + length block)) ≡ t → separator_in block ≡ none → Goes (accepted_field_call held buffer block (pick t (some Text) none))
      by_test true q s = let w = and_true last (ltb 0 (held + length block)) q in goes_text fits s w.0 (ltb-true _ _ w.1)
      by_test false q s =
          goes_held (subst (λ (l : List ℕ). held + length l ≤ length buffer) (units_all block s) fits) s
          (λ l. let z : 0 < held + length block → ⊥ = λ h. false≢true (sym q ∙ rw (l, lt-ltb 0 (held + length block) h)) in omega arith)

      by_end : ((end : End) × (separator_in block ≡ some end) × (o ≡ some end)) ⊎ ((separator_in block ≡ none) × (o ≡ pick (last && ltb 0 (held + length block)) (some Text) none))
          → Goes (accepted_field_call held buffer block o)
      by_end (inl (end, s, q)) = subst (λ (x : Option End). Goes (accepted_field_call held buffer block x)) (sym q) (goes_separator end fits s)
      by_end (inr (s, q)) = subst (λ (x : Option End). Goes (accepted_field_call held buffer block x)) (sym q) (by_test (last && ltb 0 (held + length block)) refl s)

  goes : Goes (field_call held buffer block last)
  unfolding field_call
  goes = by (field_refusal held buffer block) refl
    where
      by : (o : Option Refusal) → field_refusal held buffer block ≡ o → Goes (unless_field_refused held buffer o (accepted_field_call held buffer block (end_in held block last)))
      by none e = goes_accepted (end_in held block last) e refl
      by (some why) e = goes_refused why

-- ---- a list of calls
-- What holds between calls: the units held are no separators, and the fields of the text are those given and those of what is left.
pub record Kept (text : List ℕ) (state : Held) (buffer : List ℕ) (p : Progress) : Type 0 where
  pub inside : state.count ≤ length buffer
  pub plain : separator_in (take state.count buffer) ≡ none
  pub within : p.position ≤ length text
  pub left : fields_of text ≡ p.given ++ fields_of (take state.count buffer ++ drop p.position text)
  pub all : p.finished ≡ true → fields_of text ≡ p.given

-- before the first call nothing is held, and all of the text is left
pub kept_start : (text buffer : List ℕ) → Kept text fresh_held buffer opened_cutting
unfolding separator_in
kept_start text buffer = record { inside = omega arith; plain = refl; within = omega arith; left = refl; all = λ e. absurd (false≢true e) }

shown_given : (a : Result Answer Refusal) (buffer block part : List ℕ) → Shown a buffer block part → given_by a part ≡ given_by a (shown_of a buffer block)
shown_given (Ok (FieldFound found)) buffer block part e = ap (λ (l : List ℕ). record { units = l; end = found.end } ∷ []) e
shown_given (Ok (Incomplete read)) buffer block part e = refl
shown_given (Err why) buffer block part e = refl

-- nothing is given behind all of them
no_more : (fields given more others : List Field) → fields ≡ given → fields ≡ (given ++ more) ++ others → fields ≡ given ++ more
no_more fields given [] others e q = e ∙ sym (append-nil given)
no_more fields given (f ∷ more) others e q =
    let n : length fields ≡ length given + suc (length more) + length others =
    ap length q ∙ length-append (given ++ (f ∷ more)) others ∙ ap (λ (k : ℕ). k + length others) (length-append given (f ∷ more)) in
    absurd (omega (arith, ap length e))

or_true : (a b : Bool) → (a || b) ≡ true → (a ≡ true) ⊎ (b ≡ true)
or_true true b e = inl refl
or_true false b e = inr e

module _ (text : List ℕ) (state : Held) (buffer : List ℕ) (p : Progress) (e : FieldEntry) (rest : List ℕ) (k : Kept text state buffer p) (here : drop p.position text ≡ e.block ++ rest)
    (to_end : e.last ≡ true → rest ≡ []) (w : EntryMeets state buffer e) where
  abbrev call : FieldCalled
  call = field_call state.count buffer e.block e.last

  went : Goes text state.count buffer p.position e.block rest e.last k.inside k.plain here to_end call
  went = goes text state.count buffer p.position e.block rest e.last k.inside k.plain here to_end

  -- what the program returned is what the call says
  held_now : take e.state.count e.buffer ≡ take call.held call.buffer
  held_now = ap (λ (n : ℕ). take n e.buffer) w.call.state ∙ ap (take call.held) w.call.buffer

  read_now : read_by e.answer ≡ went.read
  read_now = ap read_by w.call.answer ∙ went.is_read

  given_now : given_by e.answer e.part ≡ went.given
  given_now =
      shown_given e.answer e.buffer e.block e.part w.part
      ∙ ap (λ (l : List ℕ). given_by e.answer (shown_of e.answer l e.block)) w.call.buffer
      ∙ ap (λ (a : Result Answer Refusal). given_by a (shown_of a call.buffer e.block)) w.call.answer
      ∙ went.is_given

  -- what is left after the call
  abbrev later : List Field
  later = fields_of (take e.state.count e.buffer ++ drop (p.position + read_by e.answer) text)

  later_is : later ≡ fields_of (take call.held call.buffer ++ drop (p.position + went.read) text)
  later_is =
      ap (λ (l : List ℕ). fields_of (l ++ drop (p.position + read_by e.answer) text)) held_now
      ∙ ap (λ (n : ℕ). fields_of (take call.held call.buffer ++ drop (p.position + n) text)) read_now

  left_now : fields_of text ≡ (p.given ++ given_by e.answer e.part) ++ later
  left_now =
      k.left
      ∙ ap (λ (l : List Field). p.given ++ l) went.left
      ∙ sym (append_assoc p.given went.given (fields_of (take call.held call.buffer ++ drop (p.position + went.read) text)))
      ∙ ap (λ (l : List Field). (p.given ++ l) ++ fields_of (take call.held call.buffer ++ drop (p.position + went.read) text)) (sym given_now)
      ∙ ap (λ (l : List Field). (p.given ++ given_by e.answer e.part) ++ l) (sym later_is)

  all_now : is_field_accepted e.answer ≡ true → e.last ≡ true → p.position + read_by e.answer ≡ length text → later ≡ []
  all_now a l n =
      later_is
      ∙ went.done (ap is_field_accepted (sym w.call.answer) ∙ a) l (drop_of_length-le text {i = p.position + went.read} (omega (arith, read_now)))

  -- a call keeps the buffer's length
  pub kept_size : length e.buffer ≡ length buffer
  kept_size = ap length w.call.buffer ∙ went.same_size

  -- An allowed call that meets the contracts keeps it: the fields are those given, and those of what is held and left.
  pub kept_call : Kept text e.state e.buffer (next_progress text p e)
  unfolding next_progress
  kept_call =
      record {
        inside = omega (arith, went.now_inside, w.call.state, ap length w.call.buffer);
        plain = ap separator_in held_now ∙ went.now_plain;
        within = omega (arith, read_now, went.read_fits, ap length here, length-drop p.position text, length-append e.block rest, k.within);
        left = left_now;
        all = λ f. by (or_true p.finished _ f);
      }
    where
      by : (p.finished ≡ true) ⊎ ((is_field_accepted e.answer && (e.last && eqb (p.position + read_by e.answer) (length text))) ≡ true)
          → fields_of text ≡ p.given ++ given_by e.answer e.part
      by (inl f) = no_more (fields_of text) p.given _ later (k.all f) left_now
      by (inr f) =
          let a = and_true _ _ f in
          let l = and_true _ _ a.1 in
          left_now ∙ ap (λ (x : List Field). (p.given ++ given_by e.answer e.part) ++ x) (all_now a.0 l.0 (eqb-true _ _ l.1)) ∙ append-nil _

kept_list : (text : List ℕ) (es : List FieldEntry) (state : Held) (buffer : List ℕ) (p : Progress) → Kept text state buffer p → AllFieldsAllowed text p es → AllFieldsMeet state buffer es
    → (state' : Held) × (buffer' : List ℕ) × Kept text state' buffer' (play_fields text p es)
unfolding AllFieldsAllowed FieldAllowed AllFieldsMeet play_fields
kept_list text [] state buffer p k ok w = (state, buffer, k)
kept_list text (e ∷ es) state buffer p k ok w =
    kept_list text es e.state e.buffer (next_progress text p e) (kept_call text state buffer p e ok.0.0 k ok.0.1 ok.0.2 w.0) ok.1 w.1

-- THE THEOREM: for every text, every buffer, every list of calls that the document allows, refused ones included, and every result
-- that meets the contracts of the program's calls.
pub every_cutting : (text buffer : List ℕ) (es : List FieldEntry) → FieldTrace text buffer es → Cut text es
every_cutting text buffer es t =
    let k = kept_list text es fresh_held buffer opened_cutting (kept_start text buffer) t.allowed t.met in
    record { begins = (_, k.2.left); all_of_them = λ f. sym (k.2.all f) }
