-- Laws of the loops over the codes of a text: codes passed, counted and written.
use mathlib.Core.List.{List, [], ◌++◌, append_assoc, append-nil}
use mathlib.Core.Logic.{◌⊎◌, inl, inr}
use mathlib.Core.Option.{Option, none, some}
use mathlib.Core.Path.{◌≡◌, refl, sym, ap, ◌∙◌, subst}
use Prim.Native.Nat.{ℕ, ◌+◌, ◌≤◌}
use native.Mathlib.Omega.{arith}
use lib.ListN.{length, take, drop, length-append, take-append-drop}
use lib.Seq.{drop-drop, length-take-le, take_at, drop_at, sets, length-sets, sets-eq}
use Rattle.codepage.specs.Lent.{over}
use Rattle.codepage.specs.Reading.{bytes_of, Reader, Code, size_of, codes}
use Rattle.codepage.specs.Reading.{Lookup}
use Rattle.codepage_walk.specs.Walk.{placed_from, placed, CodeAt}
use Rattle.codepage_walk.proofs.WalkLaws.{codes_end, codes_next, placed_next}
use Rattle.std.specs.Prelude.{Some, None, Ok, Err}
use Rattle.spelling.specs.declared.Refusal.TheVariants.{AtFault}
use Rattle.spelling.specs.declared.SpelledCode.{SpelledCode}
use Rattle.spelling.specs.Spelling.{code_spelling, fault_or, first_at_fault, bytes_if, spelling_bytes, fault_of, bytes_for}
use Rattle.spelling.specs.Steps.{SpelledRead, counted_unless, counted_of, SpanSpelled, Begun}
use Rattle.spelling.proofs.SpellLaws.{some_of, none_of, some_unless_none}

-- ---- codes passed
module _ (r : Reader) (spell : Lookup → Option ℕ) (text : List ℕ) where
  -- nothing is passed
  pub passed_none : (from : ℕ) → SpanSpelled r spell text from from []
  passed_none from = record { fault = refl; spelled = refl }

  -- one stretch behind another
  pub passed_join : (from mid to : ℕ) (xs ys : List ℕ) → SpanSpelled r spell text from mid xs → SpanSpelled r spell text mid to ys → SpanSpelled r spell text from to (xs ++ ys)
  passed_join from mid to xs ys a b =
      record {
        fault = a.fault ∙ b.fault;
        spelled = a.spelled ∙ ap (λ (l : List ℕ). xs ++ l) b.spelled ∙ sym (append_assoc xs ys (spelling_bytes spell (codes r (drop to text))));
      }

  module _ (place : ℕ) (k : Code) (at : CodeAt r text place k) where
    -- the code at a place, spelled by a code
    pub passed_code : (code : ℕ) → spell k.means ≡ some code → SpanSpelled r spell text place (place + size_of k) (bytes_of code)
    unfolding first_at_fault spelling_bytes
    passed_code code e =
        let next = place + size_of k in
        record {
          fault = ap (first_at_fault spell) (placed_next r text place k at) ∙ ap (λ (o : Option ℕ). fault_or o place (first_at_fault spell (placed_from next (codes r (drop next text))))) e;
          spelled = ap (spelling_bytes spell) at.here ∙ ap (λ (o : Option ℕ). bytes_if o ++ spelling_bytes spell (codes r (drop next text))) e;
        }

    -- the code at a place is at fault
    pub fault_here : spell k.means ≡ none → first_at_fault spell (placed_from place (codes r (drop place text))) ≡ some place
    unfolding first_at_fault
    fault_here e =
        let next = place + size_of k in
        ap (first_at_fault spell) (placed_next r text place k at) ∙ ap (λ (o : Option ℕ). fault_or o place (first_at_fault spell (placed_from next (codes r (drop next text))))) e

  -- behind the last code
  pub fault_end : (place : ℕ) → length text ≤ place → first_at_fault spell (placed_from place (codes r (drop place text))) ≡ none
  unfolding first_at_fault placed_from
  fault_end place h = ap (λ (ks : List Code). first_at_fault spell (placed_from place ks)) (codes_end r text place h)

  pub bytes_end : (place : ℕ) → length text ≤ place → spelling_bytes spell (codes r (drop place text)) ≡ []
  unfolding spelling_bytes
  bytes_end place h = ap (spelling_bytes spell) (codes_end r text place h)

-- ---- the code at a place, as it was spelled
module _ (r : Reader) (index blocks text : List ℕ) (place : ℕ) (c : SpelledCode) (w : SpelledRead r index blocks text place c) where
  -- its size is 1 or 2, and it ends within the text
  pub size_inside : (1 ≤ c.size) × (c.size ≤ 2) × (place + c.size ≤ length text)
  size_inside =
      let next = codes_next r text place w.code (codes r (drop (place + size_of w.code) text)) w.at.here in
      subst (λ (n : ℕ). (1 ≤ n) × (n ≤ 2) × (place + n ≤ length text)) (sym w.size) (by next.size next.inside)
    where
      by : (size_of w.code ≡ 1) ⊎ (size_of w.code ≡ 2) → place + size_of w.code ≤ length text
          → (1 ≤ size_of w.code) × (size_of w.code ≤ 2) × (place + size_of w.code ≤ length text)
      by (inl e) h = (omega arith, omega arith, h)
      by (inr e) h = (omega arith, omega arith, h)

  -- it is at fault
  pub read_fault : c.code ≡ None → first_at_fault (code_spelling r index blocks) (placed_from place (codes r (drop place text))) ≡ some place
  read_fault e = fault_here r (code_spelling r index blocks) text place w.code w.at (none_of _ (sym w.spelling ∙ e))

  -- it is passed
  pub read_passed : (code : ℕ) → c.code ≡ Some code → SpanSpelled r (code_spelling r index blocks) text place (place + c.size) (bytes_of code)
  read_passed code e =
      subst (λ (n : ℕ). SpanSpelled r (code_spelling r index blocks) text place (place + n) (bytes_of code)) (sym w.size)
      (passed_code r (code_spelling r index blocks) text place w.code w.at code (some_of _ code (sym w.spelling ∙ e)))

-- ---- counting
-- up to a place no code is at fault, and the codes are spelled by so many bytes
pub record Counting (r : Reader) (index blocks text : List ℕ) (place count : ℕ) : Type 0 where
  pub bytes : List ℕ
  pub passed : SpanSpelled r (code_spelling r index blocks) text 0 place bytes
  pub size : length bytes ≡ count

module _ (r : Reader) (index blocks text : List ℕ) where
  module _ (place count : ℕ) (w : Counting r index blocks text place count) where
    -- one stretch more
    pub counting_more : (to : ℕ) (bytes : List ℕ) (n : ℕ) → SpanSpelled r (code_spelling r index blocks) text place to bytes → n ≡ length bytes → Counting r index blocks text to (count + n)
    counting_more to bytes n h e =
        record {
          bytes = w.bytes ++ bytes;
          passed = passed_join r (code_spelling r index blocks) text 0 place to w.bytes bytes w.passed h;
          size = omega (arith, length-append w.bytes bytes, w.size);
        }

    -- the code at the place is at fault
    pub counting_fault : first_at_fault (code_spelling r index blocks) (placed_from place (codes r (drop place text))) ≡ some place → Err (AtFault place) ≡ counted_of r index blocks text
    unfolding counted_of placed
    counting_fault e = sym (ap (λ (o : Option ℕ). counted_unless o (length (bytes_for r index blocks text))) (w.passed.fault ∙ e))

    -- behind the last code
    pub counting_end : length text ≤ place → Ok count ≡ counted_of r index blocks text
    unfolding counted_of placed
    counting_end h =
        let spell = code_spelling r index blocks in
        let total : length (bytes_for r index blocks text) ≡ count =
        ap (λ (l : List ℕ). length l) (w.passed.spelled ∙ ap (λ (l : List ℕ). w.bytes ++ l) (bytes_end r spell text place h) ∙ append-nil w.bytes) ∙ w.size in
        sym (ap (λ (o : Option ℕ). counted_unless o (length (bytes_for r index blocks text))) (w.passed.fault ∙ fault_end r spell text place h) ∙ ap (λ (n : ℕ). Ok n) total)

-- ---- writing
-- up to a place the spelling is written, and behind it the output is as before
pub record Writing (r : Reader) (index blocks text before : List ℕ) (place written : ℕ) (out : List ℕ) : Type 0 where
  pub passed : SpanSpelled r (code_spelling r index blocks) text 0 place (take written out)
  pub within : written ≤ length out
  pub same : length out ≡ length before
  pub kept : drop written out ≡ drop written before

-- a text that can be written: no code is at fault, and its spelling fits the room
pub record Writable (r : Reader) (index blocks text before : List ℕ) : Type 0 where
  pub no_fault : fault_of r index blocks text ≡ none
  pub fits : length (bytes_for r index blocks text) ≤ length before

-- what is written into a list at a place, with what is before and behind it
abbrev laid : (out : List ℕ) → (at : ℕ) → (bytes : List ℕ) → List ℕ
laid out at bytes = (take at out ++ bytes) ++ drop (at + length bytes) out

module _ (out : List ℕ) (at : ℕ) (bytes : List ℕ) (h : at + length bytes ≤ length out) where
  front_size : length (take at out ++ bytes) ≡ at + length bytes
  front_size = omega (arith, length-append (take at out) bytes, length-take-le at out (omega arith))

  laid_front : take (at + length bytes) (laid out at bytes) ≡ take at out ++ bytes
  laid_front = take_at (take at out ++ bytes) _ (at + length bytes) front_size

  laid_behind : drop (at + length bytes) (laid out at bytes) ≡ drop (at + length bytes) out
  laid_behind = drop_at (take at out ++ bytes) _ (at + length bytes) front_size

module _ (r : Reader) (index blocks text before : List ℕ) where
  -- before the first code
  pub writing_start : Writing r index blocks text before 0 0 before
  writing_start = record { passed = passed_none r (code_spelling r index blocks) text 0; within = omega arith; same = refl; kept = refl }

  module _ (place written : ℕ) (out : List ℕ) (w : Writing r index blocks text before place written out) where
    -- what comes next fits the room
    pub writing_room : Writable r index blocks text before → (to : ℕ) (bytes : List ℕ) → SpanSpelled r (code_spelling r index blocks) text place to bytes → written + length bytes ≤ length out
    writing_room able to bytes h =
        let rest = spelling_bytes (code_spelling r index blocks) (codes r (drop to text)) in
        let total : bytes_for r index blocks text ≡ take written out ++ (bytes ++ rest) = w.passed.spelled ∙ ap (λ (l : List ℕ). take written out ++ l) h.spelled in
        omega (arith, able.fits, ap (λ (l : List ℕ). length l) total, length-append (take written out) (bytes ++ rest), length-append bytes rest, length-take-le written out w.within, w.same)

    -- the code at the place is not at fault
    pub writing_coded : Writable r index blocks text before → (c : SpelledCode) → SpelledRead r index blocks text place c → (code : ℕ) × (c.code ≡ Some code)
    unfolding placed
    writing_coded able c s =
        some_unless_none c.code
        (λ e.
        let wrong : ◌≡◌ {A = Option ℕ} none (some place) = sym able.no_fault ∙ w.passed.fault ∙ read_fault r index blocks text place c s e in
        let z : ◌≡◌ {A = ℕ} 0 1 = cc in
        omega arith)

    -- one stretch more
    pub writing_more : (to : ℕ) (bytes after : List ℕ) → SpanSpelled r (code_spelling r index blocks) text place to bytes → written + length bytes ≤ length out → length after ≡ length out → after ≡ laid out written bytes
        → Writing r index blocks text before to (written + length bytes) after
    writing_more to bytes after h room size e =
        let n = length bytes in
        record {
          passed =
              subst (SpanSpelled r (code_spelling r index blocks) text 0 to) (sym (ap (take (written + n)) e ∙ laid_front out written bytes room))
              (passed_join r (code_spelling r index blocks) text 0 place to (take written out) bytes w.passed h);
          within = omega arith;
          same = size ∙ w.same;
          kept =
              ap (drop (written + n)) e ∙ laid_behind out written bytes room
              ∙ sym (drop-drop n written out) ∙ ap (drop n) w.kept ∙ drop-drop n written before;
        }

    -- behind the last code
    pub writing_end : length text ≤ place → out ≡ over before (bytes_for r index blocks text)
    unfolding over
    writing_end h =
        let total : bytes_for r index blocks text ≡ take written out =
        w.passed.spelled ∙ ap (λ (l : List ℕ). take written out ++ l) (bytes_end r (code_spelling r index blocks) text place h) ∙ append-nil (take written out) in
        let size : length (take written out) ≡ written = length-take-le written out w.within in
        sym (take-append-drop written out) ∙ ap (λ (l : List ℕ). take written out ++ l) w.kept
        ∙ ap (λ (n : ℕ). take written out ++ drop n before) (sym size)
        ∙ ap (λ (l : List ℕ). l ++ drop (length l) before) (sym total)

-- one code more, written by its bytes
pub writing_put : (r : Reader) (index blocks text before : List ℕ) (place written : ℕ) (out : List ℕ) → Writing r index blocks text before place written out → Writable r index blocks text before
    → (c : SpelledCode) → SpelledRead r index blocks text place c → (code : ℕ) → c.code ≡ Some code → (next : ℕ) (after : List ℕ) → (next ≡ written + length (bytes_of code)) × (after ≡ sets out written (bytes_of code))
    → Writing r index blocks text before (place + c.size) next after
writing_put r index blocks text before place written out w able c s code q next after (e, put) =
    let bytes = bytes_of code in
    let passed = read_passed r index blocks text place c s code q in
    let room = writing_room r index blocks text before place written out w able (place + c.size) bytes passed in
    subst (λ (n : ℕ). Writing r index blocks text before (place + c.size) n after) (sym e)
    (writing_more r index blocks text before place written out w (place + c.size) bytes after passed room (ap (λ (l : List ℕ). length l) put ∙ length-sets out written bytes) (put ∙ sets-eq bytes out written room))

-- what the writer requires
pub writable : (r : Reader) (index blocks text before : List ℕ) → (fault_of r index blocks text ≡ none) × (length (bytes_for r index blocks text) ≤ length before) → Writable r index blocks text before
writable r index blocks text before (a, b) = record { no_fault = a; fits = b }

-- the rest of a spelling that is begun, written
pub begun_writing : (r : Reader) (index blocks text : List ℕ) (from : ℕ) (out : List ℕ) → Begun r index blocks text from out → Writing r index blocks text out from from out
begun_writing r index blocks text from out b = record { passed = b.passed; within = b.within; same = refl; kept = refl }

-- the rest of a spelling that is begun has no fault and fits
pub begun_writable : (r : Reader) (index blocks text : List ℕ) (from : ℕ) (out : List ℕ) → Begun r index blocks text from out → Writable r index blocks text out
begun_writable r index blocks text from out b = record { no_fault = b.no_fault; fits = b.fits }

-- what is written over a beginning is written over what was there before
pub writing_rest : (r : Reader) (index blocks text before : List ℕ) (place written : ℕ) (out : List ℕ) → Writing r index blocks text before place written out → (after : List ℕ)
    → after ≡ over out (bytes_for r index blocks text) → after ≡ over before (bytes_for r index blocks text)
unfolding over
writing_rest r index blocks text before place written out w after e =
    let total = bytes_for r index blocks text in
    let rest = spelling_bytes (code_spelling r index blocks) (codes r (drop place text)) in
    let size : length total ≡ written + length rest = ap (λ (l : List ℕ). length l) w.passed.spelled ∙ length-append (take written out) rest ∙ ap (λ (n : ℕ). n + length rest) (length-take-le written out w.within) in
    let behind : drop (length total) out ≡ drop (length total) before =
    ap (λ (n : ℕ). drop n out) size ∙ sym (drop-drop (length rest) written out) ∙ ap (drop (length rest)) w.kept ∙ drop-drop (length rest) written before ∙ ap (λ (n : ℕ). drop n before) (sym size) in
    e ∙ ap (λ (l : List ℕ). total ++ l) behind
