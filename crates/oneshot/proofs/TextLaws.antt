-- Laws of the call on a whole text.
use mathlib.Core.Bool.{Bool, true, false, true≢false}
use mathlib.Core.List.{List, [], ◌∷◌, map}
use mathlib.Core.Logic.{◌⊎◌, inl, inr}
use mathlib.Core.Option.{Option, none, some}
use mathlib.Core.Path.{◌≡◌, refl, sym, ap, ap₂, ◌∙◌}
use Prim.Native.Nat.{ℕ, zero, suc, ◌+◌, ◌-◌, ◌*◌, ◌<◌, ◌≤◌}
use native.Mathlib.Omega.{arith}
use lib.Dec.{leb, ltb, eqb}
use lib.ListN.{length, length-append, take, drop}
use denote.Ref.{MutBor}
use lib.Seq.{take_at}
use borrow.Author.Tests.{leb-true, le-leb, ltb-true, ltb-false, eq-eqb, ne_eqb}
use Rattle.codepage.specs.CodePage.{CodePage, pick, entry_at, GoodShape, first_fault, is_good}
use Rattle.codepage.specs.Reading.{Code, size_of, call_codes, left_pending}
use Rattle.codepage.proofs.ShapeLaws.{shape_exact}
use Rattle.engine.specs.declared.Direction.{Direction}
use Rattle.engine.specs.declared.Direction.TheVariants.{Decoding, Encoding}
use Rattle.engine.specs.declared.Policy.{Policy}
use Rattle.oneshot.specs.declared.Totals.{Totals}
use Rattle.oneshot.specs.declared.Converted.{Converted}
use Rattle.oneshot.specs.declared.TextRefusal.{TextRefusal}
use Rattle.oneshot.specs.declared.TextRefusal.TheVariants.{BadPolicy, BadShape, TooLong}
use Rattle.std.specs.Prelude.{Ok, Err}
use Rattle.std.proofs.lemmas.List.{take-map, length-map}
use Rattle.engine.specs.declared.progress.Progress.{Progress}
use Rattle.engine.specs.Policies.{policy_allowed}
use Rattle.engine.specs.Engine.{Effect, Converter, Room, limit, endless, fits, room_left, Fed, halt, after, stop_at, take_when, take_code, take_codes, feed_from}
use Rattle.convert.specs.Runs.{piece_limit}
use Rattle.convert.specs.Calls.{check}
use Rattle.codepage.specs.Lent.{over}
use Rattle.engine.specs.Engine.{converter_of}
use Rattle.oneshot.specs.Texts.{text_refusal, Text, answer_of, accepted_text, refused_text, text_fed, text_of, ending_number, refused_number, totals_or_none, ConvertedAs, FilledAs}
use Rattle.oneshot.specs.Steps.{totals_by}
use Rattle.engine.specs.Steps.{summary}
use Rattle.engine.proofs.EngineLaws.{shape_from}

-- ---- the refusals
-- a refusal's number is at least 10
pub number_from : (refusal : TextRefusal) → 10 ≤ refused_number refusal
number_from BadPolicy = omega arith
number_from BadShape = omega arith
number_from TooLong = omega arith

-- What the three checks say of an accepted call: digits allowed, a good shape, a text of at most 65,536 units.
pub record TextAccepted (direction : Direction) (policy : Policy) (p : CodePage) (count : ℕ) : Type 0 where
  pub policy_allowed : policy_allowed direction policy ≡ true
  pub good : GoodShape p
  pub short : count ≤ piece_limit

three_pass : (b₁ b₂ b₃ : Bool) → check 17 b₁ (check 10 b₂ (check 11 b₃ 0)) ≡ 0 → (b₁ ≡ true) × (b₂ ≡ true) × (b₃ ≡ true)
three_pass false b₂ b₃ e = absurd (omega arith)
three_pass true false b₃ e = absurd (omega arith)
three_pass true true false e = absurd (omega arith)
three_pass true true true e = (refl, refl, refl)

-- a call that no check refuses passed all three
pub text_accepted : (direction : Direction) (policy : Policy) (p : CodePage) (count : ℕ) → text_refusal direction policy p count ≡ 0 → TextAccepted direction policy p count
unfolding text_refusal
text_accepted direction policy p count e =
    let t = three_pass (policy_allowed direction policy) (is_good (first_fault p)) (leb count piece_limit) e in
    record { policy_allowed = t.0; good = (shape_exact p).0 t.1; short = leb-true _ _ t.2 }

-- ---- the answers of a call marked last
one_of : (n : ℕ) → n ≤ 3 → (n ≡ 1 → ⊥) → (n ≡ 0) ⊎ ((n ≡ 2) ⊎ (n ≡ 3))
one_of zero h e = inl refl
one_of (suc zero) h e = absurd (e refl)
one_of (suc (suc zero)) h e = inr (inl refl)
one_of (suc (suc (suc zero))) h e = inr (inr refl)
one_of (suc (suc (suc (suc n)))) h e = absurd (omega arith)

-- a text as a whole comes to 0, 2 or 3, never to 1: it is marked last, so no unit is left pending
pub text_answer : (direction : Direction) (policy : Policy) (p : CodePage) (room : Room) (text : List ℕ) (s : Progress) → s ≡ summary (text_fed direction policy p room text)
    → (s.answer ≡ 0) ⊎ ((s.answer ≡ 2) ⊎ (s.answer ≡ 3))
unfolding text_fed summary
text_answer direction policy p room text s e =
    let formed = shape_from (converter_of direction p policy) true room none text tt in
    let answer : s.answer ≡ (feed_from (converter_of direction p policy) true room none text).answer = ap (λ (x : Progress). x.answer) e in
    one_of s.answer (omega (arith, formed.known)) (λ z. true≢false (formed.holds (sym answer ∙ z)).2)

-- with room that never ends no answer is 2
never_code : (n : ℕ) (k : Effect) (f : Fed) (s : Bool) → (f.answer ≡ 2 → ⊥) → (take_when s true n k f).answer ≡ 2 → ⊥
unfolding take_when stop_at after
never_code n k f true h e = omega arith
never_code n k f false h e = h e

never_codes : (v : Converter) (ks : List Code) (pending : Option ℕ) → (take_codes v endless ks pending).answer ≡ 2 → ⊥
unfolding take_codes take_code fits room_left halt
never_codes v [] none e = omega arith
never_codes v [] (some c) e = omega arith
never_codes v (k ∷ ks) pending e = never_code (size_of k) (v.does k) _ (v.does k).stops (never_codes v ks pending) e

-- with room that never ends no code fails to fit: the answer is not 2
pub never_full : (v : Converter) (last : Bool) (p : Option ℕ) (l : List ℕ) → (feed_from v last endless p l).answer ≡ 2 → ⊥
unfolding feed_from
never_full v last p l e = never_codes v (call_codes v.reader last p l) (left_pending v.reader last p l) e

-- ---- room for all, or not
ample_take : (s : Bool) (n room : ℕ) (k : Effect) (f g : Fed) → length (take_when s true n k g).output ≤ room → (length g.output ≤ room - length k.writes → f ≡ g) → take_when s (leb (length k.writes) room) n k f ≡ take_when s true n k g
unfolding take_when after
ample_take true n room k f g h e = refl
ample_take false n room k f g h e =
    let whole = length-append k.writes g.output in
    rw (le-leb (length k.writes) room (omega arith)) (ap (after n k.writes k.flag) (e (omega arith)))

ample_codes : (v : Converter) (room : ℕ) (ks : List Code) (pending : Option ℕ) → length (take_codes v endless ks pending).output ≤ room → take_codes v (limit room) ks pending ≡ take_codes v endless ks pending
unfolding take_codes take_code fits room_left
ample_codes v room [] pending h = refl
ample_codes v room (k ∷ ks) pending h = ample_take (v.does k).stops (size_of k) room (v.does k) _ _ h (ample_codes v (room - length (v.does k).writes) ks pending)

-- with room for what all of it needs, the conversion is the whole reading
pub ample : (v : Converter) (last : Bool) (room : ℕ) (p : Option ℕ) (l : List ℕ) → length (feed_from v last endless p l).output ≤ room → feed_from v last (limit room) p l ≡ feed_from v last endless p l
unfolding feed_from
ample v last room p l h = ample_codes v room (call_codes v.reader last p l) (left_pending v.reader last p l) h

scant_take : (s : Bool) (n room : ℕ) (k : Effect) (f g : Fed) → room < length (take_when s true n k g).output → (room - length k.writes < length g.output → f.answer ≡ 2) → (take_when s (leb (length k.writes) room) n k f).answer ≡ 2
unfolding take_when after stop_at halt
scant_take true n room k f g h e = absurd (omega arith)
scant_take false n room k f g h e = by_fit (leb (length k.writes) room) refl
  where
    by_fit : (t : Bool) → leb (length k.writes) room ≡ t → (take_when false t n k f).answer ≡ 2
    by_fit true q = e (omega (arith, leb-true (length k.writes) room q, length-append k.writes g.output))
    by_fit false q = refl

scant_codes : (v : Converter) (room : ℕ) (ks : List Code) (pending : Option ℕ) → room < length (take_codes v endless ks pending).output → (take_codes v (limit room) ks pending).answer ≡ 2
unfolding take_codes take_code fits room_left halt
scant_codes v room [] pending h = absurd (omega arith)
scant_codes v room (k ∷ ks) pending h = scant_take (v.does k).stops (size_of k) room (v.does k) _ _ h (scant_codes v (room - length (v.does k).writes) ks pending)

-- with less, a code does not fit
pub scant : (v : Converter) (last : Bool) (room : ℕ) (p : Option ℕ) (l : List ℕ) → room < length (feed_from v last endless p l).output → (feed_from v last (limit room) p l).answer ≡ 2
unfolding feed_from
scant v last room p l h = scant_codes v room (call_codes v.reader last p l) (left_pending v.reader last p l) h

-- where all codes fitted, the conversion is the whole reading
pub fitted : (v : Converter) (room : ℕ) (l : List ℕ) → ((feed_from v true (limit room) none l).answer ≡ 2 → ⊥) → feed_from v true (limit room) none l ≡ feed_from v true endless none l
fitted v room l n = by_room (ltb room (length (feed_from v true endless none l).output)) refl
  where
    by_room : (t : Bool) → ltb room (length (feed_from v true endless none l).output) ≡ t → feed_from v true (limit room) none l ≡ feed_from v true endless none l
    by_room true q = absurd (n (scant v true room none l (ltb-true _ _ q)))
    by_room false q = ample v true room none l (ltb-false _ _ q)

-- the answer by the need is the conversion's own
pub answer_is : (v : Converter) (room : ℕ) (l : List ℕ) → answer_of (feed_from v true endless none l) room ≡ (feed_from v true (limit room) none l).answer
unfolding answer_of
answer_is v room l = by_room (ltb room (length (feed_from v true endless none l).output)) refl
  where
    by_room : (t : Bool) → ltb room (length (feed_from v true endless none l).output) ≡ t → pick t 2 (feed_from v true endless none l).answer ≡ (feed_from v true (limit room) none l).answer
    by_room true q = sym (scant v true room none l (ltb-true _ _ q))
    by_room false q = ap (λ (f : Fed). f.answer) (sym (ample v true room none l (ltb-false _ _ q)))

-- ---- the promises
module _ (direction : Direction) (policy : Policy) (p : CodePage) (text : List ℕ) where
  -- A refused call, with its refusal and the output untouched, keeps the promise.
  pub converted_refused : (refusal : TextRefusal) (before : List ℕ) → refused_number refusal ≡ text_refusal direction policy p (length text)
      → ConvertedAs (text_of direction policy p text (length before)) (Err refusal) before before
  unfolding text_of refused_text over
  converted_refused refusal before e =
      rw (← e, ne_eqb (refused_number refusal) 0 (λ z. omega (arith, number_from refusal))) (record { number = refl; totals = refl; lent = refl })

  -- An accepted call whose conversion and count are what the rules give, and whose answer has their totals, keeps the promise.
  pub converted_accepted : (whole made : Progress) (c : Converted) (before after : List ℕ) → text_refusal direction policy p (length text) ≡ 0
      → whole ≡ summary (text_fed direction policy p endless text) → made ≡ summary (text_fed direction policy p (limit (length before)) text)
      → after ≡ over before (text_fed direction policy p (limit (length before)) text).output → ending_number c.ending ≡ made.answer → c.totals ≡ totals_by whole made
      → ConvertedAs (text_of direction policy p text (length before)) (Ok c) before after
  unfolding text_of accepted_text summary text_fed
  converted_accepted whole made c before after z e m f number totals =
      let accepted : eqb (text_refusal direction policy p (length text)) 0 ≡ true = eq-eqb _ _ z in
      rw accepted (record {
        number = number ∙ ap (λ (x : Progress). x.answer) m ∙ sym (answer_is (converter_of direction p policy) (length before) text);
        totals = ap (λ (t : Totals). some t) totals ∙ ap₂ (λ (x y : Progress). some (totals_by x y)) e m;
        lent = f;
      })

  -- written is the output's length
  pub written_is : (room : ℕ) → (totals_or_none (text_of direction policy p text room).totals).written ≡ length (text_of direction policy p text room).output
  unfolding text_of accepted_text refused_text
  written_is room = by_test (eqb (text_refusal direction policy p (length text)) 0) refl
    where
      by_test : (t : Bool) → eqb (text_refusal direction policy p (length text)) 0 ≡ t
          → (totals_or_none (text_of direction policy p text room).totals).written ≡ length (text_of direction policy p text room).output
      by_test true e = rw e
      by_test false e = rw e

-- a call without totals wrote nothing
pub nothing_written : (direction : Direction) (policy : Policy) (p : CodePage) (text : List ℕ) (room : ℕ) → none ≡ (text_of direction policy p text room).totals → (text_of direction policy p text room).output ≡ []
unfolding text_of accepted_text refused_text
nothing_written direction policy p text room e = by_test (eqb (text_refusal direction policy p (length text)) 0) refl e
  where
    by_test : (t : Bool) → eqb (text_refusal direction policy p (length text)) 0 ≡ t → none ≡ (text_of direction policy p text room).totals → (text_of direction policy p text room).output ≡ []
    by_test true q e = absurd (no_totals (e ∙ ap (λ (b : Bool). (pick b (accepted_text (text_fed direction policy p endless text) (text_fed direction policy p (limit room) text) room) (refused_text (text_refusal direction policy p (length text)))).totals) q))
      where
        no_totals : {t : Totals} → none ≡ some t → ⊥
        no_totals e = let z : ◌≡◌ {A = ℕ} 0 1 = cc in omega arith
    by_test false q e = rw q

-- the filled part is what was written, whatever the type of its units
module _ {A : Type 0} (output : A → ℕ) (written : List A → List ℕ) (each_output : (l : List A) → map output l ≡ written l) (direction : Direction) (policy : Policy) (p : CodePage) (text : List ℕ) where
  module _ (before after : List A) (c : Converted) (done : ConvertedAs (text_of direction policy p text (length (written before))) (Ok c) (written before) (written after)) where
    abbrev given : Text
    given = text_of direction policy p text (length (written before))

    count_is : c.totals.written ≡ length given.output
    count_is = ap (λ (o : Option Totals). (totals_or_none o).written) done.totals ∙ written_is direction policy p text (length (written before))

    front_is : written (take c.totals.written after) ≡ given.output
    unfolding over
    front_is =
        sym (each_output (take c.totals.written after)) ∙ sym (take-map output c.totals.written after)
        ∙ ap (take c.totals.written) (each_output after ∙ done.lent) ∙ take_at given.output (drop (length given.output) (written before)) c.totals.written (sym count_is)

    -- the front that is handed back has as many units as were written
    pub filled_count : c.totals.written ≡ length (take c.totals.written after)
    filled_count = count_is ∙ sym (ap length front_is) ∙ sym (ap length (each_output (take c.totals.written after))) ∙ length-map (take c.totals.written after) output

    -- The front of that length, with the answer, keeps the promise of the filled part.
    pub filled_as : (lent part : MutBor (List A)) → part.ref_ptr ≡ lent.ref_ptr → part.now ≡ take c.totals.written after → FilledAs written given lent (Ok (c, part))
    filled_as lent part place front = record { number = done.number; totals = done.totals; part = (place, ap written front ∙ front_is) }

  -- A refused call keeps it too.
  pub filled_refused : (before after : List A) (refusal : TextRefusal) → ConvertedAs (text_of direction policy p text (length (written before))) (Err refusal) (written before) (written after)
      → (lent : MutBor (List A)) → FilledAs written (text_of direction policy p text (length (written before))) lent (Err refusal)
  filled_refused before after refusal done lent =
      record { number = done.number; totals = done.totals; part = nothing_written direction policy p text (length (written before)) done.totals }

-- the numbers of a conversion that all codes fitted are the whole reading's
pub whole_made : (v : Converter) (room : ℕ) (text : List ℕ) (made : Progress) → made ≡ summary (feed_from v true (limit room) none text) → (made.answer ≡ 2 → ⊥)
    → made ≡ summary (feed_from v true endless none text)
unfolding summary
whole_made v room text made e n = e ∙ ap summary (fitted v room text (λ z. n (ap (λ (x : Progress). x.answer) e ∙ z)))

-- what the checks of a text gave, with its direction and the count of its units written otherwise
pub checked_as : {d direction : Direction} (policy : Policy) (p : CodePage) {n count k : ℕ} → d ≡ direction → count ≡ n → text_refusal d policy p n ≡ k → text_refusal direction policy p count ≡ k
checked_as policy p e f g = rw (← e, f) g
