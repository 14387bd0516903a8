-- What the call gives is what the one call of CR 10 gives from a separate buffer; and why one buffer is enough.
use mathlib.Core.Bool.{Bool, true, false}
use mathlib.Core.List.{List}
use mathlib.Core.Logic.{◌⊎◌, inl, inr}
use mathlib.Core.Option.{none, some}
use mathlib.Core.Path.{◌≡◌, refl, sym, ap, ◌∙◌}
use Prim.Native.Nat.{ℕ, ◌*◌, ◌%◌, ◌≤◌}
use native.Mathlib.Omega.{arith}
use lib.Dec.{leb, eqb}
use lib.ListN.{length}
use borrow.Author.Tests.{eqb-true, eqb-false, eq-eqb, le-ltb}
use Rattle.codepage.specs.CodePage.{CodePage, pick, first_fault, is_good}
use Rattle.codepage.specs.Lent.{over}
use Rattle.codepage_walk.specs.Checks.{refuse_unless}
use Rattle.utf16.specs.Utf16.{utf16_units}
use Rattle.utf16.proofs.Utf16Laws.{units_length}
use Rattle.engine.specs.declared.Direction.TheVariants.{Encoding}
use Rattle.engine.specs.declared.Policy.{Policy}
use Rattle.engine.specs.Policies.{policy_allowed}
use Rattle.engine.specs.Engine.{Converter, Room, limit, endless, Fed, feed_from, feed, converter_of, reader_of, default_of}
use Rattle.engine.specs.Steps.{summary}
use Rattle.engine.proofs.EngineLaws.{uncut, shape_from}
use Rattle.engine.proofs.CodeLaws.{whole_is_feed}
use Rattle.engine.proofs.BoundLaws.{kept_from, bounded_of}
use Rattle.convert.specs.Runs.{piece_limit}
use Rattle.convert.specs.Calls as calls
use Rattle.oneshot.specs.Texts.{text_refusal, answer_of, accepted_text, refused_text, text_fed, text_of}
use Rattle.oneshot.proofs.TextLaws.{never_full, ample, text_answer}
use Rattle.inplace.specs.declared.Refusal.TheVariants.{BadPolicy, BadShape, TooLong}
use Rattle.std.specs.Prelude.{Ok}
use Rattle.inplace.specs.declared.Ending.TheVariants.{All, Stopped}
use Rattle.inplace.specs.InPlace.{encoded_number, ending_number, buffer_refusal, held_reading, encoded_by, in_place_unless, in_place_of}
use Rattle.inplace.specs.Claims.{encoded_totals, AsSeparate}

-- ---- why one buffer is enough

-- WHAT IS WRITTEN NEVER OVERTAKES WHAT IS STILL TO BE READ. However many units a call is fed, in any room, marked last or not: the bytes
-- that it wrote end at or before the two bytes of the first unit that it has not read. (A unit that waits is not read.)
pub never_overtakes : (policy : Policy) (p : CodePage) (last : Bool) (room : Room) (units : List ℕ)
    → length (feed (converter_of Encoding p policy) last room units).output ≤ 2 * (feed (converter_of Encoding p policy) last room units).used
unfolding feed
never_overtakes policy p last room units = (kept_from 2 (converter_of Encoding p policy) (bounded_of Encoding p policy) last room none units).output

module _ (policy : Policy) (p : CodePage) (buffer : List ℕ) where
  abbrev v : Converter
  v = converter_of Encoding p policy

  abbrev text : List ℕ
  text = utf16_units buffer

  -- the whole reading, as one call marked last with room that never ends
  pub reading_is : held_reading policy p buffer ≡ feed_from v true endless none text
  unfolding uncut feed
  reading_is = whole_is_feed (reader_of Encoding p) policy (default_of Encoding p) text

  -- THE BUFFER ITSELF IS AMPLE ROOM for what its units encode to.
  pub buffer_is_room : length (held_reading policy p buffer).output ≤ length buffer
  buffer_is_room =
      let bounds : length (feed_from v true endless none text).output ≤ 2 * (feed_from v true endless none text).used = (kept_from 2 v (bounded_of Encoding p policy) true endless none text).output in
      omega (arith, bounds, ap (λ (f : Fed). length f.output) reading_is, (shape_from v true endless none text tt).within, units_length buffer)

  -- the whole reading ends with 0 or 3
  pub reading_ends : ((held_reading policy p buffer).answer ≡ 0) ⊎ ((held_reading policy p buffer).answer ≡ 3)
  unfolding text_fed summary
  reading_ends = by (text_answer Encoding policy p endless text (summary (feed_from v true endless none text)) refl)
    where
      by : ((feed_from v true endless none text).answer ≡ 0) ⊎ (((feed_from v true endless none text).answer ≡ 2) ⊎ ((feed_from v true endless none text).answer ≡ 3))
          → ((held_reading policy p buffer).answer ≡ 0) ⊎ ((held_reading policy p buffer).answer ≡ 3)
      by (inl e) = inl (ap (λ (f : Fed). f.answer) reading_is ∙ e)
      by (inr (inl e)) = absurd (never_full v true none text e)
      by (inr (inr e)) = inr (ap (λ (f : Fed). f.answer) reading_is ∙ e)

-- ---- the answer of an accepted call
-- its number is the reading's
pub number_by : (f : Fed) → (f.answer ≡ 0) ⊎ (f.answer ≡ 3) → encoded_number (Ok (encoded_by f)) ≡ f.answer
unfolding encoded_by
number_by f ends = by (eqb f.answer 3) refl ends
  where
    by : (t : Bool) → eqb f.answer 3 ≡ t → (f.answer ≡ 0) ⊎ (f.answer ≡ 3)
        → ending_number (pick t Stopped All) ≡ f.answer
    by true q e = sym (eqb-true _ _ q)
    by false q (inl e) = sym e
    by false q (inr e) = absurd (eqb-false _ _ q e)

-- and so are its totals
pub totals_by_lem : (f : Fed) → encoded_totals (Ok (encoded_by f)) ≡ some (record { flags = f.flags; read = f.used; need = length f.output; written = length f.output })
unfolding encoded_by
totals_by_lem f = refl

-- ---- beside the one call of CR 10
module _ (policy : Policy) (p : CodePage) (buffer : List ℕ) (room : ℕ) (fits : length (held_reading policy p buffer).output ≤ room) where
  abbrev held : Fed
  held = held_reading policy p buffer

  made_is : text_fed Encoding policy p (limit room) (utf16_units buffer) ≡ held
  unfolding text_fed
  made_is =
      let need : length (feed_from (converter_of Encoding p policy) true endless none (utf16_units buffer)).output ≤ room =
      omega (arith, fits, ap (λ (f : Fed). length f.output) (reading_is policy p buffer)) in
      ample (converter_of Encoding p policy) true room none (utf16_units buffer) need ∙ sym (reading_is policy p buffer)

  whole_is : text_fed Encoding policy p endless (utf16_units buffer) ≡ held
  unfolding text_fed
  whole_is = sym (reading_is policy p buffer)

  accepted_as : AsSeparate (record { answer = Ok (encoded_by held); buffer = over buffer held.output })
      (accepted_text (text_fed Encoding policy p endless (utf16_units buffer)) (text_fed Encoding policy p (limit room) (utf16_units buffer)) room) buffer
  unfolding accepted_text answer_of
  accepted_as =
      rw (whole_is, made_is, le-ltb room (length held.output) fits)
      (record { number = number_by held (reading_ends policy p buffer); totals = totals_by_lem held; lent = refl })

  -- AS FROM A SEPARATE BUFFER OF AMPLE ROOM. Of every buffer with an even number of bytes: refused with the same number, or number, flags,
  -- read, written and output of the one call of CR 10 on the units that the buffer held, with any room that is enough.
  pub as_separate : length buffer % 2 ≡ 0 → AsSeparate (in_place_of policy p buffer) (text_of Encoding policy p (utf16_units buffer) room) buffer
  unfolding in_place_of buffer_refusal text_of text_refusal refused_text over
  as_separate even = rw (eq-eqb (length buffer % 2) 0 even) (by (policy_allowed Encoding policy) (is_good (first_fault p)) (leb (length (utf16_units buffer)) piece_limit))
    where
      by : (a b c : Bool) → AsSeparate (in_place_unless (refuse_unless BadPolicy a (refuse_unless BadShape b (refuse_unless TooLong c none))) buffer held)
          (pick (eqb (calls.check 17 a (calls.check 10 b (calls.check 11 c 0))) 0)
          (accepted_text (text_fed Encoding policy p endless (utf16_units buffer)) (text_fed Encoding policy p (limit room) (utf16_units buffer)) room)
          (refused_text (calls.check 17 a (calls.check 10 b (calls.check 11 c 0)))))
          buffer
      by false b c = record { number = refl; totals = refl; lent = refl }
      by true false c = record { number = refl; totals = refl; lent = refl }
      by true true false = record { number = refl; totals = refl; lent = refl }
      by true true true = accepted_as

-- With the buffer's own size as the room.
pub as_separate_here : (policy : Policy) (p : CodePage) (buffer : List ℕ) → length buffer % 2 ≡ 0
    → AsSeparate (in_place_of policy p buffer) (text_of Encoding policy p (utf16_units buffer) (length buffer)) buffer
as_separate_here policy p buffer even = as_separate policy p buffer (length buffer) (buffer_is_room policy p buffer) even
