-- Laws of the call: what it gives in each of its cases.
use mathlib.Core.Bool.{true, false}
use mathlib.Core.List.{List}
use mathlib.Core.Option.{none, some}
use mathlib.Core.Path.{◌≡◌, refl, ap, ◌∙◌}
use Prim.Native.Nat.{ℕ, ◌+◌, ◌*◌, ◌%◌, ◌≤◌, ◌<◌}
use native.Mathlib.Omega.{arith}
use lib.ListN.{length}
use borrow.Author.Tests.{le-leb, lt-leb, eq-eqb, ne_eqb}
use Rattle.codepage.specs.CodePage.{CodePage, entry_at, first_fault, is_good}
use Rattle.codepage.specs.Reading.{Reader}
use Rattle.codepage.proofs.ShapeLaws.{shape_exact}
use Rattle.utf16.specs.Utf16.{utf16_units}
use Rattle.engine.specs.declared.Direction.TheVariants.{Encoding}
use Rattle.engine.specs.declared.Policy.{Policy}
use Rattle.engine.specs.declared.progress.Progress.{Progress}
use Rattle.engine.specs.Policies.{policy_allowed}
use Rattle.engine.specs.Engine.{converter, endless, feed, whole}
use Rattle.engine.specs.Steps.{summary, Ends}
use Rattle.engine.proofs.EngineLaws.{uncut}
use Rattle.engine.proofs.CodeLaws.{whole_is_feed}
use Rattle.convert.specs.Runs.{piece_limit}
use Rattle.convert.proofs.CallLaws.{index_high}
use Rattle.inplace.specs.declared.Refusal.{Refusal}
use Rattle.inplace.specs.declared.Refusal.TheVariants.{BadPolicy, BadShape, OddBytes, TooLong}
use Rattle.inplace.specs.declared.Encoded.{Encoded}
use Rattle.std.specs.Prelude.{Ok, Err}
use Rattle.inplace.specs.InPlace.{buffer_refusal, held_reading, encoded_by, in_place_of, EncodedAs}
use Rattle.inplace.specs.Steps.{answered}

-- the feeding of all units with room that never ends is the whole reading
pub ends_whole : (r : Reader) (policy : Policy) (default : ℕ) (units before after : List ℕ) (s : Progress)
    → Ends (feed (converter r policy default) true endless units) before after s → Ends (whole r policy default units) before after s
unfolding uncut
ends_whole r policy default units before after s e = rw (whole_is_feed r policy default units) e

-- what the loop requires of a page with a good shape
pub page_needs : (p : CodePage) → is_good (first_fault p) ≡ true → (length p.index ≡ 256) × ((high : ℕ) → 256 * entry_at p.index high + 256 ≤ length p.blocks)
page_needs p e =
    let good = (shape_exact p).0 e in
    (good.index, λ high. index_high p.index (length p.blocks) high good.index good.number (omega (arith, good.blocks)))

module _ (policy : Policy) (p : CodePage) (buffer : List ℕ) where
  -- 17
  pub bad_policy : policy_allowed Encoding policy ≡ false → buffer_refusal policy p buffer ≡ some BadPolicy
  unfolding buffer_refusal
  bad_policy a = rw a

  module _ (a : policy_allowed Encoding policy ≡ true) where
    -- 10
    pub bad_shape : is_good (first_fault p) ≡ false → buffer_refusal policy p buffer ≡ some BadShape
    unfolding buffer_refusal
    bad_shape e = rw (a, e)

    module _ (e : is_good (first_fault p) ≡ true) where
      -- 26
      pub odd_bytes : (length buffer % 2 ≡ 0 → ⊥) → buffer_refusal policy p buffer ≡ some OddBytes
      unfolding buffer_refusal
      odd_bytes o = rw (a, e, ne_eqb (length buffer % 2) 0 o)

      module _ (o : length buffer % 2 ≡ 0) where
        -- 11
        pub too_long : piece_limit < length (utf16_units buffer) → buffer_refusal policy p buffer ≡ some TooLong
        unfolding buffer_refusal
        too_long h = rw (a, e, eq-eqb (length buffer % 2) 0 o, lt-leb (length (utf16_units buffer)) piece_limit h)

        -- else no check refuses
        pub all_pass : length (utf16_units buffer) ≤ piece_limit → buffer_refusal policy p buffer ≡ none
        unfolding buffer_refusal
        all_pass h = rw (a, e, eq-eqb (length buffer % 2) 0 o, le-leb (length (utf16_units buffer)) piece_limit h)

  -- a refused call leaves the buffer as it was
  pub encoded_refused : (why : Refusal) → buffer_refusal policy p buffer ≡ some why → EncodedAs (in_place_of policy p buffer) (Err why) buffer
  unfolding in_place_of
  encoded_refused why e = rw e (record { answer = refl; lent = refl })

  -- an accepted call whose numbers and buffer are the whole reading's keeps the promise
  pub encoded_done : (s : Progress) (r : Encoded) (after : List ℕ) → buffer_refusal policy p buffer ≡ none → Ends (held_reading policy p buffer) buffer after s → r ≡ answered s
      → EncodedAs (in_place_of policy p buffer) (Ok r) after
  unfolding in_place_of encoded_by summary
  encoded_done s r after e d a = rw e (record { answer = ap Ok (a ∙ ap answered d.result); lent = d.laid })
