-- Encoding uses the first and the third digit only.
use mathlib.Core.Bool.{Bool, true, false}
use mathlib.Core.List.{List, [], ◌∷◌}
use mathlib.Core.Option.{Option, none, some}
use mathlib.Core.Path.{◌≡◌, refl, sym, ap, ◌∙◌}
use Prim.Native.Nat.{ℕ}
use lib.Dec.{eqb}
use lib.ListN.{length}
use Rattle.codepage.specs.CodePage.{CodePage, pick}
use Rattle.codepage.specs.Reading.{lookup, is_surrogate, unit_code, unit_alone, bytes_of, encoder, Reader, Code}
use Rattle.codepage.specs.declared.Kind.TheVariants.{UndefinedSingle, Invalid}
use Rattle.std.specs.Prelude.{Ok, Err}
use Rattle.codepage.proofs.ReadingLaws.{by_units}
use Rattle.engine.specs.declared.Direction.TheVariants.{Encoding}
use Rattle.engine.specs.declared.Policy.{Policy}
use Rattle.engine.specs.Policies.{action_of}
use Rattle.engine.specs.Engine.{Effect, acted, effect_of, Converter, converter, converter_of, Room, room_left, Fed, halt, take_code, feed_from}
use Rattle.engine.specs.Steps.{does_alone, does_together}
use Rattle.engine.proofs.EngineLaws.{feed_wait, feed_one, feed_two, feed_alone, feed_end, feed_last, feed_stays}

-- Two converters of one reader whose codes do the same, alone and together.
pub record SameDoes (r : Reader) (d e : Code → Effect) : Type 0 where
  pub one : (a : ℕ) → does_alone (record { reader = r; does = d }) a ≡ does_alone (record { reader = r; does = e }) a
  pub two : (a b : ℕ) → does_together (record { reader = r; does = d }) a b ≡ does_together (record { reader = r; does = e }) a b

module _ (r : Reader) (d e : Code → Effect) (same : SameDoes r d e) (last : Bool) where
  abbrev v : Converter
  v = record { reader = r; does = d }

  abbrev w : Converter
  w = record { reader = r; does = e }

  take_alike : (room : Room) (n : ℕ) (k m : Effect) (f g : Room → Fed) → k ≡ m → ((room : Room) → f room ≡ g room)
      → take_code room n k (f (room_left room (length k.writes))) ≡ take_code room n m (g (room_left room (length m.writes)))
  take_alike room n k m f g q h =
      ap (λ (x : Fed). take_code room n k x) (h (room_left room (length k.writes))) ∙ ap (λ (x : Effect). take_code room n x (g (room_left room (length x.writes)))) q

  end_alike : (last : Bool) (c : ℕ) (room : Room) → feed_from v last room (some c) [] ≡ feed_from w last room (some c) []
  end_alike true c room = feed_last v room c ∙ ap (λ (k : Effect). take_code room 1 k (halt 0)) (same.one c) ∙ sym (feed_last w room c)
  end_alike false c room = feed_stays v room c ∙ sym (feed_stays w room c)

  pub fed_alike : (p : Option ℕ) (l : List ℕ) (room : Room) → feed_from v last room p l ≡ feed_from w last room p l
  fed_alike =
      by_units r (λ (p : Option ℕ) (l : List ℕ). (room : Room) → feed_from v last room p l ≡ feed_from w last room p l)
      (record {
        end_none = λ room. feed_end v last room ∙ sym (feed_end w last room);
        end_some = end_alike last;
        wait = λ a l q h room. feed_wait v last room a l q ∙ h room ∙ sym (feed_wait w last room a l q);
        one = λ a l q h room. feed_one v last room a l q
            ∙ take_alike room 1 _ _ (λ (x : Room). feed_from v last x none l) (λ (x : Room). feed_from w last x none l) (same.one a) h ∙ sym (feed_one w last room a l q);
        two = λ c b l q h room. feed_two v last room c b l q
            ∙ take_alike room 2 _ _ (λ (x : Room). feed_from v last x none l) (λ (x : Room). feed_from w last x none l) (same.two c b) h ∙ sym (feed_two w last room c b l q);
        alone = λ c b l q h room. feed_alone v last room c b l q
            ∙ take_alike room 1 _ _ (λ (x : Room). feed_from v last x none (b ∷ l)) (λ (x : Room). feed_from w last x none (b ∷ l)) (same.one c) h ∙ sym (feed_alone w last room c b l q);
      })

-- what a unit alone does is said by the first digit, or for a surrogate by the third
module _ (policy other : Policy) (default unit : ℕ) (e₁ : policy.single ≡ other.single) (e₃ : policy.invalid ≡ other.invalid) where
  found_digits : (value : ℕ) → effect_of bytes_of policy default unit (lookup UndefinedSingle value) ≡ effect_of bytes_of other default unit (lookup UndefinedSingle value)
  unfolding effect_of lookup
  found_digits value = by_value (eqb value 0xFFFF)
    where
      by_value : (t : Bool) → effect_of bytes_of policy default unit (pick t (Err UndefinedSingle) (Ok value)) ≡ effect_of bytes_of other default unit (pick t (Err UndefinedSingle) (Ok value))
      by_value true = ap (λ (digit : ℕ). acted 1 (action_of digit default unit)) e₁
      by_value false = refl

  unit_digits : (index blocks : List ℕ) → effect_of bytes_of policy default unit (unit_alone index blocks unit) ≡ effect_of bytes_of other default unit (unit_alone index blocks unit)
  unfolding effect_of unit_alone unit_code
  unit_digits index blocks = by_unit (is_surrogate unit)
    where
      by_unit : (t : Bool) → effect_of bytes_of policy default unit (pick t (Err Invalid) (unit_code index blocks unit)) ≡ effect_of bytes_of other default unit (pick t (Err Invalid) (unit_code index blocks unit))
      by_unit true = ap (λ (digit : ℕ). acted 4 (action_of digit default unit)) e₃
      by_unit false = found_digits _

-- ENCODING DOES NOT USE THE SECOND DIGIT: two policies with the same first and third digit give the same, in every call.
pub no_second_digit : (p : CodePage) (policy other : Policy) → policy.single ≡ other.single → policy.invalid ≡ other.invalid → (last : Bool) (room : Room) (pending : Option ℕ) (piece : List ℕ)
    → feed_from (converter_of Encoding p policy) last room pending piece ≡ feed_from (converter_of Encoding p other) last room pending piece
unfolding converter encoder effect_of
no_second_digit p policy other e₁ e₃ last room pending piece =
    fed_alike (encoder p.index p.blocks) _ _
    (record {
      one = λ a. unit_digits policy other p.default_byte a e₁ e₃ p.index p.blocks;
      two = λ a b. ap (λ (digit : ℕ). acted 1 (action_of digit p.default_byte a)) e₁;
    })
    last pending piece room
