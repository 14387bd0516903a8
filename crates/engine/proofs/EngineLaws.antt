-- Laws of the engine, over any converter.
use mathlib.Core.Bool.{Bool, true, false}
use mathlib.Core.Path.{◌≡◌, refl, sym, ap, ◌∙◌}
use mathlib.Core.List.{List, [], ◌∷◌, ◌++◌, append_assoc}
use mathlib.Core.Option.{Option, none, some}
use Prim.Native.Nat.{ℕ, zero, suc, ◌+◌, ◌^◌, ◌/◌, ◌%◌, ◌<◌, ◌≤◌, max}
use native.Mathlib.Nat.{zero-add, add_assoc}
use native.Mathlib.Numerals.{one-add}
use native.Mathlib.Omega.{arith}
use lib.ListN.{length, get_or, drop}
use lib.Bits.{bit_or, or_step, or_zero_l}
use Rattle.codepage.specs.Reading.{size_of, settled, call_codes, left_pending, completed, waits_then, codes_at_end, as_units}
use Rattle.codepage.proofs.ReadingLaws.{codes_settled, left_settled, by_units}
use Rattle.engine.specs.Engine.{Effect, Converter, Room, endless, fits, room_left, Fed, halt, after, stop_at, take_when, take_code, take_codes, feed_from, feed}
use Rattle.engine.specs.Steps.{does_alone, does_together, does_settled}

-- what a call marked last gives with room for all
unfoldable pub uncut : Converter → List ℕ → Fed
uncut v units = feed v true endless units

-- ---- or is associative
or_assoc_below : (k a b c : ℕ) → a < 2 ^ k → b < 2 ^ k → c < 2 ^ k → bit_or (bit_or a b) c ≡ bit_or a (bit_or b c)
or_assoc_below zero a b c ha hb hc =
    let za : a ≡ 0 = omega arith in
    let zb : b ≡ 0 = omega arith in
    let zc : c ≡ 0 = omega arith in
    rw (za, zb, zc)
or_assoc_below (suc k) a b c ha hb hc =
    let x : ℕ = bit_or a b in
    let y : ℕ = bit_or b c in
    let x2 : bit_or a b / 2 ≡ bit_or (a / 2) (b / 2) = omega (arith, or_step a b) in
    let xm : bit_or a b % 2 ≡ max (a % 2) (b % 2) = omega (arith, or_step a b) in
    let y2 : bit_or b c / 2 ≡ bit_or (b / 2) (c / 2) = omega (arith, or_step b c) in
    let ym : bit_or b c % 2 ≡ max (b % 2) (c % 2) = omega (arith, or_step b c) in
    let p : bit_or (bit_or a b / 2) (c / 2) ≡ bit_or (bit_or (a / 2) (b / 2)) (c / 2) = ap (λ (z : ℕ). bit_or z (c / 2)) x2 in
    let q : bit_or (a / 2) (bit_or b c / 2) ≡ bit_or (a / 2) (bit_or (b / 2) (c / 2)) = ap (λ (z : ℕ). bit_or (a / 2) z) y2 in
    omega (arith, or_step (bit_or a b) c, or_step a (bit_or b c), p, q, or_assoc_below k (a / 2) (b / 2) (c / 2) (omega arith) (omega arith) (omega arith))

lt_pow : (n : ℕ) → n < 2 ^ n
lt_pow zero = omega arith
lt_pow (suc n) = omega (arith, lt_pow n)

pub or_assoc : (a b c : ℕ) → bit_or (bit_or a b) c ≡ bit_or a (bit_or b c)
or_assoc a b c = or_assoc_below (a + b + c) a b c (below a (omega arith)) (below b (omega arith)) (below c (omega arith))
  where
    below : (n : ℕ) → n ≤ a + b + c → n < 2 ^ (a + b + c)
    below n h = omega (arith, lt_pow (a + b + c))

-- ---- one unit more, in any room
module _ (v : Converter) (last : Bool) (room : Room) where
  -- a unit that waits: the call goes on with it
  pub feed_wait : (a : ℕ) (l : List ℕ) → v.reader.waits a ≡ true → feed_from v last room none (a ∷ l) ≡ feed_from v last room (some a) l
  unfolding feed_from call_codes left_pending completed waits_then
  feed_wait a l e = rw e

  -- a unit that is a code alone is taken if it fits, and then the rest
  pub feed_one : (a : ℕ) (l : List ℕ) → v.reader.waits a ≡ false
      → feed_from v last room none (a ∷ l) ≡ take_code room 1 (does_alone v a) (feed_from v last (room_left room (length (does_alone v a).writes)) none l)
  unfolding feed_from take_codes call_codes left_pending completed waits_then
  feed_one a l e = rw e

  -- a pending unit and the one after it that are one code
  pub feed_two : (c b : ℕ) (l : List ℕ) → v.reader.joins c b ≡ true
      → feed_from v last room (some c) (b ∷ l) ≡ take_code room 2 (does_together v c b) (feed_from v last (room_left room (length (does_together v c b).writes)) none l)
  unfolding feed_from take_codes call_codes left_pending settled completed waits_then
  feed_two c b l e = rw e

  -- a pending unit that is a code alone; the one after it is read afresh
  pub feed_alone : (c b : ℕ) (l : List ℕ) → v.reader.joins c b ≡ false
      → feed_from v last room (some c) (b ∷ l) ≡ take_code room 1 (does_alone v c) (feed_from v last (room_left room (length (does_alone v c).writes)) none (b ∷ l))
  unfolding feed_from take_codes call_codes left_pending settled completed waits_then
  feed_alone c b l e = rw e

  -- either way
  pub feed_settled : (c b : ℕ) (l : List ℕ)
      → feed_from v last room (some c) (b ∷ l)
      ≡ take_code room (size_of (settled v.reader c b)) (does_settled v c b) (feed_from v last (room_left room (length (does_settled v c b).writes)) none (drop (size_of (settled v.reader c b)) (c ∷ b ∷ l)))
  unfolding feed_from take_codes
  feed_settled c b l = rw (codes_settled v.reader last c b l, left_settled v.reader last c b l)

-- and none more
pub feed_end : (v : Converter) (last : Bool) (room : Room) → feed_from v last room none [] ≡ halt 0
unfolding feed_from take_codes call_codes left_pending codes_at_end
feed_end v true room = refl
feed_end v false room = refl

-- at the end of the whole text a pending unit is a code alone
pub feed_last : (v : Converter) (room : Room) (c : ℕ) → feed_from v true room (some c) [] ≡ take_code room 1 (does_alone v c) (halt 0)
unfolding feed_from take_codes call_codes left_pending codes_at_end
feed_last v room c = refl

-- at the end of a piece that is not the last a pending unit stays pending: answer 1
pub feed_stays : (v : Converter) (room : Room) (c : ℕ) → feed_from v false room (some c) [] ≡ halt 1
unfolding feed_from take_codes call_codes left_pending codes_at_end
feed_stays v room c = refl

-- ---- laws of `after`
pub after_none : (g : Fed) → after 0 [] 0 g ≡ g
unfolding after
after_none g = λ i. record { answer = g.answer; used = zero-add g.used i; output = g.output; flags = or_zero_l g.flags i }

-- codes, and then other codes: as if they were taken at once
pub after_after : (n m : ℕ) (xs ys : List ℕ) (f e : ℕ) (g : Fed) → after (n + m) (xs ++ ys) (bit_or f e) g ≡ after n xs f (after m ys e g)
unfolding after
after_after n m xs ys f e g =
    λ i. record {
      answer = g.answer;
      used = add_assoc n m g.used i;
      output = append_assoc xs ys g.output i;
      flags = or_assoc f e g.flags i;
    }

-- ---- the cut law

-- What one call's answer f, on the units w, says of the uncut reading u of w ++ rest: a stop is the uncut reading's own; otherwise
-- u is what f took, and then the uncut reading of what f left.
pub record Cut (r : Converter) (w rest : List ℕ) (f u : Fed) : Type 0 where
  pub stopped : f.answer ≡ 3 → u ≡ f
  pub goes_on : (f.answer ≡ 3 → ⊥) → u ≡ after f.used f.output f.flags (uncut r (drop f.used w ++ rest))

-- a pending unit, if there is one, is one that waits
abbrev pub Waits : Converter → Option ℕ → Type 0
Waits v none = Unit {0}
Waits v (some c) = v.reader.waits c ≡ true

cut_take : (r : Converter) (s t : Bool) (n : ℕ) (k : Effect) (w l rest : List ℕ) (f u : Fed)
    → ((m : ℕ) → drop (n + m) w ≡ drop m l) → uncut r (w ++ rest) ≡ take_when s true n k u
    → Cut r l rest f u → Cut r w rest (take_when s t n k f) (take_when s true n k u)
unfolding take_when stop_at halt after
cut_take r true t n k w l rest f u hd hu h = record { stopped = λ e. refl; goes_on = λ ne. absurd (ne refl) }
cut_take r false false n k w l rest f u hd hu h = record { stopped = λ e. absurd (omega (arith, e)); goes_on = λ ne. sym (after_none _) ∙ ap (after 0 [] 0) (sym hu) }
cut_take r false true n k w l rest f u hd hu h =
    record {
      stopped = λ e. ap (after n k.writes k.flag) (h.stopped e);
      goes_on = λ ne. ap (after n k.writes k.flag) (h.goes_on ne)
          ∙ sym (after_after n f.used k.writes f.output k.flag f.flags _)
          ∙ ap (λ (d : List ℕ). after (n + f.used) (k.writes ++ f.output) (bit_or k.flag f.flags) (uncut r (d ++ rest))) (sym (hd f.used));
    }

drop_one : (a : ℕ) (l : List ℕ) (m : ℕ) → drop (1 + m) (a ∷ l) ≡ drop m l
drop_one a l m = rw one-add

drop_two : (a b : ℕ) (l : List ℕ) (m : ℕ) → drop (2 + m) (a ∷ b ∷ l) ≡ drop m l
drop_two a b l m =
    let e : 2 + m ≡ suc (suc m) = omega arith in
    rw e

cut_halt : (r : Converter) (n : ℕ) (w rest : List ℕ) (u : Fed) → (n ≡ 3 → ⊥) → u ≡ uncut r (w ++ rest) → Cut r w rest (halt n) u
unfolding halt
cut_halt r n w rest u hn hu = record { stopped = λ e. absurd (hn e); goes_on = λ ne. hu ∙ sym (after_none _) }

module _ (v : Converter) (last : Bool) (rest : List ℕ) (to_end : last ≡ true → rest ≡ []) where
  cut_end : (last : Bool) → (last ≡ true → rest ≡ []) → (room : Room) (c : ℕ) → v.reader.waits c ≡ true
      → Cut v (c ∷ []) rest (feed_from v last room (some c) []) (feed_from v true endless (some c) rest)
  unfolding take_code fits uncut feed
  cut_end true h room c w =
      rw (h refl, feed_last v room c, feed_last v endless c)
      (cut_take v (does_alone v c).stops (fits room (length (does_alone v c).writes)) 1 (does_alone v c) (c ∷ []) [] [] (halt 0) (halt 0) (drop_one c [])
      (feed_wait v true endless c [] w ∙ feed_last v endless c) (cut_halt v 0 [] [] (halt 0) (λ e. omega (arith, e)) (sym (feed_end v true endless))))
  cut_end false h room c w = rw (feed_stays v room c) (cut_halt v 1 (c ∷ []) rest _ (λ e. omega (arith, e)) (sym (feed_wait v true endless c rest w)))

  cut_code : (room : Room) (n : ℕ) (k : Effect) (w l : List ℕ) (u : Fed) → ((m : ℕ) → drop (n + m) w ≡ drop m l) → u ≡ take_code endless n k (feed_from v true endless none (l ++ rest))
      → uncut v (w ++ rest) ≡ u → ((room : Room) → Cut v l rest (feed_from v last room none l) (feed_from v true endless none (l ++ rest)))
      → Cut v w rest (take_code room n k (feed_from v last (room_left room (length k.writes)) none l)) u
  unfolding take_code fits
  cut_code room n k w l u hd e hu h =
      rw e (cut_take v k.stops (fits room (length k.writes)) n k w l rest _ _ hd (hu ∙ e) (h (room_left room (length k.writes))))

  cut_from : (p : Option ℕ) (l : List ℕ) → Waits v p → (room : Room) → Cut v (as_units p ++ l) rest (feed_from v last room p l) (feed_from v true endless p (l ++ rest))
  unfolding uncut feed room_left
  cut_from =
      by_units v.reader (λ (p : Option ℕ) (l : List ℕ). Waits v p → (room : Room) → Cut v (as_units p ++ l) rest (feed_from v last room p l) (feed_from v true endless p (l ++ rest)))
      (record {
        end_none = λ w room. rw (feed_end v last room) (cut_halt v 0 [] rest _ (λ e. omega (arith, e)) refl);
        end_some = λ c w room. cut_end last to_end room c w;
        wait = λ a l e h w room. rw (feed_wait v last room a l e, feed_wait v true endless a (l ++ rest) e) (h e room);
        one = λ a l e h w room. rw (feed_one v last room a l e) (cut_code room 1 (does_alone v a) (a ∷ l) l _ (drop_one a l) (feed_one v true endless a (l ++ rest) e) refl (h tt));
        two = λ c b l e h w room. rw (feed_two v last room c b l e)
            (cut_code room 2 (does_together v c b) (c ∷ b ∷ l) l _ (drop_two c b l) (feed_two v true endless c b (l ++ rest) e) (feed_wait v true endless c (b ∷ (l ++ rest)) w) (h tt));
        alone = λ c b l e h w room. rw (feed_alone v last room c b l e)
            (cut_code room 1 (does_alone v c) (c ∷ b ∷ l) (b ∷ l) _ (drop_one c (b ∷ l)) (feed_alone v true endless c b (l ++ rest) e) (feed_wait v true endless c (b ∷ (l ++ rest)) w) (h tt));
      })

-- THE CUT LAW. One call, of any room, marked last or not, on the units l (what was pending, and then the piece), where `rest` is the
-- text after the piece.
pub cut : (r : Converter) (last : Bool) (room : Room) (l rest : List ℕ) → (last ≡ true → rest ≡ []) → Cut r l rest (feed r last room l) (uncut r (l ++ rest))
unfolding uncut feed
cut r last room l rest hl = cut_from r last rest hl none l tt room

-- ---- one code
pub take_stop : (room : Room) (n : ℕ) (k : Effect) (g : Fed) → k.stops ≡ true → take_code room n k g ≡ stop_at n k
unfolding take_code take_when
take_stop room n k g e = rw e

-- a code that fits is taken
pub take_fits : (room : Room) (n : ℕ) (k : Effect) (g : Fed) → k.stops ≡ false → fits room (length k.writes) ≡ true → take_code room n k g ≡ after n k.writes k.flag g
unfolding take_code take_when
take_fits room n k g e f = rw (e, f)

-- a code that does not fit ends the call with 2, and is not read
pub take_full : (room : Room) (n : ℕ) (k : Effect) (g : Fed) → k.stops ≡ false → fits room (length k.writes) ≡ false → take_code room n k g ≡ halt 2
unfolding take_code take_when
take_full room n k g e f = rw (e, f)

-- ---- what every answer says of the units
pub record Shape (r : Converter) (last : Bool) (w : List ℕ) (f : Fed) : Type 0 where
  pub within : f.used ≤ length w
  pub known : f.answer ≤ 3
  pub all : f.answer ≡ 0 → f.used ≡ length w
  pub reads : f.answer ≡ 3 → 1 ≤ f.used
  pub holds : f.answer ≡ 1 → (f.used + 1 ≡ length w) × (r.reader.waits (get_or w f.used 0) ≡ true) × (last ≡ false)

shape_take : (r : Converter) (last s t : Bool) (n : ℕ) (k : Effect) (w l : List ℕ) (f : Fed)
    → 1 ≤ n → length w ≡ n + length l → ((m : ℕ) → get_or w (n + m) 0 ≡ get_or l m 0) → Shape r last l f → Shape r last w (take_when s t n k f)
unfolding take_when stop_at halt after
shape_take r last true t n k w l f h₁ hn hd h =
    record { within = omega arith; known = omega arith; reads = λ e. h₁; all = λ e. absurd (omega arith); holds = λ e. absurd (omega arith) }
shape_take r last false false n k w l f h₁ hn hd h =
    record { within = omega arith; known = omega arith; reads = λ e. absurd (omega arith); all = λ e. absurd (omega arith); holds = λ e. absurd (omega arith) }
shape_take r last false true n k w l f h₁ hn hd h =
    record {
      within = omega (arith, h.within);
      known = h.known;
      reads = λ e. omega (arith, h.reads e);
      all = λ e. omega (arith, h.all e);
      holds = λ e. (omega (arith, (h.holds e).0), rw hd (h.holds e).1, (h.holds e).2);
    }

get_d_one : (a : ℕ) (l : List ℕ) (m : ℕ) → get_or (a ∷ l) (1 + m) 0 ≡ get_or l m 0
get_d_one a l m = rw one-add

get_d_two : (a b : ℕ) (l : List ℕ) (m : ℕ) → get_or (a ∷ b ∷ l) (2 + m) 0 ≡ get_or l m 0
get_d_two a b l m =
    let e : 2 + m ≡ suc (suc m) = omega arith in
    rw e

shape_none : (v : Converter) (last : Bool) → Shape v last [] (halt 0)
unfolding halt
shape_none v last = record { within = omega arith; known = omega arith; reads = λ e. absurd (omega arith); all = λ e. refl; holds = λ e. absurd (omega arith) }

shape_end : (v : Converter) (last : Bool) (room : Room) (c : ℕ) → v.reader.waits c ≡ true → Shape v last (c ∷ []) (feed_from v last room (some c) [])
unfolding take_code halt
shape_end v true room c w =
    rw (feed_last v room c)
    (shape_take v true (does_alone v c).stops (fits room (length (does_alone v c).writes)) 1 (does_alone v c) (c ∷ []) [] (halt 0) (omega arith) (omega arith) (get_d_one c []) (shape_none v true))
shape_end v false room c w =
    rw (feed_stays v room c)
    (record { within = omega arith; known = omega arith; reads = λ e. absurd (omega arith); all = λ e. absurd (omega arith); holds = λ e. (refl, w, refl) })

-- it holds of every call, with a pending unit that waits or with none
pub shape_from : (v : Converter) (last : Bool) (room : Room) (p : Option ℕ) (l : List ℕ) → Waits v p → Shape v last (as_units p ++ l) (feed_from v last room p l)
unfolding take_code
shape_from v last room p l w =
    by_units v.reader (λ (p : Option ℕ) (l : List ℕ). Waits v p → (room : Room) → Shape v last (as_units p ++ l) (feed_from v last room p l))
    (record {
      end_none = λ w room. rw (feed_end v last room) (shape_none v last);
      end_some = λ c w room. shape_end v last room c w;
      wait = λ a l e h w room. rw (feed_wait v last room a l e) (h e room);
      one = λ a l e h w room. rw (feed_one v last room a l e) (shape_take v last _ _ 1 (does_alone v a) (a ∷ l) l _ (omega arith) (omega arith) (get_d_one a l) (h tt _));
      two = λ c b l e h w room. rw (feed_two v last room c b l e) (shape_take v last _ _ 2 (does_together v c b) (c ∷ b ∷ l) l _ (omega arith) (omega arith) (get_d_two c b l) (h tt _));
      alone = λ c b l e h w room. rw (feed_alone v last room c b l e) (shape_take v last _ _ 1 (does_alone v c) (c ∷ b ∷ l) (b ∷ l) _ (omega arith) (omega arith) (get_d_one c (b ∷ l)) (h tt _));
    })
    p l w room

pub shape : (r : Converter) (last : Bool) (room : Room) (l : List ℕ) → Shape r last l (feed r last room l)
unfolding feed
shape r last room l = shape_from r last room none l tt
