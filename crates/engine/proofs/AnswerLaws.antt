-- The answers 0 to 3 of a call without its recursion: which codes were taken, and why it ended there. So a code is written
-- whole or not at all, and its input is then unread.
use mathlib.Core.Bool.{Bool, true, false}
use mathlib.Core.List.{List, [], ◌∷◌, ◌++◌}
use mathlib.Core.Logic.{◌↔◌, ◌⊎◌, inl, inr}
use mathlib.Core.Option.{Option, none, some}
use mathlib.Core.Path.{◌≡◌, refl, sym, ap, ◌∙◌}
use Prim.Native.Nat.{ℕ, ◌+◌, ◌-◌, ◌≤◌}
use native.Mathlib.Omega.{arith}
use lib.Dec.{leb}
use lib.ListN.{length, length-append}
use lib.Bits.{bit_or, or_zero_r}
use borrow.Author.Tests.{leb-true, leb-false, le-leb, lt-leb}
use mathlib.Core.List.{append-nil}
use Rattle.codepage.specs.Reading.{Code, size_of, call_codes, left_pending}
use Rattle.codepage.proofs.ReadingLaws.{sizes_of}
use Rattle.engine.specs.Policies.{stopped_flag}
use Rattle.engine.specs.Engine.{Converter, Room, limit, endless, fits, room_left, Fed, halt, after, stop_at, take_when, take_code, at_end, take_codes, feed_from}
use Rattle.engine.proofs.EngineLaws.{after_none, after_after}

-- all that some codes write, and their flags
abbrev pub writes_of : Converter → List Code → List ℕ
writes_of v [] = []
writes_of v (k ∷ ks) = (v.does k).writes ++ writes_of v ks

abbrev pub flags_of : Converter → List Code → ℕ
flags_of v [] = 0
flags_of v (k ∷ ks) = bit_or (v.does k).flag (flags_of v ks)

abbrev pub NoneStops : Converter → List Code → Type 0
NoneStops v [] = Unit {0}
NoneStops v (k ∷ ks) = ((v.does k).stops ≡ false) × NoneStops v ks

-- Codes that are taken: none stops, and all that they write fits.
pub record Goes (v : Converter) (room : Room) (ks : List Code) : Type 0 where
  pub none_stops : NoneStops v ks
  pub fitting : fits room (length (writes_of v ks)) ≡ true

-- Of some codes the first are taken, and the next one stops.
pub record StopsAt (v : Converter) (room : Room) (ks : List Code) : Type 0 where
  pub taken : List Code
  pub code : Code
  pub behind : List Code
  pub split : ks ≡ taken ++ (code ∷ behind)
  pub goes : Goes v room taken
  pub stops : (v.does code).stops ≡ true

-- Of some codes the first are taken, and the next one does not stop and does not fit.
pub record NoRoomAt (v : Converter) (room : Room) (ks : List Code) : Type 0 where
  pub taken : List Code
  pub code : Code
  pub behind : List Code
  pub split : ks ≡ taken ++ (code ∷ behind)
  pub goes : Goes v room taken
  pub on : (v.does code).stops ≡ false
  pub large : fits room (length (writes_of v taken) + length (v.does code).writes) ≡ false

-- What a call gives that took some codes and then ended with an answer.
abbrev pub took : Converter → List Code → (answer : ℕ) → Fed
took v taken answer = record { answer = answer; used = sizes_of taken; output = writes_of v taken; flags = flags_of v taken }

-- What a call gives that was stopped by a code: its units are read, its flag and 8 are set, nothing is written for it.
abbrev pub took_until : Converter → (taken : List Code) → (stopping : Code) → Fed
took_until v taken code =
    record {
      answer = 3;
      used = sizes_of taken + size_of code;
      output = writes_of v taken;
      flags = bit_or (flags_of v taken) (bit_or (v.does code).flag stopped_flag);
    }

-- ---- rooms
fits_none : (room : Room) → fits room 0 ≡ true
unfolding fits
fits_none (limit n) = le-leb 0 n (omega arith)
fits_none endless = refl

fits_first : (room : Room) (a b : ℕ) → fits room (a + b) ≡ true → fits room a ≡ true
unfolding fits
fits_first (limit n) a b e = le-leb a n (omega (arith, leb-true (a + b) n e))
fits_first endless a b e = refl

-- behind what fits, what is left of the room decides
fits_behind : (room : Room) (a b : ℕ) → fits room a ≡ true → fits (room_left room a) b ≡ fits room (a + b)
unfolding fits room_left
fits_behind endless a b e = refl
fits_behind (limit n) a b e = by_test (leb b (n - a)) refl
  where
    by_test : (t : Bool) → leb b (n - a) ≡ t → leb b (n - a) ≡ leb (a + b) n
    by_test true q = q ∙ sym (le-leb (a + b) n (omega (arith, leb-true b (n - a) q, leb-true a n e)))
    by_test false q = q ∙ sym (lt-leb (a + b) n (omega (arith, leb-false b (n - a) q, leb-true a n e)))

less_none : (room : Room) → room_left room 0 ≡ room
unfolding room_left
less_none (limit n) = ap limit (omega arith)
less_none endless = refl

less_less : (room : Room) (a b : ℕ) → room_left (room_left room a) b ≡ room_left room (a + b)
unfolding room_left
less_less (limit n) a b = ap limit (omega arith)
less_less endless a b = refl

-- ---- past codes that are taken
module _ (v : Converter) where
  abbrev size : Code → ℕ
  size k = length (v.does k).writes

  abbrev total : List Code → ℕ
  total ks = length (writes_of v ks)

  total_more : (k : Code) (ks : List Code) → total (k ∷ ks) ≡ size k + total ks
  total_more k ks = length-append (v.does k).writes (writes_of v ks)

  goes_none : (room : Room) → Goes v room []
  goes_none room = record { none_stops = tt; fitting = fits_none room }

  -- one code, and then others
  goes_first : (room : Room) (k : Code) (ks : List Code) → Goes v room (k ∷ ks) → fits room (size k) ≡ true
  goes_first room k ks g = fits_first room (size k) (total ks) (rw (← total_more k ks) g.fitting)

  goes_rest : (room : Room) (k : Code) (ks : List Code) → Goes v room (k ∷ ks) → Goes v (room_left room (size k)) ks
  goes_rest room k ks g =
      record {
        none_stops = g.none_stops.1;
        fitting = fits_behind room (size k) (total ks) (goes_first room k ks g) ∙ rw (← total_more k ks) g.fitting;
      }

  goes_more : (room : Room) (k : Code) (ks : List Code) → (v.does k).stops ≡ false → fits room (size k) ≡ true → Goes v (room_left room (size k)) ks → Goes v room (k ∷ ks)
  goes_more room k ks s f g = record { none_stops = (s, g.none_stops); fitting = rw (total_more k ks) (sym (fits_behind room (size k) (total ks) f) ∙ g.fitting) }

  -- Codes that are taken, and then the rest in what is left of the room.
  pub past : (room : Room) (taken rest : List Code) (pending : Option ℕ) → Goes v room taken
      → take_codes v room (taken ++ rest) pending ≡ after (sizes_of taken) (writes_of v taken) (flags_of v taken) (take_codes v (room_left room (total taken)) rest pending)
  unfolding take_codes take_code take_when
  past room [] rest pending g = rw (less_none room) (sym (after_none _))
  past room (k ∷ taken) rest pending g =
      rw (g.none_stops.0, goes_first room k taken g)
      (ap (after (size_of k) (v.does k).writes (v.does k).flag) (past (room_left room (size k)) taken rest pending (goes_rest room k taken g))
      ∙ sym (after_after (size_of k) (sizes_of taken) (v.does k).writes (writes_of v taken) (v.does k).flag (flags_of v taken) _)
      ∙ ap (λ (r : Room). after (size_of k + sizes_of taken) ((v.does k).writes ++ writes_of v taken) (bit_or (v.does k).flag (flags_of v taken)) (take_codes v r rest pending))
      (less_less room (size k) (total taken) ∙ ap (room_left room) (sym (total_more k taken))))

  -- ---- what is given in each case
  after_halt : (ks : List Code) (answer : ℕ) → after (sizes_of ks) (writes_of v ks) (flags_of v ks) (halt answer) ≡ took v ks answer
  unfolding after halt
  after_halt ks answer = λ i. record { answer = answer; used = add_none (sizes_of ks) i; output = append-nil (writes_of v ks) i; flags = or_zero_r (flags_of v ks) i }
    where
      add_none : (n : ℕ) → n + 0 ≡ n
      add_none n = omega arith

  module _ (room : Room) (ks : List Code) (pending : Option ℕ) where
    abbrev given : Fed
    given = take_codes v room ks pending

    when_all : Goes v room ks → given ≡ took v ks (at_end pending)
    unfolding take_codes
    when_all g = ap (λ (l : List Code). take_codes v room l pending) (sym (append-nil ks)) ∙ past room ks [] pending g ∙ after_halt ks (at_end pending)

    when_stops : (s : StopsAt v room ks) → given ≡ took_until v s.taken s.code
    unfolding take_codes take_code take_when stop_at after
    when_stops s =
        ap (λ (l : List Code). take_codes v room l pending) s.split ∙ past room s.taken (s.code ∷ s.behind) pending s.goes
        ∙ rw (s.stops, append-nil (writes_of v s.taken))

    when_full : (s : NoRoomAt v room ks) → given ≡ took v s.taken 2
    unfolding take_codes take_code take_when
    when_full s =
        ap (λ (l : List Code). take_codes v room l pending) s.split ∙ past room s.taken (s.code ∷ s.behind) pending s.goes
        ∙ rw (s.on, fits_behind room (total s.taken) (size s.code) s.goes.fitting, s.large) (after_halt s.taken 2)

  -- ---- one of the cases holds
  abbrev Ending : Room → List Code → Type 0
  Ending room ks = Goes v room ks ⊎ (StopsAt v room ks ⊎ NoRoomAt v room ks)

  ending_more : (room : Room) (k : Code) (ks : List Code) → (v.does k).stops ≡ false → fits room (size k) ≡ true → Ending (room_left room (size k)) ks → Ending room (k ∷ ks)
  ending_more room k ks s f (inl g) = inl (goes_more room k ks s f g)
  ending_more room k ks s f (inr (inl g)) =
      inr
      (inl
      (record {
        taken = k ∷ g.taken;
        code = g.code;
        behind = g.behind;
        split = ap (λ (l : List Code). k ∷ l) g.split;
        goes = goes_more room k g.taken s f g.goes;
        stops = g.stops;
      }))
  ending_more room k ks s f (inr (inr g)) =
      inr
      (inr
      (record {
        taken = k ∷ g.taken;
        code = g.code;
        behind = g.behind;
        split = ap (λ (l : List Code). k ∷ l) g.split;
        goes = goes_more room k g.taken s f g.goes;
        on = g.on;
        large =
            let sum : total (k ∷ g.taken) + size g.code ≡ size k + (total g.taken + size g.code) = omega (arith, total_more k g.taken) in
            rw sum (sym (fits_behind room (size k) (total g.taken + size g.code) f) ∙ g.large);
      }))

  ending_first : (room : Room) (k : Code) (ks : List Code) (s t : Bool) → (v.does k).stops ≡ s → fits room (size k) ≡ t → Ending (room_left room (size k)) ks → Ending room (k ∷ ks)
  ending_first room k ks true t e q g =
      inr (inl (record { taken = []; code = k; behind = ks; split = refl; goes = goes_none room; stops = e }))
  ending_first room k ks false true e q g = ending_more room k ks e q g
  ending_first room k ks false false e q g =
      inr (inr (record { taken = []; code = k; behind = ks; split = refl; goes = goes_none room; on = e; large = ap (fits room) (omega arith) ∙ q }))

  ending : (room : Room) (ks : List Code) → Ending room ks
  ending room [] = inl (goes_none room)
  ending room (k ∷ ks) = ending_first room k ks (v.does k).stops (fits room (size k)) refl refl (ending (room_left room (size k)) ks)

-- What a call gives, in each of its cases, and that one of them holds.
pub record Exact (v : Converter) (room : Room) (ks : List Code) (pending : Option ℕ) (f : Fed) : Type 0 where
  -- all codes are taken: 0, or 1 where a unit waits behind them
  pub all_taken : Goes v room ks → f ≡ took v ks (at_end pending)
  -- stopped: 3
  pub stopped : (s : StopsAt v room ks) → f ≡ took_until v s.taken s.code
  -- the next code does not fit: 2; it is not written, and its units are not among those used
  pub full : (s : NoRoomAt v room ks) → f ≡ took v s.taken 2
  pub one_of_them : Goes v room ks ⊎ (StopsAt v room ks ⊎ NoRoomAt v room ks)

-- what taking codes gives is exact, whatever the room and the unit behind them
pub codes_exact : (v : Converter) (room : Room) (ks : List Code) (pending : Option ℕ) → Exact v room ks pending (take_codes v room ks pending)
codes_exact v room ks pending =
    record {
      all_taken = when_all v room ks pending;
      stopped = when_stops v room ks pending;
      full = when_full v room ks pending;
      one_of_them = ending v room ks;
    }

-- WHOLE OR NOT AT ALL, AND THE ANSWERS EXACT: of the codes of a call the first were taken and wrote all of its output; the call
-- ended since none was left, or at one that stops, or at one that does not fit, whose units are not among those used.
pub answers_exact : (v : Converter) (last : Bool) (room : Room) (p : Option ℕ) (l : List ℕ)
    → Exact v room (call_codes v.reader last p l) (left_pending v.reader last p l) (feed_from v last room p l)
unfolding feed_from
answers_exact v last room p l = codes_exact v room (call_codes v.reader last p l) (left_pending v.reader last p l)

-- EACH ANSWER EXACTLY IN ITS CASE.
pub record AnswerCases (v : Converter) (room : Room) (ks : List Code) (pending : Option ℕ) (answer : ℕ) : Type 0 where
  pub all_read : (answer ≡ 0) ↔ (Goes v room ks × (pending ≡ none))
  pub waits : (answer ≡ 1) ↔ (Goes v room ks × ((c : ℕ) × (pending ≡ some c)))
  pub full : (answer ≡ 2) ↔ NoRoomAt v room ks
  pub stopped : (answer ≡ 3) ↔ StopsAt v room ks

module _ (v : Converter) (room : Room) (ks : List Code) (pending : Option ℕ) (f : Fed) (x : Exact v room ks pending f) where
  answer_all : Goes v room ks → f.answer ≡ at_end pending
  answer_all g = ap (λ (r : Fed). r.answer) (x.all_taken g)

  answer_stopped : StopsAt v room ks → f.answer ≡ 3
  answer_stopped s = ap (λ (r : Fed). r.answer) (x.stopped s)

  answer_full : NoRoomAt v room ks → f.answer ≡ 2
  answer_full s = ap (λ (r : Fed). r.answer) (x.full s)

  at_end_low : (w : Option ℕ) → at_end w ≤ 1
  at_end_low none = omega arith
  at_end_low (some c) = omega arith

  end_none : (w : Option ℕ) → at_end w ≡ 0 → w ≡ none
  end_none none e = refl
  end_none (some c) e = absurd (omega arith)

  end_some : (w : Option ℕ) → at_end w ≡ 1 → (c : ℕ) × (w ≡ some c)
  end_some none e = absurd (omega arith)
  end_some (some c) e = (c, refl)

  low_goes : f.answer ≤ 1 → Goes v room ks ⊎ (StopsAt v room ks ⊎ NoRoomAt v room ks) → Goes v room ks
  low_goes h (inl g) = g
  low_goes h (inr (inl s)) = absurd (omega (arith, answer_stopped s))
  low_goes h (inr (inr s)) = absurd (omega (arith, answer_full s))

  is_full : f.answer ≡ 2 → Goes v room ks ⊎ (StopsAt v room ks ⊎ NoRoomAt v room ks) → NoRoomAt v room ks
  is_full e (inl g) = absurd (omega (arith, answer_all g, at_end_low pending))
  is_full e (inr (inl s)) = absurd (omega (arith, answer_stopped s))
  is_full e (inr (inr s)) = s

  is_stopped : f.answer ≡ 3 → Goes v room ks ⊎ (StopsAt v room ks ⊎ NoRoomAt v room ks) → StopsAt v room ks
  is_stopped e (inl g) = absurd (omega (arith, answer_all g, at_end_low pending))
  is_stopped e (inr (inl s)) = s
  is_stopped e (inr (inr s)) = absurd (omega (arith, answer_full s))

  -- of a call that is exact, each answer is given exactly in its case
  pub answer_cases : AnswerCases v room ks pending f.answer
  answer_cases =
      record {
        all_read = (
          λ e. let g = low_goes (omega arith) x.one_of_them in (g, end_none pending (sym (answer_all g) ∙ e)),
          λ h. answer_all h.0 ∙ ap at_end h.1,
        );
        waits = (
          λ e. let g = low_goes (omega arith) x.one_of_them in (g, end_some pending (sym (answer_all g) ∙ e)),
          λ h. answer_all h.0 ∙ ap at_end h.1.1,
        );
        full = (λ e. is_full e x.one_of_them, answer_full);
        stopped = (λ e. is_stopped e x.one_of_them, answer_stopped);
      }
