-- The claims of CR 7 about the findings of a text: each is a code that the rules read there, none is left out, and there are none exactly
-- if the flags 1, 2 and 4 of the whole reading are clear.
use mathlib.Core.Bool.{Bool, true, false}
use mathlib.Core.List.{List, [], ◌∷◌, ◌++◌}
use mathlib.Core.Logic.{◌↔◌}
use mathlib.Core.Path.{◌≡◌, refl, sym, ap, ◌∙◌}
use Prim.Native.Nat.{ℕ, zero, suc, ◌+◌, ◌≤◌, ◌%◌, ◌^◌}
use native.Mathlib.Omega.{arith}
use lib.Bits.{bit_or, or_zero_l, or_mod, or_add_and, and_le_l, and_le_r}
use lib.Dec.{eqb, leb}
use lib.ListN.{length}
use mathlib.Core.Option.{none}
use borrow.Author.Tests.{ne_eqb, leb-true, leb-false}
use Rattle.codepage.specs.CodePage.{CodePage, pick}
use Rattle.codepage.specs.Reading.{Reader, Code, size_of, codes}
use Rattle.codepage.specs.declared.Kind.{Kind}
use Rattle.codepage.specs.declared.Kind.TheVariants.{UndefinedSingle, UndefinedPair, Invalid}
use Rattle.codepage.specs.Reading.{Lookup}
use Rattle.std.specs.Prelude.{Ok, Err}
use Rattle.engine.specs.declared.Policy.{Policy}
use Rattle.engine.specs.declared.policies.Action.{Action}
use Rattle.engine.specs.declared.policies.Action.TheVariants.{Stop, Skip, Write}
use Rattle.engine.specs.Policies.{digit_of, flag_of, action_of, stopped_flag}
use Rattle.engine.specs.Engine.{acted, effect_of, converter, endless, fits, room_left, Fed, halt, after, stop_at, take_when, take_code, take_codes, whole}
use Rattle.codepage_walk.specs.Walk.{Placed, placed_from, placed, CodeAt}
use Rattle.codepage_walk.specs.Checks.{bytes_reader}
use Rattle.codepage_walk.proofs.WalkLaws.{codes_at, EachAt, code_there}
use Rattle.findings.specs.declared.Finding.{Finding}
use Rattle.findings.specs.Findings.{code_finding, until_stop, finding_then, findings_in, findings_of, findings_from}
use Rattle.findings.specs.Calls.{findings_text}
use Rattle.findings.proofs.FindingLaws.{code_bytes, from_end, from_code}
use Rattle.findings.specs.Claims.{IsRead, AllRead, Rising, GoesOn, NoStop, kind_flags}

-- ---- EACH ENTRY IS A CODE THAT THE RULES READ at that place with that kind
module _ (p : CodePage) (policy : Policy) (text : List ℕ) where
  until_read : (f : Finding) (fs : List Finding) (t : Bool) → IsRead p policy text f → AllRead p policy text fs → AllRead p policy text (f ∷ pick t [] fs)
  until_read f fs true h all = (h, tt)
  until_read f fs false h all = (h, all)

  then_read : (c : Placed) (m : Lookup) (later : List Finding) → CodeAt (bytes_reader p) text c.place c.code → c.code.means ≡ m → AllRead p policy text later → AllRead p policy text (finding_then policy c m later)
  then_read c (Ok unit) later at e all = all
  then_read c (Err kind) later at e all =
      until_read (code_finding policy kind c) later (eqb (digit_of policy kind) 0)
      (record {
        code = c.code;
        kind = kind;
        at = at;
        lacking = e;
        told = refl;
        bytes = (code_bytes (bytes_reader p) text c.place c.code at).all;
      })
      all

  all_read : (cs : List Placed) → EachAt (bytes_reader p) text cs → AllRead p policy text (findings_in policy cs)
  unfolding EachAt findings_in
  all_read [] h = tt
  all_read (c ∷ cs) (at, h) = then_read c c.code.means (findings_in policy cs) at refl (all_read cs h)

  pub each_is_read : AllRead p policy text (findings_text policy p text)
  unfolding findings_of
  each_is_read = all_read (placed (bytes_reader p) text) (codes_at (bytes_reader p) text)

-- ---- IN ORDER OF PLACE: each begins behind the bytes of the one before it
module _ (policy : Policy) where
  until_rises : (from : ℕ) (f : Finding) (fs : List Finding) (t : Bool) → from ≤ f.place → 1 ≤ f.size → Rising (f.place + f.size) fs → Rising from (f ∷ pick t [] fs)
  until_rises from f fs true h s all = (h, (s, tt))
  until_rises from f fs false h s all = (h, (s, all))

  rises_more : (from to : ℕ) (fs : List Finding) → from ≤ to → Rising to fs → Rising from fs
  rises_more from to [] h all = tt
  rises_more from to (f ∷ fs) h (g, all) = (omega (arith, h, g), all)

  then_rises : (from : ℕ) (k : Code) (m : Lookup) (later : List Finding) → Rising (from + size_of k) later → Rising from (finding_then policy (record { place = from; code = k }) m later)
  then_rises from k (Ok unit) later all = rises_more from (from + size_of k) later (omega arith) all
  then_rises from k (Err kind) later all =
      until_rises from (code_finding policy kind (record { place = from; code = k })) later (eqb (digit_of policy kind) 0) (omega arith) (omega arith) all

  rises_in : (from : ℕ) (ks : List Code) → Rising from (findings_in policy (placed_from from ks))
  unfolding findings_in placed_from
  rises_in from [] = tt
  rises_in from (k ∷ ks) = then_rises from k k.means (findings_in policy (placed_from (from + size_of k) ks)) (rises_in (from + size_of k) ks)

  pub places_rise : (r : Reader) (text : List ℕ) → Rising 0 (findings_of r policy text)
  unfolding findings_of placed
  places_rise r text = rises_in 0 (codes r text)

  -- ---- NONE IS LEFT OUT: a code that the reading comes to and that has no character is the entry behind those of the codes before it. If
  -- its digit is 0, it is the last.
  past_one : (c : Placed) (m : Lookup) (before later : List Finding) → GoesOn policy m → finding_then policy c m (before ++ later) ≡ finding_then policy c m before ++ later
  past_one c (Ok unit) before later h = refl
  past_one c (Err kind) before later h = rw (ne_eqb (digit_of policy kind) 0 h)

  past : (before rest : List Placed) → NoStop policy before → findings_in policy (before ++ rest) ≡ findings_in policy before ++ findings_in policy rest
  unfolding findings_in
  past [] rest h = refl
  past (c ∷ cs) rest (g, h) = ap (finding_then policy c c.code.means) (past cs rest h) ∙ past_one c c.code.means (findings_in policy cs) (findings_in policy rest) g

  pub none_left_out : (r : Reader) (text : List ℕ) (before : List Placed) (c : Placed) (after : List Placed) (kind : Kind) → placed r text ≡ before ++ (c ∷ after) → c.code.means ≡ Err kind → NoStop policy before
      → findings_of r policy text ≡ findings_in policy before ++ until_stop (code_finding policy kind c) (findings_in policy after)
  unfolding findings_of findings_in
  none_left_out r text before c after kind e q h =
      ap (findings_in policy) e ∙ past before (c ∷ after) h ∙ ap (λ (m : Lookup). findings_in policy before ++ finding_then policy c m (findings_in policy after)) q

-- ---- the flags of a reading
or_none_lem : (a b : ℕ) → bit_or a b ≡ 0 → a ≡ 0
or_none_lem a b e = omega (arith, e, or_add_and a b, and_le_l a b, and_le_r a b)

kind_flagged : (kind : Kind) (x : ℕ) → kind_flags (bit_or (flag_of kind) x) ≡ 0 → ⊥
kind_flagged UndefinedSingle x e = let z = or_none_lem 1 (x % 2 ^ 3) (sym (or_mod 1 x 3) ∙ e) in omega (arith, z)
kind_flagged UndefinedPair x e = let z = or_none_lem 2 (x % 2 ^ 3) (sym (or_mod 2 x 3) ∙ e) in omega (arith, z)
kind_flagged Invalid x e = let z = or_none_lem 4 (x % 2 ^ 3) (sym (or_mod 4 x 3) ∙ e) in omega (arith, z)

-- a code without a character sets its flag, whatever its digit does
acted_flag : (flag n : ℕ) (action : Action) (rest : Fed) → (x : ℕ) × ((take_code endless n (acted flag action) rest).flags ≡ bit_or flag x)
unfolding take_code take_when stop_at after fits
acted_flag flag n Stop rest = (stopped_flag, refl)
acted_flag flag n Skip rest = (rest.flags, refl)
acted_flag flag n (Write value) rest = (rest.flags, refl)

module _ (r : Reader) (policy : Policy) (default : ℕ) where
  abbrev read : List Code → Fed
  read ks = take_codes (converter r policy default) endless ks none

  -- one code more, by what it means
  one_flags : (c : Placed) (m : Lookup) (rest : Fed) (later : List Finding) → ((later ≡ []) ↔ (kind_flags rest.flags ≡ 0))
      → (finding_then policy c m later ≡ []) ↔ (kind_flags (take_code endless (size_of c.code) (effect_of r.writes policy default c.code.first m) rest).flags ≡ 0)
  unfolding take_code take_when after fits effect_of
  one_flags c (Ok unit) rest later h = (λ e. ap kind_flags (or_zero_l rest.flags) ∙ h.0 e, λ e. h.1 (ap kind_flags (sym (or_zero_l rest.flags)) ∙ e))
  one_flags c (Err kind) rest later h =
      let set = acted_flag (flag_of kind) (size_of c.code) (action_of (digit_of policy kind) default c.code.first) rest in (
        λ e. absurd (let z : ◌≡◌ {A = ℕ} 0 1 = cc in omega arith),
        λ e. absurd (kind_flagged kind set.0 (ap kind_flags (sym set.1) ∙ e)),
      )

  flags_in : (place : ℕ) (ks : List Code) → (findings_in policy (placed_from place ks) ≡ []) ↔ (kind_flags (read ks).flags ≡ 0)
  unfolding findings_in placed_from take_codes converter room_left halt
  flags_in place [] = (λ e. refl, λ e. refl)
  flags_in place (k ∷ ks) = one_flags (record { place = place; code = k }) k.means (read ks) (findings_in policy (placed_from (place + size_of k) ks)) (flags_in (place + size_of k) ks)

  -- NO FINDINGS EXACTLY IF THE FLAGS 1, 2 AND 4 of the whole reading are clear.
  pub none_if_clear : (text : List ℕ) → (findings_of r policy text ≡ []) ↔ (kind_flags (whole r policy default text).flags ≡ 0)
  unfolding findings_of placed whole
  none_if_clear text = flags_in 0 (codes r text)

-- ---- GOING ON BEHIND A FINDING: the findings behind one are those from its end on, or none if it stopped the reading.
module _ (r : Reader) (policy : Policy) (text : List ℕ) (f : Finding) (fs : List Finding) where
  abbrev Behind : Type 0
  Behind = fs ≡ pick (eqb f.digit 0) [] (findings_from r policy text (f.place + f.size))

  none_there : ◌≡◌ {A = List Finding} [] (f ∷ fs) → ⊥
  none_there e = let z : ◌≡◌ {A = ℕ} 0 1 = cc in omega arith

  at_code : (k : Code) (place : ℕ) (m : Lookup) → finding_then policy (record { place = place; code = k }) m (findings_from r policy text (place + size_of k)) ≡ f ∷ fs
      → (findings_from r policy text (place + size_of k) ≡ f ∷ fs → Behind) → Behind
  at_code k place (Ok unit) e later = later e
  at_code k place (Err kind) e later =
      let same : code_finding policy kind (record { place = place; code = k }) ≡ f = cc in
      let rest : pick (eqb (digit_of policy kind) 0) [] (findings_from r policy text (place + size_of k)) ≡ fs = cc in
      sym rest ∙ ap (λ (g : Finding). pick (eqb g.digit 0) [] (findings_from r policy text (g.place + g.size))) same

  behind_from : (n place : ℕ) → length text ≤ place + n → findings_from r policy text place ≡ f ∷ fs → Behind
  behind_from zero place h e = absurd (none_there (sym (from_end r policy text place (omega arith)) ∙ e))
  behind_from (suc n) place h e = by (leb (length text) place) refl (behind_from n)
    where
      by : (t : Bool) → leb (length text) place ≡ t → ((next : ℕ) → length text ≤ next + n → findings_from r policy text next ≡ f ∷ fs → Behind) → Behind
      by true q later = absurd (none_there (sym (from_end r policy text place (leb-true _ _ q)) ∙ e))
      by false q later =
          let there = code_there r text place (leb-false _ _ q) in
          at_code there.code place there.code.means (sym (from_code r policy text place there.code there.at) ∙ e) (later (place + size_of there.code) (omega arith))

  pub next_behind : (place : ℕ) → findings_from r policy text place ≡ f ∷ fs → Behind
  next_behind place e = behind_from (length text) place (omega arith) e
