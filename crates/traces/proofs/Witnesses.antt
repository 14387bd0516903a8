-- The claim over lists is about something: worked lists with their traces, a list for each number that a list can meet, and the
-- sixteen rows.
use mathlib.Core.Bool.{true, false, false≢true}
use mathlib.Core.List.{List, [], ◌∷◌, ◌++◌, map, append-nil}
use mathlib.Core.Logic.{inl, inr}
use mathlib.Core.Path.{◌≡◌, refl, sym, ap, ◌∙◌, subst}
use Prim.Native.Nat.{ℕ, zero, suc, ◌<◌, ◌≤◌, ◌^◌}
use native.Mathlib.Omega.{arith}
use lib.ListN.{length, replicate, length-replicate}
use Rattle.codepage.specs.CodePage.{CodePage}
use Rattle.engine.specs.declared.Direction.{Direction}
use Rattle.engine.specs.Policies.{digits, replacing}
use Rattle.engine.specs.declared.Direction.TheVariants.{Decoding, Encoding}
use Rattle.engine.specs.declared.Policy.{Policy}
use Rattle.convert.specs.declared.Run.{Run}
use Rattle.convert.specs.Runs.{read_limit, fresh, start_of}
use Rattle.convert.specs.Calls.{Called, refusal, refused_call}
use Rattle.convert.specs.Sample.{sample_page, room, Row, rows, RowsHold}
use Rattle.convert.proofs.Computing.{call_rules}
use Rattle.convert.proofs.SampleRows.{sample_good, rows_hold}
use Rattle.convert.proofs.RefusalLaws.{refusals_exact}
use Rattle.convert.proofs.RunLaws.{refused_same}
use Rattle.checkpoint.specs.Sample.{sample_run, sample_line}
use Rattle.checkpoint.proofs.Computing.{line_rules}
use Rattle.checkpoint.proofs.LineLaws.{sample_saved, sample_restored}
use Rattle.traces.specs.Model.{Setting, by_value, Call, feeding, saving, loading, Model, Said, opened, says, play, next, Allowed, AllAllowed}
use Rattle.traces.specs.Traces.{Entry, AllBelow, width_of, Meets, AllMeet, hand_after, hand_at_end, calls_of, Proper}
use Rattle.traces.specs.Examples.{on_sample, interrupted_text, interrupted, mixed, encoding_on_sample, cut_pair_text, cut_pair, MeetsNumber, Example, calling, line, sixteen_rows, ExamplesHold}
use Rattle.traces.proofs.ModelLaws.{kept_start}
use Rattle.traces.proofs.ListLaws.{result_exists, results_exist, fresh_started, TraceOf, traces_exist}
use Rattle.traces.proofs.EveryTrace.{meets_says, over_list}
use Rattle.traces.proofs.Computing.{list_rules}

-- ---- settings on the sample page
abbrev with : Setting → CodePage → Setting
with s tables = record { tables = tables; direction = s.direction; page = s.page; policy = s.policy; text = s.text }

abbrev under : Setting → Policy → Setting
under s policy = record { tables = s.tables; direction = s.direction; page = s.page; policy = policy; text = s.text }

abbrev of_page : Setting → ℕ → Setting
of_page s page = record { tables = s.tables; direction = s.direction; page = page; policy = s.policy; text = s.text }

-- a list on any tables, of an accepted start
proper_in : (d : Direction) (s : Setting) → s.direction ≡ d → (start_of s.direction s.page s.policy).number ≡ 0 → s.page < 2 ^ 16 → AllBelow (2 ^ width_of d) s.text → length s.text ≤ read_limit → Proper s
proper_in d s e start page units within = record { start = start; page = page; units = rw e units; within = within }

abbrev proper : (s : Setting) → s.direction ≡ Decoding → (start_of s.direction s.page s.policy).number ≡ 0 → s.page < 2 ^ 16 → AllBelow 256 s.text → length s.text ≤ read_limit → Proper s
proper = proper_in Decoding

-- ---- THE INTERRUPTED RUN
-- A block ends on 82; the run is saved and read back; 7C is next. Nothing is lost: the list has a trace, at whose end the model
-- has ended with 0041 4E00 0042 and no flag.
pub record Kept (s : Setting) (calls : List Call) (joined : List ℕ) (position flags : ℕ) : Type 0 where
  pub proper' : Proper s
  pub traced : TraceOf s calls
  pub joined_is : (play s (opened s) calls).joined ≡ joined
  pub ended : (play s (opened s) calls).ended ≡ true
  pub position_is : (play s (opened s) calls).position ≡ position
  pub flags_are : (play s (opened s) calls).run.flags ≡ flags

pub interrupted_kept : Kept (on_sample interrupted_text) interrupted (0x0041 ∷ 0x4E00 ∷ 0x0042 ∷ []) 4 0
unfolding list_rules
interrupted_kept =
    let ok : Proper (on_sample interrupted_text) = proper (on_sample interrupted_text) refl refl (omega arith) (omega arith, (omega arith, (omega arith, (omega arith, tt)))) (omega arith) in
    record {
      proper' = ok;
      traced =
          traces_exist (on_sample interrupted_text) ok interrupted
          ((0x7C ∷ 0x42 ∷ [], refl, λ e. absurd (false≢true e)), (tt, (inl (_, refl), (([], refl, λ e. refl), tt))));
      joined_is = refl;
      ended = refl;
      position_is = refl;
      flags_are = refl;
    }

-- BOTH FORMS IN ONE RUN, with a save between: the same text, cut in three, gives the same.
pub mixed_kept : Kept (on_sample interrupted_text) mixed (0x0041 ∷ 0x4E00 ∷ 0x0042 ∷ []) 4 0
unfolding list_rules
mixed_kept =
    let ok : Proper (on_sample interrupted_text) = proper (on_sample interrupted_text) refl refl (omega arith) (omega arith, (omega arith, (omega arith, (omega arith, tt)))) (omega arith) in
    record {
      proper' = ok;
      traced =
          traces_exist (on_sample interrupted_text) ok mixed
          ((0x7C ∷ 0x42 ∷ [], refl, λ e. absurd (false≢true e)), (tt, (inl (_, refl), (([], refl, λ e. refl), (([], refl, λ e. refl), tt)))));
      joined_is = refl;
      ended = refl;
      position_is = refl;
      flags_are = refl;
    }

-- A PAIR OF SURROGATES that a block cuts, over a saved line, is one character: 41 3F 42, flag 1.
pub cut_pair_kept : Kept (encoding_on_sample cut_pair_text) cut_pair (0x41 ∷ 0x3F ∷ 0x42 ∷ []) 4 1
unfolding list_rules
cut_pair_kept =
    let ok : Proper (encoding_on_sample cut_pair_text) = proper_in Encoding (encoding_on_sample cut_pair_text) refl refl (omega arith) (omega arith, (omega arith, (omega arith, (omega arith, tt)))) (omega arith) in
    record {
      proper' = ok;
      traced =
          traces_exist (encoding_on_sample cut_pair_text) ok cut_pair
          ((0xDE00 ∷ 0x0042 ∷ [], refl, λ e. absurd (false≢true e)), (tt, (inl (_, refl), (([], refl, λ e. refl), tt))));
      joined_is = refl;
      ended = refl;
      position_is = refl;
      flags_are = refl;
    }

-- ---- THE SIXTEEN ROWS: one list, one claim.
sixteen_from : (rs : List Row) (es : List Example) → RowsHold rs → ExamplesHold es → ExamplesHold (map calling rs ++ es)
sixteen_from [] es h g = g
sixteen_from (r ∷ rs) es h g = (h.0, sixteen_from rs es h.1 g)

pub sixteen_rows_lem : ExamplesHold sixteen_rows
unfolding line_rules
sixteen_rows_lem = sixteen_from rows (line sample_run sample_line ∷ []) rows_hold ((sample_saved, sample_restored, refl), tt)

-- ---- a trace for each number that a list can meet
-- the results of two lists of calls, one behind the other
join_met : (s : Setting) (hand : Run) (es : List Entry) (e : Entry) → AllMeet s hand es → Meets s (hand_at_end hand es) e.call e.result → AllMeet s hand (es ++ (e ∷ []))
unfolding AllMeet hand_at_end
join_met s hand [] e m w = (w, tt)
join_met s hand (x ∷ es) e m w = (m.0, join_met s (hand_after hand x.result) es e m.1 w)

join_calls : (es : List Entry) (e : Entry) → calls_of (es ++ (e ∷ [])) ≡ calls_of es ++ (e.call ∷ [])
join_calls [] e = refl
join_calls (x ∷ es) e = ap (λ (l : List Call). x.call ∷ l) (join_calls es e)

allowed_front : (s : Setting) (m : Model) (cs : List Call) (c : Call) → AllAllowed s m (cs ++ (c ∷ [])) → AllAllowed s m cs
unfolding AllAllowed
allowed_front s m [] c ok = tt
allowed_front s m (d ∷ cs) c ok = (ok.0, allowed_front s (next s m d) cs c ok.1)

-- a list of allowed calls whose last is answered so by the model has such a trace
meets : (s : Setting) → Proper s → (number : ℕ) (before : List Call) (c : Call) → AllAllowed s (opened s) (before ++ (c ∷ [])) → (says s (play s (opened s) before).run c).number ≡ number → MeetsNumber s number
meets s h number before c ok e =
    let start = fresh s.direction s.page s.policy in
    let p = results_exist s start before in
    let hand = hand_at_end start p.entries in
    let (r, w) = result_exists s hand c in
    let final : Entry = record { call = c; result = r } in
    let calls : calls_of (p.entries ++ (final ∷ [])) ≡ before ++ (c ∷ []) = join_calls p.entries final ∙ ap (λ (l : List Call). l ++ (c ∷ [])) p.calls in
    let front : AllAllowed s (opened s) (calls_of p.entries) = subst (λ (l : List Call). AllAllowed s (opened s) l) (sym p.calls) (allowed_front s (opened s) before c ok) in
    let in_hand : hand ≡ (play s (opened s) before).run =
    (over_list s h p.entries (opened s) start (unfold opened in refl) (kept_start s h) front p.met).in_hand ∙ ap (λ (l : List Call). (play s (opened s) l).run) p.calls in
    record {
      proper = h;
      start = start;
      before = p.entries;
      final = final;
      trace =
          record {
            started = fresh_started s h;
            allowed = subst (λ (l : List Call). AllAllowed s (opened s) l) (sym calls) ok;
            met = join_met s start p.entries final p.met w;
          };
      answer = ap (λ (a : Said). a.number) (meets_says s hand c r w ∙ ap (λ (x : Run). says s x c) in_hand) ∙ e;
    }

-- a table set that has no good shape
abbrev no_tables : CodePage
no_tables = record { page = 7; default_byte = 0; default_unit = 0; classes = []; singles = []; pairs = []; index = []; blocks = [] }

abbrev too_many : List ℕ
too_many = replicate 65537 0x41

below_replicate : (n k a : ℕ) → a < n → AllBelow n (replicate k a)
below_replicate n zero a h = tt
below_replicate n (suc k) a h = (h, below_replicate n k a h)

-- one more than a piece may have
long_proper : Proper (on_sample too_many)
unfolding call_rules
long_proper = proper (on_sample too_many) refl refl (omega arith) (below_replicate 256 65537 0x41 (omega arith)) (omega (arith, length-replicate {A = ℕ} 65537 0x41))

too_long : MeetsNumber (on_sample too_many) 11
unfolding opened says play Allowed AllAllowed
too_long =
    meets (on_sample too_many) long_proper 11 [] (feeding by_value too_many true (room 0)) (([], sym (append-nil too_many), λ e. refl), tt)
    (ap (λ (c : Called). c.number) (refused_same Decoding (fresh Decoding 7 replacing) sample_page too_many true 0 (λ z. omega (arith, z, refused)))
    ∙ unfold refused_call in refused)
  where
    refused : refusal Decoding (fresh Decoding 7 replacing) sample_page (length too_many) ≡ 11
    refused = (refusals_exact Decoding (fresh Decoding 7 replacing) sample_page (length too_many)).too_long.1 (sample_good, omega (arith, length-replicate {A = ℕ} 65537 0x41))

-- A TRACE FOR EACH NUMBER that a list can meet.
pub numbers_met : MeetsNumber (on_sample (0x41 ∷ [])) 0 × MeetsNumber (on_sample (0x82 ∷ [])) 1 × MeetsNumber (on_sample (0x41 ∷ [])) 2 × MeetsNumber (under (on_sample (0x80 ∷ [])) (digits 0 5 5)) 3
    × MeetsNumber (with (on_sample []) no_tables) 10 × MeetsNumber (on_sample too_many) 11 × MeetsNumber (of_page (on_sample []) 8) 13 × MeetsNumber (on_sample []) 15 × MeetsNumber (on_sample []) 18 × MeetsNumber (on_sample []) 19
unfolding list_rules
numbers_met =
    let letter : Proper (on_sample (0x41 ∷ [])) = proper (on_sample (0x41 ∷ [])) refl refl (omega arith) (omega arith, tt) (omega arith) in
    let none : Proper (on_sample []) = proper (on_sample []) refl refl (omega arith) tt (omega arith) in (
      meets (on_sample (0x41 ∷ [])) letter 0 [] (feeding by_value (0x41 ∷ []) true (room 1)) (([], refl, λ e. refl), tt) refl,
      meets (on_sample (0x82 ∷ [])) (proper (on_sample (0x82 ∷ [])) refl refl (omega arith) (omega arith, tt) (omega arith)) 1 [] (feeding by_value (0x82 ∷ []) false (room 0)) (([], refl, λ e. refl), tt) refl,
      meets (on_sample (0x41 ∷ [])) letter 2 [] (feeding by_value (0x41 ∷ []) true (room 0)) (([], refl, λ e. refl), tt) refl,
      meets (under (on_sample (0x80 ∷ [])) (digits 0 5 5)) (proper (under (on_sample (0x80 ∷ [])) (digits 0 5 5)) refl refl (omega arith) (omega arith, tt) (omega arith)) 3 []
          (feeding by_value (0x80 ∷ []) true (room 0)) (([], refl, λ e. refl), tt) refl,
      meets (with (on_sample []) no_tables) (proper (with (on_sample []) no_tables) refl refl (omega arith) tt (omega arith)) 10 [] (feeding by_value [] false (room 0)) (([], refl, λ e. refl), tt) refl,
      too_long,
      meets (of_page (on_sample []) 8) (proper (of_page (on_sample []) 8) refl refl (omega arith) tt (omega arith)) 13 [] (feeding by_value [] false (room 0)) (([], refl, λ e. refl), tt) refl,
      meets (on_sample []) none 15 (feeding by_value [] true (room 0) ∷ []) (feeding by_value [] false (room 0)) (([], refl, λ e. refl), (([], refl, λ e. refl), tt)) refl,
      meets (on_sample []) none 18 [] (loading []) (inr refl, tt) refl,
      meets (on_sample []) none 19 [] (saving (room 0)) (tt, tt) refl,
    )
