-- Laws of the call: what it gives in each of its cases, and what its functions require.
use mathlib.Core.Bool.{true, false, true≢false}
use mathlib.Core.List.{List, [], ◌∷◌}
use mathlib.Core.Option.{Option, none, some}
use mathlib.Core.Path.{◌≡◌, refl, sym, ap, ◌∙◌}
use Prim.Native.Nat.{ℕ, ◌*◌, ◌≤◌, ◌<◌}
use lib.ListN.{length}
use borrow.Author.Tests.{le-leb, lt-leb}
use Rattle.codepage.specs.CodePage.{CodePage, GoodShape, leads, first_fault, is_good}
use Rattle.codepage.specs.Marks.{NoLowLead}
use Rattle.codepage.proofs.ShapeLaws.{shape_exact}
use Rattle.codepage_lookup.specs.Profile.{KnownClasses}
use Rattle.engine.specs.declared.Direction.TheVariants.{Decoding}
use Rattle.engine.specs.declared.Policy.{Policy}
use Rattle.engine.specs.Policies.{policy_allowed}
use Rattle.convert.specs.Runs.{piece_limit}
use Rattle.codepage_walk.specs.Checks.{bytes_reader}
use Rattle.findings.specs.declared.Finding.{Finding}
use Rattle.findings.specs.declared.Refusal.{Refusal}
use Rattle.findings.specs.declared.Refusal.TheVariants.{BadPolicy, BadShape, TooLong}
use Rattle.std.specs.Prelude.{Option as RustOption, Some, None, Ok, Err, MatchOption, option_map}
use Rattle.findings.specs.declared.Located.{Located}
use Rattle.findings.specs.Calls.{findings_refusal, findings_text, FindingsListed, call_unless, findings_call, next_of}
use Rattle.findings.specs.Findings.{findings_from, filled_front}
use Rattle.findings.specs.Steps.{FoundAt, Filled}
use Rattle.findings.proofs.FindingLaws.{from_start}
use Rattle.findings.proofs.FillLaws.{filled_none}

-- ---- tables of a good shape
module _ (p : CodePage) (e : is_good (first_fault p) ≡ true) where
  good : GoodShape p
  good = (shape_exact p).0 e

  -- what tables carry whose shape is good
  pub byte_shape : (length p.classes ≡ 256) × (length p.singles ≡ 256) × (length p.pairs ≡ 256 * leads p.classes) × KnownClasses p.classes × NoLowLead p.classes
  byte_shape = (good.classes, good.singles, good.pairs, good.class, good.low)

-- a shape with a fault is not good
pub bad_shape : (p : CodePage) → is_good (first_fault p) ≡ false → GoodShape p → ⊥
bad_shape p e g = true≢false (sym ((shape_exact p).1 g) ∙ e)

-- ---- the refusals
module _ (policy : Policy) (p : CodePage) (text : List ℕ) where
  -- 17
  pub refused_policy : policy_allowed Decoding policy ≡ false → findings_refusal policy p text ≡ some BadPolicy
  unfolding findings_refusal
  refused_policy a = rw a

  module _ (a : policy_allowed Decoding policy ≡ true) where
    -- 10
    pub refused_shape : is_good (first_fault p) ≡ false → findings_refusal policy p text ≡ some BadShape
    unfolding findings_refusal
    refused_shape e = rw (a, e)

    module _ (e : is_good (first_fault p) ≡ true) where
      -- 11
      pub refused_long : piece_limit < length text → findings_refusal policy p text ≡ some TooLong
      unfolding findings_refusal
      refused_long h = rw (a, e, lt-leb (length text) piece_limit h)

      -- else there is no refusal
      pub accepted : length text ≤ piece_limit → findings_refusal policy p text ≡ none
      unfolding findings_refusal
      accepted h = rw (a, e, le-leb (length text) piece_limit h)

  -- what the call gives
  pub call_refused : (why : Refusal) → findings_refusal policy p text ≡ some why → findings_call policy p text ≡ record { answer = Err why; entries = [] }
  unfolding findings_call
  call_refused why e = ap (λ (o : Option Refusal). call_unless o (findings_text policy p text)) e

  -- an accepted call tells the number of all findings, and lists them
  pub call_accepted : findings_refusal policy p text ≡ none → findings_call policy p text ≡ record { answer = Ok (length (findings_text policy p text)); entries = findings_text policy p text }
  unfolding findings_call
  call_accepted e = ap (λ (o : Option Refusal). call_unless o (findings_text policy p text)) e

  -- what is returned, and the list after the call: of a refusal as before
  pub listed_refused : (why : Refusal) (before : List Finding) → findings_refusal policy p text ≡ some why → FindingsListed (findings_call policy p text) (Err why) before before
  listed_refused why before e = rw (call_refused why e) (record { answer = refl; lent = sym (filled_none before) })

  -- else filled with the text's findings
  pub listed_filled : (count : ℕ) (before after : List Finding) → findings_refusal policy p text ≡ none → Filled (findings_from (bytes_reader p) policy text 0) count before after → FindingsListed (findings_call policy p text) (Ok count) before after
  listed_filled count before after e w =
      let all = from_start (bytes_reader p) policy text in
      rw (call_accepted e)
      (record { answer = ap (λ (n : ℕ). Ok n) (w.number ∙ ap (λ (fs : List Finding). length fs) (sym all)); lent = w.lent ∙ ap (filled_front before) (sym all) })

-- ---- the next finding
module _ (policy : Policy) (p : CodePage) (text : List ℕ) (from : ℕ) where
  -- refused
  pub next_refused : (why : Refusal) → findings_refusal policy p text ≡ some why → Err why ≡ next_of policy p text from
  unfolding next_of
  next_refused why e = rw e

  module _ (e : findings_refusal policy p text ≡ none) where
    -- none is left
    pub next_nothing : findings_from (bytes_reader p) policy text from ≡ [] → Ok None ≡ next_of policy p text from
    unfolding next_of
    next_nothing q = rw (e, q)

    -- the first
    pub next_found : (f : Finding) (fs : List Finding) → findings_from (bytes_reader p) policy text from ≡ f ∷ fs → Ok (Some f) ≡ next_of policy p text from
    unfolding next_of
    next_found f fs q = rw (e, q)

    -- the first, if there is one
    pub next_given : (o : RustOption Located) → MatchOption o (findings_from (bytes_reader p) policy text from ≡ []) (λ s. FoundAt (bytes_reader p) policy text from s) → Ok (option_map (λ (s : Located). s.finding) o) ≡ next_of policy p text from
    next_given None h = next_nothing h
    next_given (Some s) h = next_found s.finding _ h.one
