-- Texts that map both ways come back through run calls, under any cutting, with any saves and reloads between.
use mathlib.Core.Bool.{true}
use mathlib.Core.List.{List}
use mathlib.Core.Path.{◌≡◌, refl, ap, ◌∙◌}
use Prim.Native.Nat.{ℕ}
use borrow.Author.Tests.{eq-eqb}
use Rattle.codepage.specs.CodePage.{CodePage, GoodShape}
use Rattle.codepage.proofs.ShapeLaws.{shape_exact}
use Rattle.engine.specs.declared.Direction.{Direction}
use Rattle.engine.specs.declared.Direction.TheVariants.{Decoding, Encoding}
use Rattle.engine.specs.declared.Policy.{Policy}
use Rattle.engine.specs.Engine.{Fed, whole}
use Rattle.convert.specs.declared.Run.{Run}
use Rattle.engine.specs.Engine.{reader_of, default_of}
use Rattle.convert.specs.RoundTrips.{UnitsReturn, BytesReturn}
use Rattle.convert.proofs.RoundTripLaws.{returns_units, returns_bytes}
use Rattle.traces.specs.Model.{Setting, opened, play, whole_of}
use Rattle.traces.specs.Traces.{Entry, calls_of, hand_at_end, Proper, Trace}
use Rattle.traces.proofs.EveryTrace.{every_trace}

-- a list on tables of their own page
abbrev pub own_page : CodePage → Direction → Policy → List ℕ → Setting
own_page p direction policy text = record { tables = p; direction = direction; page = p.page; policy = policy; text = text }

-- the joined output of a list
abbrev pub joined_output : Setting → List Entry → List ℕ
joined_output s es = (play s (opened s) (calls_of es)).joined

-- A list that ended: its calls are allowed, its results meet the contracts, and the model has ended.
pub record Done (s : Setting) (es : List Entry) : Type 0 where
  pub proper : Proper s
  pub start : Run
  pub trace : Trace s start es
  pub ended : (play s (opened s) (calls_of es)).ended ≡ true

-- the flags of the run in hand at its end
abbrev pub flags_by : (s : Setting) (es : List Entry) → Done s es → ℕ
flags_by s es done = (hand_at_end done.start es).flags

whole_own : (p : CodePage) → GoodShape p → (direction : Direction) (policy : Policy) (text : List ℕ)
    → whole_of (own_page p direction policy text) ≡ whole (reader_of direction p) policy (default_of direction p) text
unfolding whole_of
whole_own p good direction policy text = rw ((shape_exact p).1 good, eq-eqb p.page p.page refl)

module _ (p : CodePage) (good : GoodShape p) (direction : Direction) (policy : Policy) (text : List ℕ) (es : List Entry) (done : Done (own_page p direction policy text) es) where
  joined_whole : joined_output (own_page p direction policy text) es ≡ (whole (reader_of direction p) policy (default_of direction p) text).output
  joined_whole =
      ((every_trace (own_page p direction policy text) done.proper done.start es done.trace).at_end.all_of_it done.ended).0 ∙ ap (λ (f : Fed). f.output) (whole_own p good direction policy text)

  flags_whole : flags_by (own_page p direction policy text) es done ≡ (whole (reader_of direction p) policy (default_of direction p) text).flags
  flags_whole =
      ((every_trace (own_page p direction policy text) done.proper done.start es done.trace).at_end.all_of_it done.ended).1 ∙ ap (λ (f : Fed). f.flags) (whole_own p good direction policy text)

-- UNITS RETURN through any two lists of calls: encoded by one, decoded by the other.
pub units_return_by_calls : (p : CodePage) → GoodShape p → (text : List ℕ) → UnitsReturn p text → (encoding decoding : Policy) (es fs : List Entry) (e : Done (own_page p Encoding encoding text) es)
    (d : Done (own_page p Decoding decoding (joined_output (own_page p Encoding encoding text) es)) fs)
    → (joined_output (own_page p Decoding decoding (joined_output (own_page p Encoding encoding text) es)) fs ≡ text) × (flags_by (own_page p Encoding encoding text) es e ≡ 0)
    × (flags_by (own_page p Decoding decoding (joined_output (own_page p Encoding encoding text) es)) fs d ≡ 0)
units_return_by_calls p good text h encoding decoding es fs e d =
    let b = joined_whole p good Encoding encoding text es e in
    let r = returns_units p text h encoding decoding p.default_byte p.default_unit in (
      joined_whole p good Decoding decoding _ fs d ∙ ap (λ (l : List ℕ). (whole (reader_of Decoding p) decoding p.default_unit l).output) b ∙ r.0,
      flags_whole p good Encoding encoding text es e ∙ r.1,
      flags_whole p good Decoding decoding _ fs d ∙ ap (λ (l : List ℕ). (whole (reader_of Decoding p) decoding p.default_unit l).flags) b ∙ r.2,
    )

-- BYTES RETURN through any two lists of calls: decoded by one, encoded by the other.
pub bytes_return_by_calls : (p : CodePage) → GoodShape p → (text : List ℕ) → BytesReturn p text → (decoding encoding : Policy) (es fs : List Entry) (d : Done (own_page p Decoding decoding text) es)
    (e : Done (own_page p Encoding encoding (joined_output (own_page p Decoding decoding text) es)) fs)
    → (joined_output (own_page p Encoding encoding (joined_output (own_page p Decoding decoding text) es)) fs ≡ text) × (flags_by (own_page p Decoding decoding text) es d ≡ 0)
    × (flags_by (own_page p Encoding encoding (joined_output (own_page p Decoding decoding text) es)) fs e ≡ 0)
bytes_return_by_calls p good text h decoding encoding es fs d e =
    let u = joined_whole p good Decoding decoding text es d in
    let r = returns_bytes p text h decoding encoding p.default_unit p.default_byte in (
      joined_whole p good Encoding encoding _ fs e ∙ ap (λ (l : List ℕ). (whole (reader_of Encoding p) encoding p.default_byte l).output) u ∙ r.0,
      flags_whole p good Decoding decoding text es d ∙ r.1,
      flags_whole p good Encoding encoding _ fs e ∙ ap (λ (l : List ℕ). (whole (reader_of Encoding p) encoding p.default_byte l).flags) u ∙ r.2,
    )
