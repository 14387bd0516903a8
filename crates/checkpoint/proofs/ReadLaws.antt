-- Laws of reading a whole line: the program leaves a number at once where it is over a limit; the line is then refused, whatever follows.
use mathlib.Core.Bool.{Bool, true, false, true≢false}
use mathlib.Core.List.{List, []}
use lib.Seq.{drop-length}
use mathlib.Core.Option.{Option, none, some}
use mathlib.Core.Path.{◌≡◌, refl, sym, ap, ◌∙◌}
use Prim.Native.Nat.{ℕ, ◌<◌, ◌≤◌}
use native.Mathlib.Omega.{arith}
use lib.Dec.{leb}
use lib.ListN.{length}
use borrow.Author.Tests.{leb-true, leb-false}
use Rattle.convert.specs.declared.Run.{Run}
use Rattle.convert.specs.Runs.{valid_run, read_limit, written_limit}
use Rattle.checkpoint.specs.Line.{Parsed, Parser, succeed, ◌>>=◌, letter, number, three_digits, pending_field, field, tab, is_byte, one, closing, fields_by, fields, kept, run_of, loaded, read_of}
use Rattle.checkpoint.specs.Places.{read_at, found_at, at_most, up_to}
use Rattle.checkpoint.proofs.ParserLaws.{got, then_some, then_none, one_back, is_byte_back, return_some}
use Rattle.checkpoint.proofs.LineLaws.{bounded, kept_some}
use Rattle.checkpoint.proofs.PlaceLaws.{read_then, read_in, found_in, at_most_lem, over_most, same_then}

-- the fields in their order, with numbers up to the limits
unfoldable pub limited : Parser Run
limited = do
  direction ← field letter
  page ← field (up_to 65535 number)
  policy ← field three_digits
  pending ← field (pending_field direction)
  flags ← field (up_to 255 number)
  read ← field (up_to read_limit number)
  written ← field (up_to written_limit number)
  ended ← closing
  succeed
      (record {
        direction = direction;
        page = page;
        policy = policy;
        pending = pending;
        flags = flags;
        read = read;
        written = written;
        ended = ended;
      })

-- ---- what is kept of one parser, then another
kept_none : kept none ≡ none
unfolding kept
kept_none = refl

module _ {A : Type 0} (p : Parser A) (bytes : List ℕ) where
  kept_then : (k l : A → Parser Run) → ((a : A) (rest : List ℕ) → kept (k a rest) ≡ kept (l a rest)) → kept ((p >>= k) bytes) ≡ kept ((p >>= l) bytes)
  kept_then k l f = by_case (p bytes) refl
    where
      by_case : (o : Option (Parsed A)) → p bytes ≡ o → kept ((p >>= k) bytes) ≡ kept ((p >>= l) bytes)
      by_case none q = ap kept (then_none p k bytes q ∙ sym (then_none p l bytes q))
      by_case (some r) q = ap kept (then_some p k bytes r.value r.rest q) ∙ f r.value r.rest ∙ ap kept (sym (then_some p l bytes r.value r.rest q))

  never_then : (k : A → Parser Run) → ((a : A) (rest : List ℕ) → kept (k a rest) ≡ none) → kept ((p >>= k) bytes) ≡ none
  never_then k f = by_case (p bytes) refl
    where
      by_case : (o : Option (Parsed A)) → p bytes ≡ o → kept ((p >>= k) bytes) ≡ none
      by_case none q = ap kept (then_none p k bytes q) ∙ kept_none
      by_case (some r) q = ap kept (then_some p k bytes r.value r.rest q) ∙ f r.value r.rest

-- ---- a number and its tab, with a limit and without
module _ (limit : ℕ) (bytes : List ℕ) where
  limit_none : number bytes ≡ none → field (up_to limit number) bytes ≡ field number bytes
  unfolding field up_to
  limit_none e = then_none (number >>= at_most limit) _ bytes (then_none number (at_most limit) bytes e) ∙ sym (then_none number _ bytes e)

  limit_in : (f : Parsed ℕ) → number bytes ≡ some f → f.value ≤ limit → field (up_to limit number) bytes ≡ field number bytes
  unfolding field up_to
  limit_in f e h = same_then (number >>= at_most limit) number _ bytes bytes (then_some number (at_most limit) bytes f.value f.rest e ∙ at_most_lem limit f.value f.rest h ∙ sym e)

  limit_out : (f : Parsed ℕ) → number bytes ≡ some f → limit < f.value → field (up_to limit number) bytes ≡ none
  unfolding field up_to
  limit_out f e h = then_none (number >>= at_most limit) _ bytes (then_some number (at_most limit) bytes f.value f.rest e ∙ over_most limit f.value f.rest h)

  -- the field's value is the number's
  field_value : (f r : Parsed ℕ) → number bytes ≡ some f → field number bytes ≡ some r → f.value ≡ r.value
  unfolding field
  field_value f r e q =
      let w : one (is_byte tab f.value) f.rest ≡ some r = sym (then_some number _ bytes f.value f.rest e) ∙ q in
      let b = one_back (is_byte tab f.value) f.rest r w in
      (is_byte_back tab b.0 f.value r.value b.2).1

  kept_limit : (k l : ℕ → Parser Run) → ((n : ℕ) (rest : List ℕ) → kept (k n rest) ≡ kept (l n rest)) → ((n : ℕ) (rest : List ℕ) → limit < n → kept (k n rest) ≡ none)
      → kept ((field number >>= k) bytes) ≡ kept ((field (up_to limit number) >>= l) bytes)
  kept_limit k l f never = by_number (number bytes) refl
    where
      same : field (up_to limit number) bytes ≡ field number bytes → kept ((field number >>= k) bytes) ≡ kept ((field (up_to limit number) >>= l) bytes)
      same e = kept_then (field number) bytes k l f ∙ ap kept (same_then (field number) (field (up_to limit number)) l bytes bytes (sym e))

      over : (r : Parsed ℕ) → number bytes ≡ some r → limit < r.value → (o : Option (Parsed ℕ)) → field number bytes ≡ o → kept ((field number >>= k) bytes) ≡ none
      over r e h none q = ap kept (then_none (field number) k bytes q) ∙ kept_none
      over r e h (some v) q = ap kept (then_some (field number) k bytes v.value v.rest q) ∙ never v.value v.rest (omega (arith, field_value r v e q))

      by_limit : (r : Parsed ℕ) → number bytes ≡ some r → (t : Bool) → leb r.value limit ≡ t → kept ((field number >>= k) bytes) ≡ kept ((field (up_to limit number) >>= l) bytes)
      by_limit r e true u = same (limit_in r e (leb-true _ _ u))
      by_limit r e false u =
          over r e (leb-false _ _ u) (field number bytes) refl
          ∙ sym (ap kept (then_none (field (up_to limit number)) l bytes (limit_out r e (leb-false _ _ u))) ∙ kept_none)

      by_number : (o : Option (Parsed ℕ)) → number bytes ≡ o → kept ((field number >>= k) bytes) ≡ kept ((field (up_to limit number) >>= l) bytes)
      by_number none e = same (limit_none e)
      by_number (some r) e = by_limit r e (leb r.value limit) refl

-- ---- the whole line
-- a run over a limit is not kept
broken : (run : Run) (rest : List ℕ) → (run.page ≤ 65535 → valid_run run ≡ true → ⊥) → kept (succeed run rest) ≡ none
unfolding kept succeed
broken run rest e = by_test (leb run.page 65535) refl (valid_run run) refl
  where
    by_test : (t : Bool) → leb run.page 65535 ≡ t → (u : Bool) → valid_run run ≡ u → kept (got run rest) ≡ none
    by_test true q true v = absurd (e (leb-true _ _ q) v)
    by_test true q false v = rw (q, v)
    by_test false q u v = rw q

kept_limited : (line : List ℕ) → kept (fields line) ≡ kept (limited line)
unfolding fields fields_by limited
kept_limited line =
    kept_then (field letter) line _ _ λ direction l₁.
    kept_limit 65535 l₁ _ _
    (λ page l₂.
    kept_then (field three_digits) l₂ _ _ λ policy l₃.
    kept_then (field (pending_field direction)) l₃ _ _ λ pending l₄.
    kept_limit 255 l₄ _ _
    (λ flags l₅.
    kept_limit read_limit l₅ _ _
    (λ read l₆.
    kept_limit written_limit l₆ _ _ (λ written l₇. refl)
    (λ written l₇ h. never_then closing l₇ _ λ ended l₈. broken _ l₈ λ p v. omega (arith, h, (bounded _ v).written)))
    (λ read l₆ h.
    never_then (field number) l₆ _ λ written l₇.
    never_then closing l₇ _ λ ended l₈. broken _ l₈ λ p v. omega (arith, h, (bounded _ v).read)))
    (λ flags l₅ h.
    never_then (field number) l₅ _ λ read l₆.
    never_then (field number) l₆ _ λ written l₇.
    never_then closing l₇ _ λ ended l₈. broken _ l₈ λ p v. omega (arith, h, (bounded _ v).flags)))
    (λ page l₂ h.
    never_then (field three_digits) l₂ _ λ policy l₃.
    never_then (field (pending_field direction)) l₃ _ λ pending l₄.
    never_then (field number) l₄ _ λ flags l₅.
    never_then (field number) l₅ _ λ read l₆.
    never_then (field number) l₆ _ λ written l₇.
    never_then closing l₇ _ λ ended l₈. broken _ l₈ λ p v. omega (arith, h, p))

module _ (line : List ℕ) where
  whole : (o : Option (Parsed Run)) → read_at limited line 0 ≡ o → run_of line ≡ kept o
  unfolding run_of
  whole o e = kept_limited line ∙ ap kept (sym (read_in line 0 limited (omega arith)) ∙ e)

  -- a field that is not found: 18
  pub not_a_line : read_at limited line 0 ≡ none → read_of line ≡ record { number = 18; run = none }
  unfolding read_of loaded
  not_a_line e = ap loaded (whole none e ∙ kept_none)

  module _ (run : Run) (e : read_at limited line 0 ≡ got run []) where
    -- fields that name a run which breaks the rules are no line: 18
    pub not_valid : valid_run run ≡ false → read_of line ≡ record { number = 18; run = none }
    unfolding read_of loaded
    not_valid v = ap loaded (whole (got run []) e ∙ ap kept (sym (return_some run [])) ∙ broken run [] (λ p w. true≢false (sym w ∙ v)))

    -- the fields of a valid run are its line
    pub a_line : run.page ≤ 65535 → valid_run run ≡ true → read_of line ≡ record { number = 0; run = some run }
    unfolding read_of loaded
    a_line p v = ap loaded (whole (got run []) e ∙ kept_some run [] p v)

  -- all fields, each read behind the one before
  pub all_found : (run : Run) (n₁ n₂ n₃ n₄ n₅ n₆ n₇ : ℕ)
      → found_at run.direction line n₁ ≡ read_at (field letter) line 0
      → found_at run.page line n₂ ≡ read_at (field (up_to 65535 number)) line n₁
      → found_at run.policy line n₃ ≡ read_at (field three_digits) line n₂
      → found_at run.pending line n₄ ≡ read_at (field (pending_field run.direction)) line n₃
      → found_at run.flags line n₅ ≡ read_at (field (up_to 255 number)) line n₄
      → found_at run.read line n₆ ≡ read_at (field (up_to read_limit number)) line n₅
      → found_at run.written line n₇ ≡ read_at (field (up_to written_limit number)) line n₆
      → found_at run.ended line (length line) ≡ read_at closing line n₇
      → read_at limited line 0 ≡ got run []
  unfolding limited
  all_found run n₁ n₂ n₃ n₄ n₅ n₆ n₇ e₁ e₂ e₃ e₄ e₅ e₆ e₇ e₈ =
      read_then (field letter) _ line 0 n₁ run.direction e₁
      ∙ read_then (field (up_to 65535 number)) _ line n₁ n₂ run.page e₂
      ∙ read_then (field three_digits) _ line n₂ n₃ run.policy e₃
      ∙ read_then (field (pending_field run.direction)) _ line n₃ n₄ run.pending e₄
      ∙ read_then (field (up_to 255 number)) _ line n₄ n₅ run.flags e₅
      ∙ read_then (field (up_to read_limit number)) _ line n₅ n₆ run.read e₆
      ∙ read_then (field (up_to written_limit number)) _ line n₆ n₇ run.written e₇
      ∙ read_then closing _ line n₇ (length line) run.ended e₈
      ∙ found_in line (length line) run (omega arith)
      ∙ ap (got run) (drop-length line)
