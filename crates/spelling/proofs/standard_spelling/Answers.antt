use mathlib.Core.Path.{sym, ◌∙◌}
use native.Mathlib.Omega.{arith}
use Rattle.std.proofs.lemmas.Result.{err_from_is_err_and}
use Rattle.spelling.proofs.CallLaws.{byte_shape, unit_shape, counted_bytes, spelling_bad, spelling_long, spelling_over, spelling_no_room, spelling_accepted, spelled_refused, spelled_given, spelled_fault}
use Rattle.spelling.proofs.standard_spelling.Goals as goal

pub returns-then-not-good_shape : goal.returns-then-not-good_shape
returns-then-not-good_shape c = spelled_refused _ _ _ _ (spelling_bad _ _ _ (sym c.good_shape.ensures ∙ c.if-not-good_shape.true))

pub returns-then-text-gt-PIECE_LIMIT : goal.returns-then-text-gt-PIECE_LIMIT
returns-then-text-gt-PIECE_LIMIT c =
    let good = sym c.good_shape.ensures ∙ c.if-not-good_shape.false in
    spelled_refused _ _ _ _ (spelling_long _ _ _ good c.if-text-gt-PIECE_LIMIT.true)

pub invariant_of-bytes : goal.invariant_of-bytes
invariant_of-bytes c =
    let shape = byte_shape _ (sym c.good_shape.ensures ∙ c.if-not-good_shape.false) in
    record { all_classes = shape.0; all_singles = shape.1; all_pairs = shape.2; known = shape.3; no_low_lead = shape.4 }

pub invariant_of-units : goal.invariant_of-units
invariant_of-units c =
    let shape = unit_shape _ (sym c.good_shape.ensures ∙ c.if-not-good_shape.false) in
    record { all_index = shape.0; by_index = shape.1 }

pub returns-in_err-bytes : goal.returns-in_err-bytes
returns-in_err-bytes c =
    let good = sym c.good_shape.ensures ∙ c.if-not-good_shape.false in
    let p = err_from_is_err_and c.from_residual.result c.from_residual.ensures.1 in
    rw (p.1, p.2) (spelled_fault _ good _ _ c.if-text-gt-PIECE_LIMIT.false _ (rw c.with_leads-bytes.ensures at c.count_spelling.ensures) _ c.in_err-bytes.was)

pub returns-then-bytes-gt-PIECE_LIMIT : goal.returns-then-bytes-gt-PIECE_LIMIT
returns-then-bytes-gt-PIECE_LIMIT c =
    let good = sym c.good_shape.ensures ∙ c.if-not-good_shape.false in
    let (clear, size) = counted_bytes _ good _ _ (rw c.with_leads-bytes.ensures at c.count_spelling.ensures) _ c.in_ok-bytes.was in
    spelled_refused _ _ _ _ (spelling_over _ _ _ good c.if-text-gt-PIECE_LIMIT.false clear (omega (arith, size, c.if-bytes-gt-PIECE_LIMIT.true)))

pub returns-then-out-bytes : goal.returns-then-out-bytes
returns-then-out-bytes c =
    let good = sym c.good_shape.ensures ∙ c.if-not-good_shape.false in
    let (clear, size) = counted_bytes _ good _ _ (rw c.with_leads-bytes.ensures at c.count_spelling.ensures) _ c.in_ok-bytes.was in
    spelled_refused _ _ _ _ (spelling_no_room _ _ _ good c.if-text-gt-PIECE_LIMIT.false clear (omega (arith, size, c.if-bytes-gt-PIECE_LIMIT.false)) (omega (arith, size, c.if-out-bytes.true)))

pub write_spelling-requires : goal.write_spelling-requires
write_spelling-requires c =
    let good = sym c.good_shape.ensures ∙ c.if-not-good_shape.false in
    let (clear, size) = counted_bytes _ good _ _ (rw c.with_leads-bytes.ensures at c.count_spelling.ensures) _ c.in_ok-bytes.was in
    rw c.with_leads-bytes.ensures
    (record { span_same = (rw c.with_leads-bytes.ensures at c.same_front-same.ensures, c.if-text-gt-PIECE_LIMIT.false); text_value = (clear, omega (arith, size, c.if-out-bytes.false)) })

pub returns : goal.returns
returns c =
    let good = sym c.good_shape.ensures ∙ c.if-not-good_shape.false in
    let (clear, size) = counted_bytes _ good _ _ (rw c.with_leads-bytes.ensures at c.count_spelling.ensures) _ c.in_ok-bytes.was in
    spelled_given _ _ _ _ _ (spelling_accepted _ _ _ good c.if-text-gt-PIECE_LIMIT.false clear (omega (arith, size, c.if-bytes-gt-PIECE_LIMIT.false)) (omega (arith, size, c.if-out-bytes.false))) size (rw c.with_leads-bytes.ensures at c.write_spelling.ensures)
