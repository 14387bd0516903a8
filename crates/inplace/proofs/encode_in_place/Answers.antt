use mathlib.Core.Path.{sym, ◌∙◌}
use native.Mathlib.Omega.{arith}
use Rattle.utf16.proofs.Utf16Laws.{units_length}
use Rattle.inplace.proofs.CallLaws.{page_needs, bad_policy, bad_shape, odd_bytes, too_long, all_pass, encoded_refused, encoded_done}
use Rattle.inplace.proofs.encode_in_place.Goals as goal

pub returns-then-not-allowed : goal.returns-then-not-allowed
returns-then-not-allowed c = encoded_refused _ _ _ _ (bad_policy _ _ _ (sym c.allowed.ensures ∙ c.if-not-allowed.true))

pub returns-then-not-good_shape : goal.returns-then-not-good_shape
returns-then-not-good_shape c =
    let allowed = sym c.allowed.ensures ∙ c.if-not-allowed.false in
    encoded_refused _ _ _ _ (bad_shape _ _ _ allowed (sym c.good_shape.ensures ∙ c.if-not-good_shape.true))

pub returns-then-buffer-ne0 : goal.returns-then-buffer-ne0
returns-then-buffer-ne0 c =
    let allowed = sym c.allowed.ensures ∙ c.if-not-allowed.false in
    let good = sym c.good_shape.ensures ∙ c.if-not-good_shape.false in
    encoded_refused _ _ _ _ (odd_bytes _ _ _ allowed good c.if-buffer-ne0.true)

pub returns-then-buffer-gt-PIECE_LIMIT : goal.returns-then-buffer-gt-PIECE_LIMIT
returns-then-buffer-gt-PIECE_LIMIT c =
    let allowed = sym c.allowed.ensures ∙ c.if-not-allowed.false in
    let good = sym c.good_shape.ensures ∙ c.if-not-good_shape.false in
    encoded_refused _ _ _ _ (too_long _ _ _ allowed good c.if-buffer-ne0.false (omega (arith, c.if-buffer-gt-PIECE_LIMIT.true, units_length c.args.buffer.now)))

pub invariant_of-units : goal.invariant_of-units
invariant_of-units c = let rules = page_needs _ (sym c.good_shape.ensures ∙ c.if-not-good_shape.false) in record { all_index = rules.0; by_index = rules.1 }

pub invariant_of-converter : goal.invariant_of-converter
invariant_of-converter c = record { allowed = sym c.allowed.ensures ∙ c.if-not-allowed.false }

pub returns : goal.returns
returns c =
    let allowed = sym c.allowed.ensures ∙ c.if-not-allowed.false in
    let good = sym c.good_shape.ensures ∙ c.if-not-good_shape.false in
    let passed = all_pass _ _ c.args.buffer.now allowed good c.if-buffer-ne0.false (omega (arith, c.if-buffer-gt-PIECE_LIMIT.false, units_length c.args.buffer.now)) in
    encoded_done _ _ _ _ _ _ passed c.encode_units-s.ensures c.from.ensures
