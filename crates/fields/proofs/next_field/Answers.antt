use mathlib.Core.Bool.{true, false}
use mathlib.Core.Path.{refl, sym, ◌∙◌}
use Prim.Native.Nat.{◌≤◌}
use native.Mathlib.Omega.{arith}
use lib.ListN.{length, take, length-take}
use lib.Seq.{length-take-le}
use Rattle.fields.proofs.CallLaws.{units_fit, short, too_long, invalid, over_limit, accepted, call_refused, call_found, call_held, end_separator, end_other}
use Rattle.fields.proofs.next_field.Goals as goal

pub returns-then-buffer-lt-LIMIT : goal.returns-then-buffer-lt-LIMIT
returns-then-buffer-lt-LIMIT c =
    call_refused _ _ c.args.block.now c.args.last _ _ refl (short c.args.state.now.count c.args.buffer.now c.args.block.now c.args.last (omega arith))

pub returns-then-block-gt-PIECE_LIMIT : goal.returns-then-block-gt-PIECE_LIMIT
returns-then-block-gt-PIECE_LIMIT c =
    call_refused _ _ c.args.block.now c.args.last _ _ refl (too_long c.args.state.now.count c.args.buffer.now c.args.block.now c.args.last (omega arith) (omega arith))

pub returns-then-held-gt-LIMIT : goal.returns-then-held-gt-LIMIT
returns-then-held-gt-LIMIT c =
    call_refused _ _ c.args.block.now c.args.last _ _ refl (invalid c.args.state.now.count c.args.buffer.now c.args.block.now c.args.last (omega arith) (omega arith) (omega arith))

pub overflow_add-held : goal.overflow_add-held
overflow_add-held c = omega (arith, c.field_size-size.ensures, units_fit c.args.block.now)

pub returns-then-held-size-gt-LIMIT : goal.returns-then-held-size-gt-LIMIT
returns-then-held-size-gt-LIMIT c =
    call_refused _ _ c.args.block.now c.args.last _ _ refl (over_limit c.args.state.now.count c.args.buffer.now c.args.block.now c.args.last (omega arith) (omega arith) (omega arith) (omega (arith, c.field_size-size.ensures)))

pub returns-then-size-block : goal.returns-then-size-block
returns-then-size-block c =
    call_found _ _ c.args.block.now c.args.last _ _ _ _ _ (accepted c.args.state.now.count c.args.buffer.now c.args.block.now c.args.last (omega arith) (omega arith) (omega arith) (omega (arith, c.field_size-size.ensures)))
    (end_separator c.args.state.now.count c.args.buffer.now c.args.block.now c.args.last _ _ c.field_size-size.ensures c.if-size-block.true c.end_of-end.ensures)
    c.field_size-size.ensures c.complete-found.ensures

pub slice_bounds-complete-end-then-ends_text : goal.slice_bounds-complete-end-then-ends_text
slice_bounds-complete-end-then-ends_text c = sym (length-take-le _ _ (omega (arith, c.field_size-size.ensures, units_fit c.args.block.now)))

pub complete-found-requires-then-ends_text : goal.complete-found-requires-then-ends_text
complete-found-requires-then-ends_text c =
    let size : length (take c.field_size-size.result c.args.block.now) ≤ c.field_size-size.result = omega (arith, length-take c.field_size-size.result c.args.block.now) in
    (omega arith, omega (arith, c.field_size-size.ensures, units_fit c.args.block.now))

pub returns-then-ends_text : goal.returns-then-ends_text
returns-then-ends_text c =
    call_found _ _ c.args.block.now c.args.last _ _ _ _ _ (accepted c.args.state.now.count c.args.buffer.now c.args.block.now c.args.last (omega arith) (omega arith) (omega arith) (omega (arith, c.field_size-size.ensures)))
    (end_other c.args.state.now.count c.args.buffer.now c.args.block.now c.args.last _ true c.field_size-size.ensures c.if-size-block.false
    (omega (arith, c.field_size-size.ensures, units_fit c.args.block.now)) (sym c.if-ends_text.true ∙ c.ends_text.ensures))
    c.field_size-size.ensures c.complete-found-then-ends_text.ensures

pub returns : goal.returns
returns c =
    call_held _ _ c.args.block.now c.args.last _ _ _ (accepted c.args.state.now.count c.args.buffer.now c.args.block.now c.args.last (omega arith) (omega arith) (omega arith) (omega (arith, c.field_size-size.ensures)))
    (end_other c.args.state.now.count c.args.buffer.now c.args.block.now c.args.last _ false c.field_size-size.ensures c.if-size-block.false
    (omega (arith, c.field_size-size.ensures, units_fit c.args.block.now)) (sym c.if-ends_text.false ∙ c.ends_text.ensures))
    c.hold-read.ensures
