use Prim.Native.Nat.{◌-◌}
use native.Mathlib.Omega.{arith}
use Rattle.codepage_lookup.proofs.LeadLaws.{in_runs}
use Rattle.codepage_lookup.proofs.profile.block_in_runs.Goals as goal

pub overflow_sub-result : goal.overflow_sub-result
overflow_sub-result c =
    let pre = c.requires in
    let distance = in_runs _ _ pre.classes_len.0 pre.classes_len.1 _ pre.classes_len.2 pre.low_value.0 pre.low_value.1 _ (c.first_from.result - c.ones_of.result) c.first_from-low.ensures (omega (arith, c.first_from.ensures, c.ones_of.ensures)) in
    distance.0

pub overflow_sub-result-2 : goal.overflow_sub-result-2
overflow_sub-result-2 c =
    let pre = c.requires in
    let distance = in_runs _ _ pre.classes_len.0 pre.classes_len.1 _ pre.classes_len.2 pre.low_value.0 pre.low_value.1 _ (c.first_from.result - c.ones_of.result) c.first_from-low.ensures (omega (arith, c.first_from.ensures, c.ones_of.ensures)) in
    distance.1

pub overflow_sub-result-3 : goal.overflow_sub-result-3
overflow_sub-result-3 c =
    let pre = c.requires in
    let distance = in_runs _ _ pre.classes_len.0 pre.classes_len.1 _ pre.classes_len.2 pre.low_value.0 pre.low_value.1 _ (c.first_from.result - c.ones_of.result) c.first_from-low.ensures (omega (arith, c.first_from.ensures, c.ones_of.ensures)) in
    distance.2

pub returns : goal.returns
returns c =
    let pre = c.requires in
    let distance = in_runs _ _ pre.classes_len.0 pre.classes_len.1 _ pre.classes_len.2 pre.low_value.0 pre.low_value.1 _ (c.first_from.result - c.ones_of.result) c.first_from-low.ensures (omega (arith, c.first_from.ensures, c.ones_of.ensures)) in
    distance.3
