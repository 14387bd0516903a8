use Rattle.codepage_lookup.proofs.LeadLaws.{bits_lt, bits_none, eight_more}
use mathlib.Core.Path.{sym}
use Prim.Native.Nat.{◌+◌, ◌-◌, ◌≤◌}
use native.Mathlib.Omega.{arith}
use Rattle.codepage_lookup.proofs.profile.leads_of.Goals as goal

pub loop-i-init : goal.loop-i-init
loop-i-init c = (omega arith, omega arith, sym (bits_none _ 0xC0), sym (bits_none _ 0x100))

pub overflow_add-low : goal.overflow_add-low
overflow_add-low c =
    omega (arith, c.eight_bits.ensures, bits_lt c.args.classes.now (0x80 + (c.loop-i.i - 8)) 8)

pub overflow_add-high : goal.overflow_add-high
overflow_add-high c =
    omega (arith, c.eight_bits-in-loop-i.ensures, bits_lt c.args.classes.now (0xC0 + (c.loop-i.i - 8)) 8)

pub loop-i-preserved : goal.loop-i-preserved
loop-i-preserved c =
    let room : 8 ≤ c.loop-i.i = omega arith in (
      omega arith,
      omega arith,
      eight_more c.args.classes.now 0x80 c.loop-i.i c.loop-i.low _ room c.loop-i.invariant.0 c.loop-i.invariant.2 c.eight_bits.ensures,
      eight_more c.args.classes.now 0xC0 c.loop-i.i c.loop-i.high _ room c.loop-i.invariant.0 c.loop-i.invariant.3 c.eight_bits-in-loop-i.ensures,
    )
