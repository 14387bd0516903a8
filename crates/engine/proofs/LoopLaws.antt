-- The ways of a code that is met: it stops the call, does not fit, or is taken.
use mathlib.Core.Bool.{true, false}
use mathlib.Core.Path.{◌≡◌, refl, sym, ap, ◌∙◌, subst}
use mathlib.Core.List.{List, [], ◌++◌, append-nil}
use Prim.Native.Nat.{ℕ, ◌+◌, ◌-◌, ◌<◌, ◌≤◌}
use native.Mathlib.Nat.{add-zero}
use native.Mathlib.Omega.{arith}
use lib.ListN.{length, take, drop, length-append}
use lib.Seq.{length-take-le, drop-drop, sets, sets-eq, length-sets, take_at, drop_at}
use lib.Bits.{bit_or, or_zero_r}
use borrow.Author.Tests.{le-leb, lt-leb}
use Rattle.engine.specs.Engine.{Effect, limit, fits, halt, after, stop_at}
use Rattle.engine.specs.Steps.{sofar, ended, stopped_by, full_at, taken_by, Took}
use Rattle.engine.specs.declared.progress.Progress.{Progress}
use Rattle.engine.proofs.EngineLaws.{after_after, take_stop, take_fits, take_full}

-- ---- the three ways of a code
module _ (k : Effect) (n : ℕ) (s : Progress) (out : List ℕ) (h : s.written ≤ length out) where
  -- it stops: its units are read, its flag and 8 are set, nothing is written
  pub took_stop : k.stops ≡ true
      → Took k n s out (stopped_by k.flag n s) out
  unfolding sofar ended after stop_at
  took_stop e =
      record {
        same = refl;
        within = h;
        grows = omega arith;
        kept = refl;
        more = λ z. absurd (omega arith);
        goes = λ z. absurd (omega arith);
        ends = λ z g. ap (sofar s out) (take_stop (limit (length out - s.written)) n k g e) ∙ rw append-nil;
      }

  pub took_full : k.stops ≡ false → length out < s.written + length k.writes
      → Took k n s out (full_at s) out
  unfolding sofar ended after halt fits
  took_full e f =
      let full : fits (limit (length out - s.written)) (length k.writes) ≡ false = lt-leb (length k.writes) (length out - s.written) (omega arith) in
      record {
        same = refl;
        within = h;
        grows = omega arith;
        kept = refl;
        more = λ z. absurd (omega arith);
        goes = λ z. absurd (omega arith);
        ends = λ z g. ap (sofar s out) (take_full (limit (length out - s.written)) n k g e full) ∙ rw (append-nil, add-zero, or_zero_r);
      }

  -- it fits: what it writes is laid behind what was written before
  pub took_fits : k.stops ≡ false → s.written + length k.writes ≤ length out
      → Took k n s out (taken_by k.flag n s (length k.writes)) (sets out s.written k.writes)
  unfolding sofar fits
  took_fits e f =
      let fit : fits (limit (length out - s.written)) (length k.writes) ≡ true = le-leb (length k.writes) (length out - s.written) (omega arith) in
      let front : length (take s.written out ++ k.writes) ≡ s.written + length k.writes =
      length-append (take s.written out) k.writes ∙ ap (λ (m : ℕ). m + length k.writes) (length-take-le s.written out h) in
      let e' = sets-eq k.writes out s.written f in
      let taken : take (s.written + length k.writes) (sets out s.written k.writes) ≡ take s.written out ++ k.writes =
      ap (take (s.written + length k.writes)) e' ∙ take_at (take s.written out ++ k.writes) (drop (s.written + length k.writes) out) (s.written + length k.writes) front in
      record {
        same = length-sets out s.written k.writes;
        within = simp length-sets f;
        grows = omega arith;
        kept = ap (drop (s.written + length k.writes)) e' ∙ drop_at (take s.written out ++ k.writes) (drop (s.written + length k.writes) out) (s.written + length k.writes) front;
        more = λ z. (refl, refl);
        goes = λ z g.
            ap (sofar s out) (take_fits (limit (length out - s.written)) n k g e fit)
            ∙ sym (after_after s.used n (take s.written out) k.writes s.flags k.flag g)
            ∙ ap (λ (ys : List ℕ). after (s.used + n) ys (bit_or s.flags k.flag) g) (sym taken);
        ends = λ z. absurd (z refl);
      }

  -- the same, by the list that is written. (By `subst` with its place: `rw` by an equation of a field rewrites the whole record too.)
  pub took_writes : (ys : List ℕ) → k.stops ≡ false → k.writes ≡ ys → s.written + length ys ≤ length out
      → Took k n s out (taken_by k.flag n s (length ys)) (sets out s.written ys)
  took_writes ys e w f =
      subst (λ (zs : List ℕ). Took k n s out (taken_by k.flag n s (length zs)) (sets out s.written zs)) w
      (took_fits e (omega (arith, ap length w)))

  -- it does not fit, by the list that it would write
  pub took_lacks : (ys : List ℕ) → k.stops ≡ false → k.writes ≡ ys → length out < s.written + length ys
      → Took k n s out (full_at s) out
  took_lacks ys e w f = took_full e (omega (arith, ap length w))

  -- it writes nothing, so it needs no room
  pub took_none : k.stops ≡ false → k.writes ≡ [] → Took k n s out (taken_by k.flag n s 0) out
  took_none e w = took_writes [] e w (omega arith)

-- what two outputs have in common from a place on, they have from every later one
pub later : (w v : ℕ) (xs ys : List ℕ) → w ≤ v → drop w xs ≡ drop w ys → drop v xs ≡ drop v ys
later w v xs ys h e =
    let q : v ≡ w + (v - w) = omega arith in
    rw q (sym (drop-drop (v - w) w xs) ∙ ap (drop (v - w)) e ∙ drop-drop (v - w) w ys)
