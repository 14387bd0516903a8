use Rattle.engine.proofs.EncodeLaws.{bytes_stop, bytes_none, bytes_one, bytes_one_full, bytes_two, bytes_two_full}
use Rattle.engine.proofs.progress.take_bytes.Goals as goal

pub returns-then-d : goal.returns-then-d
returns-then-d c = rw c.stopped.ensures (bytes_stop _ _ _ _ c.requires.0 c.if-d.true)

pub returns-then-d-eq0 : goal.returns-then-d-eq0
returns-then-d-eq0 c = rw c.taken.ensures (bytes_none _ _ _ _ c.requires.0 c.if-d.false c.if-d-eq0.true)

pub returns-then-at-out : goal.returns-then-at-out
returns-then-at-out c =
    rw c.taken-then-at-out.ensures (bytes_one _ _ _ _ c.requires.0 c.if-d.false c.if-d-eq0.false c.if-d-eq1.true c.if-at-out.true)

pub returns-then-d-eq1 : goal.returns-then-d-eq1
returns-then-d-eq1 c =
    rw c.full.ensures (bytes_one_full _ _ _ _ c.requires.0 c.if-d.false c.if-d-eq0.false c.if-d-eq1.true c.if-at-out.false)

pub returns-then-out-at-lt2 : goal.returns-then-out-at-lt2
returns-then-out-at-lt2 c =
    rw c.full-then-out-at-lt2.ensures (bytes_two_full _ _ _ _ c.requires.0 c.if-d.false c.if-d-eq0.false c.if-d-eq1.false c.if-out-at-lt2.true)

pub returns : goal.returns
returns c =
    rw c.taken-2.ensures (bytes_two _ _ _ _ c.requires.0 c.if-d.false c.if-d-eq0.false c.if-d-eq1.false c.if-out-at-lt2.false)
