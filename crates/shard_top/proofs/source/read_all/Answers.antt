use Rattle.std.proofs.Common.{◌≡◌, length, arith}
use Rattle.shard_top.proofs.StreamLemmas.{was_read_in_full, reads_to_end, lost_after}
use Rattle.shard_top.proofs.source.read_all.Goals as goal

pub returns-clause-bytes : goal.returns-clause-bytes
returns-clause-bytes g c =
    let full : length c.loop-source.text.items ≡ 1048577 = omega (arith, c.loop-source.invariant.within, c.len.ensures, c.loop-source-test.false) in
    was_read_in_full _ _ _ c.loop-source.invariant.read full

pub returns-then-branch-eq0-clause-bytes : goal.returns-then-branch-eq0-clause-bytes
returns-then-branch-eq0-clause-bytes g c =
    reads_to_end _ _ _ _ _ c.in_ok-read_some.field-0 c.loop-source.invariant.read c.in_ok-read_some.ensures.bytes c.if-branch-eq0.true

pub returns-clause-ended : goal.returns-clause-ended
returns-clause-ended g c = λ short. absurd (omega (arith, short, c.loop-source.invariant.within, c.len.ensures, c.loop-source-test.false))

pub returns-then-branch-eq0-clause-ended : goal.returns-then-branch-eq0-clause-ended
returns-then-branch-eq0-clause-ended g c = λ short. c.in_ok-read_some.ensures.bytes.end c.if-branch-eq0.true

pub returns-in_err-read_some-clause-lost : goal.returns-in_err-read_some-clause-lost
returns-in_err-read_some-clause-lost g c = lost_after _ _ _ _ _ c.loop-source.invariant.read c.in_err-read_some.ensures.lost
