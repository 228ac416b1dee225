use Rattle.std.proofs.Common.{sym, ◌∙◌, rules}
use Rattle.shard_script.proofs.ReadLemmas.{goes_at}
use Rattle.shard_script.proofs.script.read_lines.Goals as goal

pub loop-index-preserved : goal.loop-index-preserved
loop-index-preserved c =
    let inside = c.loop-index-test.true in
    let more = goes_at c.args.lines.now c.loop-index.index _ c.loop-index.script c.in_ok-script.script (search rules) c.in_ok-script.ensures in
    (sym more.0 ∙ c.loop-index.invariant.0, sym more.1 ∙ c.loop-index.invariant.1)
