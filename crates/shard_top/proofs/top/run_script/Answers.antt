use Rattle.shard_top.specs.Texts.{told_of}
use Rattle.shard_top.proofs.TopLemmas.{begins_in_time, stand_in_place, gave_up_script, gave_up_by_playing, told_by}
use Rattle.shard_top.proofs.top.run_script.Goals as goal

pub new-requires-clause-begins : goal.new-requires-clause-begins
new-requires-clause-begins g c = begins_in_time c.args.script.now c.begins_at.result c.requires c.begins_at.ensures

pub tell-requires : goal.tell-requires
tell-requires g c =
    stand_in_place c.args.script.now c.play.new.shard c.into_history.result.steps.items c.into_history.result.notes.items c.in-Ok-play.stop c.into_history.ensures.steps c.into_history.ensures.notes
    c.in-Ok-play.ensures.ok

pub returns-in-Err-clause-answers : goal.returns-in-Err-clause-answers
returns-in-Err-clause-answers g c = gave_up_script c.args.script.now (told_of c.args.asked c.args.script.now) _ _ _ _ _ c.requires c.ended.ensures.status c.ended.ensures.empty c.ended.ensures.unnoted

pub returns-in-Ok-play-clause-answers : goal.returns-in-Ok-play-clause-answers
returns-in-Ok-play-clause-answers g c =
    told_by c.args.script.now (told_of c.args.asked c.args.script.now) c.in-Ok-play.stop _ _ c.play.new.shard c.into_history.result.steps.items _ c.into_history.result.notes.items _ _ _ c.requires c.into_history.ensures.steps
    c.into_history.ensures.notes c.in-Ok-play.ensures.config
    c.into_history.ensures.safe c.in-Ok-play.ensures.ok c.tell.ensures.kept c.tell.ensures.kept_notes c.tell.ensures.said c.tell.ensures.part

pub returns-in-Err-play-clause-answers : goal.returns-in-Err-play-clause-answers
returns-in-Err-play-clause-answers g c =
    gave_up_by_playing c.args.script.now (told_of c.args.asked c.args.script.now) _ c.play.new.shard c.into_history-in-Err-play.result.steps.items _ _ c.requires c.into_history-in-Err-play.ensures.steps c.into_history-in-Err-play.ensures.notes
    c.in-Err-play.ensures.config
    c.into_history-in-Err-play.ensures.safe c.in-Err-play.ensures.cut
