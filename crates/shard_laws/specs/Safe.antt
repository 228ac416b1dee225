-- What holds of every history over the tablets of one shard, gathered (after Sougoumarane's "Consensus algorithms at scale").
use Rattle.std.specs.Prelude.{List}
use Rattle.shard_names.specs.Tablets.{AreTablets}
use Rattle.shard_calls.specs.declared.event.Step.{Step}
use Rattle.shard_calls.specs.World.{Config}
use Rattle.shard_calls.specs.Table.{IsRun}
use Rattle.shard_calls.specs.Promotions.{OnePromotion, PromotesIntended, HoldsTold, KeepsTold}
use Rattle.shard_calls.specs.RunLaws.{LogsOnlyGrow, OneEntry, LogsAreClosed, AcksAreHeld, NotedIsHeld, ToldIsAccepted, NotToldIsLate}
use Rattle.shard_calls.specs.Answered.{AnswersHaveCauses, ActsAreSteps, OutcomesAreSteps}
use Rattle.shard_laws.specs.Network.{NothingCrossesACut, WhoIsDownHearsNothing}
use Rattle.shard_laws.specs.Grounded.{PromotesOnGrounds}
use Rattle.shard_laws.specs.Marks.{MarksStay}
use Rattle.shard_laws.specs.Shown.{ShownBySteps}

-- It is a run of the shard machine, over tablets of one shard.
-- Promotions: each term has at most one, of the tablet that it intended, and a promoted tablet holds everything told in an earlier term. Who asks for a
-- promotion has its grounds: none was before, the old primary gave up its place, or every older primary is revoked, as in an emergency.
-- Logs: they only grow, one transaction is one entry in all of them, and what stands before the row of a term has all that the promoted tablet had.
-- What is told: it is held by as many tablets as the policy asks for, and what an answer tells is in the log of its tablet for good; that a row is not told
-- is said only once the moment has come until which the call waits; what a tablet acknowledged, and what a primary noted of it, is in its log.
-- Messages: none crosses a link that is cut, and none comes to a tablet that is down; what does not come waits.
-- Answers: each has its cause in what the command did and in what its calls came to, and the steps show both. A promotion that is answered, and a write that
-- is answered as committed, was told by a step; what was written, refused, recorded, drained or seen is what a Write, a Record, a Drain, a Read or a
-- Begin shows; and what was found amiss is so by how tablets stood when they were asked.
-- Marks: a Drain under the lock marks its tablet as drained, for good.
pub record IsSafe (config : Config) (history : List Step) : Type 0 where
  pub tablets : AreTablets config.tablets
  pub run : IsRun config history
  pub one_promotion : OnePromotion config history
  pub intended : PromotesIntended config history
  pub promotes_on_grounds : PromotesOnGrounds config history
  pub holds_told : HoldsTold config history
  pub logs_grow : LogsOnlyGrow config history
  pub one_entry : OneEntry config history
  pub logs_closed : LogsAreClosed config history
  pub told_accepted : ToldIsAccepted config history
  pub keeps_told : KeepsTold config history
  pub not_told_late : NotToldIsLate config history
  pub acks_held : AcksAreHeld config history
  pub noted_held : NotedIsHeld config history
  pub no_crossing : NothingCrossesACut config history
  pub down_hears_nothing : WhoIsDownHearsNothing config history
  pub causes : AnswersHaveCauses config history
  pub acts : ActsAreSteps config history
  pub outcomes : OutcomesAreSteps config history
  pub shown : ShownBySteps config history
  pub marks_stay : MarksStay config history
