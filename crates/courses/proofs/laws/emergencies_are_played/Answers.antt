use Rattle.courses.proofs.ExampleProofs as examples
use Rattle.courses.proofs.laws.emergencies_are_played.Goals as goal

pub returns : goal.returns
returns c = record {
  primary_is_replaced = examples.primary_is_replaced;
  winner_feeds = examples.winner_feeds;
  waits_for_stops = examples.waits_for_stops;
  refuses_unrevoked = examples.refuses_unrevoked;
  refuses_split = examples.refuses_split;
  refuses_stale = examples.refuses_stale;
}
