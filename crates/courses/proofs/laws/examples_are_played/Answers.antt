use Rattle.courses.proofs.ExampleProofs as examples
use Rattle.courses.proofs.laws.examples_are_played.Goals as goal

pub returns : goal.returns
returns c = record {
  first_reparent = examples.first_reparent;
  undone_reparent = examples.undone_reparent;
  waits_for_promotion = examples.waits_for_promotion;
  not_undone = examples.not_undone;
  strays_off = examples.strays_off;
  asks_who_follows = examples.asks_who_follows;
  undo_is_not_told = examples.undo_is_not_told;
  external_records = examples.external_records;
  external_is_refused = examples.external_is_refused;
  write_is_committed = examples.write_is_committed;
  write_finds_no_primary = examples.write_finds_no_primary;
}
