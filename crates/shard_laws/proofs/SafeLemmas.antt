-- All that holds of every history, gathered.
use Rattle.shard_calls.specs.RunLaws.{OfEveryShard}
use Rattle.shard_laws.specs.Safe.{IsSafe}
use Rattle.shard_calls.proofs.ActLemmas.{acts_are_steps}
use Rattle.shard_calls.proofs.RunLemmas.{one_promotion, promotes_intended, logs_only_grow, one_entry_each, logs_are_closed, acks_are_held, noted_is_held, keeps_told, answers_have_causes, outcomes_are_steps}
use Rattle.shard_calls.proofs.AcceptLemmas.{told_is_accepted, not_told_is_late}
use Rattle.shard_laws.proofs.LeaderLemmas.{leader_complete}
use Rattle.shard_laws.proofs.GroundedLemmas.{promotes_on_grounds}
use Rattle.shard_laws.proofs.NetworkLemmas.{nothing_crosses_a_cut, who_is_down_hears_nothing}
use Rattle.shard_laws.proofs.MarkedLemmas.{marks_stay}
use Rattle.shard_laws.proofs.ShownLemmas.{shown_by_steps}

pub every_run_is_safe : OfEveryShard IsSafe
every_run_is_safe config ss is run = record {
  tablets = is.tablets;
  run = run;
  one_promotion = one_promotion config ss run;
  intended = promotes_intended config ss run;
  promotes_on_grounds = promotes_on_grounds config ss is run;
  holds_told = leader_complete config ss is run;
  logs_grow = logs_only_grow config ss run;
  one_entry = one_entry_each config ss is run;
  logs_closed = logs_are_closed config ss is run;
  told_accepted = told_is_accepted config ss is run;
  keeps_told = keeps_told config ss run;
  not_told_late = not_told_is_late config ss run;
  acks_held = acks_are_held config ss is run;
  noted_held = noted_is_held config ss is run;
  no_crossing = nothing_crosses_a_cut config ss run;
  down_hears_nothing = who_is_down_hears_nothing config ss run;
  causes = answers_have_causes config ss run;
  acts = acts_are_steps config ss run;
  outcomes = outcomes_are_steps config ss run;
  shown = shown_by_steps config ss run;
  marks_stay = marks_stay config ss run;
}
