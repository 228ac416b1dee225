-- Want of memory needs no other cause.
use Rattle.std.proofs.Common.{◌≡◌, Bool, true, false, ◌&&◌, ◌||◌, List, Option, Some, None, is_none, is_some, refl, sym}
use Rattle.std.proofs.lemmas.Bool.{false≢true}
use Rattle.shard_names.proofs.TabletLemmas.{both, both_left, both_right}
use Rattle.shard_calls.specs.declared.command.Command.{Command}
use Rattle.shard_calls.specs.declared.command.Command.TheVariants as commands
use Rattle.shard_calls.specs.declared.ending.CommandAnswer.{CommandAnswer}
use Rattle.shard_calls.specs.declared.ending.CommandAnswer.TheVariants as answers
use Rattle.shard_calls.specs.declared.refusal.Refusal.{Refusal}
use Rattle.shard_calls.specs.declared.state.CommandState.{CommandState}
use Rattle.shard_calls.specs.Causes.{is_want_of_memory, has_no_other_cause, planned_is_refused, emergency_is_refused, external_is_refused, has_command_cause, has_cause}
use Rattle.shard_calls.specs.Commands.{planned_with, emergency_with}
use Rattle.shard_calls.specs.Spans.{span_in}
use Rattle.shard_calls.specs.World.{Config, World, group_of}
use Rattle.shard_core.specs.Causes.{is_out_of_memory}

first_of_any : (a b : Bool) → a ≡ true → (a || b) ≡ true
first_of_any true b h = refl
first_of_any false b h = absurd (false≢true h)

-- where nothing was tried to undo, and memory ran out
one_cause : (refusal : Refusal) (tried : Option Bool) (b : Bool) → has_no_other_cause refusal tried ≡ true
    → (is_none tried && (is_want_of_memory refusal || b)) ≡ true
one_cause refusal tried b h =
    both (is_none tried) (is_want_of_memory refusal || b) (both_left (is_none tried) (is_want_of_memory refusal) h)
    (first_of_any (is_want_of_memory refusal) b (both_right (is_none tried) (is_want_of_memory refusal) h))

refused_cause : (config : Config) (w : World) (s : CommandState) (command : Command) (refusal : Refusal) (tried : Option Bool)
    → has_no_other_cause refusal tried ≡ true → has_command_cause config w s command (answers.Refused refusal tried) ≡ true
refused_cause config w s (commands.Planned shard new_primary avoid expected timeout crossing) refusal tried h =
    first_of_any (has_no_other_cause refusal tried)
    (planned_is_refused (group_of config) (planned_with new_primary avoid expected timeout crossing) (span_in w.post s) refusal tried) h
refused_cause config w s (commands.Emergency shard new_primary ignored expected timeout preventing) refusal tried h =
    one_cause refusal tried
    (emergency_is_refused (group_of config) (emergency_with new_primary ignored expected timeout preventing) (span_in w.post s) refusal) h
refused_cause config w s (commands.External a) refusal tried h =
    one_cause refusal tried (external_is_refused (group_of config) a (span_in w.post s) refusal) h
refused_cause config w s commands.Vtorc refusal tried h = h
refused_cause config w s (commands.Write to) refusal tried h = h
refused_cause config w s (commands.Show a) refusal tried h = h
refused_cause config w s (commands.GetShard shard) refusal tried h = h
refused_cause config w s (commands.GetTablets shard) refusal tried h = h

pub memory_cause : (config : Config) (w : World) (s : CommandState) (command : Command) (x : CommandAnswer) → is_out_of_memory x ≡ true
    → has_command_cause config w s command x ≡ true
memory_cause config w s command (answers.Refused refusal tried) h = refused_cause config w s command refusal tried h
memory_cause config w s command (answers.Promoted a t left) h = absurd (false≢true h)
memory_cause config w s command (answers.NothingToDo a) h = absurd (false≢true h)
memory_cause config w s command (answers.Recorded t) h = absurd (false≢true h)
memory_cause config w s command (answers.Vtorc findings rest) h = absurd (false≢true h)
memory_cause config w s command (answers.Committed g a t) h = absurd (false≢true h)
memory_cause config w s command (answers.NotPrimary a at) h = absurd (false≢true h)
memory_cause config w s command answers.NoPrimaryRecorded h = absurd (false≢true h)
memory_cause config w s command (answers.Unknown g a t) h = absurd (false≢true h)
memory_cause config w s command (answers.Shown a at p) h = absurd (false≢true h)
memory_cause config w s command (answers.Shard shard recorded) h = absurd (false≢true h)
memory_cause config w s command (answers.Tablets rows) h = absurd (false≢true h)

-- it is told without memory
pub cause_at_once : (config : Config) (w : World) (o : Option CommandState) (x : CommandAnswer)
    → (is_out_of_memory x && is_some o) ≡ (is_out_of_memory x && has_cause config w o x)
cause_at_once config w None x = refl
cause_at_once config w (Some s) x = of_test (is_out_of_memory x) refl
  where
    of_test : (b : Bool) → is_out_of_memory x ≡ b → (b && true) ≡ (b && has_command_cause config w s s.command x)
    of_test true is = sym (memory_cause config w s s.command x is)
    of_test false is = refl
