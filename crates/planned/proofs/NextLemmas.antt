-- That whatever a command may do next meets its row's condition.
use Rattle.std.proofs.Common.{◌≡◌, ℕ, List, [], ◌∷◌, Bool, true, false, not, Option, Some, None, cond, ◌&&◌, is_none, is_some, refl, ap, sym, subst, ◌∙◌}
use Rattle.std.proofs.lemmas.Bool.{false≢true}
use Rattle.std.specs.List.{cons_option, AllByRecursion}
use Rattle.shard_base.specs.Options.{only_if}
use Rattle.shard_names.proofs.TabletLemmas.{both_left, both_right}
use Rattle.shard_calls.specs.declared.command.Command.{Command}
use Rattle.shard_calls.specs.declared.command.Command.TheVariants as commands
use Rattle.shard_calls.specs.declared.ending.CommandAnswer.{CommandAnswer}
use Rattle.shard_calls.specs.declared.ending.CommandAnswer.TheVariants as answers
use Rattle.shard_calls.specs.declared.refusal.Refusal.TheVariants as refusals
use Rattle.shard_calls.specs.declared.event.Event.{Event}
use Rattle.shard_calls.specs.declared.event.Event.TheVariants as events
use Rattle.shard_calls.specs.declared.span.Deed.{Deed}
use Rattle.shard_calls.specs.declared.span.Deed.TheVariants as deeds
use Rattle.shard_calls.specs.declared.state.CommandState.{CommandState}
use Rattle.shard_calls.specs.Causes.{has_command_cause, has_cause}
use Rattle.shard_calls.specs.Messages.{why_given_up}
use Rattle.shard_calls.specs.Spans.{span_in}
use Rattle.shard_calls.specs.Writes.{tell_of}
use Rattle.shard_calls.specs.World.{Config, World, open_command, term_in, term_of}
use Rattle.shard_calls.specs.Table.{meets}
use Rattle.courses.specs.declared.demands.Demand.{Demand}
use Rattle.courses.specs.declared.demands.Demand.TheVariants as demands
use Rattle.courses.specs.declared.want.Want.{Want}
use Rattle.courses.specs.declared.want.Want.TheVariants as wants
use Rattle.planned.specs.Leaving.{owes_release, leaving, refusing}
use Rattle.planned.specs.Course.{event_of, if_met, tells, does, give_up_of, give_ups, may_by, demand_of, state_next, may}

abbrev pub AllMet : Config → World → List Event → Type 0
AllMet config w es = AllByRecursion (λ e. meets config w e ≡ true) es

pub one_met : (config : Config) (w : World) (e : Event) → meets config w e ≡ true → AllMet config w (e ∷ [])
one_met config w e met = (met, tt)

-- ---- leaving

pub term_is : (w : World) (c : ℕ) (s : CommandState) → open_command w c ≡ Some s → term_of w c ≡ s.term
term_is w c s found = ap (λ (o : Option CommandState). term_in o) found

leaves_with : (config : Config) (w : World) (c : ℕ) (s : CommandState) (x : CommandAnswer) (b : Bool) → owes_release s ≡ b → open_command w c ≡ Some s
    → has_command_cause config w s s.command x ≡ true → meets config w (cond b (events.Release c) (events.End c x)) ≡ true
leaves_with config w c s x true owes found cause = ap (λ (o : Option ℕ). is_some o) (term_is w c s found) ∙ both_left (is_some s.term) (not s.released) owes
leaves_with config w c s x false owes found cause = ap (λ (o : Option CommandState). has_cause config w o x) found ∙ cause

pub leaving_met : (config : Config) (w : World) (c : ℕ) (s : CommandState) (x : CommandAnswer) → open_command w c ≡ Some s
    → has_command_cause config w s s.command x ≡ true → AllMet config w (leaving c s x ∷ [])
leaving_met config w c s x found cause = one_met config w (leaving c s x) (leaves_with config w c s x (owes_release s) refl found cause)

-- want of memory needs no other cause
pub free_cause : (config : Config) (w : World) (s : CommandState) (command : Command)
    → has_command_cause config w s command (answers.Refused refusals.OutOfMemory None) ≡ true
free_cause config w s (commands.Planned shard new_primary avoid expected timeout allow_cross_cell) = refl
free_cause config w s (commands.Emergency shard new_primary ignored expected timeout prevent_cross_cell) = refl
free_cause config w s (commands.External a) = refl
free_cause config w s commands.Vtorc = refl
free_cause config w s (commands.Write to) = refl
free_cause config w s (commands.Show a) = refl
free_cause config w s (commands.GetShard shard) = refl
free_cause config w s (commands.GetTablets shard) = refl

pub refusing_met : (config : Config) (w : World) (c : ℕ) (s : CommandState) → open_command w c ≡ Some s → meets config w (refusing c s refusals.OutOfMemory) ≡ true
refusing_met config w c s found = (leaving_met config w c s (answers.Refused refusals.OutOfMemory None) found (free_cause config w s s.command)).0

-- ---- what it does, and how it leaves

if_met_met : (config : Config) (w : World) (c : ℕ) (s : CommandState) (e : Event) → open_command w c ≡ Some s → AllMet config w (if_met config w c s e ∷ [])
if_met_met config w c s e found = one_met config w (if_met config w c s e) (of_test (meets config w e) refl)
  where
    of_test : (b : Bool) → meets config w e ≡ b → meets config w (cond b e (refusing c s refusals.OutOfMemory)) ≡ true
    of_test true is = is
    of_test false is = refusing_met config w c s found

tells_met : (config : Config) (w : World) (c : ℕ) → AllMet config w (tells w c)
tells_met config w c = of_test (is_some (tell_of w c)) refl
  where
    of_test : (b : Bool) → is_some (tell_of w c) ≡ b → AllMet config w (cond b (events.Tell c ∷ []) [])
    of_test true is = (is, tt)
    of_test false is = tt

does_met : (config : Config) (w : World) (c : ℕ) (s : CommandState) (want : Want) → open_command w c ≡ Some s → AllMet config w (does config w c s want)
does_met config w c s wants.Take found = if_met_met config w c s (event_of w c wants.Take) found
does_met config w c s wants.Read found = if_met_met config w c s (event_of w c wants.Read) found
does_met config w c s (wants.Intend a) found = if_met_met config w c s (event_of w c (wants.Intend a)) found
does_met config w c s (wants.Record a) found = if_met_met config w c s (event_of w c (wants.Record a)) found
does_met config w c s (wants.Drain a) found = if_met_met config w c s (event_of w c (wants.Drain a)) found
does_met config w c s (wants.Ask a call) found = if_met_met config w c s (event_of w c (wants.Ask a call)) found
does_met config w c s (wants.Write a) found = if_met_met config w c s (event_of w c (wants.Write a)) found
does_met config w c s wants.Tell found = tells_met config w c

-- ---- giving up

given_up_met : (config : Config) (w : World) (c k : ℕ) (out b : Bool) (es : List Event) → is_some (why_given_up w c k) ≡ b → AllMet config w es
    → AllMet config w (cons_option (only_if (out && b) (events.GiveUp c k)) es)
given_up_met config w c k false true es is rest = rest
given_up_met config w c k false false es is rest = rest
given_up_met config w c k true false es is rest = rest
given_up_met config w c k true true es is rest = (is, rest)

give_up_met : (config : Config) (w : World) (c : ℕ) (d : Deed) (es : List Event) → AllMet config w es → AllMet config w (cons_option (give_up_of w c d) es)
give_up_met config w c (deeds.Took reply) es rest = rest
give_up_met config w c (deeds.Read reply) es rest = rest
give_up_met config w c (deeds.Intended a reply) es rest = rest
give_up_met config w c (deeds.Recorded a reply) es rest = rest
give_up_met config w c (deeds.Drained a reply) es rest = rest
give_up_met config w c (deeds.Asked x) es rest =
    given_up_met config w c x.message (is_none x.outcome) (is_some (why_given_up w c x.message)) es refl rest
give_up_met config w c (deeds.Wrote a reply) es rest = rest
give_up_met config w c (deeds.Told committed) es rest = rest

give_ups_met : (config : Config) (w : World) (c : ℕ) (span : List Deed) → AllMet config w (give_ups w c span)
give_ups_met config w c [] = tt
give_ups_met config w c (d ∷ later) = give_up_met config w c d (give_ups w c later) (give_ups_met config w c later)

-- ---- any command

may_by_met : (config : Config) (w : World) (c : ℕ) (s : CommandState) (demand : Demand) → open_command w c ≡ Some s → AllMet config w (may_by config w c s demand)
may_by_met config w c s (demands.Does want) found = does_met config w c s want found
may_by_met config w c s demands.Awaits found = give_ups_met config w c (span_in w.post s)
may_by_met config w c s (demands.Leaves x) found = if_met_met config w c s (leaving c s x) found

state_met : (config : Config) (w : World) (c : ℕ) (o : Option CommandState) → open_command w c ≡ o → AllMet config w (state_next config w c o)
state_met config w c None is = tt
state_met config w c (Some s) is = may_by_met config w c s (demand_of config w s) is

-- in any world
pub may_met : (config : Config) (w : World) (c : ℕ) → AllMet config w (may config w c)
may_met config w c = state_met config w c (open_command w c) refl
