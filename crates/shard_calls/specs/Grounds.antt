-- What must stand before a tablet is asked to become the primary of a term: that the term intends it, and a ground on which what it has to hold
-- is known: that no earlier term intended anything, that the last intended tablet gave up its place, or that a set of tablets stopped that meets
-- whatever could still be told. After Sougoumarane's "Consensus algorithms at scale".
use Rattle.std.specs.Prelude.{ℕ, Bool, true, false, not, ◌&&◌, ◌||◌, ◌==◌, nat_lt, List, [], filter, filter_map, Option, Some, None, is_some}
use Rattle.std.specs.List.{find, list_all}
use Rattle.shard_base.specs.Options.{◌>>=◌}
use Rattle.shard_names.specs.declared.alias.Alias.{Alias}
use Rattle.shard_names.specs.declared.tablet.Tablet.{Tablet}
use Rattle.shard_names.specs.Tablets.{alias_eq, tablet_of}
use Rattle.durability.specs.Rules.{Rules, is_eligible}
use Rattle.durability.specs.Sets.{TabletSet}
use Rattle.durability.specs.Counting.{is_revoked}
use Rattle.gtid_sets.specs.Position.{Position, count}
use Rattle.gtid_sets.specs.StoredPosition.{position_eq}
use Rattle.topo_lock.specs.Topology.{Topology, last_of}
use Rattle.topo_lock.specs.declared.intent.Intent.{Intent}
use Rattle.shard_calls.specs.declared.answer.Answer.{Answer}
use Rattle.shard_calls.specs.declared.answer.Answer.TheVariants as answers
use Rattle.shard_calls.specs.declared.call.Call.{Call}
use Rattle.shard_calls.specs.declared.call.Call.TheVariants as calls
use Rattle.shard_calls.specs.declared.span.Outcome.{Outcome}
use Rattle.shard_calls.specs.declared.span.Outcome.TheVariants.{Answered, GivenUp}
use Rattle.shard_calls.specs.declared.state.CommandState.{CommandState}
use Rattle.shard_calls.specs.Outcomes.{Sending, sendings}
use Rattle.shard_calls.specs.World.{Config, World, numbered}
use Rattle.durability.specs.Policies.{rules_of}
use Rattle.shard_calls.specs.Evidence.{intends, is_first}
use Rattle.gtid_sets.specs.declared.held.Held.{Held}
use Rattle.gtid_sets.specs.Winner.{winner}

-- ---- the outcome of a command's first Stop and of its first Demote

abbrev pub asks_stop : Call → Bool
asks_stop calls.Status = false
asks_stop calls.Stop = true
asks_stop calls.Demote = false
asks_stop (calls.Promote p) = false
asks_stop (calls.SetSource source t p) = false
asks_stop calls.Feed = false
asks_stop (calls.WaitFor p until) = false
asks_stop (calls.WaitTold until) = false

abbrev pub asks_demote : Call → Bool
asks_demote calls.Status = false
asks_demote calls.Stop = false
asks_demote calls.Demote = true
asks_demote (calls.Promote p) = false
asks_demote (calls.SetSource source t p) = false
asks_demote calls.Feed = false
asks_demote (calls.WaitFor p until) = false
asks_demote (calls.WaitTold until) = false

-- whether it is a call in this term and to this tablet that passes the test
abbrev pub is_asked : ℕ → Alias → (Call → Bool) → Sending → Bool
is_asked u a test s = (s.term == u) && alias_eq s.to a && test s.call

-- what the first such call came to
abbrev pub first_outcome : List Sending → ℕ → Alias → (Call → Bool) → Option Outcome
first_outcome calls u a test = find (is_asked u a test) calls >>= (λ s. s.outcome)

abbrev pub if_stopped : Alias → Answer → Option Held
if_stopped a (answers.Status seen promised at newest position) = None
if_stopped a (answers.Stopped newest position) = Some (record { alias = a; newest = newest; position = position })
if_stopped a (answers.Demoted newest position) = None
if_stopped a (answers.Promoted position) = None
if_stopped a answers.Joined = None
if_stopped a answers.Feeding = None
if_stopped a answers.Holds = None
if_stopped a answers.Told = None
if_stopped a answers.NotTold = None
if_stopped a (answers.Kept at) = None
if_stopped a (answers.StaleTerm seen) = None
if_stopped a (answers.PromisedAhead promised) = None
if_stopped a (answers.NotCaughtUp missing) = None
if_stopped a (answers.Errant extra) = None
if_stopped a (answers.NotStanding newest) = None

abbrev pub if_demoted : Alias → Answer → Option Held
if_demoted a (answers.Status seen promised at newest position) = None
if_demoted a (answers.Stopped newest position) = None
if_demoted a (answers.Demoted newest position) = Some (record { alias = a; newest = newest; position = position })
if_demoted a (answers.Promoted position) = None
if_demoted a answers.Joined = None
if_demoted a answers.Feeding = None
if_demoted a answers.Holds = None
if_demoted a answers.Told = None
if_demoted a answers.NotTold = None
if_demoted a (answers.Kept at) = None
if_demoted a (answers.StaleTerm seen) = None
if_demoted a (answers.PromisedAhead promised) = None
if_demoted a (answers.NotCaughtUp missing) = None
if_demoted a (answers.Errant extra) = None
if_demoted a (answers.NotStanding newest) = None

abbrev pub if_answered : (Answer → Option Held) → Outcome → Option Held
if_answered f (Answered says) = f says
if_answered f (GivenUp why) = None

-- what the tablet had, if the outcome of the command's first Stop to it is Stopped; the same of a Demote
abbrev pub stopped_at : List Sending → ℕ → Alias → Option Held
stopped_at calls u a = first_outcome calls u a asks_stop >>= if_answered (if_stopped a)

abbrev pub demoted_at : List Sending → ℕ → Alias → Option Held
demoted_at calls u a = first_outcome calls u a asks_demote >>= if_answered (if_demoted a)

-- ---- the last intended tablet gave up its place

-- the last intent of an earlier term
abbrev pub last_before : Topology → ℕ → Option Intent
last_before topo u = last_of (filter (λ i. nat_lt i.term u) topo.intents)

-- it has nothing newer than the row of this term, and the position has all that it had
abbrev pub is_of_term : ℕ → Position → Held → Bool
is_of_term t p h = (h.newest == t) && position_eq p h.position

abbrev pub passes_held : (Held → Bool) → Option Held → Bool
passes_held test None = false
passes_held test (Some h) = test h

abbrev pub gave_up : List Sending → ℕ → Position → Option Intent → Bool
gave_up calls u p None = false
gave_up calls u p (Some i) = passes_held (is_of_term i.term p) (demoted_at calls u i.alias)

-- ---- a set of tablets stopped

-- who stopped, in alias order
abbrev pub stopped_among : List Tablet → List Sending → ℕ → List Held
stopped_among tablets calls u = filter_map (λ t. stopped_at calls u t.alias) tablets

abbrev pub has_stopped : List Sending → ℕ → TabletSet
has_stopped calls u a = is_some (stopped_at calls u a)

-- no tablet that may be promoted is left unrevoked, as counting says
abbrev pub revokes_all : Rules → List Tablet → TabletSet → Bool
revokes_all rules tablets reached = list_all (λ t. not (is_eligible rules t) || is_revoked rules tablets reached t) tablets

abbrev pub stopped_all : Rules → List Tablet → List Sending → ℕ → Position → Bool
stopped_all rules tablets calls u p =
    revokes_all rules tablets (has_stopped calls u) && passes_held (λ h. position_eq p h.position) (winner (stopped_among tablets calls u))

-- ---- evidence

abbrev pub has_any_ground : Rules → List Tablet → Topology → List Sending → ℕ → Position → Bool
has_any_ground rules tablets topo calls u p = (is_first topo u && (count p == 0)) || gave_up calls u p (last_before topo u) || stopped_all rules tablets calls u p

abbrev pub may_lead : Rules → Option Tablet → Bool
may_lead rules None = false
may_lead rules (Some t) = is_eligible rules t

-- who made these calls in term u may ask tablet a to become the primary, if it covers this position
abbrev pub grounded : Rules → List Tablet → Topology → List Sending → ℕ → Alias → Position → Bool
grounded rules tablets topo calls u a p = may_lead rules (tablet_of tablets a) && intends topo u a && has_any_ground rules tablets topo calls u p

-- what command c has called
abbrev pub calls_at : World → Option CommandState → List Sending
calls_at w None = []
calls_at w (Some s) = sendings w.post s.acts

abbrev pub calls_of : World → ℕ → List Sending
calls_of w c = calls_at w (numbered w.commands c)

-- command c of term u may ask tablet a to become the primary, if it covers this position
abbrev pub has_evidence : Config → World → ℕ → ℕ → Alias → Position → Bool
has_evidence config w c u a p = grounded (rules_of config.policy) config.tablets w.topo (calls_of w c) u a p
