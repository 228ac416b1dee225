-- The course of PlannedReparentShard (Vitess manual) is stable: one line for each of its definitions.
use Rattle.std.proofs.Common.{ℕ, Bool, List, Option, Some, None, Result, Ok, Err}
use Rattle.shard_names.specs.declared.alias.Alias.{Alias}
use Rattle.shard_names.specs.Tablets.{alias_eq}
use Rattle.gtid_sets.specs.Position.{Position, nothing}
use Rattle.topo_lock.specs.declared.intent.Intent.{Intent}
use Rattle.std.specs.List.{flat_map}
use Rattle.shard_calls.specs.declared.call.Call.TheVariants as calls
use Rattle.shard_calls.specs.declared.ending.CommandAnswer.TheVariants as endings
use Rattle.shard_calls.specs.declared.group.Group.{Group}
use Rattle.shard_calls.specs.declared.command.PlannedOptions.{PlannedOptions}
use Rattle.shard_calls.specs.declared.refusal.Refusal.{Refusal}
use Rattle.shard_calls.specs.declared.event.Seen.{Seen}
use Rattle.shard_calls.specs.Causes.{is_idle, not_joined}
use Rattle.shard_calls.specs.Choosing.{candidates, follower}
use Rattle.courses.specs.Promoting.{established, promotes, reparents, others_than, promoted_position, told_so}
use Rattle.shard_calls.specs.Refusals.{refusal_of_crossing, refusal_by_demoted, refusal_of_planned, refusal_by_seen}
use Rattle.courses.specs.Walks.{refusing, or_refusing}
use Rattle.courses.specs.Planned.{first_primary, successor, demoted_position, following, holding, demotes, catches_up, undone_by, undoes, reparents_all, replaced_by, replaces, reparents_from, reparents_by, planned_course}
use Rattle.courses.specs.Laws.{IsStable}
use Rattle.courses.specs.Stable.{pure_stable, bind_stable, then_stable, if_stable, tried_stable, takes_stable, reads_stable, intends_stable, records_stable, needs_stable, calls_stable}

pub established_stable : (timeout : ℕ) (others : List Alias) (u : ℕ) (c : Alias) (p : Position) → IsStable (established timeout others u c p)
unfolding established
established_stable timeout others u c p =
    bind_stable _ _ (then_stable _ _ (records_stable c) (calls_stable others (calls.SetSource c u p)))
    (λ done. bind_stable _ _ (needs_stable c (calls.WaitTold timeout))
    (λ x. then_stable _ _ (pure_stable (told_so x)) (pure_stable (Ok (endings.Promoted c u (flat_map not_joined done))))))

pub promotes_stable : (c : Alias) (p : Position) → IsStable (promotes c p)
unfolding promotes
promotes_stable c p = bind_stable _ _ (then_stable _ _ (intends_stable c) (needs_stable c _)) (λ x. pure_stable (promoted_position x))

pub reparents_stable : (timeout : ℕ) (others : List Alias) (u : ℕ) (c : Alias) (p : Position) → IsStable (reparents timeout others u c p)
unfolding reparents
reparents_stable timeout others u c p = bind_stable _ _ (promotes_stable c p) (λ q. established_stable timeout others u c q)

all_stable : (g : Group) (timeout u : ℕ) (c : Alias) (p : Position) → IsStable (reparents_all g timeout u c p)
unfolding reparents_all
all_stable g timeout u c p = reparents_stable timeout (others_than g c) u c p

successor_stable : (g : Group) (allowed : Bool) (seen : Seen) (old : Alias) (given : Option Alias) → IsStable (successor g allowed seen old given)
unfolding successor
successor_stable g allowed seen old (Some c) = then_stable _ _ (pure_stable (refusing (refusal_of_crossing allowed old c))) (pure_stable (Ok c))
successor_stable g allowed seen old None = bind_stable _ _ (calls_stable (candidates g allowed seen old) calls.Status) (λ done. pure_stable (or_refusing (follower g allowed seen old done)))

demotes_stable : (i : Intent) → IsStable (demotes i)
unfolding demotes
demotes_stable i = bind_stable _ _ (needs_stable i.alias calls.Demote) (λ x. then_stable _ _ (pure_stable (refusing (refusal_by_demoted i x))) (pure_stable (demoted_position i x)))

catches_stable : (timeout : ℕ) (i : Intent) (c : Alias) (p : Position) → IsStable (catches_up timeout i c p)
unfolding catches_up
catches_stable timeout i c p =
    bind_stable _ _ (needs_stable c (calls.SetSource i.alias i.term p))
    (λ x. bind_stable _ _ (then_stable _ _ (pure_stable (following x)) (needs_stable c (calls.WaitFor p timeout))) (λ y. pure_stable (holding y)))

undone_stable : (g : Group) (timeout u : ℕ) (old : Alias) (r : Refusal) (q : Result Position Refusal) → IsStable (undone_by g timeout u old r q)
unfolding undone_by
undone_stable g timeout u old r (Ok q) = then_stable _ _ (tried_stable _ (established_stable timeout (others_than g old) u old q)) (pure_stable _)
undone_stable g timeout u old r (Err failed) = pure_stable _

undoes_stable : (g : Group) (timeout u : ℕ) (old : Alias) (p : Position) (r : Refusal) → IsStable (undoes g timeout u old p r)
unfolding undoes
undoes_stable g timeout u old p r = bind_stable _ _ (tried_stable _ (promotes_stable old p)) (λ q. undone_stable g timeout u old r q)

replaced_stable : (g : Group) (timeout u : ℕ) (old c : Alias) (p : Position) (x : Result (Unit {0}) Refusal) → IsStable (replaced_by g timeout u old c p x)
unfolding replaced_by
replaced_stable g timeout u old c p (Ok x) = all_stable g timeout u c p
replaced_stable g timeout u old c p (Err r) = undoes_stable g timeout u old p r

replaces_stable : (g : Group) (timeout u : ℕ) (i : Intent) (c : Alias) (p : Position) → IsStable (replaces g timeout u i c p)
unfolding replaces
replaces_stable g timeout u i c p =
    if_stable (alias_eq c i.alias) _ _ (all_stable g timeout u c p)
    (bind_stable _ _ (tried_stable _ (catches_stable timeout i c p)) (λ x. replaced_stable g timeout u i.alias c p x))

from_stable : (g : Group) (o : PlannedOptions) (u : ℕ) (seen : Seen) (i : Intent) → IsStable (reparents_from g o u seen i)
unfolding reparents_from
from_stable g o u seen i =
    bind_stable _ _ (successor_stable g o.allow_cross_cell seen i.alias o.new_primary)
    (λ c. bind_stable _ _ (demotes_stable i) (λ p. replaces_stable g o.timeout u i c p))

by_stable : (g : Group) (o : PlannedOptions) (u : ℕ) (seen : Seen) (i : Option Intent) → IsStable (reparents_by g o u seen i)
unfolding reparents_by
by_stable g o u seen None = bind_stable _ _ (pure_stable (first_primary g o seen o.new_primary)) (λ c. all_stable g o.timeout u c nothing)
by_stable g o u seen (Some i) = if_stable (is_idle o.avoid i.alias) _ _ (pure_stable _) (from_stable g o u seen i)

pub planned_stable : (g : Group) (o : PlannedOptions) → IsStable (planned_course g o)
unfolding planned_course
planned_stable g o =
    bind_stable _ _ (then_stable _ _ (pure_stable (refusing (refusal_of_planned g o))) takes_stable)
    (λ u. bind_stable _ _ reads_stable (λ seen. then_stable _ _ (pure_stable (refusing (refusal_by_seen o.expected o.new_primary seen))) (by_stable g o u seen seen.intent)))
