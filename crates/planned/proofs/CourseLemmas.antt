-- Where each course halts: one that waits has a call out, and one that looks whether its entry counts as committed has written it.
use Rattle.std.proofs.Common.{◌≡◌, ℕ, List, [], ◌∷◌, Bool, true, false, Option, Some, None, Result, Ok, Err, cond, ◌==◌, refl}
use Rattle.std.specs.List.{list_any, flat_map}
use Rattle.shard_names.specs.declared.alias.Alias.{Alias}
use Rattle.shard_names.specs.Tablets.{alias_eq}
use Rattle.gtid_sets.specs.declared.held.Held.{Held}
use Rattle.gtid_sets.specs.Position.{Position, covers, nothing}
use Rattle.topo_lock.specs.declared.intent.Intent.{Intent}
use Rattle.topo_lock.specs.declared.intent.Record.{Record}
use Rattle.shard_calls.specs.declared.answer.Answer.{Answer}
use Rattle.shard_calls.specs.declared.answer.Answer.TheVariants as says
use Rattle.shard_calls.specs.declared.call.Call.TheVariants as calls
use Rattle.shard_calls.specs.declared.command.EmergencyOptions.{EmergencyOptions}
use Rattle.shard_calls.specs.declared.command.PlannedOptions.{PlannedOptions}
use Rattle.shard_calls.specs.declared.ending.CommandAnswer.TheVariants as endings
use Rattle.shard_calls.specs.declared.event.Seen.{Seen}
use Rattle.shard_calls.specs.declared.group.Group.{Group}
use Rattle.shard_calls.specs.declared.refusal.Refusal.{Refusal}
use Rattle.shard_calls.specs.declared.span.Deed.{Deed}
use Rattle.shard_calls.specs.declared.span.Deed.TheVariants as deeds
use Rattle.shard_calls.specs.declared.span.Transaction.{Transaction}
use Rattle.shard_calls.specs.declared.stand.Standing.{Standing}
use Rattle.shard_calls.specs.declared.state.Shown.{Shown}
use Rattle.shard_calls.specs.Causes.{is_idle, not_joined}
use Rattle.shard_calls.specs.Choosing.{candidates, follower, first_of}
use Rattle.shard_calls.specs.Refusals.{or_else, recorded_alias, refusal_by_demoted, refusal_by_seen, refusal_of_crossing, refusal_of_emergency, refusal_of_planned, refusal_of_undeclared, term_of_promoted}
use Rattle.shard_calls.specs.Rescuing.{first_by, heeded, helds, position_of, refusal_of_unrevoked, rescuer, stale_in, winner_of}
use Rattle.shard_calls.specs.Stands.{standing_of}
use Rattle.courses.specs.declared.want.Exit.TheVariants as exits
use Rattle.courses.specs.Walks.{gives, goes_on}
use Rattle.courses.specs.Promoting.{promoted_position, told_so, others_than, established, promotes, reparents}
use Rattle.courses.specs.Planned.{first_primary, successor, demoted_position, demotes, following, holding, catches_up, undone_by, undoes, reparents_all, replaced_by, replaces, reparents_from, reparents_by, planned_course}
use Rattle.courses.specs.Emergency.{stops_all, is_fed, has_all, others_of, takes_over, rescues_by, rescues, emergency_course}
use Rattle.courses.specs.External.{promoted_term, external_course}
use Rattle.courses.specs.Writing.{written_by, writes_at, write_course, shown_by, show_course}
use Rattle.recovery_loop.specs.Course.{shows}
use Rattle.planned.proofs.HaltLemmas.{IsWithin, within_later, is_written, Comes, Halts, IsPlain, plain_halts, bind_halts, then_halts, if_halts, tried_halts, unless_halts, or_plain, unless_refused_halts, if_plain, takes_halts, reads_halts, intends_halts, records_halts, needs_halts, calls_all_halts}

pub gives_halts : {A : Type 0} (span : List Deed) (x : A) → Halts span (gives x)
gives_halts span x rest within = within

-- ---- the end of every reparent

promoted_plain : (x : Answer) → IsPlain (promoted_position x)
promoted_plain (says.Promoted p) = tt
promoted_plain (says.Status seen promised stand newest p) = tt
promoted_plain (says.Stopped newest p) = tt
promoted_plain (says.Demoted newest p) = tt
promoted_plain says.Joined = tt
promoted_plain says.Feeding = tt
promoted_plain says.Holds = tt
promoted_plain says.Told = tt
promoted_plain says.NotTold = tt
promoted_plain (says.Kept stand) = tt
promoted_plain (says.StaleTerm seen) = tt
promoted_plain (says.PromisedAhead promised) = tt
promoted_plain (says.NotCaughtUp missing) = tt
promoted_plain (says.Errant extra) = tt
promoted_plain (says.NotStanding newest) = tt

told_plain : (x : Answer) → IsPlain (told_so x)
told_plain says.Told = tt
told_plain (says.Status seen promised stand newest p) = tt
told_plain (says.Stopped newest p) = tt
told_plain (says.Demoted newest p) = tt
told_plain (says.Promoted p) = tt
told_plain says.Joined = tt
told_plain says.Feeding = tt
told_plain says.Holds = tt
told_plain says.NotTold = tt
told_plain (says.Kept stand) = tt
told_plain (says.StaleTerm seen) = tt
told_plain (says.PromisedAhead promised) = tt
told_plain (says.NotCaughtUp missing) = tt
told_plain (says.Errant extra) = tt
told_plain (says.NotStanding newest) = tt

established_halts : (span : List Deed) (timeout : ℕ) (others : List Alias) (u : ℕ) (c : Alias) (p : Position) → Halts span (established timeout others u c p)
unfolding established
established_halts span timeout others u c p =
    bind_halts span _ _ (then_halts span _ _ (records_halts span c) (calls_all_halts span others (calls.SetSource c u p)))
    (λ done.
    bind_halts span _ _ (needs_halts span c (calls.WaitTold timeout))
    (λ x. then_halts span _ _ (plain_halts span (told_so x) (told_plain x)) (gives_halts span (endings.Promoted c u (flat_map not_joined done)))))

promotes_halts : (span : List Deed) (c : Alias) (p : Position) → Halts span (promotes c p)
unfolding promotes
promotes_halts span c p =
    bind_halts span _ _ (then_halts span _ _ (intends_halts span c) (needs_halts span c (calls.Promote p)))
    (λ x. plain_halts span (promoted_position x) (promoted_plain x))

reparents_halts : (span : List Deed) (timeout : ℕ) (others : List Alias) (u : ℕ) (c : Alias) (p : Position) → Halts span (reparents timeout others u c p)
unfolding reparents
reparents_halts span timeout others u c p = bind_halts span _ _ (promotes_halts span c p) (λ q. established_halts span timeout others u c q)

-- ---- a PlannedReparentShard

all_halts : (span : List Deed) (g : Group) (timeout u : ℕ) (c : Alias) (p : Position) → Halts span (reparents_all g timeout u c p)
unfolding reparents_all
all_halts span g timeout u c p = reparents_halts span timeout (others_than g c) u c p

successor_halts : (span : List Deed) (g : Group) (allowed : Bool) (seen : Seen) (old : Alias) (given : Option Alias) → Halts span (successor g allowed seen old given)
unfolding successor
successor_halts span g allowed seen old (Some c) = then_halts span _ _ (unless_halts span (refusal_of_crossing allowed old c)) (gives_halts span c)
successor_halts span g allowed seen old None =
    bind_halts span _ _ (calls_all_halts span (candidates g allowed seen old) calls.Status) (λ done. unless_refused_halts span (follower g allowed seen old done))

demoted_plain : (i : Intent) (x : Answer) → IsPlain (demoted_position i x)
demoted_plain i (says.Demoted newest p) = if_plain (newest == i.term) (Ok p) (Err exits.Strays) tt tt
demoted_plain i (says.Status seen promised stand newest p) = tt
demoted_plain i (says.Stopped newest p) = tt
demoted_plain i (says.Promoted p) = tt
demoted_plain i says.Joined = tt
demoted_plain i says.Feeding = tt
demoted_plain i says.Holds = tt
demoted_plain i says.Told = tt
demoted_plain i says.NotTold = tt
demoted_plain i (says.Kept stand) = tt
demoted_plain i (says.StaleTerm seen) = tt
demoted_plain i (says.PromisedAhead promised) = tt
demoted_plain i (says.NotCaughtUp missing) = tt
demoted_plain i (says.Errant extra) = tt
demoted_plain i (says.NotStanding newest) = tt

demotes_halts : (span : List Deed) (i : Intent) → Halts span (demotes i)
unfolding demotes
demotes_halts span i =
    bind_halts span _ _ (needs_halts span i.alias calls.Demote)
    (λ x. then_halts span _ _ (unless_halts span (refusal_by_demoted i x)) (plain_halts span (demoted_position i x) (demoted_plain i x)))

following_plain : (x : Answer) → IsPlain (following x)
following_plain says.Joined = tt
following_plain (says.Kept stand) = tt
following_plain (says.PromisedAhead promised) = tt
following_plain (says.Status seen promised stand newest p) = tt
following_plain (says.Stopped newest p) = tt
following_plain (says.Demoted newest p) = tt
following_plain (says.Promoted p) = tt
following_plain says.Feeding = tt
following_plain says.Holds = tt
following_plain says.Told = tt
following_plain says.NotTold = tt
following_plain (says.StaleTerm seen) = tt
following_plain (says.NotCaughtUp missing) = tt
following_plain (says.Errant extra) = tt
following_plain (says.NotStanding newest) = tt

holding_plain : (x : Answer) → IsPlain (holding x)
holding_plain says.Holds = tt
holding_plain (says.Status seen promised stand newest p) = tt
holding_plain (says.Stopped newest p) = tt
holding_plain (says.Demoted newest p) = tt
holding_plain (says.Promoted p) = tt
holding_plain says.Joined = tt
holding_plain says.Feeding = tt
holding_plain says.Told = tt
holding_plain says.NotTold = tt
holding_plain (says.Kept stand) = tt
holding_plain (says.StaleTerm seen) = tt
holding_plain (says.PromisedAhead promised) = tt
holding_plain (says.NotCaughtUp missing) = tt
holding_plain (says.Errant extra) = tt
holding_plain (says.NotStanding newest) = tt

catches_halts : (span : List Deed) (timeout : ℕ) (i : Intent) (c : Alias) (p : Position) → Halts span (catches_up timeout i c p)
unfolding catches_up
catches_halts span timeout i c p =
    bind_halts span _ _ (needs_halts span c (calls.SetSource i.alias i.term p))
    (λ x.
    bind_halts span _ _ (then_halts span _ _ (plain_halts span (following x) (following_plain x)) (needs_halts span c (calls.WaitFor p timeout)))
    (λ y. plain_halts span (holding y) (holding_plain y)))

undone_halts : (span : List Deed) (g : Group) (timeout u : ℕ) (old : Alias) (r : Refusal) (q : Result Position Refusal) → Halts span (undone_by g timeout u old r q)
unfolding undone_by
undone_halts span g timeout u old r (Ok q) =
    then_halts span _ _ (tried_halts span _ (established_halts span timeout (others_than g old) u old q)) (gives_halts span (endings.Refused r (Some true)))
undone_halts span g timeout u old r (Err failed) = gives_halts span (endings.Refused r (Some false))

undoes_halts : (span : List Deed) (g : Group) (timeout u : ℕ) (old : Alias) (p : Position) (r : Refusal) → Halts span (undoes g timeout u old p r)
unfolding undoes
undoes_halts span g timeout u old p r = bind_halts span _ _ (tried_halts span _ (promotes_halts span old p)) (λ q. undone_halts span g timeout u old r q)

replaced_halts : (span : List Deed) (g : Group) (timeout u : ℕ) (old c : Alias) (p : Position) (x : Result (Unit {0}) Refusal)
    → Halts span (replaced_by g timeout u old c p x)
unfolding replaced_by
replaced_halts span g timeout u old c p (Ok x) = all_halts span g timeout u c p
replaced_halts span g timeout u old c p (Err r) = undoes_halts span g timeout u old p r

replaces_halts : (span : List Deed) (g : Group) (timeout u : ℕ) (i : Intent) (c : Alias) (p : Position) → Halts span (replaces g timeout u i c p)
unfolding replaces
replaces_halts span g timeout u i c p =
    if_halts span (alias_eq c i.alias) _ _ (all_halts span g timeout u c p)
    (bind_halts span _ _ (tried_halts span _ (catches_halts span timeout i c p)) (λ x. replaced_halts span g timeout u i.alias c p x))

from_halts : (span : List Deed) (g : Group) (o : PlannedOptions) (u : ℕ) (seen : Seen) (i : Intent) → Halts span (reparents_from g o u seen i)
unfolding reparents_from
from_halts span g o u seen i =
    bind_halts span _ _ (successor_halts span g o.allow_cross_cell seen i.alias o.new_primary)
    (λ c. bind_halts span _ _ (demotes_halts span i) (λ p. replaces_halts span g o.timeout u i c p))

first_plain : (g : Group) (o : PlannedOptions) (seen : Seen) (given : Option Alias) → IsPlain (first_primary g o seen given)
first_plain g o seen (Some c) = tt
first_plain g o seen None = or_plain (first_of g seen o.avoid)

by_halts : (span : List Deed) (g : Group) (o : PlannedOptions) (u : ℕ) (seen : Seen) (i : Option Intent) → Halts span (reparents_by g o u seen i)
unfolding reparents_by
by_halts span g o u seen None =
    bind_halts span _ _ (plain_halts span (first_primary g o seen o.new_primary) (first_plain g o seen o.new_primary)) (λ c. all_halts span g o.timeout u c nothing)
by_halts span g o u seen (Some i) =
    if_halts span (is_idle o.avoid i.alias) _ _ (gives_halts span (endings.NothingToDo i.alias)) (from_halts span g o u seen i)

pub planned_halts : (span : List Deed) (g : Group) (o : PlannedOptions) → Halts span (planned_course g o)
unfolding planned_course
planned_halts span g o =
    bind_halts span _ _ (then_halts span _ _ (unless_halts span (refusal_of_planned g o)) (takes_halts span))
    (λ u.
    bind_halts span _ _ (reads_halts span)
    (λ seen. then_halts span _ _ (unless_halts span (refusal_by_seen o.expected o.new_primary seen)) (by_halts span g o u seen seen.intent)))

-- ---- an EmergencyReparentShard

stops_halts : (span : List Deed) (g : Group) (ignored : List Alias) → Halts span (stops_all g ignored)
unfolding stops_all
stops_halts span g ignored =
    bind_halts span _ _ (calls_all_halts span (heeded g ignored) calls.Stop)
    (λ done.
    then_halts span _ _ (then_halts span _ _ (unless_halts span (first_by stale_in done)) (unless_halts span (refusal_of_unrevoked g ignored done)))
    (gives_halts span done))

fed_halts : (span : List Deed) (timeout u : ℕ) (w : Held) (c : Alias) → Halts span (is_fed timeout u w c)
unfolding is_fed
fed_halts span timeout u w c =
    bind_halts span _ _ (then_halts span _ _ (needs_halts span w.alias calls.Feed) (needs_halts span c (calls.SetSource w.alias u w.position)))
    (λ x.
    bind_halts span _ _ (then_halts span _ _ (plain_halts span (following x) (following_plain x)) (needs_halts span c (calls.WaitFor w.position timeout)))
    (λ y. plain_halts span (holding y) (holding_plain y)))

has_halts : (span : List Deed) (timeout u : ℕ) (w : Held) (c : Alias) (p : Position) → Halts span (has_all timeout u w c p)
unfolding has_all
has_halts span timeout u w c p = if_halts span (covers p w.position) (gives tt) (is_fed timeout u w c) (λ rest within. within) (fed_halts span timeout u w c)

over_halts : (span : List Deed) (timeout u : ℕ) (done : List Deed) (w : Held) (c : Alias) → Halts span (takes_over timeout u done w c)
unfolding takes_over
over_halts span timeout u done w c =
    then_halts span _ _ (has_halts span timeout u w c (position_of (helds done) c)) (reparents_halts span timeout (others_of c (helds done)) u c w.position)

rescued_halts : (span : List Deed) (g : Group) (o : EmergencyOptions) (u : ℕ) (seen : Seen) (done : List Deed) → Halts span (rescues_by g o u seen done)
unfolding rescues_by
rescued_halts span g o u seen done =
    bind_halts span _ _ (unless_refused_halts span (winner_of g o seen done))
    (λ w. bind_halts span _ _ (unless_refused_halts span (rescuer g o seen done w o.new_primary)) (λ c. over_halts span o.timeout u done w c))

rescues_halts : (span : List Deed) (g : Group) (o : EmergencyOptions) (u : ℕ) (seen : Seen) → Halts span (rescues g o u seen)
unfolding rescues
rescues_halts span g o u seen = bind_halts span _ _ (stops_halts span g o.ignored) (λ done. rescued_halts span g o u seen done)

pub emergency_halts : (span : List Deed) (g : Group) (o : EmergencyOptions) → Halts span (emergency_course g o)
unfolding emergency_course
emergency_halts span g o =
    bind_halts span _ _ (then_halts span _ _ (unless_halts span (refusal_of_emergency g o)) (takes_halts span))
    (λ u.
    bind_halts span _ _ (reads_halts span)
    (λ seen. then_halts span _ _ (unless_halts span (refusal_by_seen o.expected o.new_primary seen)) (rescues_halts span g o u seen)))

-- ---- a TabletExternallyReparented

term_plain : (a : Alias) (i : Option Intent) (x : Answer) → IsPlain (promoted_term a i x)
term_plain a i (says.Status seen promised stand newest p) = or_plain (term_of_promoted a newest i stand)
term_plain a i (says.Stopped newest p) = tt
term_plain a i (says.Demoted newest p) = tt
term_plain a i (says.Promoted p) = tt
term_plain a i says.Joined = tt
term_plain a i says.Feeding = tt
term_plain a i says.Holds = tt
term_plain a i says.Told = tt
term_plain a i says.NotTold = tt
term_plain a i (says.Kept stand) = tt
term_plain a i (says.StaleTerm seen) = tt
term_plain a i (says.PromisedAhead promised) = tt
term_plain a i (says.NotCaughtUp missing) = tt
term_plain a i (says.Errant extra) = tt
term_plain a i (says.NotStanding newest) = tt

pub external_halts : (span : List Deed) (g : Group) (a : Alias) → Halts span (external_course g a)
unfolding external_course
external_halts span g a =
    bind_halts span _ _ (then_halts span _ _ (unless_halts span (refusal_of_undeclared g (Some a))) (takes_halts span))
    (λ u.
    bind_halts span _ _ (reads_halts span)
    (λ seen.
    bind_halts span _ _ (needs_halts span a calls.Status)
    (λ x.
    bind_halts span _ _ (plain_halts span (promoted_term a seen.intent x) (term_plain a seen.intent x))
    (λ t. then_halts span _ _ (records_halts span a) (gives_halts span (endings.Recorded t))))))

-- ---- writes

told_halts : (span : List Deed) (a : Alias) (x : Transaction) (rest : List Deed) → list_any is_written span ≡ true → IsWithin span rest
    → Comes span (written_by a (Ok x) rest).came (written_by a (Ok x) rest).rest
told_halts span a x [] written within = written
told_halts span a x (deeds.Took reply ∷ rest) written within = tt
told_halts span a x (deeds.Read reply ∷ rest) written within = tt
told_halts span a x (deeds.Intended b reply ∷ rest) written within = tt
told_halts span a x (deeds.Recorded b reply ∷ rest) written within = tt
told_halts span a x (deeds.Drained b reply ∷ rest) written within = tt
told_halts span a x (deeds.Asked y ∷ rest) written within = tt
told_halts span a x (deeds.Wrote b reply ∷ rest) written within = tt
told_halts span a x (deeds.Told committed ∷ rest) written within = within_later span (deeds.Told committed) rest within

reply_halts : (span : List Deed) (a b : Alias) (reply : Result Transaction Standing) (rest : List Deed) → IsWithin span (deeds.Wrote b reply ∷ rest)
    → Comes span (written_by a reply rest).came (written_by a reply rest).rest
reply_halts span a b (Ok x) rest within = told_halts span a x rest (within is_written refl) (within_later span (deeds.Wrote b (Ok x)) rest within)
reply_halts span a b (Err stand) rest within = within_later span (deeds.Wrote b (Err stand)) rest within

wrote_halts : (span : List Deed) (a b : Alias) (same : Bool) (reply : Result Transaction Standing) (rest : List Deed) → IsWithin span (deeds.Wrote b reply ∷ rest)
    → Comes span (goes_on (cond same (Ok reply) (Err exits.Strays)) (written_by a) rest).came (goes_on (cond same (Ok reply) (Err exits.Strays)) (written_by a) rest).rest
wrote_halts span a b true reply rest within = reply_halts span a b reply rest within
wrote_halts span a b false reply rest within = tt

at_halts : (span : List Deed) (to : Option Alias) → Halts span (writes_at to)
at_halts span None rest within = within
at_halts span (Some a) [] within = tt
at_halts span (Some a) (deeds.Took reply ∷ rest) within = tt
at_halts span (Some a) (deeds.Read reply ∷ rest) within = tt
at_halts span (Some a) (deeds.Intended b reply ∷ rest) within = tt
at_halts span (Some a) (deeds.Recorded b reply ∷ rest) within = tt
at_halts span (Some a) (deeds.Drained b reply ∷ rest) within = tt
at_halts span (Some a) (deeds.Asked x ∷ rest) within = tt
at_halts span (Some a) (deeds.Wrote b reply ∷ rest) within = wrote_halts span a b (alias_eq b a) reply rest within
at_halts span (Some a) (deeds.Told committed ∷ rest) within = tt

pub write_halts : (span : List Deed) (to : Option Alias) (recorded : Option Record) → Halts span (write_course to recorded)
unfolding write_course
write_halts span to recorded = at_halts span (or_else to (recorded_alias recorded))

-- ---- a show

show_halts : (span : List Deed) (a : Alias) (stand : Standing) (p : Position) → Halts span (show_course a stand p)
unfolding show_course
show_halts span a stand p = gives_halts span (shown_by a stand p)

pub shows_halts : (span : List Deed) (a : Alias) (o : Option Shown) → Halts span (shows a o)
shows_halts span a None = λ rest within. tt
shows_halts span a (Some x) = show_halts span a (standing_of x.stand) x.position
