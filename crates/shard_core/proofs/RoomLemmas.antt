-- What open commands owe, before and after an event.
use Rattle.std.proofs.Common.{◌≡◌, ℕ, zero, suc, ◌+◌, ◌*◌, ◌≤◌, List, [], ◌∷◌, ◌++◌, Bool, true, false, Option, Some, None, Result, Ok, Err, is_some, length, refl, ap, sym, subst, ◌∙◌, arith}
use Rattle.std.proofs.lemmas.Bool.{false≢true}
use Rattle.shard_base.specs.Options.{◌>>=◌}
use Rattle.shard_names.specs.declared.alias.Alias.{Alias}
use Rattle.shard_names.specs.declared.tablet.Tablet.{Tablet}
use Rattle.shard_names.specs.Tablets.{tablet_of}
use Rattle.topo_lock.specs.Topology.{answer_take, answer_intend, answer_record, answer_drain}
use Rattle.topo_lock.specs.declared.lock.LockTaken.{LockTaken}
use Rattle.topo_lock.specs.declared.lock.TopoFault.{TopoFault}
use Rattle.topo_lock.specs.declared.lock.TopoFault.TheVariants as faults
use Rattle.shard_calls.specs.declared.ending.CommandAnswer.{CommandAnswer}
use Rattle.shard_calls.specs.declared.event.Event.{Event}
use Rattle.shard_calls.specs.declared.event.Event.TheVariants as events
use Rattle.shard_calls.specs.declared.event.Reply.{Reply}
use Rattle.shard_calls.specs.declared.event.Step.{Step}
use Rattle.shard_calls.specs.declared.outcome.Accepted.{Accepted}
use Rattle.shard_calls.specs.declared.outcome.Accepted.TheVariants as accepteds
use Rattle.shard_calls.specs.declared.outcome.Written.{Written}
use Rattle.shard_calls.specs.declared.outcome.Written.TheVariants as writtens
use Rattle.shard_calls.specs.declared.post.Content.{Content}
use Rattle.shard_calls.specs.declared.post.Content.TheVariants as contents
use Rattle.shard_calls.specs.declared.post.Message.{Message}
use Rattle.shard_calls.specs.declared.state.Act.{Act}
use Rattle.shard_calls.specs.declared.state.Act.TheVariants as acts
use Rattle.shard_calls.specs.declared.state.CommandState.{CommandState}
use Rattle.shard_calls.specs.declared.why.Why.{Why}
use Rattle.shard_calls.specs.Tablets.{TabletState}
use Rattle.shard_calls.specs.World.{Config, World, changed, changed_at, numbered, if_open, open_command, term_of, with_act, next_message, on_message, arrives}
use Rattle.shard_calls.specs.Begins.{begun_state, ends_by}
use Rattle.shard_calls.specs.Causes.{has_cause}
use Rattle.shard_calls.specs.Locks.{as_released, by_term, drains_in, intends_in, read_act, reads, records_in, releases_in, takes_by, with_drained, with_intended, with_recorded, with_taken}
use Rattle.shard_calls.specs.Messages.{why_given_up, offer_to}
use Rattle.shard_calls.specs.Deliveries.{after_arrival, after_delivery, asked, fed, feed_verdict, gives_up, if_declared, offers}
use Rattle.shard_calls.specs.Writes.{tell_of, told_act, with_told, with_written, write_verdict, writes_at, writes_in}
use Rattle.shard_calls.specs.Table.{meets, change}
use Rattle.shard_state.specs.State.{Data, seen, world_seen, config_in}
use Rattle.changes.specs.Makes.{Makes, takes_no_memory}
use Rattle.shard_core.specs.Causes.{is_told_at_once}
use Rattle.shard_core.specs.Room.{debt, owed_of, is_unreleased, has_room_kept, owed_less, owed_released, owed_after}

-- ---- a command that changes

abbrev as_ended : CommandState → CommandState
as_ended s = record s { ended = true }

-- a change that leaves what a command owes
kept_in : (xs : List CommandState) (k : ℕ) (f : CommandState → CommandState) → ((s : CommandState) → debt (f s) ≡ debt s) → owed_of (changed xs k f) ≡ owed_of xs
kept_in [] k f same = refl
kept_in (x ∷ xs) zero f same = ap (λ (n : ℕ). n + owed_of xs) (same x)
kept_in (x ∷ xs) (suc k) f same = ap (λ (n : ℕ). debt x + n) (kept_in xs k f same)

kept_at : (xs : List CommandState) (c : ℕ) (f : CommandState → CommandState) → ((s : CommandState) → debt (f s) ≡ debt s) → owed_of (changed_at xs c f) ≡ owed_of xs
kept_at xs zero f same = refl
kept_at xs (suc k) f same = kept_in xs k f same

abbrev one_if : Bool → ℕ
one_if true = 1
one_if false = 0

abbrev debt_in : Option CommandState → ℕ
debt_in None = 0
debt_in (Some s) = debt s

-- a first Release pays one
released_one : (s : CommandState) (ended released : Bool) → s.ended ≡ ended → s.released ≡ released → debt (as_released s) + one_if (is_unreleased (if_open (Some s))) ≡ debt s
released_one s true released e r = rw (e) refl
released_one s false true e r = rw (e, r) refl
released_one s false false e r = rw (e, r) refl

released_in : (xs : List CommandState) (k : ℕ) → owed_of (changed_at xs (suc k) as_released) + one_if (is_unreleased (if_open (numbered xs (suc k)))) ≡ owed_of xs
released_in [] k = refl
released_in (x ∷ xs) zero = omega (arith, released_one x x.ended x.released refl refl)
released_in (x ∷ xs) (suc k) = omega (arith, released_in xs k)

released_at : (xs : List CommandState) (c : ℕ) → owed_of (changed_at xs c as_released) + one_if (is_unreleased (if_open (numbered xs c))) ≡ owed_of xs
released_at xs zero = omega arith
released_at xs (suc k) = released_in xs k

by_first : (n m : ℕ) (b : Bool) → m + one_if b ≡ n → m ≡ owed_released n b
by_first n m true h = omega (arith, h)
by_first n m false h = omega (arith, h)

-- an End pays all
ended_one : (s : CommandState) (ended : Bool) → s.ended ≡ ended → debt (as_ended s) + debt_in (if_open (Some s)) ≡ debt s
ended_one s true e = rw (e) refl
ended_one s false e = rw e (omega arith)

ended_in : (xs : List CommandState) (k : ℕ) → owed_of (changed_at xs (suc k) as_ended) + debt_in (if_open (numbered xs (suc k))) ≡ owed_of xs
ended_in [] k = refl
ended_in (x ∷ xs) zero = omega (arith, ended_one x x.ended refl)
ended_in (x ∷ xs) (suc k) = omega (arith, ended_in xs k)

ended_at : (xs : List CommandState) (c : ℕ) → owed_of (changed_at xs c as_ended) + debt_in (if_open (numbered xs c)) ≡ owed_of xs
ended_at xs zero = omega arith
ended_at xs (suc k) = ended_in xs k

-- one that begins owes two
pushed : (xs : List CommandState) (s : CommandState) → owed_of (xs ++ s ∷ []) ≡ owed_of xs + debt s
pushed [] s = omega arith
pushed (x ∷ xs) s = omega (arith, pushed xs s)

-- ---- by rows

-- what commands owe in the world
abbrev owed_in : World → ℕ
owed_in w = owed_of w.commands

taken_debt : (r : Result ℕ LockTaken) (s : CommandState) → debt (with_taken r s) ≡ debt s
taken_debt (Ok t) s = refl
taken_debt (Err held) s = refl

intended_debt : (a : Alias) (r : Result (Unit {0}) TopoFault) (s : CommandState) → debt (with_intended a r s) ≡ debt s
intended_debt a (Ok u) s = refl
intended_debt a (Err (faults.LockLost current)) s = refl
intended_debt a (Err (faults.IntentStands b)) s = refl

recorded_debt : (a : Alias) (r : Result (Unit {0}) TopoFault) (s : CommandState) → debt (with_recorded a r s) ≡ debt s
recorded_debt a (Ok u) s = refl
recorded_debt a (Err (faults.LockLost current)) s = refl
recorded_debt a (Err (faults.IntentStands b)) s = refl

drained_debt : (a : Alias) (r : Result (Unit {0}) TopoFault) (s : CommandState) → debt (with_drained a r s) ≡ debt s
drained_debt a (Ok u) s = refl
drained_debt a (Err (faults.LockLost current)) s = refl
drained_debt a (Err (faults.IntentStands b)) s = refl

written_debt : (a : Alias) (old : TabletState) (x : Written) (s : CommandState) → debt (with_written a old x s) ≡ debt s
written_debt a old (writtens.Entry g) s = refl
written_debt a old (writtens.NotPrimary at) s = refl

take_owed : (w : World) (c : ℕ) (o : Option CommandState) → owed_in (takes_by w c o) ≡ owed_in w
take_owed w c None = refl
take_owed w c (Some s) = kept_at w.commands c (with_taken (answer_take w.topo)) (taken_debt (answer_take w.topo))

read_owed : (w : World) (c : ℕ) (o : Option ℕ) → owed_in (by_term o w (reads w c)) ≡ owed_in w
read_owed w c None = refl
read_owed w c (Some t) = kept_at w.commands c (with_act (read_act w.topo t)) (λ x. refl)

intend_owed : (w : World) (c : ℕ) (a : Alias) (o : Option ℕ) → owed_in (by_term o w (intends_in w c a)) ≡ owed_in w
intend_owed w c a None = refl
intend_owed w c a (Some t) = kept_at w.commands c (with_intended a (answer_intend w.topo t a)) (intended_debt a (answer_intend w.topo t a))

record_owed : (w : World) (c : ℕ) (a : Alias) (o : Option ℕ) → owed_in (by_term o w (records_in w c a)) ≡ owed_in w
record_owed w c a None = refl
record_owed w c a (Some t) = kept_at w.commands c (with_recorded a (answer_record w.topo t)) (recorded_debt a (answer_record w.topo t))

drain_owed : (w : World) (c : ℕ) (a : Alias) (o : Option ℕ) → owed_in (by_term o w (drains_in w c a)) ≡ owed_in w
drain_owed w c a None = refl
drain_owed w c a (Some t) = kept_at w.commands c (with_drained a (answer_drain w.topo t)) (drained_debt a (answer_drain w.topo t))

release_owed : (w : World) (c : ℕ) (o : Option ℕ) → is_some o ≡ true
    → owed_in (by_term o w (releases_in w c)) ≡ owed_released (owed_in w) (is_unreleased (open_command w c))
release_owed w c None met = absurd (false≢true met)
release_owed w c (Some t) met =
    by_first (owed_in w) (owed_of (changed_at w.commands c as_released)) (is_unreleased (open_command w c)) (released_at w.commands c)

asked_owed : (w : World) (o : Option Tablet) (f : Tablet → World) → ((me : Tablet) → owed_in (f me) ≡ owed_in w) → owed_in (if_declared o w f) ≡ owed_in w
asked_owed w None f same = refl
asked_owed w (Some me) f same = same me

fed_owed : (w : World) (from to : Alias) (term index : ℕ) (s : TabletState) (x : Accepted) → owed_in (fed w from to term index s x) ≡ owed_in w
fed_owed w from to term index s accepteds.Taken = refl
fed_owed w from to term index s accepteds.Ignored = refl

arrival_owed : (config : Config) (w : World) (k : ℕ) (c : Content) → owed_in (after_arrival config w k c) ≡ owed_in w
arrival_owed config w k (contents.Asks c u a call) = asked_owed w (tablet_of config.tablets a) (asked w k c u a call) (λ me. refl)
arrival_owed config w k (contents.Answers c call a says) = refl
arrival_owed config w k (contents.Feeds from to term after index e) =
    fed_owed w from to term index (feed_verdict w from to term after index e).state (feed_verdict w from to term after index e).says
arrival_owed config w k (contents.Acks from to term index) = refl

delivery_owed : (config : Config) (w : World) (k : ℕ) (o : Option Message) → owed_in (after_delivery config w k o) ≡ owed_in w
delivery_owed config w k None = refl
delivery_owed config w k (Some m) = arrival_owed config (on_message w k (arrives w.clock)) k m.content

up_owed : (w : World) (k : ℕ) (o : Option Why) → owed_in (gives_up w k o) ≡ owed_in w
up_owed w k None = refl
up_owed w k (Some why) = refl

offer_owed : (w : World) (o : Option Content) → owed_in (offers w o) ≡ owed_in w
offer_owed w None = refl
offer_owed w (Some c) = refl

write_owed : (config : Config) (w : World) (c : ℕ) (a : Alias) (o : Option CommandState) → owed_in (writes_in config w c a o) ≡ owed_in w
write_owed config w c a None = refl
write_owed config w c a (Some s) =
    asked_owed w (tablet_of config.tablets a) (writes_at w c a s)
    (λ me. kept_at w.commands c (with_written a (w.tablets a) (write_verdict w a s me).says) (written_debt a (w.tablets a) (write_verdict w a s me).says))

told_owed : (w : World) (c : ℕ) (o : Option Act) → owed_in (with_told w c o) ≡ owed_in w
told_owed w c None = refl
told_owed w c (Some act) = kept_at w.commands c (with_act act) (λ x. refl)

end_owed : (w : World) (c : ℕ) (o : Option CommandState) → open_command w c ≡ o → owed_in (ends_by w c o) ≡ owed_less (owed_in w) o
end_owed w c None is = refl
end_owed w c (Some s) is =
    let paid = ended_at w.commands c in
    let debts : debt_in (open_command w c) ≡ debt s = ap (λ (o : Option CommandState). debt_in o) is in
    omega (arith, paid, debts)

pub owed_on : (config : Config) (w : World) (e : Event) → meets config w e ≡ true → owed_of (change config w e).commands ≡ owed_after w (owed_of w.commands) e
owed_on config w (events.Begin name command) met = pushed w.commands (begun_state w name command)
owed_on config w (events.Take c) met = take_owed w c (open_command w c)
owed_on config w (events.Read c) met = read_owed w c (term_of w c)
owed_on config w (events.Intend c a) met = intend_owed w c a (term_of w c)
owed_on config w (events.Record c a) met = record_owed w c a (term_of w c)
owed_on config w (events.Drain c a) met = drain_owed w c a (term_of w c)
owed_on config w (events.Release c) met = release_owed w c (term_of w c) met
owed_on config w events.Lapse met = refl
owed_on config w (events.Send c a call) met = kept_at w.commands c (with_act (acts.Sent (next_message w))) (λ x. refl)
owed_on config w (events.Deliver k) met = delivery_owed config w k (numbered w.post k)
owed_on config w (events.GiveUp c k) met = up_owed w k (why_given_up w c k)
owed_on config w (events.Offer r) met = offer_owed w (offer_to w r)
owed_on config w (events.Write c a) met = write_owed config w c a (open_command w c)
owed_on config w (events.Tell c) met = told_owed w c (tell_of w c >>= told_act)
owed_on config w (events.Local a) met = asked_owed w (tablet_of config.tablets a) _ (λ me. refl)
owed_on config w (events.Crash a keep) met = refl
owed_on config w (events.Restart a) met = refl
owed_on config w (events.Cut x y) met = refl
owed_on config w (events.Mend x y) met = refl
owed_on config w (events.Lose k) met = refl
owed_on config w (events.Tick ms) met = refl
owed_on config w (events.End c x) met = end_owed w c (open_command w c) refl

-- ---- how much is owed

debt_small : (s : CommandState) (ended released : Bool) → s.ended ≡ ended → s.released ≡ released → debt s ≤ 2
debt_small s true released e r = rw (e) (omega arith)
debt_small s false true e r = rw (e, r) (omega arith)
debt_small s false false e r = rw (e, r) (omega arith)

pub owed_small : (xs : List CommandState) → owed_of xs ≤ 2 * length xs
owed_small [] = omega arith
owed_small (x ∷ xs) = omega (arith, owed_small xs, debt_small x x.ended x.released refl refl)

-- ---- what has its room kept takes one of the places

first_takes : (n : ℕ) (b : Bool) (m : ℕ) → b ≡ true → m + one_if b ≡ n → owed_released n b + 1 ≤ n
first_takes n true m is h = omega (arith, h)
first_takes n false m is h = absurd (false≢true is)

open_debt : (o : Option CommandState) (s : CommandState) → if_open o ≡ Some s → 1 ≤ debt s
open_debt None s is = absurd (let none : None ≡ Some s = is in cc)
open_debt (Some x) s is = by_ended x.ended refl
  where
    of_released : (released : Bool) → x.ended ≡ false → x.released ≡ released → 1 ≤ debt x
    of_released true e r = rw (e, r) (omega arith)
    of_released false e r = rw (e, r) (omega arith)

    by_ended : (ended : Bool) → x.ended ≡ ended → 1 ≤ debt s
    by_ended true e = absurd (let none : None ≡ Some s = rw e at is in cc)
    by_ended false e = (let same : x ≡ s = (let h = rw e at is in cc) in subst (λ (v : CommandState). 1 ≤ debt v) same (of_released x.released e refl))

end_takes : (config : Config) (w : World) (c : ℕ) (x : CommandAnswer) (o : Option CommandState) → open_command w c ≡ o → has_cause config w o x ≡ true
    → owed_less (owed_of w.commands) o + 1 ≤ owed_of w.commands
end_takes config w c x None is cause = absurd (false≢true cause)
end_takes config w c x (Some s) is cause =
    let paid = ended_at w.commands c in
    let debts : debt_in (open_command w c) ≡ debt s = ap (λ (o : Option CommandState). debt_in o) is in
    omega (arith, paid, debts, open_debt (numbered w.commands c) s is)

pub room_kept : (config : Config) (w : World) (e : Event) → meets config w e ≡ true → has_room_kept w e ≡ true
    → owed_after w (owed_of w.commands) e + 1 ≤ owed_of w.commands
room_kept config w (events.Begin name command) met kept = absurd (false≢true kept)
room_kept config w (events.Take c) met kept = absurd (false≢true kept)
room_kept config w (events.Read c) met kept = absurd (false≢true kept)
room_kept config w (events.Intend c a) met kept = absurd (false≢true kept)
room_kept config w (events.Record c a) met kept = absurd (false≢true kept)
room_kept config w (events.Drain c a) met kept = absurd (false≢true kept)
room_kept config w (events.Release c) met kept =
    first_takes (owed_of w.commands) (is_unreleased (open_command w c)) (owed_of (changed_at w.commands c as_released)) kept (released_at w.commands c)
room_kept config w events.Lapse met kept = absurd (false≢true kept)
room_kept config w (events.Send c a call) met kept = absurd (false≢true kept)
room_kept config w (events.Deliver k) met kept = absurd (false≢true kept)
room_kept config w (events.GiveUp c k) met kept = absurd (false≢true kept)
room_kept config w (events.Offer r) met kept = absurd (false≢true kept)
room_kept config w (events.Write c a) met kept = absurd (false≢true kept)
room_kept config w (events.Tell c) met kept = absurd (false≢true kept)
room_kept config w (events.Local a) met kept = absurd (false≢true kept)
room_kept config w (events.Crash a keep) met kept = absurd (false≢true kept)
room_kept config w (events.Restart a) met kept = absurd (false≢true kept)
room_kept config w (events.Cut x y) met kept = absurd (false≢true kept)
room_kept config w (events.Mend x y) met kept = absurd (false≢true kept)
room_kept config w (events.Lose k) met kept = absurd (false≢true kept)
room_kept config w (events.Tick ms) met kept = absurd (false≢true kept)
room_kept config w (events.End c x) met kept = end_takes config w c x (open_command w c) refl met

-- nor does it take any to tell that its condition holds
pub kept_at_once : (w : World) (e : Event) → has_room_kept w e ≡ true → is_told_at_once e ≡ true
kept_at_once w (events.Begin name command) kept = refl
kept_at_once w (events.Take c) kept = refl
kept_at_once w (events.Read c) kept = refl
kept_at_once w (events.Intend c a) kept = refl
kept_at_once w (events.Record c a) kept = refl
kept_at_once w (events.Drain c a) kept = refl
kept_at_once w (events.Release c) kept = refl
kept_at_once w events.Lapse kept = refl
kept_at_once w (events.Send c a call) kept = refl
kept_at_once w (events.Deliver k) kept = refl
kept_at_once w (events.GiveUp c k) kept = refl
kept_at_once w (events.Offer r) kept = refl
kept_at_once w (events.Write c a) kept = refl
kept_at_once w (events.Tell c) kept = refl
kept_at_once w (events.Local a) kept = refl
kept_at_once w (events.Crash a keep) kept = refl
kept_at_once w (events.Restart a) kept = refl
kept_at_once w (events.Cut x y) kept = refl
kept_at_once w (events.Mend x y) kept = refl
kept_at_once w (events.Lose k) kept = refl
kept_at_once w (events.Tick ms) kept = refl
kept_at_once w (events.End c x) kept = kept

-- and no memory
pub kept_takes_none : (w : World) (e : Event) → has_room_kept w e ≡ true → takes_no_memory e ≡ true
kept_takes_none w (events.Begin name command) kept = absurd (false≢true kept)
kept_takes_none w (events.Take c) kept = absurd (false≢true kept)
kept_takes_none w (events.Read c) kept = absurd (false≢true kept)
kept_takes_none w (events.Intend c a) kept = absurd (false≢true kept)
kept_takes_none w (events.Record c a) kept = absurd (false≢true kept)
kept_takes_none w (events.Drain c a) kept = absurd (false≢true kept)
kept_takes_none w (events.Release c) kept = refl
kept_takes_none w events.Lapse kept = absurd (false≢true kept)
kept_takes_none w (events.Send c a call) kept = absurd (false≢true kept)
kept_takes_none w (events.Deliver k) kept = absurd (false≢true kept)
kept_takes_none w (events.GiveUp c k) kept = absurd (false≢true kept)
kept_takes_none w (events.Offer r) kept = absurd (false≢true kept)
kept_takes_none w (events.Write c a) kept = absurd (false≢true kept)
kept_takes_none w (events.Tell c) kept = absurd (false≢true kept)
kept_takes_none w (events.Local a) kept = absurd (false≢true kept)
kept_takes_none w (events.Crash a keep) kept = absurd (false≢true kept)
kept_takes_none w (events.Restart a) kept = absurd (false≢true kept)
kept_takes_none w (events.Cut x y) kept = absurd (false≢true kept)
kept_takes_none w (events.Mend x y) kept = absurd (false≢true kept)
kept_takes_none w (events.Lose k) kept = absurd (false≢true kept)
kept_takes_none w (events.Tick ms) kept = absurd (false≢true kept)
kept_takes_none w (events.End c x) kept = refl

-- ---- what is owed after an event

owed_less_most : (n : ℕ) (o : Option CommandState) → owed_less n o ≤ n
owed_less_most n None = omega arith
owed_less_most n (Some s) = omega arith

owed_released_most : (n : ℕ) (b : Bool) → owed_released n b ≤ n
owed_released_most n true = omega arith
owed_released_most n false = omega arith

pub owed_most : (w : World) (n : ℕ) (e : Event) → owed_after w n e ≤ n + 2
owed_most w n (events.Begin name command) = omega arith
owed_most w n (events.Take c) = omega arith
owed_most w n (events.Read c) = omega arith
owed_most w n (events.Intend c a) = omega arith
owed_most w n (events.Record c a) = omega arith
owed_most w n (events.Drain c a) = omega arith
owed_most w n (events.Release c) = omega (arith, owed_released_most n (is_unreleased (open_command w c)))
owed_most w n events.Lapse = omega arith
owed_most w n (events.Send c a call) = omega arith
owed_most w n (events.Deliver k) = omega arith
owed_most w n (events.GiveUp c k) = omega arith
owed_most w n (events.Offer r) = omega arith
owed_most w n (events.Write c a) = omega arith
owed_most w n (events.Tell c) = omega arith
owed_most w n (events.Local a) = omega arith
owed_most w n (events.Crash a keep) = omega arith
owed_most w n (events.Restart a) = omega arith
owed_most w n (events.Cut x y) = omega arith
owed_most w n (events.Mend x y) = omega arith
owed_most w n (events.Lose k) = omega arith
owed_most w n (events.Tick ms) = omega arith
owed_most w n (events.End c x) = omega (arith, owed_less_most n (open_command w c))

-- no more than is so few, where so few commands have begun
pub owed_within : (w : World) (xs : List CommandState) (n m : ℕ) (e : Event) → n ≡ owed_of xs → length xs ≤ 1000000 → m ≡ owed_after w n e → m ≤ 2000002
owed_within w xs n m e is few after = omega (arith, is, few, after, owed_small xs, owed_most w n e)

pub owed_becomes : (old new : Data) (e : Event) (reply : Reply) (n m : ℕ) → meets (config_in old) (seen old) e ≡ true → Makes old new e reply → n ≡ owed_of old.commands
    → m ≡ owed_after (seen old) n e → m ≡ owed_of new.commands
owed_becomes old new e reply n m met h is after =
    after ∙ ap (λ (k : ℕ). owed_after (seen old) k e) is ∙ sym (owed_on (config_in old) (seen old) e met) ∙ sym (ap (λ (w : World). owed_of w.commands) h.world)

pub room_of_kept : (old : Data) (e : Event) (n m len capacity : ℕ) → meets (config_in old) (seen old) e ≡ true → has_room_kept (seen old) e ≡ true
    → n ≡ owed_of old.commands → m ≡ owed_after (seen old) n e → len + n ≤ capacity → len + m + 1 ≤ capacity
room_of_kept old e n m len capacity met kept is after room =
    let same : m ≡ owed_after (seen old) (owed_of old.commands) e = after ∙ ap (λ (k : ℕ). owed_after (seen old) k e) is in
    omega (arith, same, is, room, room_kept (config_in old) (seen old) e met kept)

-- what is past it does not look at
pub same_room : (d : Data) (ss : List Step) (e : Event) → has_room_kept (world_seen d ss) e ≡ has_room_kept (seen d) e
same_room d ss (events.Begin name command) = refl
same_room d ss (events.Take c) = refl
same_room d ss (events.Read c) = refl
same_room d ss (events.Intend c a) = refl
same_room d ss (events.Record c a) = refl
same_room d ss (events.Drain c a) = refl
same_room d ss (events.Release c) = refl
same_room d ss events.Lapse = refl
same_room d ss (events.Send c a call) = refl
same_room d ss (events.Deliver k) = refl
same_room d ss (events.GiveUp c k) = refl
same_room d ss (events.Offer r) = refl
same_room d ss (events.Write c a) = refl
same_room d ss (events.Tell c) = refl
same_room d ss (events.Local a) = refl
same_room d ss (events.Crash a keep) = refl
same_room d ss (events.Restart a) = refl
same_room d ss (events.Cut x y) = refl
same_room d ss (events.Mend x y) = refl
same_room d ss (events.Lose k) = refl
same_room d ss (events.Tick ms) = refl
same_room d ss (events.End c x) = refl
