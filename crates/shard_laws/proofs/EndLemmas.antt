-- What the cause of an answer says of the command, and which steps did what it rests on.
use Rattle.std.proofs.Common.{◌≡◌, ◌<◌, ℕ, zero, suc, Bool, true, false, not, ◌&&◌, ◌||◌, ◌==◌, refl, ap, sym, subst, ◌∙◌, arith, cond, List, [], ◌∷◌, take, Option, Some, None, Result, Ok, Err, is_none, unwrap_or, map}
use Rattle.std.proofs.lemmas.Bool.{false≢true}
use Rattle.std.proofs.lemmas.Bool.Decides.{nat_tests}
use Rattle.std.proofs.lemmas.Slice.Eq.{bytes_eq-Decides}
use Rattle.std.specs.List.{slice_get, list_any, cons_option}
use Rattle.shard_names.specs.declared.alias.Alias.{Alias}
use Rattle.shard_names.specs.declared.tablet.Tablet.{Tablet}
use Rattle.shard_names.specs.Tablets.{alias_eq, tablet_of}
use Rattle.shard_names.specs.declared.shard_name.ShardName.{ShardName}
use Rattle.std.specs.Str.{bytes_eq}
use Rattle.topo_lock.specs.declared.intent.Record.{Record}
use Rattle.shard_names.proofs.TabletLemmas.{both_left, both_right, alias_eq_is}
use Rattle.gtid_sets.specs.declared.gtid.Gtid.{Gtid}
use Rattle.gtid_sets.specs.Position.{Position}
use Rattle.topo_lock.specs.Topology.{Topology, is_held_in, answer_take, answer_intend, answer_record, answer_drain}
use Rattle.topo_lock.specs.declared.lock.LockTaken.{LockTaken}
use Rattle.topo_lock.specs.declared.lock.TopoFault.{TopoFault}
use Rattle.topo_lock.specs.declared.lock.TopoFault.TheVariants as faults
use Rattle.shard_calls.specs.declared.call.Call.{Call}
use Rattle.shard_calls.specs.declared.command.Command.{Command}
use Rattle.shard_calls.specs.declared.command.Command.TheVariants as commands
use Rattle.shard_calls.specs.declared.ending.CommandAnswer.{CommandAnswer}
use Rattle.shard_calls.specs.declared.ending.CommandAnswer.TheVariants as ends
use Rattle.shard_calls.specs.declared.ending.NotJoined.{NotJoined}
use Rattle.shard_calls.specs.declared.event.Event.{Event}
use Rattle.shard_calls.specs.declared.event.Event.TheVariants as events
use Rattle.shard_calls.specs.declared.event.Reply.{Reply}
use Rattle.shard_calls.specs.declared.event.Reply.TheVariants as replies
use Rattle.shard_calls.specs.declared.event.Seen.{Seen}
use Rattle.shard_calls.specs.declared.event.Step.{Step}
use Rattle.shard_calls.specs.declared.outcome.Written.{Written}
use Rattle.shard_calls.specs.declared.outcome.Written.TheVariants as writtens
use Rattle.shard_calls.specs.declared.stand.Standing.{Standing}
use Rattle.shard_calls.specs.declared.stand.Standing.TheVariants as standings
use Rattle.shard_calls.specs.declared.state.Act.{Act}
use Rattle.shard_calls.specs.declared.state.Act.TheVariants as acts
use Rattle.shard_calls.specs.declared.state.CommandState.{CommandState}
use Rattle.shard_calls.specs.Stands.{is_primary_of, standing_of}
use Rattle.shard_calls.specs.declared.span.Deed.{Deed}
use Rattle.shard_calls.specs.declared.span.Kind.TheVariants as kinds
use Rattle.shard_calls.specs.declared.ending.ShownType.{ShownType}
use Rattle.shard_calls.specs.declared.ending.ShownType.TheVariants as shown_types
use Rattle.shard_calls.specs.declared.ending.TabletRow.{TabletRow}
use Rattle.shard_calls.specs.Spans.{span_in}
use Rattle.shard_calls.specs.World.{Config, World, next_message, open_command, term_of}
use Rattle.shard_calls.specs.Causes.{is_some_of, is_promoted_answer, is_told_answer, any_said_in, leaves_out, is_promoted, row_of, wrote_this, is_told_act, says_not_primary, showed, has_command_cause, has_cause}
use Rattle.shard_calls.specs.Same.{standing_eq, shard_name_eq, record_eq, record_or_none_eq, shown_type_eq, rows_eq}
use Rattle.shard_calls.specs.Locks.{taken_reply, by_term, seen_of, read_reply, topo_reply}
use Rattle.shard_calls.specs.Deliveries.{if_declared}
use Rattle.shard_calls.specs.Writes.{written_reply, write_reply, write_verdict, tell_of}
use Rattle.shard_calls.specs.Table.{answer}
use Rattle.shard_calls.specs.Answered.{taken_by_reply, read_by_reply, intended_by_reply, recorded_by_reply, drained_by_reply, written_by_reply, told_by_reply, act_of, acts_of}

-- ---- tests

same_number : (m n : ℕ) → (m == n) ≡ true → m ≡ n
same_number m n h = grind (arith, nat_tests)

is_nothing : {A : Type 0} (o : Option A) → is_none o ≡ true → o ≡ None
is_nothing None h = refl
is_nothing (Some x) h = absurd (false≢true h)

pub standing_is : (x y : Standing) → standing_eq x y ≡ true → x ≡ y
standing_is standings.Down standings.Down h = refl
standing_is standings.Down standings.Stopped h = absurd (false≢true h)
standing_is standings.Down (standings.Primary u) h = absurd (false≢true h)
standing_is standings.Down (standings.Demoted u other) h = absurd (false≢true h)
standing_is standings.Down (standings.Replica b u) h = absurd (false≢true h)
standing_is standings.Down (standings.Feeder u) h = absurd (false≢true h)
standing_is standings.Stopped standings.Down h = absurd (false≢true h)
standing_is standings.Stopped standings.Stopped h = refl
standing_is standings.Stopped (standings.Primary u) h = absurd (false≢true h)
standing_is standings.Stopped (standings.Demoted u other) h = absurd (false≢true h)
standing_is standings.Stopped (standings.Replica b u) h = absurd (false≢true h)
standing_is standings.Stopped (standings.Feeder u) h = absurd (false≢true h)
standing_is (standings.Primary t) standings.Down h = absurd (false≢true h)
standing_is (standings.Primary t) standings.Stopped h = absurd (false≢true h)
standing_is (standings.Primary t) (standings.Primary u) h = ap (λ (n : ℕ). standings.Primary n) (same_number t u h)
standing_is (standings.Primary t) (standings.Demoted u other) h = absurd (false≢true h)
standing_is (standings.Primary t) (standings.Replica b u) h = absurd (false≢true h)
standing_is (standings.Primary t) (standings.Feeder u) h = absurd (false≢true h)
standing_is (standings.Demoted t by) standings.Down h = absurd (false≢true h)
standing_is (standings.Demoted t by) standings.Stopped h = absurd (false≢true h)
standing_is (standings.Demoted t by) (standings.Primary u) h = absurd (false≢true h)
standing_is (standings.Demoted t by) (standings.Demoted u other) h =
    ap (λ (n : ℕ). standings.Demoted n by) (same_number t u (both_left (t == u) (by == other) h)) ∙ ap (λ (n : ℕ). standings.Demoted u n) (same_number by other (both_right (t == u) (by == other) h))
standing_is (standings.Demoted t by) (standings.Replica b u) h = absurd (false≢true h)
standing_is (standings.Demoted t by) (standings.Feeder u) h = absurd (false≢true h)
standing_is (standings.Replica a t) standings.Down h = absurd (false≢true h)
standing_is (standings.Replica a t) standings.Stopped h = absurd (false≢true h)
standing_is (standings.Replica a t) (standings.Primary u) h = absurd (false≢true h)
standing_is (standings.Replica a t) (standings.Demoted u other) h = absurd (false≢true h)
standing_is (standings.Replica a t) (standings.Replica b u) h =
    ap (λ (x : Alias). standings.Replica x t) (alias_eq_is a b (both_left (alias_eq a b) (t == u) h)) ∙ ap (λ (n : ℕ). standings.Replica b n) (same_number t u (both_right (alias_eq a b) (t == u) h))
standing_is (standings.Replica a t) (standings.Feeder u) h = absurd (false≢true h)
standing_is (standings.Feeder t) standings.Down h = absurd (false≢true h)
standing_is (standings.Feeder t) standings.Stopped h = absurd (false≢true h)
standing_is (standings.Feeder t) (standings.Primary u) h = absurd (false≢true h)
standing_is (standings.Feeder t) (standings.Demoted u other) h = absurd (false≢true h)
standing_is (standings.Feeder t) (standings.Replica b u) h = absurd (false≢true h)
standing_is (standings.Feeder t) (standings.Feeder u) h = ap (λ (n : ℕ). standings.Feeder n) (same_number t u h)

-- ---- causes

-- the open command that ends, and the cause
pub record Ending (config : Config) (w : World) (o : Option CommandState) (x : CommandAnswer) : Type 0 where
  pub state : CommandState
  pub is_open : o ≡ Some state
  pub cause : has_command_cause config w state state.command x ≡ true

pub ending : (config : Config) (w : World) (o : Option CommandState) (x : CommandAnswer) → has_cause config w o x ≡ true → Ending config w o x
ending config w None x h = absurd (false≢true h)
ending config w (Some s) x h = record { state = s; is_open = refl; cause = h }

pub committed_cause : (config : Config) (w : World) (s : CommandState) (command : Command) (g : Gtid) (a : Alias) (t : ℕ)
    → has_command_cause config w s command (ends.Committed g a t) ≡ true → (wrote_this s.wrote g a t && list_any is_told_act s.acts) ≡ true
committed_cause config w s (commands.Planned shard given avoid expected timeout allow_cross_cell) g a t h = absurd (false≢true h)
committed_cause config w s (commands.Emergency shard given ignored expected timeout prevent_cross_cell) g a t h = absurd (false≢true h)
committed_cause config w s (commands.External b) g a t h = absurd (false≢true h)
committed_cause config w s commands.Vtorc g a t h = absurd (false≢true h)
committed_cause config w s (commands.GetShard shard) g a t h = absurd (false≢true h)
committed_cause config w s (commands.GetTablets shard) g a t h = absurd (false≢true h)
committed_cause config w s (commands.Write to) g a t h = h
committed_cause config w s (commands.Show b) g a t h = absurd (false≢true h)

pub unknown_cause : (config : Config) (w : World) (s : CommandState) (command : Command) (g : Gtid) (a : Alias) (t : ℕ)
    → has_command_cause config w s command (ends.Unknown g a t) ≡ true
    → (wrote_this s.wrote g a t && not (list_any is_told_act s.acts) && not (is_primary_of (w.tablets a).stand t)) ≡ true
unknown_cause config w s (commands.Planned shard given avoid expected timeout allow_cross_cell) g a t h = absurd (false≢true h)
unknown_cause config w s (commands.Emergency shard given ignored expected timeout prevent_cross_cell) g a t h = absurd (false≢true h)
unknown_cause config w s (commands.External b) g a t h = absurd (false≢true h)
unknown_cause config w s commands.Vtorc g a t h = absurd (false≢true h)
unknown_cause config w s (commands.GetShard shard) g a t h = absurd (false≢true h)
unknown_cause config w s (commands.GetTablets shard) g a t h = absurd (false≢true h)
unknown_cause config w s (commands.Write to) g a t h = h
unknown_cause config w s (commands.Show b) g a t h = absurd (false≢true h)

pub not_primary_cause : (config : Config) (w : World) (s : CommandState) (command : Command) (a : Alias) (at : Standing)
    → has_command_cause config w s command (ends.NotPrimary a at) ≡ true → list_any (says_not_primary a at) s.acts ≡ true
not_primary_cause config w s (commands.Planned shard given avoid expected timeout allow_cross_cell) a at h = absurd (false≢true h)
not_primary_cause config w s (commands.Emergency shard given ignored expected timeout prevent_cross_cell) a at h = absurd (false≢true h)
not_primary_cause config w s (commands.External b) a at h = absurd (false≢true h)
not_primary_cause config w s commands.Vtorc a at h = absurd (false≢true h)
not_primary_cause config w s (commands.GetShard shard) a at h = absurd (false≢true h)
not_primary_cause config w s (commands.GetTablets shard) a at h = absurd (false≢true h)
not_primary_cause config w s (commands.Write to) a at h = h
not_primary_cause config w s (commands.Show b) a at h = absurd (false≢true h)

pub no_primary_cause : (config : Config) (w : World) (s : CommandState) (command : Command) → has_command_cause config w s command ends.NoPrimaryRecorded ≡ true
    → (command ≡ commands.Write None) × (s.opening.seen.recorded ≡ None)
no_primary_cause config w s (commands.Planned shard given avoid expected timeout allow_cross_cell) h = absurd (false≢true h)
no_primary_cause config w s (commands.Emergency shard given ignored expected timeout prevent_cross_cell) h = absurd (false≢true h)
no_primary_cause config w s (commands.External b) h = absurd (false≢true h)
no_primary_cause config w s commands.Vtorc h = absurd (false≢true h)
no_primary_cause config w s (commands.GetShard shard) h = absurd (false≢true h)
no_primary_cause config w s (commands.GetTablets shard) h = absurd (false≢true h)
no_primary_cause config w s (commands.Write to) h = (
  ap (λ (o : Option Alias). commands.Write o) (is_nothing to (both_left (is_none to) (is_none s.opening.seen.recorded) h)),
  is_nothing s.opening.seen.recorded (both_right (is_none to) (is_none s.opening.seen.recorded) h),
)
no_primary_cause config w s (commands.Show b) h = absurd (false≢true h)

pub shown_cause : (config : Config) (w : World) (s : CommandState) (command : Command) (a : Alias) (at : Standing) (p : Position)
    → has_command_cause config w s command (ends.Shown a at p) ≡ true → (command ≡ commands.Show a) × (showed s.opening.shown at p ≡ true)
shown_cause config w s (commands.Planned shard given avoid expected timeout allow_cross_cell) a at p h = absurd (false≢true h)
shown_cause config w s (commands.Emergency shard given ignored expected timeout prevent_cross_cell) a at p h = absurd (false≢true h)
shown_cause config w s (commands.External b) a at p h = absurd (false≢true h)
shown_cause config w s commands.Vtorc a at p h = absurd (false≢true h)
shown_cause config w s (commands.GetShard shard) a at p h = absurd (false≢true h)
shown_cause config w s (commands.GetTablets shard) a at p h = absurd (false≢true h)
shown_cause config w s (commands.Write to) a at p h = absurd (false≢true h)
shown_cause config w s (commands.Show b) a at p h =
    (ap (λ (x : Alias). commands.Show x) (alias_eq_is b a (both_left (alias_eq b a) (showed s.opening.shown at p) h)), both_right (alias_eq b a) (showed s.opening.shown at p) h)

bytes_are : (x y : List ℕ) → bytes_eq x y ≡ true → x ≡ y
bytes_are x y h = (bytes_eq-Decides x y).0 h

name_is : (m n : ShardName) → shard_name_eq m n ≡ true → m ≡ n
name_is m n h =
    let one : m.keyspace ≡ n.keyspace = bytes_are m.keyspace n.keyspace (both_left (bytes_eq m.keyspace n.keyspace) (bytes_eq m.shard n.shard) h) in
    let two : m.shard ≡ n.shard = bytes_are m.shard n.shard (both_right (bytes_eq m.keyspace n.keyspace) (bytes_eq m.shard n.shard) h) in
    ap (λ (x : List ℕ). let y : ShardName = record { keyspace = x; shard = m.shard } in y) one ∙ ap (λ (x : List ℕ). let y : ShardName = record { keyspace = n.keyspace; shard = x } in y) two

record_is : (x y : Record) → record_eq x y ≡ true → x ≡ y
record_is x y h =
    let front : (alias_eq x.alias y.alias && (x.term == y.term)) ≡ true = both_left (alias_eq x.alias y.alias && (x.term == y.term)) (x.moment == y.moment) h in
    let who : x.alias ≡ y.alias = alias_eq_is x.alias y.alias (both_left (alias_eq x.alias y.alias) (x.term == y.term) front) in
    let term : x.term ≡ y.term = same_number x.term y.term (both_right (alias_eq x.alias y.alias) (x.term == y.term) front) in
    let moment : x.moment ≡ y.moment = same_number x.moment y.moment (both_right (alias_eq x.alias y.alias && (x.term == y.term)) (x.moment == y.moment) h) in
    ap (λ (a : Alias). let z : Record = record { alias = a; term = x.term; moment = x.moment } in z) who
    ∙ ap (λ (t : ℕ). let z : Record = record { alias = y.alias; term = t; moment = x.moment } in z) term
    ∙ ap (λ (m : ℕ). let z : Record = record { alias = y.alias; term = y.term; moment = m } in z) moment

recorded_is : (x y : Option Record) → record_or_none_eq x y ≡ true → x ≡ y
recorded_is None None h = refl
recorded_is None (Some y) h = absurd (false≢true h)
recorded_is (Some x) None h = absurd (false≢true h)
recorded_is (Some x) (Some y) h = ap (λ (r : Record). Some r) (record_is x y h)

pub shard_cause : (config : Config) (w : World) (s : CommandState) (command : Command) (shard : ShardName) (recorded : Option Record)
    → has_command_cause config w s command (ends.Shard shard recorded) ≡ true → (command ≡ commands.GetShard shard) × (s.opening.seen.recorded ≡ recorded)
shard_cause config w s (commands.Planned given new_primary avoid expected timeout allow_cross_cell) shard recorded h = absurd (false≢true h)
shard_cause config w s (commands.Emergency given new_primary ignored expected timeout prevent_cross_cell) shard recorded h = absurd (false≢true h)
shard_cause config w s (commands.External b) shard recorded h = absurd (false≢true h)
shard_cause config w s commands.Vtorc shard recorded h = absurd (false≢true h)
shard_cause config w s (commands.Write to) shard recorded h = absurd (false≢true h)
shard_cause config w s (commands.Show b) shard recorded h = absurd (false≢true h)
shard_cause config w s (commands.GetShard given) shard recorded h =
    let names : Bool = shard_name_eq shard given in
    let records : Bool = record_or_none_eq recorded s.opening.seen.recorded in
    (ap (λ (x : ShardName). commands.GetShard x) (sym (name_is shard given (both_left names records h))), sym (recorded_is recorded s.opening.seen.recorded (both_right names records h)))
shard_cause config w s (commands.GetTablets given) shard recorded h = absurd (false≢true h)

type_is : (x y : ShownType) → shown_type_eq x y ≡ true → x ≡ y
type_is shown_types.Primary shown_types.Primary h = refl
type_is shown_types.Primary shown_types.Drained h = absurd (false≢true h)
type_is shown_types.Primary shown_types.Replica h = absurd (false≢true h)
type_is shown_types.Primary shown_types.Rdonly h = absurd (false≢true h)
type_is shown_types.Primary shown_types.Spare h = absurd (false≢true h)
type_is shown_types.Drained shown_types.Primary h = absurd (false≢true h)
type_is shown_types.Drained shown_types.Drained h = refl
type_is shown_types.Drained shown_types.Replica h = absurd (false≢true h)
type_is shown_types.Drained shown_types.Rdonly h = absurd (false≢true h)
type_is shown_types.Drained shown_types.Spare h = absurd (false≢true h)
type_is shown_types.Replica shown_types.Primary h = absurd (false≢true h)
type_is shown_types.Replica shown_types.Drained h = absurd (false≢true h)
type_is shown_types.Replica shown_types.Replica h = refl
type_is shown_types.Replica shown_types.Rdonly h = absurd (false≢true h)
type_is shown_types.Replica shown_types.Spare h = absurd (false≢true h)
type_is shown_types.Rdonly shown_types.Primary h = absurd (false≢true h)
type_is shown_types.Rdonly shown_types.Drained h = absurd (false≢true h)
type_is shown_types.Rdonly shown_types.Replica h = absurd (false≢true h)
type_is shown_types.Rdonly shown_types.Rdonly h = refl
type_is shown_types.Rdonly shown_types.Spare h = absurd (false≢true h)
type_is shown_types.Spare shown_types.Primary h = absurd (false≢true h)
type_is shown_types.Spare shown_types.Drained h = absurd (false≢true h)
type_is shown_types.Spare shown_types.Replica h = absurd (false≢true h)
type_is shown_types.Spare shown_types.Rdonly h = absurd (false≢true h)
type_is shown_types.Spare shown_types.Spare h = refl

row_is : (x y : TabletRow) → x.alias ≡ y.alias → x.server ≡ y.server → x.kind ≡ y.kind → x ≡ y
row_is x y who server kind =
    ap (λ (a : Alias). let z : TabletRow = record { alias = a; server = x.server; kind = x.kind } in z) who
    ∙ ap (λ (l : List ℕ). let z : TabletRow = record { alias = y.alias; server = l; kind = x.kind } in z) server
    ∙ ap (λ (k : ShownType). let z : TabletRow = record { alias = y.alias; server = y.server; kind = k } in z) kind

rows_are : (xs ys : List TabletRow) → rows_eq xs ys ≡ true → xs ≡ ys
rows_are [] [] h = refl
rows_are [] (y ∷ ys) h = absurd (false≢true h)
rows_are (x ∷ xs) [] h = absurd (false≢true h)
rows_are (x ∷ xs) (y ∷ ys) h =
    let who : Bool = alias_eq x.alias y.alias in
    let server : Bool = bytes_eq x.server y.server in
    let kind : Bool = shown_type_eq x.kind y.kind in
    let three : (who && server && kind) ≡ true = both_left (who && server && kind) (rows_eq xs ys) h in
    let two : (who && server) ≡ true = both_left (who && server) kind three in
    let first : x ≡ y =
    row_is x y (alias_eq_is x.alias y.alias (both_left who server two)) (bytes_are x.server y.server (both_right who server two))
    (type_is x.kind y.kind (both_right (who && server) kind three)) in
    ap (λ (r : TabletRow). r ∷ xs) first ∙ ap (λ (l : List TabletRow). y ∷ l) (rows_are xs ys (both_right (who && server && kind) (rows_eq xs ys) h))

pub tablets_cause : (config : Config) (w : World) (s : CommandState) (command : Command) (rows : List TabletRow)
    → has_command_cause config w s command (ends.Tablets rows) ≡ true
    → (shard : ShardName) × (command ≡ commands.GetTablets shard) × (rows ≡ map (row_of s.opening.seen) config.tablets)
tablets_cause config w s (commands.Planned given new_primary avoid expected timeout allow_cross_cell) rows h = absurd (false≢true h)
tablets_cause config w s (commands.Emergency given new_primary ignored expected timeout prevent_cross_cell) rows h = absurd (false≢true h)
tablets_cause config w s (commands.External b) rows h = absurd (false≢true h)
tablets_cause config w s commands.Vtorc rows h = absurd (false≢true h)
tablets_cause config w s (commands.Write to) rows h = absurd (false≢true h)
tablets_cause config w s (commands.Show b) rows h = absurd (false≢true h)
tablets_cause config w s (commands.GetShard given) rows h = absurd (false≢true h)
tablets_cause config w s (commands.GetTablets given) rows h = (given, refl, rows_are rows (map (row_of s.opening.seen) config.tablets) h)

-- its WaitTold of the term was answered so
pub told_so : (s : CommandState) (span : List Deed) (a : Alias) (t : ℕ) (left : List NotJoined) → is_promoted s span a t left ≡ true
    → any_said_in t kinds.WaitTold a is_told_answer span ≡ true
told_so s span a t left h =
    let first : Bool = is_some_of s.term t && any_said_in t kinds.Promote a is_promoted_answer span in
    let told : Bool = any_said_in t kinds.WaitTold a is_told_answer span in
    both_right first told (both_left (first && told) (leaves_out a left span) h)

pub told_cause : (config : Config) (w : World) (s : CommandState) (command : Command) (a : Alias) (t : ℕ) (left : List NotJoined)
    → has_command_cause config w s command (ends.Promoted a t left) ≡ true → any_said_in t kinds.WaitTold a is_told_answer (span_in w.post s) ≡ true
told_cause config w s (commands.Planned shard given avoid expected timeout allow_cross_cell) a t left h = told_so s (span_in w.post s) a t left h
told_cause config w s (commands.Emergency shard given ignored expected timeout prevent_cross_cell) a t left h = told_so s (span_in w.post s) a t left h
told_cause config w s (commands.External b) a t left h = absurd (false≢true h)
told_cause config w s commands.Vtorc a t left h = absurd (false≢true h)
told_cause config w s (commands.GetShard shard) a t left h = absurd (false≢true h)
told_cause config w s (commands.GetTablets shard) a t left h = absurd (false≢true h)
told_cause config w s (commands.Write to) a t left h = absurd (false≢true h)
told_cause config w s (commands.Show b) a t left h = absurd (false≢true h)

-- ---- acts on which answers rest

abbrev pub is_shown : Act → Bool
is_shown (acts.Took reply) = false
is_shown (acts.Read (Ok seen)) = true
is_shown (acts.Read (Err t)) = false
is_shown (acts.Intended a reply) = false
is_shown (acts.Recorded a (Ok x)) = true
is_shown (acts.Recorded a (Err t)) = false
is_shown (acts.Drained a (Ok x)) = true
is_shown (acts.Drained a (Err t)) = false
is_shown (acts.Sent k) = true
is_shown (acts.Wrote a reply) = true
is_shown (acts.Told committed) = true

-- the step that did it
pub data DoneBy (c : ℕ) : Event → Reply → Act → Type 0 where
  ByRead : (seen : Seen) → DoneBy c (events.Read c) (replies.Read seen) (acts.Read (Ok seen))
  ByRecord : (a : Alias) → DoneBy c (events.Record c a) replies.Ok (acts.Recorded a (Ok tt))
  ByDrain : (a : Alias) → DoneBy c (events.Drain c a) replies.Ok (acts.Drained a (Ok tt))
  BySend : (a : Alias) (call : Call) (k : ℕ) → DoneBy c (events.Send c a call) (replies.Message k) (acts.Sent k)
  ByTold : DoneBy c (events.Tell c) replies.Told (acts.Told true)
  ByGone : DoneBy c (events.Tell c) replies.Gone (acts.Told false)
  ByEntry : (a : Alias) (g : Gtid) → DoneBy c (events.Write c a) (replies.Wrote g) (acts.Wrote a (Ok g))
  ByRefusal : (a : Alias) (at : Standing) → DoneBy c (events.Write c a) (replies.NotPrimary at) (acts.Wrote a (Err at))

-- no act on which an answer rests
abbrev Quiet : Option Act → Type 0
Quiet o = (act : Act) → o ≡ Some act → is_shown act ≡ true → ⊥

quiet_none : Quiet None
quiet_none act is h = let none : None ≡ Some act = is in cc

quiet_some : (x : Act) → is_shown x ≡ false → Quiet (Some x)
quiet_some x other act is h = let same : x ≡ act = (let some : Some x ≡ Some act = is in cc) in false≢true (sym other ∙ ap is_shown same ∙ h)

quiet_own : (b : Bool) (o : Option Act) → Quiet o → Quiet (cond b o None)
quiet_own true o h = h
quiet_own false o h = quiet_none

taken_quiet : (r : Result ℕ LockTaken) → Quiet (taken_by_reply (taken_reply r))
taken_quiet (Ok t) = quiet_some _ refl
taken_quiet (Err held) = quiet_some _ refl

intended_quiet : (a : Alias) (r : Result (Unit {0}) TopoFault) → Quiet (intended_by_reply a (topo_reply r))
intended_quiet a (Ok u) = quiet_some _ refl
intended_quiet a (Err (faults.LockLost current)) = quiet_some _ refl
intended_quiet a (Err (faults.IntentStands b)) = quiet_none

intend_quiet : (a : Alias) (f : ℕ → Result (Unit {0}) TopoFault) (o : Option ℕ) → Quiet (intended_by_reply a (by_term o replies.Ok (λ t. topo_reply (f t))))
intend_quiet a f None = ok_quiet
  where
    ok_quiet : Quiet (intended_by_reply a replies.Ok)
    ok_quiet = quiet_some _ refl
intend_quiet a f (Some t) = intended_quiet a (f t)

-- an act of the command's own
own_act : (P : ℕ → Act → Type 0) (d c : ℕ) (o : Option Act) (act : Act) → cond (d == c) o None ≡ Some act → (o ≡ Some act → P d act) → P c act
own_act P d c o act is one = of_test (d == c) refl is
  where
    of_test : (b : Bool) → (d == c) ≡ b → cond b o None ≡ Some act → P c act
    of_test true e h = subst (λ (n : ℕ). P n act) (same_number d c e) (one h)
    of_test false e h = absurd (let none : None ≡ Some act = h in cc)

read_done : (c : ℕ) (topo : Topology) (act : Act) (o : Option ℕ) → read_by_reply (by_term o replies.Ok (read_reply topo)) ≡ Some act → is_shown act ≡ true
    → DoneBy c (events.Read c) (by_term o replies.Ok (read_reply topo)) act
read_done c topo act None is h = absurd (let none : None ≡ Some act = is in cc)
read_done c topo act (Some t) is h = of_test (is_held_in topo t) is
  where
    of_test : (b : Bool) → read_by_reply (cond b (replies.Read (seen_of topo)) (replies.Lost topo.term)) ≡ Some act
        → DoneBy c (events.Read c) (cond b (replies.Read (seen_of topo)) (replies.Lost topo.term)) act
    of_test true k =
        let same : acts.Read (Ok (seen_of topo)) ≡ act = (let some : Some (acts.Read (Ok (seen_of topo))) ≡ Some act = k in cc) in
        subst (λ (x : Act). DoneBy c (events.Read c) (replies.Read (seen_of topo)) x) same (ByRead (seen_of topo))
    of_test false k = absurd (quiet_some (acts.Read (Err topo.term)) refl act k h)

recorded_done : (c : ℕ) (a : Alias) (act : Act) (r : Result (Unit {0}) TopoFault) → recorded_by_reply a (topo_reply r) ≡ Some act → is_shown act ≡ true
    → DoneBy c (events.Record c a) (topo_reply r) act
recorded_done c a act (Ok u) is h =
    let same : acts.Recorded a (Ok tt) ≡ act = (let some : Some (acts.Recorded a (Ok tt)) ≡ Some act = is in cc) in
    subst (λ (x : Act). DoneBy c (events.Record c a) replies.Ok x) same (ByRecord a)
recorded_done c a act (Err (faults.LockLost current)) is h = absurd (quiet_some (acts.Recorded a (Err current)) refl act is h)
recorded_done c a act (Err (faults.IntentStands b)) is h = absurd (quiet_none act is h)

record_done : (c : ℕ) (a : Alias) (act : Act) (f : ℕ → Result (Unit {0}) TopoFault) (o : Option ℕ) → recorded_by_reply a (by_term o replies.Ok (λ t. topo_reply (f t))) ≡ Some act
    → is_shown act ≡ true → DoneBy c (events.Record c a) (by_term o replies.Ok (λ t. topo_reply (f t))) act
record_done c a act f None is h = recorded_done c a act (Ok tt) is h
record_done c a act f (Some t) is h = recorded_done c a act (f t) is h

drained_done : (c : ℕ) (a : Alias) (act : Act) (r : Result (Unit {0}) TopoFault) → drained_by_reply a (topo_reply r) ≡ Some act → is_shown act ≡ true
    → DoneBy c (events.Drain c a) (topo_reply r) act
drained_done c a act (Ok u) is h =
    let same : acts.Drained a (Ok tt) ≡ act = (let some : Some (acts.Drained a (Ok tt)) ≡ Some act = is in cc) in
    subst (λ (x : Act). DoneBy c (events.Drain c a) replies.Ok x) same (ByDrain a)
drained_done c a act (Err (faults.LockLost current)) is h = absurd (quiet_some (acts.Drained a (Err current)) refl act is h)
drained_done c a act (Err (faults.IntentStands b)) is h = absurd (quiet_none act is h)

drain_done : (c : ℕ) (a : Alias) (act : Act) (f : ℕ → Result (Unit {0}) TopoFault) (o : Option ℕ) → drained_by_reply a (by_term o replies.Ok (λ t. topo_reply (f t))) ≡ Some act
    → is_shown act ≡ true → DoneBy c (events.Drain c a) (by_term o replies.Ok (λ t. topo_reply (f t))) act
drain_done c a act f None is h = drained_done c a act (Ok tt) is h
drain_done c a act f (Some t) is h = drained_done c a act (f t) is h

sent_done : (c : ℕ) (a : Alias) (call : Call) (k : ℕ) (act : Act) → Some (acts.Sent k) ≡ Some act → DoneBy c (events.Send c a call) (replies.Message k) act
sent_done c a call k act is =
    let same : acts.Sent k ≡ act = (let some : Some (acts.Sent k) ≡ Some act = is in cc) in
    subst (λ (x : Act). DoneBy c (events.Send c a call) (replies.Message k) x) same (BySend a call k)

written : (c : ℕ) (a : Alias) (says : Written) (act : Act) → written_by_reply a (written_reply says) ≡ Some act → DoneBy c (events.Write c a) (written_reply says) act
written c a (writtens.Entry g) act is =
    let same : acts.Wrote a (Ok g) ≡ act = (let some : Some (acts.Wrote a (Ok g)) ≡ Some act = is in cc) in
    subst (λ (x : Act). DoneBy c (events.Write c a) (replies.Wrote g) x) same (ByEntry a g)
written c a (writtens.NotPrimary at) act is =
    let same : acts.Wrote a (Err (standing_of at)) ≡ act = (let some : Some (acts.Wrote a (Err (standing_of at))) ≡ Some act = is in cc) in
    subst (λ (x : Act). DoneBy c (events.Write c a) (replies.NotPrimary (standing_of at)) x) same (ByRefusal a (standing_of at))

declared_written : (w : World) (c : ℕ) (a : Alias) (s : CommandState) (act : Act) (o : Option Tablet)
    → written_by_reply a (if_declared o replies.Ok (λ me. written_reply (write_verdict w a s me).says)) ≡ Some act
    → DoneBy c (events.Write c a) (if_declared o replies.Ok (λ me. written_reply (write_verdict w a s me).says)) act
declared_written w c a s act None is = absurd (let none : None ≡ Some act = is in cc)
declared_written w c a s act (Some me) is = written c a (write_verdict w a s me).says act is

write_done : (config : Config) (w : World) (c : ℕ) (a : Alias) (act : Act) (o : Option CommandState) → written_by_reply a (write_reply config w a o) ≡ Some act
    → DoneBy c (events.Write c a) (write_reply config w a o) act
write_done config w c a act None is = absurd (let none : None ≡ Some act = is in cc)
write_done config w c a act (Some s) is = declared_written w c a s act (tablet_of config.tablets a) is

told_done : (c : ℕ) (r : Reply) (act : Act) → told_by_reply r ≡ Some act → DoneBy c (events.Tell c) r act
told_done c replies.Told act is =
    let same : acts.Told true ≡ act = (let some : Some (acts.Told true) ≡ Some act = is in cc) in subst (λ (x : Act). DoneBy c (events.Tell c) replies.Told x) same ByTold
told_done c replies.Gone act is =
    let same : acts.Told false ≡ act = (let some : Some (acts.Told false) ≡ Some act = is in cc) in subst (λ (x : Act). DoneBy c (events.Tell c) replies.Gone x) same ByGone
told_done c (replies.Begun command) act is = absurd (let none : None ≡ Some act = is in cc)
told_done c (replies.Term term) act is = absurd (let none : None ≡ Some act = is in cc)
told_done c (replies.Taken term by) act is = absurd (let none : None ≡ Some act = is in cc)
told_done c (replies.Read seen) act is = absurd (let none : None ≡ Some act = is in cc)
told_done c (replies.Lost term) act is = absurd (let none : None ≡ Some act = is in cc)
told_done c (replies.Stands a) act is = absurd (let none : None ≡ Some act = is in cc)
told_done c (replies.Message k) act is = absurd (let none : None ≡ Some act = is in cc)
told_done c (replies.GaveUp why) act is = absurd (let none : None ≡ Some act = is in cc)
told_done c (replies.Wrote g) act is = absurd (let none : None ≡ Some act = is in cc)
told_done c (replies.NotPrimary at) act is = absurd (let none : None ≡ Some act = is in cc)
told_done c replies.Ok act is = absurd (let none : None ≡ Some act = is in cc)

-- which step did an act on which an answer rests
pub done_by : (config : Config) (w : World) (c : ℕ) (e : Event) (act : Act) → act_of c e (answer config w e) ≡ Some act → is_shown act ≡ true
    → DoneBy c e (answer config w e) act
done_by config w c (events.Begin name command) act is h = absurd (quiet_none act is h)
done_by config w c (events.Release d) act is h = absurd (quiet_none act is h)
done_by config w c events.Lapse act is h = absurd (quiet_none act is h)
done_by config w c (events.Deliver k) act is h = absurd (quiet_none act is h)
done_by config w c (events.GiveUp d k) act is h = absurd (quiet_none act is h)
done_by config w c (events.Offer r) act is h = absurd (quiet_none act is h)
done_by config w c (events.Local a) act is h = absurd (quiet_none act is h)
done_by config w c (events.Crash a keep) act is h = absurd (quiet_none act is h)
done_by config w c (events.Restart a) act is h = absurd (quiet_none act is h)
done_by config w c (events.Cut x y) act is h = absurd (quiet_none act is h)
done_by config w c (events.Mend x y) act is h = absurd (quiet_none act is h)
done_by config w c (events.Lose k) act is h = absurd (quiet_none act is h)
done_by config w c (events.Tick ms) act is h = absurd (quiet_none act is h)
done_by config w c (events.End d x) act is h = absurd (quiet_none act is h)
done_by config w c (events.Take d) act is h = absurd (quiet_own (d == c) _ (taken_quiet (answer_take w.topo)) act is h)
done_by config w c (events.Read d) act is h =
    own_act (λ n x. DoneBy n (events.Read d) (answer config w (events.Read d)) x) d c _ act is (λ one. read_done d w.topo act (term_of w d) one h)
done_by config w c (events.Intend d a) act is h = absurd (quiet_own (d == c) _ (intend_quiet a (λ t. answer_intend w.topo t a) (term_of w d)) act is h)
done_by config w c (events.Record d a) act is h =
    own_act (λ n x. DoneBy n (events.Record d a) (answer config w (events.Record d a)) x) d c _ act is (λ one. record_done d a act (λ t. answer_record w.topo t) (term_of w d) one h)
done_by config w c (events.Drain d a) act is h =
    own_act (λ n x. DoneBy n (events.Drain d a) (answer config w (events.Drain d a)) x) d c _ act is (λ one. drain_done d a act (λ t. answer_drain w.topo t) (term_of w d) one h)
done_by config w c (events.Send d a call) act is h =
    own_act (λ n x. DoneBy n (events.Send d a call) (answer config w (events.Send d a call)) x) d c _ act is (λ one. sent_done d a call (next_message w) act one)
done_by config w c (events.Write d a) act is h =
    own_act (λ n x. DoneBy n (events.Write d a) (answer config w (events.Write d a)) x) d c _ act is (λ one. write_done config w d a act (open_command w d) one)
done_by config w c (events.Tell d) act is h =
    own_act (λ n x. DoneBy n (events.Tell d) (answer config w (events.Tell d)) x) d c _ act is (λ one. told_done d (unwrap_or (tell_of w d) replies.Ok) act one)

pub told_act : (act : Act) → is_told_act act ≡ true → (act ≡ acts.Told true) × (is_shown act ≡ true)
told_act (acts.Took reply) h = absurd (false≢true h)
told_act (acts.Read reply) h = absurd (false≢true h)
told_act (acts.Intended a reply) h = absurd (false≢true h)
told_act (acts.Recorded a reply) h = absurd (false≢true h)
told_act (acts.Drained a reply) h = absurd (false≢true h)
told_act (acts.Sent k) h = absurd (false≢true h)
told_act (acts.Wrote a reply) h = absurd (false≢true h)
told_act (acts.Told committed) h = (ap (λ (b : Bool). acts.Told b) h, refl)

pub refused_act : (a : Alias) (at : Standing) (act : Act) → says_not_primary a at act ≡ true → (act ≡ acts.Wrote a (Err at)) × (is_shown act ≡ true)
refused_act a at (acts.Took reply) h = absurd (false≢true h)
refused_act a at (acts.Read reply) h = absurd (false≢true h)
refused_act a at (acts.Intended b reply) h = absurd (false≢true h)
refused_act a at (acts.Recorded b reply) h = absurd (false≢true h)
refused_act a at (acts.Drained b reply) h = absurd (false≢true h)
refused_act a at (acts.Sent k) h = absurd (false≢true h)
refused_act a at (acts.Wrote b (Ok g)) h = absurd (false≢true h)
refused_act a at (acts.Wrote b (Err stand)) h = (
  ap (λ (x : Alias). acts.Wrote x (Err stand)) (alias_eq_is b a (both_left (alias_eq b a) (standing_eq stand at) h))
      ∙ ap (λ (x : Standing). acts.Wrote a (Err x)) (standing_is stand at (both_right (alias_eq b a) (standing_eq stand at) h)),
  refl,
)
refused_act a at (acts.Told committed) h = absurd (false≢true h)

-- ---- acts and steps

-- a step before step i that did an act of this kind
pub record ActStep (c : ℕ) (p : Act → Bool) (ss : List Step) (i : ℕ) : Type 0 where
  pub place : ℕ
  pub earlier : place < i
  pub step : Step
  pub here : slice_get ss place ≡ Some step
  pub act : Act
  pub did : act_of c step.event step.reply ≡ Some act
  pub passes : p act ≡ true

deeper : (c : ℕ) (p : Act → Bool) (x : Step) (ss : List Step) (i : ℕ) → ActStep c p ss i → ActStep c p (x ∷ ss) (suc i)
deeper c p x ss i h =
    record { place = suc h.place; earlier = (let le = h.earlier in omega (arith, le)); step = h.step; here = h.here; act = h.act; did = h.did; passes = h.passes }

pub act_step : (c : ℕ) (p : Act → Bool) (ss : List Step) (i : ℕ) → list_any p (acts_of c (take i ss)) ≡ true → ActStep c p ss i
act_step c p [] zero h = absurd (false≢true h)
act_step c p [] (suc i) h = absurd (false≢true h)
act_step c p (x ∷ ss) zero h = absurd (false≢true h)
act_step c p (x ∷ ss) (suc i) h = of_option (act_of c x.event x.reply) refl h (λ k. act_step c p ss i k)
  where
    of_test : (act : Act) (b : Bool) → act_of c x.event x.reply ≡ Some act → p act ≡ b → (b || list_any p (acts_of c (take i ss))) ≡ true
        → (list_any p (acts_of c (take i ss)) ≡ true → ActStep c p ss i) → ActStep c p (x ∷ ss) (suc i)
    of_test act true is passes k rest = record { place = 0; earlier = omega arith; step = x; here = refl; act = act; did = is; passes = passes }
    of_test act false is passes k rest = deeper c p x ss i (rest k)

    of_option : (o : Option Act) → act_of c x.event x.reply ≡ o → list_any p (cons_option o (acts_of c (take i ss))) ≡ true
        → (list_any p (acts_of c (take i ss)) ≡ true → ActStep c p ss i) → ActStep c p (x ∷ ss) (suc i)
    of_option None is k rest = deeper c p x ss i (rest k)
    of_option (Some act) is k rest = of_test act (p act) is refl k rest

-- a step before step i that did such an act
pub step_act : (c : ℕ) (p : Act → Bool) (ss : List Step) (i k : ℕ) (s : Step) (act : Act) → k < i → slice_get ss k ≡ Some s → act_of c s.event s.reply ≡ Some act → p act ≡ true
    → list_any p (acts_of c (take i ss)) ≡ true
step_act c p ss zero k s act less here did is = absurd (omega (arith, less))
step_act c p [] (suc i) k s act less here did is = absurd (let none : None ≡ Some s = here in cc)
step_act c p (x ∷ ss) (suc i) zero s act less here did is =
    let same : x ≡ s = (let some : Some x ≡ Some s = here in cc) in
    let first : act_of c x.event x.reply ≡ Some act = ap (λ (y : Step). act_of c y.event y.reply) same ∙ did in
    ap (λ (o : Option Act). list_any p (cons_option o (acts_of c (take i ss)))) first ∙ ap (λ (b : Bool). b || list_any p (acts_of c (take i ss))) is
step_act c p (x ∷ ss) (suc i) (suc k) s act less here did is = of_option (act_of c x.event x.reply) (step_act c p ss i k s act (omega (arith, less)) here did is)
  where
    more : (b : Bool) → list_any p (acts_of c (take i ss)) ≡ true → (b || list_any p (acts_of c (take i ss))) ≡ true
    more true h = refl
    more false h = h

    of_option : (o : Option Act) → list_any p (acts_of c (take i ss)) ≡ true → list_any p (cons_option o (acts_of c (take i ss))) ≡ true
    of_option None h = h
    of_option (Some y) h = more (p y) h
