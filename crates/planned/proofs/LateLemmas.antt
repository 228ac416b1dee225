-- A call that waits beyond all moments meets no row's condition.
use Rattle.std.proofs.Common.{◌≡◌, ℕ, ◌+◌, ◌^◌, ◌≤◌, ◌<◌, Bool, true, false, not, ◌&&◌, Option, Some, None, nat_lt, cond, refl, ap, sym, ◌∙◌, arith}
use Rattle.std.proofs.lemmas.Bool.{false≢true}
use Rattle.std.proofs.lemmas.Bool.Decides.{nat_tests}
use Rattle.shard_names.specs.Tablets.{is_declared}
use Rattle.shard_names.specs.declared.alias.Alias.{Alias}
use Rattle.shard_calls.specs.declared.call.Call.{Call}
use Rattle.shard_calls.specs.declared.call.Call.TheVariants as calls
use Rattle.shard_calls.specs.declared.event.Event.TheVariants as events
use Rattle.shard_calls.specs.declared.refusal.Refusal.TheVariants as refusals
use Rattle.shard_calls.specs.declared.state.CommandState.{CommandState}
use Rattle.shard_calls.specs.Deliveries.{end_of_time, asks_status, may_ask_in, may_send}
use Rattle.shard_calls.specs.Locks.{by_term}
use Rattle.shard_calls.specs.Table.{meets}
use Rattle.shard_calls.specs.World.{Config, World, open_command}
use Rattle.planned.specs.Course.{if_met}
use Rattle.planned.specs.Late.{is_late}
use Rattle.planned.specs.Leaving.{refusing}

-- what no number of 64 bits says is late
pub late_at : (until : ℕ) → 2 ^ 64 ≤ until → not (nat_lt until end_of_time) ≡ true
late_at until h = grind (arith, nat_tests)

never_timed : (b : Bool) → not b ≡ true → b ≡ false
never_timed true h = absurd (false≢true h)
never_timed false h = refl

not_asked : (config : Config) (w : World) (c u : ℕ) (a : Alias) (call : Call) → is_late call ≡ true → may_ask_in config w c a call u ≡ false
not_asked config w c u a calls.Status late = absurd (false≢true late)
not_asked config w c u a calls.Stop late = absurd (false≢true late)
not_asked config w c u a calls.Demote late = absurd (false≢true late)
not_asked config w c u a (calls.Promote p) late = absurd (false≢true late)
not_asked config w c u a (calls.SetSource source t p) late = absurd (false≢true late)
not_asked config w c u a calls.Feed late = absurd (false≢true late)
not_asked config w c u a (calls.WaitFor p until) late = never_timed (nat_lt until end_of_time) late
not_asked config w c u a (calls.WaitTold until) late = never_timed (nat_lt until end_of_time) late

no_status : (call : Call) → is_late call ≡ true → asks_status call ≡ false
no_status calls.Status late = absurd (false≢true late)
no_status calls.Stop late = refl
no_status calls.Demote late = refl
no_status (calls.Promote p) late = refl
no_status (calls.SetSource source t p) late = refl
no_status calls.Feed late = refl
no_status (calls.WaitFor p until) late = refl
no_status (calls.WaitTold until) late = refl

not_sent_in : (config : Config) (w : World) (c : ℕ) (a : Alias) (call : Call) (term : Option ℕ) → is_late call ≡ true
    → by_term term (asks_status call) (may_ask_in config w c a call) ≡ false
not_sent_in config w c a call None late = no_status call late
not_sent_in config w c a call (Some u) late = not_asked config w c u a call late

not_sent : (config : Config) (w : World) (c : ℕ) (a : Alias) (call : Call) (o : Option CommandState) → is_late call ≡ true → may_send config w c a call o ≡ false
not_sent config w c a call None late = refl
not_sent config w c a call (Some s) late = not_sent_in config w c a call s.term late

neither : (a b : Bool) → b ≡ false → (a && b) ≡ false
neither true b h = h
neither false b h = refl

-- so the command leaves
pub never_late : (config : Config) (w : World) (c : ℕ) (s : CommandState) (a : Alias) (call : Call) → is_late call ≡ true
    → refusing c s refusals.OutOfMemory ≡ if_met config w c s (events.Send c a call)
never_late config w c s a call late =
    ap (λ (b : Bool). cond b (events.Send c a call) (refusing c s refusals.OutOfMemory))
    (sym (neither (is_declared config.tablets a) (may_send config w c a call (open_command w c)) (not_sent config w c a call (open_command w c) late)))
