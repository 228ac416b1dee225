-- Writes: at a primary, at a tablet itself, and what a command is told of its own. After semisynchronous replication (MySQL 8.0 manual), where a
-- client is told once its entry counts as committed.
use Rattle.std.specs.Prelude.{ℕ, ◌+◌, Bool, true, false, ◌&&◌, Option, Some, None, Ok, Err, is_none, length, unwrap_or, if◌then◌else◌}
use Rattle.shard_base.specs.Options.{◌>>=◌, only_if}
use Rattle.shard_names.specs.declared.alias.Alias.{Alias}
use Rattle.shard_names.specs.declared.tablet.Tablet.{Tablet}
use Rattle.shard_calls.specs.declared.command.Command.{Command}
use Rattle.shard_calls.specs.declared.command.Command.TheVariants as commands
use Rattle.shard_calls.specs.declared.event.Reply.{Reply}
use Rattle.shard_calls.specs.declared.event.Reply.TheVariants as replies
use Rattle.shard_calls.specs.declared.outcome.Written.{Written}
use Rattle.shard_calls.specs.declared.outcome.Written.TheVariants as writtens
use Rattle.shard_calls.specs.declared.state.Act.{Act}
use Rattle.shard_calls.specs.declared.state.Act.TheVariants as acts
use Rattle.shard_calls.specs.declared.state.CommandState.{CommandState}
use Rattle.shard_calls.specs.declared.state.Wrote.{Wrote}
use Rattle.shard_calls.specs.Stands.{is_primary_of, primary_term, standing_of}
use Rattle.shard_calls.specs.Tablets.{TabletState, Verdict, writes}
use Rattle.shard_calls.specs.World.{Config, World, on_tablet, on_command, with_act, numbered}
use Rattle.shard_calls.specs.Messages.{is_told_at}
use Rattle.shard_calls.specs.Deliveries.{by_tablet}

-- ---- Write, Tell and Local

abbrev pub is_write : Command → Bool
is_write (commands.Write to) = true
is_write _ = false

-- it has written nothing
abbrev pub may_write : Option CommandState → Bool
may_write None = false
may_write (Some s) = is_write s.command && is_none s.wrote

-- what comes of a client's write at a tablet
abbrev pub write_verdict : World → Alias → CommandState → Tablet → Verdict Written
write_verdict w a s me = writes me s.client s.number (w.tablets a)

abbrev pub with_written : Alias → TabletState → Written → CommandState → CommandState
with_written a old (writtens.Entry g) s =
    with_act (acts.Wrote a (Ok g))
    (record s { wrote = Some (record { gtid = g; alias = a; term = unwrap_or (primary_term old.stand) 0; index = length old.log + 1 }) })
with_written a old (writtens.NotPrimary at) s = with_act (acts.Wrote a (Err (standing_of at))) s

abbrev pub writes_at : World → ℕ → Alias → CommandState → Tablet → World
writes_at w c a s me = on_command (on_tablet w a (write_verdict w a s me).state) c (with_written a (w.tablets a) (write_verdict w a s me).says)

abbrev pub writes_in : Config → World → ℕ → Alias → Option CommandState → World
writes_in config w c a None = w
writes_in config w c a (Some s) = by_tablet config a w (writes_at w c a s)

abbrev pub written_reply : Written → Reply
written_reply (writtens.Entry g) = replies.Wrote g
written_reply (writtens.NotPrimary at) = replies.NotPrimary (standing_of at)

abbrev pub write_reply : Config → World → Alias → Option CommandState → Reply
write_reply config w a None = replies.Ok
write_reply config w a (Some s) = by_tablet config a replies.Ok (λ me. written_reply (write_verdict w a s me).says)

-- whether what was written counts as committed, if that can be said
abbrev pub tell_reply : World → Wrote → Option Reply
tell_reply w x = if is_primary_of (w.tablets x.alias).stand x.term then only_if (is_told_at w x.alias x.index) replies.Told else Some replies.Gone

-- a command that has ended may look again
abbrev pub tell_of : World → ℕ → Option Reply
tell_of w c = numbered w.commands c >>= (λ s. s.wrote >>= (λ x. tell_reply w x))

-- what the command keeps of such a reply
abbrev pub told_act : Reply → Option Act
told_act replies.Told = Some (acts.Told true)
told_act replies.Gone = Some (acts.Told false)
told_act _ = None

abbrev pub with_told : World → ℕ → Option Act → World
with_told w c None = w
with_told w c (Some act) = on_command w c (with_act act)

abbrev pub tells : World → ℕ → Option Reply → World
tells w c r = with_told w c (r >>= told_act)
