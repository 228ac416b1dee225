-- What one tablet adds to a list.
use Rattle.std.specs.Prelude.{List}
use Rattle.shard_names.specs.declared.alias.Alias.{Alias}
use Rattle.shard_names.specs.declared.tablet.Tablet.{Tablet}
use Rattle.shard_calls.specs.declared.refusal.NotStopped.{NotStopped}
use Rattle.shard_calls.specs.declared.span.Deed.{Deed}
use Rattle.shard_calls.specs.Rescuing.{not_stopped, unreached_of}

-- the tablet, if it was not stopped, with why
unfoldable pub entry_unreached : List Alias → List Deed → Tablet → List NotStopped
entry_unreached ignored done t = not_stopped t.alias (unreached_of ignored done t.alias)
