use Rattle.shard_names.specs.Tablets.{is_declared}
use Rattle.shard_names.proofs.TabletLemmas.{both_left}
use Rattle.shard_state.specs.State.{data_of, config_in}
use Rattle.changes.proofs.MarkLaws.{has_room}
use Rattle.changes.proofs.rows.change.Goals as goal

pub drain-requires-clause-room : goal.drain-requires-clause-room
drain-requires-clause-room c =
    has_room (data_of c.args.fields.now) c.in-Drain.alias
    (both_left (is_declared (config_in (data_of c.args.fields.now)).tablets c.in-Drain.alias) _ (rw c.in-Drain.is at c.requires.met)) c.requires.sound c.requires.fits
