use Rattle.std.proofs.Common.{List, length, ap, ◌∙◌, arith}
use Rattle.shard_names.specs.declared.tablet.Tablet.{Tablet}
use Rattle.shard_script.proofs.TabletsInOrder.{inserted}
use Rattle.shard_script.proofs.script.insert_tablet.Goals as goal

pub insert-requires : goal.insert-requires
insert-requires c = omega (arith, c.place_of-place.ensures.within, ap (λ (ts : List Tablet). length ts) c.as_slice.ensures, ap (λ (ts : List Tablet). length ts) c.into_vec-list.ensures)

pub returns : goal.returns
returns c =
    c.from_vec.ensures ∙ c.in_ok-insert.ensures.items
    ∙ inserted c.args.tablet c.args.tablets c.into_vec-list.result.items c.place_of-place.result c.into_vec-list.ensures (rw c.as_slice.ensures at c.place_of-place.ensures.place)
