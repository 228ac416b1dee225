use Rattle.std.proofs.Common.{◌≡◌, ◌∙◌, arith}
use Rattle.gtid_sets.proofs.PutLemmas.{put_in, insert_put, is_in_order, is_with, place_within}
use Rattle.gtid_sets.proofs.intervals.insert_alone.Goals as goal
use Rattle.gtid_sets.proofs.intervals.insert_alone.Goals.{In_ok-insert}

pub insert-requires : goal.insert-requires
insert-requires c = omega (arith, place_within c.args.gtid.now c.args.intervals.now.items, c.requires.place, c.args.intervals.now.ok.0)

put : (c : In_ok-insert) → c.insert.new.self.items ≡ put_in c.args.gtid.now c.args.intervals.now.items
put c = c.in_ok-insert.ensures.items ∙ insert_put c.args.gtid.now c.args.intervals.now.items c.args.place c.requires.place c.requires.apart

pub returns-clause-in_order : goal.returns-clause-in_order
returns-clause-in_order c = is_in_order c.args.gtid.now c.args.intervals.now.items c.insert.new.self.items (put c) c.requires.in_order

pub returns-clause-members : goal.returns-clause-members
returns-clause-members c = is_with c.args.gtid.now c.args.intervals.now.items c.insert.new.self.items (put c) c.requires.in_order
