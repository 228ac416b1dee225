use Rattle.std.proofs.Common.{◌∙◌, sym}
use Rattle.post.proofs.QueueLemmas.{found_out, not_found, unfound}
use Rattle.post.proofs.queue.Queue.take_out.Goals as goal

pub remove_at-requires : goal.remove_at-requires
remove_at-requires c = (found_out c.self.inside.numbers.items c.args.number c.in-Some.at (sym c.place_in.ensures ∙ c.in-Some.is)).0

pub returns-in-Some : goal.returns-in-Some
returns-in-Some c =
    rw (← c.self.view_is) (c.remove_at.ensures ∙ (found_out c.self.inside.numbers.items c.args.number c.in-Some.at (sym c.place_in.ensures ∙ c.in-Some.is)).1)

pub returns-in_default : goal.returns-in_default
returns-in_default c =
    rw (← c.self.view_is) (unfound c.self.inside.numbers.items c.args.number (not_found _ c.self.inside.numbers.items (sym c.place_in.ensures ∙ c.in_default.is)))
