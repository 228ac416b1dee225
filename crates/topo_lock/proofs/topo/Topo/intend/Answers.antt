use Rattle.std.proofs.Common.{◌≡◌, true, Err, arith}
use Rattle.std.proofs.lemmas.Grind.{common_steps}
use Rattle.topo_lock.specs.declared.lock.TopoFault.TheVariants.{IntentStands}
use Rattle.topo_lock.specs.Topology.{adds_intent, answer_intend}
use Rattle.topo_lock.specs.Topo.{state_of}
use Rattle.topo_lock.proofs.AnswerLemmas.{stands_exactly}
use Rattle.topo_lock.proofs.MoveLemmas.{in_order_with_one_more, within_with_one_more}
use Rattle.topo_lock.proofs.topo.Topo.intend.Goals as goal

pub returns-in-Some-clause-stands : goal.returns-in-Some-clause-stands
returns-in-Some-clause-stands c =
    let answer : Err (IntentStands c.in-Some.standing.alias) ≡ answer_intend c.args.self.now.topology c.args.term c.args.alias.now = grind (arith, common_steps) in
    λ other. rw answer (stands_exactly c.args.self.now.topology c.args.term c.args.alias.now other)

pub invariant_of-self : goal.invariant_of-self
invariant_of-self c =
    let before = (state_of c.self.inside).topology in
    let adds : adds_intent before c.args.term ≡ true = grind (arith, common_steps) in
    record {
      intents_fit = omega arith;
      marks_fit = c.self.invariant.marks_fit;
      marks_rise = c.self.invariant.marks_rise;
      terms_rise = rw c.push_reserved.ensures.items (in_order_with_one_more before c.args.term c.args.alias.now adds c.self.invariant.terms_rise c.self.invariant.terms_within);
      terms_within = rw c.push_reserved.ensures.items (within_with_one_more before c.args.term c.args.alias.now adds c.self.invariant.terms_within);
    }
