-- What a `Topo` keeps beside its topology: the memory behind the room, intents in the order of their terms, and marks in alias order.
use Rattle.std.specs.Prelude.{◌≤◌, ◌+◌, vec_len, vec_capacity}
use Rattle.topo_lock.specs.State.{TopoState}
use Rattle.topo_lock.specs.Laws.{TermsRise, TermsWithin, MarksRise}
use Rattle.topo_lock.specs.declared.topo.Topo.TheInside.{Inside}

abbrev pub state_of : Inside → TopoState
state_of a = record {
  topology = record { term = a.term; holder = a.holder; intents = a.intents.items; recorded = a.recorded; drained = a.drained.items };
  spare = a.spare;
  marks = a.marks;
}

pub record IsKept (a : Inside) : Type 0 where
  pub intents_fit : vec_len a.intents + a.spare ≤ vec_capacity a.intents
  pub marks_fit : a.marks ≤ vec_capacity a.drained
  pub terms_rise : TermsRise a.intents.items
  pub terms_within : TermsWithin a.term a.intents.items
  pub marks_rise : MarksRise a.drained.items
