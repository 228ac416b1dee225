use Rattle.std.proofs.Common.{refl, subst, List, ◌∷◌, [], ◌++◌, length, ap, sym, ◌∙◌, arith}
use Rattle.shard_calls.specs.declared.event.Reply.{Reply}
use Rattle.shard_calls.specs.declared.event.Step.{Step}
use Rattle.shard_state.specs.State.{data_of, config_in, seen}
use Rattle.changes.specs.Makes.{Makes}
use Rattle.shard_core.proofs.RunLemmas.{few_more, met_there, answer_there, leads_on}
use Rattle.shard_core.proofs.SpareLemmas.{spare_fits}
use Rattle.shard_core.proofs.shard.make.Goals as goal

pub change-requires-clause-met : goal.change-requires-clause-met
change-requires-clause-met c = sym (met_there (data_of c.args.fields.now) c.args.steps.now.items c.args.event c.requires.leads) ∙ c.requires.met

pub change-requires-clause-few : goal.change-requires-clause-few
change-requires-clause-few c =
    few_more (length c.args.steps.now.items) 1048576 (seen (data_of c.args.fields.now)) (omega (arith, c.requires.leads.room)) c.requires.leads.few

pub returns-clause-leads : goal.returns-clause-leads
returns-clause-leads c =
    leads_on (data_of c.args.fields.now) (data_of c.change.new.fields) c.args.steps.now.items c.push_step.new.steps.items c.args.event c.in_ok-reply.reply c.requires.leads
    c.requires.few (sym (met_there (data_of c.args.fields.now) c.args.steps.now.items c.args.event c.requires.leads) ∙ c.requires.met) c.in_ok-reply.ensures.made
    (c.push_step.ensures.items ∙ ap (λ (xs : List Step). xs ++ record { event = c.args.event; reply = c.in_ok-reply.reply } ∷ []) c.in_ok-reserve.ensures.items
    ∙ ap (λ (r : Reply). c.args.steps.now.items ++ record { event = c.args.event; reply = r } ∷ []) c.in_ok-reply.ensures.made.reply)

pub returns-clause-step : goal.returns-clause-step
returns-clause-step c notes = record {
  met = c.requires.met;
  config = c.in_ok-reply.ensures.made.config;
  steps = c.push_step.ensures.items ∙ ap (λ (xs : List Step). xs ++ record { event = c.args.event; reply = c.in_ok-reply.reply } ∷ []) c.in_ok-reserve.ensures.items
      ∙ ap (λ (r : Reply). c.args.steps.now.items ++ record { event = c.args.event; reply = r } ∷ [])
      (c.in_ok-reply.ensures.made.reply ∙ sym (answer_there (data_of c.args.fields.now) c.args.steps.now.items c.args.event c.requires.leads));
  notes = refl;
}

pub push_step-requires-clause-spare : goal.push_step-requires-clause-spare
push_step-requires-clause-spare c =
    rw (c.in_ok-reply.ensures.made.reply, c.in_ok-spare.ensures.spare) (spare_fits (config_in (data_of c.args.fields.now)) (seen (data_of c.args.fields.now)) c.args.event)

pub returns-clause-made : goal.returns-clause-made
returns-clause-made c =
    subst (λ (r : Reply). Makes (data_of c.args.fields.now) (data_of c.change.new.fields) c.args.event r) (sym c.push_step.ensures.same) c.in_ok-reply.ensures.made

pub returns-clause-reply : goal.returns-clause-reply
returns-clause-reply c = c.push_step.ensures.same ∙ c.in_ok-reply.ensures.made.reply ∙ sym (answer_there (data_of c.args.fields.now) c.args.steps.now.items c.args.event c.requires.leads)
