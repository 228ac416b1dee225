use Rattle.std.proofs.Common.{refl, sym, ◌∙◌}
use Rattle.std.proofs.lemmas.Result.{IfOk-weaker}
use Rattle.shard_state.specs.State.{data_of, seen, config_in}
use Rattle.changes.proofs.WriteLemmas.{both_ok, refused, refused_reply}
use Rattle.changes.proofs.writes.write.Goals as goal

pub returns-in-None-clause-made : goal.returns-in-None-clause-made
returns-in-None-clause-made c =
    let stand = rw c.deref.ensures.value at c.stand_at-stand.ensures in
    let none = sym c.primary_term.ensures ∙ c.in-None.is in
    IfOk-weaker c.refuse_write.result _ _
    (λ reply h. record {
      config = refl;
      aliases = refl;
      marks = refl;
      groups = refl;
      world = refused (config_in (data_of c.args.fields.now)) (seen (data_of c.args.fields.now)) c.args.command c.args.alias.now _ _ c.stand_at-stand.result c.refuse_write.new.commands.items refl refl c.requires.met stand none h.1;
      reply = refused_reply (config_in (data_of c.args.fields.now)) (seen (data_of c.args.fields.now)) c.args.command c.args.alias.now _ _ c.stand_at-stand.result reply refl refl c.requires.met stand none h.0;
    })
    (both_ok c.refuse_write.result _ _ c.refuse_write.ensures.reply c.refuse_write.ensures.ok)
