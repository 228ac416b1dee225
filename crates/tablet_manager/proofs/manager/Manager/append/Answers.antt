use Rattle.std.proofs.Common.{◌≡◌, ◌∙◌, ap, sym, max, ℕ, Bool, List, ◌∷◌, [], ◌++◌}
use Rattle.gtid_sets.specs.declared.entry.Entry.{Entry}
use Rattle.gtid_sets.specs.Logs.{own_number, greatest_number, newest_row, newest_row_names}
use Rattle.shard_calls.proofs.LogLemmas.{greatest-push}
use Rattle.tablet_manager.specs.LogState.{LogState}
use Rattle.tablet_manager.specs.Managed.{names_after}
use Rattle.tablet_manager.proofs.RowLemmas.{names-push}
use Rattle.tablet_manager.proofs.manager.Manager.append.Goals as goal

pub invariant_of-self-2 : goal.invariant_of-self-2
invariant_of-self-2 c =
    let me = c.self.inside.me in
    let log : List Entry = c.self.inside.log.entries in
    let e : Entry = c.args.entry.now in
    let longer : c.append.new.self.entries ≡ log ++ e ∷ [] = ap (λ (l : LogState). l.entries) c.in_ok-append.ensures.ok in
    record {
      shard = c.self.invariant.shard;
      declared = c.self.invariant.declared;
      aliases = c.self.invariant.aliases;
      newest = c.names_after-newest_is_own.ensures
          ∙ ap (λ (n : ℕ). names_after n c.self.inside.newest_is_own me.alias e.kind) c.newest_row.ensures
          ∙ ap (λ (b : Bool). names_after (newest_row log) b me.alias e.kind) c.self.invariant.newest
          ∙ sym (names-push log e me.alias)
          ∙ ap (λ (l : List Entry). newest_row_names l me.alias) (sym longer);
      number = c.max-self-inside.ensures
          ∙ ap (λ (n : ℕ). max n c.own_number.result) c.self.invariant.number
          ∙ ap (λ (n : ℕ). max (greatest_number me.server log) n) c.own_number.ensures
          ∙ sym (greatest-push (own_number me.server) log e)
          ∙ ap (λ (l : List Entry). greatest_number me.server l) (sym longer);
    }
