use Rattle.std.proofs.Common.{◌≡◌, ◌∙◌, ◌∷◌, [], arith, rules, ◌++◌, ap, sym, max, ℕ, List, Option, length}
use Rattle.gtid_sets.specs.Position.{Position, with_gtid}
use Rattle.gtid_sets.specs.declared.entry.Entry.{Entry}
use Rattle.gtid_sets.specs.Logs.{position_of, newest_row, place_of_row, rows_of}
use Rattle.shard_calls.proofs.LogLemmas.{position-push, newest-push}
use Rattle.tablet_manager.specs.Rows.{place_after}
use Rattle.tablet_manager.proofs.RowLemmas.{rows-push}
use Rattle.tablet_manager.proofs.PlaceLemmas.{place-push}
use Rattle.tablet_manager.proofs.plain_log.PlainLog.append.Goals as goal

pub invariant_of-self-2 : goal.invariant_of-self-2
invariant_of-self-2 c = record {
  held = c.in_ok-append_to.ensures.ok_held
      ∙ ap (λ (p : Position). with_gtid p c.args.entry.now.gtid) c.self.invariant.held
      ∙ sym (position-push c.self.inside.entries.items c.args.entry.now)
      ∙ ap (λ (log : List Entry). position_of log) (sym c.in_ok-append_to.ensures.ok_entries);
  rows = c.in_ok-append_to.ensures.ok_rows
      ∙ ap (λ (ts : List ℕ). ts ++ rows_of (c.args.entry.now ∷ [])) c.self.invariant.rows
      ∙ sym (rows-push c.self.inside.entries.items c.args.entry.now)
      ∙ ap (λ (log : List Entry). rows_of log) (sym c.in_ok-append_to.ensures.ok_entries);
  newest = c.max-self-inside.ensures
      ∙ ap (λ (n : ℕ). max n c.row_or_zero.result) c.self.invariant.newest
      ∙ ap (λ (n : ℕ). max (newest_row c.self.inside.entries.items) n) c.row_or_zero.ensures
      ∙ sym (newest-push c.self.inside.entries.items c.args.entry.now)
      ∙ ap (λ (log : List Entry). newest_row log) (sym c.in_ok-append_to.ensures.ok_entries);
  place = c.place_after-newest_at.ensures
      ∙ ap (λ (n : ℕ). place_after n c.self.inside.newest_at c.len-count.result c.args.entry.now.kind) c.self.invariant.newest
      ∙ ap (λ (o : Option ℕ). place_after (newest_row c.self.inside.entries.items) o c.len-count.result c.args.entry.now.kind) c.self.invariant.place
      ∙ ap (λ (n : ℕ). place_after (newest_row c.self.inside.entries.items) (place_of_row c.self.inside.entries.items (newest_row c.self.inside.entries.items)) n c.args.entry.now.kind) (let count : c.len-count.result ≡ length c.self.inside.entries.items = grind (arith, rules, c.len-count.ensures) in count)
      ∙ sym (place-push c.self.inside.entries.items c.args.entry.now)
      ∙ ap (λ (log : List Entry). place_of_row log (newest_row log)) (sym c.in_ok-append_to.ensures.ok_entries);
}
