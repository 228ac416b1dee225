use Rattle.std.proofs.Common.{◌<◌, List, ℕ, nat_eq, ap, sym, reverse, ◌∙◌, arith}
use Rattle.std.specs.List.{list_any}
use Rattle.std.proofs.lemmas.List.Sorted.{list_any-IsPermutation, IsPermutation-reverse}
use Rattle.gtid_sets.specs.Logs.{newest_row}
use Rattle.tablet_manager.proofs.RowLemmas.{any_rows, no_row_above}
use Rattle.tablet_manager.proofs.plain_log.PlainLog.has_row.Goals as goal

pub returns : goal.returns
returns c =
    let rows = c.deref.ensures.value ∙ c.self.invariant.rows in
    let found : List ℕ = c.deref.result.now in
    rw (← c.self.view_is) (c.is_among.ensures
    ∙ sym (list_any-IsPermutation (λ t. nat_eq t c.args.term) found (reverse found) (IsPermutation-reverse found))
    ∙ ap (λ (ts : List ℕ). list_any (λ t. nat_eq t c.args.term) ts) rows
    ∙ any_rows c.self.inside.entries.items c.args.term)

pub returns-then-term-self : goal.returns-then-term-self
returns-then-term-self c =
    let above : newest_row c.self.inside.entries.items < c.args.term = omega (arith, c.self.invariant.newest, c.if-term-self.true) in
    rw (← c.self.view_is) (sym (no_row_above c.self.inside.entries.items c.args.term above))
