use Rattle.std.proofs.Common.{List, ℕ, Bor, length, ap, ◌∙◌, rules, arith}
use Rattle.std.proofs.lemmas.List.{length-map}
use Rattle.shard_script.specs.Script.{ended_parts, ended_lines}
use Rattle.shard_script.proofs.ReadLemmas.{cut_fault}
use Rattle.shard_script.proofs.script.read_cut.Goals as goal

pub returns-in-Ok : goal.returns-in-Ok
returns-in-Ok c =
    let text = c.deref.ensures.value ∙ c.in_ok-plain.ensures in
    let lines = c.in_ok-lines.ensures ∙ ap (λ (t : List ℕ). ended_parts t) text in
    let count = ap (λ (ls : List (List ℕ)). length ls) lines in
    let mapped = length-map c.in_ok-lines.lines.items (λ (b : Bor (List ℕ)). b.now) in
    let seen = ap (λ (bs : List (Bor (List ℕ))). length bs) c.deref-2.ensures.value in
    let size = c.deref-2.ensures.len in
    let counted = c.len.ensures in
    cut_fault (ended_lines c.args.text.now) c.in-Ok.field-0 c.len.result (search rules) (omega (arith, count, mapped, seen, size, counted))
