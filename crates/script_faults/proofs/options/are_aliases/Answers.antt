use Rattle.std.proofs.Common.{List, ℕ, rules, tests}
use Rattle.std.specs.Prelude.{is_some}
use Rattle.std.specs.Result.{result_ok}
use Rattle.std.proofs.lemmas.Iterator.Search.{all_from_yields_List}
use Rattle.std.proofs.lemmas.Iterator.Splits.{YieldsList-from_slice_split}
use Rattle.shard_names.specs.Alias.{alias_reading}
use Rattle.script_faults.proofs.options.are_aliases.Goals as goal

pub returns : goal.returns
returns c =
    all_from_yields_List (λ (part : List ℕ). is_some (result_ok (alias_reading part))) _ _ c.all.result c.all.ensures.ran
    (YieldsList-from_slice_split _ _ c.args.text.now c.split.ensures.rest c.split.ensures.done c.split.ensures.closure (λ x r q k. search (rules, tests))) (λ x b q k. search (rules, tests))
