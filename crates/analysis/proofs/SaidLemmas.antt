-- Who has several entries is taken to have said what stands in the first, as the first of several calls counts.
use Rattle.std.proofs.Common.{◌≡◌, ◌∙◌, refl, sym, ap, Bool, true, false, List, [], ◌∷◌, ◌++◌, Option, Some, None, cond}
use Rattle.std.proofs.lemmas.List.Concat.{flat_map-append}
use Rattle.shard_names.specs.declared.alias.Alias.{Alias}
use Rattle.shard_names.specs.Tablets.{alias_eq}
use Rattle.shard_calls.specs.declared.analysis.TabletStatus.{TabletStatus}
use Rattle.shard_calls.specs.declared.span.Asked.{Asked}
use Rattle.shard_calls.specs.declared.span.Deed.{Deed}
use Rattle.shard_calls.specs.declared.span.Deed.TheVariants as deeds
use Rattle.shard_calls.specs.Analysis.{said_in, status_by}
use Rattle.shard_calls.specs.Causes.{status_in, statuses}
use Rattle.shard_calls.specs.Choosing.{outcome_in}
use Rattle.analysis.specs.Said.{said_by_call, said_by}

abbrev entry_by : Asked → TabletStatus
entry_by x = record { alias = x.alias; status = status_in x.outcome }

one_said : (b : Bool) (x : Asked) (o : Option TabletStatus) (d : Option Deed)
    → status_by o ≡ status_in (outcome_in d)
    → status_by (cond b (Some (entry_by x)) o) ≡ status_in (outcome_in (cond b (Some (deeds.Asked x)) d))
one_said true x o d e = refl
one_said false x o d e = e

said_at : (a : Alias) (ds : List Deed) → said_in (said_by ds) a ≡ statuses ds a
said_at a [] = refl
said_at a (deeds.Took reply ∷ ds) = said_at a ds
said_at a (deeds.Read reply ∷ ds) = said_at a ds
said_at a (deeds.Intended b reply ∷ ds) = said_at a ds
said_at a (deeds.Recorded b reply ∷ ds) = said_at a ds
said_at a (deeds.Drained b reply ∷ ds) = said_at a ds
said_at a (deeds.Asked x ∷ ds) = one_said (alias_eq x.alias a) x _ _ (said_at a ds)
said_at a (deeds.Wrote b reply ∷ ds) = said_at a ds
said_at a (deeds.Told committed ∷ ds) = said_at a ds

pub said_is : (ds : List Deed) → said_in (said_by ds) ≡ statuses ds
said_is ds = λ i a. said_at a ds i

pub said_is_both : (ds es : List Deed) → said_in (said_by ds ++ said_by es) ≡ statuses (ds ++ es)
said_is_both ds es = ap said_in (sym (flat_map-append said_by_call ds es)) ∙ said_is (ds ++ es)
