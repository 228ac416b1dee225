use Rattle.std.proofs.Common.{rules, of_calls, sym, arith}
use Rattle.std.proofs.lemmas.Fn.{always_returns_same}
use Rattle.std.proofs.lemmas.List.Sums.{prefix_len_is}
use Rattle.gtid_sets.specs.Intervals.{ends_below, alone}
use Rattle.gtid_sets.proofs.PutLemmas.{ends_parted}
use Rattle.gtid_sets.proofs.intervals.place_of.Goals as goal

pub returns : goal.returns
returns c =
    let point = c.partition_point.ensures.partitioned (ends_below c.args.gtid.now) (always_returns_same _ _ _ (λ a r f k. search (rules, of_calls)))
    (λ i j d l m up. ends_parted c.args.gtid.now c.args.intervals.now c.requires i j d l m up) in
    sym
    (prefix_len_is (ends_below c.args.gtid.now) c.args.intervals.now c.partition_point.result (alone c.args.gtid.now) c.partition_point.ensures.bound (λ k l. point.0 k (alone c.args.gtid.now) (omega arith) l)
    (λ l. point.1 c.partition_point.result (alone c.args.gtid.now) (omega arith) l))
