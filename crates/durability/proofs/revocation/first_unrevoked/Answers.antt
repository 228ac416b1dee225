use Rattle.std.proofs.Common.{◌≡◌, true, false, sym, rules}
use Rattle.shard_names.specs.Tablets.{is_among}
use Rattle.durability.proofs.SearchLemmas.{none_found, first_found, first_not_revoked}
use Rattle.durability.proofs.revocation.first_unrevoked.Goals as goal

pub returns-in_err-tablet-clause-revoked : goal.returns-in_err-tablet-clause-revoked
returns-in_err-tablet-clause-revoked g c = (
  (λ e. none_found (g.P.Policy.rules c.args.policy.now) c.args.tablets.now (is_among c.args.reached.now) (sym c.in_err-tablet.ensures)),
  (λ revokes. search rules),
)

pub returns-clause-revoked : goal.returns-clause-revoked
returns-clause-revoked g c = (
  (λ (e : true ≡ false). absurd (cc)),
  (λ revokes. absurd (first_not_revoked _ _ _ _ (first_found (g.P.Policy.rules c.args.policy.now) c.args.tablets.now (is_among c.args.reached.now) c.in_ok-tablet.tablet.now (sym c.in_ok-tablet.ensures)) revokes)),
)

pub returns-clause-first : goal.returns-clause-first
returns-clause-first g c =
    first_found (g.P.Policy.rules c.args.policy.now) c.args.tablets.now (is_among c.args.reached.now) c.in_ok-tablet.tablet.now (sym c.in_ok-tablet.ensures)
