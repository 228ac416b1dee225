-- That the order of transactions is one, and how a transaction is stored.
use Rattle.std.specs.Prelude.{refl}
use Rattle.std.specs.Coded.{Coded, code_by, coded×, coded_ℕ, coded_list}
use Rattle.std.specs.Cmp.{IsTotalOrder, IsPartialEquivalence, nat_cmp_total, nat_eq_equiv, partial_equiv_from_equiv, and_per, on_per}
use Rattle.std.proofs.lemmas.Cmp.{on_total, then_total, nat_list_cmp_total, nat_list_eq_equiv}
use Rattle.gtid_sets.specs.declared.gtid.Gtid.{Gtid}
use Rattle.gtid_sets.specs.Gtid.{gtid_cmp, gtid_eq}

-- a transaction is stored as its server and its number
abbrev pub coded_gtid : Coded Gtid
coded_gtid = code_by _ (coded× (coded_list coded_ℕ) coded_ℕ) (λ g. (g.server, g.number)) (λ p. record { server = p.0; number = p.1 }) (λ _. refl)

pub gtid_total : IsTotalOrder gtid_cmp
gtid_total = then_total (on_total (λ g. g.server) nat_list_cmp_total) (on_total (λ g. g.number) nat_cmp_total)

pub gtid_per : IsPartialEquivalence gtid_eq
gtid_per = and_per (on_per (λ g. g.server) (partial_equiv_from_equiv nat_list_eq_equiv)) (on_per (λ g. g.number) (partial_equiv_from_equiv nat_eq_equiv))
