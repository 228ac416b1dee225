-- That a position is told by its list: how it is stored and compared.
use Rattle.std.specs.Prelude.{◌≡◌, Bool, T, List}
use Rattle.std.specs.Cmp.{IsPartialEquivalence, on_per}
use Rattle.std.specs.Cmp.Lexicographic.{pointwise, lists_per}
use Rattle.std.specs.Coded.{Coded, coded_list}
use Rattle.gtid_sets.specs.declared.gtid.Gtid.{Gtid}
use Rattle.gtid_sets.specs.Gtid.{gtid_eq}
use Rattle.gtid_sets.specs.GtidOrder.{coded_gtid, gtid_per}
use Rattle.gtid_sets.specs.Rising.{rises}
use Rattle.gtid_sets.specs.Position.{Position}
use base.Stored.{coded_via}
use lib.Dec.{T_prop}
use mathlib.Core.HLevel.{Σ_prop_path}

-- positions of one list are one
pub same_position : (p q : Position) → p.gtids ≡ q.gtids → p ≡ q
same_position p q e =
    let pairs : ◌≡◌ {A = (gs : List Gtid) × T (rises gs)} (p.gtids, p.in_order) (q.gtids, q.in_order) = Σ_prop_path (λ gs. T_prop _) e in
    λ i. record { gtids = (pairs i).0; in_order = (pairs i).1 }

-- a position is stored as its list
abbrev pub coded_position : Coded Position
coded_position = coded_via (coded_list coded_gtid) (λ p. p.gtids) same_position

-- whether two positions are one
abbrev pub position_eq : Position → Position → Bool
position_eq p q = pointwise gtid_eq p.gtids q.gtids

pub position_per : IsPartialEquivalence position_eq
position_per = on_per (λ p. p.gtids) (lists_per gtid_per)
