-- What is found of a tablet: its manager, and with it its state, its declaration and what it knows of its shard.
use Rattle.std.proofs.Common.{◌≡◌, Bool, true, false, ap, sym, ◌∙◌, List, [], ◌∷◌, cond, Option, Some, None}
use Rattle.std.specs.List.{AllByRecursion}
use Rattle.shard_names.specs.declared.alias.Alias.{Alias}
use Rattle.shard_names.specs.declared.tablet.Tablet.{Tablet}
use Rattle.shard_names.specs.Tablets.{alias_eq, tablet_of}
use Rattle.shard_calls.specs.declared.group.Group.{Group}
use Rattle.shard_calls.specs.Tablets.{TabletState}
use Rattle.tablet_manager.specs.Managed.{Managed, state_of}
use Rattle.shard_state.specs.State.{tablets_of, groups_in, state_at}
use Rattle.shard_state.specs.Managers.{manager_of}

same_manager : (x m : Managed) → Some x ≡ Some m → x ≡ m
same_manager x m h = cc

nothing_found : (m : Managed) → None ≡ Some m → ⊥
nothing_found m h = cc

state_one : (b : Bool) (x m : Managed) (rest : Option Managed) (s : TabletState) → cond b (Some x) rest ≡ Some m → (rest ≡ Some m → s ≡ state_of m)
    → cond b (state_of x) s ≡ state_of m
state_one true x m rest s h later = ap (λ (n : Managed). state_of n) (same_manager x m h)
state_one false x m rest s h later = later h

pub state_found : (ms : List Managed) (a : Alias) (m : Managed) → manager_of ms a ≡ Some m → state_at ms a ≡ state_of m
state_found [] a m h = absurd (nothing_found m h)
state_found (x ∷ ms) a m h = state_one (alias_eq x.me.alias a) x m (manager_of ms a) (state_at ms a) h (state_found ms a m)

tablet_one : (b : Bool) (x m : Managed) (rest : Option Managed) (o : Option Tablet) → cond b (Some x) rest ≡ Some m → (rest ≡ Some m → o ≡ Some m.me)
    → cond b (Some x.me) o ≡ Some m.me
tablet_one true x m rest o h later = ap (λ (n : Managed). Some n.me) (same_manager x m h)
tablet_one false x m rest o h later = later h

pub tablet_found : (ms : List Managed) (a : Alias) (m : Managed) → manager_of ms a ≡ Some m → tablet_of (tablets_of ms) a ≡ Some m.me
tablet_found [] a m h = absurd (nothing_found m h)
tablet_found (x ∷ ms) a m h = tablet_one (alias_eq x.me.alias a) x m (manager_of ms a) (tablet_of (tablets_of ms) a) h (tablet_found ms a m)

group_one : (g : Group) (b : Bool) (x m : Managed) (rest : Option Managed) → x.group ≡ g → cond b (Some x) rest ≡ Some m → (rest ≡ Some m → m.group ≡ g) → m.group ≡ g
group_one g true x m rest own h later = ap (λ (n : Managed). n.group) (sym (same_manager x m h)) ∙ own
group_one g false x m rest own h later = later h

pub group_found : (g : Group) (ms : List Managed) (a : Alias) (m : Managed) → AllByRecursion (λ x. x ≡ g) (groups_in ms) → manager_of ms a ≡ Some m → m.group ≡ g
group_found g [] a m all h = absurd (nothing_found m h)
group_found g (x ∷ ms) a m all h = group_one g (alias_eq x.me.alias a) x m (manager_of ms a) all.0 h (group_found g ms a m all.1)
