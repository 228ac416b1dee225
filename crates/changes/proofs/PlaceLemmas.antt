-- What changes where one manager becomes another in its place.
use Rattle.std.proofs.Common.{◌≡◌, ℕ, zero, suc, ◌<◌, ◌≤◌, List, [], ◌∷◌, Some, length, get_or, set, ap, sym, subst, ◌∙◌, arith}
use Rattle.shard_names.specs.Tablets.{tablet_of}
use Rattle.shard_names.specs.declared.alias.Alias.{Alias}
use Rattle.shard_names.specs.declared.tablet.Tablet.{Tablet}
use Rattle.tablet_manager.specs.Managed.{Managed, state_of, SameTablet}
use Rattle.shard_calls.specs.declared.group.Group.{Group}
use Rattle.gtid_sets.specs.Logs.{greatest_number}
use Rattle.shard_calls.specs.Tablets.{TabletState}
use Rattle.shard_calls.specs.World.{at_tablet}
use Rattle.shard_state.specs.Managers.{IsAt}
use Rattle.shard_state.specs.State.{tablets_of, groups_in, state_at}
use Rattle.shard_state.proofs.PlaceLemmas.{tablet_at, state_here, tablets_set, state_set}
use Rattle.changes.specs.Places.{Changes, Becomes}

groups_set : (ms : List Managed) (k : ℕ) (q d : Managed) → k < length ms → q.group ≡ (get_or ms k d).group → groups_in (set ms k q) ≡ groups_in ms
groups_set [] k q d short same = absurd (omega arith)
groups_set (m ∷ ms) zero q d short same = ap (λ (g : Group). g ∷ groups_in ms) same
groups_set (m ∷ ms) (suc k) q d short same = ap (λ (gs : List Group). m.group ∷ gs) (groups_set ms k q d (omega arith) same)

-- a manager that becomes so makes the tablet become so
pub changes_here : (ms : List Managed) (a : Alias) (k : ℕ) (p q : Managed) (f : TabletState → TabletState) → k < length ms → IsAt ms a k → p ≡ get_or ms k p
    → SameTablet p q → state_of q ≡ f (state_of p) → Changes ms (set ms k q) a (f (state_at ms a))
changes_here ms a k p q f short at is same new =
    let who : q.me ≡ (get_or ms k p).me = same.0 ∙ ap (λ (m : Managed). m.me) is in
    let state : state_of q ≡ f (state_at ms a) = new ∙ ap f (ap (λ (m : Managed). state_of m) is ∙ sym (state_here ms a k p at)) in
    record {
      tablets = tablets_set ms k q p short who;
      groups = groups_set ms k q p short (same.1 ∙ ap (λ (m : Managed). m.group) is);
      states = (λ i b. state_set ms a k q p at who b i) ∙ ap (λ (s : TabletState). at_tablet (state_at ms) a s) state;
    }

-- the tablet at a place is the one that is looked up
pub who_here : (ms : List Managed) (a : Alias) (k : ℕ) (p : Managed) (me : Tablet) → IsAt ms a k → p ≡ get_or ms k p → tablet_of (tablets_of ms) a ≡ Some me → p.me ≡ me
who_here ms a k p me at is found =
    ap (λ (m : Managed). m.me) is ∙ (let some : Some (get_or ms k p).me ≡ Some me = sym (tablet_at ms a k p at) ∙ found in cc)

pub becomes_here : (ms : List Managed) (a : Alias) (k : ℕ) (p q : Managed) (f : Tablet → TabletState → TabletState) → k < length ms → IsAt ms a k → p ≡ get_or ms k p
    → SameTablet p q → state_of q ≡ f p.me (state_of p) → Becomes ms (set ms k q) a f
becomes_here ms a k p q f short at is same new me found =
    let who = who_here ms a k p me at is found in
    changes_here ms a k p q (f me) short at is same (new ∙ ap (λ (t : Tablet). f t (state_of p)) who)

-- what is said of the manager is said of the tablet
pub said_here : {A : Type 0} (ms : List Managed) (a : Alias) (k : ℕ) (p : Managed) (f : Tablet → TabletState → A) (x : A) (me : Tablet) → IsAt ms a k → p ≡ get_or ms k p
    → x ≡ f p.me (state_of p) → tablet_of (tablets_of ms) a ≡ Some me → x ≡ f me (state_at ms a)
said_here {A} ms a k p f x me at is says found =
    says ∙ ap (λ (t : Tablet). f t (state_of p)) (who_here ms a k p me at is found)
    ∙ ap (f me) (ap (λ (m : Managed). state_of m) is ∙ sym (state_here ms a k p at))

pub state_is : (ms : List Managed) (a : Alias) (k : ℕ) (p : Managed) → IsAt ms a k → p ≡ get_or ms k p → state_of p ≡ state_at ms a
state_is ms a k p at is = ap (λ (m : Managed). state_of m) is ∙ sym (state_here ms a k p at)

-- its numbers are few
pub few_here : (n : ℕ) (ms : List Managed) (a : Alias) (k : ℕ) (p : Managed) → IsAt ms a k → p ≡ get_or ms k p
    → ((server : List ℕ) → greatest_number server (state_at ms a).log ≤ n) → greatest_number p.me.server p.log.entries ≤ n
few_here n ms a k p at is few = subst (λ (s : TabletState). greatest_number p.me.server s.log ≤ n) (sym (state_is ms a k p at is)) (few p.me.server)
