-- What is found of a tablet by its alias is what stands in the world.
use Rattle.std.proofs.Common.{◌≡◌, ℕ, Bool, true, false, cond, List, [], ◌∷◌, Option, Some, None, IfSome, option_map, refl, ap, sym, subst, ◌∙◌}
use Rattle.shard_base.specs.Options.{only_if}
use Rattle.shard_names.specs.declared.alias.Alias.{Alias}
use Rattle.shard_names.specs.declared.tablet.Tablet.{Tablet}
use Rattle.shard_names.specs.Tablets.{alias_eq, tablet_of}
use Rattle.shard_calls.specs.declared.event.Note.{Note}
use Rattle.shard_calls.specs.declared.event.Reply.TheVariants as replies
use Rattle.shard_calls.specs.declared.event.Step.{Step}
use Rattle.shard_calls.specs.declared.state.Wrote.{Wrote}
use Rattle.shard_calls.specs.declared.group.Group.{Group}
use Rattle.shard_calls.specs.Stands.{is_primary_of}
use Rattle.shard_calls.specs.Tablets.{TabletState, is_told}
use Rattle.shard_calls.specs.World.{World, group_of}
use Rattle.shard_calls.specs.Messages.{passes, is_told_at}
use Rattle.shard_calls.specs.Writes.{tell_reply}
use Rattle.tablet_manager.specs.Managed.{Managed, state_of}
use Rattle.shard_state.specs.State.{Data, AreOfGroup, tablets_of, group_in, seen, state_at}
use Rattle.shard_state.specs.Managers.{manager_of}
use Rattle.shard_state.proofs.FoundLemmas.{state_found, tablet_found, group_found}
use Rattle.shard_core.specs.Kept.{Kept, kept_of, world_of}
use Rattle.shard_core.specs.Leads.{Leads}

-- ---- what a tablet says of an entry

told_at : (d : Data) (a : Alias) (m : Managed) (index : ℕ) → manager_of d.managers a ≡ Some m → AreOfGroup d
    → is_told m.group m.me (state_of m) index ≡ is_told_at (seen d) a index
told_at d a m index found group =
    ap (λ (g : Group). is_told g m.me (state_of m) index) (group_found (group_in d) d.managers a m group found)
    ∙ ap (λ (s : TabletState). is_told (group_in d) m.me s index) (sym (state_found d.managers a m found))
    ∙ ap (λ (o : Option Tablet). passes (λ me. is_told (group_in d) me (state_at d.managers a) index) o) (sym (tablet_found d.managers a m found))

pub said_there : (d : Data) (x : Wrote) (m : Managed) → manager_of d.managers x.alias ≡ Some m → AreOfGroup d
    → cond (is_primary_of m.stand x.term) (only_if (is_told m.group m.me (state_of m) x.index) replies.Told) (Some replies.Gone) ≡ tell_reply (seen d) x
said_there d x m found group =
    ap (λ (b : Bool). cond (is_primary_of m.stand x.term) (only_if b replies.Told) (Some replies.Gone)) (told_at d x.alias m x.index found group)
    ∙ ap (λ (s : TabletState). cond (is_primary_of s.stand x.term) (only_if (is_told_at (seen d) x.alias x.index) replies.Told) (Some replies.Gone))
    (sym (state_found d.managers x.alias m found))

-- ---- the manager of an alias

one_tablet : (b : Bool) (m : Managed) (o : Option Managed) (t : Option Tablet) → option_map (λ x. x.me) o ≡ t → option_map (λ x. x.me) (cond b (Some m) o) ≡ cond b (Some m.me) t
one_tablet true m o t h = refl
one_tablet false m o t h = h

its_tablet : (ms : List Managed) (a : Alias) → option_map (λ x. x.me) (manager_of ms a) ≡ tablet_of (tablets_of ms) a
its_tablet [] a = refl
its_tablet (m ∷ ms) a = one_tablet (alias_eq m.me.alias a) m (manager_of ms a) (tablet_of (tablets_of ms) a) (its_tablet ms a)

its_group : (g : Group) (ms : List Managed) (a : Alias) (o : Option Managed) → ((m : Managed) → manager_of ms a ≡ Some m → m.group ≡ g) → manager_of ms a ≡ o
    → IfSome o (λ m. m.group ≡ g)
its_group g ms a None each is = tt
its_group g ms a (Some m) each is = each m is

its_state : (ms : List Managed) (a : Alias) (o : Option Managed) → manager_of ms a ≡ o → IfSome o (λ m. state_of m ≡ state_at ms a)
its_state ms a None is = tt
its_state ms a (Some m) is = sym (state_found ms a m is)

-- as it is seen of a shard
pub tablet_seen : (d : Data) (ss : List Step) (ns : List Note) (k : Kept) (a : Alias) (o : Option Managed) → kept_of d ss ns ≡ k → o ≡ manager_of d.managers a
    → option_map (λ x. x.me) o ≡ tablet_of k.config.tablets a
tablet_seen d ss ns k a o is found =
    ap (λ (x : Option Managed). option_map (λ y. y.me) x) found ∙ its_tablet d.managers a ∙ ap (λ (x : Kept). tablet_of x.config.tablets a) is

pub group_seen : (d : Data) (ss : List Step) (ns : List Note) (k : Kept) (a : Alias) (o : Option Managed) → kept_of d ss ns ≡ k → o ≡ manager_of d.managers a → Leads d ss
    → IfSome o (λ m. m.group ≡ group_of k.config)
group_seen d ss ns k a o is found h =
    subst (λ (x : Kept). IfSome o (λ m. m.group ≡ group_of x.config)) is
    (its_group (group_in d) d.managers a o (λ m there. group_found (group_in d) d.managers a m h.fits.group there) (sym found))

pub state_seen : (d : Data) (ss : List Step) (ns : List Note) (k : Kept) (a : Alias) (o : Option Managed) → kept_of d ss ns ≡ k → o ≡ manager_of d.managers a → Leads d ss
    → IfSome o (λ m. state_of m ≡ (world_of k).tablets a)
state_seen d ss ns k a o is found h =
    subst (λ (x : Kept). IfSome o (λ m. state_of m ≡ (world_of x).tablets a)) is
    (subst (λ (w : World). IfSome o (λ m. state_of m ≡ w.tablets a)) h.world (its_state d.managers a o (sym found)))
