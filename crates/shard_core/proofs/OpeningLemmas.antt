-- The opening world.
use Rattle.std.proofs.Common.{◌≡◌, ℕ, zero, suc, ◌<◌, List, [], ◌∷◌, ◌++◌, Bool, true, false, cond, Some, None, map, take, get_or, length, Contains, IsTrue, nat_lt, refl, ap, sym, subst, ◌∙◌, arith}
use Rattle.std.proofs.lemmas.List.Elements.{Contains-get_or}
use Rattle.std.specs.List.{AllByRecursion, slice_get}
use Rattle.shard_names.specs.Tablets.{AliasesRise, AreTablets, alias_eq}
use Rattle.shard_names.specs.declared.alias.Alias.{Alias}
use Rattle.shard_names.specs.declared.tablet.Tablet.{Tablet}
use Rattle.durability.specs.declared.policy.Durability.{Durability}
use Rattle.topo_lock.specs.Topology.{fresh}
use Rattle.shard_calls.specs.declared.state.ActorState.{ActorState}
use Rattle.shard_calls.specs.declared.group.Group.{Group}
use Rattle.shard_calls.specs.Tablets as tablets
use Rattle.shard_calls.specs.Tablets.{TabletState}
use Rattle.shard_calls.specs.World.{World, opening, idle_actor, main_name}
use Rattle.tablet_manager.specs.Managed.{Managed, state_of}
use Rattle.shard_state.specs.State.{Data, tablets_of, groups_in, group_in, state_at, config_in, seen}
use Rattle.changes.specs.Few.{AreFew}
use Rattle.changes.specs.Sound.{AreSound}
use Rattle.changes.proofs.FewLaws.{few_opening}
use Rattle.changes.proofs.SoundLaws.{sound_opening}
use Rattle.shard_core.specs.Opened.{IsOpened, AreOpened}
use Rattle.shard_core.specs.Leads.{Leads}

abbrev aliases_of : List Tablet → List Alias
aliases_of ts = map (λ t. t.alias) ts

-- ---- managers, one after another

-- each tablet is one of its shard's
pub one_of : (ts : List Tablet) (k : ℕ) (t : Tablet) → k < length ts → t ≡ get_or ts k t → Contains ts t
one_of ts k t within is = subst (λ (u : Tablet). Contains ts u) (sym is) (Contains-get_or ts k t within)

take_more : (ts : List Tablet) (k : ℕ) (t : Tablet) → slice_get ts k ≡ Some t → take (suc k) ts ≡ take k ts ++ t ∷ []
take_more [] k t here = absurd (let none : None ≡ Some t = here in cc)
take_more (x ∷ ts) zero t here = let same : x ≡ t = (let some : Some x ≡ Some t = here in cc) in ap (λ (u : Tablet). u ∷ []) same
take_more (x ∷ ts) (suc k) t here = ap (λ (us : List Tablet). x ∷ us) (take_more ts k t here)

tablets_more : (ms : List Managed) (m : Managed) → tablets_of (ms ++ m ∷ []) ≡ tablets_of ms ++ m.me ∷ []
tablets_more [] m = refl
tablets_more (x ∷ ms) m = ap (λ (us : List Tablet). x.me ∷ us) (tablets_more ms m)

each_more : (P : Managed → Type 0) (ms : List Managed) (m : Managed) → AllByRecursion P ms → P m → AllByRecursion P (ms ++ m ∷ [])
each_more P [] m all h = (h, tt)
each_more P (x ∷ ms) m all h = (all.0, each_more P ms m all.1 h)

pub opened_more : (g : Group) (k n : ℕ) (t : Tablet) (ms : List Managed) (m : Managed) → n ≡ suc k → slice_get g.tablets k ≡ Some t → m.me ≡ t
    → m.group ≡ g → state_of m ≡ tablets.opened → AreOpened g k ms → AreOpened g n (ms ++ m ∷ [])
opened_more g k n t ms m next here who group state h = record {
  tablets = tablets_more ms m ∙ ap (λ (us : List Tablet). us ++ m.me ∷ []) h.tablets ∙ ap (λ (u : Tablet). take k g.tablets ++ u ∷ []) who
      ∙ sym (take_more g.tablets k t here) ∙ ap (λ (j : ℕ). take j g.tablets) (sym next);
  each = each_more (IsOpened g) ms m h.each (record { group = group; state = state });
}

take_all : (ts : List Tablet) → take (length ts) ts ≡ ts
take_all [] = refl
take_all (t ∷ ts) = ap (λ (us : List Tablet). t ∷ us) (take_all ts)

-- ---- what they stand for

pub tablets_opened : (g : Group) (ms : List Managed) → AreOpened g (length g.tablets) ms → tablets_of ms ≡ g.tablets
tablets_opened g ms h = h.tablets ∙ take_all g.tablets

either : (b : Bool) (here rest : TabletState) → here ≡ tablets.opened → rest ≡ tablets.opened → cond b here rest ≡ tablets.opened
either true here rest p q = p
either false here rest p q = q

state_opened : (g : Group) (ms : List Managed) (a : Alias) → AllByRecursion (IsOpened g) ms → state_at ms a ≡ tablets.opened
state_opened g [] a h = refl
state_opened g (m ∷ ms) a h = either (alias_eq m.me.alias a) (state_of m) (state_at ms a) h.0.state (state_opened g ms a h.1)

groups_opened : (g : Group) (ms : List Managed) → AllByRecursion (IsOpened g) ms → AllByRecursion (λ x. x ≡ g) (groups_in ms)
groups_opened g [] h = tt
groups_opened g (m ∷ ms) h = (h.0.group, groups_opened g ms h.1)

abbrev pub main_alone : List ActorState
main_alone = idle_actor main_name ∷ []

-- nothing sent, cut, begun or past
abbrev pub nothing_done : List Managed → Durability → ℕ → List Alias → ℕ → Data
nothing_done ms policy marks aliases moment = record {
  managers = ms;
  policy = policy;
  moment = moment;
  topo = fresh;
  marks = marks;
  aliases = aliases;
  messages = [];
  clock = moment;
  cuts = [];
  actors = main_alone;
  commands = [];
}

pub leads_opening : (g : Group) (moment : ℕ) (ms : List Managed) → AreTablets g.tablets → IsTrue (nat_lt moment 253370764800000) → AreOpened g (length g.tablets) ms
    → Leads (nothing_done ms g.policy (length g.tablets) (aliases_of g.tablets) moment) []
leads_opening g moment ms are begins h =
    let d : Data = nothing_done ms g.policy (length g.tablets) (aliases_of g.tablets) moment in
    let same : tablets_of ms ≡ g.tablets = tablets_opened g ms h in
    let kept : g ≡ group_in d = (λ i. record { tablets = sym same i; policy = g.policy }) in
    let opens : seen d ≡ opening (config_in d) = λ i. record (opening (config_in d)) { tablets = λ a. state_opened g ms a h.each i } in
    record {
      config = record { tablets = subst (λ (us : List Tablet). AreTablets us) (sym same) are };
      begins = begins;
      run = tt;
      world = opens;
      few = subst (λ (w : World). AreFew 0 w) (sym opens) (few_opening (config_in d));
      sound = subst (λ (w : World). AreSound (config_in d) w) (sym opens) (sound_opening (config_in d));
      fits = record {
        aliases = ap (λ (us : List Tablet). aliases_of us) (sym same);
        order = subst (λ (us : List Tablet). AliasesRise us) (sym same) are.in_order;
        marks = ap (λ (us : List Tablet). length us) (sym same);
        group = subst (λ (x : Group). AllByRecursion (λ y. y ≡ x) (groups_in ms)) kept (groups_opened g ms h.each);
      };
      room = omega arith;
    }
