-- That links are cut as was said, and that what is lost never comes.
use Rattle.std.proofs.Common.{◌≡◌, ℕ, Bool, true, false, not, ◌&&◌, refl, ap, sym, subst, ◌∙◌, cond, List, [], ◌∷◌, ◌++◌, Option, Some, None, option_map}
use Rattle.std.proofs.lemmas.Bool.{false≢true}
use Rattle.std.proofs.lemmas.List.Elements.{Contains-push}
use Rattle.std.specs.List.{Contains}
use Rattle.shard_names.proofs.TabletLemmas.{both_left}
use Rattle.shard_calls.specs.declared.event.Link.{Link}
use Rattle.shard_calls.specs.declared.event.Side.{Side}
use Rattle.shard_calls.specs.declared.event.Step.{Step}
use Rattle.shard_calls.specs.declared.post.Content.{Content}
use Rattle.shard_calls.specs.declared.post.Message.{Message}
use Rattle.shard_calls.specs.World.{Config, World, opening, vanishes, numbered}
use Rattle.shard_calls.specs.Messages.{link_eq, is_cut, without_cut, link_of, passes, is_received, may_arrive}
use Rattle.shard_calls.specs.Table.{IsRun}
use Rattle.shard_calls.specs.Promotions.{world_at}
use Rattle.shard_calls.specs.RunLaws.{OfEveryRun}
use Rattle.shard_calls.proofs.ListLemmas.{numbered_changed}
use Rattle.shard_calls.proofs.RunLemmas.{step_along, next_world}
use Rattle.shard_laws.specs.Network.{IsCut, There, Back, Delivers, CutsAreAsSaid, NothingLostComes}
use Rattle.shard_laws.proofs.AmongLemmas.{contains_among, filter_among}
use Rattle.shard_laws.proofs.NetworkLemmas.{link_itself, link_back, not_true}
use Rattle.shard_laws.proofs.GiveUpLemmas.{found_cut}

-- ---- links

cut_after : (cuts : List Link) (x y : Side) (b : Bool) → is_cut cuts (record { x = x; y = y }) ≡ b → IsCut (cond b cuts (cuts ++ record { x = x; y = y } ∷ [])) x y
cut_after cuts x y true is = found_cut cuts x y is
cut_after cuts x y false is = There (Contains-push cuts (record { x = x; y = y }))

-- a link that is left is another one
left_over : (cuts : List Link) (x y : Side) (l : Link) → Contains (without_cut cuts (record { x = x; y = y })) l → link_eq (record { x = x; y = y }) l ≡ true → ⊥
left_over cuts x y l h same =
    let kept = filter_among (λ k. not (link_eq (record { x = x; y = y }) k)) cuts l (contains_among (without_cut cuts (record { x = x; y = y })) l h) in
    false≢true (sym (not_true (link_eq (record { x = x; y = y }) l) kept.1) ∙ same)

mended : (cuts : List Link) (x y : Side) → IsCut (without_cut cuts (record { x = x; y = y })) x y → ⊥
mended cuts x y (There h) = left_over cuts x y (record { x = x; y = y }) h (link_itself x y)
mended cuts x y (Back h) = left_over cuts x y (record { x = y; y = x }) h (link_back x y)

pub cuts_are_as_said : OfEveryRun CutsAreAsSaid
cuts_are_as_said config ss run = record {
  cut = λ i x y here.
      subst (λ (v : World). IsCut v.cuts x y) (sym (next_world config (opening config) ss i _ here))
      (cut_after (world_at config ss i).cuts x y (is_cut (world_at config ss i).cuts (record { x = x; y = y })) refl);
  mend = λ i x y here cut.
      mended (world_at config ss i).cuts x y (subst (λ (v : World). IsCut v.cuts x y) (next_world config (opening config) ss i _ here) cut);
}

-- ---- lost messages

lost_after : (o p : Option Message) (m : Message) → p ≡ option_map vanishes o → p ≡ Some m → m.lost ≡ true
lost_after None p m is here = absurd (let none : None ≡ Some m = sym is ∙ here in cc)
lost_after (Some x) p m is here =
    let same : vanishes x ≡ m = (let some : Some (vanishes x) ≡ Some m = sym is ∙ here in cc) in ap (λ (y : Message). y.lost) (sym same)

not_lost : (config : Config) (ss : List Step) (i k : ℕ) (content : Content) → IsRun config ss → (d : Delivers config ss i k content) → d.posted.message.lost ≡ false
not_lost config ss i k content run d =
    let w : World = world_at config ss i in
    let m : Message = d.posted.message in
    let may : may_arrive w m ≡ true = ap (λ (o : Option Message). passes (may_arrive w) o) (sym d.posted.at) ∙ (step_along config (opening config) ss i _ run d.here).met in
    not_true m.lost (both_left (not m.lost) (not (is_cut w.cuts (link_of m.content)))
    (both_left (not m.lost && not (is_cut w.cuts (link_of m.content))) (is_received w m.content) may))

pub nothing_lost_comes : OfEveryRun NothingLostComes
nothing_lost_comes config ss run = record {
  loses = λ i k m here at.
      lost_after (numbered (world_at config ss i).post k) _ m (numbered_changed (world_at config ss i).post k vanishes)
      (subst (λ (v : World). numbered v.post k ≡ Some m) (next_world config (opening config) ss i _ here) at);
  comes = λ i k content d lost. false≢true (sym (not_lost config ss i k content run d) ∙ lost);
}
