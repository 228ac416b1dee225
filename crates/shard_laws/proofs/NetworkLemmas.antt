-- That nothing comes over a cut link or to a tablet that is down, and that what does not come waits.
use Rattle.std.proofs.Common.{◌≡◌, ◌<◌, ℕ, zero, suc, Bool, true, false, not, ◌&&◌, ◌==◌, refl, ap, sym, subst, ◌∙◌, arith, List, [], ◌∷◌, ◌++◌, Option, Some, None, option_map, length}
use Rattle.std.proofs.lemmas.Bool.{false≢true}
use Rattle.std.proofs.lemmas.Bool.Decides.{nat_tests}
use Rattle.std.specs.List.{slice_get, slice_index_or, list_any}
use Rattle.shard_base.specs.Options.{◌>>=◌}
use Rattle.shard_names.specs.declared.alias.Alias.{Alias}
use Rattle.shard_names.specs.declared.tablet.Tablet.{Tablet}
use Rattle.shard_names.specs.Tablets.{tablet_of}
use Rattle.shard_names.proofs.TabletLemmas.{both_left, both_right, alias_eq_itself}
use Rattle.shard_calls.specs.declared.call.Call.{Call}
use Rattle.shard_calls.specs.declared.event.Event.{Event}
use Rattle.shard_calls.specs.declared.event.Event.TheVariants as events
use Rattle.shard_calls.specs.declared.event.Link.{Link}
use Rattle.shard_calls.specs.declared.event.Side.{Side}
use Rattle.shard_calls.specs.declared.event.Side.TheVariants as sides
use Rattle.shard_calls.specs.declared.event.Step.{Step}
use Rattle.shard_calls.specs.declared.outcome.Accepted.{Accepted}
use Rattle.shard_calls.specs.declared.outcome.Accepted.TheVariants as accepteds
use Rattle.shard_calls.specs.declared.post.Content.{Content}
use Rattle.shard_calls.specs.declared.post.Content.TheVariants as contents
use Rattle.shard_calls.specs.declared.post.Message.{Message}
use Rattle.shard_calls.specs.declared.post.Settled.{Settled}
use Rattle.shard_calls.specs.declared.post.Settled.TheVariants as settleds
use Rattle.shard_calls.specs.declared.stand.Stand.{Stand}
use Rattle.shard_calls.specs.declared.stand.Stand.TheVariants as stands
use Rattle.shard_calls.specs.declared.why.Why.{Why}
use Rattle.shard_calls.specs.Stands.{is_down}
use Rattle.shard_calls.specs.Tablets.{TabletState, accepts}
use Rattle.shard_calls.specs.World.{Config, World, opening, on_message, arrives, vanishes, settles, numbered, changed_at, open_command, term_of}
use Rattle.shard_calls.specs.Messages.{side_eq, link_eq, is_cut, link_of, passes, is_ready, is_received, may_arrive, why_given_up, offer_to}
use Rattle.shard_calls.specs.Locks.{reads, intends_in, records_in, drains_in, releases_in}
use Rattle.shard_calls.specs.Deliveries.{after_delivery, after_arrival, asked, fed, if_declared, gives_up, offers}
use Rattle.shard_calls.specs.Writes.{told_act, tell_of}
use Rattle.shard_calls.specs.Table.{after, IsRun}
use Rattle.shard_calls.specs.Promotions.{world_at}
use Rattle.shard_calls.specs.RunLaws.{OfEveryRun}
use Rattle.shard_calls.proofs.ListLemmas.{slice_get-append, numbered_changed, numbered_other}
use Rattle.shard_calls.proofs.EntryLemmas.{or_left, or_right}
use Rattle.shard_calls.proofs.PostLemmas.{post_take, post_by, post_declared, post_write, post_told, post_end}
use Rattle.shard_calls.proofs.RunLemmas.{step_along, next_world}
use Rattle.shard_laws.specs.Network.{IsCut, There, Back, Delivers, NothingCrossesACut, Waits, StillWaits, WhoIsDownHearsNothing}

-- ---- links

-- what the list has and passes is one that passes
contains_any : {A : Type 0} (p : A → Bool) (xs : List A) (x : A) (i : ℕ) → i < length xs → slice_index_or xs i x ≡ x → p x ≡ true → list_any p xs ≡ true
contains_any p [] x i less at is = absurd (omega (arith, less))
contains_any p (y ∷ xs) x zero less at is = or_left (p y) (list_any p xs) (ap p at ∙ is)
contains_any p (y ∷ xs) x (suc i) less at is = or_right (p y) (list_any p xs) (contains_any p xs x i (omega (arith, less)) at is)

side_itself : (x : Side) → side_eq x x ≡ true
side_itself sides.Control = refl
side_itself (sides.Tablet a) = alias_eq_itself a

pub link_itself : (x y : Side) → link_eq (record { x = x; y = y }) (record { x = x; y = y }) ≡ true
link_itself x y = rw (side_itself x, side_itself y) refl

pub link_back : (x y : Side) → link_eq (record { x = x; y = y }) (record { x = y; y = x }) ≡ true
link_back x y = or_right (side_eq x y && side_eq y x) (side_eq x x && side_eq y y) (rw (side_itself x, side_itself y) refl)

-- the machine finds a link that is cut
pub cut_found : (cuts : List Link) (x y : Side) → IsCut cuts x y → is_cut cuts (record { x = x; y = y }) ≡ true
cut_found cuts x y (There h) = contains_any (link_eq (record { x = x; y = y })) cuts (record { x = x; y = y }) h.0 h.1 h.2 (link_itself x y)
cut_found cuts x y (Back h) = contains_any (link_eq (record { x = x; y = y })) cuts (record { x = y; y = x }) h.0 h.1 h.2 (link_back x y)

-- ---- what is delivered

pub not_true : (b : Bool) → not b ≡ true → b ≡ false
not_true true h = absurd (false≢true h)
not_true false h = refl

-- its link is whole, and its receiver takes it
pub record Comes (w : World) (content : Content) : Type 0 where
  pub whole : is_cut w.cuts (link_of content) ≡ false
  pub received : is_received w content ≡ true

comes : (config : Config) (ss : List Step) (i k : ℕ) (content : Content) → IsRun config ss → Delivers config ss i k content → Comes (world_at config ss i) content
comes config ss i k content run d =
    let w : World = world_at config ss i in
    let m : Message = d.posted.message in
    let may : may_arrive w m ≡ true = ap (λ (o : Option Message). passes (may_arrive w) o) (sym d.posted.at) ∙ (step_along config (opening config) ss i _ run d.here).met in
    let there : (not m.lost && not (is_cut w.cuts (link_of m.content))) ≡ true = both_left (not m.lost && not (is_cut w.cuts (link_of m.content))) (is_received w m.content) may in
    subst (λ (c : Content). Comes w c) d.posted.carries (record {
      whole = not_true (is_cut w.cuts (link_of m.content)) (both_right (not m.lost) (not (is_cut w.cuts (link_of m.content))) there);
      received = both_right (not m.lost && not (is_cut w.cuts (link_of m.content))) (is_received w m.content) may;
    })

not_cut : (w : World) (x y : Side) → is_cut w.cuts (record { x = x; y = y }) ≡ false → IsCut w.cuts x y → ⊥
not_cut w x y whole cut = false≢true (sym whole ∙ cut_found w.cuts x y cut)

pub nothing_crosses_a_cut : OfEveryRun NothingCrossesACut
nothing_crosses_a_cut config ss run = record {
  call = λ c t a asks i k d cut. not_cut (world_at config ss i) sides.Control (sides.Tablet a) (comes config ss i k _ run d).whole cut;
  reply = λ c asked a says i k d cut. not_cut (world_at config ss i) sides.Control (sides.Tablet a) (comes config ss i k _ run d).whole cut;
  entry = λ from to t before index e i k d cut. not_cut (world_at config ss i) (sides.Tablet from) (sides.Tablet to) (comes config ss i k _ run d).whole cut;
  ack = λ from to t index i k d cut. not_cut (world_at config ss i) (sides.Tablet from) (sides.Tablet to) (comes config ss i k _ run d).whole cut;
}

not_down : (at : Stand) → not (is_down at) ≡ true → at ≡ stands.Down → ⊥
not_down at up down = false≢true (sym (not_true (is_down at) up) ∙ ap (λ (x : Stand). is_down x) down)

-- ---- what does not come waits

abbrev Kept : Event → List Message → List Message → Type 0
Kept e old new = (k : ℕ) (m : Message) → numbered old k ≡ Some m → (n : Message) × (numbered new k ≡ Some n) × Waits e k m n

waits_itself : (e : Event) (k : ℕ) (m : Message) → Waits e k m m
waits_itself e k m = record { content = refl; sent = refl; arrived = λ other. refl; lost = λ other. refl }

kept_same : (e : Event) (xs ys : List Message) → ys ≡ xs → Kept e xs ys
kept_same e xs ys same k m h = (m, ap (λ (l : List Message). numbered l k) same ∙ h, waits_itself e k m)

kept_push : (e : Event) (xs : List Message) (x : Message) → Kept e xs (xs ++ x ∷ [])
kept_push e xs x zero m h = absurd (let none : None ≡ Some m = h in cc)
kept_push e xs x (suc n) m h = (m, slice_get-append xs (x ∷ []) n m h, waits_itself e (suc n) m)

kept_change : (e : Event) (xs : List Message) (d : ℕ) (f : Message → Message) → ((m : Message) → Waits e d m (f m)) → Kept e xs (changed_at xs d f)
kept_change e xs d f each k m h = of_test (d == k) refl
  where
    of_test : (b : Bool) → (d == k) ≡ b → (n : Message) × (numbered (changed_at xs d f) k ≡ Some n) × Waits e k m n
    of_test true is =
        let same : d ≡ k = grind (arith, nat_tests) in (
          f m,
          subst (λ (n : ℕ). numbered (changed_at xs d f) n ≡ option_map f (numbered xs n)) same (numbered_changed xs d f) ∙ ap (λ (o : Option Message). option_map f o) h,
          subst (λ (n : ℕ). Waits e n m (f m)) same (each m),
        )
    of_test false is = (m, numbered_other xs d k f is ∙ h, waits_itself e k m)

kept_then : (e : Event) (xs ys zs : List Message) → Kept e xs ys → Kept e ys zs → Kept e xs zs
kept_then e xs ys zs p q k m h =
    let r = p k m h in
    let s = q k r.0 r.1 in (
      s.0,
      s.1,
      record {
        content = s.2.content ∙ r.2.content;
        sent = s.2.sent ∙ r.2.sent;
        arrived = λ other. s.2.arrived other ∙ r.2.arrived other;
        lost = λ other. s.2.lost other ∙ r.2.lost other;
      },
    )

kept_settled : (e : Event) (xs : List Message) (d : ℕ) (x : Settled) → Kept e xs (changed_at xs d (settles x))
kept_settled e xs d x = kept_change e xs d (settles x) (λ m. record { content = refl; sent = refl; arrived = λ other. refl; lost = λ other. refl })

kept_arrived : (w : World) (j : ℕ) → Kept (events.Deliver j) w.post (changed_at w.post j (arrives w.clock))
kept_arrived w j =
    kept_change (events.Deliver j) w.post j (arrives w.clock) (λ m. record { content = refl; sent = refl; arrived = λ other. absurd (other refl); lost = λ other. refl })

asked_kept : (w : World) (j c u : ℕ) (a : Alias) (call : Call) (o : Option Tablet)
    → Kept (events.Deliver j) w.post (if_declared o (on_message w j (arrives w.clock)) (asked (on_message w j (arrives w.clock)) j c u a call)).post
asked_kept w j c u a call None = kept_arrived w j
asked_kept w j c u a call (Some me) = kept_then _ _ _ _ (kept_arrived w j) (kept_push (events.Deliver j) (changed_at w.post j (arrives w.clock)) _)

fed_kept : (w : World) (j term index : ℕ) (from to : Alias) (s : TabletState) (says : Accepted)
    → Kept (events.Deliver j) w.post (fed (on_message w j (arrives w.clock)) from to term index s says).post
fed_kept w j term index from to s accepteds.Ignored = kept_arrived w j
fed_kept w j term index from to s accepteds.Taken = kept_then _ _ _ _ (kept_arrived w j) (kept_push (events.Deliver j) (changed_at w.post j (arrives w.clock)) _)

arrival_kept : (config : Config) (w : World) (j : ℕ) (content : Content)
    → Kept (events.Deliver j) w.post (after_arrival config (on_message w j (arrives w.clock)) j content).post
arrival_kept config w j (contents.Asks c u a call) = asked_kept w j c u a call (tablet_of config.tablets a)
arrival_kept config w j (contents.Answers c call from says) =
    kept_then _ _ _ _ (kept_arrived w j) (kept_settled (events.Deliver j) (changed_at w.post j (arrives w.clock)) call (settleds.Answered j))
arrival_kept config w j (contents.Feeds from to term before index x) = fed_kept w j term index from to _ (accepts from term before index x (w.tablets to)).says
arrival_kept config w j (contents.Acks from to term index) = kept_arrived w j

delivery_kept : (config : Config) (w : World) (j : ℕ) (o : Option Message) → Kept (events.Deliver j) w.post (after_delivery config w j o).post
delivery_kept config w j None = kept_same (events.Deliver j) w.post w.post refl
delivery_kept config w j (Some there) = arrival_kept config w j there.content

up_kept : (w : World) (c j : ℕ) (o : Option Why) → Kept (events.GiveUp c j) w.post (gives_up w j o).post
up_kept w c j None = kept_same (events.GiveUp c j) w.post w.post refl
up_kept w c j (Some why) = kept_settled (events.GiveUp c j) w.post j (settleds.GaveUp why)

offer_kept : (w : World) (r : Alias) (o : Option Content) → Kept (events.Offer r) w.post (offers w o).post
offer_kept w r None = kept_same (events.Offer r) w.post w.post refl
offer_kept w r (Some content) = kept_push (events.Offer r) w.post _

lose_kept : (w : World) (j : ℕ) → Kept (events.Lose j) w.post (changed_at w.post j vanishes)
lose_kept w j = kept_change (events.Lose j) w.post j vanishes (λ m. record { content = refl; sent = refl; arrived = λ other. refl; lost = λ other. absurd (other refl) })

kept : (config : Config) (w : World) (e : Event) → Kept e w.post (after config w e).post
kept config w (events.Begin name command) = kept_same _ w.post _ refl
kept config w (events.Take c) = kept_same _ w.post _ (post_take w c (open_command w c))
kept config w (events.Read c) = kept_same _ w.post _ (post_by w (reads w c) (term_of w c) (λ t. refl))
kept config w (events.Intend c a) = kept_same _ w.post _ (post_by w (intends_in w c a) (term_of w c) (λ t. refl))
kept config w (events.Record c a) = kept_same _ w.post _ (post_by w (records_in w c a) (term_of w c) (λ t. refl))
kept config w (events.Drain c a) = kept_same _ w.post _ (post_by w (drains_in w c a) (term_of w c) (λ t. refl))
kept config w (events.Release c) = kept_same _ w.post _ (post_by w (releases_in w c) (term_of w c) (λ t. refl))
kept config w events.Lapse = kept_same _ w.post _ refl
kept config w (events.Send c a call) = kept_push _ w.post _
kept config w (events.Deliver j) = delivery_kept config w j (numbered w.post j)
kept config w (events.GiveUp c j) = up_kept w c j (why_given_up w c j)
kept config w (events.Offer r) = offer_kept w r (offer_to w r)
kept config w (events.Write c a) = kept_same _ w.post _ (post_write config w c a (open_command w c))
kept config w (events.Tell c) = kept_same _ w.post _ (post_told w c (tell_of w c >>= told_act))
kept config w (events.Local a) = kept_same _ w.post _ (post_declared w _ (tablet_of config.tablets a) (λ me. refl))
kept config w (events.Crash a keep) = kept_same _ w.post _ refl
kept config w (events.Restart a) = kept_same _ w.post _ refl
kept config w (events.Cut x y) = kept_same _ w.post _ refl
kept config w (events.Mend x y) = kept_same _ w.post _ refl
kept config w (events.Lose j) = lose_kept w j
kept config w (events.Tick ms) = kept_same _ w.post _ refl
kept config w (events.End c x) = kept_same _ w.post _ (post_end w c (open_command w c))

still_waits : (config : Config) (ss : List Step) (i k : ℕ) (s : Step) (m : Message) → slice_get ss i ≡ Some s → numbered (world_at config ss i).post k ≡ Some m
    → StillWaits s.event k m (world_at config ss (suc i))
still_waits config ss i k s m here posted =
    subst (λ (v : World). StillWaits s.event k m v) (sym (next_world config (opening config) ss i s here)) (kept config (world_at config ss i) s.event k m posted)

pub who_is_down_hears_nothing : OfEveryRun WhoIsDownHearsNothing
who_is_down_hears_nothing config ss run = record {
  call = λ c t a asks i k d down.
      let w : World = world_at config ss i in
      not_down (w.tablets a).stand (both_left (not (is_down (w.tablets a).stand)) (is_ready w a t asks) (comes config ss i k _ run d).received) down;
  entry = λ from to t before index e i k d down. not_down ((world_at config ss i).tablets to).stand (comes config ss i k _ run d).received down;
  ack = λ from to t index i k d down. not_down ((world_at config ss i).tablets to).stand (comes config ss i k _ run d).received down;
  waits = still_waits config ss;
}
