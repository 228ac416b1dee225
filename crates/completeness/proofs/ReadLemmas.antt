-- What a command's span shows as read of the topology it read with a step. Commands are those of vtctldclient (Vitess manual).
use Rattle.std.proofs.Common.{◌≡◌, ℕ, zero, suc, true, false, List, [], ◌∷◌, take, Option, Some, None, Result, Ok, Err, refl, sym, ap, ◌∙◌}
use Rattle.std.specs.List.{slice_get, filter_map, cons_option}
use Rattle.shard_base.specs.Options.{◌>>=◌}
use Rattle.shard_calls.specs.declared.event.Event.{Event}
use Rattle.shard_calls.specs.declared.event.Event.TheVariants as events
use Rattle.shard_calls.specs.declared.event.Reply.{Reply}
use Rattle.shard_calls.specs.declared.event.Reply.TheVariants as replies
use Rattle.shard_calls.specs.declared.event.Seen.{Seen}
use Rattle.shard_calls.specs.declared.event.Step.{Step}
use Rattle.shard_calls.specs.declared.post.Message.{Message}
use Rattle.shard_calls.specs.declared.span.Asked.{Asked}
use Rattle.shard_calls.specs.declared.span.Deed.TheVariants as deeds
use Rattle.shard_calls.specs.declared.state.Act.{Act}
use Rattle.shard_calls.specs.declared.state.Act.TheVariants as acts
use Rattle.shard_calls.specs.declared.state.CommandState.{CommandState}
use Rattle.shard_calls.specs.Answered.{act_of}
use Rattle.shard_calls.specs.Spans.{asked_by, deed_if_asked, deed_of, span_at, span_of, term_wrote, written_in}
use Rattle.shard_calls.specs.Table.{answer, IsRun}
use Rattle.shard_calls.specs.World.{Config, opening, numbered}
use Rattle.shard_calls.specs.Promotions.{world_at}
use Rattle.shard_calls.proofs.RunLemmas.{step_along}
use Rattle.shard_laws.proofs.EndLemmas.{DoneBy, ByRead, ByRecord, ByDrain, BySend, ByTold, ByGone, ByEntry, ByRefusal, done_by}
use Rattle.courses.specs.Sound.{IsRead}
use Rattle.completeness.specs.Planned.{HasRead}
use Rattle.completeness.proofs.CallLemmas.{acts_so_far, place_in}

-- ---- what the span shows that it read, it read with a step

pub record Came {A B : Type 0} (f : A → Option B) (xs : List A) (y : B) : Type 0 where
  pub place : ℕ
  pub it : A
  pub at : slice_get xs place ≡ Some it
  pub gives : f it ≡ Some y

pub came : {A B : Type 0} (f : A → Option B) (xs : List A) (n : ℕ) (y : B) → slice_get (filter_map f xs) n ≡ Some y → Came f xs y
came f [] n y h = absurd (let none : None ≡ Some y = h in cc)
came {A} {B} f (x ∷ xs) n y h = of_option (f x) n refl h (λ k at. came f xs k y at)
  where
    deeper : Came f xs y → Came f (x ∷ xs) y
    deeper c = record { place = suc c.place; it = c.it; at = c.at; gives = c.gives }

    of_option : (o : Option B) (k : ℕ) → f x ≡ o → slice_get (cons_option o (filter_map f xs)) k ≡ Some y
        → ((i : ℕ) → slice_get (filter_map f xs) i ≡ Some y → Came f xs y) → Came f (x ∷ xs) y
    of_option None k is at rest = deeper (rest k at)
    of_option (Some z) zero is at rest = record { place = 0; it = x; at = refl; gives = is ∙ at }
    of_option (Some z) (suc i) is at rest = deeper (rest i at)

of_front : {A : Type 0} (xs : List A) (i n : ℕ) (x : A) → slice_get (take i xs) n ≡ Some x → slice_get xs n ≡ Some x
of_front [] zero n x h = h
of_front [] (suc i) n x h = h
of_front (y ∷ xs) zero n x h = absurd (let none : None ≡ Some x = h in cc)
of_front (y ∷ xs) (suc i) zero x h = h
of_front (y ∷ xs) (suc i) (suc n) x h = of_front xs i n x h

asked_is : (o : Option Asked) (seen : Seen) → deed_if_asked o ≡ Some (deeds.Read (Ok seen)) → ⊥
asked_is None seen h = let none : None ≡ Some (deeds.Read (Ok seen)) = h in cc
asked_is (Some x) seen h = let wrong : Some (deeds.Asked x) ≡ Some (deeds.Read (Ok seen)) = h in cc

read_act : (post : List Message) (u : ℕ) (act : Act) (seen : Seen) → deed_of post u act ≡ Some (deeds.Read (Ok seen)) → act ≡ acts.Read (Ok seen)
read_act post u (acts.Took reply) seen h = absurd (let wrong : Some (deeds.Took reply) ≡ Some (deeds.Read (Ok seen)) = h in cc)
read_act post u (acts.Read reply) seen h =
    let same : reply ≡ Ok seen = (let both : Some (deeds.Read reply) ≡ Some (deeds.Read (Ok seen)) = h in cc) in ap (λ (r : Result Seen ℕ). acts.Read r) same
read_act post u (acts.Intended a reply) seen h = absurd (let wrong : Some (deeds.Intended a reply) ≡ Some (deeds.Read (Ok seen)) = h in cc)
read_act post u (acts.Recorded a reply) seen h = absurd (let wrong : Some (deeds.Recorded a reply) ≡ Some (deeds.Read (Ok seen)) = h in cc)
read_act post u (acts.Drained a reply) seen h = absurd (let wrong : Some (deeds.Drained a reply) ≡ Some (deeds.Read (Ok seen)) = h in cc)
read_act post u (acts.Sent k) seen h = absurd (asked_is (numbered post k >>= (λ m. asked_by post k m m.content)) seen h)
read_act post u (acts.Wrote a reply) seen h = absurd (let wrong : Some (deeds.Wrote a (written_in u reply)) ≡ Some (deeds.Read (Ok seen)) = h in cc)
read_act post u (acts.Told committed) seen h = absurd (let wrong : Some (deeds.Told committed) ≡ Some (deeds.Read (Ok seen)) = h in cc)

by_read : (c : ℕ) (seen : Seen) (e : Event) (r : Reply) (act : Act) → DoneBy c e r act → act ≡ acts.Read (Ok seen) → (e ≡ events.Read c) × (r ≡ replies.Read seen)
by_read c seen _ _ _ (ByRead other) h =
    let same : other ≡ seen = (let both : acts.Read (Ok other) ≡ acts.Read (Ok seen) = h in cc) in (refl, ap (λ (s : Seen). replies.Read s) same)
by_read c seen _ _ _ (ByRecord a) h = absurd (let wrong : acts.Recorded a (Ok tt) ≡ acts.Read (Ok seen) = h in cc)
by_read c seen _ _ _ (ByDrain a) h = absurd (let wrong : acts.Drained a (Ok tt) ≡ acts.Read (Ok seen) = h in cc)
by_read c seen _ _ _ (BySend a call k) h = absurd (let wrong : acts.Sent k ≡ acts.Read (Ok seen) = h in cc)
by_read c seen _ _ _ ByTold h = absurd (let wrong : acts.Told true ≡ acts.Read (Ok seen) = h in cc)
by_read c seen _ _ _ ByGone h = absurd (let wrong : acts.Told false ≡ acts.Read (Ok seen) = h in cc)
by_read c seen _ _ _ (ByEntry a g) h = absurd (let wrong : acts.Wrote a (Ok g) ≡ acts.Read (Ok seen) = h in cc)
by_read c seen _ _ _ (ByRefusal a at) h = absurd (let wrong : acts.Wrote a (Err at) ≡ acts.Read (Ok seen) = h in cc)

pub has_read : (config : Config) (ss : List Step) (c j : ℕ) (seen : Seen) → IsRun config ss → IsRead (span_of (world_at config ss j) c) seen → HasRead ss c seen
has_read config ss c j seen run is = of_state (numbered (world_at config ss j).commands c) refl (place_in (span_of (world_at config ss j) c) (deeds.Read (Ok seen)) is)
  where
    of_act : (s : CommandState) → numbered (world_at config ss j).commands c ≡ Some s → (n : ℕ) → slice_get s.acts n ≡ Some (acts.Read (Ok seen)) → HasRead ss c seen
    of_act s here n at =
        let steps = came (λ (x : Step). act_of c x.event x.reply) (take j ss) n (acts.Read (Ok seen))
        (ap (λ (l : List Act). slice_get l n) (sym (acts_so_far config ss j c s run here)) ∙ at) in
        let there = of_front ss j steps.place steps.it steps.at in
        let step = step_along config (opening config) ss steps.place steps.it run there in
        let done = done_by config (world_at config ss steps.place) c steps.it.event (acts.Read (Ok seen))
        (ap (λ (r : Reply). act_of c steps.it.event r) (sym step.answered) ∙ steps.gives) refl in
        let by = by_read c seen steps.it.event (answer config (world_at config ss steps.place) steps.it.event) (acts.Read (Ok seen)) done refl in (
          steps.place,
          there ∙ ap (λ (e : Event). let y : Step = record { event = e; reply = steps.it.reply } in Some y) by.0
              ∙ ap (λ (r : Reply). let y : Step = record { event = events.Read c; reply = r } in Some y) (step.answered ∙ by.1),
        )

    of_state : (o : Option CommandState) → numbered (world_at config ss j).commands c ≡ o
        → (n : ℕ) × (slice_get (span_at (world_at config ss j).post o) n ≡ Some (deeds.Read (Ok seen))) → HasRead ss c seen
    of_state None here at = absurd (let none : None ≡ Some (deeds.Read (Ok seen)) = at.1 in cc)
    of_state (Some s) here at =
        let post : List Message = (world_at config ss j).post in
        let u : ℕ = term_wrote s.wrote in
        let act = came (deed_of post u) s.acts at.0 (deeds.Read (Ok seen)) at.1 in
        of_act s here act.place (act.at ∙ ap (λ (a : Act). Some a) (read_act post u act.it seen act.gives))
