-- Runs that go on by one step.
use Rattle.std.proofs.Common.{◌≡◌, ℕ, ◌+◌, ◌<◌, ◌≤◌, List, [], ◌∷◌, ◌++◌, true, length, refl, ap, sym, subst, ◌∙◌, arith, length-append, zero, suc, Some, None, IsTrue, nat_lt}
use Rattle.std.specs.List.{list_all}
use Rattle.shard_names.proofs.TabletLemmas.{both}
use Rattle.shard_calls.specs.declared.event.Event.{Event}
use Rattle.shard_calls.specs.declared.event.Note.{Note}
use Rattle.shard_calls.specs.declared.event.Reply.{Reply}
use Rattle.shard_calls.specs.declared.event.Step.{Step}
use Rattle.shard_calls.specs.declared.post.Content.{Content}
use Rattle.shard_calls.specs.declared.post.Content.TheVariants as contents
use Rattle.shard_calls.specs.declared.post.Message.{Message}
use Rattle.shard_calls.specs.declared.state.ActorState.{ActorState}
use Rattle.shard_calls.specs.World.{Config, IsConfig, World, opening, numbered}
use Rattle.shard_calls.specs.Table.{meets, answer, change, after, step_of, world_after, IsStep, IsRunFrom, IsRun}
use Rattle.shard_state.specs.State.{Data, config_in, world_seen, seen}
use Rattle.arrivals.specs.Addressed.{is_addressed, AreAddressed}
use Rattle.shard_core.specs.Whole.{IsWhole}
use Rattle.arrivals.specs.Arrivals.{next_offered}
use Rattle.changes.specs.Few.{HaveFewWrites, IsFewContent, AreFew}
use Rattle.changes.specs.Sound.{IsSoundContent, AreSound}
use Rattle.changes.specs.Laws.{with_past}
use Rattle.changes.specs.Makes.{Makes}
use Rattle.changes.proofs.PastLaws.{reads_no_past}
use Rattle.changes.proofs.FewLaws.{few_after}
use Rattle.changes.proofs.SoundLaws.{sound_after, fits_after}
use Rattle.shard_core.specs.Kept.{Kept, kept_of, world_of}
use Rattle.shard_core.proofs.DueLemmas.{open_of_actors}
use Rattle.shard_core.specs.Leads.{Leads}

-- ---- one more step

pub world_after-push : (config : Config) (w : World) (ss : List Step) (s : Step) → world_after config w (ss ++ s ∷ []) ≡ after config (world_after config w ss) s.event
world_after-push config w [] s = refl
world_after-push config w (x ∷ ss) s = world_after-push config (after config w x.event) ss s

pub run-push : (config : Config) (w : World) (ss : List Step) (s : Step) → IsRunFrom config w ss → IsStep config (world_after config w ss) s → IsRunFrom config w (ss ++ s ∷ [])
run-push config w [] s h step = (step, tt)
run-push config w (x ∷ ss) s h step = (h.0, run-push config (after config w x.event) ss s h.1 step)

-- ---- no row reads what is past

pub same_met : (config : Config) (d : Data) (ss : List Step) (e : Event) → meets config (world_seen d ss) e ≡ meets config (seen d) e
same_met config d ss e = reads_no_past.meets config (seen d) ss e

pub same_answer : (config : Config) (d : Data) (ss : List Step) (e : Event) → answer config (world_seen d ss) e ≡ answer config (seen d) e
same_answer config d ss e = reads_no_past.answer config (seen d) ss e

same_step : (config : Config) (d : Data) (ss : List Step) (e : Event) → step_of config (world_seen d ss) e ≡ step_of config (seen d) e
same_step config d ss e = λ i. record { event = e; reply = same_answer config d ss e i }

same_change : (config : Config) (d : Data) (ss ts : List Step) (e : Event)
    → with_past (change config (world_seen d ss) e) ts ≡ with_past (change config (seen d) e) ts
same_change config d ss ts e = reads_no_past.change config (seen d) ss ts e

-- ---- in the world to which the steps have led

pub met_there : (d : Data) (ss : List Step) (e : Event) → Leads d ss → meets (config_in d) (world_after (config_in d) (opening (config_in d)) ss) e ≡ meets (config_in d) (seen d) e
met_there d ss e h = ap (λ (w : World). meets (config_in d) w e) (sym h.world) ∙ same_met (config_in d) d ss e

pub answer_there : (d : Data) (ss : List Step) (e : Event) → Leads d ss → answer (config_in d) (world_after (config_in d) (opening (config_in d)) ss) e ≡ answer (config_in d) (seen d) e
answer_there d ss e h = ap (λ (w : World). answer (config_in d) w e) (sym h.world) ∙ same_answer (config_in d) d ss e

pub offered_there : (d : Data) (ss : List Step) → Leads d ss
    → next_offered (config_in d) (world_after (config_in d) (opening (config_in d)) ss) ≡ next_offered (config_in d) (seen d)
offered_there d ss h = ap (λ (w : World). next_offered (config_in d) w) (sym h.world)

-- as it is seen
pub offered_is : (d : Data) (ss : List Step) (ns : List Note) (k : Kept) → kept_of d ss ns ≡ k → Leads d ss → next_offered k.config (world_of k) ≡ next_offered (config_in d) (seen d)
offered_is d ss ns k is h = ap (λ (x : Kept). next_offered x.config (world_of x)) (sym is) ∙ offered_there d ss h

pub met_is : (d : Data) (ss : List Step) (ns : List Note) (k : Kept) (e : Event) → kept_of d ss ns ≡ k
    → meets k.config (world_of k) e ≡ meets (config_in d) (world_of (kept_of d ss [])) e
met_is d ss ns k e is = ap (λ (x : Kept). meets x.config (world_of x) e) (sym is)

-- ---- numbers are as few among more, and messages are between declared tablets

writes_more : (n m : ℕ) (us : List ActorState) → n ≤ m → HaveFewWrites n us → HaveFewWrites m us
writes_more n m [] le h = tt
writes_more n m (a ∷ us) le h = (omega (arith, le, h.0), writes_more n m us le h.1)

content_more : (n m : ℕ) (c : Content) → n ≤ m → IsFewContent n c → IsFewContent m c
content_more n m (contents.Asks command term to call) le h = tt
content_more n m (contents.Answers command asked from says) le h = tt
content_more n m (contents.Feeds from to term before index e) le h = (omega (arith, le, h.0), omega (arith, le, h.1))
content_more n m (contents.Acks from to term index) le h = omega (arith, le, h)

pub few_more : (n m : ℕ) (w : World) → n ≤ m → AreFew n w → AreFew m w
few_more n m w le h = record {
  term = omega (arith, le, h.term);
  actors = omega (arith, le, h.actors);
  commands = omega (arith, le, h.commands);
  writes = writes_more n m w.actors le h.writes;
  logs = λ a. record { entries = omega (arith, le, (h.logs a).entries); numbers = λ k e here. omega (arith, le, (h.logs a).numbers k e here) };
  contents = λ k c here. content_more n m c.content le (h.contents k c here);
}

addressed_content : (config : Config) (c : Content) → IsSoundContent config c → is_addressed config.tablets c ≡ true
addressed_content config (contents.Asks command term to call) h = h.0
addressed_content config (contents.Answers command asked from says) h = h
addressed_content config (contents.Feeds from to term before index e) h = both _ _ h.0 h.1
addressed_content config (contents.Acks from to term index) h = both _ _ h.0 h.1

addressed_all : (config : Config) (ms : List Message) → ((k : ℕ) (m : Message) → numbered ms k ≡ Some m → IsSoundContent config m.content)
    → list_all (λ m. is_addressed config.tablets m.content) ms ≡ true
addressed_all config [] h = refl
addressed_all config (m ∷ ms) h =
    both _ _ (addressed_content config m.content (h 1 m refl)) (addressed_all config ms later)
  where
    later : (k : ℕ) (x : Message) → numbered ms k ≡ Some x → IsSoundContent config x.content
    later zero x here = absurd (let none : None ≡ Some x = here in cc)
    later (suc k) x here = h (suc (suc k)) x here

pub addressed : (d : Data) → AreSound (config_in d) (seen d) → AreAddressed d
addressed d h = addressed_all (config_in d) d.messages h.post

-- ---- the fields lead on

world_on : (d v : Data) (ss ts : List Step) (e : Event) (reply : Reply) → Leads d ss → Makes d v e reply → ts ≡ ss ++ step_of (config_in d) (seen d) e ∷ []
    → world_seen v ts ≡ world_after (config_in d) (opening (config_in d)) ts
world_on d v ss ts e reply h f more =
    let config : Config = config_in d in
    let s : Step = step_of config (seen d) e in
    let changed : world_seen v ts ≡ with_past (change config (seen d) e) ts = ap (λ (x : World). with_past x ts) f.world in
    let past : ts ≡ ss ++ step_of config (world_seen d ss) e ∷ [] = more ∙ ap (λ (x : Step). ss ++ x ∷ []) (sym (same_step config d ss e)) in
    let stepped : world_seen v ts ≡ after config (world_seen d ss) e =
    changed ∙ sym (same_change config d ss ts e) ∙ ap (λ (xs : List Step). with_past (change config (world_seen d ss) e) xs) past in
    stepped ∙ ap (λ (x : World). after config x e) h.world ∙ sym (world_after-push config (opening config) ss s)
    ∙ ap (λ (xs : List Step). world_after config (opening config) xs) (sym more)

pub step_is : (d : Data) (ss : List Step) (e : Event) → Leads d ss → meets (config_in d) (seen d) e ≡ true
    → IsStep (config_in d) (world_after (config_in d) (opening (config_in d)) ss) (step_of (config_in d) (seen d) e)
step_is d ss e h met = record { met = met_there d ss e h ∙ met; answered = sym (answer_there d ss e h) }

pub leads_on : (d v : Data) (ss ts : List Step) (e : Event) (reply : Reply) → Leads d ss → length ss < 1000000 → meets (config_in d) (seen d) e ≡ true
    → Makes d v e reply → ts ≡ ss ++ step_of (config_in d) (seen d) e ∷ [] → Leads v ts
leads_on d v ss ts e reply h room met f more =
    let config : Config = config_in d in
    let s : Step = step_of config (seen d) e in
    let same : config_in v ≡ config = f.config in
    let size : length ts ≡ length ss + 1 = omega (arith, ap length more, length-append ss (s ∷ [])) in
    record {
      config = subst (λ (x : Config). IsConfig x) (sym same) h.config;
      begins = subst (λ (x : Config). IsTrue (nat_lt x.moment 253370764800000)) (sym same) h.begins;
      run = subst (λ (x : Config). IsRun x ts) (sym same)
          (subst (λ (xs : List Step). IsRun config xs) (sym more) (run-push config (opening config) ss s h.run (step_is d ss e h met)));
      world = world_on d v ss ts e reply h f more ∙ ap (λ (x : Config). world_after x (opening x) ts) (sym same);
      few = subst (λ (n : ℕ). AreFew n (seen v)) (sym size)
          (subst (λ (x : World). AreFew (length ss + 1) x) (sym f.world) (few_after (length ss) config (seen d) e h.sound h.few));
      sound = subst (λ (x : Config). AreSound x (seen v)) (sym same)
          (subst (λ (x : World). AreSound config x) (sym f.world) (sound_after config (seen d) e met h.sound));
      fits = fits_after d v e reply f h.fits;
      room = omega (arith, size, room);
    }

-- ---- what calls ask of the fields

pub whole : (d : Data) (ss : List Step) → Leads d ss → IsWhole d
whole d ss h = record {
  group = h.fits.group;
  known = h.fits.aliases;
  addressed = addressed d h.sound;
  owned = open_of_actors d ss h;
  few = few_more (length ss) 1048576 (seen d) (omega (arith, h.room)) h.few;
  sound = h.sound;
  fits = h.fits;
}
