-- What a command read and recorded, among its deeds and among its acts; and what the causes of NothingToDo and Recorded say of it.
use Rattle.std.proofs.Common.{◌≡◌, ℕ, Bool, true, false, ◌&&◌, ◌||◌, ◌==◌, refl, ap, sym, ◌∙◌, arith, cond, List, [], ◌∷◌, Option, Some, None, Ok, Err}
use Rattle.std.proofs.lemmas.Bool.{false≢true}
use Rattle.std.proofs.lemmas.Bool.Decides.{nat_tests}
use Rattle.std.specs.List.{list_any, filter_map, cons_option}
use Rattle.shard_base.specs.Options.{◌>>=◌}
use Rattle.shard_names.specs.declared.alias.Alias.{Alias}
use Rattle.shard_names.specs.Tablets.{alias_eq}
use Rattle.shard_names.proofs.TabletLemmas.{both_left, both_right, alias_eq_is}
use Rattle.gtid_sets.specs.Position.{Position}
use Rattle.topo_lock.specs.declared.intent.Intent.{Intent}
use Rattle.shard_calls.specs.declared.answer.Answer.TheVariants as says
use Rattle.shard_calls.specs.declared.command.Command.{Command}
use Rattle.shard_calls.specs.declared.command.Command.TheVariants as commands
use Rattle.shard_calls.specs.declared.ending.CommandAnswer.TheVariants as ends
use Rattle.shard_calls.specs.declared.event.Seen.{Seen}
use Rattle.shard_calls.specs.declared.post.Message.{Message}
use Rattle.shard_calls.specs.declared.refusal.Refusal.TheVariants as refusals
use Rattle.shard_calls.specs.declared.span.Asked.{Asked}
use Rattle.shard_calls.specs.declared.span.Deed.{Deed}
use Rattle.shard_calls.specs.declared.span.Deed.TheVariants as deeds
use Rattle.shard_calls.specs.declared.span.Kind.TheVariants as kinds
use Rattle.shard_calls.specs.declared.span.Outcome.{Outcome}
use Rattle.shard_calls.specs.declared.span.Outcome.TheVariants.{Answered, GivenUp}
use Rattle.shard_calls.specs.declared.state.Act.{Act}
use Rattle.shard_calls.specs.declared.state.Act.TheVariants as acts
use Rattle.shard_calls.specs.declared.state.CommandState.{CommandState}
use Rattle.shard_calls.specs.declared.stand.Stand.{Stand}
use Rattle.shard_calls.specs.Causes.{read_passes, any_read, outcome_passes, answer_passes, any_answer, records_it, is_last_intended, is_idle, is_ok_of, stands_promoted, has_command_cause}
use Rattle.shard_calls.specs.Kinds.{kind_eq}
use Rattle.shard_calls.specs.Spans.{asked_by, deed_if_asked, deed_of, span_in, term_wrote}
use Rattle.shard_calls.specs.Stands.{is_primary_of}
use Rattle.shard_calls.specs.World.{Config, World, numbered}
use Rattle.shard_calls.proofs.ListLemmas.{one_passes}
use Rattle.shard_laws.proofs.EndLemmas.{is_shown}

-- ---- deeds and acts

-- the act read what passes the test
abbrev pub reads_so : (Seen → Bool) → Act → Bool
reads_so test (acts.Took reply) = false
reads_so test (acts.Read (Ok seen)) = test seen
reads_so test (acts.Read (Err t)) = false
reads_so test (acts.Intended a reply) = false
reads_so test (acts.Recorded a reply) = false
reads_so test (acts.Drained a reply) = false
reads_so test (acts.Sent k) = false
reads_so test (acts.Wrote a reply) = false
reads_so test (acts.Told committed) = false

-- the act recorded the tablet
abbrev pub records_so : Alias → Act → Bool
records_so a (acts.Took reply) = false
records_so a (acts.Read reply) = false
records_so a (acts.Intended b reply) = false
records_so a (acts.Recorded b (Ok x)) = alias_eq b a
records_so a (acts.Recorded b (Err t)) = false
records_so a (acts.Drained b reply) = false
records_so a (acts.Sent k) = false
records_so a (acts.Wrote b reply) = false
records_so a (acts.Told committed) = false

-- the deed marked the tablet as drained, and so did the act
abbrev pub drains_it : Alias → Deed → Bool
drains_it a (deeds.Drained b (Ok x)) = alias_eq b a
drains_it a _ = false

abbrev pub drains_so : Alias → Act → Bool
drains_so a (acts.Took reply) = false
drains_so a (acts.Read reply) = false
drains_so a (acts.Intended b reply) = false
drains_so a (acts.Recorded b reply) = false
drains_so a (acts.Drained b (Ok x)) = alias_eq b a
drains_so a (acts.Drained b (Err t)) = false
drains_so a (acts.Sent k) = false
drains_so a (acts.Wrote b reply) = false
drains_so a (acts.Told committed) = false

abbrev deed_passes : (Deed → Bool) → Option Deed → Bool
deed_passes p None = false
deed_passes p (Some d) = p d

-- where a deed passes, its act does
any_act : (p : Deed → Bool) (q : Act → Bool) (f : Act → Option Deed) (done : List Act) → ((act : Act) → deed_passes p (f act) ≡ true → q act ≡ true)
    → list_any p (filter_map f done) ≡ true → list_any q done ≡ true
any_act p q f [] each h = absurd (false≢true h)
any_act p q f (act ∷ done) each h = of_option (f act) refl h (λ k. any_act p q f done each k)
  where
    more : (b : Bool) → list_any q done ≡ true → (b || list_any q done) ≡ true
    more true k = refl
    more false k = k

    of_test : (d : Deed) (b : Bool) → f act ≡ Some d → p d ≡ b → (b || list_any p (filter_map f done)) ≡ true
        → (list_any p (filter_map f done) ≡ true → list_any q done ≡ true) → (q act || list_any q done) ≡ true
    of_test d true is passes k rest = ap (λ (b : Bool). b || list_any q done) (each act (ap (λ (o : Option Deed). deed_passes p o) is ∙ passes))
    of_test d false is passes k rest = more (q act) (rest k)

    of_option : (o : Option Deed) → f act ≡ o → list_any p (cons_option o (filter_map f done)) ≡ true
        → (list_any p (filter_map f done) ≡ true → list_any q done ≡ true) → (q act || list_any q done) ≡ true
    of_option None is k rest = more (q act) (rest k)
    of_option (Some d) is k rest = of_test d (p d) is refl k rest

-- no call is what this test looks for
no_call : (p : Deed → Bool) (o : Option Asked) → ((x : Asked) → p (deeds.Asked x) ≡ false) → deed_passes p (deed_if_asked o) ≡ false
no_call p None none = refl
no_call p (Some x) none = none x

pub read_among : (post : List Message) (s : CommandState) (test : Seen → Bool) → any_read test (span_in post s) ≡ true → list_any (reads_so test) s.acts ≡ true
read_among post s test h = any_act (read_passes test) (reads_so test) (deed_of post (term_wrote s.wrote)) s.acts each h
  where
    each : (act : Act) → deed_passes (read_passes test) (deed_of post (term_wrote s.wrote) act) ≡ true → reads_so test act ≡ true
    each (acts.Took reply) k = absurd (false≢true k)
    each (acts.Read (Ok seen)) k = k
    each (acts.Read (Err t)) k = absurd (false≢true k)
    each (acts.Intended a reply) k = absurd (false≢true k)
    each (acts.Recorded a reply) k = absurd (false≢true k)
    each (acts.Drained a reply) k = absurd (false≢true k)
    each (acts.Sent n) k = sym (no_call (read_passes test) (numbered post n >>= (λ m. asked_by post n m m.content)) (λ x. refl)) ∙ k
    each (acts.Wrote a reply) k = absurd (false≢true k)
    each (acts.Told committed) k = absurd (false≢true k)

pub recorded_among : (post : List Message) (s : CommandState) (a : Alias) → list_any (records_it a) (span_in post s) ≡ true → list_any (records_so a) s.acts ≡ true
recorded_among post s a h = any_act (records_it a) (records_so a) (deed_of post (term_wrote s.wrote)) s.acts each h
  where
    each : (act : Act) → deed_passes (records_it a) (deed_of post (term_wrote s.wrote) act) ≡ true → records_so a act ≡ true
    each (acts.Took reply) k = absurd (false≢true k)
    each (acts.Read reply) k = absurd (false≢true k)
    each (acts.Intended b reply) k = absurd (false≢true k)
    each (acts.Recorded b (Ok x)) k = k
    each (acts.Recorded b (Err t)) k = absurd (false≢true k)
    each (acts.Drained b reply) k = absurd (false≢true k)
    each (acts.Sent n) k = sym (no_call (records_it a) (numbered post n >>= (λ m. asked_by post n m m.content)) (λ x. refl)) ∙ k
    each (acts.Wrote b reply) k = absurd (false≢true k)
    each (acts.Told committed) k = absurd (false≢true k)

pub drained_among : (post : List Message) (s : CommandState) (a : Alias) → list_any (drains_it a) (span_in post s) ≡ true → list_any (drains_so a) s.acts ≡ true
drained_among post s a h = any_act (drains_it a) (drains_so a) (deed_of post (term_wrote s.wrote)) s.acts each h
  where
    each : (act : Act) → deed_passes (drains_it a) (deed_of post (term_wrote s.wrote) act) ≡ true → drains_so a act ≡ true
    each (acts.Took reply) k = absurd (false≢true k)
    each (acts.Read reply) k = absurd (false≢true k)
    each (acts.Intended b reply) k = absurd (false≢true k)
    each (acts.Recorded b reply) k = absurd (false≢true k)
    each (acts.Drained b (Ok x)) k = k
    each (acts.Drained b (Err t)) k = absurd (false≢true k)
    each (acts.Sent n) k = sym (no_call (drains_it a) (numbered post n >>= (λ m. asked_by post n m m.content)) (λ x. refl)) ∙ k
    each (acts.Wrote b reply) k = absurd (false≢true k)
    each (acts.Told committed) k = absurd (false≢true k)

pub read_act : (test : Seen → Bool) (act : Act) → reads_so test act ≡ true → (seen : Seen) × (act ≡ acts.Read (Ok seen)) × (is_shown act ≡ true) × (test seen ≡ true)
read_act test (acts.Took reply) h = absurd (false≢true h)
read_act test (acts.Read (Ok seen)) h = (seen, refl, refl, h)
read_act test (acts.Read (Err t)) h = absurd (false≢true h)
read_act test (acts.Intended a reply) h = absurd (false≢true h)
read_act test (acts.Recorded a reply) h = absurd (false≢true h)
read_act test (acts.Drained a reply) h = absurd (false≢true h)
read_act test (acts.Sent k) h = absurd (false≢true h)
read_act test (acts.Wrote a reply) h = absurd (false≢true h)
read_act test (acts.Told committed) h = absurd (false≢true h)

pub recorded_act : (a : Alias) (act : Act) → records_so a act ≡ true → (act ≡ acts.Recorded a (Ok tt)) × (is_shown act ≡ true)
recorded_act a (acts.Took reply) h = absurd (false≢true h)
recorded_act a (acts.Read reply) h = absurd (false≢true h)
recorded_act a (acts.Intended b reply) h = absurd (false≢true h)
recorded_act a (acts.Recorded b (Ok x)) h = (ap (λ (y : Alias). acts.Recorded y (Ok tt)) (alias_eq_is b a h), refl)
recorded_act a (acts.Recorded b (Err t)) h = absurd (false≢true h)
recorded_act a (acts.Drained b reply) h = absurd (false≢true h)
recorded_act a (acts.Sent k) h = absurd (false≢true h)
recorded_act a (acts.Wrote b reply) h = absurd (false≢true h)
recorded_act a (acts.Told committed) h = absurd (false≢true h)

pub drained_act : (a : Alias) (act : Act) → drains_so a act ≡ true → (act ≡ acts.Drained a (Ok tt)) × (is_shown act ≡ true)
drained_act a (acts.Took reply) h = absurd (false≢true h)
drained_act a (acts.Read reply) h = absurd (false≢true h)
drained_act a (acts.Intended b reply) h = absurd (false≢true h)
drained_act a (acts.Recorded b reply) h = absurd (false≢true h)
drained_act a (acts.Drained b (Ok x)) h = (ap (λ (y : Alias). acts.Drained y (Ok tt)) (alias_eq_is b a h), refl)
drained_act a (acts.Drained b (Err t)) h = absurd (false≢true h)
drained_act a (acts.Sent k) h = absurd (false≢true h)
drained_act a (acts.Wrote b reply) h = absurd (false≢true h)
drained_act a (acts.Told committed) h = absurd (false≢true h)

-- ---- intents

pub intended_last : (a : Alias) (o : Option Intent) → is_last_intended a o ≡ true → (x : Intent) × (o ≡ Some x) × (x.alias ≡ a)
intended_last a None h = absurd (false≢true h)
intended_last a (Some x) h = (x, refl, alias_eq_is x.alias a h)

same_number : (m n : ℕ) → (m == n) ≡ true → m ≡ n
same_number m n h = grind (arith, nat_tests)

promoted_stand : (a : Alias) (newest : ℕ) (x : Intent) (t : ℕ) (b : Bool) → is_ok_of t (cond b (Ok x.term) (Err (refusals.NotPromoted a newest))) ≡ true → x.term ≡ t
promoted_stand a newest x t true h = same_number x.term t h
promoted_stand a newest x t false h = absurd (false≢true h)

of_intent : (a : Alias) (o : Option Intent) (t newest seen promised : ℕ) (stand : Stand) (p : Position) → stands_promoted a o t (says.Status seen promised stand newest p) ≡ true
    → (x : Intent) × (o ≡ Some x) × (x.term ≡ t)
of_intent a None t newest seen promised stand p h = absurd (false≢true h)
of_intent a (Some x) t newest seen promised stand p h = (x, refl, promoted_stand a newest x t (is_primary_of stand x.term) h)

of_outcome : (a : Alias) (o : Option Intent) (t : ℕ) (outcome : Option Outcome) → outcome_passes (stands_promoted a o t) outcome ≡ true
    → (x : Intent) × (o ≡ Some x) × (x.term ≡ t)
of_outcome a o t None h = absurd (false≢true h)
of_outcome a o t (Some (GivenUp why)) h = absurd (false≢true h)
of_outcome a o t (Some (Answered (says.Status seen promised stand newest p))) h = of_intent a o t newest seen promised stand p h
of_outcome a o t (Some (Answered (says.Stopped newest p))) h = absurd (false≢true h)
of_outcome a o t (Some (Answered (says.Demoted newest p))) h = absurd (false≢true h)
of_outcome a o t (Some (Answered (says.Promoted p))) h = absurd (false≢true h)
of_outcome a o t (Some (Answered says.Joined)) h = absurd (false≢true h)
of_outcome a o t (Some (Answered says.Feeding)) h = absurd (false≢true h)
of_outcome a o t (Some (Answered says.Holds)) h = absurd (false≢true h)
of_outcome a o t (Some (Answered says.Told)) h = absurd (false≢true h)
of_outcome a o t (Some (Answered says.NotTold)) h = absurd (false≢true h)
of_outcome a o t (Some (Answered (says.Kept stand))) h = absurd (false≢true h)
of_outcome a o t (Some (Answered (says.StaleTerm seen))) h = absurd (false≢true h)
of_outcome a o t (Some (Answered (says.PromisedAhead promised))) h = absurd (false≢true h)
of_outcome a o t (Some (Answered (says.NotCaughtUp missing))) h = absurd (false≢true h)
of_outcome a o t (Some (Answered (says.Errant extra))) h = absurd (false≢true h)
of_outcome a o t (Some (Answered (says.NotStanding newest))) h = absurd (false≢true h)

of_deed : (a : Alias) (o : Option Intent) (t : ℕ) (d : Deed) → answer_passes kinds.Status a (stands_promoted a o t) d ≡ true → (x : Intent) × (o ≡ Some x) × (x.term ≡ t)
of_deed a o t (deeds.Asked x) h =
    of_outcome a o t x.outcome (both_right (kind_eq x.kind kinds.Status && alias_eq x.alias a) (outcome_passes (stands_promoted a o t) x.outcome) h)
of_deed a o t (deeds.Took reply) h = absurd (false≢true h)
of_deed a o t (deeds.Read reply) h = absurd (false≢true h)
of_deed a o t (deeds.Intended b reply) h = absurd (false≢true h)
of_deed a o t (deeds.Recorded b reply) h = absurd (false≢true h)
of_deed a o t (deeds.Drained b reply) h = absurd (false≢true h)
of_deed a o t (deeds.Wrote b reply) h = absurd (false≢true h)
of_deed a o t (deeds.Told committed) h = absurd (false≢true h)

-- where a tablet stands as the primary of the last intent, there is one, of this term
pub promoted_intent : (a : Alias) (o : Option Intent) (t : ℕ) (span : List Deed) → any_answer kinds.Status a (stands_promoted a o t) span ≡ true
    → (x : Intent) × (o ≡ Some x) × (x.term ≡ t)
promoted_intent a o t span h = let r = one_passes (answer_passes kinds.Status a (stands_promoted a o t)) span h in of_deed a o t r.0 r.2

-- ---- causes

pub nothing_cause : (config : Config) (w : World) (s : CommandState) (command : Command) (a : Alias) → has_command_cause config w s command (ends.NothingToDo a) ≡ true
    → any_read (λ seen. is_last_intended a seen.intent) (span_in w.post s) ≡ true
nothing_cause config w s (commands.Planned shard given avoid expected timeout crossing) a h =
    both_right (is_idle avoid a) (any_read (λ seen. is_last_intended a seen.intent) (span_in w.post s)) h
nothing_cause config w s (commands.Emergency shard given ignored expected timeout preventing) a h = absurd (false≢true h)
nothing_cause config w s (commands.External b) a h = absurd (false≢true h)
nothing_cause config w s (commands.Write to) a h = absurd (false≢true h)
nothing_cause config w s (commands.Show b) a h = absurd (false≢true h)
nothing_cause config w s commands.Vtorc a h = absurd (false≢true h)
nothing_cause config w s (commands.GetShard shard) a h = absurd (false≢true h)
nothing_cause config w s (commands.GetTablets shard) a h = absurd (false≢true h)

pub recorded_cause : (config : Config) (w : World) (s : CommandState) (command : Command) (t : ℕ) → has_command_cause config w s command (ends.Recorded t) ≡ true
    → (a : Alias) × (any_read (λ seen. any_answer kinds.Status a (stands_promoted a seen.intent t) (span_in w.post s)) (span_in w.post s) ≡ true)
    × (list_any (records_it a) (span_in w.post s) ≡ true) × (command ≡ commands.External a)
recorded_cause config w s (commands.External b) t h =
    let read : Bool = any_read (λ seen. any_answer kinds.Status b (stands_promoted b seen.intent t) (span_in w.post s)) (span_in w.post s) in
    (b, both_left read (list_any (records_it b) (span_in w.post s)) h, both_right read (list_any (records_it b) (span_in w.post s)) h, refl)
recorded_cause config w s (commands.Planned shard given avoid expected timeout crossing) t h = absurd (false≢true h)
recorded_cause config w s (commands.Emergency shard given ignored expected timeout preventing) t h = absurd (false≢true h)
recorded_cause config w s (commands.Write to) t h = absurd (false≢true h)
recorded_cause config w s (commands.Show b) t h = absurd (false≢true h)
recorded_cause config w s commands.Vtorc t h = absurd (false≢true h)
recorded_cause config w s (commands.GetShard shard) t h = absurd (false≢true h)
recorded_cause config w s (commands.GetTablets shard) t h = absurd (false≢true h)
