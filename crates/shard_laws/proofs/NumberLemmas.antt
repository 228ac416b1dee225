-- That the writes of an actor are numbered without a gap.
use Rattle.std.proofs.Common.{◌≡◌, ◌≤◌, ℕ, zero, suc, ◌+◌, Bool, true, false, not, nat_lt, refl, ap, sym, subst, ◌∙◌, arith, cond, List, [], ◌∷◌, ◌++◌, take, Option, Some, None, option_map, length}
use Rattle.std.proofs.lemmas.Bool.{false≢true}
use Rattle.std.proofs.lemmas.Bool.Decides.{nat_tests}
use Rattle.std.proofs.lemmas.Slice.Eq.{bytes_eq-Decides}
use Rattle.std.specs.List.{slice_get, filter, position, position_or_len}
use Rattle.std.specs.Str.{bytes_eq}
use Rattle.shard_base.specs.Options.{◌>>=◌}
use Rattle.shard_names.specs.declared.alias.Alias.{Alias}
use Rattle.shard_names.specs.declared.tablet.Tablet.{Tablet}
use Rattle.shard_names.specs.Tablets.{tablet_of}
use Rattle.shard_calls.specs.declared.command.Command.{Command}
use Rattle.shard_calls.specs.declared.command.Command.TheVariants as commands
use Rattle.shard_calls.specs.declared.event.Event.{Event}
use Rattle.shard_calls.specs.declared.event.Event.TheVariants as events
use Rattle.shard_calls.specs.declared.event.Reply.TheVariants as replies
use Rattle.shard_calls.specs.declared.event.Step.{Step}
use Rattle.shard_calls.specs.declared.outcome.Accepted.{Accepted}
use Rattle.shard_calls.specs.declared.outcome.Accepted.TheVariants as accepteds
use Rattle.shard_calls.specs.declared.post.Content.{Content}
use Rattle.shard_calls.specs.declared.post.Content.TheVariants as contents
use Rattle.shard_calls.specs.declared.post.Message.{Message}
use Rattle.shard_calls.specs.declared.state.Act.{Act}
use Rattle.shard_calls.specs.declared.state.ActorState.{ActorState}
use Rattle.shard_calls.specs.declared.state.CommandState.{CommandState}
use Rattle.shard_calls.specs.declared.why.Why.{Why}
use Rattle.shard_calls.specs.Tablets.{TabletState}
use Rattle.shard_calls.specs.World.{Config, World, opening, idle_actor, main_name, changed, place_of, numbered, on_message, arrives, open_command, term_of}
use Rattle.shard_calls.specs.Messages.{why_given_up, offer_to}
use Rattle.shard_calls.specs.Begins.{writes_by, writes_at_place, client_at, client_of, joined_at, with_actor, opens, number_of, begun_state, closes, ends_by}
use Rattle.shard_calls.specs.Locks.{takes_by, by_term, reads, intends_in, records_in, drains_in, releases_in}
use Rattle.shard_calls.specs.Deliveries.{if_declared, asked, fed, feed_verdict, after_arrival, after_delivery, gives_up, offers}
use Rattle.shard_calls.specs.Writes.{writes_in, writes_at, told_act, with_told, tell_of}
use Rattle.shard_calls.specs.Table.{after, world_after, IsStep, IsRun}
use Rattle.shard_calls.specs.Promotions.{world_at}
use Rattle.shard_calls.specs.RunLaws.{OfEveryRun}
use Rattle.shard_calls.proofs.ListLemmas.{at_end}
use Rattle.shard_calls.proofs.RunLemmas.{step_along, next_world}
use Rattle.shard_laws.specs.Network.{begins_write, writes_begun, HasNumber, WriteNumbersHaveNoGaps}
use Rattle.shard_laws.proofs.TraceLemmas.{climb}
use Rattle.shard_laws.proofs.CommandLemmas.{change_of, forward, NextIs, AtEnd, BySteps, next_is}

-- ---- the first that passes

position_step : (p : ActorState → Bool) (a : ActorState) (us : List ActorState) → position p (a ∷ us) ≡ cond (p a) (Some 0) (option_map (λ (k : ℕ). suc k) (position p us))
position_step p a us = of_test (p a)
  where
    further : (b : Bool) → (k : ℕ) → cond b (Some (1 + k)) None ≡ option_map (λ (n : ℕ). suc n) (cond b (Some k) None)
    further true k = let one : 1 + k ≡ suc k = omega arith in ap (λ (n : ℕ). Some n) one
    further false k = refl

    of_test : (b : Bool)
        → cond (nat_lt (cond (not b) (1 + position_or_len p us) 0) (length (a ∷ us))) (Some (cond (not b) (1 + position_or_len p us) 0)) None
        ≡ cond b (Some 0) (option_map (λ (k : ℕ). suc k) (position p us))
    of_test true = let first : nat_lt 0 (length (a ∷ us)) ≡ true = grind (arith, nat_tests) in ap (λ (c : Bool). cond {A = Option ℕ} c (Some 0) None) first
    of_test false =
        let deeper : nat_lt (1 + position_or_len p us) (length (a ∷ us)) ≡ nat_lt (position_or_len p us) (length us) = grind (arith, nat_tests) in
        ap (λ (c : Bool). cond c (Some (1 + position_or_len p us)) None) deeper ∙ further (nat_lt (position_or_len p us) (length us)) (position_or_len p us)

-- ---- the writes of one actor

-- how many writes the actor of this name has begun
abbrev writes_of : List ℕ → List ActorState → ℕ
writes_of name [] = 0
writes_of name (a ∷ us) = cond (bytes_eq a.name name) a.writes (writes_of name us)

-- the actors, of whom the one of this name changes, or comes to the end
abbrev opened : List ℕ → (ActorState → ActorState) → List ActorState → List ActorState
opened name f [] = f (idle_actor name) ∷ []
opened name f (a ∷ us) = cond (bytes_eq a.name name) (f a ∷ us) (a ∷ opened name f us)

opened_is : (name : List ℕ) (f : ActorState → ActorState) (us : List ActorState) (o : Option ℕ) → place_of us name ≡ o
    → changed (joined_at us name o) (client_at us o) f ≡ opened name f us
opened_is name f [] None is = refl
opened_is name f [] (Some k) is = absurd (let none : None ≡ Some k = is in cc)
opened_is name f (a ∷ us) o is = of_test (bytes_eq a.name name) refl (sym (position_step (λ x. bytes_eq x.name name) a us) ∙ is) (opened_is name f us (place_of us name) refl)
  where
    of_place : (p : Option ℕ) → option_map (λ (k : ℕ). suc k) p ≡ o → changed (joined_at us name p) (client_at us p) f ≡ opened name f us
        → changed (joined_at (a ∷ us) name o) (client_at (a ∷ us) o) f ≡ a ∷ opened name f us
    of_place None h rest = subst (λ (q : Option ℕ). changed (joined_at (a ∷ us) name q) (client_at (a ∷ us) q) f ≡ a ∷ opened name f us) h (ap (λ (l : List ActorState). a ∷ l) rest)
    of_place (Some k) h rest = subst (λ (q : Option ℕ). changed (joined_at (a ∷ us) name q) (client_at (a ∷ us) q) f ≡ a ∷ opened name f us) h (ap (λ (l : List ActorState). a ∷ l) rest)

    of_test : (b : Bool) → bytes_eq a.name name ≡ b → cond b (Some 0) (option_map (λ (k : ℕ). suc k) (place_of us name)) ≡ o
        → changed (joined_at us name (place_of us name)) (client_at us (place_of us name)) f ≡ opened name f us
        → changed (joined_at (a ∷ us) name o) (client_at (a ∷ us) o) f ≡ cond b (f a ∷ us) (a ∷ opened name f us)
    of_test true e h rest = subst (λ (q : Option ℕ). changed (joined_at (a ∷ us) name q) (client_at (a ∷ us) q) f ≡ f a ∷ us) h refl
    of_test false e h rest = of_place (place_of us name) h rest

nothing_before : (n : ℕ) → n ≡ 0 + n
nothing_before n = omega arith

number_is : (name : List ℕ) (command : Command) (us : List ActorState) → number_of us name command ≡ writes_of name us + writes_by command
number_is name command [] = nothing_before (writes_by command)
number_is name command (a ∷ us) =
    ap (λ (o : Option ℕ). writes_at_place (o >>= (λ k. slice_get (a ∷ us) k)) command) (position_step (λ x. bytes_eq x.name name) a us)
    ∙ of_test (bytes_eq a.name name) (number_is name command us)
  where
    deeper : (o : Option ℕ) → writes_at_place (option_map (λ (k : ℕ). suc k) o >>= (λ k. slice_get (a ∷ us) k)) command ≡ writes_at_place (o >>= (λ k. slice_get us k)) command
    deeper None = refl
    deeper (Some k) = refl

    of_test : (b : Bool) → number_of us name command ≡ writes_of name us + writes_by command
        → writes_at_place (cond b (Some 0) (option_map (λ (k : ℕ). suc k) (place_of us name)) >>= (λ k. slice_get (a ∷ us) k)) command
        ≡ cond b a.writes (writes_of name us) + writes_by command
    of_test true rest = refl
    of_test false rest = deeper (place_of us name) ∙ rest

-- ---- one more write

abbrev more_if : Bool → ℕ → ℕ
more_if b n = cond b n 0

named : (xs ys : List ℕ) → bytes_eq xs ys ≡ true → xs ≡ ys
named xs ys h = (bytes_eq-Decides xs ys).0 h

itself : (xs : List ℕ) → bytes_eq xs xs ≡ true
itself xs = (bytes_eq-Decides xs xs).1 refl

nothing_more : (n : ℕ) → n ≡ n + 0
nothing_more n = omega arith

writes_opened : (name other : List ℕ) (n : ℕ) (command : Command) (us : List ActorState)
    → writes_of other (opened name (opens n command) us) ≡ writes_of other us + more_if (bytes_eq name other) (writes_by command)
writes_opened name other n command [] = of_test (bytes_eq name other)
  where
    of_test : (b : Bool) → cond b (0 + writes_by command) 0 ≡ 0 + cond b (writes_by command) 0
    of_test true = refl
    of_test false = nothing_before 0
writes_opened name other n command (a ∷ us) = of_test (bytes_eq a.name name) refl (writes_opened name other n command us)
  where
    -- the actor itself
    own : (b : Bool) → bytes_eq name other ≡ b → bytes_eq a.name name ≡ true
        → cond (bytes_eq a.name other) (a.writes + writes_by command) (writes_of other us)
        ≡ cond (bytes_eq a.name other) a.writes (writes_of other us) + cond b (writes_by command) 0
    own true e is =
        let same : bytes_eq a.name other ≡ true = ap (λ (x : List ℕ). bytes_eq x other) (named a.name name is) ∙ e in
        rw same refl
    own false e is =
        let other_one : bytes_eq a.name other ≡ false = ap (λ (x : List ℕ). bytes_eq x other) (named a.name name is) ∙ e in
        rw other_one (nothing_more (writes_of other us))

    -- another one
    else_one : (b c : Bool) → bytes_eq name other ≡ b → bytes_eq a.name other ≡ c → bytes_eq a.name name ≡ false
        → writes_of other (opened name (opens n command) us) ≡ writes_of other us + cond b (writes_by command) 0
        → cond c a.writes (writes_of other (opened name (opens n command) us)) ≡ cond c a.writes (writes_of other us) + cond b (writes_by command) 0
    else_one b false e f is rest = rest
    else_one false true e f is rest = nothing_more a.writes
    else_one true true e f is rest =
        let same : bytes_eq a.name name ≡ true = ap (λ (x : List ℕ). bytes_eq x name) (named a.name other f ∙ sym (named name other e)) ∙ itself name in
        absurd (false≢true (sym is ∙ same))

    of_test : (b : Bool) → bytes_eq a.name name ≡ b
        → writes_of other (opened name (opens n command) us) ≡ writes_of other us + more_if (bytes_eq name other) (writes_by command)
        → writes_of other (cond b (opens n command a ∷ us) (a ∷ opened name (opens n command) us))
        ≡ cond (bytes_eq a.name other) a.writes (writes_of other us) + more_if (bytes_eq name other) (writes_by command)
    of_test true is rest = own (bytes_eq name other) refl is
    of_test false is rest = else_one (bytes_eq name other) (bytes_eq a.name other) refl refl is rest

-- ---- what a step does to the actors

abbrev one_begun : List ℕ → Event → ℕ
one_begun name e = more_if (begins_write name e) 1

abbrev Counts : World → List ActorState → Event → Type 0
Counts w new e = (name : List ℕ) → writes_of name new ≡ writes_of name w.actors + one_begun name e

no_more : (b : Bool) → more_if b 0 ≡ 0
no_more true = refl
no_more false = refl

begin_counts : (w : World) (name : List ℕ) (command : Command) → Counts w (changed (with_actor w.actors name) (client_of w.actors name) (opens (length w.commands + 1) command)) (events.Begin name command)
begin_counts w name command other =
    ap (λ (us : List ActorState). writes_of other us) (opened_is name (opens (length w.commands + 1) command) w.actors (place_of w.actors name) refl)
    ∙ writes_opened name other (length w.commands + 1) command w.actors
    ∙ ap (λ (n : ℕ). writes_of other w.actors + n) (of_command command)
  where
    of_command : (k : Command) → more_if (bytes_eq name other) (writes_by k) ≡ one_begun other (events.Begin name k)
    of_command (commands.Planned shard new_primary avoid expected timeout allow_cross_cell) = no_more (bytes_eq name other)
    of_command (commands.Emergency shard new_primary ignored expected timeout prevent_cross_cell) = no_more (bytes_eq name other)
    of_command (commands.External a) = no_more (bytes_eq name other)
    of_command commands.Vtorc = no_more (bytes_eq name other)
    of_command (commands.Write to) = refl
    of_command (commands.Show a) = no_more (bytes_eq name other)
    of_command (commands.GetShard shard) = no_more (bytes_eq name other)
    of_command (commands.GetTablets shard) = no_more (bytes_eq name other)

same : (w : World) (new : List ActorState) (name : List ℕ) → new ≡ w.actors → writes_of name new ≡ writes_of name w.actors + 0
same w new name is = ap (λ (us : List ActorState). writes_of name us) is ∙ nothing_more (writes_of name w.actors)

take_same : (w : World) (c : ℕ) (o : Option CommandState) → (takes_by w c o).actors ≡ w.actors
take_same w c None = refl
take_same w c (Some s) = refl

by_same : (w : World) (f : ℕ → World) (o : Option ℕ) → ((t : ℕ) → (f t).actors ≡ w.actors) → (by_term o w f).actors ≡ w.actors
by_same w f None h = refl
by_same w f (Some t) h = h t

declared_same : (w : World) (f : Tablet → World) (o : Option Tablet) → ((me : Tablet) → (f me).actors ≡ w.actors) → (if_declared o w f).actors ≡ w.actors
declared_same w f None h = refl
declared_same w f (Some me) h = h me

fed_same : (w : World) (from to : Alias) (term index : ℕ) (s : TabletState) (says : Accepted) → (fed w from to term index s says).actors ≡ w.actors
fed_same w from to term index s accepteds.Taken = refl
fed_same w from to term index s accepteds.Ignored = refl

arrival_same : (config : Config) (w : World) (k : ℕ) (content : Content) → (after_arrival config w k content).actors ≡ w.actors
arrival_same config w k (contents.Asks c u a call) = declared_same w (asked w k c u a call) (tablet_of config.tablets a) (λ me. refl)
arrival_same config w k (contents.Answers c call a says) = refl
arrival_same config w k (contents.Feeds from to term before index e) = fed_same w from to term index _ (feed_verdict w from to term before index e).says
arrival_same config w k (contents.Acks from to term index) = refl

delivery_same : (config : Config) (w : World) (k : ℕ) (o : Option Message) → (after_delivery config w k o).actors ≡ w.actors
delivery_same config w k None = refl
delivery_same config w k (Some m) = arrival_same config (on_message w k (arrives w.clock)) k m.content

up_same : (w : World) (k : ℕ) (o : Option Why) → (gives_up w k o).actors ≡ w.actors
up_same w k None = refl
up_same w k (Some why) = refl

offer_same : (w : World) (o : Option Content) → (offers w o).actors ≡ w.actors
offer_same w None = refl
offer_same w (Some content) = refl

write_same : (config : Config) (w : World) (c : ℕ) (a : Alias) (o : Option CommandState) → (writes_in config w c a o).actors ≡ w.actors
write_same config w c a None = refl
write_same config w c a (Some s) = declared_same w (writes_at w c a s) (tablet_of config.tablets a) (λ me. refl)

told_same : (w : World) (c : ℕ) (o : Option Act) → (with_told w c o).actors ≡ w.actors
told_same w c None = refl
told_same w c (Some act) = refl

-- who closes a command has begun as many writes as before
closed_same : (name : List ℕ) (us : List ActorState) (k : ℕ) → writes_of name (changed us k closes) ≡ writes_of name us
closed_same name [] k = refl
closed_same name (a ∷ us) zero = refl
closed_same name (a ∷ us) (suc k) = ap (λ (n : ℕ). cond (bytes_eq a.name name) a.writes n) (closed_same name us k)

end_counts : (w : World) (c : ℕ) (name : List ℕ) (o : Option CommandState) → writes_of name (ends_by w c o).actors ≡ writes_of name w.actors + 0
end_counts w c name None = nothing_more (writes_of name w.actors)
end_counts w c name (Some s) = closed_same name w.actors s.client ∙ nothing_more (writes_of name w.actors)

counts : (config : Config) (w : World) (e : Event) → Counts w (after config w e).actors e
counts config w (events.Begin name command) other = begin_counts w name command other
counts config w (events.Take c) name = same w _ name (take_same w c (open_command w c))
counts config w (events.Read c) name = same w _ name (by_same w (reads w c) (term_of w c) (λ t. refl))
counts config w (events.Intend c a) name = same w _ name (by_same w (intends_in w c a) (term_of w c) (λ t. refl))
counts config w (events.Record c a) name = same w _ name (by_same w (records_in w c a) (term_of w c) (λ t. refl))
counts config w (events.Drain c a) name = same w _ name (by_same w (drains_in w c a) (term_of w c) (λ t. refl))
counts config w (events.Release c) name = same w _ name (by_same w (releases_in w c) (term_of w c) (λ t. refl))
counts config w events.Lapse name = same w _ name refl
counts config w (events.Send c a call) name = same w _ name refl
counts config w (events.Deliver k) name = same w _ name (delivery_same config w k (numbered w.post k))
counts config w (events.GiveUp c k) name = same w _ name (up_same w k (why_given_up w c k))
counts config w (events.Offer r) name = same w _ name (offer_same w (offer_to w r))
counts config w (events.Write c a) name = same w _ name (write_same config w c a (open_command w c))
counts config w (events.Tell c) name = same w _ name (told_same w c (tell_of w c >>= told_act))
counts config w (events.Local a) name = same w _ name (declared_same w _ (tablet_of config.tablets a) (λ me. refl))
counts config w (events.Crash a keep) name = same w _ name refl
counts config w (events.Restart a) name = same w _ name refl
counts config w (events.Cut x y) name = same w _ name refl
counts config w (events.Mend x y) name = same w _ name refl
counts config w (events.Lose k) name = same w _ name refl
counts config w (events.Tick ms) name = same w _ name refl
counts config w (events.End c x) name = end_counts w c name (open_command w c)

-- ---- along a history

begun_first : (name : List ℕ) (s : Step) (ss : List Step) → writes_begun name (s ∷ ss) ≡ one_begun name s.event + writes_begun name ss
begun_first name s ss = of_test (begins_write name s.event)
  where
    of_test : (b : Bool) → length (cond b (s ∷ filter (λ (x : Step). begins_write name x.event) ss) (filter (λ (x : Step). begins_write name x.event) ss))
        ≡ cond b 1 0 + writes_begun name ss
    of_test true = let one : suc (writes_begun name ss) ≡ 1 + writes_begun name ss = omega arith in one
    of_test false = nothing_before (writes_begun name ss)

counted : (config : Config) (w : World) (ss : List Step) (i : ℕ) (name : List ℕ) → writes_of name (world_after config w (take i ss)).actors ≡ writes_of name w.actors + writes_begun name (take i ss)
counted config w [] zero name = nothing_more (writes_of name w.actors)
counted config w [] (suc i) name = nothing_more (writes_of name w.actors)
counted config w (s ∷ ss) zero name = nothing_more (writes_of name w.actors)
counted config w (s ∷ ss) (suc i) name =
    let rest = counted config (after config w s.event) ss i name in
    let here = counts config w s.event name in
    let first = begun_first name s (take i ss) in
    omega (arith, rest, here, first)

-- one step more
begun_last : (name : List ℕ) (ss : List Step) (i : ℕ) (s : Step) → slice_get ss i ≡ Some s → writes_begun name (take (suc i) ss) ≡ writes_begun name (take i ss) + one_begun name s.event
begun_last name [] i s here = absurd (let none : None ≡ Some s = here in cc)
begun_last name (x ∷ ss) zero s here =
    let same_step : x ≡ s = (let some : Some x ≡ Some s = here in cc) in
    let first = begun_first name x [] in
    let one : one_begun name x.event ≡ one_begun name s.event = ap (λ (y : Step). one_begun name y.event) same_step in
    omega (arith, first, one)
begun_last name (x ∷ ss) (suc i) s here =
    let rest = begun_last name ss i s here in
    let first = begun_first name x (take (suc i) ss) in
    let before = begun_first name x (take i ss) in
    omega (arith, rest, first, before)

none_begun : (name : List ℕ) (config : Config) → writes_of name (opening config).actors ≡ 0
none_begun name config = no_more (bytes_eq main_name name)

stays : (config : Config) (ss : List Step) (c n i : ℕ) (w : World) → IsRun config ss → (HasNumber w c n → HasNumber (world_at config ss i) c n) → HasNumber w c n
    → HasNumber (world_at config ss (suc i)) c n
stays config ss c n i w run rest h = of_next (world_at config ss (suc i)) (next_is config ss i run) (rest h)
  where
    of_next : (v : World) → NextIs config ss i v → HasNumber (world_at config ss i) c n → HasNumber v c n
    of_next v (AtEnd is) k = subst (λ (u : World). HasNumber u c n) is k
    of_next v (BySteps s here step is) k =
        let went = forward config (world_at config ss i) s.event _ c k.0 (change_of config (world_at config ss i) s.event step.met) k.1 in
        subst (λ (u : World). HasNumber u c n) is (went.0, went.1, went.2.same_number ∙ k.2)

number_later : (config : Config) (ss : List Step) (c n i j : ℕ) → IsRun config ss → i ≤ j → HasNumber (world_at config ss i) c n → HasNumber (world_at config ss j) c n
number_later config ss c n i j run le =
    climb (world_at config ss) (λ w v. HasNumber w c n → HasNumber v c n) (λ w h. h) (λ k w rest. stays config ss c n k w run rest) i j le

at_last : (xs : List CommandState) (x : CommandState) (c : ℕ) → c ≡ length xs + 1 → numbered (xs ++ x ∷ []) c ≡ Some x
at_last xs x c is = let place : suc (length xs) ≡ c = omega (arith, is) in subst (λ (n : ℕ). numbered (xs ++ x ∷ []) n ≡ Some x) place (at_end xs x)

begun_number : (config : Config) (ss : List Step) (i c : ℕ) (name : List ℕ) (to : Option Alias) → IsRun config ss
    → slice_get ss i ≡ Some (record { event = events.Begin name (commands.Write to); reply = replies.Begun c })
    → HasNumber (world_at config ss (suc i)) c (writes_begun name (take (suc i) ss))
begun_number config ss i c name to run here =
    let w : World = world_at config ss i in
    let s : Step = record { event = events.Begin name (commands.Write to); reply = replies.Begun c } in
    let step : IsStep config w s = step_along config (opening config) ss i s run here in
    let place : c ≡ length w.commands + 1 = (let both : replies.Begun c ≡ replies.Begun (length w.commands + 1) = step.answered in cc) in
    let past = counted config (opening config) ss i name in
    let none = none_begun name config in
    let now = number_is name (commands.Write to) w.actors in
    let last = begun_last name ss i s here in
    let one : one_begun name s.event ≡ 1 = ap (λ (b : Bool). more_if b 1) (itself name) in
    subst (λ (v : World). HasNumber v c (writes_begun name (take (suc i) ss))) (sym (next_world config (opening config) ss i s here)) (
      begun_state w name (commands.Write to),
      at_last w.commands _ c place,
      (let same_number : number_of w.actors name (commands.Write to) ≡ writes_begun name (take (suc i) ss) = omega (arith, past, none, now, last, one) in same_number),
    )

pub write_numbers_have_no_gaps : OfEveryRun WriteNumbersHaveNoGaps
write_numbers_have_no_gaps config ss run i j c name to here less =
    number_later config ss c (writes_begun name (take (suc i) ss)) (suc i) j run (omega (arith, less)) (begun_number config ss i c name to run here)
