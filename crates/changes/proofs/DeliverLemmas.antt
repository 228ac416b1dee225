-- What a delivery makes of the world, by what the message carries.
use Rattle.std.proofs.Common.{◌≡◌, ℕ, zero, suc, ◌+◌, ◌-◌, ◌<◌, ◌||◌, List, [], ◌∷◌, ◌++◌, Bool, true, false, cond, map, Option, Some, None, is_some, length, get_or, take, refl, ap, sym, subst, ◌∙◌, arith, length-append}
use Rattle.std.proofs.lemmas.Bool.{false≢true}
use Rattle.std.proofs.Math.Seq.{take-append_seam}
use Rattle.std.specs.List.{slice_get, AllByRecursion}
use Rattle.shard_names.specs.declared.alias.Alias.{Alias}
use Rattle.shard_names.specs.declared.tablet.Tablet.{Tablet}
use Rattle.shard_names.specs.Tablets.{alias_eq, tablet_of, is_declared, is_among}
use Rattle.shard_names.proofs.TabletLemmas.{alias_eq_is, alias_eq_itself}
use Rattle.gtid_sets.specs.declared.entry.Entry.{Entry}
use Rattle.shard_calls.specs.declared.answer.Answer.{Answer}
use Rattle.shard_calls.specs.declared.call.Call.{Call}
use Rattle.shard_calls.specs.declared.event.Reply.TheVariants as replies
use Rattle.shard_calls.specs.declared.outcome.Accepted.{Accepted}
use Rattle.shard_calls.specs.declared.outcome.Accepted.TheVariants as accepteds
use Rattle.shard_calls.specs.declared.post.Content.{Content}
use Rattle.shard_calls.specs.declared.post.Content.TheVariants as contents
use Rattle.shard_calls.specs.declared.post.Message.{Message}
use Rattle.shard_calls.specs.declared.group.Group.{Group}
use Rattle.shard_calls.specs.Stands.{takes_from}
use Rattle.shard_calls.specs.Tablets.{TabletState, Verdict, after_call, answer_to, accepts}
use Rattle.shard_calls.specs.World.{Config, World, numbered, changed, changed_at, at_tablet, on_message, arrives}
use Rattle.shard_calls.specs.Deliveries.{if_declared, asked, fed, fed_reply, after_arrival, after_delivery, arrival_reply, delivery_reply}
use Rattle.post.specs.Posted.{Posted, sent_at, with_sent, without_sent, answers_now}
use Rattle.tablet_manager.specs.Managed.{Managed, ackers_of}
use Rattle.shard_state.specs.State.{groups_in}
use Rattle.changes.specs.Sound.{IsSoundContent, AreSound}
use Rattle.shard_state.specs.Managers.{IsAt}
use Rattle.changes.specs.Places.{AreOf, KnowAlias}
use Rattle.changes.specs.Makes.{Carries}

-- ---- lists of messages

last_in : {A : Type 0} (xs : List A) (x : A) (f : A → A) → changed (xs ++ x ∷ []) (length xs) f ≡ xs ++ f x ∷ []
last_in [] x f = refl
last_in {A} (y ∷ xs) x f = ap (λ (zs : List A). y ∷ zs) (last_in xs x f)

pub last_changed : {A : Type 0} (xs : List A) (x : A) (n : ℕ) (f : A → A) → n ≡ length xs + 1 → changed_at (xs ++ x ∷ []) n f ≡ xs ++ f x ∷ []
last_changed {A} xs x n f is =
    let next : n ≡ suc (length xs) = omega (arith, is) in
    ap (λ (k : ℕ). changed_at (xs ++ x ∷ []) k f) next ∙ last_in xs x f

front_in : {A : Type 0} (xs : List A) (x y : A) (k : ℕ) (f : A → A) → slice_get xs k ≡ Some y → changed (xs ++ x ∷ []) k f ≡ changed xs k f ++ x ∷ []
front_in [] x y k f at = absurd (let none : None ≡ Some y = at in cc)
front_in (z ∷ xs) x y zero f at = refl
front_in {A} (z ∷ xs) x y (suc k) f at = ap (λ (zs : List A). z ∷ zs) (front_in xs x y k f at)

pub front_changed : {A : Type 0} (xs : List A) (x y : A) (k : ℕ) (f : A → A) → numbered xs k ≡ Some y → changed_at (xs ++ x ∷ []) k f ≡ changed_at xs k f ++ x ∷ []
front_changed xs x y zero f at = refl
front_changed xs x y (suc k) f at = front_in xs x y k f at

-- what was sent is taken back
pub taken_back : (p q r : Posted) (now : ℕ) (c : Content) → q ≡ with_sent p now c → r ≡ without_sent q → r ≡ p
taken_back p q r now c sent back =
    let size : length (p.messages ++ sent_at now c ∷ []) - 1 ≡ length p.messages = omega (arith, length-append p.messages (sent_at now c ∷ [])) in
    let front : take (length (p.messages ++ sent_at now c ∷ []) - 1) (p.messages ++ sent_at now c ∷ []) ≡ p.messages =
    ap (λ (n : ℕ). take n (p.messages ++ sent_at now c ∷ [])) size ∙ take-append_seam p.messages (sent_at now c ∷ []) in
    back ∙ ap (λ (x : Posted). without_sent x) sent ∙ (λ i. record p { messages = front i })

-- ---- a manager at its place

pub alias_here : (ms : List Managed) (a : Alias) (k : ℕ) (d : Managed) → IsAt ms a k → (get_or ms k d).me.alias ≡ a
alias_here [] a k d at = absurd at
alias_here (m ∷ ms) a zero d at = at
alias_here (m ∷ ms) a (suc k) d at = alias_here ms a k d at.1

group_at : (P : Group → Type 0) (ms : List Managed) (k : ℕ) (d : Managed) → k < length ms → AllByRecursion P (groups_in ms) → P (get_or ms k d).group
group_at P [] k d short all = absurd (omega arith)
group_at P (m ∷ ms) zero d short all = all.0
group_at P (m ∷ ms) (suc k) d short all = group_at P ms k d (omega arith) all.1

pub group_here : (g : Group) (ms : List Managed) (k : ℕ) (p : Managed) → k < length ms → p ≡ get_or ms k p → AreOf g ms → p.group ≡ g
group_here g ms k p short is all = ap (λ (m : Managed). m.group) is ∙ group_at (λ x. x ≡ g) ms k p short all

-- a declared alias is among those of the tablets
first_among : (a : Alias) (t : Tablet) (ts : List Tablet) (b : Bool) → alias_eq t.alias a ≡ b → is_some (cond b (Some t) (tablet_of ts a)) ≡ true
    → (is_some (tablet_of ts a) ≡ true → is_among (map (λ u. u.alias) ts) a ≡ true) → (alias_eq a t.alias || is_among (map (λ u. u.alias) ts) a) ≡ true
first_among a t ts true is some rest =
    let test : alias_eq a t.alias ≡ true = subst (λ (b : Alias). alias_eq a b ≡ true) (sym (alias_eq_is t.alias a is)) (alias_eq_itself a) in
    ap (λ (b : Bool). b || is_among (map (λ u. u.alias) ts) a) test
first_among a t ts false is some rest = or_right (alias_eq a t.alias) (is_among (map (λ u. u.alias) ts) a) (rest some)
  where
    or_right : (x y : Bool) → y ≡ true → (x || y) ≡ true
    or_right true y h = refl
    or_right false y h = h

pub declared_among : (a : Alias) (ts : List Tablet) → is_declared ts a ≡ true → is_among (map (λ t. t.alias) ts) a ≡ true
declared_among a [] h = absurd (false≢true h)
declared_among a (t ∷ ts) h = first_among a t ts (alias_eq t.alias a) refl h (declared_among a ts)

pub acker_here : (ms : List Managed) (k : ℕ) (p : Managed) (from : Alias) → k < length ms → p ≡ get_or ms k p → KnowAlias from ms → is_among (ackers_of p) from ≡ true
acker_here ms k p from short is all =
    let known = group_at (λ g. is_declared g.tablets from ≡ true) ms k p short all in
    declared_among from p.group.tablets (subst (λ (m : Managed). is_declared m.group.tablets from ≡ true) (sym is) known)

all_know : (gs : List Group) (g : Group) (a : Alias) → AllByRecursion (λ x. x ≡ g) gs → is_declared g.tablets a ≡ true → AllByRecursion (λ x. is_declared x.tablets a ≡ true) gs
all_know [] g a all declared = tt
all_know (x ∷ gs) g a all declared = (subst (λ (y : Group). is_declared y.tablets a ≡ true) (sym all.0) declared, all_know gs g a all.1 declared)

-- who is declared in the shard is known to each of its tablets
pub all_know_alias : (g : Group) (ms : List Managed) (a : Alias) → AreOf g ms → is_declared g.tablets a ≡ true → KnowAlias a ms
all_know_alias g ms a all declared = all_know (groups_in ms) g a all declared

the_some : {A : Type 0} (o : Option A) → is_some o ≡ true → (x : A) × (o ≡ Some x)
the_some None some = absurd (false≢true some)
the_some (Some x) some = (x, refl)

-- a declared alias has its tablet
pub the_tablet : (ts : List Tablet) (a : Alias) → is_declared ts a ≡ true → (me : Tablet) × (tablet_of ts a ≡ Some me)
the_tablet ts a declared = the_some (tablet_of ts a) declared

-- ---- what the row says

delivered : (config : Config) (w : World) (k : ℕ) (content : Content) (h : Carries w.post k content)
    → after_delivery config w k (numbered w.post k) ≡ after_arrival config (on_message w k (arrives w.clock)) k content
delivered config w k content h =
    ap (λ (o : Option Message). after_delivery config w k o) h.here
    ∙ ap (λ (c : Content). after_arrival config (on_message w k (arrives w.clock)) k c) h.content

replied : (w : World) (k : ℕ) (content : Content) (h : Carries w.post k content) → delivery_reply w (numbered w.post k) ≡ arrival_reply w content
replied w k content h = ap (λ (o : Option Message). delivery_reply w o) h.here ∙ ap (λ (c : Content). arrival_reply w c) h.content

abbrev with_both : World → Group → (Alias → TabletState) → List Message → World
with_both w g states post = record w { group = g; tablets = states; post = post }

-- ---- a call

pub called : (config : Config) (w : World) (k c u : ℕ) (a : Alias) (call : Call) (h : Carries w.post k (contents.Asks c u a call)) (me : Tablet) (g : Group)
    (states : Alias → TabletState) (post : List Message) (says : Answer) → tablet_of config.tablets a ≡ Some me → g ≡ w.group
    → states ≡ at_tablet w.tablets a (after_call w.group me u call (w.tablets a)) → says ≡ answer_to w.group me u call (w.tablets a)
    → post ≡ changed_at w.post k (arrives w.clock) ++ sent_at w.clock (contents.Answers c k a says) ∷ [] → with_both w g states post ≡ after_delivery config w k (numbered w.post k)
called config w k c u a call h me g states post says found group tablets answer sent =
    let now = sent ∙ ap (λ (x : Answer). changed_at w.post k (arrives w.clock) ++ sent_at w.clock (contents.Answers c k a x) ∷ []) answer in
    (λ i. with_both w (group i) (tablets i) (now i))
    ∙ sym (ap (λ (o : Option Tablet). if_declared o (on_message w k (arrives w.clock)) (asked (on_message w k (arrives w.clock)) k c u a call)) found)
    ∙ sym (delivered config w k (contents.Asks c u a call) h)

pub called_reply : (w : World) (k c u number : ℕ) (a : Alias) (call : Call) (h : Carries w.post k (contents.Asks c u a call)) → number ≡ length w.post + 1
    → replies.Message number ≡ delivery_reply w (numbered w.post k)
called_reply w k c u number a call h is = ap (λ (n : ℕ). replies.Message n) is ∙ sym (replied w k (contents.Asks c u a call) h)

-- the answer in the message that was sent for it
pub answered_post : (ms sent new last : List Message) (k number now c : ℕ) (a : Alias) (blank : Content) (x there : Answer) (m : Message) → blank ≡ contents.Answers c k a there
    → number ≡ length ms + 1 → numbered ms k ≡ Some m → sent ≡ ms ++ sent_at now blank ∷ [] → new ≡ changed_at sent number (answers_now x)
    → last ≡ changed_at new k (arrives now) → last ≡ changed_at ms k (arrives now) ++ sent_at now (contents.Answers c k a x) ∷ []
answered_post ms sent new last k number now c a blank x there m is count here one two three =
    let first : sent ≡ ms ++ sent_at now (contents.Answers c k a there) ∷ [] = one ∙ ap (λ (b : Content). ms ++ sent_at now b ∷ []) is in
    three
    ∙ ap (λ (xs : List Message). changed_at xs k (arrives now)) (two ∙ ap (λ (xs : List Message). changed_at xs number (answers_now x)) first
    ∙ last_changed ms (sent_at now (contents.Answers c k a there)) number (answers_now x) count)
    ∙ front_changed ms (sent_at now (contents.Answers c k a x)) m k (arrives now) here

-- ---- an entry

abbrev fed_in : World → Alias → Alias → ℕ → ℕ → Verdict Accepted → World
fed_in w from to term index v = fed w from to term index v.state v.says

by_taken : (from : Alias) (term before index : ℕ) (x : Entry) (s : TabletState) → takes_from s.stand from term before ≡ true
    → (accepts from term before index x s).says ≡ accepteds.Taken
by_taken from term before index x s takes = rw takes refl

pub entry_taken : (config : Config) (w : World) (k term before index : ℕ) (from to : Alias) (x : Entry) (h : Carries w.post k (contents.Feeds from to term before index x))
    (g : Group) (states : Alias → TabletState) (post : List Message) → takes_from (w.tablets to).stand from term before ≡ true → g ≡ w.group
    → states ≡ at_tablet w.tablets to (accepts from term before index x (w.tablets to)).state
    → post ≡ changed_at w.post k (arrives w.clock) ++ sent_at w.clock (contents.Acks to from term index) ∷ []
    → with_both w g states post ≡ after_delivery config w k (numbered w.post k)
entry_taken config w k term before index from to x h g states post takes group tablets sent =
    (λ i. with_both w (group i) (tablets i) (sent i))
    ∙ sym (ap (λ (a : Accepted). fed (on_message w k (arrives w.clock)) from to term index (accepts from term before index x (w.tablets to)).state a)
    (by_taken from term before index x (w.tablets to) takes))
    ∙ sym (delivered config w k (contents.Feeds from to term before index x) h)

pub taken_reply : (w : World) (k term before index number : ℕ) (from to : Alias) (x : Entry) (h : Carries w.post k (contents.Feeds from to term before index x))
    → takes_from (w.tablets to).stand from term before ≡ true → number ≡ length w.post + 1 → replies.Message number ≡ delivery_reply w (numbered w.post k)
taken_reply w k term before index number from to x h takes is =
    ap (λ (n : ℕ). replies.Message n) is
    ∙ sym (ap (λ (a : Accepted). fed_reply w a) (by_taken from term before index x (w.tablets to) takes))
    ∙ sym (replied w k (contents.Feeds from to term before index x) h)

-- the acknowledgement behind what was there
pub acked_post : (ms sent last : List Message) (k now : ℕ) (c : Content) (m : Message) → numbered ms k ≡ Some m → sent ≡ ms ++ sent_at now c ∷ [] → last ≡ changed_at sent k (arrives now)
    → last ≡ changed_at ms k (arrives now) ++ sent_at now c ∷ []
acked_post ms sent last k now c m here one two =
    two ∙ ap (λ (xs : List Message). changed_at xs k (arrives now)) one ∙ front_changed ms (sent_at now c) m k (arrives now) here

-- ---- what a message carries

pub sound_here : (config : Config) (w : World) (k : ℕ) (m : Message) (c : Content) → AreSound config w → numbered w.post k ≡ Some m → m.content ≡ c → IsSoundContent config c
sound_here config w k m c sound here is = subst (λ (x : Content). IsSoundContent config x) is (sound.post k m here)
