-- What an emergency has decided stays decided, point by point: whatever its calls have come to later, where its course was refused it is refused still.
use Rattle.std.proofs.Common.{◌≡◌, refl, ap, sym, subst, ◌∙◌, ℕ, Bool, true, false, not, ◌&&◌, cond, is_none, List, ◌∷◌, Option, Some, None, Result, Ok}
use Rattle.std.specs.Prelude.{⊤}
use Rattle.std.specs.List.{list_any, find, flat_map}
use Rattle.std.proofs.lemmas.Bool.{false≢true}
use Rattle.shard_base.specs.Options.{only_if}
use Rattle.shard_names.specs.declared.alias.Alias.{Alias}
use Rattle.shard_names.specs.declared.tablet.Tablet.{Tablet}
use Rattle.shard_names.specs.Tablets.{alias_eq, is_among, tablet_of}
use Rattle.gtid_sets.specs.Position.{Position, covers}
use Rattle.gtid_sets.specs.declared.held.Held.{Held}
use Rattle.gtid_sets.specs.Winner.{winner}
use Rattle.shard_calls.specs.declared.answer.Answer.{Answer}
use Rattle.shard_calls.specs.declared.answer.Answer.TheVariants as says
use Rattle.shard_calls.specs.declared.call.Call.{Call}
use Rattle.shard_calls.specs.declared.call.Call.TheVariants as calls
use Rattle.shard_calls.specs.declared.command.EmergencyOptions.{EmergencyOptions}
use Rattle.shard_calls.specs.declared.ending.CommandAnswer.{CommandAnswer}
use Rattle.shard_calls.specs.declared.ending.CommandAnswer.TheVariants as endings
use Rattle.shard_calls.specs.declared.event.Seen.{Seen}
use Rattle.shard_calls.specs.declared.group.Group.{Group}
use Rattle.shard_calls.specs.declared.refusal.Refusal.{Refusal}
use Rattle.shard_calls.specs.declared.refusal.Reason.{Reason}
use Rattle.shard_calls.specs.declared.refusal.Reason.TheVariants as reasons
use Rattle.shard_calls.specs.declared.span.Asked.{Asked}
use Rattle.shard_calls.specs.declared.span.Deed.{Deed}
use Rattle.shard_calls.specs.declared.span.Deed.TheVariants as deeds
use Rattle.shard_calls.specs.declared.span.Kind.{Kind}
use Rattle.shard_calls.specs.declared.span.Outcome.{Outcome}
use Rattle.shard_calls.specs.declared.span.Outcome.TheVariants as outcomes
use Rattle.shard_calls.specs.Causes.{not_joined}
use Rattle.shard_calls.specs.Choosing.{is_call_of, best_of, chosen, reason_of_tablet, rejected, unless_barred}
use Rattle.shard_calls.specs.Refusals.{or_else, recorded_alias, refusal_after, refusal_by_seen, refusal_of_emergency, refusal_to, is_of_promotion}
use Rattle.shard_calls.specs.Rescuing.{first_by, first_unrevoked, fitness, heeded, helds, is_in_other_cell, is_short, ok_unless, position_of, reached_by, reason_to_rescue, refusal_if, refusal_of_call, refusal_of_crossing_from, refusal_of_given, refusal_of_short, refusal_of_unrevoked, rescuer, stale_in, winner_of}
use Rattle.courses.specs.Emergency.{emergency_course, has_all, is_fed, others_of, rescues, rescues_by, stops_all, takes_over}
use Rattle.courses.specs.Planned.{following, holding}
use Rattle.courses.specs.Promoting.{established, promoted_position, promotes, reparents, told_so}
use Rattle.courses.specs.Walks.{walked, gives, refusing, or_refusing, unless, unless_refused, ◌>>=◌, ◌>>◌, takes_lock, reads, intends, records, needs, calls_all, is_out}
use Rattle.completeness.proofs.LaterLemmas.{Later, Nothing, More, LaterDeed, Itself, Comes, LaterAsked, Same, Settled, Stays, bind_stays, then_stays, same_stays, equal_stays, gives_stays, on_same, takes_stays, reads_stays, intends_stays, records_stays, needs_stays, calls_stays, first_same, helds_same, unrevoked_stays, winner_stays, or_false, settled_same}

-- two answers, whatever they are
abbrev pub Any : CommandAnswer → CommandAnswer → Type 0
Any x y = ⊤

-- ---- the Stops

given_stays : (ds es : List Deed) → Settled ds es → Stays Settled (gives ds) (gives es)
given_stays ds es s rest now later = record { value = es; came = refl; related = s; later = later }

stops_stay : (g : Group) (ignored : List Alias) → Stays Settled (stops_all g ignored) (stops_all g ignored)
unfolding stops_all
stops_stay g ignored =
    bind_stays Settled Settled (calls_all (heeded g ignored) calls.Stop) (calls_all (heeded g ignored) calls.Stop) _ _ (calls_stays (heeded g ignored) calls.Stop)
    (λ ds es s. then_stays Same Settled (unless (first_by stale_in ds) >> unless (refusal_of_unrevoked g ignored ds))
    (unless (first_by stale_in es) >> unless (refusal_of_unrevoked g ignored es)) (gives ds) (gives es)
    (then_stays Same Same (unless (first_by stale_in ds)) (unless (first_by stale_in es)) (unless (refusal_of_unrevoked g ignored ds)) (unless (refusal_of_unrevoked g ignored es))
    (equal_stays (refusing (first_by stale_in ds)) (refusing (first_by stale_in es)) (ap (λ (o : Option Refusal). refusing o) (first_same ds es s.later s.settled)))
    (unrevoked_stays g ignored ds es (first_unrevoked g (reached_by (helds ds))) (first_unrevoked g (reached_by (helds es)))
    (ap (λ (hs : List Held). first_unrevoked g (reached_by hs)) (helds_same ds es s.later s.settled))))
    (given_stays ds es s))

-- ---- who takes over

-- refused or not, it is so still
refused_stays : {A : Type 0} (o p : Option Refusal) (x : A) → is_none p ≡ is_none o
    → Stays Same (walked (or_refusing (ok_unless o x))) (walked (or_refusing (ok_unless p x)))
refused_stays None None x same = same_stays (Ok x)
refused_stays (Some r) (Some q) x same = λ rest now later left. refl
refused_stays None (Some q) x same = absurd (false≢true same)
refused_stays (Some r) None x same = absurd (false≢true (sym same))

pub or_none : (o p q r : Option Refusal) → is_none p ≡ is_none o → is_none r ≡ is_none q → is_none (or_else p r) ≡ is_none (or_else o q)
or_none None None q r e f = f
or_none (Some x) (Some y) q r e f = refl
or_none None (Some y) q r e f = absurd (false≢true e)
or_none (Some x) None q r e f = absurd (false≢true (sym e))

-- a call whose kind is the same, refused or not alike
if_alike : (b c : Bool) (r q : Refusal) → c ≡ b → is_none (only_if c q) ≡ is_none (only_if b r)
if_alike true true r q same = refl
if_alike false false r q same = refl
if_alike true false r q same = absurd (false≢true same)
if_alike false true r q same = absurd (false≢true (sym same))

answer_alike : (x y : Asked) (answer : Answer) → LaterAsked x y → is_none (refusal_to y answer) ≡ is_none (refusal_to x answer)
answer_alike x y (says.Kept stand) l = if_alike (is_of_promotion x.kind) (is_of_promotion y.kind) _ _ (ap (λ (k : Kind). is_of_promotion k) l.kind)
answer_alike x y _ l = refl

pub after_alike : (x y : Asked) (o : Outcome) → LaterAsked x y → is_none (refusal_after y o) ≡ is_none (refusal_after x o)
after_alike x y (outcomes.Answered answer) l = answer_alike x y answer l
after_alike x y (outcomes.GivenUp why) l = refl

outcome_alike : (x y : Asked) (o p : Option Outcome) → LaterAsked x y → p ≡ o → is_none (refusal_if y p) ≡ is_none (refusal_if x o)
outcome_alike x y None p l same = ap (λ (q : Option Outcome). is_none (refusal_if y q)) same
outcome_alike x y (Some o) p l same = ap (λ (q : Option Outcome). is_none (refusal_if y q)) same ∙ after_alike x y o l

-- the calls of one tablet among these: found at the same place, and refused or not alike
call_none : (c : Alias) (ds es : List Deed) → Later ds es → list_any is_out ds ≡ false
    → is_none (refusal_of_call (find (is_call_of c) es)) ≡ is_none (refusal_of_call (find (is_call_of c) ds))
call_none c _ _ Nothing h = refl
call_none c _ _ (More d e ds es one rest) h =
    let both = or_false (is_out d) (list_any is_out ds) h in of_deed d e one both.0 (call_none c ds es rest both.1)
  where
    refused_alike : (x y : Asked) → LaterAsked x y → is_none x.outcome ≡ false → is_none (refusal_of_call (Some (deeds.Asked y))) ≡ is_none (refusal_of_call (Some (deeds.Asked x)))
    refused_alike x y l settled = outcome_alike x y x.outcome y.outcome l (settled_same x.outcome y.outcome l.outcome settled)

    of_test : (b : Bool) (x y : Asked) → LaterAsked x y → is_none x.outcome ≡ false
        → is_none (refusal_of_call (find (is_call_of c) es)) ≡ is_none (refusal_of_call (find (is_call_of c) ds))
        → is_none (refusal_of_call (cond b (Some (deeds.Asked y)) (find (is_call_of c) es))) ≡ is_none (refusal_of_call (cond b (Some (deeds.Asked x)) (find (is_call_of c) ds)))
    of_test true x y l settled more = refused_alike x y l settled
    of_test false x y l settled more = more

    of_deed : (d e : Deed) → LaterDeed d e → is_out d ≡ false → is_none (refusal_of_call (find (is_call_of c) es)) ≡ is_none (refusal_of_call (find (is_call_of c) ds))
        → is_none (refusal_of_call (find (is_call_of c) (e ∷ es))) ≡ is_none (refusal_of_call (find (is_call_of c) (d ∷ ds)))
    of_deed _ _ (Itself d) out more = of_same (is_call_of c d)
      where
        of_same : (b : Bool) → is_none (refusal_of_call (cond b (Some d) (find (is_call_of c) es))) ≡ is_none (refusal_of_call (cond b (Some d) (find (is_call_of c) ds)))
        of_same true = refl
        of_same false = more
    of_deed _ _ (Comes x y l) out more =
        subst (λ (a : Alias). is_none (refusal_of_call (cond (alias_eq a c) (Some (deeds.Asked y)) (find (is_call_of c) es)))
        ≡ is_none (refusal_of_call (cond (alias_eq x.alias c) (Some (deeds.Asked x)) (find (is_call_of c) ds)))) (sym l.alias)
        (of_test (alias_eq x.alias c) x y l out more)

-- a given tablet
pub given_alike : (g : Group) (o : EmergencyOptions) (seen : Seen) (ds es : List Deed) (c : Alias) → Settled ds es
    → is_none (refusal_of_given g o seen es c) ≡ is_none (refusal_of_given g o seen ds c)
given_alike g o seen ds es c s =
    let hs = helds_same ds es s.later s.settled in
    or_none (refusal_of_call (find (is_call_of c) ds)) (refusal_of_call (find (is_call_of c) es)) _ _ (call_none c ds es s.later s.settled)
    (ap (λ (h : List Held). is_none (or_else (refusal_of_crossing_from o.prevent_cross_cell (recorded_alias seen.recorded) c)
    (refusal_of_short g (reached_by h) (tablet_of g.tablets c)))) hs)

-- or the fittest
pub fittest_same : (g : Group) (o : EmergencyOptions) (seen : Seen) (ds es : List Deed) (w : Held) → Settled ds es → rescuer g o seen es w None ≡ rescuer g o seen ds w None
unfolding reason_to_rescue fitness
fittest_same g o seen ds es w s =
    ap (λ (hs : List Held). chosen (best_of (number hs) g.tablets) (flat_map (λ t. rejected t.alias (reason hs t)) g.tablets)) (helds_same ds es s.later s.settled)
  where
    reason : List Held → Tablet → Option Reason
    reason hs t =
        or_else (reason_of_tablet g seen None t)
        (or_else (only_if (is_among o.ignored t.alias) reasons.Ignored)
        (or_else (only_if (not (is_among (reached_by hs) t.alias)) reasons.Unreached)
        (or_else (only_if (o.prevent_cross_cell && is_in_other_cell (recorded_alias seen.recorded) t.alias) reasons.OtherCell)
        (only_if (is_short g (reached_by hs) t) reasons.ShortOfAckers))))

    number : List Held → Tablet → Option ℕ
    number hs t = unless_barred (reason hs t) (fitness g seen hs w t)

rescuer_stays : (g : Group) (o : EmergencyOptions) (seen : Seen) (ds es : List Deed) (w : Held) (given : Option Alias) → Settled ds es
    → Stays Same (unless_refused (rescuer g o seen ds w given)) (unless_refused (rescuer g o seen es w given))
rescuer_stays g o seen ds es w (Some c) s = refused_stays (refusal_of_given g o seen ds c) (refusal_of_given g o seen es c) c (given_alike g o seen ds es c s)
rescuer_stays g o seen ds es w None s =
    equal_stays (or_refusing (rescuer g o seen ds w None)) (or_refusing (rescuer g o seen es w None))
    (ap (λ (r : Result Alias Refusal). or_refusing r) (fittest_same g o seen ds es w s))

-- ---- it takes over

nothing_stays : Stays {A = Unit {0}} Same (gives tt) (gives tt)
nothing_stays rest now later = record { value = tt; came = refl; related = refl; later = later }

fed_stays : (timeout u : ℕ) (w : Held) (c : Alias) → Stays Same (is_fed timeout u w c) (is_fed timeout u w c)
unfolding is_fed
fed_stays timeout u w c =
    let joins : Call = calls.SetSource w.alias u w.position in
    let waits : Call = calls.WaitFor w.position timeout in
    bind_stays Same Same (needs w.alias calls.Feed >> needs c joins) (needs w.alias calls.Feed >> needs c joins) _ _
    (then_stays Same Same (needs w.alias calls.Feed) (needs w.alias calls.Feed) (needs c joins) (needs c joins) (needs_stays w.alias calls.Feed) (needs_stays c joins))
    (on_same Same (λ x. walked (following x) >> needs c waits >>= λ y. walked (holding y))
    (λ x. bind_stays Same Same (walked (following x) >> needs c waits) (walked (following x) >> needs c waits) (λ y. walked (holding y)) (λ y. walked (holding y))
    (then_stays Same Same (walked (following x)) (walked (following x)) (needs c waits) (needs c waits) (same_stays (following x)) (needs_stays c waits))
    (on_same Same (λ y. walked (holding y)) (λ y. same_stays (holding y)))))

has_all_stays : (timeout u : ℕ) (w : Held) (c : Alias) (p : Position) → Stays Same (has_all timeout u w c p) (has_all timeout u w c p)
unfolding has_all
has_all_stays timeout u w c p = of_test (covers p w.position)
  where
    of_test : (b : Bool) → Stays Same (cond b (gives tt) (is_fed timeout u w c)) (cond b (gives tt) (is_fed timeout u w c))
    of_test true = nothing_stays
    of_test false = fed_stays timeout u w c

promotes_stays : (c : Alias) (p : Position) → Stays Same (promotes c p) (promotes c p)
unfolding promotes
promotes_stays c p =
    let call : Call = calls.Promote p in
    bind_stays Same Same (intends c >> needs c call) (intends c >> needs c call) (λ x. walked (promoted_position x)) (λ x. walked (promoted_position x))
    (then_stays Same Same (intends c) (intends c) (needs c call) (needs c call) (intends_stays c) (needs_stays c call))
    (on_same Same (λ x. walked (promoted_position x)) (λ x. same_stays (promoted_position x)))

established_stays : (timeout : ℕ) (others : List Alias) (u : ℕ) (c : Alias) (p : Position) → Stays Any (established timeout others u c p) (established timeout others u c p)
unfolding established
established_stays timeout others u c p =
    let joins : Call = calls.SetSource c u p in
    let told : Call = calls.WaitTold timeout in
    bind_stays Settled Any (records c >> calls_all others joins) (records c >> calls_all others joins) _ _
    (then_stays Same Settled (records c) (records c) (calls_all others joins) (calls_all others joins) (records_stays c) (calls_stays others joins))
    (λ ds es s. bind_stays Same Any (needs c told) (needs c told) _ _ (needs_stays c told)
    (λ x y same. then_stays Same Any (walked (told_so x)) (walked (told_so y)) _ _
    (equal_stays (told_so x) (told_so y) (ap (λ (z : Answer). told_so z) (sym same)))
    (gives_stays (endings.Promoted c u (flat_map not_joined ds)) (endings.Promoted c u (flat_map not_joined es)))))

reparents_stay : (timeout : ℕ) (others : List Alias) (u : ℕ) (c : Alias) (p : Position) → Stays Any (reparents timeout others u c p) (reparents timeout others u c p)
unfolding reparents
reparents_stay timeout others u c p =
    bind_stays Same Any (promotes c p) (promotes c p) _ _ (promotes_stays c p)
    (on_same Any (λ q. established timeout others u c q) (λ q. established_stays timeout others u c q))

takes_over_stays : (timeout u : ℕ) (ds es : List Deed) (w : Held) (c : Alias) → Settled ds es → Stays Any (takes_over timeout u ds w c) (takes_over timeout u es w c)
unfolding takes_over
takes_over_stays timeout u ds es w c s =
    subst (λ (hs : List Held). Stays Any (has_all timeout u w c (position_of (helds ds) c) >> reparents timeout (others_of c (helds ds)) u c w.position)
    (has_all timeout u w c (position_of hs c) >> reparents timeout (others_of c hs) u c w.position)) (sym (helds_same ds es s.later s.settled))
    (then_stays Same Any (has_all timeout u w c (position_of (helds ds) c)) (has_all timeout u w c (position_of (helds ds) c)) _ _
    (has_all_stays timeout u w c (position_of (helds ds) c)) (reparents_stay timeout (others_of c (helds ds)) u c w.position))

by_winner : (g : Group) (o : EmergencyOptions) (u : ℕ) (seen : Seen) (ds es : List Deed) (w : Held) → Settled ds es
    → Stays Any (unless_refused (rescuer g o seen ds w o.new_primary) >>= λ c. takes_over o.timeout u ds w c)
    (unless_refused (rescuer g o seen es w o.new_primary) >>= λ c. takes_over o.timeout u es w c)
by_winner g o u seen ds es w s =
    bind_stays Same Any (unless_refused (rescuer g o seen ds w o.new_primary)) (unless_refused (rescuer g o seen es w o.new_primary)) _ _
    (rescuer_stays g o seen ds es w o.new_primary s)
    (λ c d same. subst (λ (a : Alias). Stays Any (takes_over o.timeout u ds w c) (takes_over o.timeout u es w a)) same (takes_over_stays o.timeout u ds es w c s))

rescues_by_stays : (g : Group) (o : EmergencyOptions) (u : ℕ) (seen : Seen) (ds es : List Deed) → Settled ds es → Stays Any (rescues_by g o u seen ds) (rescues_by g o u seen es)
unfolding rescues_by
rescues_by_stays g o u seen ds es s =
    bind_stays Same Any (unless_refused (winner_of g o seen ds)) (unless_refused (winner_of g o seen es)) _ _
    (winner_stays (winner (helds ds)) (winner (helds es)) _ _ _ _ (ap (λ (hs : List Held). winner hs) (helds_same ds es s.later s.settled)))
    (λ w v same. subst (λ (h : Held). Stays Any (unless_refused (rescuer g o seen ds w o.new_primary) >>= λ c. takes_over o.timeout u ds w c)
    (unless_refused (rescuer g o seen es h o.new_primary) >>= λ c. takes_over o.timeout u es h c)) same (by_winner g o u seen ds es w s))

rescues_stay : (g : Group) (o : EmergencyOptions) (u : ℕ) (seen : Seen) → Stays Any (rescues g o u seen) (rescues g o u seen)
unfolding rescues
rescues_stay g o u seen =
    bind_stays Settled Any (stops_all g o.ignored) (stops_all g o.ignored) (rescues_by g o u seen) (rescues_by g o u seen) (stops_stay g o.ignored)
    (λ ds es s. rescues_by_stays g o u seen ds es s)

-- the whole course
pub emergency_stays : (g : Group) (o : EmergencyOptions) → Stays Any (emergency_course g o) (emergency_course g o)
unfolding emergency_course
emergency_stays g o =
    bind_stays Same Any (unless (refusal_of_emergency g o) >> takes_lock) (unless (refusal_of_emergency g o) >> takes_lock) _ _
    (then_stays Same Same (unless (refusal_of_emergency g o)) (unless (refusal_of_emergency g o)) takes_lock takes_lock (same_stays (refusing (refusal_of_emergency g o))) takes_stays)
    (on_same Any (λ u. reads >>= λ seen. unless (refusal_by_seen o.expected o.new_primary seen) >> rescues g o u seen)
    (λ u. bind_stays Same Any reads reads _ _ reads_stays
    (on_same Any (λ seen. unless (refusal_by_seen o.expected o.new_primary seen) >> rescues g o u seen)
    (λ seen. then_stays Same Any (unless (refusal_by_seen o.expected o.new_primary seen)) (unless (refusal_by_seen o.expected o.new_primary seen)) _ _
    (same_stays (refusing (refusal_by_seen o.expected o.new_primary seen))) (rescues_stay g o u seen)))))
