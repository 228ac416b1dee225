-- The course of a vtorc asks a tablet to be the primary only with evidence, and what it ends with has its cause. After VTOrc (Vitess manual,
-- "VTOrc").
use Rattle.std.proofs.Common.{◌≡◌, refl, sym, ap, subst, ◌∙◌, append_assoc, ℕ, Bool, true, false, List, [], ◌∷◌, ◌++◌, Option, Some, None, Result, Ok, Err}
use Rattle.std.proofs.lemmas.List.{append-nil}
use Rattle.shard_names.specs.declared.alias.Alias.{Alias}
use Rattle.gtid_sets.specs.Position.{Position}
use Rattle.shard_calls.specs.declared.analysis.Finding.{Finding}
use Rattle.shard_calls.specs.declared.analysis.Status.{Status}
use Rattle.shard_calls.specs.declared.call.Call.TheVariants as calls
use Rattle.shard_calls.specs.declared.ending.CommandAnswer.{CommandAnswer}
use Rattle.shard_calls.specs.declared.ending.Rest.{Rest}
use Rattle.shard_calls.specs.declared.ending.Rest.TheVariants as lines
use Rattle.shard_calls.specs.declared.event.Seen.{Seen}
use Rattle.shard_calls.specs.declared.group.Group.{Group}
use Rattle.shard_calls.specs.declared.refusal.Refusal.{Refusal}
use Rattle.shard_calls.specs.declared.span.Deed.{Deed}
use Rattle.shard_calls.specs.declared.span.Kind.TheVariants as kinds
use Rattle.shard_calls.specs.declared.stand.Stand.{Stand}
use Rattle.shard_calls.specs.declared.stand.Stand.TheVariants as stands
use Rattle.shard_calls.specs.Analysis.{Statuses, finds, is_errant, is_orphaned, is_to_repair, is_urgent, to_repair}
use Rattle.shard_calls.specs.Causes.{findings_of, forced, joined_or_left, left_by, plain, statuses}
use Rattle.shard_calls.specs.Refusals.{recorded_alias}
use Rattle.courses.specs.Walks.{Course, gives, tried, ◌>>=◌, takes_lock, drains}
use Rattle.courses.specs.Emergency.{emergency_course}
use Rattle.courses.specs.Planned.{planned_course}
use Rattle.courses.specs.Sound.{IsTaken, IsDrained, IsSettled, IsBarred, AreCalled, IsSound}
use Rattle.courses.specs.SoundLemmas.{gives_sound, bind_sound, if_sound, weaker_sound, IsTried, tried_sound, takes_sound, drains_sound, calls_once_sound, calls_sound}
use Rattle.courses.specs.PlannedSound.{planned_sound}
use Rattle.courses.specs.EmergencyLaws.{emergency_sound}
use Rattle.courses.specs.Ends.{PlannedEnds, PlannedIsRefused, EmergencyEnds, EmergencyIsRefused}
use Rattle.recovery_loop.specs.Watch.{watched, lines_of, healed_by, heals, joins, marked, marks, repairs, line_then, repairs_all, repairs_under_lock, repairs_under, repairs_by, repairs_beside, acts_on, beside_record, of_record, watch_course}
use Rattle.recovery_loop.specs.Ends.{IsRepair, Drains, Joins, AreRepairs, Done, Barred, Then, is_primary, leads, is_led, IsDoneAbout, Elects, CannotElect, Replaces, CannotReplace, Repairs, CannotLock, Unled, Nothing, WatchEnds, Watched}

-- it is never refused itself
abbrev Never : Refusal → Type 0
Never r = ⊥

-- it ends with these findings, and of the lines behind them D holds
data EndsBy (findings : List Finding) (D : List Rest → Type 0) : CommandAnswer → Type 0 where
  EndedBy : (rest : List Rest) → D rest → EndsBy findings D (watched findings rest)

ends_sound : (g : Group) (span : List Deed) (findings : List Finding) (D : List Rest → Type 0) (rest : List Rest) → D rest
    → IsSound g span Never (gives (watched findings rest)) (EndsBy findings D)
ends_sound g span findings D rest d = gives_sound g span Never (EndsBy findings D) (watched findings rest) (EndedBy rest d)

-- ---- a whole reparent inside

healed_sound : (g : Group) (span : List Deed) (findings : List Finding) (S : Refusal → Type 0) (Q : CommandAnswer → Type 0) (D : List Rest → Type 0)
    → ((x : CommandAnswer) → Q x → D (lines_of x)) → ((r : Refusal) → S r → D (lines.Refused r None ∷ []))
    → (x : Result CommandAnswer Refusal) → IsTried S Q x → IsSound g span Never (gives (healed_by findings x)) (EndsBy findings D)
healed_sound g span findings S Q D ends refused (Ok x) q = ends_sound g span findings D (lines_of x) (ends x q)
healed_sound g span findings S Q D ends refused (Err r) s = ends_sound g span findings D (lines.Refused r None ∷ []) (refused r s)

heals_sound : (g : Group) (span : List Deed) (findings : List Finding) (S : Refusal → Type 0) (Q : CommandAnswer → Type 0) (D : List Rest → Type 0) (m : Course CommandAnswer)
    → ((x : CommandAnswer) → Q x → D (lines_of x)) → ((r : Refusal) → S r → D (lines.Refused r None ∷ []))
    → IsSound g span S m Q → IsSound g span Never (heals findings m) (EndsBy findings D)
unfolding heals
heals_sound g span findings S Q D m ends refused ms =
    bind_sound g span Never (IsTried S Q) (EndsBy findings D) _ _ (tried_sound g span Never S Q m ms)
    (healed_sound g span findings S Q D ends refused)

-- ---- one repair

abbrev IsLine : List Deed → Alias → Finding → Result Rest Refusal → Type 0
IsLine span p f = IsTried (λ r. (is_errant f.analysis ≡ true) × IsBarred span r) (IsRepair span p f)

joins_sound : (g : Group) (span : List Deed) (p : Alias) (t : ℕ) (has : Position) (f : Finding) → is_errant f.analysis ≡ false
    → IsSound g span Never (joins p t has f.alias) (IsLine span p f)
unfolding joins
joins_sound g span p t has f other =
    bind_sound g span Never (λ o. IsSettled span f.alias kinds.SetSource o) (IsLine span p f) _ _
    (calls_once_sound g span Never f.alias (calls.SetSource p t has) tt)
    (λ o settled. gives_sound g span Never (IsLine span p f) (Ok (joined_or_left p f.alias (left_by o))) (Joins o other settled))

marked_sound : (g : Group) (span : List Deed) (p : Alias) (f : Finding) → is_errant f.analysis ≡ true → (x : Result (Unit {0}) Refusal)
    → IsTried (IsBarred span) (λ y. IsDrained span f.alias) x → IsSound g span Never (gives (marked f.alias x)) (IsLine span p f)
marked_sound g span p f errant (Ok x) drained = gives_sound g span Never (IsLine span p f) (Ok (lines.Drained f.alias)) (Drains errant drained)
marked_sound g span p f errant (Err r) bar = gives_sound g span Never (IsLine span p f) (Err r) (errant, bar)

marks_sound : (g : Group) (span : List Deed) (p : Alias) (f : Finding) → is_errant f.analysis ≡ true
    → IsSound g span Never (marks f.alias) (IsLine span p f)
unfolding marks
marks_sound g span p f errant =
    bind_sound g span Never (IsTried (IsBarred span) (λ y. IsDrained span f.alias)) (IsLine span p f) _ _
    (tried_sound g span Never (IsBarred span) (λ y. IsDrained span f.alias) (drains f.alias) (drains_sound g span (IsBarred span) f.alias (λ r bar. bar)))
    (marked_sound g span p f errant)

repairs_sound : (g : Group) (span : List Deed) (p : Alias) (t : ℕ) (has : Position) (f : Finding)
    → IsSound g span Never (repairs p t has f) (IsLine span p f)
unfolding repairs
repairs_sound g span p t has f =
    if_sound g span Never (IsLine span p f) (is_errant f.analysis) (marks f.alias) (joins p t has f.alias) (marks_sound g span p f)
    (joins_sound g span p t has f)

-- ---- all of them

-- behind these lines it ends with those of the repairs that are due
record EndsBehind (span : List Deed) (p : Alias) (findings due : List Finding) (so_far : List Rest) (x : CommandAnswer) : Type 0 where
  rest : List Rest
  are : AreRepairs span p due rest
  same : x ≡ watched findings (so_far ++ rest)

one_more : (span : List Deed) (p : Alias) (findings : List Finding) (f : Finding) (more : List Finding) (so_far : List Rest) (line : Rest) (x : CommandAnswer)
    → IsRepair span p f line → EndsBehind span p findings more (so_far ++ line ∷ []) x → EndsBehind span p findings (f ∷ more) so_far x
one_more span p findings f more so_far line x is ends = record {
  rest = line ∷ ends.rest;
  are = Then f more line ends.rest is ends.are;
  same = ends.same ∙ ap (λ ls. watched findings ls) (append_assoc so_far (line ∷ []) ends.rest);
}

line_sound : (g : Group) (span : List Deed) (p : Alias) (findings : List Finding) (f : Finding) (more : List Finding) (so_far : List Rest) (go_on : List Rest → Course CommandAnswer)
    → ((done : List Rest) → IsSound g span Never (go_on done) (EndsBehind span p findings more done))
    → (x : Result Rest Refusal) → IsLine span p f x
    → IsSound g span Never (line_then findings so_far go_on x) (EndsBehind span p findings (f ∷ more) so_far)
line_sound g span p findings f more so_far go_on on (Ok line) is =
    weaker_sound g span Never Never (EndsBehind span p findings more (so_far ++ line ∷ [])) (EndsBehind span p findings (f ∷ more) so_far)
    (go_on (so_far ++ line ∷ []))
    (λ r no_way. no_way) (λ x ends. one_more span p findings f more so_far line x is ends) (on (so_far ++ line ∷ []))
line_sound g span p findings f more so_far go_on on (Err r) bar =
    gives_sound g span Never (EndsBehind span p findings (f ∷ more) so_far) (watched findings (so_far ++ lines.Refused r None ∷ []))
    (record { rest = lines.Refused r None ∷ []; are = Barred f more r bar.0 bar.1; same = refl })

all_sound : (g : Group) (span : List Deed) (p : Alias) (t : ℕ) (has : Position) (findings due : List Finding) (so_far : List Rest)
    → IsSound g span Never (repairs_all p t has findings due so_far) (EndsBehind span p findings due so_far)
unfolding repairs_all
all_sound g span p t has findings [] so_far =
    gives_sound g span Never (EndsBehind span p findings [] so_far) (watched findings so_far)
    (record { rest = []; are = Done; same = ap (λ ls. watched findings ls) (sym (append-nil so_far)) })
all_sound g span p t has findings (f ∷ more) so_far =
    bind_sound g span Never (IsLine span p f) (EndsBehind span p findings (f ∷ more) so_far) (repairs p t has f)
    (line_then findings so_far (repairs_all p t has findings more))
    (repairs_sound g span p t has f)
    (line_sound g span p findings f more so_far (repairs_all p t has findings more) (λ done. all_sound g span p t has findings more done))

ended_by : (findings : List Finding) (D : List Rest → Type 0) (rest : List Rest) (x : CommandAnswer) → x ≡ watched findings rest → D rest
    → EndsBy findings D x
ended_by findings D rest x same d = subst (EndsBy findings D) (sym same) (EndedBy rest d)

-- ---- beside the recorded primary

-- what is known where tablets are to be repaired
record AreDue (findings : List Finding) : Type 0 where
  kept : finds is_orphaned findings ≡ false
  calm : finds is_urgent findings ≡ false
  due : finds is_to_repair findings ≡ true

lock_sound : (g : Group) (seen : Seen) (span : List Deed) (said : Statuses) (findings : List Finding) (p : Alias) (t : ℕ) (has : Position)
    → AreDue findings → recorded_alias seen.recorded ≡ Some p → leads (said p) ≡ true
    → (x : Result ℕ Refusal) → IsTried (IsBarred span) (λ u. IsTaken span u) x
    → IsSound g span Never (repairs_under_lock p t has findings x) (EndsBy findings (IsDoneAbout g seen span said findings))
lock_sound g seen span said findings p t has are at led (Ok u) took =
    weaker_sound g span Never Never (EndsBehind span p findings (to_repair findings) []) (EndsBy findings (IsDoneAbout g seen span said findings))
    (repairs_all p t has findings (to_repair findings) []) (λ r no_way. no_way)
    (λ x ends. ended_by findings (IsDoneAbout g seen span said findings) ends.rest x ends.same
    (Repairs p ends.rest are.kept are.calm are.due at led ends.are)) (all_sound g span p t has findings (to_repair findings) [])
lock_sound g seen span said findings p t has are at led (Err r) bar =
    ends_sound g span findings (IsDoneAbout g seen span said findings) (lines.Refused r None ∷ []) (CannotLock p r are.kept are.calm are.due at led bar)

unled_sound : (g : Group) (seen : Seen) (span : List Deed) (said : Statuses) (findings : List Finding) → AreDue findings
    → is_led (recorded_alias seen.recorded) said ≡ false
    → IsSound g span Never (gives (watched findings [])) (EndsBy findings (IsDoneAbout g seen span said findings))
unled_sound g seen span said findings are unled =
    ends_sound g span findings (IsDoneAbout g seen span said findings) [] (Unled are.kept are.calm are.due unled)

led_sound : (g : Group) (seen : Seen) (span : List Deed) (said : Statuses) (findings : List Finding) (p : Alias) (t : ℕ) (has : Position)
    → AreDue findings
    → recorded_alias seen.recorded ≡ Some p → leads (said p) ≡ true
    → IsSound g span Never (tried takes_lock >>= repairs_under_lock p t has findings) (EndsBy findings (IsDoneAbout g seen span said findings))
led_sound g seen span said findings p t has are at led =
    bind_sound g span Never (IsTried (IsBarred span) (λ u. IsTaken span u)) (EndsBy findings (IsDoneAbout g seen span said findings)) (tried takes_lock)
    (repairs_under_lock p t has findings)
    (tried_sound g span Never (IsBarred span) (λ u. IsTaken span u) takes_lock (takes_sound g span (IsBarred span) (λ r bar. bar)))
    (lock_sound g seen span said findings p t has are at led)

-- by how the recorded primary said that it stands
under_sound : (g : Group) (seen : Seen) (span : List Deed) (said : Statuses) (findings : List Finding) (p : Alias) (stand : Stand) (has : Position)
    → AreDue findings
    → recorded_alias seen.recorded ≡ Some p → leads (said p) ≡ is_primary stand
    → IsSound g span Never (repairs_under p stand has findings) (EndsBy findings (IsDoneAbout g seen span said findings))
unfolding repairs_under
under_sound g seen span said findings p (stands.Primary t) has are at led = led_sound g seen span said findings p t has are at led
under_sound g seen span said findings p _ has are at led = unled_sound g seen span said findings are (ap (λ a. is_led a said) at ∙ led)

by_sound : (g : Group) (seen : Seen) (span : List Deed) (said : Statuses) (findings : List Finding) (p : Alias) (s : Option Status) → AreDue findings
    → recorded_alias seen.recorded ≡ Some p → said p ≡ s
    → IsSound g span Never (repairs_by p findings s) (EndsBy findings (IsDoneAbout g seen span said findings))
by_sound g seen span said findings p None are at says = unled_sound g seen span said findings are (ap (λ a. is_led a said) at ∙ ap leads says)
by_sound g seen span said findings p (Some s) are at says = under_sound g seen span said findings p s.stand s.position are at (ap leads says)

beside_sound : (g : Group) (seen : Seen) (span done : List Deed) (findings : List Finding) (p : Option Alias) → AreDue findings
    → recorded_alias seen.recorded ≡ p
    → IsSound g span Never (repairs_beside p findings done) (EndsBy findings (IsDoneAbout g seen span (statuses done) findings))
beside_sound g seen span done findings None are at = unled_sound g seen span (statuses done) findings are (ap (λ a. is_led a (statuses done)) at)
beside_sound g seen span done findings (Some p) are at = by_sound g seen span (statuses done) findings p (statuses done p) are at refl

-- ---- the course

acts_sound : (g : Group) (seen : Seen) (span done : List Deed) (findings : List Finding)
    → IsSound g span Never (acts_on g seen done findings) (EndsBy findings (IsDoneAbout g seen span (statuses done) findings))
unfolding acts_on
acts_sound g seen span done findings =
    if_sound g span Never (EndsBy findings (IsDoneAbout g seen span (statuses done) findings)) (finds is_orphaned findings) _ _
    (λ orphaned. heals_sound g span findings (PlannedIsRefused g plain span) (PlannedEnds g plain span) (IsDoneAbout g seen span (statuses done) findings) (planned_course g plain)
    (λ x ends. Elects x orphaned ends) (λ r refused. CannotElect r orphaned refused) (planned_sound g plain span))
    (λ kept. if_sound g span Never (EndsBy findings (IsDoneAbout g seen span (statuses done) findings)) (finds is_urgent findings) _ _
    (λ urgent. heals_sound g span findings (EmergencyIsRefused g forced span) (EmergencyEnds g forced span) (IsDoneAbout g seen span (statuses done) findings) (emergency_course g forced)
    (λ x ends. Replaces x kept urgent ends) (λ r refused. CannotReplace r kept urgent refused) (emergency_sound g forced span))
    (λ calm. if_sound g span Never (EndsBy findings (IsDoneAbout g seen span (statuses done) findings)) (finds is_to_repair findings) _ _
    (λ due. beside_sound g seen span done findings (recorded_alias seen.recorded) (record { kept = kept; calm = calm; due = due }) refl)
    (λ well. ends_sound g span findings (IsDoneAbout g seen span (statuses done) findings) [] (Nothing kept calm well))))

watched_by : (g : Group) (seen : Seen) (span those primary : List Deed)
    → AreCalled span (beside_record g (recorded_alias seen.recorded)) kinds.Status those
    → AreCalled span (of_record (recorded_alias seen.recorded)) kinds.Status primary → (x : CommandAnswer)
    → EndsBy (findings_of g seen (those ++ primary)) (IsDoneAbout g seen span (statuses (those ++ primary)) (findings_of g seen (those ++ primary))) x → WatchEnds g seen span x
watched_by g seen span those primary others recorded _ (EndedBy rest is) = Watched those primary rest others recorded is

pub watch_sound : (g : Group) (seen : Seen) (span : List Deed) → IsSound g span Never (watch_course g seen) (WatchEnds g seen span)
unfolding watch_course
watch_sound g seen span =
    bind_sound g span Never (λ those. AreCalled span (beside_record g (recorded_alias seen.recorded)) kinds.Status those) (WatchEnds g seen span) _ _
    (calls_sound g span Never (beside_record g (recorded_alias seen.recorded)) calls.Status (λ a. tt))
    (λ those others. bind_sound g span Never (λ primary. AreCalled span (of_record (recorded_alias seen.recorded)) kinds.Status primary) (WatchEnds g seen span) _ _
    (calls_sound g span Never (of_record (recorded_alias seen.recorded)) calls.Status (λ a. tt))
    (λ primary recorded. weaker_sound g span Never Never
    (EndsBy (findings_of g seen (those ++ primary)) (IsDoneAbout g seen span (statuses (those ++ primary)) (findings_of g seen (those ++ primary))))
    (WatchEnds g seen span)
    (acts_on g seen (those ++ primary) (findings_of g seen (those ++ primary))) (λ r no_way. no_way)
    (watched_by g seen span those primary others recorded)
    (acts_sound g seen span (those ++ primary) (findings_of g seen (those ++ primary)))))
