-- What the cause of a vtorc's answer says of its lines.
use Rattle.std.proofs.Common.{◌≡◌, ℕ, Bool, true, false, ◌&&◌, ◌||◌, refl, ap, sym, subst, cond, map, List, [], ◌∷◌, ◌++◌, Option, Some, None, Ok, Err, is_none}
use Rattle.std.proofs.lemmas.Bool.{false≢true}
use Rattle.std.specs.List.{list_any, flat_map, AllByRecursion}
use Rattle.shard_names.specs.declared.alias.Alias.{Alias}
use Rattle.shard_names.proofs.TabletLemmas.{both_left, both_right, alias_eq_is, alias_eq_itself}
use Rattle.topo_lock.specs.declared.intent.Record.{Record}
use Rattle.shard_calls.specs.declared.analysis.Finding.{Finding}
use Rattle.shard_calls.specs.declared.command.Command.{Command}
use Rattle.shard_calls.specs.declared.command.Command.TheVariants as commands
use Rattle.shard_calls.specs.declared.ending.CommandAnswer.TheVariants as ends
use Rattle.shard_calls.specs.declared.ending.Left.{Left}
use Rattle.shard_calls.specs.declared.ending.NotJoined.{NotJoined}
use Rattle.shard_calls.specs.declared.ending.Rest.{Rest}
use Rattle.shard_calls.specs.declared.ending.Rest.TheVariants as lines
use Rattle.shard_calls.specs.declared.event.Seen.{Seen}
use Rattle.shard_calls.specs.declared.group.Group.{Group}
use Rattle.shard_calls.specs.declared.refusal.Refusal.{Refusal}
use Rattle.shard_calls.specs.declared.span.Deed.{Deed}
use Rattle.shard_calls.specs.declared.span.Deed.TheVariants as deeds
use Rattle.shard_calls.specs.declared.span.Kind.TheVariants as kinds
use Rattle.shard_calls.specs.declared.span.Outcome.{Outcome}
use Rattle.shard_calls.specs.declared.state.CommandState.{CommandState}
use Rattle.shard_calls.specs.Analysis.{finds, is_orphaned, is_urgent, problems}
use Rattle.shard_calls.specs.Causes.{any_said_in, are_lines_of, calls_of, emergency_is_refused, findings_of, forced, from_first, has_command_cause, is_line_of_reparent, is_set_source_kind, is_taking, is_told_answer, is_watched, joined_or_left, left_by, line_of, line_of_call, lines_beside, plain, planned_is_refused}
use Rattle.shard_calls.specs.Choosing.{are_settled}
use Rattle.shard_calls.specs.Same.{findings_eq, line_eq, lines_eq}
use Rattle.shard_calls.specs.Spans.{span_in}
use Rattle.shard_calls.specs.World.{Config, World, group_of}
use Rattle.shard_laws.proofs.EndLemmas.{told_so}
use Rattle.shard_laws.proofs.ReadLemmas.{drains_it}

-- ---- what is meant

-- it is no promotion, and where it says that a tablet is drained, a deed drained it
abbrev pub IsRepair : List Deed → Rest → Type 0
IsRepair span (lines.Promoted a t left) = ⊥
IsRepair span (lines.Refused refusal again) = Unit {0}
IsRepair span (lines.Joined a p) = Unit {0}
IsRepair span (lines.Left a left) = Unit {0}
IsRepair span (lines.Drained a) = list_any (drains_it a) span ≡ true

-- the lines are of a reparent, of which one that promoted was told of its row, or of repairs
pub data LinesOf (span : List Deed) : List Rest → Type 0 where
  OfPromotion : (a : Alias) (t : ℕ) (left : List NotJoined) → any_said_in t kinds.WaitTold a is_told_answer span ≡ true → LinesOf span (lines.Promoted a t left ∷ [])
  OfRefusal : (r : Refusal) (again : Option Bool) → LinesOf span (lines.Refused r again ∷ [])
  OfRepairs : (rest : List Rest) → AllByRecursion (IsRepair span) rest → LinesOf span rest

-- ---- repairs

all_append : (P : Rest → Type 0) (xs ys : List Rest) → AllByRecursion P xs → AllByRecursion P ys → AllByRecursion P (xs ++ ys)
all_append P [] ys first then = then
all_append P (x ∷ xs) ys first then = (first.0, all_append P xs ys first.1 then)

all_map : (P Q : Rest → Type 0) (xs : List Rest) → ((x : Rest) → P x → Q x) → AllByRecursion P xs → AllByRecursion Q xs
all_map P Q [] f all = tt
all_map P Q (x ∷ xs) f all = (f x all.0, all_map P Q xs f all.1)

more : (b c : Bool) → c ≡ true → (b || c) ≡ true
more true c h = refl
more false c h = h

-- what one deed more leaves
still : (d : Deed) (span : List Deed) (x : Rest) → IsRepair span x → IsRepair (d ∷ span) x
still d span (lines.Promoted a t left) h = absurd h
still d span (lines.Refused refusal again) h = tt
still d span (lines.Joined a p) h = tt
still d span (lines.Left a left) h = tt
still d span (lines.Drained a) h = more (drains_it a d) (list_any (drains_it a) span) h

call_repairs : (span : List Deed) (p a : Alias) (o : Option Outcome) → AllByRecursion (IsRepair span) (line_of_call p a o)
call_repairs span p a None = tt
call_repairs span p a (Some o) = of_left (left_by o)
  where
    of_left : (x : Option Left) → AllByRecursion (IsRepair span) (joined_or_left p a x ∷ [])
    of_left None = (tt, tt)
    of_left (Some left) = (tt, tt)

deed_repairs : (p : Alias) (d : Deed) (span : List Deed) → AllByRecursion (IsRepair (d ∷ span)) (line_of p d)
deed_repairs p (deeds.Took (Ok t)) span = tt
deed_repairs p (deeds.Took (Err held)) span = (tt, tt)
deed_repairs p (deeds.Read reply) span = tt
deed_repairs p (deeds.Intended a reply) span = tt
deed_repairs p (deeds.Recorded a reply) span = tt
deed_repairs p (deeds.Drained a (Ok x)) span = (ap (λ (b : Bool). b || list_any (drains_it a) span) (alias_eq_itself a), tt)
deed_repairs p (deeds.Drained a (Err t)) span = (tt, tt)
deed_repairs p (deeds.Asked x) span = of_test (is_set_source_kind x.kind)
  where
    of_test : (b : Bool) → AllByRecursion (IsRepair (deeds.Asked x ∷ span)) (cond b (line_of_call p x.alias x.outcome) [])
    of_test true = call_repairs (deeds.Asked x ∷ span) p x.alias x.outcome
    of_test false = tt
deed_repairs p (deeds.Wrote a reply) span = tt
deed_repairs p (deeds.Told committed) span = tt

span_repairs : (p : Alias) (span : List Deed) → AllByRecursion (IsRepair span) (flat_map (line_of p) span)
span_repairs p [] = tt
span_repairs p (d ∷ span) =
    all_append (IsRepair (d ∷ span)) (line_of p d) (flat_map (line_of p) span) (deed_repairs p d span)
    (all_map (IsRepair span) (IsRepair (d ∷ span)) (flat_map (line_of p) span) (still d span) (span_repairs p span))

beside_repairs : (o : Option Record) (span : List Deed) → AllByRecursion (IsRepair span) (lines_beside o span)
beside_repairs None span = tt
beside_repairs (Some r) span = span_repairs r.alias span

-- what is the same line is a repair too
same_repair : (span : List Deed) (x y : Rest) → line_eq x y ≡ true → IsRepair span y → IsRepair span x
same_repair span (lines.Promoted a t left) (lines.Promoted b u others) h r = absurd r
same_repair span (lines.Promoted a t left) (lines.Refused other tried) h r = absurd (false≢true h)
same_repair span (lines.Promoted a t left) (lines.Joined b q) h r = absurd (false≢true h)
same_repair span (lines.Promoted a t left) (lines.Left b why) h r = absurd (false≢true h)
same_repair span (lines.Promoted a t left) (lines.Drained b) h r = absurd (false≢true h)
same_repair span (lines.Refused refusal again) (lines.Promoted b u others) h r = absurd r
same_repair span (lines.Refused refusal again) (lines.Refused other tried) h r = tt
same_repair span (lines.Refused refusal again) (lines.Joined b q) h r = tt
same_repair span (lines.Refused refusal again) (lines.Left b why) h r = tt
same_repair span (lines.Refused refusal again) (lines.Drained b) h r = tt
same_repair span (lines.Joined a p) (lines.Promoted b u others) h r = absurd r
same_repair span (lines.Joined a p) (lines.Refused other tried) h r = tt
same_repair span (lines.Joined a p) (lines.Joined b q) h r = tt
same_repair span (lines.Joined a p) (lines.Left b why) h r = tt
same_repair span (lines.Joined a p) (lines.Drained b) h r = tt
same_repair span (lines.Left a left) (lines.Promoted b u others) h r = absurd r
same_repair span (lines.Left a left) (lines.Refused other tried) h r = tt
same_repair span (lines.Left a left) (lines.Joined b q) h r = tt
same_repair span (lines.Left a left) (lines.Left b why) h r = tt
same_repair span (lines.Left a left) (lines.Drained b) h r = tt
same_repair span (lines.Drained a) (lines.Promoted b u others) h r = absurd r
same_repair span (lines.Drained a) (lines.Refused other tried) h r = absurd (false≢true h)
same_repair span (lines.Drained a) (lines.Joined b q) h r = absurd (false≢true h)
same_repair span (lines.Drained a) (lines.Left b why) h r = absurd (false≢true h)
same_repair span (lines.Drained a) (lines.Drained b) h r = subst (λ (c : Alias). list_any (drains_it c) span ≡ true) (sym (alias_eq_is a b h)) r

same_repairs : (span : List Deed) (xs ys : List Rest) → lines_eq xs ys ≡ true → AllByRecursion (IsRepair span) ys → AllByRecursion (IsRepair span) xs
same_repairs span [] ys h all = tt
same_repairs span (x ∷ xs) [] h all = absurd (false≢true h)
same_repairs span (x ∷ xs) (y ∷ ys) h all =
    (same_repair span x y (both_left (line_eq x y) (lines_eq xs ys) h) all.0, same_repairs span xs ys (both_right (line_eq x y) (lines_eq xs ys) h) all.1)

-- ---- causes

reparent_lines : (refused : Refusal → Option Bool → Bool) (s : CommandState) (span : List Deed) (rest : List Rest) → is_line_of_reparent refused s span rest ≡ true
    → LinesOf span rest
reparent_lines refused s span [] h = absurd (false≢true h)
reparent_lines refused s span (lines.Promoted a t left ∷ []) h = OfPromotion a t left (told_so s span a t left h)
reparent_lines refused s span (lines.Promoted a t left ∷ y ∷ rest) h = absurd (false≢true h)
reparent_lines refused s span (lines.Refused r again ∷ []) h = OfRefusal r again
reparent_lines refused s span (lines.Refused r again ∷ y ∷ rest) h = absurd (false≢true h)
reparent_lines refused s span (lines.Joined a p ∷ rest) h = absurd (false≢true h)
reparent_lines refused s span (lines.Left a left ∷ rest) h = absurd (false≢true h)
reparent_lines refused s span (lines.Drained a ∷ rest) h = absurd (false≢true h)

lines_of : (g : Group) (seen : Seen) (s : CommandState) (span : List Deed) (found : List Finding) (rest : List Rest) → are_lines_of g seen s span found rest ≡ true
    → LinesOf span rest
lines_of g seen s span found rest h = of_tests (finds is_orphaned found) (finds is_urgent found) h
  where
    of_tests : (b c : Bool)
        → cond b (is_line_of_reparent (planned_is_refused g plain (from_first is_taking span)) s span rest)
        (cond c (is_line_of_reparent (λ r again. is_none again && emergency_is_refused g forced span r) s span rest)
        (lines_eq rest (lines_beside seen.recorded span))) ≡ true
        → LinesOf span rest
    of_tests true c k = reparent_lines (planned_is_refused g plain (from_first is_taking span)) s span rest k
    of_tests false true k = reparent_lines (λ r again. is_none again && emergency_is_refused g forced span r) s span rest k
    of_tests false false k =
        OfRepairs rest (same_repairs span rest (lines_beside seen.recorded span) k (beside_repairs seen.recorded span))

-- it found what is amiss by what the tablets said, and its lines are of these two kinds
pub record Watched (g : Group) (s : CommandState) (span : List Deed) (findings : List Finding) (rest : List Rest) : Type 0 where
  pub found : findings_eq findings (problems (findings_of g s.opening.seen (calls_of kinds.Status span))) ≡ true
  pub lines : LinesOf span rest

watched_so : (g : Group) (s : CommandState) (span : List Deed) (findings : List Finding) (rest : List Rest) → is_watched g s span findings rest ≡ true
    → Watched g s span findings rest
watched_so g s span findings rest h =
    let found : List Finding = findings_of g s.opening.seen (calls_of kinds.Status span) in
    let settled : Bool = are_settled (map (λ t. t.alias) g.tablets) (calls_of kinds.Status span) in
    let same : Bool = findings_eq findings (problems found) in
    let does : Bool = are_lines_of g s.opening.seen s span found rest in
    record {
      found = both_right settled same (both_left (settled && same) does h);
      lines = lines_of g s.opening.seen s span found rest (both_right (settled && same) does h);
    }

pub watched_cause : (config : Config) (w : World) (s : CommandState) (command : Command) (findings : List Finding) (rest : List Rest)
    → has_command_cause config w s command (ends.Vtorc findings rest) ≡ true
    → (command ≡ commands.Vtorc) × Watched (group_of config) s (span_in w.post s) findings rest
watched_cause config w s (commands.Planned shard given avoid expected timeout crossing) findings rest h = absurd (false≢true h)
watched_cause config w s (commands.Emergency shard given ignored expected timeout preventing) findings rest h = absurd (false≢true h)
watched_cause config w s (commands.External b) findings rest h = absurd (false≢true h)
watched_cause config w s commands.Vtorc findings rest h = (refl, watched_so (group_of config) s (span_in w.post s) findings rest h)
watched_cause config w s (commands.Write to) findings rest h = absurd (false≢true h)
watched_cause config w s (commands.Show b) findings rest h = absurd (false≢true h)
watched_cause config w s (commands.GetShard shard) findings rest h = absurd (false≢true h)
watched_cause config w s (commands.GetTablets shard) findings rest h = absurd (false≢true h)
