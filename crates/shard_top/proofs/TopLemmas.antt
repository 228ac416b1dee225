-- The answer of the whole.
use Rattle.std.proofs.Common.{◌≡◌, ◌≢◌, ℕ, ◌+◌, List, [], ◌++◌, length, Option, Some, None, Result, Ok, Err, IfOk, MatchResult, Vec, Global, refl, ap, sym, subst, ◌∙◌, arith}
use Rattle.std.specs.Prelude.{◌<◌, IsOkAnd, IsTrue, nat_lt, unwrap_or}
use Rattle.std.proofs.lemmas.Bool.Decides.{nat_tests}
use Rattle.std.proofs.lemmas.List.{append-nil}
use Rattle.std.specs.Io.KnownBytes.{Appends}
use Rattle.shard_base.specs.Lists.{IsFront}
use Rattle.shard_base.specs.declared.memory.OutOfMemory.{OutOfMemory}
use Rattle.shard_names.specs.Tablets.{AreTablets}
use Rattle.shard_calls.specs.World.{Config}
use Rattle.shard_core.specs.Kept.{Kept}
use Rattle.shard_laws.specs.Safe.{IsSafe}
use Rattle.shard_laws.proofs.SafeLemmas.{every_run_is_safe}
use Rattle.shard_calls.specs.declared.event.Step.{Step}
use Rattle.shard_script.specs.declared.script.Script.{Script}
use Rattle.shard_script.specs.declared.script.ScriptFault.{ScriptFault}
use Rattle.shard_script.specs.declared.script.ScriptFault.TheVariants as faults
use Rattle.script_faults.specs.declared.fault.Fault.{Fault}
use Rattle.shard_script.specs.Faults.{Gives, first_fault}
use Rattle.shard_script.specs.Script.{Fits, reading, front}
use Rattle.shard_script.specs.Generator.{generated}
use Rattle.shard_top.specs.declared.player.Stop.{Stop}
use Rattle.shard_top.specs.declared.player.Stop.TheVariants as stops
use Rattle.shard_top.specs.Memory.{NoneLacked, HasRunPlainly}
use Rattle.shard_top.specs.Played.{Want, Made, steps_of, notes_of, notes_from, first_moment, begins_at, config_of, IsRunOf}
use Rattle.shard_top.specs.Playing.{HasRun, WasCutOff}
use Rattle.shard_top.specs.Streams.{AppendsFront, WasRead}
use Rattle.shard_top.specs.Program.{Answer, Answers, IsAnswerOf, IsAnswerToReading, IsAnswerToText, IsAnswerBy, IsAnswerTo, fault_answer, no_config}
use Rattle.shard_top.specs.declared.words.Asked.{Asked}
use Rattle.shard_top.specs.declared.words.Asked.TheVariants as asks
use Rattle.shard_top.specs.Words.{words_reading}
use Rattle.shard_calls.specs.declared.event.Note.{Note}
use Rattle.vtctld_text.specs.Notes.{AreInPlace}
use Rattle.shard_top.specs.Texts.{told_of, usage_text, fault_text, stop_text, status_of}
use Rattle.shard_script.proofs.ScriptLemmas.{fits_from}
use Rattle.shard_top.proofs.LongerLemmas.{steps_append, notes_append}
use Rattle.shard_top.proofs.StreamLemmas.{appends_none}
use Rattle.shard_top.proofs.RestLemmas.{plays_to_stop}
use Rattle.shard_top.proofs.LawLemmas.{notes_in_place}
use Rattle.shard_top.proofs.WantLemmas.{runs_plainly}
use Rattle.shard_top.specs.Programs.{program, own}
use Rattle.shard_top.proofs.ProgramRuns.{own_front, own_all}
use Rattle.shard_top.specs.Accounts.{Became, FrontBecame}
use Rattle.shard_top.specs.Courses.{KeepCourses}
use Rattle.shard_top.proofs.CourseLemmas.{keep_courses}
use Rattle.shard_top.proofs.BecameRuns.{front_became, all_became}

-- ---- nothing written, nothing kept

pub front_none : (o : Option (List ℕ)) (bytes : List ℕ) → AppendsFront o o bytes
front_none o bytes = (0, omega arith, appends_none o)

pub no_tablets : AreTablets []
no_tablets = record { in_order = tt; apart = tt }

safe_from_none : (config : Config) → AreTablets config.tablets → IsSafe config []
safe_from_none config h = every_run_is_safe config [] (record { tablets = h }) tt

safe_none : (config : Config) (steps : List Step) → steps ≡ [] → AreTablets config.tablets → IsSafe config steps
safe_none config steps none h = subst (λ (ss : List Step). IsSafe config ss) (sym none) (safe_from_none config h)

pub safe_empty : (steps : List Step) → steps ≡ [] → (config : Config) × IsSafe config steps
safe_empty steps none = (no_config, safe_none no_config steps none no_tablets)

front_of_none : {A : Type 0} (xs whole : List A) → xs ≡ [] → IsFront xs whole
front_of_none {A} xs whole none = subst (λ (ys : List A). IsFront ys whole) (sym none) (record { rest = whole; split = refl })

same_front : {A : Type 0} (xs whole : List A) → xs ≡ whole → IsFront xs whole
same_front xs whole is = record { rest = []; split = sym is ∙ sym (append-nil xs) }

-- the clock of a script begins before the year 9999
pub begins_in_time : (s : Script) (n : ℕ) → Fits s → n ≡ begins_at s → IsTrue (nat_lt n 253370764800000)
unfolding first_moment
begins_in_time s n h same = by_clock s.clock refl
  where
    by_clock : (o : Option ℕ) → s.clock ≡ o → IsTrue (nat_lt n 253370764800000)
    by_clock None is =
        let at : n ≡ 1704067200000 = same ∙ ap (λ (o : Option ℕ). unwrap_or o 1704067200000) is in
        grind (arith, nat_tests)
    by_clock (Some m) is =
        let at : n ≡ m = same ∙ ap (λ (o : Option ℕ). unwrap_or o 1704067200000) is in
        let less : m < 221876928000000 = h.clock m is in
        grind (arith, nat_tests)

-- ---- the answer of a run

-- what is told of a history
abbrev pub Told : Type 0
Told = List Step → List Note → List ℕ

abbrev made_answer : Script → Told → Stop → List Step → List Note → Answer
made_answer s told stop history notes =
    record { status = status_of stop history notes; config = config_of s; history = history; notes = notes; written = told history notes ++ stop_text stop }

plainly : (s : Script) (stop : Stop) (history : List Step) (notes : List Note) → HasRun s history notes stop → stop ≢ stops.Full → NoneLacked history → HasRunPlainly s history notes stop
plainly s stop history notes h not_full none = record {
  made = h.made;
  run = runs_plainly s h.wants h.made stop not_full (subst (λ (ss : List Step). NoneLacked ss) (sym h.of_steps) none) h.run;
  of_steps = h.of_steps;
  of_notes = h.of_notes;
}

is_made : (s : Script) (told : Told) (stop : Stop) (history : List Step) (notes : List Note) → Fits s → HasRun s history notes stop → IsAnswerOf s told (made_answer s told stop history notes)
is_made s told stop history notes fits run = record {
  stop = stop;
  played = run;
  plain = plainly s stop history notes run;
  status = refl;
  config = refl;
  written = refl;
  own_front = λ actor. subst (λ (ss : List Step). IsFront (own ss actor) (program s actor)) run.of_steps (own_front s run.wants run.made stop fits run.run actor);
  own_all = λ over actor. subst (λ (ss : List Step). own ss actor ≡ program s actor) run.of_steps (own_all s run.wants run.made stop fits run.run over actor);
  lines_front =
      subst (λ (ss : List Step). FrontBecame s.actions ss notes) run.of_steps
      (subst (λ (ns : List Note). FrontBecame s.actions (steps_of run.made) ns) run.of_notes (front_became s run.wants run.made stop fits run.run));
  lines_all =
      λ over.
      subst (λ (ss : List Step). Became s.actions ss notes) run.of_steps
      (subst (λ (ns : List Note). Became s.actions (steps_of run.made) ns) run.of_notes (all_became s run.wants run.made stop fits run.run over));
  courses = subst (λ (ss : List Step). KeepCourses (config_of s) ss) run.of_steps (keep_courses s run.wants run.made stop fits run.run);
}

run_is : (s : Script) (wants : List Want) (made : List Made) (stop : Stop) → IsRunOf s wants made stop → HasRun s (steps_of made) (notes_of made) stop
run_is s wants made stop run = record { wants = wants; made = made; run = run; of_steps = refl; of_notes = refl }

-- its notes stand in their places
pub stand_in_place : (s : Script) (k : Kept) (steps : List Step) (notes : List Note) (stop : Stop) → steps ≡ k.steps → notes ≡ k.notes → HasRun s k.steps k.notes stop → AreInPlace steps notes
stand_in_place s k steps notes stop is same run =
    subst (λ (ss : List Step). AreInPlace ss notes) (run.of_steps ∙ sym is) (subst (λ (ns : List Note). AreInPlace (steps_of run.made) ns) (run.of_notes ∙ sym same) (notes_in_place run.made))

-- ---- some answer, and its tablets

abbrev SomeAnswer : (Answer → Type 0) → Type 0
SomeAnswer P = (a : Answer) × P a × AreTablets a.config.tablets

of_script : (s : Script) (told : Told) → Fits s → SomeAnswer (λ a. IsAnswerOf s told a)
of_script s told h =
    let w = plays_to_stop s [] [] (omega arith) (omega arith) tt in (
      made_answer s told w.1.0 (steps_of w.0) (notes_of w.0),
      is_made s told w.1.0 (steps_of w.0) (notes_of w.0) h (run_is s [] w.0 w.1.0 w.1.1),
      h.tablets,
    )

of_reading : (asked : Asked) (r : Result Script ℕ) (fault : Fault) → ((s : Script) → r ≡ Ok s → Fits s) → SomeAnswer (λ a. IsAnswerToReading asked r fault a)
of_reading asked (Ok s) fault h = of_script s (told_of asked s) (h s refl)
of_reading asked (Err place) fault h = (fault_answer 3 (fault_text place fault), refl, no_tablets)

of_text : (asked : Asked) (text : List ℕ) → SomeAnswer (λ a. IsAnswerToText asked text a)
of_text asked text = of_reading asked (reading text) (first_fault text) (λ s is. fits_from text s is)

-- ---- want of memory

pub gave_up : (a : Answer) (calm : Type 0) (status : ℕ) (history : List Step) (notes : List Note) (o : Option (List ℕ)) → status ≡ 6 → history ≡ [] → notes ≡ [] → AreTablets a.config.tablets
    → Answers a calm status history notes o o
gave_up a calm status history notes o is none unnoted h = record {
  whole = λ c no6. absurd (no6 is);
  kept = λ no6. absurd (no6 is);
  front = front_of_none history a.history none;
  front_notes = front_of_none notes a.notes unnoted;
  written = front_none o a.written;
  safe = safe_none a.config history none h;
}

-- what a call answered, by some answer that fits
abbrev pub Answered : (Answer → Type 0) → Type 0 → ℕ → List Step → List Note → Option (List ℕ) → Option (List ℕ) → Type 0
Answered P calm status history notes old new = (a : Answer) × P a × Answers a calm status history notes old new

gave_up_by : (P : Answer → Type 0) (calm : Type 0) (status : ℕ) (history : List Step) (notes : List Note) (o : Option (List ℕ)) → SomeAnswer P → status ≡ 6 → history ≡ [] → notes ≡ []
    → Answered P calm status history notes o o
gave_up_by P calm status history notes o some is none unnoted = (some.0, some.1, gave_up some.0 calm status history notes o is none unnoted some.2)

pub gave_up_script : (s : Script) (told : Told) (calm : Type 0) (status : ℕ) (history : List Step) (notes : List Note) (o : Option (List ℕ)) → Fits s → status ≡ 6 → history ≡ [] → notes ≡ []
    → Answered (λ a. IsAnswerOf s told a) calm status history notes o o
gave_up_script s told calm status history notes o h is none unnoted = gave_up_by (λ a. IsAnswerOf s told a) calm status history notes o (of_script s told h) is none unnoted

pub gave_up_text : (asked : Asked) (text : List ℕ) (calm : Type 0) (status : ℕ) (history : List Step) (notes : List Note) (o : Option (List ℕ)) → status ≡ 6 → history ≡ [] → notes ≡ []
    → Answered (λ a. IsAnswerToText asked text a) calm status history notes o o
gave_up_text asked text calm status history notes o is none unnoted = gave_up_by (λ a. IsAnswerToText asked text a) calm status history notes o (of_text asked text) is none unnoted

-- memory ran out while the script was played
gave_up_playing : (s : Script) (told : Told) (calm : Type 0) (history : List Step) (notes : List Note) (o : Option (List ℕ)) → Fits s → WasCutOff s history notes → IsSafe (config_of s) history
    → Answered (λ a. IsAnswerOf s told a) calm 6 history notes o o
gave_up_playing s told calm history notes o fits cut safe =
    let w = plays_to_stop s cut.wants cut.made cut.cut.few cut.cut.few_notes cut.cut.played in
    let whole : List Made = cut.made ++ w.0 in (
      made_answer s told w.1.0 (steps_of whole) (notes_of whole),
      is_made s told w.1.0 (steps_of whole) (notes_of whole) fits (run_is s cut.wants whole w.1.0 w.1.1),
      record {
        whole = λ c no6. absurd (no6 refl);
        kept = λ no6. absurd (no6 refl);
        front = record { rest = steps_of w.0; split = steps_append cut.made w.0 ∙ ap (λ (ss : List Step). ss ++ steps_of w.0) cut.of_steps };
        front_notes = record {
          rest = notes_from (0 + length (steps_of cut.made)) w.0;
          split = notes_append 0 cut.made w.0 ∙ ap (λ (ns : List Note). ns ++ notes_from (0 + length (steps_of cut.made)) w.0) cut.of_notes;
        };
        written = front_none o (told (steps_of whole) (notes_of whole) ++ stop_text w.1.0);
        safe = safe;
      },
    )

pub gave_up_by_playing : (s : Script) (told : Told) (calm : Type 0) (k : Kept) (history : List Step) (notes : List Note) (o : Option (List ℕ)) → Fits s → history ≡ k.steps → notes ≡ k.notes → k.config ≡ config_of s
    → IsSafe k.config history → WasCutOff s k.steps k.notes → Answered (λ a. IsAnswerOf s told a) calm 6 history notes o o
gave_up_by_playing s told calm k history notes o fits is same config safe cut =
    gave_up_playing s told calm history notes o fits (subst (λ (ns : List Note). WasCutOff s history ns) (sym same) (subst (λ (ss : List Step). WasCutOff s ss k.notes) (sym is) cut)) (subst (λ (c : Config). IsSafe c history) config safe)

-- ---- the whole

-- what was put of a text, if there was memory for it
pub told_part : (r : Result (Vec ℕ Global) OutOfMemory) (o n : Option (List ℕ)) (bytes : List ℕ) → IfOk r (λ t. t.items ≡ bytes)
    → MatchResult r (λ t. AppendsFront o n t.items) (λ _. n ≡ o) → AppendsFront o n bytes
told_part (Ok t) o n bytes text part = subst (λ (bs : List ℕ). AppendsFront o n bs) text part
told_part (Err e) o n bytes text part = subst (λ (k : Option (List ℕ)). AppendsFront o k bytes) (sym part) (front_none o bytes)

told_all : (s : Script) (told : Told) (stop : Stop) (calm : Type 0) (status : ℕ) (played history : List Step) (noted notes : List Note) (o n : Option (List ℕ)) → Fits s → HasRun s played noted stop → history ≡ played
    → notes ≡ noted → IsSafe (config_of s) played → (calm → status ≢ 6 → (status ≡ status_of stop played noted) × Appends o n (told played noted ++ stop_text stop))
    → AppendsFront o n (told played noted ++ stop_text stop) → Answered (λ a. IsAnswerOf s told a) calm status history notes o n
told_all s told stop calm status played history noted notes o n fits run is same safe said part = (
  made_answer s told stop played noted,
  is_made s told stop played noted fits run,
  record {
    whole = said;
    kept = λ no6. (is, same);
    front = same_front history played is;
    front_notes = same_front notes noted same;
    written = part;
    safe = subst (λ (ss : List Step). IsSafe (config_of s) ss) (sym is) safe;
  },
)

pub told_by : (s : Script) (told : Told) (stop : Stop) (calm : Type 0) (status : ℕ) (k : Kept) (played history : List Step) (noted notes : List Note) (o n : Option (List ℕ)) → Fits s → played ≡ k.steps
    → noted ≡ k.notes → k.config ≡ config_of s → IsSafe k.config played → HasRun s k.steps k.notes stop → history ≡ played → notes ≡ noted
    → (calm → status ≢ 6 → (status ≡ status_of stop played noted) × Appends o n (told played noted ++ stop_text stop)) → AppendsFront o n (told played noted ++ stop_text stop)
    → Answered (λ a. IsAnswerOf s told a) calm status history notes o n
told_by s told stop calm status k played history noted notes o n fits same as_noted config safe run is kept said part =
    told_all s told stop calm status played history noted notes o n fits
    (subst (λ (ns : List Note). HasRun s played ns stop) (sym as_noted) (subst (λ (ss : List Step). HasRun s ss k.notes stop) (sym same) run)) is kept (subst (λ (c : Config). IsSafe c played) config safe) said
    part

-- a fault is said, and nothing is kept
pub said_fault : (a : Answer) (calm : Type 0) (status : ℕ) (history : List Step) (notes : List Note) (o n : Option (List ℕ)) (r : Result (Vec ℕ Global) OutOfMemory) → a.history ≡ [] → a.notes ≡ []
    → AreTablets a.config.tablets → history ≡ [] → notes ≡ [] → IfOk r (λ t. t.items ≡ a.written) → (calm → status ≢ 6 → IsOkAnd r (λ t. (status ≡ a.status) × Appends o n t.items))
    → MatchResult r (λ t. AppendsFront o n t.items) (λ _. n ≡ o) → Answers a calm status history notes o n
said_fault a calm status history notes o n (Ok t) empty bare h none unnoted text said part = record {
  whole = λ c no6. let both = said c no6 in (both.0, subst (λ (bs : List ℕ). Appends o n bs) text both.1);
  kept = λ no6. (none ∙ sym empty, unnoted ∙ sym bare);
  front = front_of_none history a.history none;
  front_notes = front_of_none notes a.notes unnoted;
  written = subst (λ (bs : List ℕ). AppendsFront o n bs) text part;
  safe = safe_none a.config history none h;
}
said_fault a calm status history notes o n (Err e) empty bare h none unnoted text said part = record {
  whole = λ c no6. absurd (said c no6);
  kept = λ no6. (none ∙ sym empty, unnoted ∙ sym bare);
  front = front_of_none history a.history none;
  front_notes = front_of_none notes a.notes unnoted;
  written = subst (λ (k : Option (List ℕ)). AppendsFront o k a.written) (sym part) (front_none o a.written);
  safe = safe_none a.config history none h;
}

pub gives_line : (e : ScriptFault) (r : Result Script ℕ) (f : Fault) (place : ℕ) (fault : Fault) → e ≡ faults.Line place fault → Gives (Err e) r f → (r ≡ Err place) × (fault ≡ f)
gives_line e r f place fault is h = subst (λ (v : ScriptFault). Gives (Err v) r f) is h

pub said_line : (asked : Asked) (text : List ℕ) (place : ℕ) (fault : Fault) (calm : Type 0) (status : ℕ) (history : List Step) (notes : List Note) (o n : Option (List ℕ)) (r : Result (Vec ℕ Global) OutOfMemory)
    → (reading text ≡ Err place) × (fault ≡ first_fault text) → history ≡ [] → notes ≡ [] → IfOk r (λ t. t.items ≡ fault_text place fault)
    → (calm → status ≢ 6 → IsOkAnd r (λ t. (status ≡ 3) × Appends o n t.items))
    → MatchResult r (λ t. AppendsFront o n t.items) (λ _. n ≡ o) → Answered (λ a. IsAnswerToText asked text a) calm status history notes o n
said_line asked text place fault calm status history notes o n r is none unnoted written said part = (
  fault_answer 3 (fault_text place fault),
  subst (λ (v : Result Script ℕ). IsAnswerToReading asked v (first_fault text) (fault_answer 3 (fault_text place fault))) (sym is.0)
      (ap (λ (f : Fault). fault_answer 3 (fault_text place f)) is.1),
  said_fault (fault_answer 3 (fault_text place fault)) calm status history notes o n r refl refl no_tablets none unnoted written said part,
)

pub said_usage : (words : List (List ℕ)) (text word : List ℕ) (calm : Type 0) (status : ℕ) (history : List Step) (notes : List Note) (o n : Option (List ℕ)) (r : Result (Vec ℕ Global) OutOfMemory)
    → words_reading words ≡ Err word → history ≡ [] → notes ≡ [] → IfOk r (λ t. t.items ≡ usage_text word) → (calm → status ≢ 6 → IsOkAnd r (λ t. (status ≡ 2) × Appends o n t.items))
    → MatchResult r (λ t. AppendsFront o n t.items) (λ _. n ≡ o) → Answered (λ a. IsAnswerTo words text a) calm status history notes o n
said_usage words text word calm status history notes o n r is none unnoted written said part = (
  fault_answer 2 (usage_text word),
  subst (λ (v : Result Asked (List ℕ)). IsAnswerBy v text (fault_answer 2 (usage_text word))) (sym is) refl,
  said_fault (fault_answer 2 (usage_text word)) calm status history notes o n r refl refl no_tablets none unnoted written said part,
)

-- so does `step --history`
pub history_words : (words : List (List ℕ)) (text : List ℕ) (calm : Type 0) (status : ℕ) (history : List Step) (notes : List Note) (o n : Option (List ℕ)) → words_reading words ≡ Ok asks.History
    → Answered (λ a. IsAnswerToText asks.History text a) calm status history notes o n → Answered (λ a. IsAnswerTo words text a) calm status history notes o n
history_words words text calm status history notes o n is h =
    (h.0, subst (λ (v : Result Asked (List ℕ)). IsAnswerBy v text h.0) (sym is) h.1, h.2)

-- `step` leaves the answer to the text
pub step_words : (words : List (List ℕ)) (text : List ℕ) (calm : Type 0) (status : ℕ) (history : List Step) (notes : List Note) (o n : Option (List ℕ)) → words_reading words ≡ Ok asks.Step
    → Answered (λ a. IsAnswerToText asks.Step text a) calm status history notes o n → Answered (λ a. IsAnswerTo words text a) calm status history notes o n
step_words words text calm status history notes o n is h =
    (h.0, subst (λ (v : Result Asked (List ℕ)). IsAnswerBy v text h.0) (sym is) h.1, h.2)

-- `gen` leaves it to the rounds
pub gen_words : (words : List (List ℕ)) (text : List ℕ) (rounds : ℕ) (calm : Type 0) (status : ℕ) (history : List Step) (notes : List Note) (o n : Option (List ℕ))
    → words_reading words ≡ Ok (asks.Gen rounds) → Answered (λ a. IsAnswerOf (generated rounds) (told_of (asks.Gen rounds) (generated rounds)) a) calm status history notes o n
    → Answered (λ a. IsAnswerTo words text a) calm status history notes o n
gen_words words text rounds calm status history notes o n is h =
    (h.0, subst (λ (v : Result Asked (List ℕ)). IsAnswerBy v text h.0) (sym is) h.1, h.2)

-- ---- the text that was read, or could have been

some_text : (o : Option (List ℕ)) → (text : List ℕ) × WasRead o text
some_text None = ([], tt)
some_text (Some bytes) = (front bytes, refl)

pub for_some_text : (o : Option (List ℕ)) (P : List ℕ → Type 0) → ((text : List ℕ) → P text) → (text : List ℕ) × WasRead o text × P text
for_some_text o P h = let t = some_text o in (t.0, t.1, h t.0)
