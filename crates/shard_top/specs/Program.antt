-- What the program answers to its words and its input.
use Rattle.std.specs.Prelude.{◌≡◌, ◌≢◌, ℕ, List, [], ◌++◌, Option, Result, Ok, Err}
use Rattle.std.specs.Io.KnownBytes.{Appends}
use Rattle.shard_base.specs.Lists.{IsFront}
use Rattle.durability.specs.declared.policy.Durability.TheVariants as policies
use Rattle.shard_calls.specs.World.{Config}
use Rattle.shard_laws.specs.Safe.{IsSafe}
use Rattle.shard_calls.specs.declared.event.Step.{Step}
use Rattle.shard_script.specs.declared.script.Script.{Script}
use Rattle.script_faults.specs.declared.fault.Fault.{Fault}
use Rattle.shard_script.specs.Faults.{first_fault}
use Rattle.shard_script.specs.Script.{reading}
use Rattle.shard_script.specs.Generator.{generated}
use Rattle.shard_top.specs.declared.player.Stop.{Stop}
use Rattle.shard_top.specs.declared.player.Stop.TheVariants as stops
use Rattle.shard_top.specs.Memory.{NoneLacked, HasRunPlainly}
use Rattle.shard_calls.specs.declared.event.Note.{Note}
use Rattle.shard_top.specs.Played.{first_moment, config_of}
use Rattle.shard_top.specs.Playing.{HasRun}
use Rattle.shard_top.specs.Programs.{program, own}
use Rattle.shard_top.specs.Accounts.{Became, FrontBecame}
use Rattle.shard_top.specs.Courses.{KeepCourses}
use Rattle.shard_top.specs.Texts.{told_of, stop_text, status_of, usage_text, fault_text}
use Rattle.shard_top.specs.declared.words.Asked.{Asked}
use Rattle.shard_top.specs.declared.words.Asked.TheVariants as asks
use Rattle.shard_top.specs.Words.{words_reading}
use Rattle.shard_top.specs.Streams.{AppendsFront}

-- a status, the configuration that was declared, the kept history with its notes, and the bytes that are written
pub record Answer : Type 0 where
  pub status : ℕ
  pub config : Config
  pub history : List Step
  pub notes : List Note
  pub written : List ℕ

-- of words or a text that declare nothing
abbrev pub no_config : Config
no_config = record { tablets = []; policy = policies.None; moment = first_moment }

-- A script is played to a stop, with some wants of memory, and what is told of its history is written, with the reason of the stop. Where it is over or
-- blocked, and no command was refused for want of memory, it has played the run that wants none: so all of this is one function of the script.
pub record IsAnswerOf (s : Script) (told : List Step → List Note → List ℕ) (a : Answer) : Type 0 where
  pub stop : Stop
  pub played : HasRun s a.history a.notes stop
  pub plain : stop ≢ stops.Full → NoneLacked a.history → HasRunPlainly s a.history a.notes stop
  pub status : a.status ≡ status_of stop a.history a.notes
  pub config : a.config ≡ config_of s
  pub written : a.written ≡ told a.history a.notes ++ stop_text stop
  -- each actor has begun its commands in order, and all of them where the script is over
  pub own_front : (actor : List ℕ) → IsFront (own a.history actor) (program s actor)
  pub own_all : stop ≡ stops.Over → (actor : List ℕ) → own a.history actor ≡ program s actor
  -- and each line that is one event by itself became its step or its note, a front of them, and all where the script is over
  pub lines_front : FrontBecame s.actions a.history a.notes
  pub lines_all : stop ≡ stops.Over → Became s.actions a.history a.notes
  -- and commands keep to their courses
  pub courses : KeepCourses a.config a.history

-- nothing is played, this is the status, and this is written
abbrev pub fault_answer : ℕ → List ℕ → Answer
fault_answer status written = record { status = status; config = no_config; history = []; notes = []; written = written }

-- status 3 exactly where the script has no reading
abbrev pub IsAnswerToReading : Asked → Result Script ℕ → Fault → Answer → Type 0
IsAnswerToReading asked (Ok s) fault a = IsAnswerOf s (told_of asked s) a
IsAnswerToReading asked (Err place) fault a = a ≡ fault_answer 3 (fault_text place fault)

abbrev pub IsAnswerToText : Asked → List ℕ → Answer → Type 0
IsAnswerToText asked text a = IsAnswerToReading asked (reading text) (first_fault text) a

-- status 2 exactly where the words have no reading; a rehearsal is played without the input
abbrev pub IsAnswerBy : Result Asked (List ℕ) → List ℕ → Answer → Type 0
IsAnswerBy (Err word) text a = a ≡ fault_answer 2 (usage_text word)
IsAnswerBy (Ok asks.Step) text a = IsAnswerToText asks.Step text a
IsAnswerBy (Ok asks.History) text a = IsAnswerToText asks.History text a
IsAnswerBy (Ok (asks.Gen rounds)) text a = IsAnswerOf (generated rounds) (told_of (asks.Gen rounds) (generated rounds)) a

-- the words are read before the input
abbrev pub IsAnswerTo : List (List ℕ) → List ℕ → Answer → Type 0
IsAnswerTo words text a = IsAnswerBy (words_reading words) text a

-- A call answered so, where the sink did not fail and memory did not run out. In any case the history and its notes are fronts of these, and
-- what was written is a front of these bytes.
pub record Answers (a : Answer) (calm : Type 0) (status : ℕ) (history : List Step) (notes : List Note) (old new : Option (List ℕ)) : Type 0 where
  pub whole : calm → status ≢ 6 → (status ≡ a.status) × Appends old new a.written
  pub kept : status ≢ 6 → (history ≡ a.history) × (notes ≡ a.notes)
  pub front : IsFront history a.history
  pub front_notes : IsFront notes a.notes
  pub written : AppendsFront old new a.written
  pub safe : IsSafe a.config history
