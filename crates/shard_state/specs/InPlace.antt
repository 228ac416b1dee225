-- What a command's calls came to, and what a promotion rests on, as they are looked up in place.
use Rattle.std.specs.Prelude.{ℕ, Bool, false, not, ◌&&◌, ◌||◌, ◌==◌, List, [], ◌∷◌, ◌++◌, map, Option, Some, None}
use Rattle.std.specs.List.{find, list_all}
use Rattle.shard_base.specs.Options.{◌>>=◌}
use Rattle.shard_names.specs.declared.alias.Alias.{Alias}
use Rattle.shard_names.specs.declared.tablet.Tablet.{Tablet}
use Rattle.shard_names.specs.Tablets.{alias_eq}
use Rattle.durability.specs.Rules.{Rules, is_eligible}
use Rattle.durability.specs.Sets.{TabletSet}
use Rattle.durability.specs.Counting.{is_revoked}
use Rattle.gtid_sets.specs.Position.{Position, covers, greatest}
use Rattle.gtid_sets.specs.declared.held.Held.{Held}
use Rattle.shard_calls.specs.declared.answer.Answer.{Answer}
use Rattle.shard_calls.specs.declared.call.Call.{Call}
use Rattle.shard_calls.specs.declared.post.Content.{Content}
use Rattle.shard_calls.specs.declared.post.Content.TheVariants as contents
use Rattle.shard_calls.specs.declared.post.Message.{Message}
use Rattle.shard_calls.specs.declared.span.Asked.{Asked}
use Rattle.shard_calls.specs.declared.span.Deed.{Deed}
use Rattle.shard_calls.specs.declared.span.Outcome.{Outcome}
use Rattle.shard_calls.specs.declared.span.Outcome.TheVariants.{Answered, GivenUp}
use Rattle.shard_calls.specs.declared.state.Act.{Act}
use Rattle.shard_calls.specs.Grounds.{asks_stop, asks_demote, first_outcome, is_asked, passes_held, stopped_at}
use Rattle.shard_calls.specs.Outcomes.{answer_in, outcome_of, sending_by, sending_of, sendings}
use Rattle.shard_calls.specs.Spans.{asked_by}
use Rattle.shard_calls.specs.World.{numbered}
use Rattle.shard_state.specs.declared.evidence.Leave.{Leave}
use Rattle.shard_state.specs.declared.evidence.Leave.TheVariants as leaves
use Rattle.tablet_manager.specs.Managed.{Managed}

-- ---- spans

-- the call of this number
abbrev pub asked_at : List Message → ℕ → Option Asked
asked_at post k = numbered post k >>= (λ m. asked_by post k m m.content)

-- one deed more, if there is one
abbrev pub with_deed : List Deed → Option Deed → List Deed
with_deed span None = span
with_deed span (Some d) = span ++ d ∷ []

-- ---- answers

-- the answer with this number
abbrev pub answer_at : List Message → ℕ → Option Answer
answer_at post k = numbered post k >>= (λ m. answer_in m.content)

abbrev pub answer_of : Outcome → Option Answer
answer_of (Answered says) = Some says
answer_of (GivenUp why) = None

-- what a message was answered, if that settled it
abbrev pub answer_to : List Message → Message → Option Answer
answer_to post m = outcome_of post m >>= answer_of

-- ---- calls by which a tablet gives up what it does

abbrev pub asks : Leave → Call → Bool
asks leaves.Stop = asks_stop
asks leaves.Demote = asks_demote

-- whether a message is such a call, in this term and to this tablet
abbrev pub is_asked_in : ℕ → Alias → Leave → Content → Bool
is_asked_in u a leave (contents.Asks command term to call) = (term == u) && alias_eq to a && asks leave call
is_asked_in u a leave (contents.Answers command asked from says) = false
is_asked_in u a leave (contents.Feeds from to term after index e) = false
is_asked_in u a leave (contents.Acks from to term index) = false

abbrev pub passes : {A : Type 0} → (A → Bool) → Option A → Bool
passes test None = false
passes test (Some x) = test x

-- whether an act of a command sent one
abbrev pub is_asked_by : List Message → ℕ → Alias → Leave → Act → Bool
is_asked_by post u a leave act = passes (is_asked u a (asks leave)) (sending_of post act)

-- what a call was answered
abbrev pub answer_to_call : List Message → Message → Option Answer
answer_to_call post m = sending_by post m m.content >>= (λ s. s.outcome >>= answer_of)

-- what the call of an act was answered
abbrev pub answered_by : List Message → Act → Option Answer
answered_by post act = sending_of post act >>= (λ s. s.outcome >>= answer_of)

-- what the first of these calls was answered
abbrev pub first_answer : List Message → List Act → ℕ → Alias → Leave → Option Answer
first_answer post acts u a leave = first_outcome (sendings post acts) u a (asks leave) >>= answer_of

-- what a tablet had, by such an answer
abbrev pub held_by : (Answer → Option Held) → Option Answer → Option Held
held_by f answer = answer >>= f

-- ---- the last intent of an earlier term

-- ---- who stopped

-- it cannot get a write accepted any more: it may not be promoted, or it is revoked
unfoldable pub is_out : Rules → List Tablet → TabletSet → Tablet → Bool
is_out rules tablets reached t = not (is_eligible rules t) || is_revoked rules tablets reached t

-- what a tablet had when it stopped, if it did
abbrev pub stopped_by : List Message → List Act → ℕ → Managed → Option Held
stopped_by post acts u m = stopped_at (sendings post acts) u m.me.alias

abbrev pub newest_or_zero : Option Held → ℕ
newest_or_zero None = 0
newest_or_zero (Some h) = h.newest

-- the greatest newest row of those who stopped
abbrev pub greatest_stopped : (Managed → Option Held) → List Managed → ℕ
greatest_stopped held managers = greatest (map (λ m. newest_or_zero (held m)) managers)

-- it stopped with this newest row
abbrev pub is_leading : ℕ → Option Held → Bool
is_leading n h = passes_held (λ x. x.newest == n) h

-- the position has all that this one had
abbrev pub covers_held : Position → Option Held → Bool
covers_held p h = passes_held (λ x. covers p x.position) h

-- the position has all that those with this newest row had
abbrev pub covers_leading : (Managed → Option Held) → List Managed → ℕ → Position → Bool
covers_leading held managers n p = list_all (λ m. not (is_leading n (held m)) || covers_held p (held m)) managers

-- it is one of those, and has all that they have
abbrev pub leads_all : (Managed → Option Held) → List Managed → ℕ → Option Held → Bool
leads_all held managers n h = passes_held (λ x. (x.newest == n) && covers_leading held managers n x.position) h

-- the first of them
abbrev pub winner_among : (Managed → Option Held) → List Managed → Option Managed
winner_among held managers = find (λ m. leads_all held managers (greatest_stopped held managers) (held m)) managers
