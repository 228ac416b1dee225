-- One tablet, and what each call, entry, acknowledgement, write, crash and restart does to it. After Vitess's tablet manager (Vitess
-- manual) and the terms of Sougoumarane's "Consensus algorithms at scale": who has seen a term refuses an older one, and who has
-- promised a term accepts nothing more in an older one.
use Rattle.std.specs.Prelude.{ℕ, ◌+◌, Bool, false, ◌&&◌, ◌||◌, ◌==◌, nat_lt, List, [], Some, None, if◌then◌else◌}
use Rattle.shard_names.specs.declared.alias.Alias.{Alias}
use Rattle.shard_names.specs.declared.tablet.Tablet.{Tablet}
use Rattle.gtid_sets.specs.declared.entry.Entry.{Entry}
use Rattle.gtid_sets.specs.declared.entry.Kind.{Kind}
use Rattle.gtid_sets.specs.declared.entry.Kind.TheVariants as kind
use Rattle.gtid_sets.specs.Position.{Position, covers, minus}
use Rattle.durability.specs.Policies.{rules_of}
use Rattle.durability.specs.Sets.{is_accepted}
use Rattle.replication.specs.Acks.{Acked, none_acked, raised}
use Rattle.replication.specs.Told.{holders}
use Rattle.shard_calls.specs.declared.call.Call.{Call}
use Rattle.shard_calls.specs.declared.call.Call.TheVariants as call
use Rattle.shard_calls.specs.declared.answer.Answer.{Answer}
use Rattle.shard_calls.specs.declared.answer.Answer.TheVariants as answer
use Rattle.shard_calls.specs.declared.outcome.Accepted.{Accepted}
use Rattle.shard_calls.specs.declared.outcome.Accepted.TheVariants as accepted
use Rattle.shard_calls.specs.declared.outcome.Written.{Written}
use Rattle.shard_calls.specs.declared.outcome.Written.TheVariants as written
use Rattle.shard_calls.specs.declared.outcome.Restarted.{Restarted}
use Rattle.shard_calls.specs.declared.outcome.Restarted.TheVariants as restarted
use Rattle.shard_calls.specs.declared.stand.Stand.{Stand}
use Rattle.shard_calls.specs.declared.stand.Stand.TheVariants as stand
use Rattle.shard_calls.specs.Stands.{is_down, is_stopped, is_primary, is_primary_of, is_replica_in, is_feeder_in, primary_term, takes_from, waits_for}
use Rattle.shard_calls.specs.declared.group.Group.{Group}
use Rattle.gtid_sets.specs.Logs.{position_of, with_entry, with_own, next_gtid, has_row, place_of_row, newest_row, newest_row_names}

pub record TabletState : Type 0 where
  pub log : List Entry
  -- the greatest term of a call, and the term below which it accepts nothing more
  pub seen : ℕ
  pub promised : ℕ
  pub stand : Stand
  -- the greatest index that each tablet acknowledged in the primary's term, or 0
  pub acked : Acked

-- a tablet that nothing has happened to
abbrev pub opened : TabletState
opened = record { log = []; seen = 0; promised = 0; stand = stand.Stopped; acked = none_acked }

-- what a tablet becomes, and what it says
pub record Verdict (A : Type 0) : Type 0 where
  pub state : TabletState
  pub says : A

-- nothing but an answer
abbrev pub only_says : {A : Type 0} → TabletState → A → Verdict A
only_says s a = record { state = s; says = a }

-- ---- calls

-- A term below the one seen is refused, and changes nothing. Any other is seen from now on, also where the call is refused.
abbrev pub in_term : ℕ → TabletState → (TabletState → Verdict Answer) → Verdict Answer
in_term u s f = if nat_lt u s.seen then only_says s (answer.StaleTerm s.seen) else f (record s { seen = u })

abbrev pub status_of : TabletState → Answer
status_of s = answer.Status s.seen s.promised s.stand (newest_row s.log) (position_of s.log)

-- it stops for a term that it has not promised yet
abbrev pub stops : ℕ → TabletState → Verdict Answer
stops u s = record {
  state = if s.promised == u then s else record s { promised = u; stand = stand.Stopped };
  says = answer.Stopped (newest_row s.log) (position_of s.log);
}

-- the tablet of the newest row takes no more writes
abbrev pub demotes : Tablet → ℕ → TabletState → Verdict Answer
demotes me u s =
    if s.promised == u then only_says s (answer.Demoted (newest_row s.log) (position_of s.log))
    else if newest_row_names s.log me.alias then record {
      state = record s { promised = u; stand = stand.Demoted (newest_row s.log) u };
      says = answer.Demoted (newest_row s.log) (position_of s.log);
    }
    else only_says s (answer.NotStanding (newest_row s.log))

-- the row of the term enters the log, and the tablet is the primary of the term
abbrev pub with_row : Tablet → ℕ → TabletState → TabletState
with_row me u s = record s { log = with_own me (kind.Row u me.alias) s.log; promised = u; stand = stand.Primary u; acked = none_acked }

abbrev pub kept_or_promoted : ℕ → TabletState → Answer
kept_or_promoted u s = if is_primary_of s.stand u then answer.Promoted (position_of s.log) else answer.Kept s.stand

-- a term is entered once, by a tablet that has caught up
abbrev pub promotes : Tablet → ℕ → Position → TabletState → Verdict Answer
promotes me u p s =
    if has_row s.log u then only_says s (kept_or_promoted u s)
    else if covers (position_of s.log) p
    then record { state = with_row me u s; says = answer.Promoted (position_of (with_row me u s).log) }
    else only_says s (answer.NotCaughtUp (minus p (position_of s.log)))

-- it replicates from the source, from its first entry on, unless it would leave a promise or has what the source has not
abbrev pub joins : Alias → ℕ → Position → TabletState → Verdict Answer
joins source t p s =
    if nat_lt t s.promised then only_says s (answer.PromisedAhead s.promised)
    else if is_primary_of s.stand t || is_replica_in s.stand t then only_says s (answer.Kept s.stand)
    else if covers p (position_of s.log)
    then record { state = record s { promised = t; stand = stand.Replica source t 1 }; says = answer.Joined }
    else only_says s (answer.Errant (minus (position_of s.log) p))

-- a tablet that the term has stopped sends its log to replicas of the term
abbrev pub feeds : ℕ → TabletState → Verdict Answer
feeds u s =
    if is_feeder_in s.stand u then only_says s answer.Feeding
    else if is_stopped s.stand && (s.promised == u) then record { state = record s { stand = stand.Feeder u }; says = answer.Feeding }
    else only_says s (answer.Kept s.stand)

-- it says whether its log covers the position
abbrev pub waits_for_position : Position → TabletState → Verdict Answer
waits_for_position p s =
    only_says s (if covers (position_of s.log) p then answer.Holds else answer.NotCaughtUp (minus p (position_of s.log)))

-- Whether an index of the tablet's log counts as committed: the tablet is a primary, and the policy accepts those that hold the index as it knows.
abbrev pub is_told : Group → Tablet → TabletState → ℕ → Bool
is_told g me s index = is_primary s.stand && is_accepted (rules_of g.policy) g.tablets me (holders s.acked me.alias index)

-- whether the row of the term is in the log and counts as committed
abbrev pub is_row_told : Group → Tablet → TabletState → ℕ → Bool
is_row_told g me s term = elim (place_of_row s.log term) [ Some index ↦ is_told g me s index | None ↦ false ]

-- a primary of the term says whether the row of the term counts as committed
abbrev pub waits_told : Group → Tablet → ℕ → TabletState → Verdict Answer
waits_told g me u s =
    only_says s (if is_primary_of s.stand u then (if is_row_told g me s u then answer.Told else answer.NotTold) else answer.Kept s.stand)

-- what a tablet makes of a call of term u
abbrev pub verdict : Group → Tablet → ℕ → Call → TabletState → Verdict Answer
verdict g me u call.Status s = only_says s (status_of s)
verdict g me u call.Stop s = in_term u s (stops u)
verdict g me u call.Demote s = in_term u s (demotes me u)
verdict g me u (call.Promote p) s = in_term u s (promotes me u p)
verdict g me u (call.SetSource source t p) s = in_term u s (joins source t p)
verdict g me u call.Feed s = in_term u s (feeds u)
verdict g me u (call.WaitFor p until) s = in_term u s (waits_for_position p)
verdict g me u (call.WaitTold until) s = in_term u s (waits_told g me u)

abbrev pub after_call : Group → Tablet → ℕ → Call → TabletState → TabletState
after_call g me u c s = (verdict g me u c s).state

abbrev pub answer_to : Group → Tablet → ℕ → Call → TabletState → Answer
answer_to g me u c s = (verdict g me u c s).says

-- ---- replication

-- the entry with index `index` in the source's log, sent to a replica that waits for what comes behind `after`
abbrev pub accepts : Alias → ℕ → ℕ → ℕ → Entry → TabletState → Verdict Accepted
accepts from term after index e s =
    if takes_from s.stand from term after
    then record { state = record s { log = with_entry s.log e; stand = waits_for s.stand (index + 1) }; says = accepted.Taken }
    else only_says s accepted.Ignored

-- a primary notes what a replica has
abbrev pub after_ack : Alias → ℕ → ℕ → TabletState → TabletState
after_ack from term index s = if is_primary_of s.stand term then record s { acked = raised from index s.acked } else s

-- ---- writes

-- one more entry of its own
abbrev pub writes_own : Tablet → Kind → TabletState → Verdict Written
writes_own me k s = record { state = record s { log = with_own me k s.log }; says = written.Entry (next_gtid me.server s.log) }

-- a client's write, which a primary alone takes
abbrev pub writes : Tablet → ℕ → ℕ → TabletState → Verdict Written
writes me client number s =
    elim (primary_term s.stand) [
      | Some t ↦ writes_own me (kind.Write t client number) s
      | None ↦ only_says s (written.NotPrimary s.stand)
    ]

-- a write at the server itself, round the primary
abbrev pub writes_local : Tablet → TabletState → Verdict Written
writes_local me s = if is_down s.stand then only_says s (written.NotPrimary s.stand) else writes_own me kind.Local s

-- ---- crashes

-- the log and the terms stay
abbrev pub after_crash : TabletState → TabletState
after_crash s = record s { stand = stand.Down }

-- it comes up stopped, and knows of no acknowledgement
abbrev pub restarts : TabletState → Verdict Restarted
restarts s =
    if is_down s.stand
    then record { state = record s { stand = stand.Stopped; acked = none_acked }; says = restarted.Up }
    else only_says s restarted.WasUp
