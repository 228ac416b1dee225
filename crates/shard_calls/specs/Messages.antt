-- Messages: which of them come to their receivers, when a command may give up a call, and what a source may offer to a replica. Links, lost
-- and repeated messages are as in Sougoumarane's "Consensus algorithms at scale"; a source sends its binary log to its replicas from the
-- place on that each has come to (MySQL 8.0 manual, "Replication").
use Rattle.std.specs.Prelude.{ℕ, ◌+◌, ◌-◌, Bool, true, false, not, ◌&&◌, ◌||◌, ◌==◌, nat_lt, nat_le, List, [], ◌∷◌, ◌++◌, filter, drop, Option, Some, None, is_none, is_some, if◌then◌else◌}
use Rattle.std.specs.List.{list_any, list_all}
use Rattle.shard_base.specs.Options.{◌>>=◌, only_if}
use Rattle.shard_names.specs.declared.alias.Alias.{Alias}
use Rattle.shard_names.specs.Tablets.{alias_eq, tablet_of}
use Rattle.gtid_sets.specs.declared.entry.Entry.{Entry}
use Rattle.gtid_sets.specs.Position.{covers}
use Rattle.shard_calls.specs.declared.call.Call.{Call}
use Rattle.shard_calls.specs.declared.call.Call.TheVariants as calls
use Rattle.shard_calls.specs.declared.command.Command.{Command}
use Rattle.shard_calls.specs.declared.event.Link.{Link}
use Rattle.shard_calls.specs.declared.event.Side.{Side}
use Rattle.shard_calls.specs.declared.event.Side.TheVariants as sides
use Rattle.shard_calls.specs.declared.post.Content.{Content}
use Rattle.shard_calls.specs.declared.post.Content.TheVariants as contents
use Rattle.shard_calls.specs.declared.post.Message.{Message}
use Rattle.shard_calls.specs.declared.stand.Stand.{Stand}
use Rattle.shard_calls.specs.declared.stand.Stand.TheVariants as stands
use Rattle.shard_calls.specs.declared.state.CommandState.{CommandState}
use Rattle.shard_calls.specs.declared.why.Why.{Why}
use Rattle.shard_calls.specs.declared.why.Why.TheVariants as whys
use Rattle.shard_calls.specs.Commands.{timeout_of}
use Rattle.shard_calls.specs.Stands.{is_down, is_feeder, is_primary_of}
use Rattle.gtid_sets.specs.Logs.{holds, newest_row, place_of_row, position_of}
use Rattle.shard_calls.specs.Tablets.{TabletState, is_told, is_row_told}
use Rattle.shard_calls.specs.World.{World, numbered, open_command}

-- ---- links

abbrev pub side_eq : Side → Side → Bool
side_eq sides.Control sides.Control = true
side_eq sides.Control (sides.Tablet a) = false
side_eq (sides.Tablet a) sides.Control = false
side_eq (sides.Tablet a) (sides.Tablet b) = alias_eq a b

-- whether two links are one, in either direction
abbrev pub link_eq : Link → Link → Bool
link_eq k l = (side_eq k.x l.x && side_eq k.y l.y) || (side_eq k.x l.y && side_eq k.y l.x)

abbrev pub is_cut : List Link → Link → Bool
is_cut cuts l = list_any (link_eq l) cuts

abbrev pub with_cut : List Link → Link → List Link
with_cut cuts l = if is_cut cuts l then cuts else cuts ++ l ∷ []

abbrev pub without_cut : List Link → Link → List Link
without_cut cuts l = filter (λ k. not (link_eq l k)) cuts

-- the link over which commands call this tablet
abbrev pub link_to : Alias → Link
link_to a = record { x = sides.Control; y = sides.Tablet a }

abbrev pub link_between : Alias → Alias → Link
link_between a b = record { x = sides.Tablet a; y = sides.Tablet b }

-- the link that a message takes
abbrev pub link_of : Content → Link
link_of (contents.Asks command term to call) = link_to to
link_of (contents.Answers command asked from says) = link_to from
link_of (contents.Feeds from to term after index e) = link_between from to
link_of (contents.Acks from to term index) = link_between from to

-- ---- delivery

abbrev pub passes : {A : Type 0} → (A → Bool) → Option A → Bool
passes test None = false
passes test (Some x) = test x

-- whether an index of this tablet's log counts as committed, and whether the row of a term does: where the alias is not declared, none does
abbrev pub is_told_at : World → Alias → ℕ → Bool
is_told_at w a index = passes (λ me. is_told w.group me (w.tablets a) index) (tablet_of w.group.tablets a)

abbrev pub is_row_told_at : World → Alias → ℕ → Bool
is_row_told_at w a term = passes (λ me. is_row_told w.group me (w.tablets a) term) (tablet_of w.group.tablets a)

-- Whether a tablet answers a call of this term yet. Who asks whether it holds a position waits until it does, and who asks whether a row is told
-- until it is, or the tablet has left the term; either until the tablet has seen a later term, or the moment has come.
abbrev pub is_ready : World → Alias → ℕ → Call → Bool
is_ready w a u calls.Status = true
is_ready w a u calls.Stop = true
is_ready w a u calls.Demote = true
is_ready w a u (calls.Promote p) = true
is_ready w a u (calls.SetSource source t p) = true
is_ready w a u calls.Feed = true
is_ready w a u (calls.WaitFor p until) = nat_lt u (w.tablets a).seen || covers (position_of (w.tablets a).log) p || nat_le until w.clock
is_ready w a u (calls.WaitTold until) =
    nat_lt u (w.tablets a).seen || not (is_primary_of (w.tablets a).stand u) || is_row_told_at w a u || nat_le until w.clock

-- whether the receiver takes it: a tablet that is not down, or a command that has not ended
abbrev pub is_received : World → Content → Bool
is_received w (contents.Asks command term to call) = not (is_down (w.tablets to).stand) && is_ready w to term call
is_received w (contents.Answers command asked from says) = is_some (open_command w command)
is_received w (contents.Feeds from to term after index e) = not (is_down (w.tablets to).stand)
is_received w (contents.Acks from to term index) = not (is_down (w.tablets to).stand)

abbrev pub may_arrive : World → Message → Bool
may_arrive w m = not m.lost && not (is_cut w.cuts (link_of m.content)) && is_received w m.content

-- a message may be delivered, also again
abbrev pub is_deliverable : World → ℕ → Bool
is_deliverable w k = passes (may_arrive w) (numbered w.post k)

-- ---- giving up

abbrev pub answers_call : ℕ → Content → Bool
answers_call k (contents.Asks command term to call) = false
answers_call k (contents.Answers command asked from says) = asked == k
answers_call k (contents.Feeds from to term after index e) = false
answers_call k (contents.Acks from to term index) = false

abbrev pub answers_to : World → ℕ → List Message
answers_to w k = filter (λ m. answers_call k m.content) w.post

-- no answer was delivered, and none may be
abbrev pub is_unanswered : World → ℕ → Bool
is_unanswered w k = list_all (λ m. is_none m.arrived && not (may_arrive w m)) (answers_to w k)

-- it was lost, or it came to its tablet and all its answers were lost
abbrev pub is_call_lost : World → ℕ → Message → Bool
is_call_lost w k m = m.lost || (is_some m.arrived && list_all (λ n. n.lost) (answers_to w k))

-- a call with a moment of its own has no other limit
abbrev pub may_time_out : Call → Bool
may_time_out calls.Status = true
may_time_out calls.Stop = true
may_time_out calls.Demote = true
may_time_out (calls.Promote p) = true
may_time_out (calls.SetSource source t p) = true
may_time_out calls.Feed = true
may_time_out (calls.WaitFor p until) = false
may_time_out (calls.WaitTold until) = false

abbrev pub is_overdue : World → Command → Message → Call → Bool
is_overdue w command m call = may_time_out call && nat_le (m.sent + timeout_of command) w.clock

-- the first that holds: the tablet is down, its link is cut, the call or its answers are lost, or the time is over
abbrev pub why_unanswered : World → ℕ → Command → Message → Alias → Call → Option Why
why_unanswered w k command m to call =
    if is_down (w.tablets to).stand then Some whys.Down
    else if is_cut w.cuts (link_to to) then Some whys.Cut
    else if is_call_lost w k m then Some whys.Lost
    else only_if (is_overdue w command m call) (whys.TimedOut m.sent w.clock)

abbrev pub why_by : World → ℕ → ℕ → CommandState → Message → Content → Option Why
why_by w c k s m (contents.Asks command term to call) = only_if ((command == c) && is_unanswered w k) m >>= (λ n. why_unanswered w k s.command n to call)
why_by w c k s m (contents.Answers command asked from says) = None
why_by w c k s m (contents.Feeds from to term after index e) = None
why_by w c k s m (contents.Acks from to term index) = None

-- why an open command may give up its call of this number
abbrev pub why_given_up : World → ℕ → ℕ → Option Why
why_given_up w c k = open_command w c >>= (λ s. numbered w.post k >>= (λ m. why_by w c k s m m.content))

-- ---- offers

-- whether a tablet that stands so sends its log to the replicas of the term
abbrev pub feeds_term : Stand → ℕ → Bool
feeds_term stands.Down term = false
feeds_term stands.Stopped term = false
feeds_term (stands.Primary t) term = t == term
feeds_term (stands.Demoted t by) term = t == term
feeds_term (stands.Replica source t next) term = false
feeds_term (stands.Feeder t) term = t == term

abbrev pub waits_at : Alias → ℕ → Content → Bool
waits_at r n (contents.Asks command term to call) = false
waits_at r n (contents.Answers command asked from says) = false
waits_at r n (contents.Feeds from to term after index e) = alias_eq to r && (after == n)
waits_at r n (contents.Acks from to term index) = false

-- an entry for the replica, behind what it has, is on its way
abbrev pub is_under_way : World → Alias → ℕ → Bool
is_under_way w r n = list_any (λ m. waits_at r n m.content && is_none m.arrived && may_arrive w m) w.post

-- an entry with its index
pub record Indexed : Type 0 where
  pub index : ℕ
  pub entry : Entry

abbrev pub has_come_to : Option ℕ → ℕ → Bool
has_come_to None index = false
has_come_to (Some row) index = nat_le row index

-- The first of these entries, whose indexes begin here, that the replica needs: one that it has not, or any from this row on.
abbrev pub needed_from : ℕ → Option ℕ → List Entry → List Entry → Option Indexed
needed_from index row held [] = None
needed_from index row held (e ∷ es) =
    if not (holds held e.gtid) || has_come_to row index then Some (record { index = index; entry = e }) else needed_from (index + 1) row held es

-- the index from which on a source sends every entry: that of its newest row, unless it only feeds
abbrev pub sends_all_from : TabletState → Option ℕ
sends_all_from source = if is_feeder source.stand then None else place_of_row source.log (newest_row source.log)

-- what a replica that waits for entry n needs of its source
abbrev pub needed : TabletState → TabletState → ℕ → Option Indexed
needed source replica n = needed_from n (sends_all_from source) replica.log (drop (n - 1) source.log)

-- whether the source may send anything now
abbrev pub may_feed : World → Alias → Alias → ℕ → ℕ → Bool
may_feed w s r t n = feeds_term (w.tablets s).stand t && not (is_cut w.cuts (link_between s r)) && not (is_under_way w r n)

abbrev pub feed_of : Alias → Alias → ℕ → ℕ → Indexed → Content
feed_of s r t n x = contents.Feeds s r t n x.index x.entry

abbrev pub offered_by : World → Alias → Stand → Option Content
offered_by w r stands.Down = None
offered_by w r stands.Stopped = None
offered_by w r (stands.Primary t) = None
offered_by w r (stands.Demoted t by) = None
offered_by w r (stands.Feeder t) = None
offered_by w r (stands.Replica s t n) = only_if (may_feed w s r t n) n >>= (λ m. needed (w.tablets s) (w.tablets r) m >>= (λ x. Some (feed_of s r t n x)))

-- the entry that a replica may be offered, as its source sends it
abbrev pub offer_to : World → Alias → Option Content
offer_to w r = offered_by w r (w.tablets r).stand
