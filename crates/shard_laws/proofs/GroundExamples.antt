-- The worked grounds of a second promotion, by computation, and what answers to a Stop and closure forbid.
use Rattle.std.proofs.Common.{◌≡◌, suc, refl, ap, sym, ◌∙◌, arith, Some, None}
use Rattle.std.proofs.lemmas.Bool.{false≢true}
use Rattle.gtid_sets.specs.Position.{Position, has}
use Rattle.shard_calls.specs.declared.answer.Answer.TheVariants as answers
use Rattle.shard_calls.specs.declared.call.Call.TheVariants as calls
use Rattle.shard_calls.proofs.ClosureLemmas.{in_front}
use Rattle.shard_calls.proofs.EntryLemmas.{held_gtid}
use Rattle.shard_calls.proofs.LogLemmas.{has-position}
use Rattle.shard_laws.specs.Traces.{OfEveryTrace, IsAnsweredBy, ByStop}
use Rattle.shard_laws.specs.Examples.{PlannedIsThere, EmergencyIsThere, StoppedVotesNoMore, NewestRowWins, StrayIsNotClosed, HasNoStrayRow, GroundsAreWorked, alias_of, first_row}
use Rattle.shard_laws.proofs.LeaderLemmas.{votes_are_answered, rows_are_closed}

planned_is_there : PlannedIsThere
planned_is_there = record { first = refl; demote = refl; answer_comes = refl; there = refl; not_yet = refl; not_less = refl }

emergency_is_there : EmergencyIsThere
emergency_is_there = record { stop = refl; answer_comes = refl; there = refl; not_by_one = refl; not_less = refl; not_taken = refl }

newest_row_wins : NewestRowWins
newest_row_wins = record { is_longer = refl; wins = refl; nobody = refl }

-- a log of a lower promise lies in what was answered, which lacks the entry
stopped_votes_no_more : OfEveryTrace StoppedVotesNoMore
stopped_votes_no_more rules config at is trace i j n k c d u t newest a position e asked answered less lacks vote =
    let says : IsAnsweredBy at i u a newest position =
    votes_are_answered rules config at is trace i n k c d u a calls.Stop (answers.Stopped newest position) newest position asked answered ByStop in
    let promised = vote.promised in
    let front = says.has_before (suc j) (omega (arith, promised, less)) in
    let there = in_front ((at (suc j)).tablets a).log says.front e front vote.held in
    let held = held_gtid says.front there.0 e there.1 in
    false≢true (sym lacks ∙ ap (λ (p : Position). has p e.gtid) says.position_is ∙ has-position says.front e.gtid ∙ held)

stray_is_not_closed : StrayIsNotClosed
stray_is_not_closed rules closed =
    let home = closed 0 (alias_of 101) (alias_of 100) 0 1 first_row refl refl in
    let none : None ≡ Some first_row = home.at_home in cc

has_no_stray_row : OfEveryTrace HasNoStrayRow
has_no_stray_row rules config at is trace i n t a c row here kind lacks =
    let home = rows_are_closed rules config at is trace i a c n t row here kind in
    false≢true (sym lacks ∙ held_gtid ((at i).tablets c).log home.place row home.at_home)

pub worked_grounds : GroundsAreWorked
worked_grounds = record {
  planned = planned_is_there;
  emergency = emergency_is_there;
  first_stop = refl;
  no_voter = stopped_votes_no_more;
  ahead = newest_row_wins;
  not_closed = stray_is_not_closed;
  no_stray = has_no_stray_row;
}
