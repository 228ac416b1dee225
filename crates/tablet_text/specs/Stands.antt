-- The texts of what is known of a tablet: how it stands, why a call to it was given up, why it did not join. Stands go by the words of the
-- Vitess manual (primary, replica, demoted), sets of transactions print as MySQL prints a GTID set (MySQL 8.0 manual).
use Rattle.std.specs.Prelude.{ℕ, List, [], ◌∷◌, ◌++◌, codes}
use Rattle.std.specs.Fmt.{decimal}
use Rattle.shard_names.specs.Alias.{alias_text}
use Rattle.shard_names.specs.declared.alias.Alias.{Alias}
use Rattle.gtid_sets.specs.Position.{Position}
use Rattle.gtid_sets.specs.SetText.{set_text}
use Rattle.shard_calls.specs.declared.ending.Left.{Left}
use Rattle.shard_calls.specs.declared.ending.Left.TheVariants as lefts
use Rattle.shard_calls.specs.declared.ending.NotJoined.{NotJoined}
use Rattle.shard_calls.specs.declared.stand.Standing.{Standing}
use Rattle.shard_calls.specs.declared.stand.Standing.TheVariants as standings
use Rattle.shard_calls.specs.declared.why.Why.{Why}
use Rattle.shard_calls.specs.declared.why.Why.TheVariants as whys
use Rattle.tablet_text.specs.Moments.{moment_text}

-- every printed line ends with a newline
abbrev pub line : List ℕ → List ℕ
line text = text ++ 10 ∷ []

-- from when to when
unfoldable pub since_text : ℕ → ℕ → List ℕ
since_text since now = codes "since " ++ moment_text since ++ codes " at " ++ moment_text now

-- ---- stands

unfoldable pub primary_text : ℕ → List ℕ
primary_text term = codes "primary of term " ++ decimal term

unfoldable pub demoted_text : ℕ → ℕ → List ℕ
demoted_text term by = codes "demoted from term " ++ decimal term ++ codes " by term " ++ decimal by

unfoldable pub in_term_text : Alias → ℕ → List ℕ
in_term_text a term = alias_text a ++ codes " in term " ++ decimal term

unfoldable pub replica_text : Alias → ℕ → List ℕ
replica_text source term = codes "replica of " ++ in_term_text source term

unfoldable pub feeder_text : ℕ → List ℕ
feeder_text term = codes "feeder in term " ++ decimal term

abbrev pub standing_text : Standing → List ℕ
standing_text standings.Down = codes "down"
standing_text standings.Stopped = codes "stopped"
standing_text (standings.Primary term) = primary_text term
standing_text (standings.Demoted term by) = demoted_text term by
standing_text (standings.Replica source term) = replica_text source term
standing_text (standings.Feeder term) = feeder_text term

-- how a tablet stands
unfoldable pub stands_text : Alias → Standing → List ℕ
stands_text a stand = alias_text a ++ codes " is " ++ standing_text stand

-- ---- calls that were given up

unfoldable pub timed_out_text : ℕ → ℕ → List ℕ
timed_out_text since now = codes "timed out " ++ since_text since now

abbrev pub why_text : Why → List ℕ
why_text whys.Down = codes "down"
why_text whys.Cut = codes "cut"
why_text whys.Lost = codes "lost"
why_text (whys.TimedOut since now) = timed_out_text since now

-- ---- tablets that did not join

unfoldable pub errant_text : Position → List ℕ
errant_text extra = codes "errant " ++ set_text extra

unfoldable pub has_seen_text : ℕ → List ℕ
has_seen_text term = codes "has seen term " ++ decimal term

unfoldable pub promised_text : ℕ → List ℕ
promised_text term = codes "promised term " ++ decimal term

abbrev pub left_text : Left → List ℕ
left_text (lefts.Errant extra) = errant_text extra
left_text (lefts.GivenUp why) = why_text why
left_text (lefts.StaleTerm seen) = has_seen_text seen
left_text (lefts.PromisedAhead promised) = promised_text promised

-- the line of one tablet, two spaces in
unfoldable pub not_joined_text : NotJoined → List ℕ
not_joined_text n = codes "  not joined " ++ alias_text n.alias ++ codes ": " ++ left_text n.left
