-- For messages to be found by the directions that they take: whose tablets they are between.
use Rattle.std.specs.Prelude.{◌≡◌, Bool, true, ◌&&◌, List, map}
use Rattle.std.specs.List.{list_all}
use Rattle.shard_names.specs.declared.tablet.Tablet.{Tablet}
use Rattle.shard_names.specs.Tablets.{is_declared}
use Rattle.shard_calls.specs.declared.post.Content.{Content}
use Rattle.shard_calls.specs.declared.post.Content.TheVariants as contents
use Rattle.shard_calls.specs.declared.post.Message.{Message}
use Rattle.shard_state.specs.State.{Data, tablets_of}

-- the post knows the shard's tablets, in their order
abbrev pub KnowsTablets : Data → Type 0
KnowsTablets d = d.aliases ≡ map (λ t. t.alias) (tablets_of d.managers)

-- whether the tablets of a message are declared
abbrev pub is_addressed : List Tablet → Content → Bool
is_addressed tablets (contents.Asks command term to call) = is_declared tablets to
is_addressed tablets (contents.Answers command asked from says) = is_declared tablets from
is_addressed tablets (contents.Feeds from to term after index e) = is_declared tablets from && is_declared tablets to
is_addressed tablets (contents.Acks from to term index) = is_declared tablets from && is_declared tablets to

-- those of each of these messages are
abbrev pub are_addressed : List Tablet → List Message → Bool
are_addressed tablets messages = list_all (λ m. is_addressed tablets m.content) messages

-- those of all messages are
abbrev pub AreAddressed : Data → Type 0
AreAddressed d = are_addressed (tablets_of d.managers) d.messages ≡ true
