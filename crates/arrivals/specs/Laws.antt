-- That the tablets of all messages stay declared: where one more is sent, where one changes, and for what is sent of itself.
use Rattle.std.specs.Prelude.{◌≡◌, ℕ, true, List, [], ◌∷◌, ◌++◌, Some}
use Rattle.shard_names.specs.declared.alias.Alias.{Alias}
use Rattle.shard_names.specs.declared.tablet.Tablet.{Tablet}
use Rattle.gtid_sets.specs.declared.entry.Entry.{Entry}
use Rattle.shard_calls.specs.declared.post.Content.{Content}
use Rattle.shard_calls.specs.declared.post.Content.TheVariants as contents
use Rattle.shard_calls.specs.declared.post.Message.{Message}
use Rattle.shard_calls.specs.Messages.{offer_to}
use Rattle.shard_calls.specs.World.{changed_at}
use Rattle.shard_state.specs.State.{Data, seen, tablets_of}
use Rattle.arrivals.specs.Addressed.{is_addressed, are_addressed}

-- one more message between declared tablets
abbrev pub SentIsAddressed : Type 0
SentIsAddressed = (tablets : List Tablet) (messages : List Message) (m : Message) → are_addressed tablets messages ≡ true → is_addressed tablets m.content ≡ true
    → are_addressed tablets (messages ++ m ∷ []) ≡ true

-- a message that keeps what it carries
abbrev pub ChangedIsAddressed : Type 0
ChangedIsAddressed = (tablets : List Tablet) (messages : List Message) (number : ℕ) (f : Message → Message) → ((m : Message) → (f m).content ≡ m.content)
    → are_addressed tablets (changed_at messages number f) ≡ are_addressed tablets messages

-- an entry is acknowledged between its tablets
abbrev pub AckIsAddressed : Type 0
AckIsAddressed = (tablets : List Tablet) (from to : Alias) (term after index : ℕ) (e : Entry) → is_addressed tablets (contents.Feeds from to term after index e) ≡ true
    → is_addressed tablets (contents.Acks to from term index) ≡ true

-- an entry is offered between declared tablets
abbrev pub OfferIsAddressed : Type 0
OfferIsAddressed = (d : Data) (replica : Alias) (c : Content) → offer_to (seen d) replica ≡ Some c → is_addressed (tablets_of d.managers) c ≡ true
