-- What a replica is offered: the entry that stands at that index in the log of its source.
use Rattle.std.proofs.Common.{◌≡◌, ℕ, ◌≤◌, Bool, true, false, Option, Some, None, refl, sym, subst}
use Rattle.shard_base.specs.Options.{◌>>=◌, only_if}
use Rattle.shard_names.specs.declared.alias.Alias.{Alias}
use Rattle.gtid_sets.specs.declared.entry.Entry.{Entry}
use Rattle.shard_calls.specs.declared.post.Content.{Content}
use Rattle.shard_calls.specs.declared.post.Content.TheVariants as contents
use Rattle.shard_calls.specs.declared.stand.Stand.{Stand}
use Rattle.shard_calls.specs.declared.stand.Stand.TheVariants as stands
use Rattle.shard_calls.specs.World.{World, Config, numbered}
use Rattle.shard_calls.specs.Messages.{Indexed, needed, may_feed, feed_of, offered_by, offer_to}
use Rattle.shard_calls.proofs.StepLemmas.{needed_held}
use Rattle.changes.specs.Sound.{HasSource, AreSound}

pub record IsOffered (w : World) (r : Alias) (sent : Content) : Type 0 where
  pub source : Alias
  pub term : ℕ
  pub next : ℕ
  pub index : ℕ
  pub entry : Entry
  pub stand : (w.tablets r).stand ≡ stands.Replica source term next
  pub held : numbered (w.tablets source).log index ≡ Some entry
  pub content : sent ≡ contents.Feeds source r term next index entry

by_need : (w : World) (s r : Alias) (t n : ℕ) (content : Content) (o : Option Indexed) → (w.tablets r).stand ≡ stands.Replica s t n → 1 ≤ n
    → needed (w.tablets s) (w.tablets r) n ≡ o → (o >>= (λ x. Some (feed_of s r t n x))) ≡ Some content → IsOffered w r content
by_need w s r t n content None at first is h = absurd (let none : None ≡ Some content = h in cc)
by_need w s r t n content (Some x) at first is h =
    let same : feed_of s r t n x ≡ content = (let some : Some (feed_of s r t n x) ≡ Some content = h in cc) in
    record {
      source = s;
      term = t;
      next = n;
      index = x.index;
      entry = x.entry;
      stand = at;
      held = needed_held (w.tablets s) (w.tablets r) n x first is;
      content = sym same;
    }

by_test : (w : World) (s r : Alias) (t n : ℕ) (content : Content) (b : Bool) → (w.tablets r).stand ≡ stands.Replica s t n → 1 ≤ n
    → (only_if b n >>= (λ m. needed (w.tablets s) (w.tablets r) m >>= (λ x. Some (feed_of s r t n x)))) ≡ Some content → IsOffered w r content
by_test w s r t n content false at first h = absurd (let none : None ≡ Some content = h in cc)
by_test w s r t n content true at first h = by_need w s r t n content (needed (w.tablets s) (w.tablets r) n) at first refl h

by_stand : (config : Config) (w : World) (r : Alias) (at : Stand) (content : Content) → AreSound config w → (w.tablets r).stand ≡ at → offered_by w r at ≡ Some content → IsOffered w r content
by_stand config w r stands.Down content sound is h = absurd (let none : None ≡ Some content = h in cc)
by_stand config w r stands.Stopped content sound is h = absurd (let none : None ≡ Some content = h in cc)
by_stand config w r (stands.Primary t) content sound is h = absurd (let none : None ≡ Some content = h in cc)
by_stand config w r (stands.Demoted t by) content sound is h = absurd (let none : None ≡ Some content = h in cc)
by_stand config w r (stands.Feeder t) content sound is h = absurd (let none : None ≡ Some content = h in cc)
by_stand config w r (stands.Replica s t n) content sound is h =
    let first : 1 ≤ n = (subst (λ (x : Stand). HasSource config x) is (sound.sources r)).1 in
    by_test w s r t n content (may_feed w s r t n) is first h

pub offered : (config : Config) (w : World) (r : Alias) (content : Content) → AreSound config w → offer_to w r ≡ Some content → IsOffered w r content
offered config w r content sound h = by_stand config w r (w.tablets r).stand content sound refl h
