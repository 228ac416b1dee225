-- Closure: the entries before a row, in any log, have all that its tablet had when it was promoted; and who acknowledges an index has so many
-- entries. An entry is taken only by a replica that has all the entries before it in its source's log.
use Rattle.std.proofs.Common.{◌≡◌, ℕ, zero, suc, ◌+◌, ◌≤◌, ◌<◌, refl, ap, subst, arith, List, [], ◌∷◌, ◌++◌, take, drop, Some, None, length, length-append}
use Rattle.std.specs.List.{slice_get}
use Rattle.shard_base.specs.Lists.{IsFront}
use Rattle.shard_names.specs.declared.alias.Alias.{Alias}
use Rattle.gtid_sets.specs.declared.entry.Entry.{Entry}
use Rattle.gtid_sets.specs.declared.entry.Kind.TheVariants as kinds
use Rattle.shard_calls.specs.declared.post.Content.{Content}
use Rattle.shard_calls.specs.declared.post.Content.TheVariants as contents
use Rattle.shard_calls.specs.declared.post.Message.{Message}
use Rattle.shard_calls.specs.declared.stand.Stand.{Stand}
use Rattle.shard_calls.specs.declared.stand.Stand.TheVariants as stands
use Rattle.shard_calls.specs.Tablets.{TabletState}
use Rattle.shard_calls.specs.World.{Config, IsConfig, World, numbered}
use Rattle.shard_calls.specs.RunLaws.{IsIn, HasFirst}
use Rattle.shard_calls.proofs.WorldLemmas.{IsSoundWorld, IsLater, get_front}
use Rattle.shard_calls.proofs.EntryLemmas.{IsUniqueWorld}

-- ---- lists

pub below_length : {A : Type 0} (xs : List A) (n : ℕ) (x : A) → slice_get xs n ≡ Some x → n < length xs
below_length [] n x h = absurd (let none : None ≡ Some x = h in cc)
below_length (y ∷ xs) zero x h = omega arith
below_length (y ∷ xs) (suc n) x h = let less = below_length xs n x h in omega (arith, less)

-- what a longer list has at a place within
get_within : {A : Type 0} (xs ys : List A) (n : ℕ) (x : A) → n < length xs → slice_get (xs ++ ys) n ≡ Some x → slice_get xs n ≡ Some x
get_within [] ys n x less h = absurd (omega (arith, less))
get_within (y ∷ xs) ys zero x less h = h
get_within (y ∷ xs) ys (suc n) x less h = get_within xs ys n x (omega (arith, less)) h

pub get_back : (xs ys : List Entry) (n : ℕ) (x : Entry) → IsFront xs ys → n < length xs → slice_get ys n ≡ Some x → slice_get xs n ≡ Some x
get_back xs ys n x front less h = get_within xs front.rest n x less (subst (λ (l : List Entry). slice_get l n ≡ Some x) front.split h)

pub in_front : (xs ys : List Entry) (x : Entry) → IsFront xs ys → IsIn xs x → IsIn ys x
in_front xs ys x front h = (h.0, get_front xs ys h.0 x front h.1)

pub longer : (xs ys : List Entry) → IsFront xs ys → length xs ≤ length ys
longer xs ys front =
    let size = ap (λ (l : List Entry). length l) front.split in omega (arith, size, length-append xs front.rest)

-- ---- what a log has of another one

-- so many entries, which the other one has
pub record Follows (log source : List Entry) (n : ℕ) : Type 0 where
  pub within : n ≤ length source
  pub first : HasFirst log source n

pub follows_stays : (log log' source source' : List Entry) (n : ℕ) → IsFront log log' → IsFront source source' → Follows log source n → Follows log' source' n
follows_stays log log' source source' n own other h = record {
  within = let longer_is = longer source source' other in omega (arith, longer_is, h.within);
  first = λ i e less at. in_front log log' e own (h.first i e less (get_back source source' i e other (omega (arith, less, h.within)) at));
}

-- the entries from one place to another
pub record Bridges (log source : List Entry) (before index : ℕ) : Type 0 where
  pub within : index ≤ length source
  pub has : (i : ℕ) (e : Entry) → before ≤ suc i → suc i < index → slice_get source i ≡ Some e → IsIn log e

bridges_stays : (log log' source source' : List Entry) (before index : ℕ) → IsFront log log' → IsFront source source' → Bridges log source before index
    → Bridges log' source' before index
bridges_stays log log' source source' before index own other h = record {
  within = let longer_is = longer source source' other in omega (arith, longer_is, h.within);
  has = λ i e from less at. in_front log log' e own (h.has i e from less (get_back source source' i e other (omega (arith, less, h.within)) at));
}

-- none of them
pub nothing_first : (log source : List Entry) → Follows log source 0
nothing_first log source = record { within = omega arith; first = λ i e less at. absurd (omega (arith, less)) }

-- ---- fronts by length

pub take_within : (xs ys : List Entry) (n : ℕ) → n ≤ length xs → take n (xs ++ ys) ≡ take n xs
take_within xs ys zero le = refl
take_within [] ys (suc n) le = absurd (omega (arith, le))
take_within (x ∷ xs) ys (suc n) le = ap (λ (l : List Entry). x ∷ l) (take_within xs ys n (omega (arith, le)))

pub take_whole : (xs : List Entry) → take (length xs) xs ≡ xs
take_whole [] = refl
take_whole (x ∷ xs) = ap (λ (l : List Entry). x ∷ l) (take_whole xs)

pub take_get : (xs : List Entry) (n i : ℕ) (e : Entry) → i < n → slice_get xs i ≡ Some e → slice_get (take n xs) i ≡ Some e
take_get xs zero i e less h = absurd (omega (arith, less))
take_get [] (suc n) i e less h = absurd (let none : None ≡ Some e = h in cc)
take_get (x ∷ xs) (suc n) zero e less h = h
take_get (x ∷ xs) (suc n) (suc i) e less h = take_get xs n i e (omega (arith, less)) h

-- what stands in a front by length stands at a place within
pub take_place : (xs : List Entry) (n i : ℕ) (e : Entry) → slice_get (take n xs) i ≡ Some e → (i < n) × (slice_get xs i ≡ Some e)
take_place xs zero i e h = absurd (let none : None ≡ Some e = h in cc)
take_place [] (suc n) i e h = absurd (let none : None ≡ Some e = h in cc)
take_place (x ∷ xs) (suc n) zero e h = (omega arith, h)
take_place (x ∷ xs) (suc n) (suc i) e h = let r = take_place xs n i e h in let less = r.0 in (omega (arith, less), r.1)

pub drop_get : (m : ℕ) (xs : List Entry) (d : ℕ) (e : Entry) → slice_get xs (m + d) ≡ Some e → slice_get (drop m xs) d ≡ Some e
drop_get zero xs d e h = let place : 0 + d ≡ d = omega arith in subst (λ (k : ℕ). slice_get xs k ≡ Some e) place h
drop_get (suc m) [] d e h = absurd (let none : None ≡ Some e = h in cc)
drop_get (suc m) (x ∷ xs) d e h =
    let place : suc m + d ≡ suc (m + d) = omega arith in drop_get m xs d e (subst (λ (k : ℕ). slice_get (x ∷ xs) k ≡ Some e) place h)

-- ---- what holds of the logs of each world of a run

-- an entry on its way bridges what its receiver has, and an acknowledgement says what its sender has
abbrev pub Says : World → Content → Type 0
Says w (contents.Asks c u a call) = Unit {0}
Says w (contents.Answers c asked a says) = Unit {0}
Says w (contents.Feeds from to term before index x) = Bridges (w.tablets to).log (w.tablets from).log before index
Says w (contents.Acks from to term index) = Follows (w.tablets from).log (w.tablets to).log index

-- a replica has all the entries before the one that it waits for
abbrev pub StandSays : World → List Entry → Stand → Type 0
StandSays w log stands.Down = Unit {0}
StandSays w log stands.Stopped = Unit {0}
StandSays w log (stands.Primary t) = Unit {0}
StandSays w log (stands.Demoted t by) = Unit {0}
StandSays w log (stands.Replica source t next) = (n : ℕ) → next ≡ suc n → Follows log (w.tablets source).log n
StandSays w log (stands.Feeder t) = Unit {0}

-- what a tablet's state says of the logs: its stand, and what it noted
pub record Holds (w : World) (a : Alias) (s : TabletState) : Type 0 where
  pub stand : StandSays w s.log s.stand
  pub noted : (r : Alias) → Follows (w.tablets r).log (w.tablets a).log (s.acked r)

abbrev pub IsClosed : World → Type 0
IsClosed w = (a c : Alias) (n k term : ℕ) (row : Entry) → slice_get (w.tablets a).log n ≡ Some row → row.kind ≡ kinds.Row term c
    → slice_get (w.tablets c).log k ≡ Some row → HasFirst (take n (w.tablets a).log) (w.tablets c).log k

pub record IsClosedWorld (w : World) : Type 0 where
  pub post : (k : ℕ) (m : Message) → numbered w.post k ≡ Some m → Says w m.content
  pub tablets : (a : Alias) → Holds w a (w.tablets a)
  pub closed : IsClosed w

-- all that is known of a world and of the one behind it
pub record Known (config : Config) (w v : World) : Type 0 where
  pub is : IsConfig config
  pub sound : IsSoundWorld w
  pub unique : IsUniqueWorld config w
  pub closed : IsClosedWorld w
  pub later : IsLater w v
  pub unique_then : IsUniqueWorld config v

pub says_stays : (w v : World) (content : Content) → IsLater w v → Says w content → Says v content
says_stays w v (contents.Asks c u a call) later h = tt
says_stays w v (contents.Answers c asked a says) later h = tt
says_stays w v (contents.Feeds from to term before index x) later h = bridges_stays _ _ _ _ before index (later.logs to) (later.logs from) h
says_stays w v (contents.Acks from to term index) later h = follows_stays _ _ _ _ index (later.logs from) (later.logs to) h

-- the same stand with a longer log
pub stand_stays : (w v : World) (log log' : List Entry) (at : Stand) → IsLater w v → IsFront log log' → StandSays w log at → StandSays v log' at
stand_stays w v log log' stands.Down later front h = tt
stand_stays w v log log' stands.Stopped later front h = tt
stand_stays w v log log' (stands.Primary t) later front h = tt
stand_stays w v log log' (stands.Demoted t by) later front h = tt
stand_stays w v log log' (stands.Replica source t next) later front h = λ n is. follows_stays log log' _ _ n front (later.logs source) (h n is)
stand_stays w v log log' (stands.Feeder t) later front h = tt

pub noted_stays : (config : Config) (w v : World) (a : Alias) → Known config w v → (r : Alias) → Follows (v.tablets r).log (v.tablets a).log ((w.tablets a).acked r)
noted_stays config w v a known r =
    follows_stays _ _ _ _ ((w.tablets a).acked r) (known.later.logs r) (known.later.logs a) ((known.closed.tablets a).noted r)

pub none_noted : (v : World) (a r : Alias) → Follows (v.tablets r).log (v.tablets a).log 0
none_noted v a r = nothing_first (v.tablets r).log (v.tablets a).log
