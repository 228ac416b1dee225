-- What is looked up in place is what the definitions say.
use Rattle.std.proofs.Common.{◌≡◌, ℕ, ◌+◌, ◌<◌, Bool, true, false, not, ◌&&◌, ◌||◌, ◌==◌, cond, max, List, [], ◌∷◌, ◌++◌, map, reverse, take, get_or, length, Option, Some, None, refl, ap, sym, ◌∙◌, arith, append-nil}
use Rattle.std.specs.List.{cons_option, filter, filter_map, find, list_all}
use Rattle.std.specs.Option.{option_or}
use Rattle.std.proofs.lemmas.List.{reverse-append, take_more}
use Rattle.std.proofs.lemmas.List.Folds.{find-append}
use Rattle.std.proofs.lemmas.List.Elements.{filter_map-append}
use Rattle.shard_base.specs.Options.{◌>>=◌}
use Rattle.shard_names.specs.declared.alias.Alias.{Alias}
use Rattle.shard_names.specs.declared.tablet.Tablet.{Tablet}
use Rattle.gtid_sets.specs.Position.{covers, greatest}
use Rattle.gtid_sets.specs.declared.held.Held.{Held}
use Rattle.gtid_sets.specs.Winner.{covers_all, newest_of, winner}
use Rattle.topo_lock.specs.Topology.{last_of}
use Rattle.topo_lock.specs.declared.intent.Intent.{Intent}
use Rattle.shard_calls.specs.declared.answer.Answer.{Answer}
use Rattle.shard_calls.specs.declared.post.Message.{Message}
use Rattle.shard_calls.specs.declared.span.Deed.{Deed}
use Rattle.shard_calls.specs.declared.span.Outcome.{Outcome}
use Rattle.shard_calls.specs.declared.span.Outcome.TheVariants.{Answered, GivenUp}
use Rattle.shard_calls.specs.declared.state.Act.{Act}
use Rattle.shard_calls.specs.Grounds.{first_outcome, if_answered, if_demoted, if_stopped, demoted_at, is_asked, passes_held, stopped_among, stopped_at}
use Rattle.shard_calls.specs.Outcomes.{sending_of, sendings}
use Rattle.shard_state.specs.declared.evidence.Leave.{Leave}
use Rattle.shard_state.specs.declared.evidence.Leave.TheVariants as leaves
use Rattle.shard_state.specs.State.{tablets_of}
use Rattle.shard_state.specs.InPlace.{answer_of, answered_by, asks, covers_leading, first_answer, greatest_stopped, held_by, is_asked_by, leads_all, newest_or_zero, passes, stopped_by, winner_among, with_deed}
use Rattle.tablet_manager.specs.Managed.{Managed}

-- ---- the first call of a kind

hit_one : {A B C : Type 0} (f : A → Option B) (g : B → Option C) (x : A) (b : B) (found : Option B) (later : Option A) (t : Bool) → f x ≡ Some b
    → (found >>= g) ≡ (later >>= (λ y. f y >>= g)) → (cond t (Some b) found >>= g) ≡ (cond t (Some x) later >>= (λ y. f y >>= g))
hit_one {A} {B} f g x b found later true is e = sym (ap (λ (o : Option B). o >>= g) is)
hit_one f g x b found later false is e = e

find_one : {A B C : Type 0} (p : B → Bool) (f : A → Option B) (g : B → Option C) (x : A) (rest : List B) (later : Option A) (o : Option B) → f x ≡ o
    → (find p rest >>= g) ≡ (later >>= (λ y. f y >>= g)) → (find p (cons_option o rest) >>= g) ≡ (cond (passes p o) (Some x) later >>= (λ y. f y >>= g))
find_one p f g x rest later None is e = e
find_one p f g x rest later (Some b) is e = hit_one f g x b (find p rest) later (p b) is e

find_mapped : {A B C : Type 0} (p : B → Bool) (f : A → Option B) (g : B → Option C) (xs : List A)
    → (find p (filter_map f xs) >>= g) ≡ (find (λ y. passes p (f y)) xs >>= (λ y. f y >>= g))
find_mapped p f g [] = refl
find_mapped p f g (x ∷ xs) = find_one p f g x (filter_map f xs) (find (λ y. passes p (f y)) xs) (f x) refl (find_mapped p f g xs)

then_then : {A B C : Type 0} (o : Option A) (f : A → Option B) (g : B → Option C) → ((o >>= f) >>= g) ≡ (o >>= (λ x. f x >>= g))
then_then None f g = refl
then_then (Some x) f g = refl

pub first_found : (post : List Message) (acts : List Act) (u : ℕ) (a : Alias) (leave : Leave)
    → first_answer post acts u a leave ≡ (find (is_asked_by post u a leave) acts >>= answered_by post)
first_found post acts u a leave =
    then_then (find (is_asked u a (asks leave)) (sendings post acts)) (λ s. s.outcome) answer_of
    ∙ find_mapped (is_asked u a (asks leave)) (sending_of post) (λ s. s.outcome >>= answer_of) acts

by_answer : (f : Answer → Option Held) (o : Option Outcome) → ((o >>= answer_of) >>= f) ≡ (o >>= if_answered f)
by_answer f None = refl
by_answer f (Some (Answered x)) = refl
by_answer f (Some (GivenUp why)) = refl

pub stop_held : (post : List Message) (acts : List Act) (u : ℕ) (a : Alias) (o : Option Answer) → o ≡ first_answer post acts u a leaves.Stop
    → held_by (if_stopped a) o ≡ stopped_at (sendings post acts) u a
stop_held post acts u a o is = ap (λ (x : Option Answer). held_by (if_stopped a) x) is ∙ by_answer (if_stopped a) (first_outcome (sendings post acts) u a (asks leaves.Stop))

pub demote_held : (post : List Message) (acts : List Act) (u : ℕ) (a : Alias) (o : Option Answer) → o ≡ first_answer post acts u a leaves.Demote
    → held_by (if_demoted a) o ≡ demoted_at (sendings post acts) u a
demote_held post acts u a o is = ap (λ (x : Option Answer). held_by (if_demoted a) x) is ∙ by_answer (if_demoted a) (first_outcome (sendings post acts) u a (asks leaves.Demote))

-- ---- the last intent of an earlier term

last_is_some : {A : Type 0} (xs : List A) (x : A) (o : Option A) → option_or (last_of (x ∷ xs)) o ≡ last_of (x ∷ xs)
last_is_some [] x o = refl
last_is_some (y ∷ xs) x o = last_is_some xs y o

or_none : {A : Type 0} (o : Option A) → option_or o None ≡ o
or_none None = refl
or_none (Some x) = refl

first_behind : {A : Type 0} (x : A) (xs : List A) → option_or (last_of xs) (Some x) ≡ last_of (x ∷ xs)
first_behind x [] = refl
first_behind x (y ∷ xs) = last_is_some xs y (Some x)

or_first : {A : Type 0} (x : A) (xs : List A) (t : Bool) → option_or (last_of xs) (cond t (Some x) None) ≡ last_of (cond t (x ∷ xs) xs)
or_first x xs true = first_behind x xs
or_first x xs false = or_none (last_of xs)

-- the first from the end on is the last
pub last_back : (test : Intent → Bool) (is : List Intent) → find test (reverse is) ≡ last_of (filter test is)
last_back test [] = refl
last_back test (i ∷ is) =
    ap (λ (js : List Intent). find test js) (reverse-append (i ∷ []) is)
    ∙ find-append test (reverse is) (i ∷ [])
    ∙ ap (λ (o : Option Intent). option_or o (cond (test i) (Some i) None)) (last_back test is)
    ∙ or_first i (filter test is) (test i)

-- ---- lists made of others

pub count_mapped : {A B : Type 0} (p : B → Bool) (f : A → B) (xs : List A) → length (filter (λ x. p (f x)) xs) ≡ length (filter p (map f xs))
count_mapped p f [] = refl
count_mapped p f (x ∷ xs) = count_one p f x xs (p (f x)) (count_mapped p f xs)
  where
    count_one : {A B : Type 0} (p : B → Bool) (f : A → B) (x : A) (xs : List A) (t : Bool) → length (filter (λ y. p (f y)) xs) ≡ length (filter p (map f xs))
        → length (cond t (x ∷ filter (λ y. p (f y)) xs) (filter (λ y. p (f y)) xs)) ≡ length (cond t (f x ∷ filter p (map f xs)) (filter p (map f xs)))
    count_one p f x xs true e = omega (arith, e)
    count_one p f x xs false e = e

pub all_mapped : {A B : Type 0} (p : B → Bool) (f : A → B) (xs : List A) → list_all (λ x. p (f x)) xs ≡ list_all p (map f xs)
all_mapped p f [] = refl
all_mapped p f (x ∷ xs) = ap (λ (b : Bool). p (f x) && b) (all_mapped p f xs)

map_mapped : {A B C : Type 0} (f : B → Option C) (g : A → B) (xs : List A) → filter_map f (map g xs) ≡ filter_map (λ x. f (g x)) xs
map_mapped f g [] = refl
map_mapped {A} {B} {C} f g (x ∷ xs) = ap (λ (ys : List C). cons_option (f (g x)) ys) (map_mapped f g xs)

with_one : (span : List Deed) (o : Option Deed) → with_deed span o ≡ span ++ cons_option o []
with_one span None = sym (append-nil span)
with_one span (Some d) = refl

-- one act more
pub deed_more : (f : Act → Option Deed) (acts : List Act) (i : ℕ) (d : Act) → i < length acts
    → with_deed (filter_map f (take i acts)) (f (get_or acts i d)) ≡ filter_map f (take (i + 1) acts)
deed_more f acts i d short =
    with_one (filter_map f (take i acts)) (f (get_or acts i d)) ∙ sym (filter_map-append f (take i acts) (get_or acts i d ∷ []))
    ∙ ap (λ (xs : List Act). filter_map f xs) (sym (take_more acts i d short))

-- ---- the winner

newest_one : (o : Option Held) (rest : List Held) (n : ℕ) → greatest (map (λ h. h.newest) rest) ≡ n
    → greatest (map (λ h. h.newest) (cons_option o rest)) ≡ max (newest_or_zero o) n
newest_one None rest n e = omega (arith, e)
newest_one (Some h) rest n e = ap (λ (k : ℕ). max h.newest k) e

newest_found : (held : Managed → Option Held) (ms : List Managed) → newest_of (filter_map held ms) ≡ greatest_stopped held ms
newest_found held [] = refl
newest_found held (m ∷ ms) = newest_one (held m) (filter_map held ms) (greatest_stopped held ms) (newest_found held ms)

lead_last : (held : Managed → Option Held) (m : Managed) (h : Held) (found : Option Held) (later : Option Managed) (t : Bool) → held m ≡ Some h
    → found ≡ (later >>= held) → cond t (Some h) found ≡ (cond t (Some m) later >>= held)
lead_last held m h found later true is e = sym is
lead_last held m h found later false is e = e

lead_some : (q : Held → Bool) (held : Managed → Option Held) (m : Managed) (h : Held) (rest : List Held) (later : Option Managed) (s : Bool) → held m ≡ Some h
    → find q rest ≡ (later >>= held) → find q (cond s (h ∷ rest) rest) ≡ (cond (s && q h) (Some m) later >>= held)
lead_some q held m h rest later true is e = lead_last held m h (find q rest) later (q h) is e
lead_some q held m h rest later false is e = e

lead_one : (p q : Held → Bool) (held : Managed → Option Held) (m : Managed) (rest : List Held) (later : Option Managed) (o : Option Held) → held m ≡ o
    → find q (filter p rest) ≡ (later >>= held) → find q (filter p (cons_option o rest)) ≡ (cond (passes_held (λ x. p x && q x) o) (Some m) later >>= held)
lead_one p q held m rest later None is e = e
lead_one p q held m rest later (Some h) is e = lead_some q held m h (filter p rest) later (p h) is e

find_leading : (p q : Held → Bool) (held : Managed → Option Held) (ms : List Managed)
    → find q (filter p (filter_map held ms)) ≡ (find (λ m. passes_held (λ x. p x && q x) (held m)) ms >>= held)
find_leading p q held [] = refl
find_leading p q held (m ∷ ms) =
    lead_one p q held m (filter_map held ms) (find (λ m. passes_held (λ x. p x && q x) (held m)) ms) (held m) refl (find_leading p q held ms)

all_some : (q : Held → Bool) (h : Held) (rest : List Held) (r s : Bool) → list_all q rest ≡ r → list_all q (cond s (h ∷ rest) rest) ≡ ((not s || q h) && r)
all_some q h rest r true e = ap (λ (b : Bool). q h && b) e
all_some q h rest r false e = e

all_one : (p q : Held → Bool) (o : Option Held) (rest : List Held) (r : Bool) → list_all q (filter p rest) ≡ r
    → list_all q (filter p (cons_option o rest)) ≡ ((not (passes_held p o) || passes_held q o) && r)
all_one p q None rest r e = e
all_one p q (Some h) rest r e = all_some q h (filter p rest) r (p h) e

all_leading : (p q : Held → Bool) (held : Managed → Option Held) (ms : List Managed)
    → list_all q (filter p (filter_map held ms)) ≡ list_all (λ m. not (passes_held p (held m)) || passes_held q (held m)) ms
all_leading p q held [] = refl
all_leading p q held (m ∷ ms) =
    all_one p q (held m) (filter_map held ms) (list_all (λ m. not (passes_held p (held m)) || passes_held q (held m)) ms) (all_leading p q held ms)

covers_found : (held : Managed → Option Held) (ms : List Managed) (n : ℕ) (h : Held)
    → covers_all (filter (λ x. x.newest == n) (filter_map held ms)) h ≡ covers_leading held ms n h.position
covers_found held ms n h = all_leading (λ x. x.newest == n) (λ other. covers h.position other.position) held ms

winner_of : (held : Managed → Option Held) (ms : List Managed) (n : ℕ) (q : Held → Bool) → q ≡ (λ x. covers_leading held ms n x.position)
    → find q (filter (λ x. x.newest == n) (filter_map held ms)) ≡ (find (λ m. leads_all held ms n (held m)) ms >>= held)
winner_of held ms n q is =
    ap (λ (f : Held → Bool). find f (filter (λ x. x.newest == n) (filter_map held ms))) is
    ∙ find_leading (λ x. x.newest == n) (λ x. covers_leading held ms n x.position) held ms

at_newest : (held : Managed → Option Held) (ms : List Managed) (n : ℕ)
    → find (covers_all (filter (λ x. x.newest == n) (filter_map held ms))) (filter (λ x. x.newest == n) (filter_map held ms))
    ≡ (find (λ m. leads_all held ms n (held m)) ms >>= held)
at_newest held ms n = winner_of held ms n (covers_all (filter (λ x. x.newest == n) (filter_map held ms))) (λ i h. covers_found held ms n h i)

winner_found : (held : Managed → Option Held) (ms : List Managed) → winner (filter_map held ms) ≡ (winner_among held ms >>= held)
winner_found held ms =
    at_newest held ms (newest_of (filter_map held ms))
    ∙ ap (λ (n : ℕ). find (λ m. leads_all held ms n (held m)) ms >>= held) (newest_found held ms)

-- who is ahead of all who stopped
pub stopped_winner : (post : List Message) (acts : List Act) (u : ℕ) (ms : List Managed)
    → winner (stopped_among (tablets_of ms) (sendings post acts) u) ≡ (winner_among (stopped_by post acts u) ms >>= stopped_by post acts u)
stopped_winner post acts u ms =
    ap (λ (helds : List Held). winner helds) (map_mapped (λ (t : Tablet). stopped_at (sendings post acts) u t.alias) (λ (m : Managed). m.me) ms)
    ∙ winner_found (stopped_by post acts u) ms
