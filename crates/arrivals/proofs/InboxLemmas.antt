-- What is due to tablets, or to a command that some actor has open, is all that is due.
use Rattle.std.proofs.Common.{◌≡◌, ℕ, ◌+◌, ◌≤◌, min, Bool, true, false, not, ◌&&◌, ◌||◌, ◌==◌, is_none, List, [], ◌∷◌, Option, Some, None, refl, ap, sym, ◌∙◌, cond, arith}
use Rattle.std.specs.List.{list_any, position_from}
use Rattle.shard_names.proofs.TabletLemmas.{both_right}
use Rattle.shard_calls.specs.declared.post.Content.{Content}
use Rattle.shard_calls.specs.declared.post.Content.TheVariants as contents
use Rattle.shard_calls.specs.declared.post.Message.{Message}
use Rattle.shard_calls.specs.declared.state.ActorState.{ActorState}
use Rattle.shard_calls.specs.Messages.{passes, is_cut, link_of, is_received, may_arrive}
use Rattle.post.specs.Directions.{receiver}
use Rattle.post.specs.Waiting.{waits_for}
use Rattle.shard_state.specs.State.{Data, seen}
use Rattle.arrivals.specs.Arrivals.{is_due, next_due}
use Rattle.arrivals.specs.Receivers.{has_open, due_for, due_in, due_of, earlier, OpenAreOfActors}
use Rattle.arrivals.proofs.WalkLemmas.{first_numbered, first_same, or_right}

-- ---- the lesser of two

pub earlier-assoc : (a b c : Option ℕ) → earlier (earlier a b) c ≡ earlier a (earlier b c)
earlier-assoc None b c = refl
earlier-assoc (Some k) None c = refl
earlier-assoc (Some k) (Some n) None = refl
earlier-assoc (Some k) (Some n) (Some m) = ap (λ (j : ℕ). Some j) (let same : min (min k n) m ≡ min k (min n m) = omega arith in same)

-- no number of it is below this one
abbrev NotBelow : ℕ → Option ℕ → Type 0
NotBelow n o = (k : ℕ) → o ≡ Some k → n ≤ k

first_before : (n : ℕ) (o : Option ℕ) → NotBelow n o → Some n ≡ earlier (Some n) o
first_before n None h = refl
first_before n (Some k) h = ap (λ (j : ℕ). Some j) (let low : n ≤ k = h k refl in let same : n ≡ min n k = omega (arith, low) in same)

last_before : (n : ℕ) (o : Option ℕ) → NotBelow n o → Some n ≡ earlier o (Some n)
last_before n None h = refl
last_before n (Some k) h = ap (λ (j : ℕ). Some j) (let low : n ≤ k = h k refl in let same : n ≡ min k n = omega (arith, low) in same)

found_one : (t : Bool) (n k : ℕ) (later : Option ℕ) → NotBelow (n + 1) later → cond t (Some n) later ≡ Some k → n ≤ k
found_one true n k later low e = let same : n ≡ k = cc in omega (arith, same)
found_one false n k later low e = let far : n + 1 ≤ k = low k e in omega (arith, far)

found_from : {A : Type 0} (p : A → Bool) (n : ℕ) (xs : List A) → NotBelow n (position_from p n xs)
found_from p n [] k e = absurd (let none : None ≡ Some k = e in cc)
found_from p n (x ∷ xs) k e = found_one (p x) n k (position_from p (n + 1) xs) (found_from p (n + 1) xs) e

itself : (n : ℕ) → NotBelow n (Some n)
itself n k e = let same : n ≡ k = cc in omega (arith, same)

either_one : (s t : Bool) (n : ℕ) (found a b : Option ℕ) → found ≡ earlier a b → NotBelow (n + 1) a → NotBelow (n + 1) b
    → cond (s || t) (Some n) found ≡ earlier (cond s (Some n) a) (cond t (Some n) b)
either_one true true n found a b e low less = first_before n (Some n) (itself n)
either_one true false n found a b e low less = first_before n b (λ k is. let far : n + 1 ≤ k = less k is in omega (arith, far))
either_one false true n found a b e low less = last_before n a (λ k is. let far : n + 1 ≤ k = low k is in omega (arith, far))
either_one false false n found a b e low less = e

-- the first that passes either of two tests
first_either : {A : Type 0} (n : ℕ) (p q : A → Bool) (xs : List A) → position_from (λ x. p x || q x) n xs ≡ earlier (position_from p n xs) (position_from q n xs)
first_either n p q [] = refl
first_either n p q (x ∷ xs) =
    either_one (p x) (q x) n (position_from (λ y. p y || q y) (n + 1) xs) (position_from p (n + 1) xs) (position_from q (n + 1) xs)
    (first_either (n + 1) p q xs) (found_from p (n + 1) xs) (found_from q (n + 1) xs)

never : {A : Type 0} (n : ℕ) (q : A → Bool) (xs : List A) → None ≡ position_from (λ x. false && q x) n xs
never n q [] = refl
never n q (x ∷ xs) = never (n + 1) q xs

-- ---- what is due to one receiver, and to those of some actors

waits_too : (t a l c r : Bool) → ((t && (a && not l)) && (a && ((not l && c) && r))) ≡ (t && (a && ((not l && c) && r)))
waits_too false a l c r = refl
waits_too true false l c r = refl
waits_too true true true c r = refl
waits_too true true false c r = refl

due_for_is : (d : Data) (c : ℕ) → due_for d c ≡ position_from (λ m. (receiver m.content == c) && is_due (seen d) m) 1 d.messages
due_for_is d c =
    first_numbered (waits_for c) (is_due (seen d)) d.messages
    ∙ first_same 1 (λ m. waits_for c m && is_due (seen d) m) (λ m. (receiver m.content == c) && is_due (seen d) m) d.messages
    (λ m. waits_too (receiver m.content == c) (is_none m.arrived) m.lost (not (is_cut d.cuts (link_of m.content))) (is_received (seen d) m.content))

due_in_is : (d : Data) (o : Option ℕ) → due_in d o ≡ position_from (λ m. passes (λ n. receiver m.content == n) o && is_due (seen d) m) 1 d.messages
due_in_is d None = never 1 (is_due (seen d)) d.messages
due_in_is d (Some c) = due_for_is d c

one_more : (h r x : Bool) → ((h && x) || (r && x)) ≡ ((h || r) && x)
one_more true true true = refl
one_more true true false = refl
one_more true false true = refl
one_more true false false = refl
one_more false r x = refl

due_of_is : (d : Data) (actors : List ActorState)
    → due_of d actors ≡ position_from (λ m. list_any (has_open (receiver m.content)) actors && is_due (seen d) m) 1 d.messages
due_of_is d [] = never 1 (is_due (seen d)) d.messages
due_of_is d (a ∷ actors) =
    ap (λ (o : Option ℕ). earlier o (due_of d actors)) (due_in_is d a.pending)
    ∙ ap (λ (o : Option ℕ). earlier (position_from (λ m. has_open (receiver m.content) a && is_due (seen d) m) 1 d.messages) o) (due_of_is d actors)
    ∙ sym (first_either 1 (λ m. has_open (receiver m.content) a && is_due (seen d) m) (λ m. list_any (has_open (receiver m.content)) actors && is_due (seen d) m) d.messages)
    ∙ first_same 1 (λ m. (has_open (receiver m.content) a && is_due (seen d) m) || (list_any (has_open (receiver m.content)) actors && is_due (seen d) m))
    (λ m. list_any (has_open (receiver m.content)) (a ∷ actors) && is_due (seen d) m) d.messages
    (λ m. one_more (has_open (receiver m.content) a) (list_any (has_open (receiver m.content)) actors) (is_due (seen d) m))

-- ---- nothing else is due

received_by : (d : Data) (c : Content) → OpenAreOfActors d → is_received (seen d) c ≡ true → ((receiver c == 0) || list_any (has_open (receiver c)) d.actors) ≡ true
received_by d (contents.Asks command term to call) open_ones h = refl
received_by d (contents.Answers command asked from says) open_ones h = or_right (command == 0) (list_any (has_open command) d.actors) (open_ones command h)
received_by d (contents.Feeds from to term after index e) open_ones h = refl
received_by d (contents.Acks from to term index) open_ones h = refl

reaches : (d : Data) (m : Message) → OpenAreOfActors d → is_due (seen d) m ≡ true
    → ((receiver m.content == 0) || list_any (has_open (receiver m.content)) d.actors) ≡ true
reaches d m open_ones h =
    received_by d m.content open_ones
    (both_right (not m.lost && not (is_cut d.cuts (link_of m.content))) (is_received (seen d) m.content) (both_right (is_none m.arrived) (may_arrive (seen d) m) h))

all_of : (s t x : Bool) → (x ≡ true → (s || t) ≡ true) → ((s && x) || (t && x)) ≡ x
all_of true true true h = refl
all_of true false true h = refl
all_of false true true h = refl
all_of false false true h = h refl
all_of true true false h = refl
all_of true false false h = refl
all_of false true false h = refl
all_of false false false h = refl

-- the least that is due to tablets and to open commands is the first that is due
pub first_due : (d : Data) → OpenAreOfActors d → earlier (due_for d 0) (due_of d d.actors) ≡ next_due (seen d)
first_due d open_ones =
    ap (λ (o : Option ℕ). earlier o (due_of d d.actors)) (due_for_is d 0)
    ∙ ap (λ (o : Option ℕ). earlier (position_from (λ m. (receiver m.content == 0) && is_due (seen d) m) 1 d.messages) o) (due_of_is d d.actors)
    ∙ sym (first_either 1 (λ m. (receiver m.content == 0) && is_due (seen d) m) (λ m. list_any (has_open (receiver m.content)) d.actors && is_due (seen d) m) d.messages)
    ∙ first_same 1 (λ m. ((receiver m.content == 0) && is_due (seen d) m) || (list_any (has_open (receiver m.content)) d.actors && is_due (seen d) m)) (is_due (seen d)) d.messages
    (λ m. all_of (receiver m.content == 0) (list_any (has_open (receiver m.content)) d.actors) (is_due (seen d) m) (reaches d m open_ones))
