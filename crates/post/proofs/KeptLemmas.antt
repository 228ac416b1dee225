-- The queues and the lists of answers, where a message is sent, comes, is lost or is settled.
use Rattle.std.proofs.Common.{◌≡◌, ℕ, zero, suc, ◌+◌, ◌*◌, ◌<◌, ◌≤◌, Bool, true, false, ◌&&◌, List, [], ◌∷◌, ◌++◌, Option, Some, None, is_none, is_some, Result, Ok, Err, OnOk, OnErr, length, get_or, replicate, refl, ap, sym, subst, ◌∙◌, cond, ◌==◌, arith, append-nil}
use Rattle.std.proofs.lemmas.Bool.Decides.{nat_tests}
use Rattle.std.proofs.lemmas.List.{get_or-replicate, length-replicate, length-append, get_or_default}
use Rattle.std.specs.List.{slice_get}
use Rattle.shard_names.specs.declared.alias.Alias.{Alias}
use Rattle.shard_names.specs.Tablets.{alias_eq}
use Rattle.shard_calls.specs.declared.post.Content.{Content}
use Rattle.shard_calls.specs.declared.post.Content.TheVariants as contents
use Rattle.shard_calls.specs.declared.post.Message.{Message}
use Rattle.shard_calls.specs.Messages.{answers_call}
use Rattle.shard_calls.specs.World.{changed, changed_at, numbered, vanishes}
use Rattle.post.specs.Directions.{place_from, place_to}
use Rattle.post.specs.Waiting.{numbers_of, is_on_its_way, waits_under, waits, waiting_on, answers_on}
use Rattle.post.specs.Posted.{sent_at, answers_what_was_sent}
use Rattle.post.specs.Kept.{direction, direction_of, waits_in, asked_by, with_number, taken_out, list_of, left_by, AreQueues, AreAnswers, AreKept}
use Rattle.post.proofs.ChangeLemmas.{changed_far, none_far, length_changed, length_changed_at, nothing_changed, member_changed, changed_member, default_pushed}
use Rattle.post.proofs.NumberLemmas.{numbers_push, numbers_same, numbers_stay, numbers_out}
use Rattle.post.proofs.QueueLemmas.{position_within}

-- a change that leaves what a message carries
abbrev pub KeepsContent : (Message → Message) → Type 0
KeepsContent f = (m : Message) → (f m).content ≡ m.content

-- ---- nothing was sent

pub queues_new : (aliases : List Alias) (count : ℕ) → AreQueues aliases [] (replicate count [])
queues_new aliases count d short =
    let none : List ℕ = [] in
    get_or-replicate count d [] [] (let low : d < count = omega (arith, short, length-replicate count none) in low)

pub answers_new : AreAnswers [] []
answers_new zero = refl
answers_new (suc k) = refl

-- ---- a message is sent

pub joined : (b : Bool) (n : ℕ) (ns ms : List ℕ) → ns ≡ ms → cond b (with_number n ns) ns ≡ ms ++ cond b (n ∷ []) []
joined true n ns ms e = ap (λ (is : List ℕ). is ++ n ∷ []) e
joined false n ns ms e = e ∙ sym (append-nil ms)

pub and_true : (b : Bool) → (b && true) ≡ b
and_true true = refl
and_true false = refl

pub queues_sent : (aliases : List Alias) (ms : List Message) (queues : List (List ℕ)) (c : Content) (now n : ℕ) → n ≡ length ms + 1 → AreQueues aliases ms queues
    → AreQueues aliases (ms ++ sent_at now c ∷ []) (changed queues (direction_of aliases c) (with_number n))
queues_sent aliases ms queues c now n is kept d short =
    let old : d < length queues = omega (arith, short, length_changed queues (direction_of aliases c) (with_number n)) in
    member_changed queues (direction_of aliases c) d (with_number n) [] old
    ∙ joined (direction_of aliases c == d) n (get_or queues d []) (numbers_of (waits_in aliases d) ms) (kept d old)
    ∙ sym (numbers_push 1 n (waits_in aliases d) ms (sent_at now c) (omega (arith, is))
    ∙ ap (λ (t : Bool). numbers_of (waits_in aliases d) ms ++ cond t (n ∷ []) []) (and_true (direction_of aliases c == d)))

list_pushed : (lists : List (List ℕ)) (k : ℕ) → list_of (lists ++ [] ∷ []) k ≡ list_of lists k
list_pushed lists zero = refl
list_pushed lists (suc k) = default_pushed lists k []

pub list_changed : (lists : List (List ℕ)) (j k : ℕ) (f : List ℕ → List ℕ) → j < length lists
    → list_of (changed lists j f) k ≡ cond (suc j == k) (f (list_of lists k)) (list_of lists k)
list_changed lists j zero f short = nothing_changed (suc j) zero (f []) [] (let apart : (suc j == zero) ≡ false = grind (arith, nat_tests) in apart)
list_changed lists j (suc k) f short =
    changed_member lists j k f [] short
    ∙ ap (λ (t : Bool). cond t (f (get_or lists k [])) (get_or lists k [])) (let same : (j == k) ≡ (suc j == suc k) = grind (arith, nat_tests) in same)

pub some_short : {A : Type 0} (xs : List A) (k : ℕ) → is_some (slice_get xs k) ≡ true → k < length xs
some_short [] k some = absurd (cc)
some_short (x ∷ xs) zero some = omega arith
some_short (x ∷ xs) (suc k) some = omega (arith, some_short xs k some)

one_answered : (ms : List Message) (lists : List (List ℕ)) (asked k n : ℕ) → length lists ≡ length ms → is_some (numbered ms asked) ≡ true → list_of lists k ≡ answers_on ms k
    → list_of (changed_at lists asked (with_number n)) k ≡ answers_on ms k ++ cond (asked == k) (n ∷ []) []
one_answered ms lists zero k n same some kept = absurd (cc)
one_answered ms lists (suc j) k n same some kept =
    let short : j < length lists = omega (arith, same, some_short ms j some) in
    list_changed lists j k (with_number n) short
    ∙ joined (suc j == k) n (list_of lists k) (answers_on ms k) kept

by_content : (ms : List Message) (lists : List (List ℕ)) (c : Content) (k n : ℕ) → length lists ≡ length ms → answers_what_was_sent ms c ≡ true → list_of lists k ≡ answers_on ms k
    → list_of (changed_at lists (asked_by c) (with_number n)) k ≡ answers_on ms k ++ cond (answers_call k c) (n ∷ []) []
by_content ms lists (contents.Asks command term to call) k n same sent kept = kept ∙ sym (append-nil (answers_on ms k))
by_content ms lists (contents.Answers command asked from says) k n same sent kept = one_answered ms lists asked k n same sent kept
by_content ms lists (contents.Feeds from to term after index e) k n same sent kept = kept ∙ sym (append-nil (answers_on ms k))
by_content ms lists (contents.Acks from to term index) k n same sent kept = kept ∙ sym (append-nil (answers_on ms k))

pub answers_sent : (ms : List Message) (lists : List (List ℕ)) (c : Content) (now n : ℕ) → n ≡ length ms + 1 → length lists ≡ length ms → answers_what_was_sent ms c ≡ true
    → AreAnswers ms lists → AreAnswers (ms ++ sent_at now c ∷ []) (changed_at lists (asked_by c) (with_number n) ++ [] ∷ [])
answers_sent ms lists c now n is same sent kept k =
    list_pushed (changed_at lists (asked_by c) (with_number n)) k
    ∙ by_content ms lists c k n same sent (kept k)
    ∙ sym (numbers_push 1 n (λ m. answers_call k m.content) ms (sent_at now c) (omega (arith, is)))

-- ---- a message changes

pub answers_stay : (ms : List Message) (lists : List (List ℕ)) (k : ℕ) (f : Message → Message) → KeepsContent f → AreAnswers ms lists → AreAnswers (changed_at ms k f) lists
answers_stay ms lists zero f keeps kept call = kept call
answers_stay ms lists (suc j) f keeps kept call =
    kept call ∙ sym (numbers_stay 1 (λ m. answers_call call m.content) f ms j (λ m here. ap (λ (c : Content). answers_call call c) (keeps m)))

-- it waits as it did
pub waits_same : (of : Content → ℕ) (d : ℕ) (f : Message → Message) (m : Message) → of (f m).content ≡ of m.content → is_on_its_way (f m) ≡ is_on_its_way m
    → waits_under of d (f m) ≡ waits_under of d m
waits_same of d f m keeps way =
    ap (λ (n : ℕ). (n == d) && is_on_its_way (f m)) keeps ∙ ap (λ (b : Bool). (of m.content == d) && b) way

pub queues_stay : (aliases : List Alias) (ms : List Message) (queues : List (List ℕ)) (k : ℕ) (f : Message → Message) → KeepsContent f
    → ((m : Message) → is_on_its_way (f m) ≡ is_on_its_way m) → AreQueues aliases ms queues → AreQueues aliases (changed_at ms k f) queues
queues_stay aliases ms queues zero f keeps way kept d short = kept d short
queues_stay aliases ms queues (suc j) f keeps way kept d short =
    kept d short ∙ sym (numbers_stay 1 (waits_in aliases d) f ms j (λ m here. waits_same (direction_of aliases) d f m (ap (direction_of aliases) (keeps m)) (way m)))

-- it waits no more

pub and_false : (b : Bool) → (b && false) ≡ false
and_false true = refl
and_false false = refl

-- it does not wait in this direction
pub waits_not : (of : Content → ℕ) (d : ℕ) (m : Message) → is_on_its_way m ≡ false → waits_under of d m ≡ false
waits_not of d m way = ap (λ (b : Bool). (of m.content == d) && b) way ∙ and_false (of m.content == d)

waits_elsewhere : (of : Content → ℕ) (d : ℕ) (m : Message) → (of m.content == d) ≡ false → waits_under of d m ≡ false
waits_elsewhere of d m apart = ap (λ (b : Bool). b && is_on_its_way m) apart

waits_here : (of : Content → ℕ) (d : ℕ) (m : Message) → (of m.content == d) ≡ true → is_on_its_way m ≡ true → waits_under of d m ≡ true
waits_here of d m same way = ap (λ (b : Bool). b && is_on_its_way m) same ∙ way

pub the_member : (ms : List Message) (j : ℕ) (m x : Message) (P : Message → Type 0) → slice_get ms j ≡ Some m → slice_get ms j ≡ Some x → P m → P x
the_member ms j m x P one two p = subst P (let same : m ≡ x = cc in same) p

-- one queue once the message has left, by whether it waited there
pub one_left : (of : Content → ℕ) (ms : List Message) (queue : List ℕ) (j d : ℕ) (f : Message → Message) (m : Message) (t : Bool) → slice_get ms j ≡ Some m → is_on_its_way m ≡ true
    → ((x : Message) → is_on_its_way (f x) ≡ false) → (of m.content == d) ≡ t → queue ≡ numbers_of (waits_under of d) ms
    → cond t (taken_out (suc j) queue) queue ≡ numbers_of (waits_under of d) (changed ms j f)
one_left of ms queue j d f m true at way gone same kept =
    ap (taken_out (suc j)) kept
    ∙ sym (numbers_out 1 (suc j) (waits_under of d) f ms j (omega arith) (λ x here.
    (the_member ms j m x (λ y. waits_under of d y ≡ true) at here (waits_here of d m same way), waits_not of d (f x) (gone x))))
one_left of ms queue j d f m false at way gone same kept =
    kept
    ∙ sym (numbers_stay 1 (waits_under of d) f ms j (λ x here.
    waits_not of d (f x) (gone x) ∙ sym (the_member ms j m x (λ y. waits_under of d y ≡ false) at here (waits_elsewhere of d m same))))

by_way : (aliases : List Alias) (ms : List Message) (queues : List (List ℕ)) (j : ℕ) (f : Message → Message) (m : Message) (t : Bool) → slice_get ms j ≡ Some m → is_on_its_way m ≡ t
    → ((x : Message) → is_on_its_way (f x) ≡ false) → AreQueues aliases ms queues
    → AreQueues aliases (changed ms j f) (cond t (changed queues (direction_of aliases m.content) (taken_out (suc j))) queues)
by_way aliases ms queues j f m true at way gone kept d short =
    let old : d < length queues = omega (arith, short, length_changed queues (direction_of aliases m.content) (taken_out (suc j))) in
    member_changed queues (direction_of aliases m.content) d (taken_out (suc j)) [] old
    ∙ one_left (direction_of aliases) ms (get_or queues d []) j d f m (direction_of aliases m.content == d) at way gone refl (kept d old)
by_way aliases ms queues j f m false at way gone kept d short =
    kept d short
    ∙ sym (numbers_stay 1 (waits_in aliases d) f ms j (λ x here.
    waits_not (direction_of aliases) d (f x) (gone x) ∙ sym (the_member ms j m x (λ y. waits_in aliases d y ≡ false) at here (waits_not (direction_of aliases) d m way))))

by_member : (aliases : List Alias) (ms : List Message) (queues : List (List ℕ)) (j : ℕ) (f : Message → Message) (o : Option Message) → slice_get ms j ≡ o
    → ((x : Message) → is_on_its_way (f x) ≡ false) → AreQueues aliases ms queues → AreQueues aliases (changed ms j f) (left_by (direction_of aliases) queues (suc j) o)
by_member aliases ms queues j f None at gone kept = subst (λ (xs : List Message). AreQueues aliases xs queues) (changed_far ms j f (none_far ms j at)) kept
by_member aliases ms queues j f (Some m) at gone kept = by_way aliases ms queues j f m (is_on_its_way m) at refl gone kept

pub queues_left : (aliases : List Alias) (ms : List Message) (queues : List (List ℕ)) (k : ℕ) (f : Message → Message)
    → ((x : Message) → is_on_its_way (f x) ≡ false) → AreQueues aliases ms queues → AreQueues aliases (changed_at ms k f) (left_by (direction_of aliases) queues k (numbered ms k))
queues_left aliases ms queues zero f gone kept = kept
queues_left aliases ms queues (suc j) f gone kept = by_member aliases ms queues j f (slice_get ms j) refl gone kept

left_length : (aliases : List Alias) (queues : List (List ℕ)) (k : ℕ) (m : Message) (t : Bool) → length (cond t (changed queues (direction_of aliases m.content) (taken_out k)) queues) ≡ length queues
left_length aliases queues k m true = length_changed queues (direction_of aliases m.content) (taken_out k)
left_length aliases queues k m false = refl

pub length_left : (aliases : List Alias) (queues : List (List ℕ)) (k : ℕ) (o : Option Message) → length (left_by (direction_of aliases) queues k o) ≡ length queues
length_left aliases queues k None = refl
length_left aliases queues k (Some m) = left_length aliases queues k m (is_on_its_way m)

-- ---- what waits between two places

same_way : (a b from to : ℕ) → b ≤ 33 → to ≤ 33 → (direction a b == direction from to) ≡ ((a == from) && (b == to))
same_way a b from to one two = by_test a b from to one two (a == from) (b == to) refl refl where
  by_test : (a b from to : ℕ) → b ≤ 33 → to ≤ 33 → (s t : Bool) → (a == from) ≡ s → (b == to) ≡ t → (direction a b == direction from to) ≡ (s && t)
  by_test a b from to one two true true p q = grind (arith, nat_tests)
  by_test a b from to one two true false p q = grind (arith, nat_tests)
  by_test a b from to one two false t p q = grind (arith, nat_tests)

place_within : (aliases : List Alias) (c : Content) → place_to aliases c ≤ length aliases + 1
place_within aliases (contents.Asks command term to call) = omega (arith, position_within (λ x. alias_eq x to) aliases)
place_within aliases (contents.Answers command asked from says) = omega arith
place_within aliases (contents.Feeds from to term after index e) = omega (arith, position_within (λ x. alias_eq x to) aliases)
place_within aliases (contents.Acks from to term index) = omega (arith, position_within (λ x. alias_eq x to) aliases)

pub waiting_is : (aliases : List Alias) (ms : List Message) (queues : List (List ℕ)) (from to : ℕ) → length aliases ≤ 32 → length queues ≡ (length aliases + 2) * 34
    → from ≤ length aliases → to ≤ length aliases → AreQueues aliases ms queues → get_or queues (direction from to) [] ≡ waiting_on aliases ms from to
waiting_is aliases ms queues from to few table one two kept =
    let short : direction from to < length queues = omega (arith, few, table, one, two) in
    kept (direction from to) short
    ∙ numbers_same 1 (waits_in aliases (direction from to)) (waits aliases from to) ms (λ m.
    ap (λ (b : Bool). b && is_on_its_way m)
    (same_way (place_from aliases m.content) (place_to aliases m.content) from to
    (let low : place_to aliases m.content ≤ 33 = omega (arith, few, place_within aliases m.content) in low) (let low : to ≤ 33 = omega (arith, few, two) in low)))

-- the same, where the queue is read
pub waiting_read : (aliases : List Alias) (ms : List Message) (queues answers : List (List ℕ)) (from to d : ℕ) (queue : List ℕ) → AreKept aliases ms queues answers
    → from ≤ length aliases → to ≤ length aliases → d ≡ direction from to → queue ≡ get_or queues d queue → queue ≡ waiting_on aliases ms from to
waiting_read aliases ms queues answers from to d queue kept one two is read =
    let short : d < length queues = omega (arith, is, kept.few, kept.directions, one, two) in
    read ∙ get_or_default queues d queue [] short ∙ ap (λ (k : ℕ). get_or queues k []) is ∙ waiting_is aliases ms queues from to kept.few kept.directions one two kept.queues

-- ---- all that is kept

pub kept_new : (aliases : List Alias) (queues : List (List ℕ)) (count : ℕ) → length aliases ≤ 32 → count ≡ (length aliases + 2) * 34 → queues ≡ replicate count []
    → AreKept aliases [] queues []
kept_new aliases queues count few is e =
    let none : List ℕ = [] in
    subst (λ (qs : List (List ℕ)). AreKept aliases [] qs []) (sym e) (record {
      few = few;
      directions = length-replicate count none ∙ is;
      queues = queues_new aliases count;
      calls = refl;
      answers = answers_new;
    })

-- a message that waits as it did
pub kept_stays : (aliases : List Alias) (ms new : List Message) (queues answers : List (List ℕ)) (k : ℕ) (f : Message → Message) → KeepsContent f
    → ((m : Message) → is_on_its_way (f m) ≡ is_on_its_way m) → new ≡ changed_at ms k f → AreKept aliases ms queues answers → AreKept aliases new queues answers
kept_stays aliases ms new queues answers k f keeps way e kept =
    subst (λ (xs : List Message). AreKept aliases xs queues answers) (sym e) (record {
      few = kept.few;
      directions = kept.directions;
      queues = queues_stay aliases ms queues k f keeps way kept.queues;
      calls = kept.calls ∙ sym (length_changed_at ms k f);
      answers = answers_stay ms answers k f keeps kept.answers;
    })

-- a message that waits no more
pub kept_left : (aliases read : List Alias) (ms seen new : List Message) (queues after answers : List (List ℕ)) (k : ℕ) (f : Message → Message) → KeepsContent f
    → ((m : Message) → is_on_its_way (f m) ≡ false) → read ≡ aliases → seen ≡ ms → after ≡ left_by (direction_of read) queues k (numbered seen k) → new ≡ changed_at ms k f
    → AreKept aliases ms queues answers → AreKept aliases new after answers
kept_left aliases read ms seen new queues after answers k f keeps gone one two left e kept =
    let is : after ≡ left_by (direction_of aliases) queues k (numbered ms k) =
    left ∙ ap (λ (xs : List Alias). left_by (direction_of xs) queues k (numbered seen k)) one ∙ ap (λ (xs : List Message). left_by (direction_of aliases) queues k (numbered xs k)) two in
    subst (λ (xs : List Message). AreKept aliases xs after answers) (sym e)
    (subst (λ (qs : List (List ℕ)). AreKept aliases (changed_at ms k f) qs answers) (sym is) (record {
      few = kept.few;
      directions = length_left aliases queues k (numbered ms k) ∙ kept.directions;
      queues = queues_left aliases ms queues k f gone kept.queues;
      calls = kept.calls ∙ sym (length_changed_at ms k f);
      answers = answers_stay ms answers k f keeps kept.answers;
    }))

-- a message that is sent, or that finds no room
pub kept_sent : {N E : Type 0} (r : Result N E) (aliases : List Alias) (ms new : List Message) (queues after answers more : List (List ℕ)) (c : Content) (now : ℕ)
    → answers_what_was_sent ms c ≡ true
    → OnOk r (new ≡ ms ++ sent_at now c ∷ [])
    → OnOk r (after ≡ changed queues (direction_of aliases c) (with_number (length ms + 1)))
    → OnOk r (more ≡ changed_at answers (asked_by c) (with_number (length ms + 1)) ++ [] ∷ [])
    → OnErr r (new ≡ ms) → OnErr r (after ≡ queues) → OnErr r (more ≡ answers)
    → AreKept aliases ms queues answers → AreKept aliases new after more
kept_sent (Ok n) aliases ms new queues after answers more c now sent one two three no_one no_two no_three kept =
    rw (one, two, three) (record {
      few = kept.few;
      directions = length_changed queues (direction_of aliases c) (with_number (length ms + 1)) ∙ kept.directions;
      queues = queues_sent aliases ms queues c now (length ms + 1) refl kept.queues;
      calls = omega (
        arith,
        kept.calls,
        length-append ms (sent_at now c ∷ []),
        length-append (changed_at answers (asked_by c) (with_number (length ms + 1))) ([] ∷ []),
        length_changed_at answers (asked_by c) (with_number (length ms + 1)),
      );
      answers = answers_sent ms answers c now (length ms + 1) refl kept.calls sent kept.answers;
    })
kept_sent (Err e) aliases ms new queues after answers more c now sent one two three no_one no_two no_three kept = rw (no_one, no_two, no_three) kept

-- what is lost is not on its way
pub lost_gone : (m : Message) → is_on_its_way (vanishes m) ≡ false
lost_gone m = and_false (is_none m.arrived)
