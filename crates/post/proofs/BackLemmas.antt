-- Where the last message is taken back, and where its answer is another.
use Rattle.std.proofs.Common.{◌≡◌, ℕ, zero, suc, ◌+◌, ◌-◌, ◌<◌, ◌≤◌, ◌⊎◌, inl, inr, Bool, true, false, ◌&&◌, List, [], ◌∷◌, ◌++◌, Option, Some, is_some, length, get_or, take, refl, ap, sym, subst, ◌∙◌, cond, ◌==◌, arith, append-nil, length-append}
use Rattle.std.proofs.lemmas.Bool.Decides.{nat_tests}
use Rattle.std.proofs.Math.Seq.{take-append_seam}
use Rattle.shard_names.specs.declared.alias.Alias.{Alias}
use Rattle.shard_calls.specs.declared.answer.Answer.{Answer}
use Rattle.shard_calls.specs.declared.post.Content.{Content}
use Rattle.shard_calls.specs.declared.post.Content.TheVariants as contents
use Rattle.shard_calls.specs.declared.post.Message.{Message}
use Rattle.shard_calls.specs.Messages.{answers_call}
use Rattle.shard_calls.specs.World.{changed, changed_at, numbered}
use Rattle.shard_calls.proofs.ListLemmas.{at_end}
use Rattle.post.specs.Waiting.{numbers_of, is_on_its_way, answers_on}
use Rattle.post.specs.Posted.{with_answer, answers_now, sent_at, answers_what_was_sent}
use Rattle.post.specs.Kept.{direction_of, waits_in, asked_by, without_last, list_of, forgotten_by, unanswered_by, AreQueues, AreAnswers, AreKept}
use Rattle.post.proofs.ChangeLemmas.{changed_far, length_changed, length_changed_at, member_changed, last_forgotten}
use Rattle.post.proofs.NumberLemmas.{numbers_push, numbers_stay}
use Rattle.post.proofs.KeptLemmas.{and_true, and_false, list_changed, some_short}

-- ---- another answer

direction_amended : (aliases : List Alias) (x : Answer) (c : Content) → direction_of aliases (with_answer x c) ≡ direction_of aliases c
direction_amended aliases x (contents.Asks command term to call) = refl
direction_amended aliases x (contents.Answers command asked from says) = refl
direction_amended aliases x (contents.Feeds from to term after index e) = refl
direction_amended aliases x (contents.Acks from to term index) = refl

answers_amended : (k : ℕ) (x : Answer) (c : Content) → answers_call k (with_answer x c) ≡ answers_call k c
answers_amended k x (contents.Asks command term to call) = refl
answers_amended k x (contents.Answers command asked from says) = refl
answers_amended k x (contents.Feeds from to term after index e) = refl
answers_amended k x (contents.Acks from to term index) = refl

queues_amended : (aliases : List Alias) (ms : List Message) (queues : List (List ℕ)) (k : ℕ) (x : Answer) → AreQueues aliases ms queues
    → AreQueues aliases (changed_at ms k (answers_now x)) queues
queues_amended aliases ms queues zero x kept d short = kept d short
queues_amended aliases ms queues (suc j) x kept d short =
    kept d short
    ∙ sym (numbers_stay 1 (waits_in aliases d) (answers_now x) ms j (λ m here. ap (λ (n : ℕ). (n == d) && is_on_its_way m) (direction_amended aliases x m.content)))

lists_amended : (ms : List Message) (lists : List (List ℕ)) (k : ℕ) (x : Answer) → AreAnswers ms lists → AreAnswers (changed_at ms k (answers_now x)) lists
lists_amended ms lists zero x kept call = kept call
lists_amended ms lists (suc j) x kept call =
    kept call ∙ sym (numbers_stay 1 (λ m. answers_call call m.content) (answers_now x) ms j (λ m here. answers_amended call x m.content))

pub kept_amended : (aliases : List Alias) (ms new : List Message) (queues answers : List (List ℕ)) (k : ℕ) (x : Answer) → new ≡ changed_at ms k (answers_now x)
    → AreKept aliases ms queues answers → AreKept aliases new queues answers
kept_amended aliases ms new queues answers k x e kept =
    subst (λ (xs : List Message). AreKept aliases xs queues answers) (sym e) (record {
      few = kept.few;
      directions = kept.directions;
      queues = queues_amended aliases ms queues k x kept.queues;
      calls = kept.calls ∙ sym (length_changed_at ms k (answers_now x));
      answers = lists_amended ms answers k x kept.answers;
    })

-- ---- nothing answers a message that is new

-- where a list and what comes behind it are nothing, the list is nothing
front_nothing : (xs ys : List ℕ) → xs ++ ys ≡ [] → xs ≡ []
front_nothing [] ys e = refl
front_nothing (x ∷ xs) ys e = absurd (cc)

none_beyond : (lists : List (List ℕ)) (k : ℕ) → length lists < k → list_of lists k ≡ []
none_beyond lists zero far = refl
none_beyond [] (suc zero) far = refl
none_beyond [] (suc (suc k)) far = refl
none_beyond (x ∷ lists) (suc zero) far = absurd (omega arith)
none_beyond (x ∷ lists) (suc (suc k)) far = none_beyond lists (suc k) (omega arith)

asked_before : (ms : List Message) (asked : ℕ) (t : Bool) → is_some (numbered ms asked) ≡ true → (asked == length ms + 1) ≡ t → t ≡ false
asked_before ms zero t some same = absurd (cc)
asked_before ms (suc j) t some same = (let short = some_short ms j some in (let apart : (suc j == length ms + 1) ≡ false = grind (arith, nat_tests) in sym same ∙ apart))

new_unanswered : (ms : List Message) (c : Content) → answers_what_was_sent ms c ≡ true → answers_call (length ms + 1) c ≡ false
new_unanswered ms (contents.Asks command term to call) sent = refl
new_unanswered ms (contents.Answers command asked from says) sent = asked_before ms asked _ sent refl
new_unanswered ms (contents.Feeds from to term after index e) sent = refl
new_unanswered ms (contents.Acks from to term index) sent = refl

pub none_answers : (aliases : List Alias) (ms : List Message) (queues lists : List (List ℕ)) (c : Content) (now : ℕ) → AreKept aliases ms queues lists
    → answers_what_was_sent ms c ≡ true → answers_on (ms ++ sent_at now c ∷ []) (length (ms ++ sent_at now c ∷ [])) ≡ []
none_answers aliases ms queues lists c now kept sent =
    let size : length (ms ++ sent_at now c ∷ []) ≡ length ms + 1 = length-append ms (sent_at now c ∷ []) in
    let before : answers_on ms (length ms + 1) ≡ [] = sym (kept.answers (length ms + 1)) ∙ none_beyond lists (length ms + 1) (omega (arith, kept.calls)) in
    ap (λ (k : ℕ). answers_on (ms ++ sent_at now c ∷ []) k) size
    ∙ numbers_push 1 (length ms + 1) (λ m. answers_call (length ms + 1) m.content) ms (sent_at now c) (omega arith)
    ∙ ap (λ (t : Bool). answers_on ms (length ms + 1) ++ cond t ((length ms + 1) ∷ []) []) (new_unanswered ms c sent)
    ∙ append-nil (answers_on ms (length ms + 1)) ∙ before

-- ---- the last message is taken back

pub popped : (b : Bool) (n : ℕ) (q ns : List ℕ) → q ≡ ns ++ cond b (n ∷ []) [] → cond b (without_last q) q ≡ ns
popped true n q ns e = ap without_last e ∙ last_forgotten n ns
popped false n q ns e = e ∙ append-nil ns

queues_back : (aliases : List Alias) (ys : List Message) (m : Message) (queues : List (List ℕ)) (t : Bool) → is_on_its_way m ≡ t → AreQueues aliases (ys ++ m ∷ []) queues
    → AreQueues aliases ys (cond t (changed queues (direction_of aliases m.content) without_last) queues)
queues_back aliases ys m queues true way kept d short =
    let old : d < length queues = omega (arith, short, length_changed queues (direction_of aliases m.content) without_last) in
    let pushed : get_or queues d [] ≡ numbers_of (waits_in aliases d) ys ++ cond (direction_of aliases m.content == d) ((length ys + 1) ∷ []) [] =
    kept d old ∙ numbers_push 1 (length ys + 1) (waits_in aliases d) ys m (omega arith)
    ∙ ap (λ (t : Bool). numbers_of (waits_in aliases d) ys ++ cond t ((length ys + 1) ∷ []) [])
    (ap (λ (b : Bool). (direction_of aliases m.content == d) && b) way ∙ and_true (direction_of aliases m.content == d)) in
    member_changed queues (direction_of aliases m.content) d without_last [] old
    ∙ popped (direction_of aliases m.content == d) (length ys + 1) (get_or queues d []) (numbers_of (waits_in aliases d) ys) pushed
queues_back aliases ys m queues false way kept d short =
    kept d short ∙ numbers_push 1 (length ys + 1) (waits_in aliases d) ys m (omega arith)
    ∙ ap (λ (t : Bool). numbers_of (waits_in aliases d) ys ++ cond t ((length ys + 1) ∷ []) [])
    (ap (λ (b : Bool). (direction_of aliases m.content == d) && b) way ∙ and_false (direction_of aliases m.content == d))
    ∙ append-nil (numbers_of (waits_in aliases d) ys)

-- a front of the lists
get_taken : (xs : List (List ℕ)) (n j : ℕ) → j < n → get_or (take n xs) j [] ≡ get_or xs j []
get_taken [] zero j short = refl
get_taken [] (suc n) j short = refl
get_taken (x ∷ xs) zero j short = absurd (omega arith)
get_taken (x ∷ xs) (suc n) zero short = refl
get_taken (x ∷ xs) (suc n) (suc j) short = get_taken xs n j (omega arith)

list_taken : (xs : List (List ℕ)) (n k : ℕ) → k ≤ n → list_of (take n xs) k ≡ list_of xs k
list_taken xs n zero short = refl
list_taken xs n (suc j) short = get_taken xs n j (omega arith)

get_untaken : (xs : List (List ℕ)) (n j : ℕ) → n ≤ j → get_or (take n xs) j [] ≡ []
get_untaken [] zero zero far = refl
get_untaken [] zero (suc j) far = refl
get_untaken [] (suc n) zero far = refl
get_untaken [] (suc n) (suc j) far = refl
get_untaken (x ∷ xs) zero zero far = refl
get_untaken (x ∷ xs) zero (suc j) far = refl
get_untaken (x ∷ xs) (suc n) zero far = absurd (omega arith)
get_untaken (x ∷ xs) (suc n) (suc j) far = get_untaken xs n j (omega arith)

list_untaken : (xs : List (List ℕ)) (n k : ℕ) → n < k → list_of (take n xs) k ≡ []
list_untaken xs n zero far = refl
list_untaken xs n (suc j) far = get_untaken xs n j (omega arith)

-- the list of one call, where its last answer goes
one_back : (lists : List (List ℕ)) (asked k n : ℕ) (ns : List ℕ) → k ≤ length lists → list_of lists k ≡ ns ++ cond (asked == k) (n ∷ []) []
    → list_of (changed_at lists asked without_last) k ≡ ns
one_back lists zero zero n ns short e = absurd (let h : [] ≡ ns ++ n ∷ [] = e in (let size = ap (λ (xs : List ℕ). length xs) h in omega (arith, size, length-append ns (n ∷ []))))
one_back lists zero (suc k) n ns short e =
    let apart : (zero == suc k) ≡ false = grind (arith, nat_tests) in
    e ∙ ap (λ (t : Bool). ns ++ cond t (n ∷ []) []) apart ∙ append-nil ns
one_back lists (suc j) k n ns short e = by_place (j < length lists) (length lists ≤ j) (let either : (j < length lists) ⊎ (length lists ≤ j) = order j (length lists) in either)
  where
    order : (a b : ℕ) → (a < b) ⊎ (b ≤ a)
    order zero zero = inr (omega arith)
    order zero (suc b) = inl (omega arith)
    order (suc a) zero = inr (omega arith)
    order (suc a) (suc b) = next (order a b)
      where
        next : (a < b) ⊎ (b ≤ a) → (suc a < suc b) ⊎ (suc b ≤ suc a)
        next (inl h) = inl (omega (arith, h))
        next (inr h) = inr (omega (arith, h))

    by_place : (P Q : Type 0) → (j < length lists) ⊎ (length lists ≤ j) → list_of (changed lists j without_last) k ≡ ns
    by_place P Q (inl h) = list_changed lists j k without_last h ∙ popped (suc j == k) n (list_of lists k) ns e
    by_place P Q (inr h) =
        let apart : (suc j == k) ≡ false = grind (arith, nat_tests) in
        sym (ap (λ (ls : List (List ℕ)). list_of ls k) (changed_far lists j without_last h))
        ∙ e ∙ ap (λ (t : Bool). ns ++ cond t (n ∷ []) []) apart ∙ append-nil ns

by_content : (lists : List (List ℕ)) (c : Content) (k n : ℕ) (ns : List ℕ) → k ≤ length lists → list_of lists k ≡ ns ++ cond (answers_call k c) (n ∷ []) []
    → list_of (changed_at lists (asked_by c) without_last) k ≡ ns
by_content lists (contents.Asks command term to call) k n ns short e = e ∙ append-nil ns
by_content lists (contents.Answers command asked from says) k n ns short e = one_back lists asked k n ns short e
by_content lists (contents.Feeds from to term after index x) k n ns short e = e ∙ append-nil ns
by_content lists (contents.Acks from to term index) k n ns short e = e ∙ append-nil ns

lists_back : (ys : List Message) (m : Message) (lists : List (List ℕ)) → length lists ≡ length ys + 1 → answers_on (ys ++ m ∷ []) (length ys + 1) ≡ []
    → AreAnswers (ys ++ m ∷ []) lists → AreAnswers ys (take (length ys) (changed_at lists (asked_by m.content) without_last))
lists_back ys m lists size none kept k = by_place (order k (length ys))
  where
    order : (a b : ℕ) → (a ≤ b) ⊎ (b < a)
    order zero b = inl (omega arith)
    order (suc a) zero = inr (omega arith)
    order (suc a) (suc b) = next (order a b)
      where
        next : (a ≤ b) ⊎ (b < a) → (suc a ≤ suc b) ⊎ (suc b < suc a)
        next (inl h) = inl (omega (arith, h))
        next (inr h) = inr (omega (arith, h))

    pushed : answers_on (ys ++ m ∷ []) k ≡ answers_on ys k ++ cond (answers_call k m.content) ((length ys + 1) ∷ []) []
    pushed = numbers_push 1 (length ys + 1) (λ x. answers_call k x.content) ys m (omega arith)

    nothing : length ys < k → (k ≡ length ys + 1) ⊎ (length ys + 1 < k) → answers_on (ys ++ m ∷ []) k ≡ []
    nothing far (inl same) = ap (λ (j : ℕ). answers_on (ys ++ m ∷ []) j) same ∙ none
    nothing far (inr beyond) = sym (kept k) ∙ none_beyond lists k (omega (arith, size, beyond))

    split : (a b : ℕ) → b < a → (a ≡ b + 1) ⊎ (b + 1 < a)
    split zero b h = absurd (omega arith)
    split (suc zero) zero h = inl refl
    split (suc (suc a)) zero h = inr (omega arith)
    split (suc a) (suc b) h = up (split a b (omega (arith, h)))
      where
        up : (a ≡ b + 1) ⊎ (b + 1 < a) → (suc a ≡ suc b + 1) ⊎ (suc b + 1 < suc a)
        up (inl e) = inl (omega (arith, e))
        up (inr l) = inr (omega (arith, l))

    by_place : (k ≤ length ys) ⊎ (length ys < k) → list_of (take (length ys) (changed_at lists (asked_by m.content) without_last)) k ≡ answers_on ys k
    by_place (inl near) =
        list_taken (changed_at lists (asked_by m.content) without_last) (length ys) k near
        ∙ by_content lists m.content k (length ys + 1) (answers_on ys k) (omega (arith, near, size)) (kept k ∙ pushed)
    by_place (inr far) =
        list_untaken (changed_at lists (asked_by m.content) without_last) (length ys) k far
        ∙ sym (front_nothing (answers_on ys k) _ (sym pushed ∙ nothing far (split k (length ys) far)))

back_last : (aliases : List Alias) (ys : List Message) (m : Message) (queues lists : List (List ℕ)) → AreKept aliases (ys ++ m ∷ []) queues lists
    → answers_on (ys ++ m ∷ []) (length ys + 1) ≡ []
    → AreKept aliases ys (forgotten_by (direction_of aliases) queues (Some m)) (take (length ys) (unanswered_by lists (Some m)))
back_last aliases ys m queues lists kept none =
    let size : length lists ≡ length ys + 1 = kept.calls ∙ length-append ys (m ∷ []) in
    record {
      few = kept.few;
      directions = of_way (is_on_its_way m) ∙ kept.directions;
      queues = queues_back aliases ys m queues (is_on_its_way m) refl kept.queues;
      calls = taken_size (changed_at lists (asked_by m.content) without_last) (length ys)
          (let fits : length ys ≤ length (changed_at lists (asked_by m.content) without_last) = omega (arith, size, length_changed_at lists (asked_by m.content) without_last) in fits);
      answers = lists_back ys m lists size none kept.answers;
    }
  where
    of_way : (t : Bool) → length (cond t (changed queues (direction_of aliases m.content) without_last) queues) ≡ length queues
    of_way true = length_changed queues (direction_of aliases m.content) without_last
    of_way false = refl

    taken_size : (xs : List (List ℕ)) (n : ℕ) → n ≤ length xs → length (take n xs) ≡ n
    taken_size [] zero le = refl
    taken_size [] (suc n) le = absurd (omega arith)
    taken_size (x ∷ xs) zero le = refl
    taken_size (x ∷ xs) (suc n) le = ap suc (taken_size xs n (omega arith))

-- nothing, or a last member
abbrev pub Ends : {A : Type 0} → List A → Type 0
Ends {A} xs = (xs ≡ []) ⊎ ((ys : List A) × (y : A) × (xs ≡ ys ++ y ∷ []))

pub ends : {A : Type 0} (xs : List A) → Ends xs
ends [] = inl refl
ends {A} (x ∷ xs) = of_rest (ends xs)
  where
    of_rest : Ends xs → Ends (x ∷ xs)
    of_rest (inl e) = inr ([], x, ap (λ (zs : List A). x ∷ zs) e)
    of_rest (inr h) = inr (x ∷ h.0, h.1, ap (λ (zs : List A). x ∷ zs) h.2)

abbrev Back : List Alias → List Message → List (List ℕ) → List (List ℕ) → Type 0
Back aliases ms queues lists =
    AreKept aliases (take (length ms - 1) ms) (forgotten_by (direction_of aliases) queues (numbered ms (length ms))) (take (length lists - 1) (unanswered_by lists (numbered ms (length ms))))

back_by : (aliases : List Alias) (ms : List Message) (queues lists : List (List ℕ)) → Ends ms → AreKept aliases ms queues lists → answers_on ms (length ms) ≡ []
    → Back aliases ms queues lists
back_by aliases ms queues lists (inl e) kept none =
    let nothing : lists ≡ [] = empty lists (kept.calls ∙ ap (λ (xs : List Message). length xs) e) in
    subst (λ (xs : List Message). Back aliases xs queues lists) (sym e)
    (subst (λ (ls : List (List ℕ)). AreKept aliases [] queues (take (length ls - 1) ls)) (sym nothing)
    (subst (λ (ls : List (List ℕ)). AreKept aliases [] queues ls) nothing (subst (λ (xs : List Message). AreKept aliases xs queues lists) e kept)))
  where
    empty : (ls : List (List ℕ)) → length ls ≡ 0 → ls ≡ []
    empty [] size = refl
    empty (l ∷ ls) size = absurd (omega (arith, size))
back_by aliases ms queues lists (inr h) kept none =
    let ys : List Message = h.0 in
    let m : Message = h.1 in
    let e : ms ≡ ys ++ m ∷ [] = h.2 in
    let whole : AreKept aliases (ys ++ m ∷ []) queues lists = subst (λ (xs : List Message). AreKept aliases xs queues lists) e kept in
    let count : length (ys ++ m ∷ []) ≡ length ys + 1 = length-append ys (m ∷ []) in
    let less : length (ys ++ m ∷ []) - 1 ≡ length ys = omega (arith, count) in
    let lists_less : length lists - 1 ≡ length ys = omega (arith, whole.calls, count) in
    let last : numbered (ys ++ m ∷ []) (length (ys ++ m ∷ [])) ≡ Some m =
    ap (λ (k : ℕ). numbered (ys ++ m ∷ []) k) (let next : length (ys ++ m ∷ []) ≡ suc (length ys) = omega (arith, count) in next) ∙ at_end ys m in
    let free : answers_on (ys ++ m ∷ []) (length ys + 1) ≡ [] =
    sym (ap (λ (k : ℕ). answers_on (ys ++ m ∷ []) k) count) ∙ subst (λ (xs : List Message). answers_on xs (length xs) ≡ []) e none in
    let front : take (length (ys ++ m ∷ []) - 1) (ys ++ m ∷ []) ≡ ys = ap (λ (k : ℕ). take k (ys ++ m ∷ [])) less ∙ take-append_seam ys (m ∷ []) in
    let done : AreKept aliases ys (forgotten_by (direction_of aliases) queues (Some m)) (take (length ys) (unanswered_by lists (Some m))) = back_last aliases ys m queues lists whole free in
    subst (λ (xs : List Message). Back aliases xs queues lists) (sym e)
    (subst (λ (o : Option Message). AreKept aliases (take (length (ys ++ m ∷ []) - 1) (ys ++ m ∷ [])) (forgotten_by (direction_of aliases) queues o) (take (length lists - 1) (unanswered_by lists o))) (sym last)
    (subst (λ (k : ℕ). AreKept aliases (take (length (ys ++ m ∷ []) - 1) (ys ++ m ∷ [])) (forgotten_by (direction_of aliases) queues (Some m)) (take k (unanswered_by lists (Some m)))) (sym lists_less)
    (subst (λ (xs : List Message). AreKept aliases xs (forgotten_by (direction_of aliases) queues (Some m)) (take (length ys) (unanswered_by lists (Some m)))) (sym front) done)))

pub kept_back : (aliases read : List Alias) (ms seen new : List Message) (queues after lists less : List (List ℕ)) (number : ℕ) → AreKept aliases ms queues lists
    → answers_on ms (length ms) ≡ [] → number ≡ length ms → read ≡ aliases → seen ≡ ms
    → after ≡ forgotten_by (direction_of read) queues (numbered seen number) → less ≡ take (length lists - 1) (unanswered_by lists (numbered seen number))
    → new ≡ take (length ms - 1) ms → AreKept aliases new after less
kept_back aliases read ms seen new queues after lists less number kept none is one two three four five =
    let o : numbered seen number ≡ numbered ms (length ms) = ap (λ (xs : List Message). numbered xs number) two ∙ ap (λ (k : ℕ). numbered ms k) is in
    let first : after ≡ forgotten_by (direction_of aliases) queues (numbered ms (length ms)) =
    three ∙ ap (λ (xs : List Alias). forgotten_by (direction_of xs) queues (numbered seen number)) one ∙ ap (λ (x : Option Message). forgotten_by (direction_of aliases) queues x) o in
    let second : less ≡ take (length lists - 1) (unanswered_by lists (numbered ms (length ms))) = four ∙ ap (λ (x : Option Message). take (length lists - 1) (unanswered_by lists x)) o in
    subst (λ (xs : List Message). AreKept aliases xs after less) (sym five)
    (subst (λ (qs : List (List ℕ)). AreKept aliases (take (length ms - 1) ms) qs less) (sym first)
    (subst (λ (ls : List (List ℕ)). AreKept aliases (take (length ms - 1) ms) (forgotten_by (direction_of aliases) queues (numbered ms (length ms))) ls) (sym second)
    (back_by aliases ms queues lists (ends ms) kept none)))
