-- The inboxes, where a message is sent, comes, is lost or is taken back.
use Rattle.std.proofs.Common.{◌≡◌, ℕ, zero, suc, ◌+◌, ◌-◌, ◌<◌, inl, inr, Bool, true, false, ◌&&◌, List, [], ◌∷◌, ◌++◌, Option, Some, None, Result, Ok, Err, OnOk, OnErr, length, get_or, take, refl, ap, sym, subst, ◌∙◌, cond, ◌==◌, arith, append-nil, length-append}
use Rattle.std.proofs.lemmas.Bool.Decides.{nat_tests}
use Rattle.std.proofs.Math.Seq.{take-append_seam}
use Rattle.std.specs.List.{slice_get}
use Rattle.shard_calls.specs.declared.answer.Answer.{Answer}
use Rattle.shard_calls.specs.declared.post.Content.{Content}
use Rattle.shard_calls.specs.declared.post.Content.TheVariants as contents
use Rattle.shard_calls.specs.declared.post.Message.{Message}
use Rattle.shard_calls.specs.World.{changed, changed_at, numbered}
use Rattle.shard_calls.proofs.ListLemmas.{at_end}
use Rattle.post.specs.Directions.{receiver}
use Rattle.post.specs.Waiting.{is_on_its_way, waits_for, waiting_for}
use Rattle.post.specs.Posted.{sent_at, with_answer}
use Rattle.post.specs.Kept.{with_number, without_last, taken_out, left_by, forgotten_by, HoldSame, HasJoined, AreInboxes}
use Rattle.post.proofs.ChangeLemmas.{changed_far, none_far, nothing_changed, changed_member, next_test}
use Rattle.post.proofs.NumberLemmas.{numbers_push, numbers_stay}
use Rattle.post.proofs.KeptLemmas.{joined, and_true, and_false, the_member, waits_same, waits_not, one_left}
use Rattle.post.proofs.BackLemmas.{Ends, ends, popped}

-- ---- inboxes of which one changes

none_read : (b : Bool) (ns : List ℕ) → ns ≡ [] → [] ≡ cond b ns []
none_read true ns e = sym e
none_read false ns e = refl

-- a change that leaves an empty one, of which there may be no more
read_changed : (xs : List (List ℕ)) (r k : ℕ) (f : List ℕ → List ℕ) → f [] ≡ []
    → get_or (changed xs r f) k [] ≡ cond (r == k) (f (get_or xs k [])) (get_or xs k [])
read_changed [] r zero f e = none_read (r == zero) (f []) e
read_changed [] r (suc k) f e = none_read (r == suc k) (f []) e
read_changed (x ∷ xs) zero zero f e = refl
read_changed (x ∷ xs) zero (suc k) f e =
    nothing_changed zero (suc k) (f (get_or xs k [])) (get_or xs k []) (let apart : (zero == suc k) ≡ false = grind (arith, nat_tests) in apart)
read_changed (x ∷ xs) (suc r) zero f e = nothing_changed (suc r) zero (f x) x (let apart : (suc r == zero) ≡ false = grind (arith, nat_tests) in apart)
read_changed (x ∷ xs) (suc r) (suc k) f e = read_changed xs r k f e ∙ next_test r k (f (get_or xs k [])) (get_or xs k [])

-- a number joins one, after there was made room for it
pub has_joined : (old room new : List (List ℕ)) (r n : ℕ) → HoldSame old room → r < length room → new ≡ changed room r (with_number n) → HasJoined old new r n
has_joined old room new r n same short e k =
    ap (λ (xs : List (List ℕ)). get_or xs k []) e
    ∙ changed_member room r k (with_number n) [] short
    ∙ ap (λ (ns : List ℕ). cond (r == k) (with_number n ns) ns) (same k)

pub nobody_waits : AreInboxes [] []
nobody_waits zero = refl
nobody_waits (suc k) = refl

-- one more, which is empty
pub one_empty : (old xs new : List (List ℕ)) → HoldSame old xs → new ≡ xs ++ [] ∷ [] → HoldSame old new
one_empty old xs new same e k = ap (λ (ys : List (List ℕ)). get_or ys k []) e ∙ empty_end xs k ∙ same k where
  empty_end : (ys : List (List ℕ)) (k : ℕ) → get_or (ys ++ [] ∷ []) k [] ≡ get_or ys k []
  empty_end [] zero = refl
  empty_end [] (suc k) = refl
  empty_end (y ∷ ys) zero = refl
  empty_end (y ∷ ys) (suc k) = empty_end ys k

-- ---- a message is sent, or finds no room

pub way_sent : {N E : Type 0} (r : Result N E) (ms new : List Message) (boxes after : List (List ℕ)) (c : Content) (now : ℕ)
    → OnOk r (new ≡ ms ++ sent_at now c ∷ []) → OnOk r (HasJoined boxes after (receiver c) (length ms + 1)) → OnErr r (new ≡ ms) → OnErr r (HoldSame boxes after)
    → AreInboxes ms boxes → AreInboxes new after
way_sent (Ok n) ms new boxes after c now one two no_one no_two kept k =
    two k
    ∙ joined (receiver c == k) (length ms + 1) (get_or boxes k []) (waiting_for ms k) (kept k)
    ∙ sym (numbers_push 1 (length ms + 1) (waits_for k) ms (sent_at now c) (omega arith)
    ∙ ap (λ (t : Bool). waiting_for ms k ++ cond t ((length ms + 1) ∷ []) []) (and_true (receiver c == k)))
    ∙ ap (λ (xs : List Message). waiting_for xs k) (sym one)
way_sent (Err e) ms new boxes after c now one two no_one no_two kept k = no_two k ∙ kept k ∙ ap (λ (xs : List Message). waiting_for xs k) (sym no_one)

-- ---- a message waits as it did

-- an answer in the place of another is for the same command
pub receiver_amended : (x : Answer) (c : Content) → receiver (with_answer x c) ≡ receiver c
receiver_amended x (contents.Asks command term to call) = refl
receiver_amended x (contents.Answers command asked from says) = refl
receiver_amended x (contents.Feeds from to term after index e) = refl
receiver_amended x (contents.Acks from to term index) = refl

same_waiting : (ms : List Message) (boxes : List (List ℕ)) (k : ℕ) (f : Message → Message) → ((m : Message) → receiver (f m).content ≡ receiver m.content)
    → ((m : Message) → is_on_its_way (f m) ≡ is_on_its_way m) → AreInboxes ms boxes → AreInboxes (changed_at ms k f) boxes
same_waiting ms boxes zero f keeps way kept i = kept i
same_waiting ms boxes (suc j) f keeps way kept i = kept i ∙ sym (numbers_stay 1 (waits_for i) f ms j (λ m here. waits_same receiver i f m (keeps m) (way m)))

pub way_stays : (ms new : List Message) (boxes : List (List ℕ)) (k : ℕ) (f : Message → Message) → ((m : Message) → receiver (f m).content ≡ receiver m.content)
    → ((m : Message) → is_on_its_way (f m) ≡ is_on_its_way m) → new ≡ changed_at ms k f → AreInboxes ms boxes → AreInboxes new boxes
way_stays ms new boxes k f keeps way e kept = subst (λ (xs : List Message). AreInboxes xs boxes) (sym e) (same_waiting ms boxes k f keeps way kept)

-- ---- a message waits no more

left_one : (ms : List Message) (boxes : List (List ℕ)) (j : ℕ) (f : Message → Message) (m : Message) (t : Bool) → slice_get ms j ≡ Some m → is_on_its_way m ≡ t
    → ((x : Message) → is_on_its_way (f x) ≡ false) → AreInboxes ms boxes
    → AreInboxes (changed ms j f) (cond t (changed boxes (receiver m.content) (taken_out (suc j))) boxes)
left_one ms boxes j f m true at way gone kept k =
    read_changed boxes (receiver m.content) k (taken_out (suc j)) refl
    ∙ one_left receiver ms (get_or boxes k []) j k f m (receiver m.content == k) at way gone refl (kept k)
left_one ms boxes j f m false at way gone kept k =
    kept k
    ∙ sym (numbers_stay 1 (waits_for k) f ms j (λ x here.
    waits_not receiver k (f x) (gone x) ∙ sym (the_member ms j m x (λ y. waits_for k y ≡ false) at here (waits_not receiver k m way))))

left_by_member : (ms : List Message) (boxes : List (List ℕ)) (j : ℕ) (f : Message → Message) (o : Option Message) → slice_get ms j ≡ o
    → ((x : Message) → is_on_its_way (f x) ≡ false) → AreInboxes ms boxes → AreInboxes (changed ms j f) (left_by receiver boxes (suc j) o)
left_by_member ms boxes j f None at gone kept = subst (λ (xs : List Message). AreInboxes xs boxes) (changed_far ms j f (none_far ms j at)) kept
left_by_member ms boxes j f (Some m) at gone kept = left_one ms boxes j f m (is_on_its_way m) at refl gone kept

left_at : (ms : List Message) (boxes : List (List ℕ)) (k : ℕ) (f : Message → Message) → ((x : Message) → is_on_its_way (f x) ≡ false)
    → AreInboxes ms boxes → AreInboxes (changed_at ms k f) (left_by receiver boxes k (numbered ms k))
left_at ms boxes zero f gone kept = kept
left_at ms boxes (suc j) f gone kept = left_by_member ms boxes j f (slice_get ms j) refl gone kept

pub way_left : (ms seen new : List Message) (boxes after : List (List ℕ)) (k : ℕ) (f : Message → Message) → ((x : Message) → is_on_its_way (f x) ≡ false)
    → seen ≡ ms → after ≡ left_by receiver boxes k (numbered seen k) → new ≡ changed_at ms k f → AreInboxes ms boxes → AreInboxes new after
way_left ms seen new boxes after k f gone one left e kept =
    let is : after ≡ left_by receiver boxes k (numbered ms k) = left ∙ ap (λ (xs : List Message). left_by receiver boxes k (numbered xs k)) one in
    subst (λ (xs : List Message). AreInboxes xs after) (sym e)
    (subst (λ (bs : List (List ℕ)). AreInboxes (changed_at ms k f) bs) (sym is) (left_at ms boxes k f gone kept))

-- ---- the last message is taken back

back_one : (ys : List Message) (m : Message) (boxes : List (List ℕ)) (t : Bool) → is_on_its_way m ≡ t → AreInboxes (ys ++ m ∷ []) boxes
    → AreInboxes ys (cond t (changed boxes (receiver m.content) without_last) boxes)
back_one ys m boxes true way kept k =
    let pushed : get_or boxes k [] ≡ waiting_for ys k ++ cond (receiver m.content == k) ((length ys + 1) ∷ []) [] =
    kept k ∙ numbers_push 1 (length ys + 1) (waits_for k) ys m (omega arith)
    ∙ ap (λ (t : Bool). waiting_for ys k ++ cond t ((length ys + 1) ∷ []) [])
    (ap (λ (b : Bool). (receiver m.content == k) && b) way ∙ and_true (receiver m.content == k)) in
    read_changed boxes (receiver m.content) k without_last refl
    ∙ popped (receiver m.content == k) (length ys + 1) (get_or boxes k []) (waiting_for ys k) pushed
back_one ys m boxes false way kept k =
    kept k ∙ numbers_push 1 (length ys + 1) (waits_for k) ys m (omega arith)
    ∙ ap (λ (t : Bool). waiting_for ys k ++ cond t ((length ys + 1) ∷ []) [])
    (ap (λ (b : Bool). (receiver m.content == k) && b) way ∙ and_false (receiver m.content == k))
    ∙ append-nil (waiting_for ys k)

abbrev Back : List Message → List (List ℕ) → Type 0
Back ms boxes = AreInboxes (take (length ms - 1) ms) (forgotten_by receiver boxes (numbered ms (length ms)))

back_by : (ms : List Message) (boxes : List (List ℕ)) → Ends ms → AreInboxes ms boxes → Back ms boxes
back_by ms boxes (inl e) kept = subst (λ (xs : List Message). Back xs boxes) (sym e) (subst (λ (xs : List Message). AreInboxes xs boxes) e kept)
back_by ms boxes (inr h) kept =
    let ys : List Message = h.0 in
    let m : Message = h.1 in
    let e : ms ≡ ys ++ m ∷ [] = h.2 in
    let count : length (ys ++ m ∷ []) ≡ length ys + 1 = length-append ys (m ∷ []) in
    let less : length (ys ++ m ∷ []) - 1 ≡ length ys = omega (arith, count) in
    let last : numbered (ys ++ m ∷ []) (length (ys ++ m ∷ [])) ≡ Some m =
    ap (λ (k : ℕ). numbered (ys ++ m ∷ []) k) (let next : length (ys ++ m ∷ []) ≡ suc (length ys) = omega (arith, count) in next) ∙ at_end ys m in
    let front : take (length (ys ++ m ∷ []) - 1) (ys ++ m ∷ []) ≡ ys = ap (λ (k : ℕ). take k (ys ++ m ∷ [])) less ∙ take-append_seam ys (m ∷ []) in
    subst (λ (xs : List Message). Back xs boxes) (sym e)
    (subst (λ (o : Option Message). AreInboxes (take (length (ys ++ m ∷ []) - 1) (ys ++ m ∷ [])) (forgotten_by receiver boxes o)) (sym last)
    (subst (λ (xs : List Message). AreInboxes xs (forgotten_by receiver boxes (Some m))) (sym front)
    (back_one ys m boxes (is_on_its_way m) refl (subst (λ (xs : List Message). AreInboxes xs boxes) e kept))))

pub way_back : (ms seen new : List Message) (boxes after : List (List ℕ)) (number : ℕ) → number ≡ length ms → seen ≡ ms
    → after ≡ forgotten_by receiver boxes (numbered seen number) → new ≡ take (length ms - 1) ms → AreInboxes ms boxes → AreInboxes new after
way_back ms seen new boxes after number is one two three kept =
    let o : numbered seen number ≡ numbered ms (length ms) = ap (λ (xs : List Message). numbered xs number) one ∙ ap (λ (k : ℕ). numbered ms k) is in
    let left : after ≡ forgotten_by receiver boxes (numbered ms (length ms)) = two ∙ ap (λ (x : Option Message). forgotten_by receiver boxes x) o in
    subst (λ (xs : List Message). AreInboxes xs after) (sym three)
    (subst (λ (bs : List (List ℕ)). AreInboxes (take (length ms - 1) ms) bs) (sym left) (back_by ms boxes (ends ms) kept))
