-- That who gives up a call names the first reason that holds.
use Rattle.std.proofs.Common.{◌≡◌, ◌≤◌, ℕ, zero, suc, ◌+◌, Bool, true, false, not, ◌&&◌, ◌||◌, ◌==◌, nat_le, refl, ap, sym, subst, ◌∙◌, arith, cond, List, [], ◌∷◌, Option, Some, None, is_none, is_some}
use Rattle.std.proofs.lemmas.Bool.{false≢true}
use Rattle.std.proofs.lemmas.Bool.Decides.{nat_tests}
use Rattle.std.specs.List.{slice_get, list_all, filter, Contains}
use Rattle.shard_base.specs.Options.{◌>>=◌, only_if}
use Rattle.shard_names.specs.declared.alias.Alias.{Alias}
use Rattle.shard_names.proofs.TabletLemmas.{both_left, both_right, alias_eq_is}
use Rattle.shard_calls.specs.declared.answer.Answer.{Answer}
use Rattle.shard_calls.specs.declared.call.Call.{Call}
use Rattle.shard_calls.specs.declared.command.Command.{Command}
use Rattle.shard_calls.specs.declared.command.Command.TheVariants as commands
use Rattle.shard_calls.specs.declared.event.Event.TheVariants as events
use Rattle.shard_calls.specs.declared.event.Link.{Link}
use Rattle.shard_calls.specs.declared.event.Reply.TheVariants as replies
use Rattle.shard_calls.specs.declared.event.Side.{Side}
use Rattle.shard_calls.specs.declared.event.Side.TheVariants as sides
use Rattle.shard_calls.specs.declared.post.Content.{Content}
use Rattle.shard_calls.specs.declared.post.Content.TheVariants as contents
use Rattle.shard_calls.specs.declared.post.Message.{Message}
use Rattle.shard_calls.specs.declared.stand.Stand.{Stand}
use Rattle.shard_calls.specs.declared.state.CommandState.{CommandState}
use Rattle.shard_calls.specs.declared.why.Why.{Why}
use Rattle.shard_calls.specs.declared.why.Why.TheVariants as whys
use Rattle.shard_calls.specs.Stands.{is_down}
use Rattle.shard_calls.specs.World.{World, opening, numbered, open_command}
use Rattle.shard_calls.specs.Commands.{timeout_of}
use Rattle.shard_calls.specs.Messages.{side_eq, link_eq, is_cut, link_to, may_arrive, answers_call, answers_to, is_unanswered, is_call_lost, may_time_out, is_overdue, why_unanswered, why_by, why_given_up}
use Rattle.shard_calls.specs.Deliveries.{why_reply}
use Rattle.shard_calls.specs.Promotions.{world_at}
use Rattle.shard_calls.specs.RunLaws.{OfEveryRun}
use Rattle.shard_calls.proofs.ListLemmas.{one_passes}
use Rattle.shard_calls.proofs.EntryLemmas.{or_left, or_right}
use Rattle.shard_calls.proofs.ActLemmas.{if_open_is}
use Rattle.shard_calls.proofs.RunLemmas.{step_along}
use Rattle.shard_laws.specs.Network.{IsCut, There, Back, IsCutOff, IsDown, EachAnswer, IsLost, Going, Coming, patience, HasOwnLimit, ForPosition, ForRow, Asked, IsFirstOf, IsGivenUp, GiveUpNamesTheFirst}
use Rattle.shard_laws.proofs.NetworkLemmas.{cut_found}
use Rattle.shard_laws.proofs.TightLemmas.{down_stand}

-- ---- links

side_is : (x y : Side) → side_eq x y ≡ true → x ≡ y
side_is sides.Control sides.Control h = refl
side_is sides.Control (sides.Tablet a) h = absurd (false≢true h)
side_is (sides.Tablet a) sides.Control h = absurd (false≢true h)
side_is (sides.Tablet a) (sides.Tablet b) h = ap (λ (c : Alias). sides.Tablet c) (alias_eq_is a b h)

link_is : (l : Link) (x y : Side) → x ≡ l.x → y ≡ l.y → (let k : Link = record { x = x; y = y } in k) ≡ l
link_is l x y p q = ap (λ (s : Side). let k : Link = record { x = s; y = y } in k) p ∙ ap (λ (s : Side). let k : Link = record { x = l.x; y = s } in k) q

either : (P : Type 0) (a b : Bool) → (a || b) ≡ true → (a ≡ true → P) → (b ≡ true → P) → P
either P true b h one other = one refl
either P false b h one other = other h

-- a cut link that the machine finds
pub found_cut : (cuts : List Link) (x y : Side) → is_cut cuts (record { x = x; y = y }) ≡ true → IsCut cuts x y
found_cut cuts x y h =
    let r = one_passes (link_eq (record { x = x; y = y })) cuts h in
    let l : Link = r.0 in
    either (IsCut cuts x y) (side_eq x l.x && side_eq y l.y) (side_eq x l.y && side_eq y l.x) r.2
    (λ same. There (subst (λ (k : Link). Contains cuts k)
    (sym (link_is l x y (side_is x l.x (both_left (side_eq x l.x) (side_eq y l.y) same)) (side_is y l.y (both_right (side_eq x l.x) (side_eq y l.y) same)))) r.1))
    (λ turned. Back (subst (λ (k : Link). Contains cuts k)
    (sym (link_is l y x (side_is y l.x (both_right (side_eq x l.y) (side_eq y l.x) turned)) (side_is x l.y (both_left (side_eq x l.y) (side_eq y l.x) turned)))) r.1))

-- ---- the answers to a call

and_rest : (P : Type 0) (a b : Bool) → (a && b) ≡ true → (a ≡ true → b ≡ true → P) → P
and_rest P a b h k = k (both_left a b h) (both_right a b h)

-- what passes in the filtered list passes in the whole one
filtered_all : (p q : Message → Bool) (xs : List Message) (n : ℕ) (m : Message) → list_all p (filter q xs) ≡ true → slice_get xs n ≡ Some m → q m ≡ true → p m ≡ true
filtered_all p q [] n m all at is = absurd (let none : None ≡ Some m = at in cc)
filtered_all p q (x ∷ xs) zero m all at is =
    let same : x ≡ m = (let some : Some x ≡ Some m = at in cc) in
    let kept : q x ≡ true = ap q same ∙ is in
    let all_here : (p x && list_all p (filter q xs)) ≡ true = subst (λ (b : Bool). list_all p (cond b (x ∷ filter q xs) (filter q xs)) ≡ true) kept all in
    ap p (sym same) ∙ both_left (p x) (list_all p (filter q xs)) all_here
filtered_all p q (x ∷ xs) (suc n) m all at is = filtered_all p q xs n m (rest (q x) all) at is
  where
    rest : (b : Bool) → list_all p (cond b (x ∷ filter q xs) (filter q xs)) ≡ true → list_all p (filter q xs) ≡ true
    rest true h = both_right (p x) (list_all p (filter q xs)) h
    rest false h = h

all_filtered : (p q : Message → Bool) (xs : List Message) → ((n : ℕ) (m : Message) → slice_get xs n ≡ Some m → q m ≡ true → p m ≡ true) → list_all p (filter q xs) ≡ true
all_filtered p q [] each = refl
all_filtered p q (x ∷ xs) each = of_test (q x) refl (all_filtered p q xs (λ n m at is. each (suc n) m at is))
  where
    of_test : (b : Bool) → q x ≡ b → list_all p (filter q xs) ≡ true → list_all p (cond b (x ∷ filter q xs) (filter q xs)) ≡ true
    of_test true is later = rw (each 0 x refl is, later) refl
    of_test false is later = later

answers_this : (c k : ℕ) (a : Alias) (says : Answer) (content : Content) → content ≡ contents.Answers c k a says → answers_call k content ≡ true
answers_this c k a says content is = subst (λ (x : Content). answers_call k x ≡ true) (sym is) (grind (arith, nat_tests))

-- every answer to the call passes
each_answer : (w : World) (k : ℕ) (p : Message → Bool) → list_all p (answers_to w k) ≡ true → EachAnswer w.post k (λ m. p m ≡ true)
each_answer w k p all zero c m a says at is = absurd (let none : None ≡ Some m = at in cc)
each_answer w k p all (suc n) c m a says at is = filtered_all p (λ x. answers_call k x.content) w.post n m all at (answers_this c k a says m.content is)

answer_is : (k : ℕ) (content : Content) → answers_call k content ≡ true → (c : ℕ) × (a : Alias) × (says : Answer) × (content ≡ contents.Answers c k a says)
answer_is k (contents.Asks c t a call) h = absurd (false≢true h)
answer_is k (contents.Answers c asked a says) h =
    let same : asked ≡ k = grind (arith, nat_tests) in (c, a, says, ap (λ (n : ℕ). contents.Answers c n a says) same)
answer_is k (contents.Feeds from to term before index e) h = absurd (false≢true h)
answer_is k (contents.Acks from to term index) h = absurd (false≢true h)

answers_all : (w : World) (k : ℕ) (p : Message → Bool) → EachAnswer w.post k (λ m. p m ≡ true) → list_all p (answers_to w k) ≡ true
answers_all w k p each =
    all_filtered p (λ x. answers_call k x.content) w.post (λ n m at is. let r = answer_is k m.content is in each (suc n) r.0 m r.1 r.2 at r.3)

-- ---- the four reasons

not_arrived : (o : Option ℕ) (b : Bool) → (is_none o && b) ≡ true → o ≡ None
not_arrived None b h = refl
not_arrived (Some n) b h = absurd (false≢true h)

lost_is : (w : World) (k : ℕ) (m : Message) → is_call_lost w k m ≡ true → IsLost w.post k m
lost_is w k m h =
    either (IsLost w.post k m) m.lost (is_some m.arrived && list_all (λ n. n.lost) (answers_to w k)) h (λ going. Going going)
    (λ coming. arrived m.arrived refl (both_left (is_some m.arrived) (list_all (λ n. n.lost) (answers_to w k)) coming)
    (each_answer w k (λ n. n.lost) (both_right (is_some m.arrived) (list_all (λ n. n.lost) (answers_to w k)) coming)))
  where
    arrived : (o : Option ℕ) → m.arrived ≡ o → is_some o ≡ true → EachAnswer w.post k (λ n. n.lost ≡ true) → IsLost w.post k m
    arrived None is some each = absurd (false≢true some)
    arrived (Some moment) is some each = Coming moment is each

is_lost : (w : World) (k : ℕ) (m : Message) → IsLost w.post k m → is_call_lost w k m ≡ true
is_lost w k m (Going going) = or_left m.lost (is_some m.arrived && list_all (λ n. n.lost) (answers_to w k)) going
is_lost w k m (Coming moment at each) =
    or_right m.lost (is_some m.arrived && list_all (λ n. n.lost) (answers_to w k))
    (rw (at, answers_all w k (λ n. n.lost) each) refl)

patience_is : (command : Command) → patience command ≡ timeout_of command
patience_is (commands.Planned shard new_primary avoid expected None allow_cross_cell) = refl
patience_is (commands.Planned shard new_primary avoid expected (Some ms) allow_cross_cell) = refl
patience_is (commands.Emergency shard new_primary ignored expected None prevent_cross_cell) = refl
patience_is (commands.Emergency shard new_primary ignored expected (Some ms) prevent_cross_cell) = refl
patience_is (commands.External a) = refl
patience_is commands.Vtorc = refl
patience_is (commands.Write to) = refl
patience_is (commands.Show a) = refl
patience_is (commands.GetShard shard) = refl
patience_is (commands.GetTablets shard) = refl

no_limit : (call : Call) → may_time_out call ≡ true → HasOwnLimit call → ⊥
no_limit _ h (ForPosition p until) = false≢true h
no_limit _ h (ForRow until) = false≢true h

-- the time is over
over : (w : World) (c k : ℕ) (asks : Asked w c k) (why : Why) (b : Bool) → is_overdue w asks.command.command asks.message asks.call ≡ b
    → only_if b (whys.TimedOut asks.message.sent w.clock) ≡ Some why → (IsDown w asks.tablet → ⊥) → (IsCutOff w asks.tablet → ⊥) → (IsLost w.post k asks.message → ⊥)
    → IsFirstOf w c k asks why
over w c k asks why false is h up whole not_lost = absurd (let none : None ≡ Some why = h in cc)
over w c k asks why true is h up whole not_lost =
    let same : whys.TimedOut asks.message.sent w.clock ≡ why = (let some : Some (whys.TimedOut asks.message.sent w.clock) ≡ Some why = h in cc) in
    let late : nat_le (asks.message.sent + timeout_of asks.command.command) w.clock ≡ true =
    both_right (may_time_out asks.call) (nat_le (asks.message.sent + timeout_of asks.command.command) w.clock) is in
    let due : asks.message.sent + timeout_of asks.command.command ≤ w.clock = grind (arith, nat_tests) in
    subst (λ (x : Why). IsFirstOf w c k asks x) same (
      up,
      whole,
      not_lost,
      no_limit asks.call (both_left (may_time_out asks.call) (nat_le (asks.message.sent + timeout_of asks.command.command) w.clock) is),
      refl,
      refl,
      subst (λ (ms : ℕ). asks.message.sent + ms ≤ w.clock) (sym (patience_is asks.command.command)) due,
    )

first_of : (w : World) (c k : ℕ) (asks : Asked w c k) (why : Why) (down cut lost : Bool) → is_down (w.tablets asks.tablet).stand ≡ down
    → is_cut w.cuts (link_to asks.tablet) ≡ cut → is_call_lost w k asks.message ≡ lost
    → cond down (Some whys.Down) (cond cut (Some whys.Cut) (cond lost (Some whys.Lost) (only_if (is_overdue w asks.command.command asks.message asks.call) (whys.TimedOut asks.message.sent w.clock))))
    ≡ Some why → IsFirstOf w c k asks why
first_of w c k asks why true cut lost is_d is_c is_l h =
    let same : whys.Down ≡ why = (let some : Some whys.Down ≡ Some why = h in cc) in
    subst (λ (x : Why). IsFirstOf w c k asks x) same (down_stand (w.tablets asks.tablet).stand is_d)
first_of w c k asks why false true lost is_d is_c is_l h =
    let same : whys.Cut ≡ why = (let some : Some whys.Cut ≡ Some why = h in cc) in
    subst (λ (x : Why). IsFirstOf w c k asks x) same
    (λ down. false≢true (sym is_d ∙ ap (λ (x : Stand). is_down x) down), found_cut w.cuts sides.Control (sides.Tablet asks.tablet) is_c)
first_of w c k asks why false false true is_d is_c is_l h =
    let same : whys.Lost ≡ why = (let some : Some whys.Lost ≡ Some why = h in cc) in
    subst (λ (x : Why). IsFirstOf w c k asks x) same (
      λ down. false≢true (sym is_d ∙ ap (λ (x : Stand). is_down x) down),
      λ cut. false≢true (sym is_c ∙ cut_found w.cuts sides.Control (sides.Tablet asks.tablet) cut),
      lost_is w k asks.message is_l,
    )
first_of w c k asks why false false false is_d is_c is_l h =
    over w c k asks why (is_overdue w asks.command.command asks.message asks.call) refl h
    (λ down. false≢true (sym is_d ∙ ap (λ (x : Stand). is_down x) down)) (λ cut. false≢true (sym is_c ∙ cut_found w.cuts sides.Control (sides.Tablet asks.tablet) cut))
    (λ lost. false≢true (sym is_l ∙ is_lost w k asks.message lost))

-- ---- the call

none_came : (w : World) (k : ℕ) → is_unanswered w k ≡ true → EachAnswer w.post k (λ m. m.arrived ≡ None)
none_came w k all n c m a says at is = not_arrived m.arrived (not (may_arrive w m)) (each_answer w k (λ x. is_none x.arrived && not (may_arrive w x)) all n c m a says at is)

same_number : (m n : ℕ) → (m == n) ≡ true → m ≡ n
same_number m n h = grind (arith, nat_tests)

asked_up : (w : World) (c k d t : ℕ) (s : CommandState) (m : Message) (a : Alias) (call : Call) (why : Why) (b : Bool) → numbered w.commands c ≡ Some s
    → numbered w.post k ≡ Some m → m.content ≡ contents.Asks d t a call → ((d == c) && is_unanswered w k) ≡ b
    → (only_if b m >>= (λ n. why_unanswered w k s.command n a call)) ≡ Some why → IsGivenUp w c k why
asked_up w c k d t s m a call why false given at carries is h = absurd (let none : None ≡ Some why = h in cc)
asked_up w c k d t s m a call why true given at carries is h =
    let own : d ≡ c = same_number d c (both_left (d == c) (is_unanswered w k) is) in
    let asks : Asked w c k = record {
      message = m;
      term = t;
      tablet = a;
      call = call;
      command = s;
      at = at;
      carries = carries ∙ ap (λ (n : ℕ). contents.Asks n t a call) own;
      given = given;
    } in
    record {
      asked = asks;
      unanswered = none_came w k (both_right (d == c) (is_unanswered w k) is);
      first = first_of w c k asks why (is_down (w.tablets a).stand) (is_cut w.cuts (link_to a)) (is_call_lost w k m) refl refl refl h;
    }

content_up : (w : World) (c k : ℕ) (s : CommandState) (m : Message) (content : Content) (why : Why) → numbered w.commands c ≡ Some s → numbered w.post k ≡ Some m
    → m.content ≡ content → why_by w c k s m content ≡ Some why → IsGivenUp w c k why
content_up w c k s m (contents.Asks d t a call) why given at carries h = asked_up w c k d t s m a call why ((d == c) && is_unanswered w k) given at carries refl h
content_up w c k s m (contents.Answers d asked a says) why given at carries h = absurd (let none : None ≡ Some why = h in cc)
content_up w c k s m (contents.Feeds from to term before index e) why given at carries h = absurd (let none : None ≡ Some why = h in cc)
content_up w c k s m (contents.Acks from to term index) why given at carries h = absurd (let none : None ≡ Some why = h in cc)

given_up : (w : World) (c k : ℕ) (o : Option CommandState) (p : Option Message) (why : Why) → open_command w c ≡ o → numbered w.post k ≡ p
    → (o >>= (λ s. p >>= (λ m. why_by w c k s m m.content))) ≡ Some why → IsGivenUp w c k why
given_up w c k None p why is at h = absurd (let none : None ≡ Some why = h in cc)
given_up w c k (Some s) None why is at h = absurd (let none : None ≡ Some why = h in cc)
given_up w c k (Some s) (Some m) why is at h = content_up w c k s m m.content why (if_open_is (numbered w.commands c) s is) at refl h

reply_is : (o : Option Why) (why : Why) → replies.GaveUp why ≡ why_reply o → o ≡ Some why
reply_is None why h = absurd (let wrong : replies.GaveUp why ≡ replies.Ok = h in cc)
reply_is (Some x) why h = let same : why ≡ x = (let both : replies.GaveUp why ≡ replies.GaveUp x = h in cc) in ap (λ (y : Why). Some y) (sym same)

pub give_up_names_the_first : OfEveryRun GiveUpNamesTheFirst
give_up_names_the_first config ss run i c k why here =
    let w : World = world_at config ss i in
    let step = step_along config (opening config) ss i (record { event = events.GiveUp c k; reply = replies.GaveUp why }) run here in
    given_up w c k (open_command w c) (numbered w.post k) why refl refl (reply_is (why_given_up w c k) why step.answered)
