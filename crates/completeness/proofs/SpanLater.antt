-- What a command did, as it is seen later: the same deeds, of whose calls more may be known.
use Rattle.std.proofs.Common.{◌≡◌, refl, ap, sym, subst, ◌∙◌, arith, ℕ, Bool, true, false, ◌==◌, ◌||◌, List, [], ◌∷◌, Option, Some, unwrap_or}
use Rattle.std.proofs.lemmas.Bool.{false≢true}
use Rattle.std.proofs.lemmas.Bool.Decides.{nat_tests}
use Rattle.std.specs.List.{list_any, filter_map, cons_option}
use Rattle.shard_base.specs.Options.{◌>>=◌}
use Rattle.shard_calls.specs.declared.post.Content.{Content}
use Rattle.shard_calls.specs.declared.post.Content.TheVariants as contents
use Rattle.shard_calls.specs.declared.post.Message.{Message}
use Rattle.shard_calls.specs.declared.post.Settled.{Settled}
use Rattle.shard_calls.specs.declared.span.Asked.{Asked}
use Rattle.shard_calls.specs.declared.span.Deed.{Deed}
use Rattle.shard_calls.specs.declared.span.Deed.TheVariants as deeds
use Rattle.shard_calls.specs.declared.state.Act.{Act}
use Rattle.shard_calls.specs.declared.state.Act.TheVariants as acts
use Rattle.shard_calls.specs.Kinds.{kind_of}
use Rattle.shard_calls.specs.Outcomes.{outcome_of, settled_in}
use Rattle.shard_calls.specs.Spans.{asked_by, deed_if_asked, deed_of, written_in}
use Rattle.shard_calls.specs.World.{numbered}
use Rattle.shard_calls.proofs.SettleLemmas.{Stay}
use Rattle.shard_laws.proofs.StatusLemmas.{sends_so}
use Rattle.completeness.proofs.FirmLemmas.{Firm, outcome_stays}
use Rattle.completeness.proofs.LaterLemmas.{Later, Nothing, More, Itself, Comes}

-- each call that these acts sent is in the post
abbrev pub AllPosted : List Message → List Act → Type 0
AllPosted post done = (k : ℕ) → list_any (sends_so k) done ≡ true → (m : Message) × (numbered post k ≡ Some m)

now : (b c : Bool) → b ≡ true → (b || c) ≡ true
now true c h = refl
now false c h = absurd (false≢true h)

more : (b c : Bool) → c ≡ true → (b || c) ≡ true
more true c h = refl
more false c h = h

itself : (k : ℕ) → (k == k) ≡ true
itself k = grind (arith, nat_tests)

-- one deed more in front, the same or of which more is known
front : (d : Deed) (ds es : List Deed) → Later ds es → Later (d ∷ ds) (d ∷ es)
front d ds es rest = More d d ds es (Itself d) rest

-- the deed of a call
call_later : (old new : List Message) (k : ℕ) (m v : Message) (content : Content) (ds es : List Deed) → Stay old new
    → ((x : Settled) → m.settled ≡ Some x → v.settled ≡ Some x) → Later ds es
    → Later (cons_option (deed_if_asked (asked_by old k m content)) ds) (cons_option (deed_if_asked (asked_by new k v content)) es)
call_later old new k m v (contents.Asks c t to call) ds es stay firm rest =
    let x : Asked = record { alias = to; kind = kind_of call; message = k; term = t; sent = m.sent; arrived = unwrap_or m.arrived 0; outcome = outcome_of old m } in
    let y : Asked = record { alias = to; kind = kind_of call; message = k; term = t; sent = v.sent; arrived = unwrap_or v.arrived 0; outcome = outcome_of new v } in
    More (deeds.Asked x) (deeds.Asked y) ds es (Comes x y (record { alias = refl; kind = refl; message = refl; outcome = outcome_stays old new m v stay firm })) rest
call_later old new k m v (contents.Answers c a from says) ds es stay firm rest = rest
call_later old new k m v (contents.Feeds from to term after index e) ds es stay firm rest = rest
call_later old new k m v (contents.Acks from to term index) ds es stay firm rest = rest

sent_later : (old new : List Message) (k : ℕ) (m : Message) (ds es : List Deed) → Stay old new → Firm old new → numbered old k ≡ Some m → Later ds es
    → Later (cons_option (deed_if_asked (numbered old k >>= (λ x. asked_by old k x x.content))) ds)
    (cons_option (deed_if_asked (numbered new k >>= (λ x. asked_by new k x x.content))) es)
sent_later old new k m ds es stay firm is rest =
    let there = stay k m is in
    let v : Message = there.0 in
    let settled : (x : Settled) → m.settled ≡ Some x → v.settled ≡ Some x = λ x h.
    ap (λ (o : Option Message). settled_in o) (sym there.1) ∙ firm k x (ap (λ (o : Option Message). settled_in o) is ∙ h) in
    subst (λ (o : Option Message). Later (cons_option (deed_if_asked (o >>= (λ x. asked_by old k x x.content))) ds)
    (cons_option (deed_if_asked (numbered new k >>= (λ x. asked_by new k x x.content))) es)) (sym is)
    (subst (λ (o : Option Message). Later (cons_option (deed_if_asked (asked_by old k m m.content)) ds)
    (cons_option (deed_if_asked (o >>= (λ x. asked_by new k x x.content))) es)) (sym there.1)
    (subst (λ (content : Content). Later (cons_option (deed_if_asked (asked_by old k m m.content)) ds) (cons_option (deed_if_asked (asked_by new k v content)) es)) (sym there.2)
    (call_later old new k m v m.content ds es stay settled rest)))

pub later_span : (old new : List Message) (u : ℕ) (done : List Act) → Stay old new → Firm old new → AllPosted old done
    → Later (filter_map (deed_of old u) done) (filter_map (deed_of new u) done)
later_span old new u [] stay firm posted = Nothing
later_span old new u (act ∷ done) stay firm posted = of_act act (λ k h. posted k h) (later_span old new u done stay firm (λ k h. posted k (more (sends_so k act) (list_any (sends_so k) done) h)))
  where
    of_act : (x : Act) → ((k : ℕ) → (sends_so k x || list_any (sends_so k) done) ≡ true → (m : Message) × (numbered old k ≡ Some m))
        → Later (filter_map (deed_of old u) done) (filter_map (deed_of new u) done)
        → Later (cons_option (deed_of old u x) (filter_map (deed_of old u) done)) (cons_option (deed_of new u x) (filter_map (deed_of new u) done))
    of_act (acts.Took reply) posts rest = front (deeds.Took reply) _ _ rest
    of_act (acts.Read reply) posts rest = front (deeds.Read reply) _ _ rest
    of_act (acts.Intended a reply) posts rest = front (deeds.Intended a reply) _ _ rest
    of_act (acts.Recorded a reply) posts rest = front (deeds.Recorded a reply) _ _ rest
    of_act (acts.Drained a reply) posts rest = front (deeds.Drained a reply) _ _ rest
    of_act (acts.Sent k) posts rest =
        let there = posts k (now (sends_so k (acts.Sent k)) (list_any (sends_so k) done) (itself k)) in sent_later old new k there.0 _ _ stay firm there.1 rest
    of_act (acts.Wrote a reply) posts rest = front (deeds.Wrote a (written_in u reply)) _ _ rest
    of_act (acts.Told committed) posts rest = front (deeds.Told committed) _ _ rest
