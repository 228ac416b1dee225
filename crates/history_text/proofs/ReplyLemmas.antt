-- A reply, read back from its line.
use Rattle.std.proofs.Common.{◌≡◌, ℕ, zero, suc, ◌<◌, ◌==◌, Bool, true, false, cond, nat_lt, refl, sym, ap, ◌∙◌, arith, List, [], ◌∷◌, ◌++◌, length, drop, get_or, Option, Some, None}
use Rattle.std.specs.Prelude.{codes, if◌then◌else◌}
use Rattle.std.specs.Fmt.{decimal}
use Rattle.std.proofs.lemmas.Bool.{false≢true}
use Rattle.std.proofs.lemmas.Bool.Decides.{nat_tests}
use Rattle.std.proofs.lemmas.List.{append_assoc, append-nil, append_cancel_left, length-append}
use Rattle.uuid.specs.Text.{hyphenated_text, lower}
use Rattle.shard_names.specs.Alias.{alias_text, ten_digits}
use Rattle.shard_names.specs.declared.alias.Alias.{Alias}
use Rattle.gtid_sets.specs.Gtid.{gtid_text}
use Rattle.gtid_sets.specs.declared.gtid.Gtid.{Gtid}
use Rattle.gtid_sets.specs.declared.interval.Interval.{Interval}
use Rattle.gtid_sets.specs.Position.{Position}
use Rattle.gtid_sets.specs.Intervals.{Ordered, position_of, alone, size, numbered, listed}
use Rattle.gtid_sets.specs.SetText.{set_text, gtids_text}
use Rattle.gtid_sets.specs.ReadingLaws.{IsWritable}
use Rattle.gtid_sets.proofs.ListedLemmas.{gtids_position_of}
use Rattle.topo_lock.specs.declared.intent.Intent.{Intent}
use Rattle.topo_lock.specs.declared.intent.Record.{Record}
use Rattle.shard_calls.specs.declared.event.Event.{Event}
use Rattle.shard_calls.specs.declared.event.Event.TheVariants as events
use Rattle.shard_calls.specs.declared.event.Reply.{Reply}
use Rattle.shard_calls.specs.declared.event.Reply.TheVariants as replies
use Rattle.shard_calls.specs.declared.event.Seen.{Seen}
use Rattle.shard_calls.specs.declared.stand.Standing.{Standing}
use Rattle.shard_calls.specs.declared.stand.Standing.TheVariants as standings
use Rattle.shard_calls.specs.declared.why.Why.{Why}
use Rattle.shard_calls.specs.declared.why.Why.TheVariants as whys
use Rattle.tablet_text.specs.Moments.{moment_text}
use Rattle.tablet_text.specs.Stands.{since_text, primary_text, demoted_text, in_term_text, replica_text, feeder_text, standing_text, timed_out_text, why_text}
use Rattle.vtctld_text.specs.Summary.{is_end}
use Rattle.vtctld_text.specs.declared.begun.Begun.{Begun}
use Rattle.history_text.specs.Laws.{Without}
use Rattle.history_text.specs.Orders.{aliases_text, further_aliases}
use Rattle.history_text.specs.Events.{happening_text}
use Rattle.history_text.specs.Replies.{record_text, recorded_text, intent_text, intended_text, drained_text, seen_text, taken_text, wrote_text, stand_text, reply_text}
use Rattle.history_text.specs.Histories.{outcome_text, step_line}
use Rattle.history_text.specs.Told.{IsAlias, AreAliases, IsRecorded, IsIntended, IsWhy, IsStanding, IsReply, unanswered, LineTellsReply}
use Rattle.history_text.proofs.LineLemmas.{◌⊹◌, decimal_without, moment_without, gtid_without}
use Rattle.history_text.proofs.WordLemmas.{parts_at, parted, whole, HasWords, said, one, ◌▹◌, adds, followed}
use Rattle.history_text.proofs.PartLemmas.{alias_no_comma, number_of, number_back, alias_of, alias_back, aliases_of, aliases_back}
use Rattle.history_text.proofs.MomentLemmas.{moment_of, moment_back}
use Rattle.history_text.proofs.SetLemmas.{set_of, written_back}
use Rattle.history_text.proofs.CommandLemmas.{Words, begins, alias_word_is, further_is, alias_has}
use Rattle.history_text.proofs.ToldLemmas.{dash_is_plain, number_has, moment_has, numbered_has, tablet_has, line_tells_event}

-- ---- texts with words in the middle

closed : (text : List ℕ) (words : Words) → parts_at 32 text ≡ words → HasWords text words
closed text words h = record { are = h }

-- a text, and behind it words between blanks, and another text
put : {a w b : List ℕ} {us vs ws : Words} → HasWords a us → HasWords w vs → HasWords b ws → HasWords (a ++ (32 ∷ w ++ codes " ") ++ b) (us ++ (vs ++ ws))
put {a} {w} {b} first words next =
    let all = followed first (adds (words ▹ next)) in
    record { are = ap (parts_at 32) (append_assoc a (32 ∷ w ++ codes " ") b) ∙ all.are }

-- ---- transactions

abbrev first : List Gtid → Gtid
first [] = record { server = []; number = 0 }
first (g ∷ gs) = g

-- the text of a transaction is that of the set that has it alone
abbrev gtid_of : List ℕ → Gtid
gtid_of word = first (set_of word).gtids

one_in_order : (g : Gtid) → Ordered (alone g ∷ [])
one_in_order g = (omega arith, (tt, tt))

one_writable : (g : Gtid) → IsWritable (alone g) → (k : ℕ) (d : Interval) → k < 1 → IsWritable (get_or (alone g ∷ []) k d)
one_writable g h zero d lt = h
one_writable g h (suc k) d lt = absurd (omega (arith, lt))

one_gtid : (g : Gtid) → (position_of (alone g ∷ [])).gtids ≡ g ∷ []
unfolding listed
one_gtid g =
    let long : size (alone g) ≡ 1 = omega arith in
    gtids_position_of (alone g ∷ []) (one_in_order g) ∙ ap (λ (k : ℕ). numbered g.server g.number k ++ []) long

one_text : (g : Gtid) → set_text (position_of (alone g ∷ [])) ≡ gtid_text g
one_text g =
    let same : (g.number == g.number) ≡ true = grind (arith, nat_tests) in
    ap gtids_text (one_gtid g)
    ∙ ap (λ (t : Bool). hyphenated_text lower g.server ++ (58 ∷ (decimal g.number ++ cond t [] (45 ∷ decimal g.number)) ++ [])) same
    ∙ ap (λ (t : List ℕ). hyphenated_text lower g.server ++ 58 ∷ t) (append-nil (decimal g.number ++ []) ∙ append-nil (decimal g.number))

gtid_back : (g : Gtid) → IsWritable (alone g) → gtid_of (gtid_text g) ≡ g
gtid_back g h =
    ap gtid_of (sym (one_text g)) ∙ ap (λ (p : Position). first p.gtids) (written_back (alone g ∷ []) (one_in_order g) (one_writable g h)) ∙ ap first (one_gtid g)

gtid_has : (g : Gtid) → HasWords (gtid_text g) (gtid_text g ∷ [])
gtid_has g = one (gtid_without g (omega arith))

-- ---- parts between commas

parted_left : (c : ℕ) (a b : List ℕ) → parts_at c (a ++ c ∷ [] ++ b) ≡ parts_at c a ++ parts_at c b
parted_left c a b = ap (parts_at c) (append_assoc a (c ∷ []) b) ∙ parted c a b

comma_is_plain : Without 32 (codes ",")
comma_is_plain = record { all_other = refl }

abbrev recorded_in : Words → Option Record
recorded_in [] = None
recorded_in (a ∷ []) = None
recorded_in (a ∷ t ∷ []) = None
recorded_in (a ∷ t ∷ m ∷ rest) = Some (record { alias = alias_of a; term = number_of t; moment = moment_of m })

abbrev recorded_of : List ℕ → Option Record
recorded_of word = recorded_in (parts_at 44 word)

record_parts : (r : Record) → IsAlias r.alias → parts_at 44 (record_text r) ≡ alias_text r.alias ∷ decimal r.term ∷ moment_text r.moment ∷ []
unfolding record_text
record_parts r h =
    parted_left 44 (alias_text r.alias ++ codes "," ++ decimal r.term) (moment_text r.moment)
    ∙ ap (λ (t : Words). t ++ parts_at 44 (moment_text r.moment)) (parted_left 44 (alias_text r.alias) (decimal r.term))
    ∙ ap (λ (t : Words). t ++ parts_at 44 (decimal r.term) ++ parts_at 44 (moment_text r.moment)) (whole (alias_no_comma r.alias h))
    ∙ ap (λ (t : Words). alias_text r.alias ∷ (t ++ parts_at 44 (moment_text r.moment))) (whole (decimal_without r.term (omega arith)))
    ∙ ap (λ (t : Words). alias_text r.alias ∷ decimal r.term ∷ t) (whole (moment_without r.moment (omega arith)))

record_same : {a b : Alias} {t u m n : ℕ} → a ≡ b → t ≡ u → m ≡ n → ◌≡◌ {A = Record} (record { alias = a; term = t; moment = m }) (record { alias = b; term = u; moment = n })
record_same one two three = rw (one, two, three) refl

recorded_back : (o : Option Record) → IsRecorded o → recorded_of (recorded_text o) ≡ o
recorded_back None h = refl
recorded_back (Some r) h =
    ap recorded_in (record_parts r h.0) ∙ ap (λ (x : Record). Some x) (record_same (alias_back r.alias h.0) (number_back r.term h.1) (moment_back r.moment h.2))

record_plain : (r : Record) → IsAlias r.alias → Without 32 (record_text r)
unfolding record_text
record_plain r h = alias_word_is r.alias h ⊹ comma_is_plain ⊹ decimal_without r.term (omega arith) ⊹ comma_is_plain ⊹ moment_without r.moment (omega arith)

recorded_has : (o : Option Record) → IsRecorded o → HasWords (recorded_text o) (recorded_text o ∷ [])
recorded_has None h = one dash_is_plain
recorded_has (Some r) h = one (record_plain r h.0)

abbrev intended_in : Words → Option Intent
intended_in [] = None
intended_in (t ∷ []) = None
intended_in (t ∷ a ∷ rest) = Some (record { term = number_of t; alias = alias_of a })

abbrev intended_of : List ℕ → Option Intent
intended_of word = intended_in (parts_at 44 word)

intent_parts : (i : Intent) → IsAlias i.alias → parts_at 44 (intent_text i) ≡ decimal i.term ∷ alias_text i.alias ∷ []
unfolding intent_text
intent_parts i h =
    parted_left 44 (decimal i.term) (alias_text i.alias)
    ∙ ap (λ (t : Words). t ++ parts_at 44 (alias_text i.alias)) (whole (decimal_without i.term (omega arith)))
    ∙ ap (λ (t : Words). decimal i.term ∷ t) (whole (alias_no_comma i.alias h))

intent_same : {a b : Alias} {t u : ℕ} → t ≡ u → a ≡ b → ◌≡◌ {A = Intent} (record { term = t; alias = a }) (record { term = u; alias = b })
intent_same one two = rw (one, two) refl

intended_back : (o : Option Intent) → IsIntended o → intended_of (intended_text o) ≡ o
intended_back None h = refl
intended_back (Some i) h = ap intended_in (intent_parts i h.1) ∙ ap (λ (x : Intent). Some x) (intent_same (number_back i.term h.0) (alias_back i.alias h.1))

intent_plain : (i : Intent) → IsAlias i.alias → Without 32 (intent_text i)
unfolding intent_text
intent_plain i h = decimal_without i.term (omega arith) ⊹ comma_is_plain ⊹ alias_word_is i.alias h

intended_has : (o : Option Intent) → IsIntended o → HasWords (intended_text o) (intended_text o ∷ [])
intended_has None h = one dash_is_plain
intended_has (Some i) h = one (intent_plain i h.1)

abbrev drained_of : List ℕ → List Alias
drained_of word = if nat_lt (length word) 11 then [] else aliases_of word

drained_back : (aliases : List Alias) → AreAliases aliases → drained_of (drained_text aliases) ≡ aliases
drained_back [] h = refl
drained_back (a ∷ aliases) h =
    let all = length-append (alias_text a) (further_aliases aliases) in
    let front = length-append a.cell (45 ∷ ten_digits a.uid) in
    let long : nat_lt (length (aliases_text (a ∷ aliases))) 11 ≡ false = grind (arith, nat_tests, all, front) in
    ap (λ (t : Bool). cond t [] (aliases_of (aliases_text (a ∷ aliases)))) long ∙ aliases_back a aliases h.0 h.1

drained_has : (aliases : List Alias) → AreAliases aliases → HasWords (drained_text aliases) (drained_text aliases ∷ [])
drained_has [] h = one dash_is_plain
drained_has (a ∷ aliases) h = one (alias_word_is a h.0 ⊹ further_is aliases h.1)

-- ---- stands, and why calls were given up

abbrev standing_words : Standing → Words
standing_words standings.Down = codes "down" ∷ []
standing_words standings.Stopped = codes "stopped" ∷ []
standing_words (standings.Primary term) = codes "primary" ∷ codes "of" ∷ codes "term" ∷ decimal term ∷ []
standing_words (standings.Demoted term by) = codes "demoted" ∷ codes "from" ∷ codes "term" ∷ decimal term ∷ codes "by" ∷ codes "term" ∷ decimal by ∷ []
standing_words (standings.Replica source term) = codes "replica" ∷ codes "of" ∷ alias_text source ∷ codes "in" ∷ codes "term" ∷ decimal term ∷ []
standing_words (standings.Feeder term) = codes "feeder" ∷ codes "in" ∷ codes "term" ∷ decimal term ∷ []

standing_has : (stand : Standing) → IsStanding stand → HasWords (standing_text stand) (standing_words stand)
unfolding primary_text demoted_text replica_text in_term_text feeder_text
standing_has standings.Down h = said (codes "down") refl
standing_has standings.Stopped h = said (codes "stopped") refl
standing_has (standings.Primary term) h = closed (codes "primary of term") (codes "primary" ∷ codes "of" ∷ codes "term" ∷ []) refl ▹ number_has term
standing_has (standings.Demoted term by) h =
    put (closed (codes "demoted from term") (codes "demoted" ∷ codes "from" ∷ codes "term" ∷ []) refl ▹ number_has term)
    (closed (codes "by term") (codes "by" ∷ codes "term" ∷ []) refl) (number_has by)
standing_has (standings.Replica source term) h =
    closed (codes "replica of") (codes "replica" ∷ codes "of" ∷ []) refl
    ▹ put (alias_has source h.0) (closed (codes "in term") (codes "in" ∷ codes "term" ∷ []) refl) (number_has term)
standing_has (standings.Feeder term) h = closed (codes "feeder in term") (codes "feeder" ∷ codes "in" ∷ codes "term" ∷ []) refl ▹ number_has term

abbrev standing_of : Words → Standing
standing_of words =
    if begins (codes "down") words then standings.Down
    else if begins (codes "stopped") words then standings.Stopped
    else if begins (codes "primary") words then standings.Primary (number_of (get_or words 3 []))
    else if begins (codes "demoted") words then standings.Demoted (number_of (get_or words 3 [])) (number_of (get_or words 6 []))
    else if begins (codes "replica") words then standings.Replica (alias_of (get_or words 2 [])) (number_of (get_or words 5 []))
    else standings.Feeder (number_of (get_or words 3 []))

standing_back : (stand : Standing) → IsStanding stand → standing_of (standing_words stand) ≡ stand
standing_back standings.Down h = refl
standing_back standings.Stopped h = refl
standing_back (standings.Primary term) h = ap standings.Primary (number_back term h)
standing_back (standings.Demoted term by) h =
    ap (λ (n : ℕ). standings.Demoted n (number_of (decimal by))) (number_back term h.0) ∙ ap (standings.Demoted term) (number_back by h.1)
standing_back (standings.Replica source term) h =
    ap (λ (a : Alias). standings.Replica a (number_of (decimal term))) (alias_back source h.0) ∙ ap (standings.Replica source) (number_back term h.1)
standing_back (standings.Feeder term) h = ap standings.Feeder (number_back term h)

abbrev why_words : Why → Words
why_words whys.Down = codes "down" ∷ []
why_words whys.Cut = codes "cut" ∷ []
why_words whys.Lost = codes "lost" ∷ []
why_words (whys.TimedOut since now) = codes "timed" ∷ codes "out" ∷ codes "since" ∷ moment_text since ∷ codes "at" ∷ moment_text now ∷ []

why_has : (why : Why) → HasWords (why_text why) (why_words why)
unfolding timed_out_text since_text
why_has whys.Down = said (codes "down") refl
why_has whys.Cut = said (codes "cut") refl
why_has whys.Lost = said (codes "lost") refl
why_has (whys.TimedOut since now) =
    closed (codes "timed out") (codes "timed" ∷ codes "out" ∷ []) refl
    ▹ put (said (codes "since") refl ▹ moment_has since) (said (codes "at") refl) (moment_has now)

-- ---- replies

abbrev reply_words : Reply → Words
reply_words (replies.Begun c) = codes "command" ∷ decimal c ∷ []
reply_words (replies.Term term) = codes "term" ∷ decimal term ∷ []
reply_words (replies.Taken term actor) = codes "taken" ∷ decimal term ∷ actor ∷ []
reply_words (replies.Read seen) =
    codes "record" ∷ recorded_text seen.recorded ∷ codes "intent" ∷ intended_text seen.intent ∷ codes "drained" ∷ drained_text seen.drained ∷ []
reply_words (replies.Lost term) = codes "lost" ∷ decimal term ∷ []
reply_words (replies.Stands a) = codes "stands" ∷ alias_text a ∷ []
reply_words (replies.Message k) = codes "message" ∷ decimal k ∷ []
reply_words (replies.GaveUp why) = why_words why
reply_words (replies.Wrote g) = codes "wrote" ∷ gtid_text g ∷ []
reply_words (replies.NotPrimary stand) = codes "stand" ∷ standing_words stand
reply_words replies.Told = codes "told" ∷ []
reply_words replies.Gone = codes "gone" ∷ []
reply_words replies.Ok = codes "ok" ∷ []

reply_has : (r : Reply) → IsReply r → HasWords (reply_text r) (reply_words r)
unfolding taken_text seen_text wrote_text stand_text
reply_has (replies.Begun c) h = numbered_has c (said (codes "command") refl)
reply_has (replies.Term term) h = numbered_has term (said (codes "term") refl)
reply_has (replies.Taken term actor) h = said (codes "taken") refl ▹ number_has term ▹ one h.1.no_blank
reply_has (replies.Read seen) h =
    put (put (said (codes "record") refl ▹ recorded_has seen.recorded h.0) (said (codes "intent") refl) (intended_has seen.intent h.1))
    (said (codes "drained") refl) (drained_has seen.drained h.2)
reply_has (replies.Lost term) h = numbered_has term (said (codes "lost") refl)
reply_has (replies.Stands a) h = tablet_has a (said (codes "stands") refl) h
reply_has (replies.Message k) h = numbered_has k (said (codes "message") refl)
reply_has (replies.GaveUp why) h = why_has why
reply_has (replies.Wrote g) h = said (codes "wrote") refl ▹ gtid_has g
reply_has (replies.NotPrimary stand) h = said (codes "stand") refl ▹ standing_has stand h
reply_has replies.Told h = said (codes "told") refl
reply_has replies.Gone h = said (codes "gone") refl
reply_has replies.Ok h = said (codes "ok") refl

-- behind `lost`: a term, or nothing
abbrev lost_of : Words → Reply
lost_of [] = replies.GaveUp whys.Lost
lost_of (term ∷ rest) = replies.Lost (number_of term)

abbrev seen_of : Words → Seen
seen_of words = record { recorded = recorded_of (get_or words 1 []); intent = intended_of (get_or words 3 []); drained = drained_of (get_or words 5 []) }

abbrev reply_of : Words → Reply
reply_of words =
    if begins (codes "command") words then replies.Begun (number_of (get_or words 1 []))
    else if begins (codes "term") words then replies.Term (number_of (get_or words 1 []))
    else if begins (codes "taken") words then replies.Taken (number_of (get_or words 1 [])) (get_or words 2 [])
    else if begins (codes "record") words then replies.Read (seen_of words)
    else if begins (codes "lost") words then lost_of (drop 1 words)
    else if begins (codes "stands") words then replies.Stands (alias_of (get_or words 1 []))
    else if begins (codes "message") words then replies.Message (number_of (get_or words 1 []))
    else if begins (codes "down") words then replies.GaveUp whys.Down
    else if begins (codes "cut") words then replies.GaveUp whys.Cut
    else if begins (codes "timed") words then replies.GaveUp (whys.TimedOut (moment_of (get_or words 3 [])) (moment_of (get_or words 5 [])))
    else if begins (codes "wrote") words then replies.Wrote (gtid_of (get_or words 1 []))
    else if begins (codes "stand") words then replies.NotPrimary (standing_of (drop 1 words))
    else if begins (codes "told") words then replies.Told
    else if begins (codes "gone") words then replies.Gone
    else replies.Ok

seen_same : {r p : Option Record} {i j : Option Intent} {d e : List Alias} → r ≡ p → i ≡ j → d ≡ e
    → ◌≡◌ {A = Seen} (record { recorded = r; intent = i; drained = d }) (record { recorded = p; intent = j; drained = e })
seen_same one two three = rw (one, two, three) refl

why_back : (why : Why) → IsWhy why → reply_of (why_words why) ≡ replies.GaveUp why
why_back whys.Down h = refl
why_back whys.Cut h = refl
why_back whys.Lost h = refl
why_back (whys.TimedOut since now) h =
    ap (λ (m : ℕ). replies.GaveUp (whys.TimedOut m (moment_of (moment_text now)))) (moment_back since h.0)
    ∙ ap (λ (m : ℕ). replies.GaveUp (whys.TimedOut since m)) (moment_back now h.1)

reply_back : (r : Reply) → IsReply r → reply_of (reply_words r) ≡ r
reply_back (replies.Begun c) h = ap replies.Begun (number_back c h)
reply_back (replies.Term term) h = ap replies.Term (number_back term h)
reply_back (replies.Taken term actor) h = ap (λ (n : ℕ). replies.Taken n actor) (number_back term h.0)
reply_back (replies.Read seen) h =
    ap replies.Read (seen_same (recorded_back seen.recorded h.0) (intended_back seen.intent h.1) (drained_back seen.drained h.2))
reply_back (replies.Lost term) h = ap replies.Lost (number_back term h)
reply_back (replies.Stands a) h = ap replies.Stands (alias_back a h)
reply_back (replies.Message k) h = ap replies.Message (number_back k h)
reply_back (replies.GaveUp why) h = why_back why h
reply_back (replies.Wrote g) h = ap replies.Wrote (gtid_back g h)
reply_back (replies.NotPrimary stand) h = ap replies.NotPrimary (standing_back stand h)
reply_back replies.Told h = refl
reply_back replies.Gone h = refl
reply_back replies.Ok h = refl

reply_told : (r : Reply) → IsReply r → reply_of (parts_at 32 (reply_text r)) ≡ r
reply_told r h = ap reply_of (reply_has r h).are ∙ reply_back r h

-- ---- lines

-- an event and the same without its answer have one text, and both end a command or neither
kept : (e : Event) → (happening_text e ≡ happening_text (unanswered e)) × (is_end (unanswered e) ≡ is_end e)
kept (events.Begin actor command) = (refl, refl)
kept (events.Take c) = (refl, refl)
kept (events.Read c) = (refl, refl)
kept (events.Intend c a) = (refl, refl)
kept (events.Record c a) = (refl, refl)
kept (events.Drain c a) = (refl, refl)
kept (events.Release c) = (refl, refl)
kept events.Lapse = (refl, refl)
kept (events.Send c a call) = (refl, refl)
kept (events.Deliver k) = (refl, refl)
kept (events.GiveUp c k) = (refl, refl)
kept (events.Offer a) = (refl, refl)
kept (events.Write c a) = (refl, refl)
kept (events.Tell c) = (refl, refl)
kept (events.Local a) = (refl, refl)
kept (events.Crash a keep) = (refl, refl)
kept (events.Restart a) = (refl, refl)
kept (events.Cut x y) = (refl, refl)
kept (events.Mend x y) = (refl, refl)
kept (events.Lose k) = (refl, refl)
kept (events.Tick ms) = (refl, refl)
kept (events.End c x) = (refl, refl)

plain_outcome : (commands : List Begun) (e : Event) (r : Reply) → is_end e ≡ false → outcome_text commands e r ≡ reply_text r
plain_outcome commands (events.Begin actor command) r h = refl
plain_outcome commands (events.Take c) r h = refl
plain_outcome commands (events.Read c) r h = refl
plain_outcome commands (events.Intend c a) r h = refl
plain_outcome commands (events.Record c a) r h = refl
plain_outcome commands (events.Drain c a) r h = refl
plain_outcome commands (events.Release c) r h = refl
plain_outcome commands events.Lapse r h = refl
plain_outcome commands (events.Send c a call) r h = refl
plain_outcome commands (events.Deliver k) r h = refl
plain_outcome commands (events.GiveUp c k) r h = refl
plain_outcome commands (events.Offer a) r h = refl
plain_outcome commands (events.Write c a) r h = refl
plain_outcome commands (events.Tell c) r h = refl
plain_outcome commands (events.Local a) r h = refl
plain_outcome commands (events.Crash a keep) r h = refl
plain_outcome commands (events.Restart a) r h = refl
plain_outcome commands (events.Cut x y) r h = refl
plain_outcome commands (events.Mend x y) r h = refl
plain_outcome commands (events.Lose k) r h = refl
plain_outcome commands (events.Tick ms) r h = refl
plain_outcome commands (events.End c x) r h = absurd (false≢true (sym h))

pub line_tells_reply : LineTellsReply
unfolding step_line
line_tells_reply cs ds s t hs ht hr hq not_end same =
    let told = line_tells_event cs ds s t hs ht same in
    let texts : happening_text s.event ≡ happening_text t.event = (kept s.event).0 ∙ ap happening_text told ∙ sym (kept t.event).0 in
    let no_end : is_end t.event ≡ false = sym (kept t.event).1 ∙ ap is_end (sym told) ∙ (kept s.event).1 ∙ not_end in
    let one : outcome_text cs s.event s.reply ≡ reply_text s.reply = plain_outcome cs s.event s.reply not_end in
    let two : outcome_text ds t.event t.reply ≡ reply_text t.reply = plain_outcome ds t.event t.reply no_end in
    let outcomes : outcome_text cs s.event s.reply ≡ outcome_text ds t.event t.reply =
    append_cancel_left (happening_text s.event ++ codes " = ") (outcome_text cs s.event s.reply) (outcome_text ds t.event t.reply)
    (same ∙ ap (λ (text : List ℕ). text ++ codes " = " ++ outcome_text ds t.event t.reply) (sym texts)) in
    sym (reply_told s.reply hr) ∙ ap (λ (text : List ℕ). reply_of (parts_at 32 text)) (sym one ∙ outcomes ∙ two) ∙ reply_told t.reply hq
