-- An event, read back from its line.
use Rattle.std.proofs.Common.{◌≡◌, ℕ, ◌==◌, refl, sym, ap, ◌∙◌, arith, List, [], ◌∷◌, ◌++◌, drop, get_or}
use Rattle.std.specs.Prelude.{codes, if◌then◌else◌}
use Rattle.std.specs.Fmt.{decimal}
use Rattle.std.proofs.lemmas.List.{append_assoc}
use Rattle.shard_names.specs.Alias.{alias_text}
use Rattle.shard_names.specs.declared.alias.Alias.{Alias}
use Rattle.gtid_sets.specs.Position.{Position, count}
use Rattle.gtid_sets.specs.SetText.{set_text}
use Rattle.shard_calls.specs.declared.call.Call.{Call}
use Rattle.shard_calls.specs.declared.call.Call.TheVariants as calls
use Rattle.shard_calls.specs.declared.command.Command.{Command}
use Rattle.shard_calls.specs.declared.ending.CommandAnswer.TheVariants as answers
use Rattle.shard_calls.specs.declared.event.Event.{Event}
use Rattle.shard_calls.specs.declared.event.Event.TheVariants as events
use Rattle.shard_calls.specs.declared.event.Side.{Side}
use Rattle.shard_calls.specs.declared.event.Side.TheVariants as sides
use Rattle.shard_calls.specs.declared.event.Step.{Step}
use Rattle.tablet_text.specs.Moments.{moment_text}
use Rattle.vtctld_text.specs.declared.begun.Begun.{Begun}
use Rattle.history_text.specs.Histories.{outcome_text, step_line}
use Rattle.history_text.specs.Events.{numbered_text, tablet_event_text, command_event_text, shown_set, promote_text, set_source_text, wait_for_text, wait_told_text, call_text, begin_event_text, send_text, give_up_text, crash_text, side_text, link_text, happening_text}
use Rattle.history_text.specs.Laws.{Without}
use Rattle.history_text.specs.Told.{IsNumber, IsPlain, IsAlias, IsCommand, IsCall, IsSide, IsEvent, unanswered, LineTellsEvent}
use Rattle.history_text.proofs.LineLemmas.{chosen, decimal_without, moment_without, set_without}
use Rattle.history_text.proofs.WordLemmas.{parts_at, HasWords, said, one, ◌▹◌, adds, followed}
use Rattle.history_text.proofs.PartLemmas.{number_of, number_back, alias_of, alias_back, side_of, side_back}
use Rattle.history_text.proofs.MomentLemmas.{moment_of, moment_back}
use Rattle.history_text.proofs.SetLemmas.{set_of, set_back}
use Rattle.history_text.proofs.CommandLemmas.{Words, begins, order_words, order_has, command_of, command_back, answered, alias_has}

-- ---- words

pub number_has : (n : ℕ) → HasWords (decimal n) (decimal n ∷ [])
number_has n = one (decimal_without n (omega arith))

pub moment_has : (m : ℕ) → HasWords (moment_text m) (moment_text m ∷ [])
moment_has m = one (moment_without m (omega arith))

pub dash_is_plain : Without 32 (codes "-")
dash_is_plain = record { all_other = refl }

set_has : (p : Position) → HasWords (shown_set p) (shown_set p ∷ [])
set_has p = one (chosen (Without 32) (count p == 0) (codes "-") (set_text p) (λ t. dash_is_plain) (λ t. set_without p (omega arith)))

side_has : (x : Side) → IsSide x → HasWords (side_text x) (side_text x ∷ [])
side_has sides.Control h = said (codes "control") refl
side_has (sides.Tablet a) h = alias_has a h

-- ---- calls

abbrev call_words : Call → Words
call_words calls.Status = codes "status" ∷ []
call_words calls.Stop = codes "stop" ∷ []
call_words calls.Demote = codes "demote" ∷ []
call_words (calls.Promote p) = codes "promote" ∷ shown_set p ∷ []
call_words (calls.SetSource source stand p) = codes "setsource" ∷ alias_text source ∷ decimal stand ∷ shown_set p ∷ []
call_words calls.Feed = codes "feed" ∷ []
call_words (calls.WaitFor p until) = codes "waitfor" ∷ shown_set p ∷ moment_text until ∷ []
call_words (calls.WaitTold until) = codes "waittold" ∷ moment_text until ∷ []

call_has : (call : Call) → IsCall call → HasWords (call_text call) (call_words call)
unfolding promote_text set_source_text wait_for_text wait_told_text
call_has calls.Status h = said (codes "status") refl
call_has calls.Stop h = said (codes "stop") refl
call_has calls.Demote h = said (codes "demote") refl
call_has (calls.Promote p) h = said (codes "promote") refl ▹ set_has p
call_has (calls.SetSource source stand p) h = said (codes "setsource") refl ▹ alias_has source h.0 ▹ number_has stand ▹ set_has p
call_has calls.Feed h = said (codes "feed") refl
call_has (calls.WaitFor p until) h = said (codes "waitfor") refl ▹ set_has p ▹ moment_has until
call_has (calls.WaitTold until) h = said (codes "waittold") refl ▹ moment_has until

abbrev call_of : Words → Call
call_of words =
    if begins (codes "status") words then calls.Status
    else if begins (codes "stop") words then calls.Stop
    else if begins (codes "demote") words then calls.Demote
    else if begins (codes "promote") words then calls.Promote (set_of (get_or words 1 []))
    else if begins (codes "setsource") words then calls.SetSource (alias_of (get_or words 1 [])) (number_of (get_or words 2 [])) (set_of (get_or words 3 []))
    else if begins (codes "feed") words then calls.Feed
    else if begins (codes "waitfor") words then calls.WaitFor (set_of (get_or words 1 [])) (moment_of (get_or words 2 []))
    else calls.WaitTold (moment_of (get_or words 1 []))

call_back : (call : Call) → IsCall call → (rest : Words) → call_of (call_words call ++ answered rest) ≡ call
call_back calls.Status h rest = refl
call_back calls.Stop h rest = refl
call_back calls.Demote h rest = refl
call_back (calls.Promote p) h rest = ap calls.Promote (set_back p h)
call_back (calls.SetSource source stand p) h rest =
    ap (λ (a : Alias). calls.SetSource a (number_of (decimal stand)) (set_of (shown_set p))) (alias_back source h.0)
    ∙ ap (λ (n : ℕ). calls.SetSource source n (set_of (shown_set p))) (number_back stand h.1) ∙ ap (calls.SetSource source stand) (set_back p h.2)
call_back calls.Feed h rest = refl
call_back (calls.WaitFor p until) h rest =
    ap (λ (q : Position). calls.WaitFor q (moment_of (moment_text until))) (set_back p h.0) ∙ ap (calls.WaitFor p) (moment_back until h.1)
call_back (calls.WaitTold until) h rest = ap calls.WaitTold (moment_back until h)

-- ---- kinds of events

pub numbered_has : {name : List ℕ} (n : ℕ) → HasWords name (name ∷ []) → HasWords (numbered_text (name ++ codes " ") n) (name ∷ decimal n ∷ [])
unfolding numbered_text
numbered_has n h = h ▹ number_has n

pub tablet_has : {name : List ℕ} (a : Alias) → HasWords name (name ∷ []) → IsAlias a → HasWords (tablet_event_text (name ++ codes " ") a) (name ∷ alias_text a ∷ [])
unfolding tablet_event_text
tablet_has a h is = h ▹ alias_has a is

of_command_has : {name : List ℕ} (c : ℕ) (a : Alias) → HasWords name (name ∷ []) → IsAlias a
    → HasWords (command_event_text (name ++ codes " ") c a) (name ∷ decimal c ∷ alias_text a ∷ [])
unfolding command_event_text
of_command_has c a h is = h ▹ number_has c ▹ alias_has a is

link_has : {name : List ℕ} (x y : Side) → HasWords name (name ∷ []) → IsSide x → IsSide y → HasWords (link_text (name ++ codes " ") x y) (name ∷ side_text x ∷ side_text y ∷ [])
unfolding link_text
link_has x y h hx hy = h ▹ side_has x hx ▹ side_has y hy

begin_has : (actor : List ℕ) (command : Command) → IsPlain actor → IsCommand command
    → HasWords (begin_event_text actor command) (codes "begin" ∷ actor ∷ order_words command)
unfolding begin_event_text
begin_has actor command one_name is = said (codes "begin") refl ▹ one one_name.no_blank ▹ order_has command is

send_has : (c : ℕ) (a : Alias) (call : Call) → IsAlias a → IsCall call → HasWords (send_text c a call) (codes "send" ∷ decimal c ∷ alias_text a ∷ call_words call)
unfolding send_text
send_has c a call ha hc = of_command_has c a (said (codes "send") refl) ha ▹ call_has call hc

give_up_has : (c k : ℕ) → HasWords (give_up_text c k) (codes "giveup" ∷ decimal c ∷ decimal k ∷ [])
unfolding give_up_text
give_up_has c k = said (codes "giveup") refl ▹ number_has c ▹ number_has k

crash_has : (a : Alias) (keep : ℕ) → IsAlias a → HasWords (crash_text a keep) (codes "crash" ∷ alias_text a ∷ decimal keep ∷ [])
unfolding crash_text
crash_has a keep h = said (codes "crash") refl ▹ alias_has a h ▹ number_has keep

-- ---- events

abbrev event_words : Event → Words
event_words (events.Begin actor command) = codes "begin" ∷ actor ∷ order_words command
event_words (events.Take c) = codes "take" ∷ decimal c ∷ []
event_words (events.Read c) = codes "read" ∷ decimal c ∷ []
event_words (events.Intend c a) = codes "intend" ∷ decimal c ∷ alias_text a ∷ []
event_words (events.Record c a) = codes "record" ∷ decimal c ∷ alias_text a ∷ []
event_words (events.Drain c a) = codes "drain" ∷ decimal c ∷ alias_text a ∷ []
event_words (events.Release c) = codes "release" ∷ decimal c ∷ []
event_words events.Lapse = codes "lapse" ∷ []
event_words (events.Send c a call) = codes "send" ∷ decimal c ∷ alias_text a ∷ call_words call
event_words (events.Deliver k) = codes "deliver" ∷ decimal k ∷ []
event_words (events.GiveUp c k) = codes "giveup" ∷ decimal c ∷ decimal k ∷ []
event_words (events.Offer a) = codes "offer" ∷ alias_text a ∷ []
event_words (events.Write c a) = codes "write" ∷ decimal c ∷ alias_text a ∷ []
event_words (events.Tell c) = codes "tell" ∷ decimal c ∷ []
event_words (events.Local a) = codes "local" ∷ alias_text a ∷ []
event_words (events.Crash a keep) = codes "crash" ∷ alias_text a ∷ decimal keep ∷ []
event_words (events.Restart a) = codes "restart" ∷ alias_text a ∷ []
event_words (events.Cut x y) = codes "cut" ∷ side_text x ∷ side_text y ∷ []
event_words (events.Mend x y) = codes "mend" ∷ side_text x ∷ side_text y ∷ []
event_words (events.Lose k) = codes "lose" ∷ decimal k ∷ []
event_words (events.Tick ms) = codes "tick" ∷ decimal ms ∷ []
event_words (events.End c x) = codes "end" ∷ decimal c ∷ []

event_has : (e : Event) → IsEvent e → HasWords (happening_text e) (event_words e)
event_has (events.Begin actor command) h = begin_has actor command h.0 h.1
event_has (events.Take c) h = numbered_has c (said (codes "take") refl)
event_has (events.Read c) h = numbered_has c (said (codes "read") refl)
event_has (events.Intend c a) h = of_command_has c a (said (codes "intend") refl) h.1
event_has (events.Record c a) h = of_command_has c a (said (codes "record") refl) h.1
event_has (events.Drain c a) h = of_command_has c a (said (codes "drain") refl) h.1
event_has (events.Release c) h = numbered_has c (said (codes "release") refl)
event_has events.Lapse h = said (codes "lapse") refl
event_has (events.Send c a call) h = send_has c a call h.1 h.2
event_has (events.Deliver k) h = numbered_has k (said (codes "deliver") refl)
event_has (events.GiveUp c k) h = give_up_has c k
event_has (events.Offer a) h = tablet_has a (said (codes "offer") refl) h
event_has (events.Write c a) h = of_command_has c a (said (codes "write") refl) h.1
event_has (events.Tell c) h = numbered_has c (said (codes "tell") refl)
event_has (events.Local a) h = tablet_has a (said (codes "local") refl) h
event_has (events.Crash a keep) h = crash_has a keep h.0
event_has (events.Restart a) h = tablet_has a (said (codes "restart") refl) h
event_has (events.Cut x y) h = link_has x y (said (codes "cut") refl) h.0 h.1
event_has (events.Mend x y) h = link_has x y (said (codes "mend") refl) h.0 h.1
event_has (events.Lose k) h = numbered_has k (said (codes "lose") refl)
event_has (events.Tick ms) h = numbered_has ms (said (codes "tick") refl)
event_has (events.End c x) h = numbered_has c (said (codes "end") refl)

-- ---- back

abbrev event_of : Words → Event
event_of words =
    if begins (codes "begin") words then events.Begin (get_or words 1 []) (command_of (drop 2 words))
    else if begins (codes "take") words then events.Take (number_of (get_or words 1 []))
    else if begins (codes "read") words then events.Read (number_of (get_or words 1 []))
    else if begins (codes "intend") words then events.Intend (number_of (get_or words 1 [])) (alias_of (get_or words 2 []))
    else if begins (codes "record") words then events.Record (number_of (get_or words 1 [])) (alias_of (get_or words 2 []))
    else if begins (codes "drain") words then events.Drain (number_of (get_or words 1 [])) (alias_of (get_or words 2 []))
    else if begins (codes "release") words then events.Release (number_of (get_or words 1 []))
    else if begins (codes "lapse") words then events.Lapse
    else if begins (codes "send") words then events.Send (number_of (get_or words 1 [])) (alias_of (get_or words 2 [])) (call_of (drop 3 words))
    else if begins (codes "deliver") words then events.Deliver (number_of (get_or words 1 []))
    else if begins (codes "giveup") words then events.GiveUp (number_of (get_or words 1 [])) (number_of (get_or words 2 []))
    else if begins (codes "offer") words then events.Offer (alias_of (get_or words 1 []))
    else if begins (codes "write") words then events.Write (number_of (get_or words 1 [])) (alias_of (get_or words 2 []))
    else if begins (codes "tell") words then events.Tell (number_of (get_or words 1 []))
    else if begins (codes "local") words then events.Local (alias_of (get_or words 1 []))
    else if begins (codes "crash") words then events.Crash (alias_of (get_or words 1 [])) (number_of (get_or words 2 []))
    else if begins (codes "restart") words then events.Restart (alias_of (get_or words 1 []))
    else if begins (codes "cut") words then events.Cut (side_of (get_or words 1 [])) (side_of (get_or words 2 []))
    else if begins (codes "mend") words then events.Mend (side_of (get_or words 1 [])) (side_of (get_or words 2 []))
    else if begins (codes "lose") words then events.Lose (number_of (get_or words 1 []))
    else if begins (codes "tick") words then events.Tick (number_of (get_or words 1 []))
    else events.End (number_of (get_or words 1 [])) answers.NoPrimaryRecorded

of_command_back : (make : ℕ → Alias → Event) (c : ℕ) (a : Alias) → IsNumber c → IsAlias a → make (number_of (decimal c)) (alias_of (alias_text a)) ≡ make c a
of_command_back make c a hc ha = ap (λ (n : ℕ). make n (alias_of (alias_text a))) (number_back c hc) ∙ ap (make c) (alias_back a ha)

link_back : (make : Side → Side → Event) (x y : Side) → IsSide x → IsSide y → make (side_of (side_text x)) (side_of (side_text y)) ≡ make x y
link_back make x y hx hy = ap (λ (s : Side). make s (side_of (side_text y))) (side_back x hx) ∙ ap (make x) (side_back y hy)

event_back : (e : Event) → IsEvent e → (rest : Words) → event_of (event_words e ++ answered rest) ≡ unanswered e
event_back (events.Begin actor command) h rest = ap (events.Begin actor) (command_back command h.1 rest)
event_back (events.Take c) h rest = ap events.Take (number_back c h)
event_back (events.Read c) h rest = ap events.Read (number_back c h)
event_back (events.Intend c a) h rest = of_command_back events.Intend c a h.0 h.1
event_back (events.Record c a) h rest = of_command_back events.Record c a h.0 h.1
event_back (events.Drain c a) h rest = of_command_back events.Drain c a h.0 h.1
event_back (events.Release c) h rest = ap events.Release (number_back c h)
event_back events.Lapse h rest = refl
event_back (events.Send c a call) h rest =
    of_command_back (λ n x. events.Send n x (call_of (call_words call ++ answered rest))) c a h.0 h.1 ∙ ap (events.Send c a) (call_back call h.2 rest)
event_back (events.Deliver k) h rest = ap events.Deliver (number_back k h)
event_back (events.GiveUp c k) h rest = ap (λ (n : ℕ). events.GiveUp n (number_of (decimal k))) (number_back c h.0) ∙ ap (events.GiveUp c) (number_back k h.1)
event_back (events.Offer a) h rest = ap events.Offer (alias_back a h)
event_back (events.Write c a) h rest = of_command_back events.Write c a h.0 h.1
event_back (events.Tell c) h rest = ap events.Tell (number_back c h)
event_back (events.Local a) h rest = ap events.Local (alias_back a h)
event_back (events.Crash a keep) h rest = ap (λ (x : Alias). events.Crash x (number_of (decimal keep))) (alias_back a h.0) ∙ ap (events.Crash a) (number_back keep h.1)
event_back (events.Restart a) h rest = ap events.Restart (alias_back a h)
event_back (events.Cut x y) h rest = link_back events.Cut x y h.0 h.1
event_back (events.Mend x y) h rest = link_back events.Mend x y h.0 h.1
event_back (events.Lose k) h rest = ap events.Lose (number_back k h)
event_back (events.Tick ms) h rest = ap events.Tick (number_back ms h)
event_back (events.End c x) h rest = ap (λ (n : ℕ). events.End n answers.NoPrimaryRecorded) (number_back c h)

line_has : (commands : List Begun) (s : Step) → IsEvent s.event
    → HasWords (step_line commands s) (event_words s.event ++ answered (parts_at 32 (outcome_text commands s.event s.reply)))
unfolding step_line
line_has commands s h =
    let outcome = outcome_text commands s.event s.reply in
    let all = followed (event_has s.event h) (adds (said (codes "=") refl ▹ of_any outcome)) in
    record { are = ap (parts_at 32) (append_assoc (happening_text s.event) (codes " = ") outcome) ∙ all.are }
  where
    of_any : (text : List ℕ) → HasWords text (parts_at 32 text)
    of_any text = record { are = refl }

told : (commands : List Begun) (s : Step) → IsEvent s.event → event_of (parts_at 32 (step_line commands s)) ≡ unanswered s.event
told commands s h = ap event_of (line_has commands s h).are ∙ event_back s.event h (parts_at 32 (outcome_text commands s.event s.reply))

pub line_tells_event : LineTellsEvent
line_tells_event cs ds s t hs ht same = sym (told cs s hs) ∙ ap (λ (text : List ℕ). event_of (parts_at 32 text)) same ∙ told ds t ht
