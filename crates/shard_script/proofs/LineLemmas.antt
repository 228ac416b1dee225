-- A line is read exactly as the grammar has it.
use Rattle.std.proofs.Common.{◌≡◌, ℕ, List, [], ◌∷◌, true, false, cond, eqb, Option, Some, None, length, refl, sym, ap, subst, ◌∙◌, arith}
use Rattle.std.specs.Prelude.{codes, ◌==◌}
use Rattle.std.specs.Result.{result_ok}
use Rattle.std.specs.Str.{bytes_eq}
use Rattle.std.proofs.lemmas.Bool.{eqb-true}
use Rattle.std.proofs.lemmas.Bool.Decides.{nat_tests}
use Rattle.shard_base.specs.Options.{◌>>=◌, only_if}
use Rattle.shard_names.specs.Alias.{alias_reading}
use Rattle.shard_names.specs.ShardName.{shard_name_reading}
use Rattle.shard_names.specs.declared.tablet.TabletType.{TabletType}
use Rattle.shard_names.specs.declared.tablet.TabletType.TheVariants.{Replica, Rdonly, Spare}
use Rattle.shard_names.specs.declared.alias.Alias.{Alias}
use Rattle.shard_calls.specs.declared.event.Link.{Link}
use Rattle.shard_calls.specs.declared.event.Side.{Side}
use Rattle.shard_calls.specs.declared.event.Side.TheVariants as sides
use Rattle.script_commands.specs.declared.command.Given.{Given}
use Rattle.shard_script.specs.declared.line.Line.{Line}
use Rattle.shard_script.specs.declared.line.Line.TheVariants.{Shard, Tablet, Clock, Act}
use Rattle.shard_script.specs.declared.script.Action.{Action}
use Rattle.shard_script.specs.declared.script.Action.TheVariants.{Play, Start, Turn, Finish, Settle, Local, Crash, Restart, Cut, Mend, Lose, Repeat, Lapse, Tick}
use Rattle.script_commands.specs.Moments.{moment_reading}
use Rattle.script_commands.specs.Numbers.{number_reading, number_within, duration_reading}
use Rattle.shard_script.specs.Aliases.{are_ends}
use Rattle.script_commands.specs.Commands.{command_of}
use Rattle.shard_script.specs.Lines.{words_of, shard_line, tablet_line, clock_line, play_line, start_line, turn_line, finish_line, tick_line, local_line, crash_line, restart_line, link_reading, cut_line, mend_line, lose_line, repeat_line, one_word, tablet_or_message, two_words, three_words, four_words, plain_line, begins_command, started_line, line_of_words, line_of}
use Rattle.script_commands.specs.Words.{name_reading, server_reading, kind_reading, policy_reading, side_reading}
use Rattle.script_commands.specs.Grammar.{IsCommand, IsOfTablet}
use Rattle.shard_script.specs.Grammar.{IsTypeWord, IsSide, IsLinkLine, Says}
use Rattle.script_commands.proofs.OptionLemmas.{cond_some, bind_some, only_if_some, ok_some, same_bytes, choose}
use Rattle.script_commands.proofs.NumberLemmas.{number_of, number_small, within_of}
use Rattle.script_commands.proofs.DurationLemmas.{duration_of}
use Rattle.shard_script.proofs.NameLemmas.{name_of}
use Rattle.script_commands.proofs.PolicyLemmas.{policy_of}
use Rattle.script_commands.proofs.CommandLemmas.{IsGiven, given_of}

-- ---- from what is read to what is said

says_shard : (line name policy : List ℕ) (x : Line) → words_of line ≡ codes "shard" ∷ name ∷ policy ∷ [] → shard_line name policy ≡ Some x → Says line x
unfolding shard_line
says_shard line name policy x words h =
    let p = bind_some (shard_name_reading name) (λ n. policy_reading policy >>= (λ d. Some (Shard n d))) x h in
    let q = bind_some (policy_reading policy) (λ d. Some (Shard p.0 d)) x p.2 in
    let is : Shard p.0 q.0 ≡ x = (let e : Some (Shard p.0 q.0) ≡ Some x = q.2 in cc) in
    subst (λ (y : Line). Says line y) is (record { name_text = name; words = words ∙ ap (λ (t : List ℕ). codes "shard" ∷ name ∷ t ∷ []) (policy_of policy q.0 q.1); name_is = p.1 })

type_word : (text : List ℕ) (kind : TabletType) → kind_reading text ≡ Some kind → IsTypeWord text kind
type_word text kind h =
    let if_spare : Option TabletType = cond (bytes_eq text (codes "spare")) (Some Spare) None in
    choose (IsTypeWord text kind) (bytes_eq text (codes "replica")) (Some Replica) (cond (bytes_eq text (codes "rdonly")) (Some Rdonly) if_spare) kind h
    (λ is got. let e : Replica ≡ kind = (cc) in subst (λ (k : TabletType). IsTypeWord text k) e (same_bytes text (codes "replica") is))
    (λ behind_replica. choose (IsTypeWord text kind) (bytes_eq text (codes "rdonly")) (Some Rdonly) if_spare kind behind_replica
    (λ is got. let e : Rdonly ≡ kind = (cc) in subst (λ (k : TabletType). IsTypeWord text k) e (same_bytes text (codes "rdonly") is))
    (λ last. let p = only_if_some (bytes_eq text (codes "spare")) Spare kind last in subst (λ (k : TabletType). IsTypeWord text k) p.1 (same_bytes text (codes "spare") p.0)))

says_tablet : (line alias kind server : List ℕ) (x : Line) → words_of line ≡ codes "tablet" ∷ alias ∷ kind ∷ server ∷ [] → tablet_line alias kind server ≡ Some x → Says line x
unfolding tablet_line
says_tablet line alias kind server x words h =
    let p = bind_some (result_ok (alias_reading alias)) (λ a. kind_reading kind >>= (λ k. server_reading server >>= (λ s. Some (Tablet (record { alias = a; server = s; kind = k }))))) x h in
    let q = bind_some (kind_reading kind) (λ k. server_reading server >>= (λ s. Some (Tablet (record { alias = p.0; server = s; kind = k })))) x p.2 in
    let r = bind_some (server_reading server) (λ s. Some (Tablet (record { alias = p.0; server = s; kind = q.0 }))) x q.2 in
    let is : Tablet (record { alias = p.0; server = r.0; kind = q.0 }) ≡ x = (let e : Some (Tablet (record { alias = p.0; server = r.0; kind = q.0 })) ≡ Some x = r.2 in cc) in
    subst (λ (y : Line). Says line y) is (record {
      alias_text = alias;
      type_text = kind;
      server_text = server;
      words = words;
      alias_is = ok_some (alias_reading alias) p.0 p.1;
      type_is = type_word kind q.0 q.1;
      server_is = r.1;
    })

says_clock : (line moment : List ℕ) (x : Line) → words_of line ≡ codes "clock" ∷ moment ∷ [] → clock_line moment ≡ Some x → Says line x
unfolding clock_line
says_clock line moment x words h =
    let p = bind_some (moment_reading moment) (λ m. Some (Clock m)) x h in
    let is : Clock p.0 ≡ x = (let e : Some (Clock p.0) ≡ Some x = p.2 in cc) in
    subst (λ (y : Line). Says line y) is (record { moment_text = moment; words = words; moment_is = p.1 })

says_play : (line : List ℕ) (words : List (List ℕ)) (given : Option Given) (x : Line) → words_of line ≡ words → ((g : Given) → given ≡ Some g → IsGiven words g) → play_line given ≡ Some x → Says line x
unfolding play_line
says_play line words given x split says h =
    let p = bind_some given (λ g. Some (Act (Play g.command g.count))) x h in
    let is : Act (Play p.0.command p.0.count) ≡ x = (let e : Some (Act (Play p.0.command p.0.count)) ≡ Some x = p.2 in cc) in
    subst (λ (y : Line). Says line y) is (subst (λ (ws : List (List ℕ)). IsCommand ws p.0.command p.0.count) (sym split) (says p.0 p.1))

says_start : (line name : List ℕ) (words : List (List ℕ)) (given : Option Given) (x : Line) → words_of line ≡ codes "start" ∷ name ∷ words → ((g : Given) → given ≡ Some g → IsGiven words g) → start_line name given ≡ Some x → Says line x
unfolding start_line
says_start line name words given x split says h =
    let p = bind_some (name_reading name) (λ n. given >>= (λ g. only_if (g.count == 1) (Act (Start n g.command)))) x h in
    let q = bind_some given (λ g. only_if (g.count == 1) (Act (Start p.0 g.command))) x p.2 in
    let r = only_if_some (q.0.count == 1) (Act (Start p.0 q.0.command)) x q.2 in
    let named = name_of name p.0 p.1 in
    let one : q.0.count ≡ 1 = eqb-true q.0.count 1 r.0 in
    subst (λ (y : Line). Says line y) r.1 (record {
      command_words = words;
      words = split ∙ ap (λ (t : List ℕ). codes "start" ∷ t ∷ words) named.0;
      is_name = named.1;
      once = subst (λ (k : ℕ). IsCommand words q.0.command k) one (says q.0 q.1);
    })

says_turn : (line name pumps : List ℕ) (x : Line) → words_of line ≡ codes "turn" ∷ name ∷ pumps ∷ [] → turn_line name pumps ≡ Some x → Says line x
unfolding turn_line
says_turn line name pumps x words h =
    let p = bind_some (name_reading name) (λ n. number_within 1 1000000 pumps >>= (λ k. Some (Act (Turn n k)))) x h in
    let q = bind_some (number_within 1 1000000 pumps) (λ k. Some (Act (Turn p.0 k))) x p.2 in
    let is : Act (Turn p.0 q.0) ≡ x = (let e : Some (Act (Turn p.0 q.0)) ≡ Some x = q.2 in cc) in
    let named = name_of name p.0 p.1 in
    let within = within_of 1 1000000 pumps q.0 q.1 in
    subst (λ (y : Line). Says line y) is (record {
      digits = pumps;
      words = words ∙ ap (λ (t : List ℕ). codes "turn" ∷ t ∷ pumps ∷ []) named.0;
      is_name = named.1;
      number = within.number;
      from_one = within.from_least;
      to_million = within.to_most;
    })

says_finish : (line name : List ℕ) (x : Line) → words_of line ≡ codes "finish" ∷ name ∷ [] → finish_line name ≡ Some x → Says line x
unfolding finish_line
says_finish line name x words h =
    let p = bind_some (name_reading name) (λ n. Some (Act (Finish n))) x h in
    let is : Act (Finish p.0) ≡ x = (let e : Some (Act (Finish p.0)) ≡ Some x = p.2 in cc) in
    let named = name_of name p.0 p.1 in
    subst (λ (y : Line). Says line y) is (record { words = words ∙ ap (λ (t : List ℕ). codes "finish" ∷ t ∷ []) named.0; is_name = named.1 })

says_tick : (line duration : List ℕ) (x : Line) → words_of line ≡ codes "tick" ∷ duration ∷ [] → tick_line duration ≡ Some x → Says line x
unfolding tick_line
says_tick line duration x words h =
    let p = bind_some (duration_reading duration) (λ n. Some (Act (Tick n))) x h in
    let is : Act (Tick p.0) ≡ x = (let e : Some (Act (Tick p.0)) ≡ Some x = p.2 in cc) in
    let d = duration_of duration p.0 p.1 in
    subst (λ (y : Line). Says line y) is (record {
      digits = d.digits;
      unit_text = d.unit_text;
      words = words ∙ ap (λ (t : List ℕ). codes "tick" ∷ t ∷ []) d.split;
      count = d.count;
      number = d.number;
      few_digits = d.few_digits;
      unit = d.unit;
      is_unit = d.is_unit;
      value = d.value;
      to_a_day = d.to_a_day;
    })

-- a line that does something with one tablet
says_tablet_act : (line head text : List ℕ) (make : Alias → Action) (x : Line) → words_of line ≡ head ∷ text ∷ [] → ((a : Alias) → IsOfTablet head (words_of line) a → Says line (Act (make a))) → (result_ok (alias_reading text) >>= (λ a. Some (Act (make a)))) ≡ Some x → Says line x
says_tablet_act line head text make x words says h =
    let p = bind_some (result_ok (alias_reading text)) (λ a. Some (Act (make a))) x h in
    let is : Act (make p.0) ≡ x = (let e : Some (Act (make p.0)) ≡ Some x = p.2 in cc) in
    subst (λ (y : Line). Says line y) is (says p.0 (record { alias_text = text; words_are = words; alias_is = ok_some (alias_reading text) p.0 p.1 }))

says_local : (line alias : List ℕ) (x : Line) → words_of line ≡ codes "local" ∷ alias ∷ [] → local_line alias ≡ Some x → Says line x
unfolding local_line
says_local line alias x words h = says_tablet_act line (codes "local") alias (λ a. Local a) x words (λ a is. is) h

says_restart : (line alias : List ℕ) (x : Line) → words_of line ≡ codes "restart" ∷ alias ∷ [] → restart_line alias ≡ Some x → Says line x
unfolding restart_line
says_restart line alias x words h = says_tablet_act line (codes "restart") alias (λ a. Restart a) x words (λ a is. is) h

says_crash : (line alias keep count : List ℕ) (x : Line) → words_of line ≡ codes "crash" ∷ alias ∷ keep ∷ count ∷ [] → crash_line alias keep count ≡ Some x → Says line x
unfolding crash_line
says_crash line alias keep count x words h =
    let p = cond_some (bytes_eq keep (codes "keep")) (result_ok (alias_reading alias) >>= (λ a. number_reading count >>= (λ n. Some (Act (Crash a n))))) x h in
    let q = bind_some (result_ok (alias_reading alias)) (λ a. number_reading count >>= (λ n. Some (Act (Crash a n)))) x p.1 in
    let r = bind_some (number_reading count) (λ n. Some (Act (Crash q.0 n))) x q.2 in
    let is : Act (Crash q.0 r.0) ≡ x = (let e : Some (Act (Crash q.0 r.0)) ≡ Some x = r.2 in cc) in
    let word : keep ≡ codes "keep" = same_bytes keep (codes "keep") p.0 in
    subst (λ (y : Line). Says line y) is (record {
      alias_text = alias;
      digits = count;
      words = words ∙ ap (λ (t : List ℕ). codes "crash" ∷ alias ∷ t ∷ count ∷ []) word;
      alias_is = ok_some (alias_reading alias) q.0 q.1;
      number = number_of count r.0 r.1;
      small = number_small count r.0 r.1;
    })

side_of : (text : List ℕ) (s : Side) → side_reading text ≡ Some s → IsSide text s
unfolding side_reading
side_of text s h =
    choose (IsSide text s) (bytes_eq text (codes "control")) (Some sides.Control) (result_ok (alias_reading text) >>= (λ a. Some (sides.Tablet a))) s h
    (λ is got. let e : sides.Control ≡ s = (cc) in subst (λ (t : Side). IsSide text t) e (same_bytes text (codes "control") is))
    (λ rest. let p = bind_some (result_ok (alias_reading text)) (λ a. Some (sides.Tablet a)) s rest in
    let e : sides.Tablet p.0 ≡ s = (let f : Some (sides.Tablet p.0) ≡ Some s = p.2 in cc) in
    subst (λ (t : Side). IsSide text t) e (ok_some (alias_reading text) p.0 p.1))

link_of : (line head a b : List ℕ) (l : Link) → words_of line ≡ head ∷ a ∷ b ∷ [] → link_reading a b ≡ Some l → IsLinkLine head line l.x l.y
unfolding link_reading
link_of line head a b l words h =
    let p = bind_some (side_reading a) (λ x. side_reading b >>= (λ y. only_if (are_ends x y) (record { x = x; y = y }))) l h in
    let q = bind_some (side_reading b) (λ y. only_if (are_ends p.0 y) (record { x = p.0; y = y })) l p.2 in
    let made : Link = record { x = p.0; y = q.0 } in
    let r = only_if_some (are_ends p.0 q.0) made l q.2 in
    subst (λ (k : Link). IsLinkLine head line k.x k.y) r.1 (record { x_text = a; y_text = b; words = words; x_is = side_of a p.0 p.1; y_is = side_of b q.0 q.1; ends = r.0 })

says_cut : (line a b : List ℕ) (x : Line) → words_of line ≡ codes "cut" ∷ a ∷ b ∷ [] → cut_line a b ≡ Some x → Says line x
unfolding cut_line
says_cut line a b x words h =
    let p = bind_some (link_reading a b) (λ l. Some (Act (Cut l.x l.y))) x h in
    let is : Act (Cut p.0.x p.0.y) ≡ x = (let e : Some (Act (Cut p.0.x p.0.y)) ≡ Some x = p.2 in cc) in
    subst (λ (y : Line). Says line y) is (link_of line (codes "cut") a b p.0 words p.1)

says_mend : (line a b : List ℕ) (x : Line) → words_of line ≡ codes "mend" ∷ a ∷ b ∷ [] → mend_line a b ≡ Some x → Says line x
unfolding mend_line
says_mend line a b x words h =
    let p = bind_some (link_reading a b) (λ l. Some (Act (Mend l.x l.y))) x h in
    let is : Act (Mend p.0.x p.0.y) ≡ x = (let e : Some (Act (Mend p.0.x p.0.y)) ≡ Some x = p.2 in cc) in
    subst (λ (y : Line). Says line y) is (link_of line (codes "mend") a b p.0 words p.1)

says_lose : (line digits : List ℕ) (x : Line) → words_of line ≡ codes "lose" ∷ digits ∷ [] → lose_line digits ≡ Some x → Says line x
unfolding lose_line
says_lose line digits x words h =
    let p = bind_some (number_reading digits) (λ k. Some (Act (Lose k))) x h in
    let is : Act (Lose p.0) ≡ x = (let e : Some (Act (Lose p.0)) ≡ Some x = p.2 in cc) in
    subst (λ (y : Line). Says line y) is (record { digits = digits; words = words; number = number_of digits p.0 p.1; small = number_small digits p.0 p.1 })

says_repeat : (line digits : List ℕ) (x : Line) → words_of line ≡ codes "repeat" ∷ digits ∷ [] → repeat_line digits ≡ Some x → Says line x
unfolding repeat_line
says_repeat line digits x words h =
    let p = bind_some (number_reading digits) (λ k. Some (Act (Repeat k))) x h in
    let is : Act (Repeat p.0) ≡ x = (let e : Some (Act (Repeat p.0)) ≡ Some x = p.2 in cc) in
    subst (λ (y : Line). Says line y) is (record { digits = digits; words = words; number = number_of digits p.0 p.1; small = number_small digits p.0 p.1 })

-- ---- by the first word, which is told by its test

first_is : (line a b : List ℕ) (rest : List (List ℕ)) → words_of line ≡ a ∷ rest → bytes_eq a b ≡ true → words_of line ≡ b ∷ rest
first_is line a b rest words h = words ∙ ap (λ (t : List ℕ). t ∷ rest) (same_bytes a b h)

says_one : (line a : List ℕ) (x : Line) → words_of line ≡ a ∷ [] → one_word a ≡ Some x → Says line x
says_one line a x words h =
    choose (Says line x) (bytes_eq a (codes "lapse")) (Some (Act Lapse)) (cond (bytes_eq a (codes "settle")) (Some (Act Settle)) None) x h
    (λ is got. let e : Act Lapse ≡ x = (cc) in subst (λ (y : Line). Says line y) e (first_is line a (codes "lapse") [] words is))
    (λ last. let p = only_if_some (bytes_eq a (codes "settle")) (Act Settle) x last in subst (λ (y : Line). Says line y) p.1 (first_is line a (codes "settle") [] words p.0))

says_tablet_or_message : (line a b : List ℕ) (x : Line) → words_of line ≡ a ∷ b ∷ [] → tablet_or_message a b ≡ Some x → Says line x
says_tablet_or_message line a b x words h =
    let if_repeat : Option Line = cond (bytes_eq a (codes "repeat")) (repeat_line b) None in
    let if_lose : Option Line = cond (bytes_eq a (codes "lose")) (lose_line b) if_repeat in
    choose (Says line x) (bytes_eq a (codes "local")) (local_line b) (cond (bytes_eq a (codes "restart")) (restart_line b) if_lose) x h
    (λ is got. says_local line b x (first_is line a (codes "local") (b ∷ []) words is) got)
    (λ behind_local. choose (Says line x) (bytes_eq a (codes "restart")) (restart_line b) if_lose x behind_local
    (λ is got. says_restart line b x (first_is line a (codes "restart") (b ∷ []) words is) got)
    (λ behind_restart. choose (Says line x) (bytes_eq a (codes "lose")) (lose_line b) if_repeat x behind_restart
    (λ is got. says_lose line b x (first_is line a (codes "lose") (b ∷ []) words is) got)
    (λ last. let p = cond_some (bytes_eq a (codes "repeat")) (repeat_line b) x last in says_repeat line b x (first_is line a (codes "repeat") (b ∷ []) words p.0) p.1)))

says_two : (line a b : List ℕ) (x : Line) → words_of line ≡ a ∷ b ∷ [] → two_words a b ≡ Some x → Says line x
says_two line a b x words h =
    let if_tick : Option Line = cond (bytes_eq a (codes "tick")) (tick_line b) (tablet_or_message a b) in
    choose (Says line x) (bytes_eq a (codes "clock")) (clock_line b) (cond (bytes_eq a (codes "finish")) (finish_line b) if_tick) x h
    (λ is got. says_clock line b x (first_is line a (codes "clock") (b ∷ []) words is) got)
    (λ behind_clock. choose (Says line x) (bytes_eq a (codes "finish")) (finish_line b) if_tick x behind_clock
    (λ is got. says_finish line b x (first_is line a (codes "finish") (b ∷ []) words is) got)
    (λ others. choose (Says line x) (bytes_eq a (codes "tick")) (tick_line b) (tablet_or_message a b) x others
    (λ is got. says_tick line b x (first_is line a (codes "tick") (b ∷ []) words is) got)
    (λ last. says_tablet_or_message line a b x words last)))

says_three : (line a b c : List ℕ) (x : Line) → words_of line ≡ a ∷ b ∷ c ∷ [] → three_words a b c ≡ Some x → Says line x
says_three line a b c x words h =
    let if_mend : Option Line = cond (bytes_eq a (codes "mend")) (mend_line b c) None in
    let if_cut : Option Line = cond (bytes_eq a (codes "cut")) (cut_line b c) if_mend in
    choose (Says line x) (bytes_eq a (codes "shard")) (shard_line b c) (cond (bytes_eq a (codes "turn")) (turn_line b c) if_cut) x h
    (λ is got. says_shard line b c x (first_is line a (codes "shard") (b ∷ c ∷ []) words is) got)
    (λ behind_shard. choose (Says line x) (bytes_eq a (codes "turn")) (turn_line b c) if_cut x behind_shard
    (λ is got. says_turn line b c x (first_is line a (codes "turn") (b ∷ c ∷ []) words is) got)
    (λ behind_turn. choose (Says line x) (bytes_eq a (codes "cut")) (cut_line b c) if_mend x behind_turn
    (λ is got. says_cut line b c x (first_is line a (codes "cut") (b ∷ c ∷ []) words is) got)
    (λ last. let p = cond_some (bytes_eq a (codes "mend")) (mend_line b c) x last in says_mend line b c x (first_is line a (codes "mend") (b ∷ c ∷ []) words p.0) p.1)))

says_four : (line a b c d : List ℕ) (x : Line) → words_of line ≡ a ∷ b ∷ c ∷ d ∷ [] → four_words a b c d ≡ Some x → Says line x
says_four line a b c d x words h =
    choose (Says line x) (bytes_eq a (codes "tablet")) (tablet_line b c d) (cond (bytes_eq a (codes "crash")) (crash_line b c d) None) x h
    (λ is got. says_tablet line b c d x (first_is line a (codes "tablet") (b ∷ c ∷ d ∷ []) words is) got)
    (λ last. let p = cond_some (bytes_eq a (codes "crash")) (crash_line b c d) x last in says_crash line b c d x (first_is line a (codes "crash") (b ∷ c ∷ d ∷ []) words p.0) p.1)

too_many : (a b c d e : List ℕ) (ws : List (List ℕ)) → plain_line a (b ∷ c ∷ d ∷ e ∷ ws) ≡ None
too_many a b c d e ws =
    let none : eqb (length (b ∷ c ∷ d ∷ e ∷ ws)) 0 ≡ false = grind (arith, nat_tests) in
    let one : eqb (length (b ∷ c ∷ d ∷ e ∷ ws)) 1 ≡ false = grind (arith, nat_tests) in
    let two : eqb (length (b ∷ c ∷ d ∷ e ∷ ws)) 2 ≡ false = grind (arith, nat_tests) in
    let three : eqb (length (b ∷ c ∷ d ∷ e ∷ ws)) 3 ≡ false = grind (arith, nat_tests) in
    rw (none, one, two, three) refl

says_plain : (line head : List ℕ) (words : List (List ℕ)) (x : Line) → words_of line ≡ head ∷ words → plain_line head words ≡ Some x → Says line x
says_plain line a [] x e h = says_one line a x e h
says_plain line a (b ∷ []) x e h = says_two line a b x e h
says_plain line a (b ∷ c ∷ []) x e h = says_three line a b c x e h
says_plain line a (b ∷ c ∷ d ∷ []) x e h = says_four line a b c d x e h
says_plain line a (b ∷ c ∷ d ∷ f ∷ ws) x e h = absurd (let none : None ≡ Some x = sym (too_many a b c d f ws) ∙ h in cc)

says_started : (line : List ℕ) (words : List (List ℕ)) (x : Line) → words_of line ≡ codes "start" ∷ words → started_line words ≡ Some x → Says line x
says_started line [] x e h = absurd (cc)
says_started line (name ∷ words) x e h = says_start line name words (command_of words) x e (λ g got. given_of words g got) h

says_words : (line : List ℕ) (words : List (List ℕ)) (x : Line) → words_of line ≡ words → line_of_words words ≡ Some x → Says line x
unfolding line_of_words
says_words line [] x e h = absurd (cc)
says_words line (head ∷ words) x e h =
    let if_command : Option Line = cond (begins_command head) (play_line (command_of (head ∷ words))) (plain_line head words) in
    choose (Says line x) (bytes_eq head (codes "start")) (started_line words) if_command x h
    (λ is got. says_started line words x (first_is line head (codes "start") words e is) got)
    (λ others. choose (Says line x) (begins_command head) (play_line (command_of (head ∷ words))) (plain_line head words) x others
    (λ is got. says_play line (head ∷ words) (command_of (head ∷ words)) x e (λ g was. given_of (head ∷ words) g was) got)
    (λ last. says_plain line head words x e last))

pub says_of : (line : List ℕ) (x : Line) → line_of line ≡ Some x → Says line x
says_of line x h = says_words line (words_of line) x refl h
