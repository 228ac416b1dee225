-- What a line says is read from it.
use Rattle.std.proofs.Common.{◌≡◌, ℕ, List, ◌∷◌, ◌++◌, Bool, false, cond, Option, Some, None, Result, Ok, refl, sym, ap, subst, ◌∙◌, arith}
use Rattle.std.specs.Prelude.{codes, option_and_then}
use Rattle.std.specs.Result.{result_ok}
use Rattle.std.specs.Str.{bytes_eq}
use Rattle.shard_base.specs.Options.{◌>>=◌, only_if}
use Rattle.shard_names.specs.Alias.{alias_reading}
use Rattle.shard_names.specs.declared.alias.Alias.{Alias}
use Rattle.shard_names.specs.declared.alias.NameFault.{NameFault}
use Rattle.shard_names.specs.declared.shard_name.ShardName.{ShardName}
use Rattle.shard_names.specs.declared.tablet.Tablet.{Tablet as TabletData}
use Rattle.shard_names.specs.declared.tablet.TabletType.{TabletType}
use Rattle.shard_names.specs.declared.tablet.TabletType.TheVariants.{Replica, Rdonly, Spare}
use Rattle.durability.specs.declared.policy.Durability.{Durability}
use Rattle.durability.specs.Policies.{policy_name}
use Rattle.shard_calls.specs.declared.command.Command.{Command}
use Rattle.shard_calls.specs.declared.command.Command.TheVariants.{Planned, Emergency, External, Vtorc, Write, Show, GetShard, GetTablets}
use Rattle.shard_calls.specs.declared.event.Link.{Link}
use Rattle.shard_calls.specs.declared.event.Side.{Side}
use Rattle.shard_calls.specs.declared.event.Side.TheVariants as sides
use Rattle.script_commands.specs.declared.command.Given.{Given}
use Rattle.shard_script.specs.declared.line.Line.{Line}
use Rattle.shard_script.specs.declared.line.Line.TheVariants.{Shard, Tablet, Clock, Act}
use Rattle.shard_script.specs.declared.script.Action.TheVariants.{Play, Start, Turn, Finish, Settle, Local, Crash, Restart, Cut, Mend, Lose, Repeat, Lapse, Tick}
use Rattle.script_commands.specs.Numbers.{number_reading, number_within}
use Rattle.shard_script.specs.Aliases.{are_ends}
use Rattle.shard_script.specs.Lines.{words_of, shard_line, tablet_line, clock_line, play_line, start_line, turn_line, finish_line, tick_line, local_line, crash_line, restart_line, link_reading, cut_line, mend_line, lose_line, repeat_line, line_of_words, line_of}
use Rattle.script_commands.specs.Words.{name_reading, server_reading, kind_reading, policy_reading, side_reading}
use Rattle.script_commands.specs.Commands.{command_of}
use Rattle.script_commands.specs.Grammar.{IsCommand, IsOfTablet}
use Rattle.shard_script.specs.Grammar.{IsShardLine, IsTypeWord, IsTabletLine, IsClockLine, IsStartLine, IsTurnLine, IsFinishLine, IsSettleLine, IsLapseLine, IsTickLine, IsCrashLine, IsSide, IsLinkLine, IsMessageLine, Says}
use Rattle.script_commands.proofs.OptionLemmas.{same_bytes}
use Rattle.script_commands.proofs.NumberLemmas.{number_reads, within_reads}
use Rattle.script_commands.proofs.DurationLemmas.{duration_reads}
use Rattle.shard_script.proofs.NameLemmas.{name_reads, not_same}
use Rattle.script_commands.proofs.CommandLemmas.{command_is}
use Rattle.script_commands.proofs.PolicyLemmas.{policy_is}

shard_read : (line : List ℕ) (name : ShardName) (policy : Durability) → IsShardLine line name policy → line_of line ≡ Some (Shard name policy)
unfolding line_of_words shard_line
shard_read line name policy h =
    ap (λ (ws : List (List ℕ)). line_of_words ws) h.words
    ∙ ap (λ (o : Option ShardName). option_and_then (λ n. policy_reading (policy_name policy) >>= (λ d. Some (Shard n d))) o) h.name_is
    ∙ ap (λ (o : Option Durability). option_and_then (λ d. Some (Shard name d)) o) (policy_is policy)

kind_is : (text : List ℕ) (kind : TabletType) → IsTypeWord text kind → kind_reading text ≡ Some kind
kind_is text Replica h = ap (λ (t : List ℕ). kind_reading t) h
kind_is text Rdonly h = ap (λ (t : List ℕ). kind_reading t) h
kind_is text Spare h = ap (λ (t : List ℕ). kind_reading t) h

tablet_read : (line : List ℕ) (t : TabletData) → IsTabletLine line t → line_of line ≡ Some (Tablet t)
unfolding line_of_words tablet_line
tablet_read line t h =
    ap (λ (ws : List (List ℕ)). line_of_words ws) h.words
    ∙ ap (λ (r : Result Alias NameFault). option_and_then (λ a. kind_reading h.type_text >>= (λ k. server_reading h.server_text >>= (λ s. Some (Tablet (record { alias = a; server = s; kind = k }))))) (result_ok r)) h.alias_is
    ∙ ap (λ (o : Option TabletType). option_and_then (λ k. server_reading h.server_text >>= (λ s. Some (Tablet (record { alias = t.alias; server = s; kind = k })))) o) (kind_is h.type_text t.kind h.type_is)
    ∙ ap (λ (o : Option (List ℕ)). option_and_then (λ s. Some (Tablet (record { alias = t.alias; server = s; kind = t.kind }))) o) h.server_is

clock_read : (line : List ℕ) (moment : ℕ) → IsClockLine line moment → line_of line ≡ Some (Clock moment)
unfolding line_of_words clock_line
clock_read line moment h =
    ap (λ (ws : List (List ℕ)). line_of_words ws) h.words
    ∙ ap (λ (o : Option ℕ). option_and_then (λ m. Some (Clock m)) o) h.moment_is

-- words of a command are no `start`
played : (words : List (List ℕ)) (command : Command) (n : ℕ) → IsCommand words command n → line_of_words words ≡ play_line (command_of words)
unfolding line_of_words
played words (Planned name given avoid expected timeout allow_cross_cell) n h = subst (λ (ws : List (List ℕ)). line_of_words ws ≡ play_line (command_of ws)) (sym h.0.words_are) refl
played words (Emergency name given ignored expected timeout prevent_cross_cell) n h = subst (λ (ws : List (List ℕ)). line_of_words ws ≡ play_line (command_of ws)) (sym h.0.words_are) refl
played words (External a) n h = subst (λ (ws : List (List ℕ)). line_of_words ws ≡ play_line (command_of ws)) (sym h.0.words_are) refl
played words Vtorc n h = subst (λ (ws : List (List ℕ)). line_of_words ws ≡ play_line (command_of ws)) (sym h.0) refl
played words (Write None) n h = subst (λ (ws : List (List ℕ)). line_of_words ws ≡ play_line (command_of ws)) (sym h.words_are) refl
played words (Write (Some a)) n h = subst (λ (ws : List (List ℕ)). line_of_words ws ≡ play_line (command_of ws)) (sym h.words_are) refl
played words (Show a) n h = subst (λ (ws : List (List ℕ)). line_of_words ws ≡ play_line (command_of ws)) (sym h.0.words_are) refl
played words (GetShard name) n h = subst (λ (ws : List (List ℕ)). line_of_words ws ≡ play_line (command_of ws)) (sym h.0.words_are) refl
played words (GetTablets name) n h = subst (λ (ws : List (List ℕ)). line_of_words ws ≡ play_line (command_of ws)) (sym h.0.words_are) refl

-- a command that is played
play_read : (line : List ℕ) (command : Command) (n : ℕ) → IsCommand (words_of line) command n → line_of line ≡ Some (Act (Play command n))
unfolding play_line
play_read line command n h = played (words_of line) command n h ∙ ap (λ (o : Option Given). play_line o) (command_is (words_of line) command n h)

-- a name and a command that is given once
started : (name : List ℕ) (command : Command) → name_reading name ≡ Some name → start_line name (Some (record { command = command; count = 1 })) ≡ Some (Act (Start name command))
unfolding start_line
started name command is_name =
    ap (λ (o : Option (List ℕ)). let r : Option Line = option_and_then (λ n. Some (Act (Start n command))) o in r) is_name

-- the words of a command behind `start NAME`
start_words : (name : List ℕ) (words : List (List ℕ)) (command : Command) → IsCommand words command 1 → line_of_words (codes "start" ∷ name ∷ words) ≡ start_line name (Some (record { command = command; count = 1 }))
unfolding line_of_words
start_words name words command h = ap (λ (o : Option Given). start_line name o) (command_is words command 1 h)

start_read : (line name : List ℕ) (command : Command) → IsStartLine line name command → line_of line ≡ Some (Act (Start name command))
start_read line name command h =
    ap (λ (ws : List (List ℕ)). line_of_words ws) h.words ∙ start_words name h.command_words command h.once ∙ started name command (name_reads name h.is_name)

turn_read : (line name : List ℕ) (pumps : ℕ) → IsTurnLine line name pumps → line_of line ≡ Some (Act (Turn name pumps))
unfolding line_of_words turn_line
turn_read line name pumps h =
    ap (λ (ws : List (List ℕ)). line_of_words ws) h.words
    ∙ ap (λ (o : Option (List ℕ)). option_and_then (λ n. number_within 1 1000000 h.digits >>= (λ k. Some (Act (Turn n k)))) o) (name_reads name h.is_name)
    ∙ ap (λ (o : Option ℕ). option_and_then (λ k. Some (Act (Turn name k))) o) (within_reads 1 1000000 h.digits pumps h.number h.from_one h.to_million (omega arith))

finish_read : (line name : List ℕ) → IsFinishLine line name → line_of line ≡ Some (Act (Finish name))
unfolding line_of_words finish_line
finish_read line name h =
    ap (λ (ws : List (List ℕ)). line_of_words ws) h.words
    ∙ ap (λ (o : Option (List ℕ)). option_and_then (λ n. Some (Act (Finish n))) o) (name_reads name h.is_name)

lapse_read : (line : List ℕ) → IsLapseLine line → line_of line ≡ Some (Act Lapse)
unfolding line_of_words
lapse_read line h = ap (λ (ws : List (List ℕ)). line_of_words ws) h

settle_read : (line : List ℕ) → IsSettleLine line → line_of line ≡ Some (Act Settle)
unfolding line_of_words
settle_read line h = ap (λ (ws : List (List ℕ)). line_of_words ws) h

local_read : (line : List ℕ) (a : Alias) → IsOfTablet (codes "local") (words_of line) a → line_of line ≡ Some (Act (Local a))
unfolding line_of_words local_line
local_read line a h =
    ap (λ (ws : List (List ℕ)). line_of_words ws) h.words_are
    ∙ ap (λ (r : Result Alias NameFault). option_and_then (λ b. Some (Act (Local b))) (result_ok r)) h.alias_is

restart_read : (line : List ℕ) (a : Alias) → IsOfTablet (codes "restart") (words_of line) a → line_of line ≡ Some (Act (Restart a))
unfolding line_of_words restart_line
restart_read line a h =
    ap (λ (ws : List (List ℕ)). line_of_words ws) h.words_are
    ∙ ap (λ (r : Result Alias NameFault). option_and_then (λ b. Some (Act (Restart b))) (result_ok r)) h.alias_is

crash_read : (line : List ℕ) (a : Alias) (keep : ℕ) → IsCrashLine line a keep → line_of line ≡ Some (Act (Crash a keep))
unfolding line_of_words crash_line
crash_read line a keep h =
    ap (λ (ws : List (List ℕ)). line_of_words ws) h.words
    ∙ ap (λ (r : Result Alias NameFault). option_and_then (λ b. number_reading h.digits >>= (λ n. Some (Act (Crash b n)))) (result_ok r)) h.alias_is
    ∙ ap (λ (o : Option ℕ). option_and_then (λ n. Some (Act (Crash a n))) o) (number_reads h.digits keep h.number h.small)

-- the word `control` is no alias
not_control : (text : List ℕ) (a : Alias) → alias_reading text ≡ Ok a → bytes_eq text (codes "control") ≡ false
not_control text a is = not_same (bytes_eq text (codes "control")) (λ same. refused (ap (λ (t : List ℕ). alias_reading t) (sym (same_bytes text (codes "control") same)) ∙ is))
  where
    refused : alias_reading (codes "control") ≡ Ok a → ⊥
    refused h = cc

side_is : (text : List ℕ) (s : Side) → IsSide text s → side_reading text ≡ Some s
unfolding side_reading
side_is text sides.Control h = ap (λ (t : List ℕ). side_reading t) h
side_is text (sides.Tablet a) h =
    ap (λ (b : Bool). cond b (Some sides.Control) (result_ok (alias_reading text) >>= (λ x. Some (sides.Tablet x)))) (not_control text a h)
    ∙ ap (λ (r : Result Alias NameFault). option_and_then (λ x. Some (sides.Tablet x)) (result_ok r)) h

link_is : (head line : List ℕ) (x y : Side) (h : IsLinkLine head line x y) → link_reading h.x_text h.y_text ≡ Some (record { x = x; y = y })
unfolding link_reading
link_is head line x y h =
    ap (λ (o : Option Side). let r : Option Link = option_and_then (λ a. side_reading h.y_text >>= (λ b. only_if (are_ends a b) (record { x = a; y = b }))) o in r) (side_is h.x_text x h.x_is)
    ∙ ap (λ (o : Option Side). let r : Option Link = option_and_then (λ b. only_if (are_ends x b) (record { x = x; y = b })) o in r) (side_is h.y_text y h.y_is)
    ∙ ap (λ (b : Bool). let r : Option Link = cond b (Some (record { x = x; y = y })) None in r) h.ends

cut_read : (line : List ℕ) (x y : Side) → IsLinkLine (codes "cut") line x y → line_of line ≡ Some (Act (Cut x y))
unfolding line_of_words cut_line
cut_read line x y h =
    ap (λ (ws : List (List ℕ)). line_of_words ws) h.words
    ∙ ap (λ (o : Option Link). option_and_then (λ l. Some (Act (Cut l.x l.y))) o) (link_is (codes "cut") line x y h)

mend_read : (line : List ℕ) (x y : Side) → IsLinkLine (codes "mend") line x y → line_of line ≡ Some (Act (Mend x y))
unfolding line_of_words mend_line
mend_read line x y h =
    ap (λ (ws : List (List ℕ)). line_of_words ws) h.words
    ∙ ap (λ (o : Option Link). option_and_then (λ l. Some (Act (Mend l.x l.y))) o) (link_is (codes "mend") line x y h)

lose_read : (line : List ℕ) (k : ℕ) → IsMessageLine (codes "lose") line k → line_of line ≡ Some (Act (Lose k))
unfolding line_of_words lose_line
lose_read line k h =
    ap (λ (ws : List (List ℕ)). line_of_words ws) h.words
    ∙ ap (λ (o : Option ℕ). option_and_then (λ n. Some (Act (Lose n))) o) (number_reads h.digits k h.number h.small)

repeat_read : (line : List ℕ) (k : ℕ) → IsMessageLine (codes "repeat") line k → line_of line ≡ Some (Act (Repeat k))
unfolding line_of_words repeat_line
repeat_read line k h =
    ap (λ (ws : List (List ℕ)). line_of_words ws) h.words
    ∙ ap (λ (o : Option ℕ). option_and_then (λ n. Some (Act (Repeat n))) o) (number_reads h.digits k h.number h.small)

tick_read : (line : List ℕ) (n : ℕ) → IsTickLine line n → line_of line ≡ Some (Act (Tick n))
unfolding line_of_words tick_line
tick_read line n h =
    ap (λ (ws : List (List ℕ)). line_of_words ws) h.words
    ∙ ap (λ (o : Option ℕ). option_and_then (λ k. Some (Act (Tick k))) o) (duration_reads (h.digits ++ h.unit_text) n (record {
      digits = h.digits;
      unit_text = h.unit_text;
      split = refl;
      count = h.count;
      number = h.number;
      few_digits = h.few_digits;
      unit = h.unit;
      is_unit = h.is_unit;
      value = h.value;
      to_a_day = h.to_a_day;
    }))

pub of_says : (line : List ℕ) (x : Line) → Says line x → line_of line ≡ Some x
of_says line (Shard name policy) h = shard_read line name policy h
of_says line (Tablet t) h = tablet_read line t h
of_says line (Clock moment) h = clock_read line moment h
of_says line (Act (Play command n)) h = play_read line command n h
of_says line (Act (Start name command)) h = start_read line name command h
of_says line (Act (Turn name pumps)) h = turn_read line name pumps h
of_says line (Act (Finish name)) h = finish_read line name h
of_says line (Act Settle) h = settle_read line h
of_says line (Act (Local a)) h = local_read line a h
of_says line (Act (Crash a keep)) h = crash_read line a keep h
of_says line (Act (Restart a)) h = restart_read line a h
of_says line (Act (Cut x y)) h = cut_read line x y h
of_says line (Act (Mend x y)) h = mend_read line x y h
of_says line (Act (Lose k)) h = lose_read line k h
of_says line (Act (Repeat k)) h = repeat_read line k h
of_says line (Act Lapse) h = lapse_read line h
of_says line (Act (Tick n)) h = tick_read line n h
