-- What is known of each world to which a history leads: it holds at first, and stays over every step.
use Rattle.std.proofs.Common.{◌≡◌, ℕ, zero, suc, ◌+◌, ◌<◌, List, [], ◌∷◌, true, Option, Some, None, nat_lt, nat_le, refl, sym, subst, arith}
use Rattle.std.proofs.lemmas.Bool.Decides.{Decides-ltb}
use Rattle.shard_base.specs.Options.{◌>>=◌}
use Rattle.shard_names.specs.Tablets.{tablet_of}
use Rattle.shard_names.proofs.TabletLemmas.{both_right}
use Rattle.shard_names.specs.declared.alias.Alias.{Alias}
use Rattle.shard_names.specs.declared.tablet.Tablet.{Tablet}
use Rattle.shard_calls.specs.declared.event.Event.{Event}
use Rattle.shard_calls.specs.declared.event.Event.TheVariants as events
use Rattle.shard_calls.specs.declared.event.Step.{Step}
use Rattle.shard_calls.specs.declared.state.Act.{Act}
use Rattle.shard_calls.specs.declared.state.CommandState.{CommandState}
use Rattle.shard_calls.specs.World.{Config, World, opening, numbered, open_command, term_of}
use Rattle.shard_calls.specs.Messages.{why_given_up, offer_to}
use Rattle.shard_calls.specs.Begins.{ends_by}
use Rattle.shard_calls.specs.Locks.{takes_by, by_term, reads, intends_in, records_in, drains_in, releases_in}
use Rattle.shard_calls.specs.Writes.{writes_at, writes_in, tell_of, told_act, with_told}
use Rattle.shard_calls.specs.Deliveries.{if_declared}
use Rattle.shard_calls.specs.Table.{Met, after, world_after, IsRunFrom}
use Rattle.planned.specs.Course.{WaitsInTime, first_of, may}
use Rattle.planned.specs.Laws.{BeginsInTime, OfEveryWorld, AllWaitInTime, MayIsMet, NextIsMet, NoneBlocks}
use Rattle.shard_core.proofs.KnownLemmas.{IsReached, open_numbered}
use Rattle.planned.proofs.NextLemmas.{AllMet, may_met}
use Rattle.planned.proofs.WaitLemmas.{none_blocks_at}
use Rattle.shard_core.proofs.CommandFitLemmas.{delivery_alone, up_alone, offer_alone, local_alone, commands_after}

-- ---- the clock

abbrev InTime : ℕ → Type 0
InTime clock = clock < 253370764800000

clock_as : (old new : ℕ) → new ≡ old → InTime old → InTime new
clock_as old new same h = subst (λ (n : ℕ). InTime n) (sym same) h

clock_take : (w : World) (c : ℕ) (o : Option CommandState) → (takes_by w c o).clock ≡ w.clock
clock_take w c None = refl
clock_take w c (Some s) = refl

clock_by : (w : World) (f : ℕ → World) (o : Option ℕ) → ((t : ℕ) → (f t).clock ≡ w.clock) → (by_term o w f).clock ≡ w.clock
clock_by w f None h = refl
clock_by w f (Some t) h = h t

clock_write : (config : Config) (w : World) (c : ℕ) (a : Alias) (o : Option CommandState) → (writes_in config w c a o).clock ≡ w.clock
clock_write config w c a None = refl
clock_write config w c a (Some s) = of_tablet (tablet_of config.tablets a)
  where
    of_tablet : (o : Option Tablet) → (if_declared o w (writes_at w c a s)).clock ≡ w.clock
    of_tablet None = refl
    of_tablet (Some me) = refl

clock_told : (w : World) (c : ℕ) (o : Option Act) → (with_told w c o).clock ≡ w.clock
clock_told w c None = refl
clock_told w c (Some act) = refl

clock_end : (w : World) (c : ℕ) (o : Option CommandState) → (ends_by w c o).clock ≡ w.clock
clock_end w c None = refl
clock_end w c (Some s) = refl

clock_after : (config : Config) (w : World) (e : Event) → Met config w e → InTime w.clock → InTime (after config w e).clock
clock_after config w (events.Begin name command) met h = h
clock_after config w (events.Take c) met h = clock_as w.clock _ (clock_take w c (open_command w c)) h
clock_after config w (events.Read c) met h = clock_as w.clock _ (clock_by w (reads w c) (term_of w c) (λ t. refl)) h
clock_after config w (events.Intend c a) met h = clock_as w.clock _ (clock_by w (intends_in w c a) (term_of w c) (λ t. refl)) h
clock_after config w (events.Record c a) met h = clock_as w.clock _ (clock_by w (records_in w c a) (term_of w c) (λ t. refl)) h
clock_after config w (events.Drain c a) met h = clock_as w.clock _ (clock_by w (drains_in w c a) (term_of w c) (λ t. refl)) h
clock_after config w (events.Release c) met h = clock_as w.clock _ (clock_by w (releases_in w c) (term_of w c) (λ t. refl)) h
clock_after config w events.Lapse met h = h
clock_after config w (events.Send c a call) met h = h
clock_after config w (events.Deliver k) met h = clock_as w.clock _ (delivery_alone config w k (numbered w.post k)).clock h
clock_after config w (events.GiveUp c k) met h = clock_as w.clock _ (up_alone w k (why_given_up w c k)).clock h
clock_after config w (events.Offer r) met h = clock_as w.clock _ (offer_alone w (offer_to w r)).clock h
clock_after config w (events.Write c a) met h = clock_as w.clock _ (clock_write config w c a (open_command w c)) h
clock_after config w (events.Tell c) met h = clock_as w.clock _ (clock_told w c (tell_of w c >>= told_act)) h
clock_after config w (events.Local a) met h = clock_as w.clock _ (local_alone config w a).clock h
clock_after config w (events.Crash a keep) met h = h
clock_after config w (events.Restart a) met h = h
clock_after config w (events.Cut x y) met h = h
clock_after config w (events.Mend x y) met h = h
clock_after config w (events.Lose k) met h = h
clock_after config w (events.Tick ms) met h =
    (Decides-ltb (w.clock + ms) 253370764800000).0 (both_right (nat_le ms 86400000) (nat_lt (w.clock + ms) 253370764800000) met)
clock_after config w (events.End c x) met h = clock_as w.clock _ (clock_end w c (open_command w c)) h

-- ---- worlds to which histories lead

none_numbered : {A : Type 0} (n : ℕ) (x : A) → numbered [] n ≡ Some x → ⊥
none_numbered {A} zero x h = (let none : ◌≡◌ {A = Option A} None (Some x) = h in cc)
none_numbered {A} (suc n) x h = (let none : ◌≡◌ {A = Option A} None (Some x) = h in cc)

at_first : (config : Config) → BeginsInTime config → IsReached (opening config)
at_first config time = record {
  clock = (Decides-ltb config.moment 253370764800000).0 time;
  commands = λ c s here. absurd (none_numbered c s here);
}

pub reached_after : (config : Config) (w : World) (e : Event) → Met config w e → IsReached w → IsReached (after config w e)
reached_after config w e met known = record { clock = clock_after config w e met known.clock; commands = commands_after config w e met known.commands }

reached_from : (config : Config) (w : World) (steps : List Step) → IsRunFrom config w steps → IsReached w → IsReached (world_after config w steps)
reached_from config w [] run known = known
reached_from config w (s ∷ ss) run known = reached_from config (after config w s.event) ss run.1 (reached_after config w s.event run.0.met known)

pub reached : OfEveryWorld (λ config w. IsReached w)
reached config steps time run = reached_from config (opening config) steps run (at_first config time)

-- ---- the laws

waits_in_time : (w : World) (c : ℕ) → IsReached w → WaitsInTime w c
waits_in_time w c known s found =
    let clock = known.clock in
    let timeout = (known.commands c s (open_numbered (numbered w.commands c) s found)).in_time in
    omega (arith, clock, timeout)

pub all_wait_in_time : OfEveryWorld AllWaitInTime
all_wait_in_time config steps time run c = waits_in_time _ c (reached config steps time run)

pub may_is_met : OfEveryWorld MayIsMet
may_is_met config steps time run c = may_met config (world_after config (opening config) steps) c

first_met : (config : Config) (w : World) (es : List Event) (e : Event) → AllMet config w es → first_of es ≡ Some e → Met config w e
first_met config w [] e all h = absurd (let none : ◌≡◌ {A = Option Event} None (Some e) = h in cc)
first_met config w (x ∷ es) e all h =
    subst (λ (v : Event). Met config w v) (let same : x ≡ e = (let some : ◌≡◌ {A = Option Event} (Some x) (Some e) = h in cc) in same) all.0

pub next_is_met : OfEveryWorld NextIsMet
next_is_met config steps time run c e h =
    let w : World = world_after config (opening config) steps in first_met config w (may config w c) e (may_is_met config steps time run c) h

pub none_blocks : OfEveryWorld NoneBlocks
none_blocks config steps time run c s found h = none_blocks_at config _ c s (reached config steps time run) found h
