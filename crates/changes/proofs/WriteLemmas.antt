-- A write, which a primary alone takes.
use Rattle.std.proofs.Common.{◌≡◌, ℕ, ◌+◌, ◌-◌, List, [], ◌∷◌, ◌++◌, length, take, unwrap_or, Bool, true, false, Option, Some, None, ◌&&◌, is_some, Result, Ok, Err, IfOk, OnOk, cond, refl, ap, sym, ◌∙◌, arith, length-append}
use Rattle.std.proofs.Math.Seq.{take-append_seam}
use Rattle.std.proofs.lemmas.Bool.{false≢true}
use Rattle.shard_names.specs.declared.alias.Alias.{Alias}
use Rattle.shard_names.specs.declared.tablet.Tablet.{Tablet}
use Rattle.shard_names.specs.Tablets.{alias_eq, tablet_of}
use Rattle.shard_names.proofs.TabletLemmas.{alias_eq_is, both_right}
use Rattle.gtid_sets.specs.Logs.{next_gtid}
use Rattle.gtid_sets.specs.declared.entry.Kind.TheVariants as kinds
use Rattle.gtid_sets.specs.declared.gtid.Gtid.{Gtid}
use Rattle.shard_calls.specs.declared.group.Group.{Group}
use Rattle.shard_calls.specs.declared.event.Reply.{Reply}
use Rattle.shard_calls.specs.declared.event.Reply.TheVariants as replies
use Rattle.shard_calls.specs.declared.outcome.Written.{Written}
use Rattle.shard_calls.specs.declared.outcome.Written.TheVariants as writtens
use Rattle.shard_calls.specs.declared.stand.Stand.{Stand}
use Rattle.shard_calls.specs.declared.state.Act.{Act}
use Rattle.shard_calls.specs.declared.state.Act.TheVariants as acts
use Rattle.shard_calls.specs.declared.state.CommandState.{CommandState}
use Rattle.shard_calls.specs.declared.state.Wrote.{Wrote}
use Rattle.shard_calls.specs.Stands.{primary_term, standing_of}
use Rattle.shard_calls.specs.Tablets.{TabletState, Verdict, only_says, writes, writes_own}
use Rattle.shard_calls.specs.World.{Config, World, at_tablet, on_tablet, on_command, changed_at, with_act, open_command}
use Rattle.shard_calls.specs.Deliveries.{if_declared}
use Rattle.shard_calls.specs.Writes.{may_write, with_written, writes_at, writes_in, written_reply, write_reply}
use Rattle.changes.specs.Places.{without_act}
use Rattle.changes.proofs.ActLemmas.{changed_twice, changed_same}

-- two things of one result
pub both_ok : {T E : Type 0} (r : Result T E) (P : T → Type 0) (X : Type 0) → IfOk r P → OnOk r X → IfOk r (λ x. P x × X)
both_ok (Ok x) P X p q = (p, q)
both_ok (Err e) P X p q = tt

stays_at : (states : Alias → TabletState) (a b : Alias) (t : Bool) → alias_eq a b ≡ t → cond t (states a) (states b) ≡ states b
stays_at states a b true is = ap states (alias_eq_is a b is)
stays_at states a b false is = refl

-- a tablet in the state that it has
pub same_tablet : (states : Alias → TabletState) (a : Alias) → at_tablet states a (states a) ≡ states
same_tablet states a = λ i b. stays_at states a b (alias_eq a b) refl i

abbrev by_primary : Tablet → ℕ → ℕ → TabletState → Option ℕ → Verdict Written
by_primary me client number s o = elim o as (λ _. Verdict Written) [ Some t ↦ writes_own me (kinds.Write t client number) s | None ↦ only_says s (writtens.NotPrimary s.stand) ]

no_primary : (me : Tablet) (client number : ℕ) (s : TabletState) → primary_term s.stand ≡ None → writes me client number s ≡ only_says s (writtens.NotPrimary s.stand)
no_primary me client number s none = ap (λ (o : Option ℕ). by_primary me client number s o) none

refused_at : (w : World) (c : ℕ) (a : Alias) (s : CommandState) (me : Tablet) (stand : Stand) (commands : List CommandState) → stand ≡ (w.tablets a).stand → primary_term stand ≡ None
    → commands ≡ changed_at w.commands c (with_act (acts.Wrote a (Err (standing_of stand)))) → (let v : World = record w { commands = commands } in v) ≡ writes_at w c a s me
refused_at w c a s me stand commands is none made =
    let verdict : writes me s.client s.number (w.tablets a) ≡ only_says (w.tablets a) (writtens.NotPrimary (w.tablets a).stand) =
    no_primary me s.client s.number (w.tablets a) (ap (λ (x : Stand). primary_term x) (sym is) ∙ none) in
    let acted : commands ≡ changed_at w.commands c (with_written a (w.tablets a) (writtens.NotPrimary (w.tablets a).stand)) =
    made ∙ ap (λ (x : Stand). changed_at w.commands c (with_act (acts.Wrote a (Err (standing_of x))))) is in
    (λ i. record w { tablets = sym (same_tablet w.tablets a) i; commands = acted i })
    ∙ sym (ap (λ (v : Verdict Written). on_command (on_tablet w a v.state) c (with_written a (w.tablets a) v.says)) verdict)

pub refused : (config : Config) (w : World) (c : ℕ) (a : Alias) (o : Option CommandState) (p : Option Tablet) (stand : Stand) (commands : List CommandState) → open_command w c ≡ o
    → tablet_of config.tablets a ≡ p → (is_some p && may_write o) ≡ true → stand ≡ (w.tablets a).stand → primary_term stand ≡ None
    → commands ≡ changed_at w.commands c (with_act (acts.Wrote a (Err (standing_of stand)))) → (let v : World = record w { commands = commands } in v) ≡ writes_in config w c a (open_command w c)
refused config w c a None p stand commands begun found met is none made = absurd (false≢true (both_right (is_some p) false met))
refused config w c a (Some s) None stand commands begun found met is none made = absurd (false≢true met)
refused config w c a (Some s) (Some me) stand commands begun found met is none made =
    refused_at w c a s me stand commands is none made
    ∙ sym (ap (λ (x : Option Tablet). if_declared x w (writes_at w c a s)) found)
    ∙ sym (ap (λ (x : Option CommandState). writes_in config w c a x) begun)

pub refused_reply : (config : Config) (w : World) (c : ℕ) (a : Alias) (o : Option CommandState) (p : Option Tablet) (stand : Stand) (reply : Reply) → open_command w c ≡ o
    → tablet_of config.tablets a ≡ p → (is_some p && may_write o) ≡ true → stand ≡ (w.tablets a).stand → primary_term stand ≡ None
    → reply ≡ replies.NotPrimary (standing_of stand) → reply ≡ write_reply config w a (open_command w c)
refused_reply config w c a None p stand reply begun found met is none said = absurd (false≢true (both_right (is_some p) false met))
refused_reply config w c a (Some s) None stand reply begun found met is none said = absurd (false≢true met)
refused_reply config w c a (Some s) (Some me) stand reply begun found met is none said =
    said ∙ ap (λ (x : Stand). replies.NotPrimary (standing_of x)) is
    ∙ sym (ap (λ (v : Verdict Written). written_reply v.says) (no_primary me s.client s.number (w.tablets a) (ap (λ (x : Stand). primary_term x) (sym is) ∙ none)))
    ∙ sym (ap (λ (x : Option Tablet). if_declared x replies.Ok (λ me. written_reply (writes me s.client s.number (w.tablets a)).says)) found)
    ∙ sym (ap (λ (x : Option CommandState). write_reply config w a x) begun)

-- ---- a write that is taken

primary : (me : Tablet) (client number term : ℕ) (s : TabletState) → primary_term s.stand ≡ Some term → writes me client number s ≡ writes_own me (kinds.Write term client number) s
primary me client number term s is = ap (λ (o : Option ℕ). by_primary me client number s o) is

-- the act, and then what was written
pub noted : (xs acted made : List CommandState) (c : ℕ) (new act : Act) (wrote : Wrote) → new ≡ act → acted ≡ changed_at xs c (with_act new)
    → made ≡ changed_at acted c (λ s. record s { wrote = Some wrote }) → made ≡ changed_at xs c (λ s. with_act act (record s { wrote = Some wrote }))
noted xs acted made c new act wrote is did wrote_it =
    wrote_it ∙ ap (λ (ys : List CommandState). changed_at ys c (λ s. record s { wrote = Some wrote })) did
    ∙ changed_twice xs c (with_act new) (λ (s : CommandState). record s { wrote = Some wrote })
    ∙ ap (λ (x : Act). changed_at xs c (λ s. with_act x (record s { wrote = Some wrote }))) is

not_done : (s : CommandState) (act : Act) → without_act (with_act act s) ≡ s
not_done s act =
    let size : length (s.acts ++ act ∷ []) - 1 ≡ length s.acts = omega (arith, length-append s.acts (act ∷ [])) in
    let front : take (length (s.acts ++ act ∷ []) - 1) (s.acts ++ act ∷ []) ≡ s.acts = ap (λ (n : ℕ). take n (s.acts ++ act ∷ [])) size ∙ take-append_seam s.acts (act ∷ []) in
    λ i. record s { acts = front i }

-- the act, and then that it is taken back
pub forgotten : (xs acted back : List CommandState) (c : ℕ) (act : Act) → acted ≡ changed_at xs c (with_act act) → back ≡ changed_at acted c without_act → back ≡ xs
forgotten xs acted back c act did undid =
    undid ∙ ap (λ (ys : List CommandState). changed_at ys c without_act) did ∙ changed_twice xs c (with_act act) without_act
    ∙ changed_same xs c (λ (s : CommandState). without_act (with_act act s)) (λ s. not_done s act)

entered_at : (w : World) (c : ℕ) (a : Alias) (s : CommandState) (me : Tablet) (term index : ℕ) (gtid : Gtid) (group : Group) (states : Alias → TabletState) (commands : List CommandState)
    → primary_term (w.tablets a).stand ≡ Some term → index ≡ length (w.tablets a).log + 1 → gtid ≡ next_gtid me.server (w.tablets a).log → group ≡ w.group
    → states ≡ at_tablet w.tablets a (writes me s.client s.number (w.tablets a)).state
    → commands ≡ changed_at w.commands c (λ x. with_act (acts.Wrote a (Ok gtid)) (record x { wrote = Some (record { gtid = gtid; alias = a; term = term; index = index }) }))
    → (let v : World = record w { group = group; tablets = states; commands = commands } in v) ≡ writes_at w c a s me
entered_at w c a s me term index gtid group states commands is place named same stood made =
    let own : writes me s.client s.number (w.tablets a) ≡ writes_own me (kinds.Write term s.client s.number) (w.tablets a) = primary me s.client s.number term (w.tablets a) is in
    let in_term : term ≡ unwrap_or (primary_term (w.tablets a).stand) 0 = sym (ap (λ (o : Option ℕ). unwrap_or o 0) is) in
    let acted : commands ≡ changed_at w.commands c (with_written a (w.tablets a) (writtens.Entry (next_gtid me.server (w.tablets a).log))) =
    made ∙ (λ i. changed_at w.commands c (λ x. with_act (acts.Wrote a (Ok (named i))) (record x { wrote = Some (record { gtid = named i; alias = a; term = in_term i; index = place i }) }))) in
    let says : commands ≡ changed_at w.commands c (with_written a (w.tablets a) (writes me s.client s.number (w.tablets a)).says) =
    acted ∙ sym (ap (λ (v : Verdict Written). changed_at w.commands c (with_written a (w.tablets a) v.says)) own) in
    λ i. record w { group = same i; tablets = stood i; commands = says i }

pub entered : (config : Config) (w : World) (c : ℕ) (a : Alias) (s : CommandState) (me : Tablet) (term index : ℕ) (gtid : Gtid) (group : Group) (states : Alias → TabletState) (commands : List CommandState)
    → open_command w c ≡ Some s → tablet_of config.tablets a ≡ Some me
    → primary_term (w.tablets a).stand ≡ Some term → index ≡ length (w.tablets a).log + 1 → gtid ≡ next_gtid me.server (w.tablets a).log → group ≡ w.group
    → states ≡ at_tablet w.tablets a (writes me s.client s.number (w.tablets a)).state
    → commands ≡ changed_at w.commands c (λ x. with_act (acts.Wrote a (Ok gtid)) (record x { wrote = Some (record { gtid = gtid; alias = a; term = term; index = index }) }))
    → (let v : World = record w { group = group; tablets = states; commands = commands } in v) ≡ writes_in config w c a (open_command w c)
entered config w c a s me term index gtid group states commands begun found is place named same stood made =
    entered_at w c a s me term index gtid group states commands is place named same stood made
    ∙ sym (ap (λ (x : Option Tablet). if_declared x w (writes_at w c a s)) found)
    ∙ sym (ap (λ (x : Option CommandState). writes_in config w c a x) begun)

pub entered_reply : (config : Config) (w : World) (c : ℕ) (a : Alias) (s : CommandState) (me : Tablet) (term : ℕ) (gtid : Gtid) → open_command w c ≡ Some s
    → tablet_of config.tablets a ≡ Some me → primary_term (w.tablets a).stand ≡ Some term → gtid ≡ next_gtid me.server (w.tablets a).log
    → replies.Wrote gtid ≡ write_reply config w a (open_command w c)
entered_reply config w c a s me term gtid begun found is named =
    ap (λ (g : Gtid). replies.Wrote g) named
    ∙ sym (ap (λ (v : Verdict Written). written_reply v.says) (primary me s.client s.number term (w.tablets a) is))
    ∙ sym (ap (λ (x : Option Tablet). if_declared x replies.Ok (λ me. written_reply (writes me s.client s.number (w.tablets a)).says)) found)
    ∙ sym (ap (λ (x : Option CommandState). write_reply config w a x) begun)
