-- Each transaction has one entry: what two logs have of one transaction is the same, and stands in the log of the tablet whose server numbered it.
use Rattle.std.proofs.Common.{◌≡◌, ◌⊎◌, inl, inr, ℕ, zero, suc, ◌+◌, Bool, true, false, ◌||◌, refl, ap, sym, subst, ◌∙◌, arith, List, [], ◌∷◌, ◌++◌, cond, Some, None, length, if◌then◌else◌}
use Rattle.std.proofs.lemmas.Bool.{false≢true}
use Rattle.std.proofs.lemmas.Slice.Eq.{bytes_eq-Decides}
use Rattle.std.specs.List.{slice_get, find, All}
use Rattle.std.specs.Str.{bytes_eq}
use Rattle.shard_names.specs.declared.alias.Alias.{Alias}
use Rattle.shard_names.specs.declared.tablet.Tablet.{Tablet}
use Rattle.shard_names.specs.Tablets.{tablet_of, ServersDiffer}
use Rattle.gtid_sets.specs.declared.gtid.Gtid.{Gtid}
use Rattle.gtid_sets.specs.declared.entry.Entry.{Entry}
use Rattle.gtid_sets.specs.declared.entry.Kind.{Kind}
use Rattle.gtid_sets.specs.declared.entry.Kind.TheVariants as kinds
use Rattle.gtid_sets.specs.Gtid.{gtid_eq}
use Rattle.gtid_sets.proofs.GtidLemmas.{gtid_eq_itself, gtid_eq_is}
use Rattle.shard_calls.specs.declared.event.Event.{Event}
use Rattle.shard_calls.specs.declared.post.Content.TheVariants as contents
use Rattle.gtid_sets.specs.Logs.{holds, with_own, own_number, greatest_number, next_gtid}
use Rattle.shard_calls.specs.World.{Config, IsConfig, World, opening, numbered}
use Rattle.shard_calls.specs.Table.{after}
use Rattle.shard_calls.proofs.ListLemmas.{slice_get-push_cases}
use Rattle.shard_calls.proofs.TouchLemmas.{touched}
use Rattle.shard_calls.proofs.LogChangeLemmas.{LogChange, SameLog, RowEnters, EntryComes, OwnEntry, log_changes}
use Rattle.shard_calls.proofs.WorldLemmas.{Held, Fits, IsSoundWorld, IsLater, get_front}
use Rattle.shard_calls.proofs.StepLemmas.{below_greatest, is_later, alias_found}

-- ---- what a log holds

bytes_eq_itself : (bytes : List ℕ) → bytes_eq bytes bytes ≡ true
bytes_eq_itself bytes = (bytes_eq-Decides bytes bytes).1 refl

pub or_left : (a b : Bool) → a ≡ true → (a || b) ≡ true
or_left true b h = refl
or_left false b h = absurd (false≢true h)

pub or_right : (a b : Bool) → b ≡ true → (a || b) ≡ true
or_right true b h = refl
or_right false b h = h

pub held_gtid : (log : List Entry) (n : ℕ) (e : Entry) → slice_get log n ≡ Some e → holds log e.gtid ≡ true
held_gtid [] n e here = absurd (let none : None ≡ Some e = here in cc)
held_gtid (x ∷ log) zero e here =
    let same : x ≡ e = (let some : Some x ≡ Some e = here in cc) in
    or_left (gtid_eq e.gtid x.gtid) (holds log e.gtid) (subst (λ (y : Entry). gtid_eq e.gtid y.gtid ≡ true) (sym same) (gtid_eq_itself e.gtid))
held_gtid (x ∷ log) (suc n) e here = or_right (gtid_eq e.gtid x.gtid) (holds log e.gtid) (held_gtid log n e here)

-- a transaction that a log holds is that of one of its entries
pub holds_found : (log : List Entry) (g : Gtid) → holds log g ≡ true → (f : Entry) × Held log f × (f.gtid ≡ g)
holds_found [] g h = absurd (false≢true h)
holds_found (x ∷ log) g h = of_test (gtid_eq g x.gtid) refl h (λ k. holds_found log g k)
  where
    of_test : (b : Bool) → gtid_eq g x.gtid ≡ b → (b || holds log g) ≡ true → (holds log g ≡ true → (f : Entry) × Held log f × (f.gtid ≡ g))
        → (f : Entry) × Held (x ∷ log) f × (f.gtid ≡ g)
    of_test true e k rest = (x, (0, refl), sym (gtid_eq_is g x.gtid e))
    of_test false e k rest = let r = rest k in (r.0, (suc r.1.0, r.1.1), r.2)

-- ---- one server, one tablet

all_found : (P : Tablet → Type 0) (p : Tablet → Bool) (ts : List Tablet) (y : Tablet) → find p ts ≡ Some y → All P ts → P y
all_found P p [] y h all = absurd (let none : None ≡ Some y = h in cc)
all_found P p (t ∷ ts) y h all = of_test (p t) h (λ k. all_found P p ts y k (λ i d lt. all (suc i) d (omega (arith, lt))))
  where
    of_test : (b : Bool) → cond b (Some t) (find p ts) ≡ Some y → (find p ts ≡ Some y → P y) → P y
    of_test true k rest = let same : t ≡ y = (let some : Some t ≡ Some y = k in cc) in subst P same (all 0 t (omega arith))
    of_test false k rest = rest k

found_cases : (p : Tablet → Bool) (t y : Tablet) (ts : List Tablet) → find p (t ∷ ts) ≡ Some y → (t ≡ y) ⊎ (find p ts ≡ Some y)
found_cases p t y ts h = of_test (p t) h
  where
    of_test : (b : Bool) → cond b (Some t) (find p ts) ≡ Some y → (t ≡ y) ⊎ (find p ts ≡ Some y)
    of_test true k = inl (let some : Some t ≡ Some y = k in cc)
    of_test false k = inr k

one_server : (p q : Tablet → Bool) (ts : List Tablet) (x y : Tablet) → ServersDiffer ts → find p ts ≡ Some x → find q ts ≡ Some y
    → bytes_eq x.server y.server ≡ true → bytes_eq y.server x.server ≡ true → x ≡ y
one_server p q [] x y differ f g same back = absurd (let none : None ≡ Some x = f in cc)
one_server p q (t ∷ ts) x y differ f g same back =
    of_cases (found_cases p t x ts f) (found_cases q t y ts g) (λ h k. one_server p q ts x y differ.1 h k same back)
  where
    of_cases : (t ≡ x) ⊎ (find p ts ≡ Some x) → (t ≡ y) ⊎ (find q ts ≡ Some y) → (find p ts ≡ Some x → find q ts ≡ Some y → x ≡ y) → x ≡ y
    of_cases (inl h) (inl k) rest = sym h ∙ k
    of_cases (inl h) (inr k) rest =
        absurd (all_found (λ u. bytes_eq t.server u.server ≡ true → ⊥) q ts y k differ.0 (subst (λ (u : Tablet). bytes_eq u.server y.server ≡ true) (sym h) same))
    of_cases (inr h) (inl k) rest =
        absurd (all_found (λ u. bytes_eq t.server u.server ≡ true → ⊥) p ts x h differ.0 (subst (λ (u : Tablet). bytes_eq u.server x.server ≡ true) (sym k) back))
    of_cases (inr h) (inr k) rest = rest h k

-- ---- at home

-- an entry stands in the log of the tablet whose server numbered it
pub record IsHome (config : Config) (w : World) (e : Entry) : Type 0 where
  pub me : Tablet
  pub found : tablet_of config.tablets me.alias ≡ Some me
  pub server : me.server ≡ e.gtid.server
  pub held : Held (w.tablets me.alias).log e

pub record IsUniqueWorld (config : Config) (w : World) : Type 0 where
  pub home : (a : Alias) (n : ℕ) (e : Entry) → slice_get (w.tablets a).log n ≡ Some e → IsHome config w e
  -- no transaction stands twice in a log
  pub apart : (a : Alias) (i j : ℕ) (e f : Entry) → slice_get (w.tablets a).log i ≡ Some e → slice_get (w.tablets a).log j ≡ Some f → e.gtid ≡ f.gtid → i ≡ j

same_place : (log : List Entry) (i j : ℕ) (e f : Entry) → i ≡ j → slice_get log i ≡ Some e → slice_get log j ≡ Some f → e ≡ f
same_place log i j e f same p q = let some : Some e ≡ Some f = sym p ∙ ap (λ (k : ℕ). slice_get log k) same ∙ q in cc

-- what two logs have of one transaction is one entry
pub one_entry : (config : Config) (w : World) → IsConfig config → IsUniqueWorld config w → (a b : Alias) (n k : ℕ) (e f : Entry)
    → slice_get (w.tablets a).log n ≡ Some e → slice_get (w.tablets b).log k ≡ Some f → e.gtid ≡ f.gtid → e ≡ f
one_entry config w is unique a b n k e f at_e at_f same =
    let x = unique.home a n e at_e in
    let y = unique.home b k f at_f in
    let servers : x.me.server ≡ y.me.server = x.server ∙ ap (λ (g : Gtid). g.server) same ∙ sym y.server in
    let tablets : x.me ≡ y.me = one_server _ _ config.tablets x.me y.me is.tablets.apart x.found y.found
    (subst (λ (s : List ℕ). bytes_eq x.me.server s ≡ true) servers (bytes_eq_itself x.me.server))
    (subst (λ (s : List ℕ). bytes_eq s x.me.server ≡ true) servers (bytes_eq_itself x.me.server)) in
    let there : Held (w.tablets x.me.alias).log f = subst (λ (t : Tablet). Held (w.tablets t.alias).log f) (sym tablets) y.held in
    same_place (w.tablets x.me.alias).log x.held.0 there.0 e f (unique.apart x.me.alias x.held.0 there.0 e f x.held.1 there.1 same) x.held.1 there.1

-- ---- one step

-- an entry with this transaction is new
new_gtid : (me : Tablet) (log : List Entry) (n : ℕ) (e : Entry) → slice_get log n ≡ Some e → e.gtid ≡ next_gtid me.server log → ⊥
new_gtid me log n e at same =
    let server : e.gtid.server ≡ me.server = ap (λ (g : Gtid). g.server) same in
    let number : e.gtid.number ≡ greatest_number me.server log + 1 = ap (λ (g : Gtid). g.number) same in
    let test : bytes_eq e.gtid.server me.server ≡ true = subst (λ (s : List ℕ). bytes_eq e.gtid.server s ≡ true) server (bytes_eq_itself e.gtid.server) in
    let own : own_number me.server e ≡ e.gtid.number = ap (λ (b : Bool). if b then e.gtid.number else 0) test in
    let below = below_greatest (own_number me.server) log n e at in
    omega (arith, number, own, below)

abbrev Cases : List Entry → Entry → Entry → ℕ → Type 0
Cases log x e n = (slice_get log n ≡ Some e) ⊎ ((n ≡ length log) × (x ≡ e))

-- one more entry whose transaction the log has not
apart_push : (log : List Entry) (x : Entry) → ((i j : ℕ) (e f : Entry) → slice_get log i ≡ Some e → slice_get log j ≡ Some f → e.gtid ≡ f.gtid → i ≡ j)
    → ((n : ℕ) (e : Entry) → slice_get log n ≡ Some e → e.gtid ≡ x.gtid → ⊥)
    → (i j : ℕ) (e f : Entry) → slice_get (log ++ x ∷ []) i ≡ Some e → slice_get (log ++ x ∷ []) j ≡ Some f → e.gtid ≡ f.gtid → i ≡ j
apart_push log x apart new i j e f p q same = of_cases (slice_get-push_cases log x e i p) (slice_get-push_cases log x f j q)
  where
    of_cases : Cases log x e i → Cases log x f j → i ≡ j
    of_cases (inl a) (inl b) = apart i j e f a b same
    of_cases (inl a) (inr b) = absurd (new i e a (same ∙ ap (λ (y : Entry). y.gtid) (sym b.1)))
    of_cases (inr a) (inl b) = absurd (new j f b (sym same ∙ ap (λ (y : Entry). y.gtid) (sym a.1)))
    of_cases (inr a) (inr b) = a.0 ∙ sym b.0

pub apart_change : (config : Config) (w : World) (a : Alias) (ev : Event) (log : List Entry) → IsUniqueWorld config w → LogChange config w a ev log
    → (i j : ℕ) (e f : Entry) → slice_get log i ≡ Some e → slice_get log j ≡ Some f → e.gtid ≡ f.gtid → i ≡ j
apart_change config w a _ _ unique SameLog i j e f p q same = unique.apart a i j e f p q same
apart_change config w a _ _ unique (RowEnters k d v p me m here carries found none caught) i j e f at_e at_f same =
    apart_push (w.tablets a).log _ (unique.apart a) (λ n x at is. new_gtid me (w.tablets a).log n x at is) i j e f at_e at_f same
apart_change config w a _ _ unique (EntryComes k term before index from x m here carries takes fresh) i j e f at_e at_f same =
    apart_push (w.tablets a).log x (unique.apart a)
    (λ n y at is. false≢true (sym fresh ∙ subst (λ (g : Gtid). holds (w.tablets a).log g ≡ true) is (held_gtid (w.tablets a).log n y at)))
    i j e f at_e at_f same
apart_change config w a _ _ unique (OwnEntry me k none found) i j e f at_e at_f same =
    apart_push (w.tablets a).log _ (unique.apart a) (λ n x at is. new_gtid me (w.tablets a).log n x at is) i j e f at_e at_f same

home_stays : (config : Config) (w v : World) (e : Entry) → IsLater w v → IsHome config w e → IsHome config v e
home_stays config w v e later h = record {
  me = h.me;
  found = h.found;
  server = h.server;
  held = (h.held.0, get_front (w.tablets h.me.alias).log (v.tablets h.me.alias).log h.held.0 e (later.logs h.me.alias) h.held.1);
}

-- an entry that a tablet wrote itself
home_own : (config : Config) (v : World) (a : Alias) (me : Tablet) (log : List Entry) (k : Kind) (n : ℕ) (e : Entry) → tablet_of config.tablets a ≡ Some me
    → (v.tablets a).log ≡ with_own me k log → (let x : Entry = record { gtid = next_gtid me.server log; kind = k } in x) ≡ e
    → slice_get (with_own me k log) n ≡ Some e → IsHome config v e
home_own config v a me log k n e found is new at =
    let name : me.alias ≡ a = alias_found config a me found in
    record {
      me = me;
      found = subst (λ (b : Alias). tablet_of config.tablets b ≡ Some me) (sym name) found;
      server = ap (λ (x : Entry). x.gtid.server) new;
      held = subst (λ (b : Alias). Held (v.tablets b).log e) (sym name) (subst (λ (l : List Entry). Held l e) (sym is) (n, at));
    }

pub home_in : (config : Config) (w v : World) (a : Alias) (ev : Event) (log : List Entry) (n : ℕ) (e : Entry) → IsSoundWorld w → IsUniqueWorld config w → IsLater w v
    → (v.tablets a).log ≡ log → LogChange config w a ev log → slice_get log n ≡ Some e → IsHome config v e
home_in config w v a _ _ n e sound unique later is SameLog at = home_stays config w v e later (unique.home a n e at)
home_in config w v a _ _ n e sound unique later is (RowEnters k d u p me m here carries found none caught) at =
    of_cases (slice_get-push_cases (w.tablets a).log _ e n at)
  where
    of_cases : Cases (w.tablets a).log (record { gtid = next_gtid me.server (w.tablets a).log; kind = kinds.Row u me.alias }) e n → IsHome config v e
    of_cases (inl old) = home_stays config w v e later (unique.home a n e old)
    of_cases (inr new) = home_own config v a me (w.tablets a).log (kinds.Row u me.alias) n e found is new.1 at
home_in config w v a _ _ n e sound unique later is (EntryComes k term before index from x m here carries takes fresh) at =
    of_cases (slice_get-push_cases (w.tablets a).log x e n at)
  where
    fed : Fits w (contents.Feeds from a term before index x)
    fed = subst (λ c. Fits w c) carries (sound.post k m here)

    at_source : (i : ℕ) → numbered (w.tablets from).log i ≡ Some x → x ≡ e → IsHome config w e
    at_source zero h same = absurd (let none : None ≡ Some x = h in cc)
    at_source (suc i) h same = subst (λ (y : Entry). IsHome config w y) same (unique.home from i x h)

    of_cases : Cases (w.tablets a).log x e n → IsHome config v e
    of_cases (inl old) = home_stays config w v e later (unique.home a n e old)
    of_cases (inr new) = home_stays config w v e later (at_source index fed.0 new.1)
home_in config w v a _ _ n e sound unique later is (OwnEntry me k none found) at =
    of_cases (slice_get-push_cases (w.tablets a).log _ e n at)
  where
    of_cases : Cases (w.tablets a).log (record { gtid = next_gtid me.server (w.tablets a).log; kind = k }) e n → IsHome config v e
    of_cases (inl old) = home_stays config w v e later (unique.home a n e old)
    of_cases (inr new) = home_own config v a me (w.tablets a).log k n e found is new.1 at

pub unique_after : (config : Config) (w : World) (e : Event) → IsSoundWorld w → IsUniqueWorld config w → IsUniqueWorld config (after config w e)
unique_after config w e sound unique = record {
  home = λ a n x at. home_in config w (after config w e) a e _ n x sound unique (is_later config w e sound) refl (log_changes config w a e _ (touched config w e a)) at;
  apart = λ a. apart_change config w a e _ unique (log_changes config w a e _ (touched config w e a));
}

pub unique_opening : (config : Config) → IsUniqueWorld config (opening config)
unique_opening config = record {
  home = λ a n e at. absurd (let none : None ≡ Some e = at in cc);
  apart = λ a i j e f p q same. absurd (let none : None ≡ Some e = p in cc);
}
