-- What the words on positions say of members.
use Rattle.std.proofs.Common.{if◌then◌else◌, ◌+◌, ◌≡◌, ◌≤◌, ◌⊎◌, inl, inr, ℕ, Bool, true, false, not, cond, ◌&&◌, ◌||◌, List, [], ◌∷◌, ◌++◌, length, map, max, refl, ap, sym, subst, ◌∙◌, arith}
use Rattle.std.specs.Bool.{Decides}
use Rattle.std.specs.List.{list_all, filter}
use Rattle.std.specs.Str.{bytes_eq}
use Rattle.std.proofs.lemmas.Bool.{cases_lt}
use Rattle.std.proofs.lemmas.Slice.Eq.{slice_eq-Decides, bytes_eq-Decides}
use Rattle.shard_names.proofs.TabletLemmas.{both_left, both_right}
use Rattle.gtid_sets.specs.declared.gtid.Gtid.{Gtid}
use Rattle.gtid_sets.specs.Gtid.{gtid_eq}
use Rattle.gtid_sets.specs.Position.{Position, nothing, with_gtid, of_gtids, has, union, minus, covers, count, greatest, greatest_of}
use Rattle.gtid_sets.specs.StoredPosition.{same_position, position_eq}
use Rattle.gtid_sets.proofs.BoolLemmas.{or_left, or_right}
use Rattle.gtid_sets.proofs.GtidLemmas.{gtid_eq_itself, gtid_eq_is, gtid_eq-Decides}
use Rattle.gtid_sets.proofs.RisingLemmas.{member, same_list, put_found, length_put, member_put, member_of_gtids, member_append, member_filter}

pub position_eq-Decides : (p q : Position) → Decides (position_eq p q) (p ≡ q)
position_eq-Decides p q =
    let lists : Decides (position_eq p q) (p.gtids ≡ q.gtids) = slice_eq-Decides gtid_eq-Decides p.gtids q.gtids (position_eq p q) refl in
    ((λ h. same_position p q (lists.0 h)), (λ e. lists.1 (ap (λ r. r.gtids) e)))

-- ---- members
pub has-with_gtid : (p : Position) (g q : Gtid) → has (with_gtid p g) q ≡ (gtid_eq q g || has p q)
has-with_gtid p g q = member_put g q p.gtids

pub has-of_gtids : (gs : List Gtid) (q : Gtid) → has (of_gtids gs) q ≡ member gs q
has-of_gtids gs q = member_of_gtids gs q

pub has-union : (p q : Position) (g : Gtid) → has (union p q) g ≡ (has p g || has q g)
has-union p q g = member_of_gtids (p.gtids ++ q.gtids) g ∙ member_append g p.gtids q.gtids

pub has-minus : (p q : Position) (g : Gtid) → has (minus p q) g ≡ (has p g && not (has q g))
has-minus p q g = member_of_gtids (filter (λ x. not (has q x)) p.gtids) g ∙ member_filter (λ x. not (has q x)) g p.gtids

-- positions with the same members are one
pub same_members : (p q : Position) → ((g : Gtid) → has p g ≡ has q g) → p ≡ q
same_members p q same = same_position p q (same_list p.gtids q.gtids p.in_order q.in_order same)

-- ---- how many
pub count-with_gtid : (p : Position) (g : Gtid) → count (with_gtid p g) ≡ (if has p g then count p else count p + 1)
count-with_gtid p g =
    elim (has p g) as (λ b. has p g ≡ b → count (with_gtid p g) ≡ (if b then count p else count p + 1)) [
      | true ↦ λ e. ap length (put_found p.gtids g p.in_order e)
      | false ↦ λ e. length_put p.gtids g e
    ] refl

-- ---- covers
all_member : (p : Gtid → Bool) (gs : List Gtid) (g : Gtid) → list_all p gs ≡ true → member gs g ≡ true → p g ≡ true
all_member p [] g all one = absurd (cc)
all_member p (x ∷ xs) g all one =
    elim (gtid_eq g x) as (λ b. gtid_eq g x ≡ b → (b || member xs g) ≡ true → p g ≡ true) [
      | true ↦ λ e h. subst (λ (z : Gtid). p z ≡ true) (sym (gtid_eq_is g x e)) (both_left (p x) (list_all p xs) all)
      | false ↦ λ e h. all_member p xs g (both_right (p x) (list_all p xs) all) h
    ] refl one

each_member : (p : Gtid → Bool) (gs : List Gtid) → ((g : Gtid) → member gs g ≡ true → p g ≡ true) → list_all p gs ≡ true
each_member p [] each = refl
each_member p (x ∷ xs) each =
    let first : p x ≡ true = each x (or_left (gtid_eq x x) (member xs x) (gtid_eq_itself x)) in
    let rest : list_all p xs ≡ true = each_member p xs (λ g m. each g (or_right (gtid_eq g x) (member xs g) m)) in
    rw (first, rest) refl

-- what is in a covered set is in the one that covers it
pub covers-has : (p q : Position) (g : Gtid) → covers p q ≡ true → has q g ≡ true → has p g ≡ true
covers-has p q g all one = all_member (has p) q.gtids g all one

pub covers-from_has : (p q : Position) → ((g : Gtid) → has q g ≡ true → has p g ≡ true) → covers p q ≡ true
covers-from_has p q each = each_member (has p) q.gtids each

pub covers-itself : (p : Position) → covers p p ≡ true
covers-itself p = covers-from_has p p (λ g h. h)

pub covers-further : (p q r : Position) → covers p q ≡ true → covers q r ≡ true → covers p r ≡ true
covers-further p q r h k = covers-from_has p r (λ g m. covers-has p q g h (covers-has q r g k m))

pub covers-both : (p q : Position) → covers p q ≡ true → covers q p ≡ true → p ≡ q
covers-both p q h k = same_members p q (λ g. alike (has p g) (has q g) (covers-has q p g k) (covers-has p q g h))
  where
    alike : (a b : Bool) → (a ≡ true → b ≡ true) → (b ≡ true → a ≡ true) → a ≡ b
    alike true b f g = sym (f refl)
    alike false true f g = g refl
    alike false false f g = refl

-- nothing is left over exactly where all is covered
pub minus-covered : (p q : Position) → covers q p ≡ true → minus p q ≡ nothing
minus-covered p q h = same_members (minus p q) nothing (λ g. has-minus p q g ∙ none (has p g) (has q g) (covers-has q p g h))
  where
    none : (a b : Bool) → (a ≡ true → b ≡ true) → (a && not b) ≡ false
    none true b f = rw (f refl) refl
    none false b f = refl

pub covered-from_minus : (p q : Position) → minus p q ≡ nothing → covers q p ≡ true
covered-from_minus p q e = covers-from_has q p (λ g m. there (has p g) (has q g) m (sym (has-minus p q g) ∙ ap (λ r. has r g) e))
  where
    there : (a b : Bool) → a ≡ true → (a && not b) ≡ false → b ≡ true
    there true true h k = refl
    there true false h k = absurd (cc)
    there false b h k = absurd (cc)

-- ---- the greatest number of a server
abbrev all_numbers : List Gtid → List ℕ
all_numbers gs = map (λ (g : Gtid). g.number) gs

abbrev of_server : List ℕ → List Gtid → List Gtid
of_server server gs = filter (λ g. bytes_eq g.server server) gs

no_less : (b : Bool) (x : Gtid) (gs : List Gtid) (n : ℕ) → n ≤ greatest (all_numbers gs) → n ≤ greatest (all_numbers (cond b (x ∷ gs) gs))
no_less true x gs n low = omega arith
no_less false x gs n low = low

first_low : (b : Bool) (x : Gtid) (gs : List Gtid) → b ≡ true → x.number ≤ greatest (all_numbers (cond b (x ∷ gs) gs))
first_low true x gs e = omega arith
first_low false x gs e = absurd (cc)

none_greater : (server : List ℕ) (gs : List Gtid) (g : Gtid) → bytes_eq g.server server ≡ true → member gs g ≡ true → g.number ≤ greatest (all_numbers (of_server server gs))
none_greater server [] g its h = absurd (cc)
none_greater server (x ∷ xs) g its h =
    elim (gtid_eq g x) as (λ b. gtid_eq g x ≡ b → (b || member xs g) ≡ true → g.number ≤ greatest (all_numbers (of_server server (x ∷ xs)))) [
      | true ↦ λ e _.
          let same : g ≡ x = gtid_eq_is g x e in
          subst (λ (z : Gtid). g.number ≤ greatest (all_numbers (of_server server (z ∷ xs)))) same (first_low (bytes_eq g.server server) g (of_server server xs) its)
      | false ↦ λ e m. no_less (bytes_eq x.server server) x (of_server server xs) g.number (none_greater server xs g its m)
    ] refl h

pub none_is_greater : (p : Position) (g : Gtid) → has p g ≡ true → g.number ≤ greatest_of g.server p
none_is_greater p g h = none_greater g.server p.gtids g ((bytes_eq-Decides g.server g.server).1 refl) h

max_cases : (m n : ℕ) → (max m n ≡ m) ⊎ (max m n ≡ n)
max_cases m n = elim (cases_lt m n) [ inl l ↦ inr (omega arith) | inr l ↦ inl (omega arith) ]

-- whether a list has a number of a server
abbrev There : List ℕ → List Gtid → ℕ → Type 0
There server gs n = member gs (record { server = server; number = n }) ≡ true

there_later : (server : List ℕ) (x : Gtid) (xs : List Gtid) (m n : ℕ) → n ≡ m → (m ≡ 0) ⊎ There server xs m → (n ≡ 0) ⊎ There server (x ∷ xs) n
there_later server x xs m n e (inl z) = inl (e ∙ z)
there_later server x xs m n e (inr h) =
    inr (subst (λ (k : ℕ). There server (x ∷ xs) k) (sym e) (or_right (gtid_eq (record { server = server; number = m }) x) (member xs (record { server = server; number = m })) h))

there_first : (server : List ℕ) (x : Gtid) (xs : List Gtid) (n : ℕ) → bytes_eq x.server server ≡ true → n ≡ x.number → There server (x ∷ xs) n
there_first server x xs n e k =
    let servers : x.server ≡ server = (bytes_eq-Decides x.server server).0 e in
    let same : x ≡ record { server = server; number = n } = λ i. record { server = servers i; number = (sym k) i } in
    or_left (gtid_eq (record { server = server; number = n }) x) (member xs (record { server = server; number = n }))
    (subst (λ (z : Gtid). gtid_eq (record { server = server; number = n }) z ≡ true) (sym same) (gtid_eq_itself (record { server = server; number = n })))

greatest_there : (server : List ℕ) (gs : List Gtid) → (greatest (all_numbers (of_server server gs)) ≡ 0) ⊎ There server gs (greatest (all_numbers (of_server server gs)))
greatest_there server [] = inl refl
greatest_there server (x ∷ xs) =
    elim (bytes_eq x.server server) as (λ b. bytes_eq x.server server ≡ b → (greatest (all_numbers (cond b (x ∷ of_server server xs) (of_server server xs))) ≡ 0) ⊎ There server (x ∷ xs) (greatest (all_numbers (cond b (x ∷ of_server server xs) (of_server server xs))))) [
      | true ↦ λ e. elim (max_cases x.number (greatest (all_numbers (of_server server xs)))) [
        | inl first ↦ inr (there_first server x xs _ e first)
        | inr rest ↦ there_later server x xs (greatest (all_numbers (of_server server xs))) _ rest (greatest_there server xs)
      ]
      | false ↦ λ e. there_later server x xs (greatest (all_numbers (of_server server xs))) _ refl (greatest_there server xs)
    ] refl

pub greatest_is_there : (server : List ℕ) (p : Position) → (greatest_of server p ≡ 0) ⊎ (has p (record { server = server; number = greatest_of server p }) ≡ true)
greatest_is_there server p = greatest_there server p.gtids
