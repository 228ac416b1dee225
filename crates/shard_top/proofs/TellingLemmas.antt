-- Lines of steps, put one after another.
use Rattle.std.proofs.Common.{◌≡◌, ℕ, zero, suc, ◌+◌, ◌<◌, List, [], ◌∷◌, ◌++◌, Option, Err, length, drop, get_or, refl, ap, sym, subst, ◌∙◌, arith}
use Rattle.std.proofs.lemmas.List.{append_assoc, append-nil}
use Rattle.std.specs.Io.KnownBytes.{Appends}
use Rattle.shard_calls.specs.declared.event.Step.{Step}
use Rattle.tablet_text.specs.Stands.{line}
use Rattle.vtctld_text.specs.declared.begun.Begun.{Begun}
use Rattle.history_text.specs.Histories.{step_line, step_lines}
use Rattle.shard_top.specs.declared.telling.PutFault.{PutFault}
use Rattle.shard_top.specs.Streams.{IsPut}
use Rattle.shard_top.proofs.StreamLemmas.{appends_more, appends_none, put_more, put_longer}

-- what is put of all, and what is left of it
pub record Putting (o m : Option (List ℕ)) (b c : ℕ) (left all : List ℕ) : Type 0 where
  pub done : List ℕ
  pub put : Appends o m done
  pub calm : c ≡ b
  pub split : done ++ left ≡ all

pub none_put : (o : Option (List ℕ)) (b : ℕ) (all : List ℕ) → Putting o o b b all all
none_put o b all = record { done = []; put = appends_none o; calm = refl; split = refl }

-- the line of the step at a place, and those behind it
next_step : (commands : List Begun) (steps : List Step) (i : ℕ) (d : Step) → i < length steps → step_lines commands (drop i steps) ≡ line (step_line commands (get_or steps i d)) ++ step_lines commands (drop (suc i) steps)
next_step commands [] i d h = absurd (omega arith)
next_step commands (s ∷ steps) zero d h = refl
next_step commands (s ∷ steps) (suc i) d h = next_step commands steps i d (omega arith)

step_at : (commands : List Begun) (steps : List Step) (i : ℕ) (d : Step) → i < length steps → step_lines commands (drop i steps) ≡ line (step_line commands (get_or steps i d)) ++ step_lines commands (drop (i + 1) steps)
step_at commands steps i d h =
    let at : suc i ≡ i + 1 = omega arith in
    next_step commands steps i d h ∙ ap (λ (n : ℕ). line (step_line commands (get_or steps i d)) ++ step_lines commands (drop n steps)) at

pub step_item : (commands : List Begun) (steps : List Step) (i : ℕ) (s : Step) → i < length steps → s ≡ get_or steps i s → step_lines commands (drop i steps) ≡ line (step_line commands s) ++ step_lines commands (drop (i + 1) steps)
step_item commands steps i s less is =
    step_at commands steps i s less ∙ ap (λ (x : Step). line (step_line commands x) ++ step_lines commands (drop (i + 1) steps)) (sym is)

-- one more line is put
pub one_put : (o m n : Option (List ℕ)) (b c d : ℕ) (piece left rest all : List ℕ) → Putting o m b c left all → left ≡ piece ++ rest → Appends m n piece → d ≡ c → Putting o n b d rest all
one_put o m n b c d piece left rest all h is a same = record {
  done = h.done ++ piece;
  put = appends_more o m n h.done piece h.put a;
  calm = same ∙ h.calm;
  split = append_assoc h.done piece rest ∙ ap (λ (t : List ℕ). h.done ++ t) (sym is) ∙ h.split;
}

-- or its line fails, and with it the whole
pub line_failed : (T U : Type 0) (e : PutFault) (o m n : Option (List ℕ)) (b c d : ℕ) (piece left rest all : List ℕ) → Putting o m b c left all → left ≡ piece ++ rest → IsPut {T = T} (Err e) m n c d piece → IsPut {T = U} (Err e) o n b d all
line_failed T U e o m n b c d piece left rest all h is failed =
    let part : IsPut {T = T} (Err e) o n b d (h.done ++ piece) = put_more {T = T} (Err e) o m n b c d h.done piece h.put h.calm failed in
    subst (λ (t : List ℕ). IsPut {T = U} (Err e) o n b d t) (append_assoc h.done piece rest ∙ ap (λ (t : List ℕ). h.done ++ t) (sym is) ∙ h.split) (put_longer T U e o n b d (h.done ++ piece) rest part)

pub all_put : (o m : Option (List ℕ)) (b c : ℕ) (left all : List ℕ) → Putting o m b c left all → left ≡ [] → Appends o m all × (c ≡ b)
all_put o m b c left all h none =
    (subst (λ (t : List ℕ). Appends o m t) (sym (append-nil h.done) ∙ ap (λ (t : List ℕ). h.done ++ t) (sym none) ∙ h.split) h.put, h.calm)
