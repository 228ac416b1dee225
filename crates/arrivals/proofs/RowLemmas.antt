-- That a tablet's manager says of the row of a term, and of a position, what the world says.
use Rattle.std.proofs.Common.{◌≡◌, ℕ, Bool, true, false, ◌||◌, not, nat_lt, nat_le, Option, Some, ap, sym, ◌∙◌, arith}
use Rattle.std.proofs.lemmas.Bool.Decides.{nat_tests}
use Rattle.shard_names.specs.declared.alias.Alias.{Alias}
use Rattle.shard_names.specs.declared.tablet.Tablet.{Tablet}
use Rattle.gtid_sets.specs.Logs.{position_of}
use Rattle.gtid_sets.specs.Position.{Position, covers, nothing}
use Rattle.shard_calls.specs.declared.call.Call.TheVariants as calls
use Rattle.shard_calls.specs.declared.group.Group.{Group}
use Rattle.shard_calls.specs.Stands.{is_primary_of}
use Rattle.shard_calls.specs.Tablets.{TabletState, opened, is_row_told}
use Rattle.shard_calls.specs.Messages.{passes, is_row_told_at, is_ready}
use Rattle.tablet_manager.specs.Managed.{Managed, state_of}
use Rattle.shard_state.specs.State.{Data, AreOfGroup, group_in, seen, state_at}
use Rattle.shard_state.specs.Managers.{manager_of}
use Rattle.shard_state.proofs.FoundLemmas.{state_found, tablet_found, group_found}

told_at : (d : Data) (a : Alias) (m : Managed) (term : ℕ) → manager_of d.managers a ≡ Some m → AreOfGroup d
    → is_row_told m.group m.me (state_of m) term ≡ is_row_told_at (seen d) a term
told_at d a m term found group =
    ap (λ (g : Group). is_row_told g m.me (state_of m) term) (group_found (group_in d) d.managers a m group found)
    ∙ ap (λ (s : TabletState). is_row_told (group_in d) m.me s term) (sym (state_found d.managers a m found))
    ∙ ap (λ (o : Option Tablet). passes (λ me. is_row_told (group_in d) me (state_at d.managers a) term) o) (sym (tablet_found d.managers a m found))

-- who waits for a row is answered as the world says
pub outcome_at : (d : Data) (a : Alias) (m : Managed) (term until : ℕ) → manager_of d.managers a ≡ Some m → AreOfGroup d
    → (nat_lt term m.log.seen || not (is_primary_of m.stand term) || is_row_told m.group m.me (state_of m) term || nat_le until d.clock)
    ≡ is_ready (seen d) a term (calls.WaitTold until)
outcome_at d a m term until found group =
    ap (λ (b : Bool). nat_lt term m.log.seen || not (is_primary_of m.stand term) || b || nat_le until d.clock) (told_at d a m term found group)
    ∙ ap (λ (s : TabletState). nat_lt term s.seen || not (is_primary_of s.stand term) || is_row_told_at (seen d) a term || nat_le until d.clock)
    (sym (state_found d.managers a m found))

-- who waits for a position is answered as the world says
pub position_at : (d : Data) (a : Alias) (m : Managed) (term until : ℕ) (p : Position) → manager_of d.managers a ≡ Some m
    → (nat_lt term m.log.seen || covers (position_of m.log.entries) p || nat_le until d.clock) ≡ is_ready (seen d) a term (calls.WaitFor p until)
position_at d a m term until p found =
    ap (λ (s : TabletState). nat_lt term s.seen || covers (position_of s.log) p || nat_le until d.clock) (sym (state_found d.managers a m found))

-- ---- a tablet that is none of the shard's

below_none : (n : ℕ) → nat_lt n 0 ≡ false
below_none n = grind (arith, nat_tests)

pub position_nowhere : (d : Data) (a : Alias) (term until : ℕ) (p : Position) → opened ≡ state_at d.managers a
    → (covers nothing p || nat_le until d.clock) ≡ is_ready (seen d) a term (calls.WaitFor p until)
position_nowhere d a term until p nowhere =
    sym (ap (λ (b : Bool). b || covers nothing p || nat_le until d.clock) (below_none term))
    ∙ ap (λ (s : TabletState). nat_lt term s.seen || covers (position_of s.log) p || nat_le until d.clock) nowhere

pub row_nowhere : (d : Data) (a : Alias) (term until : ℕ) → opened ≡ state_at d.managers a → true ≡ is_ready (seen d) a term (calls.WaitTold until)
row_nowhere d a term until nowhere =
    sym (ap (λ (b : Bool). b || not (is_primary_of opened.stand term) || is_row_told_at (seen d) a term || nat_le until d.clock) (below_none term))
    ∙ ap (λ (s : TabletState). nat_lt term s.seen || not (is_primary_of s.stand term) || is_row_told_at (seen d) a term || nat_le until d.clock) nowhere
