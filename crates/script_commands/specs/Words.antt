-- Single words of a script: the names of actors, and the names and UUIDs of the Vitess manual's commands.
use Rattle.std.specs.Prelude.{◌≡◌, ◌≢◌, ℕ, ◌≤◌, List, [], ◌∷◌, ◌==◌, Bool, true, false, ◌&&◌, ◌||◌, not, nat_le, Option, Some, None, if◌then◌else◌, length, find, codes}
use Rattle.std.specs.Char.{is_ascii_lowercase, is_ascii_digit}
use Rattle.std.specs.List.{list_all}
use Rattle.std.specs.Result.{result_ok}
use Rattle.std.specs.Str.{bytes_eq}
use Rattle.uuid.specs.Text.{parsed}
use Rattle.shard_base.specs.Options.{◌>>=◌, only_if}
use Rattle.shard_names.specs.Alias.{alias_reading}
use Rattle.shard_names.specs.declared.tablet.TabletType.{TabletType}
use Rattle.shard_names.specs.declared.tablet.TabletType.TheVariants.{Replica, Rdonly, Spare}
use Rattle.durability.specs.declared.policy.Durability.{Durability}
use Rattle.durability.specs.declared.policy.Durability.TheVariants as policies
use Rattle.durability.specs.Policies.{policy_name}
use Rattle.shard_calls.specs.declared.event.Side.{Side}
use Rattle.shard_calls.specs.declared.event.Side.TheVariants as sides

-- a lower-case letter or a decimal digit
abbrev pub is_name_byte : ℕ → Bool
is_name_byte byte = is_ascii_lowercase byte || is_ascii_digit byte

-- whether the first byte is a lower-case letter
abbrev pub begins_with_letter : List ℕ → Bool
begins_with_letter [] = false
begins_with_letter (first ∷ rest) = is_ascii_lowercase first

-- it begins with a lower-case letter and goes on with lower-case letters and digits, at most 16 in all, and is neither `main` nor `control`
pub record IsName (name : List ℕ) : Type 0 where
  pub first_letter : begins_with_letter name ≡ true
  pub few_bytes : length name ≤ 16
  pub bytes : list_all is_name_byte name ≡ true
  pub not_main : name ≢ codes "main"
  pub not_control : name ≢ codes "control"

-- whether a name is one of the two that no line starts
abbrev pub is_taken : List ℕ → Bool
is_taken text = bytes_eq text (codes "main") || bytes_eq text (codes "control")

unfoldable pub name_reading : List ℕ → Option (List ℕ)
name_reading text =
    only_if (begins_with_letter text && nat_le (length text) 16 && list_all is_name_byte text && not (is_taken text)) text

-- a UUID in the hyphenated form, in either case
unfoldable pub server_reading : List ℕ → Option (List ℕ)
server_reading text = if length text == 36 then parsed text else None

abbrev pub kind_reading : List ℕ → Option TabletType
kind_reading text =
    if bytes_eq text (codes "replica") then Some Replica
    else if bytes_eq text (codes "rdonly") then Some Rdonly
    else if bytes_eq text (codes "spare") then Some Spare
    else None

-- the policy of a name: one of the five
unfoldable pub policy_reading : List ℕ → Option Durability
policy_reading name =
    find (λ p. bytes_eq (policy_name p) name) (policies.None ∷ policies.SemiSync ∷ policies.CrossCell ∷ policies.SemiSyncWithRdonlyAck ∷ policies.CrossCellWithRdonlyAck ∷ [])

-- an end of a link
unfoldable pub side_reading : List ℕ → Option Side
side_reading text = if bytes_eq text (codes "control") then Some sides.Control
    else result_ok (alias_reading text) >>= (λ a. Some (sides.Tablet a))
