-- Where the newest row of a log stands, once one more entry has come.
use Rattle.std.specs.Prelude.{ℕ, ◌+◌, ◌==◌, nat_lt, Option, Some, unwrap_or, if◌then◌else◌}
use Rattle.gtid_sets.specs.declared.entry.Kind.{Kind}
use Rattle.gtid_sets.specs.declared.entry.Kind.TheVariants as kind

-- where such an entry comes behind so many others: of the rows of one term the first counts
abbrev pub place_after : ℕ → Option ℕ → ℕ → Kind → Option ℕ
place_after newest place count (kind.Write term client number) = place
place_after newest place count (kind.Row term alias) =
    if nat_lt newest term then Some (count + 1) else if term == newest then Some (unwrap_or place (count + 1)) else place
place_after newest place count kind.Local = place
