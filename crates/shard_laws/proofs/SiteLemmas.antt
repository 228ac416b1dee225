-- A tablet whose writes may break off moves as one that only goes down later: its crash is silence, and its return is what stood of the write, and a crash.
use Rattle.std.proofs.Common.{◌≡◌, ◌⊎◌, inl, inr, ℕ, ◌≤◌, false, refl, ap, sym, subst, ◌∙◌, arith, List, Option, Some, None}
use Rattle.std.proofs.lemmas.Bool.{false≢true}
use Rattle.shard_names.specs.declared.alias.Alias.{Alias}
use Rattle.shard_names.specs.declared.tablet.Tablet.{Tablet}
use Rattle.replication.specs.Acks.{none_acked}
use Rattle.shard_calls.specs.declared.post.Content.{Content}
use Rattle.shard_calls.specs.declared.post.Message.{Message}
use Rattle.shard_calls.specs.declared.stand.Stand.TheVariants as stands
use Rattle.shard_calls.specs.Stands.{is_down}
use Rattle.shard_calls.specs.Tablets.{TabletState}
use Rattle.shard_laws.specs.TightMoves.{IsPosted, TightMove, Stays, Sees, Stops, Demotes, Joins, Serves, Enters, Takes, Skips, Writes, WritesLocal, Hears, Promises, GoesDown, ComesUp, TabletStep, Plainly, Returning, Recovers, Nothing, Seen, Promised, Whole, Moves, Breaks, Waits, ComesBack, ShownBy, Shown, SitesAreShown}

abbrev Grows : List Message → List Message → Type 0
Grows post later = (n : ℕ) (content : Content) → IsPosted post n content → IsPosted later n content

-- what was a move is one when more was sent
tight_later : (ts : List Tablet) (post later : List Message) (a : Alias) (s t : TabletState) → Grows post later → TightMove ts post a s t → TightMove ts later a s t
tight_later ts post later a s _ grows Stays = Stays
tight_later ts post later a s _ grows (Sees u le) = Sees u le
tight_later ts post later a s _ grows (Stops k c u posted le) = Stops k c u (grows k _ posted) le
tight_later ts post later a s _ grows (Demotes k c u me posted found le own) = Demotes k c u me (grows k _ posted) found le own
tight_later ts post later a s _ grows (Joins k c u t source p posted le new inside) = Joins k c u t source p (grows k _ posted) le new inside
tight_later ts post later a s _ grows (Serves k c u posted le promised stand) = Serves k c u (grows k _ posted) le promised stand
tight_later ts post later a s _ grows (Enters k c u p me posted found le none caught) = Enters k c u p me (grows k _ posted) found le none caught
tight_later ts post later a s _ grows (Takes k term before index source e posted stand fresh) = Takes k term before index source e (grows k _ posted) stand fresh
tight_later ts post later a s _ grows (Skips k term before index source e posted stand held) = Skips k term before index source e (grows k _ posted) stand held
tight_later ts post later a s _ grows (Writes me t client number found stand) = Writes me t client number found stand
tight_later ts post later a s _ grows (WritesLocal me found up) = WritesLocal me found up
tight_later ts post later a s _ grows (Hears k term index source posted stand) = Hears k term index source (grows k _ posted) stand
tight_later ts post later a s _ grows (Promises u t le more within) = Promises u t le more within
tight_later ts post later a s _ grows GoesDown = GoesDown
tight_later ts post later a s _ grows (ComesUp down) = ComesUp down

seen_step : (ts : List Tablet) (post : List Message) (a : Alias) (s t : TabletState) → TightMove ts post a s t → s.seen ≤ t.seen
seen_step ts post a s _ Stays = omega arith
seen_step ts post a s _ (Sees u le) = le
seen_step ts post a s _ (Stops k c u posted le) = le
seen_step ts post a s _ (Demotes k c u me posted found le own) = le
seen_step ts post a s _ (Joins k c u t source p posted le new inside) = le
seen_step ts post a s _ (Serves k c u posted le promised stand) = le
seen_step ts post a s _ (Enters k c u p me posted found le none caught) = le
seen_step ts post a s _ (Takes k term before index source e posted stand fresh) = omega arith
seen_step ts post a s _ (Skips k term before index source e posted stand held) = omega arith
seen_step ts post a s _ (Writes me t client number found stand) = omega arith
seen_step ts post a s _ (WritesLocal me found up) = omega arith
seen_step ts post a s _ (Hears k term index source posted stand) = omega arith
seen_step ts post a s _ (Promises u t le more within) = le
seen_step ts post a s _ GoesDown = omega arith
seen_step ts post a s _ (ComesUp down) = omega arith

-- what it would be, and what it is
abbrev Follower : List Tablet → List Message → Alias → TabletState → TabletState → Type 0
Follower ts post a g t = (h : TabletState) × TabletStep ts post a g h × ((t ≡ h) ⊎ (t ≡ record h { stand = stands.Down }))

-- a move of a tablet that is down
down_moved : (ts : List Tablet) (post : List Message) (a : Alias) (g t : TabletState) → TightMove ts post a (record g { stand = stands.Down }) t → Follower ts post a g t
down_moved ts post a g _ Stays = (g, Plainly Stays, inr refl)
down_moved ts post a g _ (Sees u le) = (record g { seen = u }, Plainly (Sees u le), inr refl)
down_moved ts post a g _ (Stops k c u posted le) = (_, Plainly (Stops k c u posted le), inl refl)
down_moved ts post a g _ (Demotes k c u me posted found le own) = (_, Plainly (Demotes k c u me posted found le own), inl refl)
down_moved ts post a g _ (Joins k c u t source p posted le new inside) = (_, Plainly (Joins k c u t source p posted le new inside), inl refl)
down_moved ts post a g _ (Serves k c u posted le promised stand) = absurd (let wrong : stands.Down ≡ stands.Stopped = stand in cc)
down_moved ts post a g _ (Enters k c u p me posted found le none caught) = (_, Plainly (Enters k c u p me posted found le none caught), inl refl)
down_moved ts post a g _ (Takes k term before index source e posted stand fresh) = absurd (let wrong : stands.Down ≡ stands.Replica source term before = stand in cc)
down_moved ts post a g _ (Skips k term before index source e posted stand held) = absurd (let wrong : stands.Down ≡ stands.Replica source term before = stand in cc)
down_moved ts post a g _ (Writes me t client number found stand) = absurd (let wrong : stands.Down ≡ stands.Primary t = stand in cc)
down_moved ts post a g _ (WritesLocal me found up) = absurd (false≢true (sym up))
down_moved ts post a g _ (Hears k term index source posted stand) = absurd (let wrong : stands.Down ≡ stands.Primary term = stand in cc)
down_moved ts post a g _ (Promises u t le more within) = (_, Plainly (Promises u t le more within), inl refl)
down_moved ts post a g _ GoesDown = (g, Plainly Stays, inr refl)
down_moved ts post a g _ (ComesUp down) = (_, Returning Stays, inl refl)

recovered : (ts : List Tablet) (post : List Message) (a : Alias) (g t r : TabletState) → t.promised ≤ t.seen → g.promised ≤ t.promised → TightMove ts post a g t
    → Recovers (record g { stand = stands.Down }) t r → Follower ts post a g (record r { stand = stands.Stopped; acked = none_acked })
recovered ts post a g t _ within more move Nothing = (_, Returning Stays, inl refl)
recovered ts post a g t _ within more move Seen = (_, Returning (Sees t.seen (seen_step ts post a g t move)), inl refl)
recovered ts post a g t _ within more move Promised =
    (_, Returning (Promises t.seen t.promised (seen_step ts post a g t move) more within), inl refl)
recovered ts post a g t _ within more move Whole = (_, Returning move, inl refl)

waits_shown : (ts : List Tablet) (post later : List Message) (a : Alias) (s : TabletState) (o : Option TabletState) (g : TabletState) → Grows post later
    → ShownBy ts post a s o g → ShownBy ts later a s o g
waits_shown ts post later a s None g grows h = h
waits_shown ts post later a s (Some t) g grows h = (h.0, h.1, h.2, tight_later ts post later a g t grows h.3)

moves_shown : (ts : List Tablet) (post : List Message) (a : Alias) (s t g : TabletState) → TightMove ts post a s t → (s ≡ g) ⊎ (s ≡ record g { stand = stands.Down })
    → Follower ts post a g t
moves_shown ts post a s t g move (inl same) = (t, Plainly (subst (λ (x : TabletState). TightMove ts post a x t) same move), inl refl)
moves_shown ts post a s t g move (inr down) = down_moved ts post a g t (subst (λ (x : TabletState). TightMove ts post a x t) down move)

down_twice : (s g : TabletState) → (s ≡ g) ⊎ (s ≡ record g { stand = stands.Down }) → is_down s.stand ≡ false → s ≡ g
down_twice s g (inl same) up = same
down_twice s g (inr down) up = absurd (false≢true (sym up ∙ ap (λ (x : TabletState). is_down x.stand) down))

broken : (ts : List Tablet) (post later : List Message) (a : Alias) (s t g : TabletState) → Grows post later → is_down s.stand ≡ false → s.promised ≤ t.promised
    → t.promised ≤ t.seen → TightMove ts post a s t → (s ≡ g) ⊎ (s ≡ record g { stand = stands.Down })
    → (h : TabletState) × TabletStep ts post a g h × Shown ts later a (record { state = record s { stand = stands.Down }; pending = Some t }) h
broken ts post later a s t g grows up more within move h =
    let same = down_twice s g h up in (
      g,
      Plainly Stays,
      (
        ap (λ (x : TabletState). record x { stand = stands.Down }) same,
        subst (λ (x : TabletState). x.promised ≤ t.promised) same more,
        within,
        tight_later ts post later a g t grows (subst (λ (x : TabletState). TightMove ts post a x t) same move),
      ),
    )

came_up : (ts : List Tablet) (post : List Message) (a : Alias) (s t r g : TabletState) → Recovers s t r
    → (s ≡ record g { stand = stands.Down }) × (g.promised ≤ t.promised) × (t.promised ≤ t.seen) × TightMove ts post a g t
    → Follower ts post a g (record r { stand = stands.Stopped; acked = none_acked })
came_up ts post a s t r g recovers h =
    recovered ts post a g t r h.2 h.1 h.3 (subst (λ (x : TabletState). Recovers x t r) h.0 recovers)

pub sites_are_shown : SitesAreShown
sites_are_shown ts post later a _ _ g grows (Moves move) h = let r = moves_shown ts post a _ _ g move h in (r.0, r.1, r.2)
sites_are_shown ts post later a _ _ g grows (Breaks up more within move) h = broken ts post later a _ _ g grows up more within move h
sites_are_shown ts post later a x _ g grows Waits h = (g, Plainly Stays, waits_shown ts post later a x.state x.pending g grows h)
sites_are_shown ts post later a _ _ g grows (ComesBack down recovers) h = came_up ts post a _ _ _ g recovers h
