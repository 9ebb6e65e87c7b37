-- Mail maps that a settled cluster must not tell, and disks that its members must not have. With each of these maps the tape that ends in one is a run (`MapsTapeIsMet`):
-- it is the promise that refuses it.
use Rattle.std.specs.Prelude.{List, [], ◌∷◌, Some, None, codes}
use Rattle.mail_model.specs.Record.{Record}
use Rattle.mail_model.specs.Record.Record.{Boot}
use Rattle.session_model.specs.Acts.{Act}
use Rattle.standing_model.specs.Standing.{NamesFragments}
use Rattle.fresh_sessions.specs.Kept.{IsRun}
use Rattle.fresh_sessions.specs.Tapes.{SettledAgrees}
use Rattle.worked_settles.specs.FreshTape.{worked_plan, three_members, filed}
use Rattle.worked_settles.specs.MapsTape.{ToldMap, maps_lines, maps_entries, maps_disks}

-- Where this is told over these disks, the promise is false, whoever chooses the acts that led to the transcript.
abbrev pub RefusesMap : List (List Record) → ToldMap → Type 0
RefusesMap disks told = (acts : List (List Act)) → IsRun worked_plan maps_lines (maps_entries told) acts → SettledAgrees worked_plan maps_lines acts disks → ⊥

-- the map names node 3 too, which has no mail of alice
abbrev pub RefusesOneTooMany : Type 0
RefusesOneTooMany = RefusesMap maps_disks (Some (1, 1 ∷ 2 ∷ 3 ∷ []))

-- it leaves node 2 out, which has
abbrev pub RefusesOneTooFew : Type 0
RefusesOneTooFew = RefusesMap maps_disks (Some (1, 1 ∷ []))

-- it names both, but not in rising order
abbrev pub RefusesFalling : Type 0
RefusesFalling = RefusesMap maps_disks (Some (1, 2 ∷ 1 ∷ []))

-- the manager is no member
abbrev pub RefusesStranger : Type 0
RefusesStranger = RefusesMap maps_disks (Some (4, 1 ∷ 2 ∷ []))

-- nobody names any node
abbrev pub RefusesNobody : Type 0
RefusesNobody = RefusesMap maps_disks None

-- node 1 says that the message is here, with node 2 as a target, which says nothing
abbrev pub silent_disks : List (List Record)
silent_disks = (Boot 1 ∷ filed 1 3) ∷ (Boot 1 ∷ []) ∷ (Boot 1 ∷ []) ∷ []

-- The map names just what these disks have; members disagree, and that alone is refused.
pub record RefusesSilentTarget : Type 0 where
  pub names : NamesFragments silent_disks three_members (codes "alice") (Some (1, 1 ∷ []))
  pub refuses : RefusesMap silent_disks (Some (1, 1 ∷ []))
