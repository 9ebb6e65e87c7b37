-- A part over disks and letters: each step of a world of the whole keeps it, since messages see it as one of theirs.
use Rattle.std.proofs.Common.{Bool, List, [], ◌∷◌, sym, subst}
use Rattle.mail_model.specs.Plan.{Plan}
use Rattle.mail_model.specs.Record.{Record}
use Rattle.object_model.specs.Letters.{Body}
use Rattle.whole_world.specs.World.{World, mail_world_of}
use Rattle.whole_world.specs.Makes.{MadeStep, MakesAll}
use Rattle.whole_world.specs.Seen.{step_seen, outcome_seen}
use Rattle.whole_world.specs.Laws.{Stands}
use Rattle.whole_world.proofs.Projecting.{makes_seen}
use Rattle.whole_world.proofs.Stepping.{makes_stand}
use Rattle.kept_parts.proofs.Holding.{Stays, Holds}
use Rattle.kept_parts.proofs.Stepping.{Rules, one_hold}

module _ (P : List Record → Type 0) (B : Body → Type 0) (s : Stays P B) (plan : Plan) (r : Rules P B s plan) where
  pub all_maps : (tells : Bool) (old new : World) (steps : List MadeStep) → MakesAll plan tells old steps new → Stands plan old → Holds P B (mail_world_of old) → Holds P B (mail_world_of new)
  all_maps tells old new [] is stands h = subst (λ (x : World). Holds P B (mail_world_of x)) (sym is) h
  all_maps tells old new (made ∷ steps) (mid, first, others) stands h =
      all_maps tells mid new steps others (makes_stand plan old stands tells made.step made.outcome mid first)
      (one_hold P B s plan r (mail_world_of old) stands.sound.mail h tells (step_seen made.step) (outcome_seen made.outcome) (mail_world_of mid) (makes_seen plan tells old mid made.step made.outcome first))
