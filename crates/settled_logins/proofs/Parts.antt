-- The parts on deletions and on octets hold of every world with calls that read that comes of an opening.
use Rattle.std.proofs.Common.{◌≡◌, ◌≤◌, Bool, List, [], sym, ap, ◌∙◌, refl, subst}
use Rattle.mail_model.specs.Plan.{Plan}
use Rattle.object_model.specs.Letters.{MapRow}
use Rattle.cluster_model.specs.Starts.{first_membership}
use Rattle.cluster_model.specs.World as mail
use Rattle.cluster_model.specs.WorldLaws.{opening_world}
use Rattle.maps_model.specs.Words.{ManagersAreMembers}
use Rattle.whole_world.specs.Makes.{MadeStep}
use Rattle.whole_world.specs.World as whole
use Rattle.whole_world.proofs.InFirst.{first_stands}
use Rattle.login_model.specs.Cluster as login
use Rattle.joint_world.specs.World.{World, whole_world_of, mail_world_of}
use Rattle.joint_world.specs.Makes.{MakesAll}
use Rattle.joint_world.specs.Laws.{Stands}
use Rattle.joint_world.specs.First.{first_world}
use Rattle.joint_world.proofs.Opening.{first_all_stand}
use Rattle.joint_world.proofs.Standing.{all_same}
use Rattle.kept_parts.specs.Kept.{PartsHold}
use Rattle.kept_parts.proofs.Both.{mail_worlds, whole_all}

pub parts_stay : (plan : Plan) (tells : Bool) (story : List (List login.Slot)) (old new : World) (steps : List MadeStep) → plan.nodes ≤ 64 → MakesAll plan tells old steps new → Stands plan tells story old
    → PartsHold plan (mail_world_of old) → PartsHold plan (mail_world_of new)
parts_stay plan tells story old new steps few makes stands p =
    whole_all plan few tells (whole_world_of old) (whole_world_of new) steps (all_same plan tells story old new steps makes stands) stands.whole p

pub worlds_have_parts : (plan : Plan) (tells : Bool) (rows : List MapRow) (steps : List MadeStep) (w : World) → 1 ≤ plan.nodes → plan.nodes ≤ 64 → ManagersAreMembers (first_membership plan.nodes rows)
    → MakesAll plan tells (first_world plan.nodes rows) steps w → PartsHold plan (mail_world_of w)
worlds_have_parts plan tells rows steps w some few managed makes =
    let f = first_all_stand plan tells rows some few managed in
    let is : mail_world_of (first_world plan.nodes rows) ≡ opening_world plan.nodes rows = ap whole.mail_world_of f.1 ∙ (first_stands plan rows some few managed).1 in
    parts_stay plan tells _ (first_world plan.nodes rows) w steps few makes f.0
    (subst (λ (v : mail.World). PartsHold plan v) (sym is) (mail_worlds plan few tells rows [] (opening_world plan.nodes rows) refl))
