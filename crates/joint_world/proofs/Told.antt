-- What calls that read were told is on disks still.
use Rattle.std.proofs.Common.{◌≡◌, ℕ, Bool, List, Some, sym, ap, ◌∙◌, subst}
use Rattle.mail_model.specs.Identity.Key.{Message}
use Rattle.mail_model.specs.Plan.{Plan}
use Rattle.mail_model.specs.Record.Record.{Octets as OctetsRecord, Stated}
use Rattle.object_model.specs.Lists.{Among}
use Rattle.object_model.specs.Letters.{Number, ToldItem}
use Rattle.object_model.specs.Letters.ToldPart.{Octets}
use Rattle.object_model.proofs.SaidLaws.{said_backed}
use Rattle.object_model.proofs.Lists.{among_front}
use Rattle.cluster_model.proofs.Filing.{map_among, octets_stand}
use Rattle.login_model.specs.Cluster as login
use Rattle.login_model.specs.Readings.{ToldList, Login, Fetch}
use Rattle.login_model.specs.Readings.LoginStage.{AsksNodes}
use Rattle.login_model.specs.Readings.FetchStage.{IsAnswered}
use Rattle.login_model.specs.Readings.Reading.{LogsIn, Fetches}
use Rattle.login_model.specs.Facts.{copy_told}
use Rattle.login_model.proofs.Known.{login_knows, fetch_knows}
use Rattle.joint_model.specs.Joint.{Slot, slot_at}
use Rattle.joint_world.specs.World.{World, reads_of}
use Rattle.joint_world.specs.Laws.{Stands}
use Rattle.joint_world.specs.Told.{HasCopy, IsPartOf}

pub listed_kept : (plan : Plan) (tells : Bool) (story : List (List login.Slot)) (w : World) → Stands plan tells story w → (number : Number) (one : Login) → login.NodesRead (reads_of tells story w).slots number (LogsIn one)
    → (named waiting : ℕ) (told : List ToldList) → one.stage ≡ AsksNodes named waiting told → (list : ToldList) → Among list told → (item : ToldItem) → Among item list.items
    → (now : Slot) × (slot_at w.slots list.node ≡ Some now) × HasCopy one.user item.id item.size now.disk
listed_kept plan tells story w stands number one r named waiting told stage list inside item m =
    let was = (login_knows (reads_of tells story w) stands.reads number one r named waiting told stage).lists list inside in
    let front = stands.fronts was.moment was.inside list.node was.slot was.here in
    let copy = (was.shows.shows.exact (copy_told item)).0 (map_among copy_told item list.items m) in
    let backed = said_backed (Message one.user item.id) was.slot.disk _ copy.says in (
      front.0,
      front.1,
      record {
        state = backed.top;
        says = subst (Among (Stated (Message one.user item.id) backed.top)) (sym front.2.is) (among_front (Stated (Message one.user item.id) backed.top) was.slot.disk front.2.rest backed.inside);
        here = backed.same_value;
        octets = copy.octets;
        holds = subst (Among (OctetsRecord item.id copy.octets)) (sym front.2.is) (among_front (OctetsRecord item.id copy.octets) was.slot.disk front.2.rest (octets_stand item.id copy.octets was.slot.disk copy.held));
        count = copy.size;
      },
    )

pub part_kept : (plan : Plan) (tells : Bool) (story : List (List login.Slot)) (w : World) → Stands plan tells story w → (number : Number) (one : Fetch) → login.NodesRead (reads_of tells story w).slots number (Fetches one)
    → (by : ℕ) (octets : List ℕ) (whole : ℕ) → one.stage ≡ IsAnswered by (Octets octets whole) → (now : Slot) × (slot_at w.slots by ≡ Some now) × IsPartOf tells one.id one.at one.most octets whole now.disk
part_kept plan tells story w stands number one r by octets whole stage =
    let was = fetch_knows (reads_of tells story w) stands.reads number one r by (Octets octets whole) stage in
    let front = stands.fronts was.moment was.inside by was.slot was.here in
    let part = was.shows.shows.1 in
    let same : was.shows.node.tells ≡ tells = stands.alike was.moment was.inside by was.shows.node was.slot.disk (was.here ∙ ap (λ (l : login.Life). Some (record { life = l; disk = was.slot.disk })) was.shows.up) in (
      front.0,
      front.1,
      record {
        all = part.all;
        holds = subst (Among (OctetsRecord one.id part.all)) (sym front.2.is) (among_front (OctetsRecord one.id part.all) was.slot.disk front.2.rest (octets_stand one.id part.all was.slot.disk part.held));
        part = λ t. part.part (same ∙ t);
        count = part.count;
      },
    )
