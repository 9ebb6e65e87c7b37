-- A worked case: a plan of one node.
use Rattle.std.proofs.Common.{◌≡◌, ◌⊎◌, inl, inr, ⊎_elim, ℕ, zero, suc, ◌≤◌, Bool, List, [], ◌∷◌, Option, Some, None, refl, sym, ap, ◌∙◌, subst, arith, le_refl}
use Rattle.std.specs.Prelude.{slice_get}
use Rattle.mail_model.specs.Identity.{no_epoch}
use Rattle.mail_model.specs.Record.{Record}
use Rattle.mail_model.specs.Record.Record.{Boot, Promise}
use Rattle.mail_model.specs.Book.BookEntry.{CameUp}
use Rattle.object_model.specs.Letters.{Member, MapRow, Membership}
use Rattle.maps_model.specs.Cluster as maps
use Rattle.maps_model.specs.Assign.{IsOfMembers, ClaimedRow, FreeRow, IsAssigned, load}
use Rattle.maps_model.specs.Rules as maps_rules
use Rattle.maps_model.proofs.CanEnter.{can_enter}
use Rattle.whole_model.specs.Whole.{Node, maps_disk_of}
use Rattle.whole_world.specs.World.{World, slot_up, after}
use Rattle.whole_world.specs.Makes.{done_for_maps, started}
use Rattle.whole_world.specs.Makes.StartsUp.{Comes}
use Rattle.whole_world.specs.Makes.Groups.{Opens}
use Rattle.whole_world.specs.Makes.DoesStep.{Starts, OpensGroup, ConcludesGroup}
use Rattle.whole_world.specs.Regroup.Regroups.{AtOnce}
use Rattle.whole_world.specs.Worked.{epoch_one, OneNodeRegroups}

abbrev first_disk : List Record
first_disk = Boot 1 ∷ []

abbrev first_node : Node
first_node = started 1 1 [] first_disk

abbrev up_world : World
up_world = record { slots = slot_up first_node first_disk ∷ []; flying = []; sent = 0; seconds = 0; book = CameUp 1 1 ∷ [] }

abbrev opening : maps_rules.Reaction
opening = maps_rules.start_group 1 1 first_node.maps (maps_disk_of first_disk)

abbrev group_disk : List Record
group_disk = Boot 1 ∷ Promise epoch_one ∷ []

abbrev group_node : Node
group_node = record { mail = first_node.mail; maps = opening.node }

abbrev group_world : World
group_world = record { slots = slot_up group_node group_disk ∷ []; flying = []; sent = 0; seconds = 0; book = CameUp 1 1 ∷ [] }

abbrev member : Member
member = record { node = 1; boot = 1; was = no_epoch }

abbrev group : maps.OpenGroup
group = record { epoch = epoch_one; joins = record { member = member; claims = [] } ∷ [] }

abbrev row : MapRow
row = record { manager = 1; since = epoch_one }

abbrev g : Membership
g = maps_rules.membership_of group (row ∷ [])

-- the one member has the one bucket
only_member : (other : ℕ) → IsOfMembers (member ∷ []) other → other ≡ 1
only_member other m = ⊎_elim (λ e. sym m.is ∙ ap (λ (x : Member). x.node) (sym e)) (λ none. absurd none) m.inside

assigned : IsAssigned [] (member ∷ []) 1 epoch_one (row ∷ [])
assigned = record { size = refl; each = each }
  where
    free : FreeRow [] (member ∷ []) epoch_one (row ∷ []) 0 row
    free = record {
      unclaimed = λ claim c. c.inside;
      least = record {
        of_member = record { member = member; inside = inl refl; is = refl };
        fewest = λ other m. subst (λ k. load [] (member ∷ []) (row ∷ []) 0 1 ≤ load [] (member ∷ []) (row ∷ []) 0 k) (sym (only_member other m)) (le_refl (load [] (member ∷ []) (row ∷ []) 0 1));
        lowest = λ other m e. subst (λ k. 1 ≤ k) (sym (only_member other m)) (le_refl 1);
      };
      new = refl;
    }

    none : (k : ℕ) → slice_get (row ∷ []) (suc k) ≡ None
    none k = refl

    each : (bucket : ℕ) (one : MapRow) → slice_get (row ∷ []) bucket ≡ Some one → ClaimedRow [] (member ∷ []) bucket one ⊎ FreeRow [] (member ∷ []) epoch_one (row ∷ []) bucket one
    each zero one e = inr (subst (FreeRow [] (member ∷ []) epoch_one (row ∷ []) 0) (some row one e) free)
      where
        some : (a b : MapRow) → Some a ≡ Some b → a ≡ b
        some a b h = cc
    each (suc k) one e = absurd (cc e)

names : maps.NamesNode g 1 1
names = record { member = member; is = refl; same = refl }

entering : (marked : List ℕ → Bool) × ((rows : ℕ → ℕ → List ℕ → Option _) × maps_rules.Entering 1 group_node.maps (maps_disk_of group_disk) g marked rows)
entering = can_enter 1 group_node.maps (maps_disk_of group_disk) g names

abbrev concluded : maps_rules.Reaction
concluded = maps_rules.conclude 1 group_node.maps (maps_disk_of group_disk) group (row ∷ []) entering.0 entering.1.0

abbrev formed_world : World
formed_world = after group_world 1 (done_for_maps group_node group_disk concluded None concluded.out)

pub one_node : OneNodeRegroups
one_node = (
  up_world,
  formed_world,
  (refl, Starts 1 refl (Comes [] [] [] refl (inl refl) (omega arith) refl first_disk refl refl)),
  AtOnce epoch_one [] group_world
      (record {
        opened = group_world;
        asked = group_world;
        answers = [];
        opens = (refl, OpensGroup 1 refl (Opens first_node first_disk refl refl refl));
        asks = refl;
        all_asked = refl;
        hears = refl;
        all_heard = refl;
      })
      (λ m. m)
      (record {
        formed = formed_world;
        concludes = (
          refl,
          ConcludesGroup 1 refl (record {
            node = group_node;
            disk = group_disk;
            up = refl;
            did = concluded;
            concludes = record { some = omega arith; group = group; opened = refl; rows = row ∷ []; assigned = assigned; marked = entering.0; told = entering.1.0; entering = entering.1.1; is = refl };
            said_is = refl;
            new_world = refl;
          }),
        );
        installs = [];
        posts = refl;
        all_posted = refl;
      }),
)
