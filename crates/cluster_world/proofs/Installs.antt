-- What a step adds to the book of epochs that were installed.
use Rattle.std.proofs.Common.{◌≡◌, ℕ, Bool, arith, true, false, ◌&&◌, nat_eq, List, [], ◌∷◌, ◌++◌, append_assoc, append-nil, Option, Some, None, Result, Ok, Err, MatchBool, refl, sym, ap, ◌∙◌, subst, if◌then◌else◌}
use Rattle.mail_model.specs.Plan.{Plan}
use Rattle.mail_model.specs.Identity.{EpochId}
use Rattle.object_model.specs.Keys.{is_same_epoch}
use Rattle.object_model.specs.Letters.{Letter, Number}
use Rattle.cluster_model.specs.Cluster as plain
use Rattle.cluster_model.specs.Cluster.{epoch_of}
use Rattle.cluster_model.specs.Room.{Flight}
use Rattle.node_store.specs.Disks.{View}
use Rattle.node_core.specs.declared.fault.NodeFault.{NodeFault}
use Rattle.node_core.specs.declared.fault.NodeFault.TheVariants.{Disk, Worn, NoMemory}
use Rattle.node_core.specs.declared.outbox.Outbox.{Outbox}
use Rattle.node_core.specs.declared.outbox.Why.{Why}
use Rattle.world_book.specs.Books.{entries_of}
use Rattle.world_book.specs.declared.book.Book.{Book}
use Rattle.world_book.specs.declared.entry.Entry.{Entry}
use Rattle.world_book.specs.declared.entry.Entry.TheVariants as entry
use Rattle.cluster_world.specs.Begins.{entries_of_failure, GoesOn, Concludes}
use Rattle.cluster_world.specs.Books.{booked_by}
use Rattle.cluster_world.specs.Flights.{InFlight}
use Rattle.cluster_world.specs.Installs.{install_in, installs_in, installs_booked, epoch_on, entry_of_install, entries_of_install, installer, AddsInstalls}
use Rattle.cluster_world.specs.Lives.{of_node}
use Rattle.cluster_world.specs.Posts.{IsEntered, AnswersSent, EndsThrown, EndsHeard, EndsPost}
use Rattle.cluster_world.specs.Steps.{StepDid, AreSettled}
use Rattle.cluster_world.specs.Unfinished.{takes_down}
use Rattle.cluster_world.specs.Worlds.{state_with, node_of_life}
use Rattle.cluster_world.specs.declared.life.Life.{Life}
use Rattle.cluster_world.specs.declared.nodes.Nodes.{Nodes}
use Rattle.cluster_world.specs.declared.step.Step.{Step}
use Rattle.cluster_world.specs.declared.step.Said.{Said}
use Rattle.cluster_world.specs.declared.fault.StepFault.{StepFault}

-- one list after another
pub installs_more : (xs ys : List Entry) → installs_in (xs ++ ys) ≡ installs_in xs ++ installs_in ys
installs_more [] ys = refl
installs_more (x ∷ xs) ys = ap (λ zs. install_in x ++ zs) (installs_more xs ys) ∙ sym (append_assoc (install_in x) (installs_in xs) (installs_in ys))

-- entries of other things add none
pub adds_none : (book book' : Book) (added : List Entry) → entries_of book' ≡ entries_of book ++ added → installs_in added ≡ [] → installs_booked book' ≡ installs_booked book
adds_none book book' added wrote none = ap installs_in wrote ∙ installs_more (entries_of book) added ∙ ap (λ xs. installs_booked book ++ xs) none ∙ append-nil (installs_booked book)

pub if_adds_none : (b : Bool) (entries : List Entry) → installs_in entries ≡ [] → installs_in (if b then entries else []) ≡ []
if_adds_none true entries none = none
if_adds_none false entries none = refl

with_fall : (n : ℕ) (entries : List Entry) → installs_in entries ≡ [] → installs_in (entries ++ entry.Down n ∷ []) ≡ []
with_fall n entries none = installs_more entries (entry.Down n ∷ []) ∙ ap (λ xs. xs ++ []) none

failure_adds_none : (n : ℕ) (entries : List Entry) (why : NodeFault) → installs_in entries ≡ [] → installs_in (entries_of_failure n entries why) ≡ []
failure_adds_none n entries Disk none = with_fall n entries none
failure_adds_none n entries Worn none = refl
failure_adds_none n entries (NoMemory true) none = with_fall n entries none
failure_adds_none n entries (NoMemory false) none = refl

entered_none : (n : ℕ) (book book' : Book) → IsEntered n book book' → installs_booked book' ≡ installs_booked book
entered_none n book book' e = adds_none book book' (entry.Down n ∷ []) e.wrote refl

pub stopped_adds_none : (n : ℕ) (down : Bool) (book book' : Book) → MatchBool down (IsEntered n book book') (book' ≡ book) → installs_booked book' ≡ installs_booked book
stopped_adds_none n true book book' entered = entered_none n book book' entered
stopped_adds_none n false book book' same = ap installs_booked same

-- A call that begins adds what is to be deleted, and that its node fell.
pub begin_adds_none : {D : Type 0} (on : View D) (n : ℕ) (entries : List Entry) (result : Result Said StepFault) (old : Nodes D) (flying : InFlight) (book : Book) (new : Nodes D) (flying' : InFlight) (book' : Book)
    (did : Result (Option Number × Outbox) NodeFault) → installs_in entries ≡ [] → Concludes on n entries result old flying book new flying' book' did → installs_booked book' ≡ installs_booked book
begin_adds_none on n entries result old flying book new flying' book' (Ok begun) none (GoesOn.Flies is off wrote) = adds_none book book' entries wrote none
begin_adds_none on n entries result old flying book new flying' book' (Ok begun) none (GoesOn.Falls is some left turned wrote) = adds_none book book' (entries ++ entry.Down n ∷ []) wrote (with_fall n entries none)
begin_adds_none on n entries result old flying book new flying' book' (Err why) none fails = adds_none book book' (entries_of_failure n entries why) fails.wrote (failure_adds_none n entries why none)

module _ {D : Type 0} (on : View D) (plan : Plan) (n : ℕ) (posted : Option ℕ) where
  -- Letters that are sent add nothing, and where there is no memory for them it is that the node fell.
  pub sent_adds_none : (says : Said) (letters : List Letter) (result : Result Said StepFault) (old : Nodes D) (flying : InFlight) (book : Book) (new : Nodes D) (flying' : InFlight) (book' : Book)
      → AnswersSent on plan n posted says letters result old flying book new flying' book' → installs_booked book' ≡ installs_booked book
  sent_adds_none says letters (Ok said) old flying book new flying' book' sent = ap installs_booked sent.2
  sent_adds_none says letters (Err why) old flying book new flying' book' sent = entered_none n book book' sent.3

  heard_adds_none : (thrown : Option Why) (letters : List Letter) (result : Result Said StepFault) (old : Nodes D) (flying : InFlight) (book : Book) (new : Nodes D) (flying' : InFlight) (book' : Book)
      → EndsHeard on plan n posted thrown letters result old flying book new flying' book' → installs_booked book' ≡ installs_booked book
  heard_adds_none None letters result old flying book new flying' book' sent = sent_adds_none _ letters result old flying book new flying' book' sent
  heard_adds_none (Some why) letters result old flying book new flying' book' (EndsThrown.Leaves none is stay left same) = ap installs_booked same
  heard_adds_none (Some why) letters result old flying book new flying' book' (EndsThrown.IsAnswered some sent) = sent_adds_none _ letters result old flying book new flying' book' sent

  -- nor does a letter that was handed to its receiver
  pub post_adds_none : (heard : Result Outbox NodeFault) (result : Result Said StepFault) (old : Nodes D) (flying : InFlight) (book : Book) (new : Nodes D) (flying' : InFlight) (book' : Book)
      → EndsPost on plan n posted heard result old flying book new flying' book' → installs_booked book' ≡ installs_booked book
  post_adds_none (Ok outbox) result old flying book new flying' book' ends = heard_adds_none outbox.thrown outbox.letters result old flying book new flying' book' ends
  post_adds_none (Err why) result old flying book new flying' book' ends = stopped_adds_none n (takes_down why) book book' ends.0.2

same_number : (n : ℕ) → nat_eq n n ≡ true
same_number n = grind arith

same_epoch : (e : EpochId) → is_same_epoch e e ≡ true
same_epoch e = ap (λ b. b && nat_eq e.node e.node) (same_number e.count) ∙ same_number e.node

-- who is as it was has no other epoch
stays_so : (n : ℕ) (node : Option plain.Node) → entry_of_install n (epoch_on node) node ≡ []
stays_so n None = refl
stays_so n (Some node) = ap (λ b. if b then [] else entry.Installed n node.boot (epoch_of node) ∷ []) (same_epoch (epoch_of node))

pub none_installed : (who : Option ℕ) (lives : List Life) → entries_of_install who lives lives ≡ []
none_installed None lives = refl
none_installed (Some n) lives = stays_so n (node_of_life (of_node lives n))

-- a step in which nothing was done
pub none_added : (step : Step) (flights : List Flight) (lives : List Life) (book book' : Book) → installs_booked book' ≡ installs_booked book → AddsInstalls step flights lives book lives book'
none_added step flights lives book book' same = same ∙ sym (append-nil (installs_booked book)) ∙ ap (λ xs. installs_booked book ++ xs) (sym (none_installed (installer step flights) lives))

-- a step in which nobody may install an epoch
pub nobody_added : (step : Step) (flights : List Flight) (old new : List Life) (book book' : Book) → installer step flights ≡ None → installs_booked book' ≡ installs_booked book → AddsInstalls step flights old book new book'
nobody_added step flights old new book book' nobody same =
    same ∙ sym (append-nil (installs_booked book)) ∙ ap (λ who. installs_booked book ++ entries_of_install who old new) (sym nobody)

-- a step in which this node may
pub entry_added : (step : Step) (flights : List Flight) (old new : List Life) (n : ℕ) (was : EpochId) (book mid book' : Book) → installer step flights ≡ Some n → was ≡ epoch_on (node_of_life (of_node old n)) → installs_booked mid ≡ installs_booked book
    → installs_booked book' ≡ installs_booked mid ++ entry_of_install n was (node_of_life (of_node new n)) → AddsInstalls step flights old book new book'
entry_added step flights old new n was book mid book' who was_is same added =
    added ∙ ap (λ xs. xs ++ entry_of_install n was (node_of_life (of_node new n))) same
    ∙ ap (λ e. installs_booked book ++ entry_of_install n e (node_of_life (of_node new n))) was_is
    ∙ ap (λ who. installs_booked book ++ entries_of_install who old new) (sym who)

-- What was done over a book that says the same, and then came into one that says the same.
module _ {D : Type 0} (old new : Nodes D) (flying flying' : InFlight) (seconds : ℕ) (book roomy mid book' : Book) (roomy_is : booked_by roomy ≡ booked_by book) (mid_is : booked_by book' ≡ booked_by mid) where
  pub did_alike : (on : View D) (result : Result Said StepFault) (step : Step) → StepDid on result step (state_with old flying seconds roomy) (state_with new flying' seconds mid)
      → StepDid on result step (state_with old flying seconds book) (state_with new flying' seconds book')
  did_alike on result step did =
      subst (λ b. StepDid on result step (record (state_with old flying seconds book) { book = b }) (state_with new flying' seconds book')) roomy_is
      (subst (λ b. StepDid on result step (state_with old flying seconds roomy) (record (state_with new flying' seconds mid) { book = b })) (sym mid_is) did)

  pub settled_alike : (is_settled : D → Type 0) → (AreSettled is_settled (state_with old flying seconds roomy) → AreSettled is_settled (state_with new flying' seconds mid))
      → AreSettled is_settled (state_with old flying seconds book) → AreSettled is_settled (state_with new flying' seconds book')
  settled_alike is_settled settles was =
      subst (λ b. AreSettled is_settled (record (state_with new flying' seconds mid) { book = b })) (sym mid_is)
      (settles (subst (λ b. AreSettled is_settled (record (state_with old flying seconds book) { book = b })) (sym roomy_is) was))
