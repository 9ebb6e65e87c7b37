-- A group that was opened or concluded, and what is left of both halves.
use Rattle.std.proofs.Common.{◌≡◌, ◌<◌, ◌≤◌, ◌-◌, ◌^◌, ℕ, Bool, true, false, List, [], ◌∷◌, ◌++◌, map, Option, Some, None, refl, sym, ap, ◌∙◌, subst, arith, ⊎_elim, nat_eq, if◌then◌else◌}
use Rattle.std.specs.Prelude.{All, ⊤, reverse, nat_le, Err}
use Rattle.std.proofs.lemmas.Bool.{le-leb, lt-leb}
use Rattle.std.proofs.lemmas.List.Elements.{All-append}
use Rattle.std.proofs.lemmas.List.Sorted.{All-permutation, IsPermutation-reverse}
use Rattle.mail_model.specs.Identity.{EpochId, no_epoch}
use Rattle.mail_model.specs.Grammar.{IsNodeNumber}
use Rattle.mail_model.specs.Record.{Record}
use Rattle.object_model.specs.Lists.{Among}
use Rattle.object_model.proofs.Lists.{among_either}
use Rattle.object_model.specs.Letters.{Member, Membership, Letter}
use Rattle.object_model.specs.Letters.Body.{Group, Install}
use Rattle.cluster_model.specs.Forms.{IsPlainMaps}
use Rattle.whole_world.proofs.Seeing.{group_sends, among_reverse}
use Rattle.cluster_model.specs.Cluster as plain
use Rattle.maps_model.specs.Cluster as maps
use Rattle.maps_model.specs.Rules as rules
use Rattle.maps_model.specs.Rules.{letter_to, others}
use Rattle.maps_model.specs.Moves.{NodeInOrder}
use Rattle.whole_model.specs.Whole.{maps_disk_of}
use Rattle.whole_model.specs.Rules.{promise_records}
use Rattle.whole_world.specs.Steps.{greatest_epoch}
use Rattle.whole_world.specs.Makes.{done_for_maps}
use Rattle.node_store.specs.Disks.{View}
use Rattle.node_store.specs.declared.fault.KeepFault.TheVariants as keep
use Rattle.node_store.specs.declared.store.NodeStore.{NodeStore}
use Rattle.mailbox_fragment.specs.Here.{is_here_in}
use Rattle.mailbox_fragment.specs.declared.fragments.Fragments.{Fragments}
use Rattle.node_maps.specs.Nodes.{node_of, own_of, KeepsNode, installs_to}
use Rattle.node_maps.specs.Hearing.{left_by}
use Rattle.node_maps.specs.Rounds as rounds
use Rattle.node_maps.specs.declared.concluding.Concluded.{Concluded}
use Rattle.node_maps.specs.declared.maps.NodeMaps.{NodeMaps}
use Rattle.node_core.specs.Nodes.{node_seen, NodeKeeps, CanWork}
use Rattle.node_core.specs.Installing.{HasInstalled}
use Rattle.node_core.specs.Spelling.{CanBeTaken, AllCanBeTaken}
use Rattle.node_core.specs.Works.{NodeDid, NodeFailed, LeavesUp}
use Rattle.node_core.specs.declared.fault.NodeFault.{NodeFault}
use Rattle.node_core.specs.declared.fault.NodeFault.TheVariants.{Disk, Worn, NoMemory}
use Rattle.node_core.specs.declared.node.Node.{Node}
use Rattle.node_core.proofs.Sending.{none_fit}
use Rattle.joint_model.specs.Joint.Life.{Up}
use Rattle.joint_world.specs.Staying.{KeepsReads}
use Rattle.whole_node.specs.Nodes.{whole_seen, joint_seen, KnowsHere, HasMaps, KeepsBeside, WholeWorks}
use Rattle.whole_node.specs.Forming.{forms_by, FormsOn}
use Rattle.whole_node.specs.Hearing.{FitsMaps, appends_promise}
use Rattle.whole_node.specs.Grouping.{next_of, GroupOpened, Unopened, StopsOpening, OpensGroup, ConcludedBy, GroupConcluded, ConcludesOrNot, ConcludesGroup}
use Rattle.whole_node.specs.declared.grouping.Grouped.{Grouped}
use Rattle.whole_node.specs.declared.node.WholeNode.{WholeNode}
use Rattle.whole_node.proofs.Beside.{reads_of, idle_beside}
use Rattle.whole_node.proofs.Called.{same_own, done_stops, knows_any}
use Rattle.whole_node.proofs.Said.{none_says, more_says, more_taken}
use Rattle.whole_node.proofs.Looked.{as_it_was, is_disk, has_ruled}
use Rattle.whole_node.proofs.Forming.{stopped_forming}

-- work that was done, and the letters that it sends after all
did_sent : {D : Type 0} (on : View D) (promise : Option EpochId) (old new : Node) (before after : D) (sent : List Letter)
    → NodeDid on (appends_promise promise []) old before new after [] → AllCanBeTaken sent → NodeDid on (forms_by (λ node. node) (node_seen old).installed promise sent) old before new after sent
did_sent on promise old new before after sent d fits = record {
  added = d.added;
  disk = λ records k. d.disk records k;
  node = λ records k. d.node records k;
  out = λ records k. refl;
  keeps = d.keeps;
  boot = d.boot;
  same = d.same;
  works = d.works;
  appends = d.appends;
  fits = fits;
}

groups_fit : (own : ℕ) (epoch : EpochId) → IsNodeNumber epoch.node → (ns : List ℕ) → All FitsMaps (map (letter_to own (Group epoch)) ns)
groups_fit own epoch fits [] = none_says
groups_fit own epoch fits (n ∷ ns) = more_says (letter_to own (Group epoch) n) (map (letter_to own (Group epoch)) ns) (fits, tt) (groups_fit own epoch fits ns)

groups_taken : (own : ℕ) (epoch : EpochId) → (ns : List ℕ) → AllCanBeTaken (map (letter_to own (Group epoch)) ns)
groups_taken own epoch [] = none_fit
groups_taken own epoch (n ∷ ns) = more_taken (letter_to own (Group epoch) n) (map (letter_to own (Group epoch)) ns) tt (groups_taken own epoch ns)

any_disk : maps.Disk
any_disk = record { boot = 0; promise = no_epoch; holds = λ user. false }

module _ {D : Type 0} (on : View D) (nodes : ℕ) (old : WholeNode) (before : D) (works : WholeWorks (on.seen before) old) where
  pub next_is : rules.next_epoch (own_of old.maps) (node_of old.maps) ≡ next_of old
  next_is = ap (λ (n : ℕ). rules.next_epoch n (node_of old.maps)) works.maps.own

  pub next_fits : IsNodeNumber (next_of old).node
  next_fits = let s = works.mail.whole.shape in (omega (arith, s.some), omega (arith, s.within, s.few))

  -- its work stopped
  pub opening_failed : (new : WholeNode) (after : D) (fault : NodeFault) → nat_le greatest_epoch (node_of old.maps).heard ≡ false → new.maps ≡ old.maps
      → NodeFailed on (appends_promise (Some (next_of old)) []) ⊤ fault old.mail before new.mail after → OpensGroup on nodes old before new after (Err fault)
  opening_failed new after Disk fresh maps f = record { fresh = fresh; failed = (tt, stopped_forming on (λ node. node) (Some (next_of old)) old.mail before after f.1, f.2) }
  opening_failed new after Worn fresh maps f = absurd f
  opening_failed new after (NoMemory true) fresh maps f = record { fresh = fresh; failed = (tt, stopped_forming on (λ node. node) (Some (next_of old)) old.mail before after f.1, f.2) }
  opening_failed new after (NoMemory false) fresh maps f = record { as_before = f.0; maps = maps; untouched = f.1 }

  module _ (new : WholeNode) (after : D) (d : NodeDid on (appends_promise (Some (next_of old)) []) old.mail before new.mail after []) where
    -- memory ran out once the promise stood
    pub opening_stops : nat_le greatest_epoch (node_of old.maps).heard ≡ false → OpensGroup on nodes old before new after (Err (NoMemory true))
    opening_stops fresh =
        let s = done_stops on (appends_promise (Some (next_of old)) []) old.mail before new.mail after [] d in
        record { fresh = fresh; failed = (tt, stopped_forming on (λ node. node) (Some (next_of old)) old.mail before after s.0, s.1) }

    module _ (letters : List Letter) (opens : rounds.OpensGroup nodes letters old.maps new.maps) where
      started : (disk : maps.Disk) → rules.start_group old.mail.store.own nodes (node_of old.maps) disk ≡ left_by new.maps (Some (next_of old)) disk letters
      started disk = subst (λ (n : ℕ). rules.start_group n nodes (node_of old.maps) disk ≡ left_by new.maps (Some (rules.next_epoch n (node_of old.maps))) disk letters) works.maps.own (opens.did disk)

      letters_are : map (letter_to old.mail.store.own (Group (next_of old))) (others old.mail.store.own nodes) ≡ letters
      letters_are = ap (λ (r : rules.Reaction). r.out) (started any_disk)

      turned_fit : All FitsMaps (reverse letters)
      turned_fit = All-permutation FitsMaps letters (reverse letters) (IsPermutation-reverse letters)
          (subst (All FitsMaps) letters_are (groups_fit old.mail.store.own (next_of old) next_fits (others old.mail.store.own nodes)))

      turned_taken : AllCanBeTaken (reverse letters)
      turned_taken = All-permutation (λ (l : Letter). CanBeTaken l.body) letters (reverse letters) (IsPermutation-reverse letters)
          (subst AllCanBeTaken letters_are (groups_taken old.mail.store.own (next_of old) (others old.mail.store.own nodes)))

      abbrev with_installed : Option Membership → plain.Node
      with_installed installed = record (node_seen old.mail) { installed = installed }

      mail_seen : node_seen new.mail ≡ record (node_seen old.mail) { installed = (node_of new.maps).installed }
      mail_seen = sym (d.node works.maps.records works.maps.keeps) ∙ ap with_installed (works.maps.epoch ∙ ap (λ (r : rules.Reaction). r.node.installed) (started any_disk))

      turned_sends : (letter : Letter) → Among letter (reverse letters) → IsPlainMaps letter
      turned_sends letter m = group_sends old.mail.store.own nodes (node_of old.maps) any_disk letter (subst (Among letter) (sym letters_are) (among_reverse letter letters m))

      pub opened_so : (done : Grouped) → nat_le greatest_epoch (node_of old.maps).heard ≡ false → done.epoch ≡ next_of old → done.letters ≡ reverse letters → GroupOpened on nodes old before new after done
      opened_so done fresh epoch is = record {
        fresh = fresh;
        epoch = epoch;
        rule = λ records keeps.
            (λ i. record { node = record { mail = mail_seen i; maps = node_of new.maps }; disk = records ++ promise_records (Some (next_of old)); out = is i })
            ∙ ap (λ (r : rules.Reaction). done_for_maps (whole_seen old) records r (Some (next_of old)) (reverse r.out)) (sym (started (maps_disk_of records)));
        mail = record {
          did = did_sent on (Some (next_of old)) old.mail new.mail before after done.letters d (subst AllCanBeTaken (sym is) turned_taken);
          sends = λ letter m. turned_sends letter (subst (Among letter) is m);
        };
        fits = subst (All FitsMaps) (sym is) turned_fit;
      }

      pub opened_has : HasMaps new
      opened_has = has_ruled on (appends_promise (Some (next_of old)) []) (Some (next_of old)) old before new after [] works.maps (λ records. refl) d opens.own
          (sym (ap (λ (r : rules.Reaction). r.node.boot) (started any_disk))) (ap (λ (n : plain.Node). n.installed) mail_seen) opens.held

      pub opened_works : new.reads ≡ old.reads → WholeWorks (on.seen after) new
      opened_works reads = record {
        mail = d.works;
        maps = opened_has;
        reads = reads_of old new (record { own = same_own old.mail new.mail d.same; boot = d.boot }) works.reads reads;
      }

      pub opened_beside : KeepsBeside old new → KeepsReads (Up (joint_seen old)) (joint_seen new)
      opened_beside kept = idle_beside old new (sym (ap (λ (r : rules.Reaction). r.node.installed) (started any_disk))) kept

pub nothing_opened : {D : Type 0} (on : View D) (nodes : ℕ) (old : WholeNode) (before : D) → nat_le greatest_epoch (node_of old.maps).heard ≡ true → OpensGroup on nodes old before old before (Err Worn)
nothing_opened on nodes old before worn = (worn, record { as_before = as_it_was old.mail; maps = refl; untouched = refl })

pub worn_is : (heard : ℕ) → heard ≡ 2 ^ 64 - 1 → nat_le greatest_epoch heard ≡ true
worn_is heard e = le-leb greatest_epoch heard (subst (λ (n : ℕ). greatest_epoch ≤ n) (sym e) (omega arith))

pub fresh_is : (heard : ℕ) → heard < 2 ^ 64 - 1 → nat_le greatest_epoch heard ≡ false
fresh_is heard less = lt-leb greatest_epoch heard less

-- as it was, but for its maps, which the machine sees as they were
pub has_kept : (old new : WholeNode) → HasMaps old → new.mail ≡ old.mail → KeepsNode old.maps new.maps → HasMaps new
has_kept old new has mail kept = record {
  own = kept.own ∙ has.own ∙ ap (λ (n : Node). n.store.own) (sym mail);
  boot = ap (λ (n : maps.Node). n.boot) kept.node ∙ has.boot ∙ ap (λ (n : Node). (node_seen n).boot) (sym mail);
  epoch = ap (λ (n : Node). (node_seen n).installed) mail ∙ has.epoch ∙ sym (ap (λ (n : maps.Node). n.installed) kept.node);
  records = has.records;
  keeps = subst (NodeKeeps has.records) (sym mail) has.keeps;
  knows = λ user id. ap (λ (f : Fragments). is_here_in f user id) kept.held ∙ has.knows user id;
}

-- an Install for each of these members fits, and says nothing of messages
installs_fit : (own : ℕ) (g : Membership) (members : List Member) → All FitsMaps (installs_to own g members)
installs_fit own g [] = none_says
installs_fit own g (member ∷ members) = All-append FitsMaps _ (installs_to own g members) (by (nat_eq member.node own)) (installs_fit own g members)
  where
    by : (b : Bool) → All FitsMaps (if b then [] else letter_to own (Install g) member.node ∷ [])
    by true = none_says
    by false = more_says (letter_to own (Install g) member.node) [] (tt, tt) none_says

installs_taken : (own : ℕ) (g : Membership) (members : List Member) → AllCanBeTaken (installs_to own g members)
installs_taken own g [] = none_fit
installs_taken own g (member ∷ members) = All-append (λ (l : Letter). CanBeTaken l.body) _ (installs_to own g members) (by (nat_eq member.node own)) (installs_taken own g members)
  where
    by : (b : Bool) → AllCanBeTaken (if b then [] else letter_to own (Install g) member.node ∷ [])
    by true = none_fit
    by false = more_taken (letter_to own (Install g) member.node) [] tt none_fit

installs_plain : (own : ℕ) (g : Membership) (members : List Member) (letter : Letter) → Among letter (installs_to own g members) → IsPlainMaps letter
installs_plain own g [] letter m = absurd m
installs_plain own g (member ∷ members) letter m = ⊎_elim (λ front. by (nat_eq member.node own) front) (λ rest. installs_plain own g members letter rest) (among_either letter _ (installs_to own g members) m)
  where
    by : (b : Bool) → Among letter (if b then [] else letter_to own (Install g) member.node ∷ []) → IsPlainMaps letter
    by true t = absurd t
    by false t = ⊎_elim (λ e. subst IsPlainMaps e (record { body = tt; ticket = refl })) (λ none. absurd none) t

module _ (buckets : ℕ) (done : Concluded) (old new : WholeNode) (has : HasMaps old) (c : rounds.ConcludesGroup buckets done old.maps new.maps) (mail : HasInstalled (node_of new.maps).installed old.mail new.mail) where
  concludes : (records : List Record) → NodeKeeps records old.mail → NodeInOrder old.mail.store.own (node_of old.maps) (maps_disk_of records)
      → rules.Concludes old.mail.store.own buckets (node_of old.maps) (maps_disk_of records) (left_by new.maps None (maps_disk_of records) done.letters)
  concludes records keeps order =
      subst (λ (n : ℕ). rules.Concludes n buckets (node_of old.maps) (maps_disk_of records) (left_by new.maps None (maps_disk_of records) done.letters)) has.own
      (c.did (maps_disk_of records) (is_disk records old.maps (knows_any old has records keeps))
      (subst (λ (n : ℕ). NodeInOrder n (node_of old.maps) (maps_disk_of records)) (sym has.own) order))

  tells : done.letters ≡ installs_to old.mail.store.own c.tells.membership c.tells.membership.members
  tells = c.tells.letters ∙ ap (λ (n : ℕ). installs_to n c.tells.membership c.tells.membership.members) has.own

  pub concluded_so : GroupConcluded buckets done old new
  concluded_so = record {
    rule = λ records keeps order. record {
      did = left_by new.maps None (maps_disk_of records) done.letters;
      concludes = concludes records keeps order;
      left = λ i. record { node = record { mail = mail.seen i; maps = node_of new.maps }; disk = records ++ promise_records None; out = done.letters };
    };
    epoch = c.epoch;
    mail = mail;
    letters = record { membership = c.tells.membership; installed = c.tells.installed; epoch = c.tells.epoch; letters = tells };
    sends = λ letter m. installs_plain old.mail.store.own c.tells.membership c.tells.membership.members letter (subst (Among letter) tells m);
    taken = subst AllCanBeTaken (sym tells) (installs_taken old.mail.store.own c.tells.membership c.tells.membership.members);
    fits = subst (All FitsMaps) (sym tells) (installs_fit old.mail.store.own c.tells.membership c.tells.membership.members);
  }

  pub concluded_has : HasMaps new
  concluded_has = record {
    own = c.own ∙ has.own ∙ ap (λ (s : NodeStore). s.own) (sym mail.store);
    boot = c.boot ∙ has.boot ∙ ap (λ (n : plain.Node). n.boot) (sym mail.seen);
    epoch = ap (λ (n : plain.Node). n.installed) mail.seen;
    records = has.records;
    keeps = mail.keeps has.records has.keeps;
    knows = λ user id. ap (λ (f : Fragments). is_here_in f user id) c.held ∙ has.knows user id;
  }
