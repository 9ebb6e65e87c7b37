-- That changes, Reports and their acknowledgements are acts of the machine.
use Rattle.std.proofs.Common.{◌≡◌, ◌≢◌, ◌⊎◌, inl, inr, ⊎_elim, ℕ, ◌+◌, ◌<◌, ◌≤◌, Bool, true, false, ◌&&◌, List, [], ◌∷◌, map, Option, Some, None, refl, sym, ap, ◌∙◌, subst, true≢false, arith, nat_eq, if◌then◌else◌}
use Rattle.std.specs.Cmp.Lexicographic.{pointwise, bytes_decides}
use Rattle.std.proofs.lemmas.Bool.{eqb-true, eq-eqb}
use Rattle.mail_model.specs.Identity.{EpochId}
use Rattle.object_model.specs.Letters.{Claim, Membership, Row, Letter}
use Rattle.object_model.specs.Lists.{Among}
use Rattle.maps_model.specs.Cluster.{Node, Disk, epoch_in, manager_of, manages_in}
use Rattle.object_model.specs.Letters.Body.{Join, Install, Report, ReportAck}
use Rattle.maps_model.specs.Words.{HasAtLeast}
use Rattle.maps_model.specs.Moves.{NodeInOrder, RowFrom, KeepsMaps, IsAct}
use Rattle.maps_model.specs.Moves.RowFrom.{Stood, Took, Told}
use Rattle.maps_model.specs.Moves.Unmarked.{Still, Cleared, Own}
use Rattle.maps_model.specs.Rules.{Reaction, idle, own_row, set_at, set_row, change, Reports, ack_letter, HearsReport, HearsAck}
use Rattle.maps_model.specs.Rules.HearsReport.{Stale as StaleReport, Takes, Older}
use Rattle.maps_model.specs.Rules.HearsAck.{Stale as StaleAck, Clears, Other}
use Rattle.maps_model.specs.NodeLaws.{act_of}
use Rattle.maps_model.proofs.Lists.{among_one, one_or_other}
use Rattle.maps_model.proofs.Making.{membership_from, maps_from, same_maps, had, was_open, had_join, acts, rests}
use Rattle.maps_model.proofs.Lists.{node_is}

module _ {X : Type 0} where
  pub set_here : (f : List ℕ → X) (user : List ℕ) (x : X) → set_at f user x user ≡ x
  set_here f user x = ap (λ t. if t then x else f user) ((bytes_decides user user).1 refl)

  pub set_there : (f : List ℕ → X) (user : List ℕ) (x : X) (u : List ℕ) → u ≢ user → set_at f user x u ≡ f u
  set_there f user x u apart = ⊎_elim (λ h. absurd (apart h.1)) (λ h. ap (λ t. if t then x else f u) h.0) (one_or_other u user)

pub row_here : (rows : ℕ → ℕ → List ℕ → Option Row) (m boot : ℕ) (user : List ℕ) (row : Row) → set_row rows m boot user row m boot user ≡ Some row
row_here rows m boot user row = λ i. if eq-eqb m m refl i && eq-eqb boot boot refl i && (bytes_decides user user).1 refl i then Some row else rows m boot user

-- a row that is read: the one that was written, or one that stood
pub row_either : (rows : ℕ → ℕ → List ℕ → Option Row) (m boot : ℕ) (user : List ℕ) (row : Row) (n b : ℕ) (u : List ℕ)
    → ((n ≡ m) × (b ≡ boot) × (u ≡ user) × (set_row rows m boot user row n b u ≡ Some row)) ⊎ (set_row rows m boot user row n b u ≡ rows n b u)
row_either rows m boot user row n b u = by (nat_eq n m) (nat_eq b boot) (pointwise nat_eq u user) refl refl refl
  where
    by : (x y z : Bool) → nat_eq n m ≡ x → nat_eq b boot ≡ y → pointwise nat_eq u user ≡ z
        → ((n ≡ m) × (b ≡ boot) × (u ≡ user) × (set_row rows m boot user row n b u ≡ Some row)) ⊎ (set_row rows m boot user row n b u ≡ rows n b u)
    by true true true e f g = inl (eqb-true n m e, eqb-true b boot f, (bytes_decides u user).0 g, λ i. if e i && f i && g i then Some row else rows n b u)
    by true true false e f g = inr (λ i. if e i && f i && g i then Some row else rows n b u)
    by true false z e f g = inr (λ i. if e i && f i && g i then Some row else rows n b u)
    by false y z e f g = inr (λ i. if e i && f i && g i then Some row else rows n b u)

-- a node that keeps its boot, its promise, its group and its membership
module _ (own : ℕ) (node : Node) (disk : Disk) (heard : Option Letter) (o : NodeInOrder own node disk) (version : List ℕ → ℕ) (marked : List ℕ → Bool) (rows : ℕ → ℕ → List ℕ → Option Row) (holds : List ℕ → Bool) (out : List Letter) where
  abbrev pub reaction : Reaction
  reaction = record { node = record node { version = version; marked = marked; rows = rows }; disk = record disk { holds = holds }; out = out }

  pub keeping : ((letter : Letter) → Among letter out → (letter.from ≡ own) × (letter.to ≢ own))
      → ((letter : Letter) → Among letter out → (g : Membership) → letter.body ≡ Install g → ⊥)
      → ((letter : Letter) → Among letter out → (epoch promise : EpochId) (boot : ℕ) (was : EpochId) (claims : List Claim) → letter.body ≡ Join epoch promise boot was claims → ⊥)
      → KeepsMaps (act_of own node disk reaction heard) → IsAct (act_of own node disk reaction heard)
  keeping sent installs joins maps = acts own node disk reaction heard
      (record { booted = o.booted; promised = o.promised; heard = o.heard; installed = o.installed; group = o.group; counted = o.counted; joined = o.joined })
      (omega arith) (inr refl) refl (inl refl)
      (membership_from own node disk reaction heard (had own node disk reaction heard refl) (was_open own node disk reaction heard refl) (had_join own node disk reaction heard refl)
      (λ letter m g h. absurd (installs letter m g h))
      (λ letter m epoch promise boot was claims h. absurd (joins letter m epoch promise boot was claims h))
      sent)
      maps

-- a node comes to hold a message of a user, or holds none any more
module _ (own : ℕ) (node : Node) (disk : Disk) (user : List ℕ) (full : Bool) (o : NodeInOrder own node disk) where
  abbrev versions : List ℕ → ℕ
  versions = set_at node.version user (node.version user + 1)

  abbrev held : List ℕ → Bool
  held = set_at disk.holds user full

  abbrev told : Row
  told = record (own_row own node disk user) { version = node.version user + 1; full = full }

  says : (u : List ℕ) → ((versions u ≡ node.version u) × (held u ≡ disk.holds u)) ⊎ (node.version u < versions u)
  says u = ⊎_elim
      (λ same. inr (subst (λ k. node.version k < versions k) (sym same.1) (omega (arith, set_here node.version user (node.version user + 1)))))
      (λ apart. inl (set_there node.version user (node.version user + 1) u apart.1, set_there disk.holds user full u apart.1))
      (one_or_other u user)

  -- the manager itself tells its row
  tells : manages_in node.installed own user ≡ true
      → IsAct (act_of own node disk (reaction own node disk None o versions node.marked (set_row node.rows own node.boot user told) held []) None)
  tells managed =
      let it = reaction own node disk None o versions node.marked (set_row node.rows own node.boot user told) held [] in
      let act = act_of own node disk it None in
      let own_is : (u : List ℕ) → u ≡ user → told ≡ own_row own it.node it.disk u = λ u same. told_same u (versions u) (held u) same
      (sym (ap versions same ∙ set_here node.version user (node.version user + 1))) (sym (ap held same ∙ set_here disk.holds user full)) in
      keeping own node disk None o versions node.marked (set_row node.rows own node.boot user told) held []
      (λ letter m. absurd m) (λ letter m g h. m) (λ letter m epoch promise boot was claims h. m)
      (maps_from own node disk it None
      (λ m boot u. ⊎_elim
      (λ new. Told new.0 new.1 (new.3 ∙ ap Some (own_is u new.2)))
      (λ old. Stood refl old)
      (row_either node.rows own node.boot user told m boot u))
      (λ u. ⊎_elim (λ same. inl (record { version = same.0; full = same.1 })) (λ lt. inr lt) (says u))
      (λ u none. ⊎_elim
      (λ same. Own (record {
        manager = λ g h. subst (λ k. manager_of g k ≡ Some own) (sym same.1) (node_is (manager_of g user) own (subst (λ x. manages_in x own user ≡ true) h managed));
        told = subst (λ k. it.node.rows own node.boot k ≡ Some (own_row own it.node it.disk k)) (sym same.1) (row_here node.rows own node.boot user told ∙ ap Some (own_is user refl));
      }))
      (λ apart. Still refl none (record { version = set_there node.version user (node.version user + 1) u apart.1; full = set_there disk.holds user full u apart.1 }))
      (one_or_other u user))
      (λ letter m u boot row h. absurd m)
      (λ letter m u version h. absurd m))
    where
      told_same : (u : List ℕ) (v : ℕ) (h : Bool) → u ≡ user → told.version ≡ v → told.full ≡ h → told ≡ record { user = u; node = own; boot = node.boot; version = v; full = h; profile = None }
      told_same u v h same e f = λ i. record { user = sym same i; node = own; boot = node.boot; version = e i; full = f i; profile = None }

  -- or the user is marked
  marks : IsAct (act_of own node disk (reaction own node disk None o versions (set_at node.marked user true) node.rows held []) None)
  marks =
      let it = reaction own node disk None o versions (set_at node.marked user true) node.rows held [] in
      keeping own node disk None o versions (set_at node.marked user true) node.rows held []
      (λ letter m. absurd m) (λ letter m g h. m) (λ letter m epoch promise boot was claims h. m)
      (maps_from own node disk it None
      (λ m boot u. Stood refl refl)
      (λ u. ⊎_elim (λ same. inl (record { version = same.0; full = same.1 })) (λ lt. inr lt) (says u))
      (λ u none. ⊎_elim
      (λ same. absurd (true≢false (sym (ap (set_at node.marked user true) same.1 ∙ set_here node.marked user true) ∙ none)))
      (λ apart. Still refl (sym (set_there node.marked user true u apart.1) ∙ none)
      (record { version = set_there node.version user (node.version user + 1) u apart.1; full = set_there disk.holds user full u apart.1 }))
      (one_or_other u user))
      (λ letter m u boot row h. absurd m)
      (λ letter m u version h. absurd m))

  pub changes : IsAct (act_of own node disk (change own node disk user full) None)
  changes = by (manages_in node.installed own user) refl
    where
      by : (t : Bool) → manages_in node.installed own user ≡ t → IsAct (act_of own node disk (record {
        node = if t
            then record node { version = versions; rows = set_row node.rows own node.boot user told }
            else record node { version = versions; marked = set_at node.marked user true };
        disk = record disk { holds = held };
        out = [];
      }) None)
      by true e = tells e
      by false e = marks

-- a node reports
module _ (own to : ℕ) (node : Node) (disk : Disk) (o : NodeInOrder own node disk) (g : Membership) (installed : node.installed ≡ Some g) (other : to ≢ own) where
  abbrev report : List ℕ → Letter
  report user = record { from = own; to = to; epoch = g.epoch; ticket = None; body = Report (own_row own node disk user) }

  sent : (users : List (List ℕ)) (letter : Letter) → Among letter (map report users) → (user : List ℕ) × Among user users × (report user ≡ letter)
  sent [] letter m = absurd m
  sent (user ∷ users) letter m = ⊎_elim (λ first. (user, inl refl, first)) (λ rest. let s = sent users letter rest in (s.0, inr s.1, s.2)) m

  reports_all : (users : List (List ℕ)) → ((user : List ℕ) → Among user users → (node.marked user ≡ true) × (manager_of g user ≡ Some to)) → IsAct (act_of own node disk (record { node = node; disk = disk; out = map report users }) None)
  reports_all users due =
      let it : Reaction = record { node = node; disk = disk; out = map report users } in
      keeping own node disk None o node.version node.marked node.rows disk.holds (map report users)
      (λ letter m. let s = sent users letter m in (sym (ap (λ (l : Letter). l.from) s.2), λ same. other (ap (λ (l : Letter). l.to) s.2 ∙ same)))
      (λ letter m x h. let s = sent users letter m in not_install (own_row own node disk s.0) x (ap (λ (l : Letter). l.body) s.2 ∙ h))
      (λ letter m epoch promise boot was claims h. let s = sent users letter m in not_join (own_row own node disk s.0) epoch promise boot was claims (ap (λ (l : Letter). l.body) s.2 ∙ h))
      (same_maps own node disk it None refl (λ m boot user. refl) (λ user. refl) (λ user. refl) (λ user. refl)
      (λ letter m user boot row h.
      let s = sent users letter m in
      let is_row = report_same (own_row own node disk s.0) row (ap (λ (l : Letter). l.body) s.2 ∙ h.is) in
      let of_user : s.0 ≡ user = ap (λ (r : Row). r.user) is_row ∙ h.of_user in
      let d = due s.0 s.1 in
      record {
        new = node;
        is = refl;
        membership = g;
        installed = installed;
        epoch = ap (λ (l : Letter). l.epoch) s.2;
        to = subst (λ k. manager_of g k ≡ Some letter.to) of_user (d.1 ∙ ap Some (ap (λ (l : Letter). l.to) s.2));
        booted = sym (ap (λ (r : Row). r.boot) is_row ∙ h.of_boot);
        due = subst (λ k. node.marked k ≡ true) of_user d.0;
        says = subst (λ k. row ≡ own_row own node disk k) of_user (sym is_row);
      })
      (λ letter m user version h. let s = sent users letter m in absurd (not_ack (own_row own node disk s.0) user version (ap (λ (l : Letter). l.body) s.2 ∙ h.is))))
    where
      not_install : (r : Row) (x : Membership) → Report r ≡ Install x → ⊥
      not_install r x h = cc

      not_join : (r : Row) (e p : EpochId) (c : ℕ) (w : EpochId) (k : List Claim) → Report r ≡ Join e p c w k → ⊥
      not_join r e p c w k h = cc

      not_ack : (r : Row) (x : List ℕ) (y : ℕ) → Report r ≡ ReportAck x y → ⊥
      not_ack r x y h = cc

      report_same : (r s : Row) → Report r ≡ Report s → r ≡ s
      report_same r s h = cc

pub reports : (own to : ℕ) (users : List (List ℕ)) (node : Node) (disk : Disk) (o : NodeInOrder own node disk) (did : Reaction) → Reports own to users node disk did → IsAct (act_of own node disk did None)
reports own to users node disk o did r = subst (λ d. IsAct (act_of own node disk d None)) (sym r.is) (reports_all own to node disk o r.membership r.within r.other users r.due)

-- a Report is heard
module _ (own : ℕ) (node : Node) (disk : Disk) (letter : Letter) (mine : letter.to ≡ own) (came : letter.from ≢ own) (o : NodeInOrder own node disk) (row : Row) (body : letter.body ≡ Report row)
    (g : Membership) (installed : node.installed ≡ Some g) (current : g.epoch ≡ letter.epoch) where
  answers : (rows : ℕ → ℕ → List ℕ → Option Row) → ((m b : ℕ) (u : List ℕ) → RowFrom (act_of own node disk (reaction own node disk (Some letter) o node.version node.marked rows disk.holds (ack_letter letter row.user row ∷ [])) (Some letter)) node (record node { rows = rows }) m b u)
      → HasAtLeast (rows letter.from row.boot row.user) row.version
      → IsAct (act_of own node disk (reaction own node disk (Some letter) o node.version node.marked rows disk.holds (ack_letter letter row.user row ∷ [])) (Some letter))
  answers rows from has =
      let it = reaction own node disk (Some letter) o node.version node.marked rows disk.holds (ack_letter letter row.user row ∷ []) in
      let one : (l : Letter) → Among l it.out → ack_letter letter row.user row ≡ l = λ l m. among_one l (ack_letter letter row.user row) m in
      keeping own node disk (Some letter) o node.version node.marked rows disk.holds (ack_letter letter row.user row ∷ [])
      (λ l m. (sym (ap (λ (x : Letter). x.from) (one l m)) ∙ mine, λ same. came (ap (λ (x : Letter). x.to) (one l m) ∙ same)))
      (λ l m x h. not_install row.user row.version x (ap (λ (y : Letter). y.body) (one l m) ∙ h))
      (λ l m epoch promise b was claims h. not_join row.user row.version epoch promise b was claims (ap (λ (y : Letter). y.body) (one l m) ∙ h))
      (maps_from own node disk it (Some letter) from
      (λ u. inl (record { version = refl; full = refl }))
      (λ u none. Still refl none (record { version = refl; full = refl }))
      (λ l m u b r h. absurd (not_report row.user row.version r (ap (λ (y : Letter). y.body) (one l m) ∙ h.is)))
      (λ l m u version h.
      let same = ack_same row.user row.version u version (ap (λ (y : Letter). y.body) (one l m) ∙ h.is) in
      let to : letter.from ≡ l.to = ap (λ (x : Letter). x.to) (one l m) in
      record {
        new = it.node;
        is = refl;
        membership = g;
        installed = installed;
        epoch = current ∙ ap (λ (x : Letter). x.epoch) (one l m);
        boot = row.boot;
        row = row;
        heard = record { letter = letter; is = refl; holds = (to, ap (λ (x : Letter). x.epoch) (one l m), record { is = body; of_user = same.0; of_boot = refl }) };
        has = subst (λ v. HasAtLeast (rows l.to row.boot u) v) same.1 (subst (λ k. HasAtLeast (rows l.to row.boot k) row.version) same.0 (subst (λ k. HasAtLeast (rows k row.boot row.user) row.version) to has));
      }))
    where
      not_install : (u : List ℕ) (v : ℕ) (x : Membership) → ReportAck u v ≡ Install x → ⊥
      not_install u v x h = cc

      not_join : (u : List ℕ) (v : ℕ) (e p : EpochId) (c : ℕ) (w : EpochId) (k : List Claim) → ReportAck u v ≡ Join e p c w k → ⊥
      not_join u v e p c w k h = cc

      not_report : (u : List ℕ) (v : ℕ) (r : Row) → ReportAck u v ≡ Report r → ⊥
      not_report u v r h = cc

      ack_same : (u : List ℕ) (v : ℕ) (x : List ℕ) (y : ℕ) → ReportAck u v ≡ ReportAck x y → (u ≡ x) × (v ≡ y)
      ack_same u v x y h = (cc, cc)

  pub takes : ((stood : Row) → node.rows letter.from row.boot row.user ≡ Some stood → stood.version ≤ row.version)
      → IsAct (act_of own node disk (record { node = record node { rows = set_row node.rows letter.from row.boot row.user row }; disk = disk; out = ack_letter letter row.user row ∷ [] }) (Some letter))
  takes newer = answers (set_row node.rows letter.from row.boot row.user row)
      (λ m b u. ⊎_elim
      (λ new. Took (record {
        row = row;
        heard = record {
          letter = letter;
          is = refl;
          holds = (
            sym new.0,
            sym current ∙ sym (ap epoch_in installed),
            record { is = body; of_user = sym new.2; of_boot = sym new.1 },
          );
        };
        within = refl;
        is = new.3;
        newer = λ stood e. newer stood ((λ i. node.rows (sym new.0 i) (sym new.1 i) (sym new.2 i)) ∙ e);
      }))
      (λ old. Stood refl old)
      (row_either node.rows letter.from row.boot row.user row m b u))
      (record { found = row; is = row_here node.rows letter.from row.boot row.user row; not_below = omega arith })

  pub older : (stood : Row) → node.rows letter.from row.boot row.user ≡ Some stood → row.version < stood.version
      → IsAct (act_of own node disk (record { node = node; disk = disk; out = ack_letter letter row.user row ∷ [] }) (Some letter))
  older stood e lt = answers node.rows (λ m b u. Stood refl refl) (record { found = stood; is = e; not_below = omega (arith, lt) })

-- an acknowledgement is heard
module _ (own : ℕ) (node : Node) (disk : Disk) (letter : Letter) (o : NodeInOrder own node disk) (user : List ℕ) (version : ℕ) (body : letter.body ≡ ReportAck user version)
    (g : Membership) (installed : node.installed ≡ Some g) (current : g.epoch ≡ letter.epoch) (same : node.version user ≡ version) where
  pub clears : IsAct (act_of own node disk (idle (record node { marked = set_at node.marked user false }) disk) (Some letter))
  clears =
      let it = reaction own node disk (Some letter) o node.version (set_at node.marked user false) node.rows disk.holds [] in
      keeping own node disk (Some letter) o node.version (set_at node.marked user false) node.rows disk.holds []
      (λ l m. absurd m) (λ l m x h. m) (λ l m epoch promise b was claims h. m)
      (maps_from own node disk it (Some letter)
      (λ m b u. Stood refl refl)
      (λ u. inl (record { version = refl; full = refl }))
      (λ u none. ⊎_elim
      (λ here. Cleared refl (record { letter = letter; is = refl; holds = (sym current ∙ sym (ap epoch_in installed), record { is = body ∙ (λ i. ReportAck (sym here.1 i) ((sym same ∙ ap node.version (sym here.1)) i)) }) })
      (record { version = refl; full = refl }))
      (λ apart. Still refl (sym (set_there node.marked user false u apart.1) ∙ none) (record { version = refl; full = refl }))
      (one_or_other u user))
      (λ l m u b r h. absurd m)
      (λ l m u v h. absurd m))

pub hears_report : (own : ℕ) (node : Node) (disk : Disk) (letter : Letter) → letter.to ≡ own → letter.from ≢ own → NodeInOrder own node disk → (row : Row) → letter.body ≡ Report row
    → (did : Reaction) → HearsReport node disk letter row.user row.boot row did → IsAct (act_of own node disk did (Some letter))
hears_report own node disk letter mine came o row body did (StaleReport none e) = subst (λ d. IsAct (act_of own node disk d (Some letter))) (sym e) (rests own node disk (Some letter) [] o (λ one m. absurd m))
hears_report own node disk letter mine came o row body did (Takes g installed current newer e) =
    subst (λ d. IsAct (act_of own node disk d (Some letter))) (sym e) (takes own node disk letter mine came o row body g installed current newer)
hears_report own node disk letter mine came o row body did (Older g installed current stood at lt e) =
    subst (λ d. IsAct (act_of own node disk d (Some letter))) (sym e) (older own node disk letter mine came o row body g installed current stood at lt)

pub hears_ack : (own : ℕ) (node : Node) (disk : Disk) (letter : Letter) → NodeInOrder own node disk → (user : List ℕ) (version : ℕ) → letter.body ≡ ReportAck user version
    → (did : Reaction) → HearsAck node disk letter user version did → IsAct (act_of own node disk did (Some letter))
hears_ack own node disk letter o user version body did (StaleAck none e) = subst (λ d. IsAct (act_of own node disk d (Some letter))) (sym e) (rests own node disk (Some letter) [] o (λ one m. absurd m))
hears_ack own node disk letter o user version body did (Clears g installed current same e) =
    subst (λ d. IsAct (act_of own node disk d (Some letter))) (sym e) (clears own node disk letter o user version body g installed current same)
hears_ack own node disk letter o user version body did (Other g installed current apart e) = subst (λ d. IsAct (act_of own node disk d (Some letter))) (sym e) (rests own node disk (Some letter) [] o (λ one m. absurd m))
