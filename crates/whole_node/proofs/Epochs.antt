-- Messages that go by the epoch of the maps.
use Rattle.std.proofs.Common.{◌≡◌, ℕ, Bool, true, false, List, Option, refl, sym, ap, ◌∙◌, subst, true≢false}
use Rattle.std.specs.Prelude.{option_map}
use Rattle.object_model.specs.Letters.{Membership, Body, Letter}
use Rattle.object_model.specs.Letters.Body.{Install}
use Rattle.cluster_model.specs.Cluster as plain
use Rattle.cluster_model.specs.Thrown.{with_stamps}
use Rattle.node_maps.specs.Nodes.{node_of}
use Rattle.node_maps.specs.Hearing.{HearsBody, StopsHearing}
use Rattle.node_maps.specs.declared.answer.Answer.{Answer}
use Rattle.node_maps.specs.declared.maps.NodeMaps.{NodeMaps}
use Rattle.node_core.specs.Nodes.{node_seen}
use Rattle.node_core.specs.Installing.{HasInstalled}
use Rattle.node_core.specs.Works.{HasLearned}
use Rattle.node_core.specs.Hearing.{why_seen}
use Rattle.node_core.specs.declared.node.Node.{Node}
use Rattle.node_core.specs.declared.outbox.Outbox.{Outbox}
use Rattle.whole_node.specs.Hearing.{is_install, installs, why_refused, SharesInstall, HasTakenIn, TookLetter}
use Rattle.whole_node.specs.declared.node.WholeNode.{WholeNode}

installs_it : (body : Body) (installed : Option Membership) (node : plain.Node) → is_install body ≡ true → installs body installed node ≡ record node { installed = installed }
installs_it (Install g) installed node e = refl
installs_it body installed node e = absurd (true≢false (sym e))

installs_none : (body : Body) (installed : Option Membership) (node : plain.Node) → is_install body ≡ false → installs body installed node ≡ node
installs_none (Install g) installed node e = absurd (true≢false e)
installs_none body installed node e = refl

pub installs_boot : (body : Body) (installed : Option Membership) (node : plain.Node) → (installs body installed node).boot ≡ node.boot
installs_boot (Install g) installed node = refl
installs_boot body installed node = refl

-- of an Install nothing is said where memory ran out
pub stops_any : (body : Body) (old new : NodeMaps) → is_install body ≡ true → StopsHearing body old new
stops_any (Install g) old new e = tt
stops_any body old new e = absurd (true≢false (sym e))

pub shares_install : (body : Body) (installed : Option Membership) (old new : Node) → is_install body ≡ true → HasInstalled installed old new → SharesInstall body installed old new
shares_install body installed old new e h = record {
  seen = h.seen ∙ sym (installs_it body installed (node_seen old) e);
  store = h.store;
  same = h.same;
  whole = h.whole;
}

pub shares_other : (body : Body) (installed : Option Membership) (node : Node) → is_install body ≡ false → SharesInstall body installed node node
shares_other body installed node e = record {
  seen = sym (installs_none body installed (node_seen node) e);
  store = refl;
  same = λ plan own p. p;
  whole = λ w. w;
}

pub taken_in : (body : Body) (installed : Option Membership) (old mid new : Node) → SharesInstall body installed old mid → HasLearned body mid new → HasTakenIn body installed old new
taken_in body installed old mid new f l = record {
  seen = l.seen ∙ ap (with_stamps body) f.seen;
  store = l.store ∙ f.store;
  same = λ plan own p. l.same plan own (f.same plan own p);
  whole = λ w. l.whole (f.whole w);
}

-- a letter was taken in
pub took_letter : (letter : Letter) (outbox : Outbox) (old : WholeNode) (heard : NodeMaps) (shared : WholeNode) (new : Node) (answer : Answer) (body : Body) → body ≡ letter.body
    → HearsBody old.maps letter letter.body answer heard → shared.maps ≡ heard → SharesInstall body (node_of heard).installed old.mail shared.mail → HasLearned body shared.mail new
    → outbox.letters ≡ answer.letters → option_map why_seen outbox.thrown ≡ option_map why_refused answer.thrown → TookLetter letter outbox old (record shared { mail = new })
took_letter letter outbox old heard shared new answer body same hears maps shares learned letters thrown = record {
  answer = answer;
  heard = subst (HearsBody old.maps letter letter.body answer) (sym maps) hears;
  letters = letters;
  thrown = thrown;
  taken = subst (λ (m : NodeMaps). HasTakenIn letter.body (node_of m).installed old.mail new) (sym maps)
      (subst (λ (b : Body). HasTakenIn b (node_of heard).installed old.mail new) same (taken_in body (node_of heard).installed old.mail shared.mail new shares learned));
}

-- what the rule of the machine leaves of messages, where a letter that is no Install leaves the maps with the epoch of messages
pub left_seen : (body : Body) (installed : Option Membership) (node : plain.Node) → (is_install body ≡ false → node.installed ≡ installed)
    → with_stamps body (installs body installed node) ≡ record (with_stamps body node) { installed = installed }
left_seen (Install g) installed node same = refl
left_seen body installed node same = λ i. record (with_stamps body node) { installed = same refl i }
