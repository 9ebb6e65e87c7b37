-- A node that owes nobody anything, as a test and in words.
use Rattle.std.proofs.Common.{◌≡◌, ◌↔◌, inl, ℕ, true, false, true≢false, not, ◌&&◌, nat_eq, List, [], ◌∷◌, length, refl, sym, ap, ◌∙◌, arith}
use Rattle.std.specs.Prelude.{IsTrue}
use Rattle.std.proofs.lemmas.Bool.{and_parts, eqb-true}
use Rattle.map_rebuild.specs.Users.{has_user}
use Rattle.map_rebuild.specs.Rows.{marked_users}
use Rattle.map_rebuild.proofs.AsMachine.{among_has}
use Rattle.node_core.specs.Nodes.{node_seen}
use Rattle.node_core.specs.Owing.{owes_another, OwesAnother}
use Rattle.node_core.proofs.Owing.{owes_words, none_owed}
use Rattle.whole_node.specs.Nodes.{whole_seen}
use Rattle.whole_node.specs.Settling.{has_no_marks, owes_nobody, OwesNobody}
use Rattle.whole_node.specs.declared.node.WholeNode.{WholeNode}

none_has : (users : List (List ℕ)) → length users ≡ 0 → (user : List ℕ) → has_user users user ≡ false
none_has [] none user = refl
none_has (one ∷ users) none user = absurd (omega (arith, none))

none_is : (users : List (List ℕ)) → ((user : List ℕ) → has_user users user ≡ false) → nat_eq (length users) 0 ≡ true
none_is [] none = refl
none_is (one ∷ users) none = absurd (true≢false (sym (among_has (one ∷ users) one (inl refl)) ∙ none one))

pub nobody_words : (node : WholeNode) → IsTrue (owes_nobody node) ↔ OwesNobody node.mail.store.own (whole_seen node)
nobody_words node = (there, back)
  where
    owed : IsTrue (not (owes_another node.mail.store.own (node_seen node.mail))) ↔ (OwesAnother node.mail.store.own (node_seen node.mail) → ⊥)
    owed = none_owed (OwesAnother node.mail.store.own (node_seen node.mail)) (owes_another node.mail.store.own (node_seen node.mail)) (owes_words node.mail.store.own (node_seen node.mail))

    there : owes_nobody node ≡ true → OwesNobody node.mail.store.own (whole_seen node)
    there e =
        let parts = and_parts (not (owes_another node.mail.store.own (node_seen node.mail))) (has_no_marks node) e in
        record {
          log = owed.0 parts.0;
          unmarked = none_has (marked_users node.maps.reports) (eqb-true (length (marked_users node.maps.reports)) 0 parts.1);
        }

    back : OwesNobody node.mail.store.own (whole_seen node) → owes_nobody node ≡ true
    back owes = ap (λ t. t && has_no_marks node) (owed.1 owes.log) ∙ none_is (marked_users node.maps.reports) owes.unmarked
