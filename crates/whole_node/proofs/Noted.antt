-- A message that is noted, once the disk says of it what is noted.
use Rattle.std.proofs.Common.{◌≡◌, ◌≢◌, ℕ, Bool, true, false, cond, not, ◌&&◌, List, [], ◌∷◌, ◌++◌, refl, sym, ap, ◌∙◌, subst, true≢false, if◌then◌else◌}
use Rattle.std.specs.Ordering.{nat_cmp, eq_by_cmp}
use Rattle.std.specs.Cmp.Lexicographic.{slice_cmp}
use Rattle.mail_model.specs.Identity.{Id, Key, State}
use Rattle.mail_model.specs.Identity.Key.{Message}
use Rattle.mail_model.specs.Record.{Record}
use Rattle.mail_model.specs.Record.Record.{Stated}
use Rattle.mail_base.specs.Orders.{id_cmp}
use Rattle.object_model.specs.Said.{said}
use Rattle.cluster_model.specs.Reads.{is_here_held}
use Rattle.maps_model.specs.Cluster as maps
use Rattle.maps_model.specs.Rules.{change}
use Rattle.mailbox_fragment.specs.Here as fragments
use Rattle.mailbox_fragment.specs.Here.{is_here_in, is_empty}
use Rattle.whole_model.specs.Whole.{holds_of, maps_disk_of}
use Rattle.whole_model.specs.Rules as whole
use Rattle.whole_model.specs.Rules.{followed}
use Rattle.node_maps.specs.Nodes.{node_of, own_of, holds_in}
use Rattle.node_maps.specs.Rounds.{NotesMessage, turned}
use Rattle.node_maps.specs.declared.maps.NodeMaps.{NodeMaps}
use Rattle.whole_node.specs.Nodes.{KnowsHere}
use Rattle.whole_node.specs.Noting.{Copy, NotesCopies}
use Rattle.whole_node.proofs.Holding.{same_id, own_id, same_user, own_user, holds_same}

-- what is noted of one message is known, where of all others the disk says what it said
pub noted_knows : (seen all : List Record) (user : List ℕ) (id : Id) (here : Bool) (old new : NodeMaps) → KnowsHere seen old
    → ((key : Key) → key ≢ Message user id → said key all ≡ said key seen) → is_here_held (said (Message user id) all) ≡ here → NotesMessage user id here old new → KnowsHere all new
noted_knows seen all user id here old new knows others is notes other message =
    notes.message other message ∙ by (eq_by_cmp (slice_cmp nat_cmp) user other) (eq_by_cmp id_cmp id message) refl refl
  where
    user_in : (u v : List ℕ) (i j : Id) → Message u i ≡ Message v j → v ≡ u
    user_in u v i j e = cc

    id_in : (u v : List ℕ) (i j : Id) → Message u i ≡ Message v j → j ≡ i
    id_in u v i j e = cc

    by : (b c : Bool) → eq_by_cmp (slice_cmp nat_cmp) user other ≡ b → eq_by_cmp id_cmp id message ≡ c
        → cond (eq_by_cmp (slice_cmp nat_cmp) user other && eq_by_cmp id_cmp id message) here (is_here_in old.fragments other message) ≡ is_here_held (said (Message other message) all)
    by true true e f = ap (λ (t : Bool). cond t here (is_here_in old.fragments other message)) (ap (λ (t : Bool). t && eq_by_cmp id_cmp id message) e ∙ f)
        ∙ sym is ∙ ap (λ (k : Key). is_here_held (said k all)) (ap (λ (u : List ℕ). Message u id) (same_user user other e) ∙ ap (Message other) (same_id id message f))
    by true false e f = ap (λ (t : Bool). cond t here (is_here_in old.fragments other message)) (ap (λ (t : Bool). t && eq_by_cmp id_cmp id message) e ∙ f)
        ∙ knows other message ∙ ap is_here_held (sym (others (Message other message) (λ same. true≢false (sym (subst (λ (j : Id). eq_by_cmp id_cmp id j ≡ true) (id_in other user message id same) (own_id id)) ∙ f))))
    by false c e f = ap (λ (t : Bool). cond t here (is_here_in old.fragments other message)) (ap (λ (t : Bool). t && eq_by_cmp id_cmp id message) e)
        ∙ knows other message ∙ ap is_here_held (sym (others (Message other message) (λ same. true≢false (sym (subst (λ (u : List ℕ). eq_by_cmp (slice_cmp nat_cmp) user u ≡ true) (user_in other user message id same) (own_user user)) ∙ e))))

-- a user turns by what is not there as by what is there
differ_not : (a b : Bool) → fragments.differ a b ≡ whole.differ (not a) (not b)
differ_not true true = refl
differ_not true false = refl
differ_not false true = refl
differ_not false false = refl

-- and the maps follow the record of it
pub noted_follows : (seen : List Record) (user : List ℕ) (id : Id) (state : State) (here : Bool) (old new : NodeMaps)
    → KnowsHere seen old → KnowsHere (seen ++ Stated (Message user id) state ∷ []) new → NotesMessage user id here old new
    → node_of new ≡ followed (own_of old) (node_of old) seen (Stated (Message user id) state)
noted_follows seen user id state here old new knew knows notes =
    notes.node (maps_disk_of seen)
    ∙ ap (λ (t : Bool). cond t (change (own_of old) (node_of old) (maps_disk_of seen) user (holds_in new user)).node (node_of old)) (differ_not (is_empty old.fragments user) (is_empty new.fragments user))
    ∙ ap (λ (t : Bool). cond (whole.differ t (holds_in new user)) (change (own_of old) (node_of old) (maps_disk_of seen) user (holds_in new user)).node (node_of old)) (holds_same seen old knew user)
    ∙ ap (λ (t : Bool). cond (whole.differ (holds_of seen user) t) (change (own_of old) (node_of old) (maps_disk_of seen) user t).node (node_of old)) (holds_same (seen ++ Stated (Message user id) state ∷ []) new knows user)

-- where the disk says what it said, the node is as it was
pub noted_stays : (seen all : List Record) (user : List ℕ) (id : Id) (here : Bool) (old new : NodeMaps) → KnowsHere seen old → KnowsHere all new
    → holds_of all user ≡ holds_of seen user → NotesMessage user id here old new → node_of new ≡ node_of old
noted_stays seen all user id here old new knew knows same notes =
    notes.node (maps_disk_of seen)
    ∙ ap (λ (t : Bool). cond t (change (own_of old) (node_of old) (maps_disk_of seen) user (holds_in new user)).node (node_of old))
    (differ_not (is_empty old.fragments user) (is_empty new.fragments user) ∙ ap (whole.differ (holds_in old user)) (holds_same all new knows user ∙ same ∙ sym (holds_same seen old knew user)) ∙ differ_self (holds_in old user))
  where
    differ_self : (a : Bool) → whole.differ a a ≡ false
    differ_self true = refl
    differ_self false = refl

-- of a message that is here already as it is noted, nothing has to be noted
pub notes_nothing : (old : NodeMaps) (user : List ℕ) (id : Id) (here : Bool) → is_here_in old.fragments user id ≡ here → NotesMessage user id here old old
notes_nothing old user id here is = record {
  message = λ other message. by other message (eq_by_cmp (slice_cmp nat_cmp) user other) (eq_by_cmp id_cmp id message) refl refl;
  node = λ disk. ap (λ (t : Bool). turned t old old disk user) (sym (flips_none (is_empty old.fragments user)));
  own = refl;
}
  where
    flips_none : (a : Bool) → fragments.differ a a ≡ false
    flips_none true = refl
    flips_none false = refl

    by : (other : List ℕ) (message : Id) (b c : Bool) → eq_by_cmp (slice_cmp nat_cmp) user other ≡ b → eq_by_cmp id_cmp id message ≡ c
        → is_here_in old.fragments other message ≡ cond (b && c) here (is_here_in old.fragments other message)
    by other message true true e f = subst (λ (i : Id). is_here_in old.fragments other i ≡ here) (same_id id message f) (subst (λ (u : List ℕ). is_here_in old.fragments u id ≡ here) (same_user user other e) is)
    by other message true false e f = refl
    by other message false c e f = refl

-- some copies are noted, and then more
pub notes_both : (records : List Record) (xs ys : List Copy) (a b c : NodeMaps) → NotesCopies records xs a b → NotesCopies records ys b c → NotesCopies records (xs ++ ys) a c
notes_both records [] ys a b c p q = subst (λ (m : NodeMaps). NotesCopies records ys m c) p q
notes_both records (x ∷ xs) ys a b c p q = (p.0, p.1, notes_both records xs ys p.0 b c p.2 q)
