-- The messages that a node finds as it starts.
use Rattle.std.proofs.Common.{◌≡◌, ◌⊎◌, inl, inr, ℕ, ◌+◌, ◌-◌, ◌<◌, Bool, true, false, cond, not, ◌&&◌, ◌||◌, List, [], ◌∷◌, Option, Some, None, refl, sym, ap, ◌∙◌, subst, true≢false, arith}
use Rattle.std.specs.Prelude.{All, Result, Ok, Err, IfOk}
use Rattle.std.specs.Ordering.{nat_cmp, eq_by_cmp}
use Rattle.std.specs.Cmp.Lexicographic.{slice_cmp}
use Rattle.mail_model.specs.Identity.{Id, EpochId, State}
use Rattle.mail_model.specs.Identity.Key.{Message}
use Rattle.mail_model.specs.Record.{Record}
use Rattle.mail_model.specs.Record.Record.{Boot, Promise}
use Rattle.mail_model.specs.Grammar.{IsId, IsRecord}
use Rattle.mail_base.specs.Orders.{id_cmp}
use Rattle.object_model.specs.Lists.{Among}
use Rattle.object_model.specs.Said.{said}
use Rattle.cluster_model.specs.Reads.{is_here_held}
use Rattle.cluster_model.specs.Starts.{first_epoch}
use Rattle.maps_model.specs.Cluster as maps
use Rattle.maps_model.specs.Rules.{started}
use Rattle.mailbox_fragment.specs.Here.{ids_of, is_here_in, is_none, has_id}
use Rattle.map_rebuild.specs.Users.{has_user}
use Rattle.node_store.specs.Mailboxes.{AreIdsHere}
use Rattle.node_store.proofs.Logged.{said_fits}
use Rattle.node_core.specs.Nodes.{node_seen, NodeKeeps}
use Rattle.node_core.specs.declared.node.Node.{Node}
use Rattle.node_maps.specs.Nodes.{node_of, own_of, holds_in}
use Rattle.node_maps.specs.declared.maps.NodeMaps.{NodeMaps}
use Rattle.whole_node.specs.Nodes.{AreMapsOf, KeepsNamed}
use Rattle.whole_node.proofs.Holding.{same_id, own_id, same_user, own_user}

-- a test of sameness is the same from either side
turned : {K : Type 0} (eq : K → K → Bool) → ((a b : K) → eq a b ≡ true → a ≡ b) → ((a : K) → eq a a ≡ true) → (a b : K) → eq a b ≡ eq b a
turned eq same self a b = by (eq a b) (eq b a) refl refl
  where
    by : (x y : Bool) → eq a b ≡ x → eq b a ≡ y → eq a b ≡ eq b a
    by true true e f = e ∙ sym f
    by true false e f = absurd (true≢false (sym (subst (λ z. eq z a ≡ true) (same a b e) (self a)) ∙ f))
    by false true e f = absurd (true≢false (sym (subst (λ z. eq z b ≡ true) (same b a f) (self b)) ∙ e))
    by false false e f = e ∙ sym f

pub user_turned : (a b : List ℕ) → eq_by_cmp (slice_cmp nat_cmp) a b ≡ eq_by_cmp (slice_cmp nat_cmp) b a
user_turned a b = turned (eq_by_cmp (slice_cmp nat_cmp)) same_user own_user a b

pub id_turned : (a b : Id) → eq_by_cmp id_cmp a b ≡ eq_by_cmp id_cmp b a
id_turned a b = turned (eq_by_cmp id_cmp) same_id own_id a b

pub or_none : (a : Bool) → (a || false) ≡ a
or_none true = refl
or_none false = refl

pub and_none : (a b : Bool) → (b || (a && false)) ≡ b
and_none true true = refl
and_none true false = refl
and_none false true = refl
and_none false false = refl

-- one message more of a user
pub one_id : (user f now rest : Bool) → (cond (user && f) true now || (user && rest)) ≡ (now || (user && (f || rest)))
one_id true true true rest = refl
one_id true true false rest = refl
one_id true false now rest = refl
one_id false f now rest = refl

-- one user more
pub one_user : (now user rest held : Bool) → ((now || (user && held)) || (rest && held)) ≡ (now || ((user || rest) && held))
one_user true user rest held = refl
one_user false true true true = refl
one_user false true true false = refl
one_user false true false true = refl
one_user false true false false = refl
one_user false false rest held = refl

has_among : (ids : List Id) (id : Id) → Among id ids → has_id ids id ≡ true
has_among [] id m = absurd m
has_among (one ∷ ids) id (inl e) = ap (λ (b : Bool). b || has_id ids id) (subst (λ (i : Id). eq_by_cmp id_cmp id i ≡ true) (sym e) (own_id id))
has_among (one ∷ ids) id (inr m) = ap (λ (b : Bool). eq_by_cmp id_cmp id one || b) (has_among ids id m) ∙ or_true (eq_by_cmp id_cmp id one)
  where
    or_true : (a : Bool) → (a || true) ≡ true
    or_true true = refl
    or_true false = refl

among_has : (ids : List Id) (id : Id) → has_id ids id ≡ true → Among id ids
among_has [] id e = absurd (true≢false (sym e))
among_has (one ∷ ids) id e = by (λ h. among_has ids id h) (eq_by_cmp id_cmp id one) refl e
  where
    by : (has_id ids id ≡ true → Among id ids) → (b : Bool) → eq_by_cmp id_cmp id one ≡ b → (b || has_id ids id) ≡ true → (one ≡ id) ⊎ Among id ids
    by rest true f h = inl (sym (same_id id one f))
    by rest false f h = inr (rest h)

held_fits : (user : List ℕ) (id : Id) (records : List Record) → All IsRecord records → (held : Option State) → said (Message user id) records ≡ held → is_here_held held ≡ true → IsId id
held_fits user id records fit None says here = absurd (true≢false (sym here))
held_fits user id records fit (Some state) says here = (said_fits (Message user id) records fit state says).key_fits.1

-- these ids are those of which the records say that they are here
pub ids_here : (user : List ℕ) (records : List Record) (ids : List Id) → All IsRecord records → AreIdsHere user records ids → (id : Id) → has_id ids id ≡ is_here_held (said (Message user id) records)
ids_here user records ids fit are id = by (has_id ids id) (is_here_held (said (Message user id) records)) refl refl
  where
    by : (x y : Bool) → has_id ids id ≡ x → is_here_held (said (Message user id) records) ≡ y → has_id ids id ≡ is_here_held (said (Message user id) records)
    by true y e f = e ∙ sym (are.here id (among_has ids id e))
    by false true e f = absurd (true≢false (sym (has_among ids id (are.all id (held_fits user id records fit (said (Message user id) records) refl f) f)) ∙ e))
    by false false e f = e ∙ sym f

-- of one user, whose messages were listed
pub found_user : (user : List ℕ) (records : List Record) (ids : List Id) → All IsRecord records → AreIdsHere user records ids → (now : Bool) (other : List ℕ) (id : Id)
    → (now || (eq_by_cmp (slice_cmp nat_cmp) user other && has_id ids id)) ≡ (now || (eq_by_cmp (slice_cmp nat_cmp) user other && is_here_held (said (Message other id) records)))
found_user user records ids fit are now other id = by (eq_by_cmp (slice_cmp nat_cmp) user other) refl
  where
    by : (b : Bool) → eq_by_cmp (slice_cmp nat_cmp) user other ≡ b → (now || (b && has_id ids id)) ≡ (now || (b && is_here_held (said (Message other id) records)))
    by true e = ap (λ (h : Bool). now || h) (ids_here user records ids fit are id ∙ ap (λ (u : List ℕ). is_here_held (said (Message u id) records)) (same_user user other e))
    by false e = refl

-- nothing is here at first
none_here : (maps : NodeMaps) → ((user : List ℕ) → holds_in maps user ≡ false) → (user : List ℕ) (id : Id) → is_here_in maps.fragments user id ≡ false
none_here maps holds user id = by (ids_of maps.fragments user) refl (holds user)
  where
    by : (ids : List Id) → ids_of maps.fragments user ≡ ids → not (is_none ids) ≡ false → has_id ids id ≡ false
    by [] e h = refl
    by (one ∷ ids) e h = absurd (true≢false h)

-- a node that starts has its maps
pub over_has : (mail : Node) (promise : EpochId) (users : List (List ℕ)) (first new : NodeMaps) → 0 < mail.numbers.boot → (node_seen mail).installed ≡ None → KeepsNamed users mail
    → own_of first ≡ mail.store.own → ((image : maps.Disk) → image.boot + 1 ≡ mail.numbers.boot → image.promise ≡ promise → node_of first ≡ started image) → ((user : List ℕ) → holds_in first user ≡ false)
    → node_of new ≡ node_of first → own_of new ≡ own_of first
    → ((records : List Record) → NodeKeeps records mail → (user : List ℕ) (id : Id)
    → is_here_in new.fragments user id ≡ (is_here_in first.fragments user id || (has_user users user && is_here_held (said (Message user id) records))))
    → AreMapsOf mail new
over_has mail promise users first new drawn without named own starts none node owns found = record {
  own = owns ∙ own;
  boot = ap (λ (n : maps.Node). n.boot) (node ∙ starts (record { boot = mail.numbers.boot - 1; promise = promise; holds = λ user. false }) back refl) ∙ back;
  epoch = without ∙ sym (ap (λ (n : maps.Node). n.installed) (node ∙ starts (record { boot = mail.numbers.boot - 1; promise = promise; holds = λ user. false }) back refl));
  records = named.records;
  keeps = named.keeps;
  knows = λ user id. found named.records named.keeps user id
      ∙ ap (λ (b : Bool). b || (has_user users user && is_here_held (said (Message user id) named.records))) (none_here first none user id)
      ∙ all_named user id (is_here_held (said (Message user id) named.records)) refl;
}
  where
    back : mail.numbers.boot - 1 + 1 ≡ mail.numbers.boot
    back = omega (arith, drawn)

    all_named : (user : List ℕ) (id : Id) (b : Bool) → is_here_held (said (Message user id) named.records) ≡ b
        → (has_user users user && is_here_held (said (Message user id) named.records)) ≡ is_here_held (said (Message user id) named.records)
    all_named user id true e = ap (λ (b : Bool). b && is_here_held (said (Message user id) named.records)) (named.named user id e)
    all_named user id false e = ap (λ (b : Bool). has_user users user && b) e ∙ and_false (has_user users user) ∙ sym e
      where
        and_false : (a : Bool) → (a && false) ≡ false
        and_false true = refl
        and_false false = refl

-- in a first boot nobody has to be named
pub first_named : (mail : Node) → NodeKeeps (Boot 1 ∷ Promise first_epoch ∷ []) mail → KeepsNamed [] mail
first_named mail keeps = record { records = Boot 1 ∷ Promise first_epoch ∷ []; keeps = keeps; named = λ user id here. absurd (true≢false (sym here)) }

-- what holds where it went well
pub ok_at : {T E : Type 0} (P : T → Type 0) (r : Result T E) (x : T) → r ≡ Ok x → IfOk r P → P x
ok_at P r x e p = subst (λ q. IfOk q P) e p
