-- Names, secrets, keys and states: what is read is what was spelt, and what was spelt is read again.
use Rattle.std.proofs.Common.{◌≡◌, ℕ, Bool, true, false, cond, ◌&&◌, List, [], ◌∷◌, ◌++◌, length, Option, Some, None, refl, sym, ap, ap₂, subst, ◌∙◌, append_assoc, nat_eq}
use Rattle.std.specs.Prelude.{IsTrue}
use Rattle.std.specs.Int.{w16, to_be_bytes}
use Rattle.std.specs.Cmp.Lexicographic.{pointwise}
use Rattle.std.proofs.lemmas.Bool.{and_parts, eqb-true, eq-eqb}
use Rattle.std.proofs.lemmas.List.{append-nil, nil_from_length}
use Rattle.mail_model.specs.Names.{is_name, is_secret, lower, IsLowerName}
use Rattle.mail_model.specs.Identity.{Key, Value, State}
use Rattle.mail_model.specs.Identity.Key.{Profile, Message}
use Rattle.mail_model.specs.Identity.Value.{Here, Gone, Secret}
use Rattle.mail_model.specs.Record.{id_octets, text_octets, key_octets, state_octets, secret_octets, rank_of}
use Rattle.mail_model.specs.Grammar.{IsKey, IsValue, IsState, IsOfKind, IsObject}
use Rattle.record_form.specs.Reading.{◌>>=◌, octet_at, text_at, name_of, name_at, secret_of, secret_at, key_for, key_at, value_at, state_at, is_ended, is_of_kind, object_in, id_at, stamp_octets, stamp_at, targets_at}
use Rattle.record_form.proofs.Parts.{IsBytes, found_by, when_true, same_some, Takes, Takes-then, octet_takes, text_takes, text_again, id_takes, id_again, stamp_takes, stamp_again, targets_takes, targets_again}

-- ---- names and secrets

same_pointwise : (a b : List ℕ) → pointwise nat_eq a b ≡ true → a ≡ b
same_pointwise [] [] e = refl
same_pointwise [] (y ∷ b) e = absurd cc
same_pointwise (x ∷ a) [] e = absurd cc
same_pointwise (x ∷ a) (y ∷ b) e =
    let parts = and_parts (nat_eq x y) (pointwise nat_eq a b) e in
    ap₂ ◌∷◌ (eqb-true x y parts.0) (same_pointwise a b parts.1)

pointwise_self : (a : List ℕ) → pointwise nat_eq a a ≡ true
pointwise_self [] = refl
pointwise_self (x ∷ a) = rw (eq-eqb x x refl, pointwise_self a) refl

-- a test that has to hold, and what it guards
guarded : {A : Type 0} (b : Bool) (r : Option A) (y : A) → cond b r None ≡ Some y → (b ≡ true) × (r ≡ Some y)
guarded true r y e = (refl, e)
guarded false r y e = absurd cc

name_is : (text name : List ℕ) → name_of text ≡ Some name → (text ≡ name) × IsLowerName name
name_is text name e =
    let g = guarded (is_name text) (cond (pointwise nat_eq (lower text) text) (Some (lower text)) None) name e in
    let h = when_true (pointwise nat_eq (lower text) text) (lower text) name g.1 in
    let kept : lower text ≡ text = same_pointwise (lower text) text h.0 in
    let same : text ≡ name = sym kept ∙ h.1 in
    (same, subst IsLowerName same (record { name = g.0; in_lower = kept }))

name_again : (name : List ℕ) → IsLowerName name → name_of name ≡ Some name
name_again name is = rw (is.name, is.in_lower, pointwise_self name) refl

pub name_takes : (bytes : List ℕ) (x : List ℕ × List ℕ) → IsBytes bytes → name_at bytes ≡ Some x → Takes bytes (text_octets x.0) x.1 × IsLowerName x.0
unfolding name_at
name_takes bytes x fits e =
    let a = found_by (text_at bytes) _ x e in
    let b = found_by (name_of a.0.0) _ x a.2 in
    let text = text_takes bytes a.0 fits a.1 in
    let name = name_is a.0.0 b.0 b.1 in
    let whole = subst (λ (t : List ℕ). Takes bytes (text_octets t) a.0.1) name.0 text in
    subst (λ (y : List ℕ × List ℕ). Takes bytes (text_octets y.0) y.1 × IsLowerName y.0) (same_some (b.0, a.0.1) x b.2) (whole, name.1)

pub name_at_again : (name rest : List ℕ) → IsLowerName name → name_at (text_octets name ++ rest) ≡ Some (name, rest)
unfolding name_at
name_at_again name rest is = rw (text_again name rest, name_again name is) refl

secret_is : (text secret : List ℕ) → secret_of text ≡ Some secret → (text ≡ secret) × IsTrue (is_secret secret)
secret_is text secret e =
    let g = when_true (is_secret text) text secret e in
    (g.1, subst (λ (s : List ℕ). is_secret s ≡ true) g.1 g.0)

pub secret_takes : (bytes : List ℕ) (x : List ℕ × List ℕ) → IsBytes bytes → secret_at bytes ≡ Some x → Takes bytes (text_octets x.0) x.1 × IsTrue (is_secret x.0)
unfolding secret_at
secret_takes bytes x fits e =
    let a = found_by (text_at bytes) _ x e in
    let b = found_by (secret_of a.0.0) _ x a.2 in
    let text = text_takes bytes a.0 fits a.1 in
    let secret = secret_is a.0.0 b.0 b.1 in
    let whole = subst (λ (t : List ℕ). Takes bytes (text_octets t) a.0.1) secret.0 text in
    subst (λ (y : List ℕ × List ℕ). Takes bytes (text_octets y.0) y.1 × IsTrue (is_secret y.0)) (same_some (b.0, a.0.1) x b.2) (whole, secret.1)

pub secret_again : (secret rest : List ℕ) → IsTrue (is_secret secret) → secret_at (text_octets secret ++ rest) ≡ Some (secret, rest)
unfolding secret_at
secret_again secret rest is = rw (text_again secret rest, is) refl

-- ---- keys

key_takes_for : (kind : ℕ) (user bytes : List ℕ) (x : Key × List ℕ) → IsLowerName user → IsBytes bytes → key_for kind user bytes ≡ Some x
    → (front : List ℕ) × (key_octets x.0 ≡ kind ∷ text_octets user ++ front) × Takes bytes front x.1 × IsKey x.0
unfolding key_for
key_takes_for kind user bytes x name fits e = by_kind (nat_eq kind 1) (nat_eq kind 2) refl refl e
  where
    by_kind : (one two : Bool) → nat_eq kind 1 ≡ one → nat_eq kind 2 ≡ two
        → cond one (Some (Profile user, bytes)) (cond two (id_at bytes >>= λ id. Some (Message user id.0, id.1)) None) ≡ Some x
        → (front : List ℕ) × (key_octets x.0 ≡ kind ∷ text_octets user ++ front) × Takes bytes front x.1 × IsKey x.0
    by_kind true two is is_too e =
        let kind_is : kind ≡ 1 = eqb-true kind 1 is in
        subst (λ (y : Key × List ℕ). (front : List ℕ) × (key_octets y.0 ≡ kind ∷ text_octets user ++ front) × Takes bytes front y.1 × IsKey y.0)
        (same_some (Profile user, bytes) x e)
        ([], ap (λ (k : ℕ). k ∷ text_octets user) (sym kind_is) ∙ sym (append-nil (kind ∷ text_octets user)), record { parts = refl; rest_fits = fits }, name)
    by_kind false true is is_too e =
        let kind_is : kind ≡ 2 = eqb-true kind 2 is_too in
        let a = found_by (id_at bytes) _ x e in
        let id = id_takes bytes a.0 fits a.1 in
        subst (λ (y : Key × List ℕ). (front : List ℕ) × (key_octets y.0 ≡ kind ∷ text_octets user ++ front) × Takes bytes front y.1 × IsKey y.0)
        (same_some (Message user a.0.0, a.0.1) x a.2)
        (id_octets a.0.0, ap (λ (k : ℕ). k ∷ text_octets user ++ id_octets a.0.0) (sym kind_is), id.0, (name, id.1))
    by_kind false false is is_too e = absurd cc

pub key_takes : (bytes : List ℕ) (x : Key × List ℕ) → IsBytes bytes → key_at bytes ≡ Some x → Takes bytes (key_octets x.0) x.1 × IsKey x.0
unfolding key_at
key_takes bytes x fits e =
    let a = found_by (octet_at bytes) _ x e in
    let b = found_by (name_at a.0.1) _ x a.2 in
    let kind = octet_takes bytes a.0 fits a.1 in
    let user = name_takes a.0.1 b.0 kind.0.rest_fits b.1 in
    let key = key_takes_for a.0.0 b.0.0 b.0.1 x user.1 user.0.rest_fits b.2 in
    let two = Takes-then bytes (a.0.0 ∷ []) a.0.1 (text_octets b.0.0) b.0.1 kind.0 user.0 in
    let all = Takes-then bytes (a.0.0 ∷ text_octets b.0.0) b.0.1 key.0 x.1 two key.2 in
    (subst (λ (t : List ℕ). Takes bytes t x.1) (sym key.1) all, key.3)

pub key_again : (key : Key) (rest : List ℕ) → IsKey key → key_at (key_octets key ++ rest) ≡ Some (key, rest)
unfolding key_at key_for
key_again (Profile user) rest is = rw (name_at_again user rest is) refl
key_again (Message user id) rest is =
    ap key_at (append_assoc (2 ∷ text_octets user) (id_octets id) rest) ∙ rw (name_at_again user (id_octets id ++ rest) is.0, id_again id rest is.1) refl

-- ---- states

value_takes : (rank : ℕ) (bytes : List ℕ) (x : Value × List ℕ) → IsBytes bytes → value_at rank bytes ≡ Some x
    → (rank ≡ rank_of x.0) × Takes bytes (secret_octets x.0) x.1 × IsValue x.0
unfolding value_at
value_takes rank bytes x fits e = by_rank (nat_eq rank 1) (nat_eq rank 2) (nat_eq rank 3) refl refl refl e
  where
    by_rank : (one two three : Bool) → nat_eq rank 1 ≡ one → nat_eq rank 2 ≡ two → nat_eq rank 3 ≡ three
        → cond one (Some (Here, bytes)) (cond two (Some (Gone, bytes)) (cond three (secret_at bytes >>= λ secret. Some (Secret secret.0, secret.1)) None)) ≡ Some x
        → (rank ≡ rank_of x.0) × Takes bytes (secret_octets x.0) x.1 × IsValue x.0
    by_rank true two three is is_two is_three e =
        subst (λ (y : Value × List ℕ). (rank ≡ rank_of y.0) × Takes bytes (secret_octets y.0) y.1 × IsValue y.0) (same_some (Here, bytes) x e)
        (eqb-true rank 1 is, record { parts = refl; rest_fits = fits }, tt)
    by_rank false true three is is_two is_three e =
        subst (λ (y : Value × List ℕ). (rank ≡ rank_of y.0) × Takes bytes (secret_octets y.0) y.1 × IsValue y.0) (same_some (Gone, bytes) x e)
        (eqb-true rank 2 is_two, record { parts = refl; rest_fits = fits }, tt)
    by_rank false false true is is_two is_three e =
        let a = found_by (secret_at bytes) _ x e in
        let secret = secret_takes bytes a.0 fits a.1 in
        subst (λ (y : Value × List ℕ). (rank ≡ rank_of y.0) × Takes bytes (secret_octets y.0) y.1 × IsValue y.0) (same_some (Secret a.0.0, a.0.1) x a.2)
        (eqb-true rank 3 is_three, secret.0, secret.1)
    by_rank false false false is is_two is_three e = absurd cc

value_again : (value : Value) (rest : List ℕ) → IsValue value → value_at (rank_of value) (secret_octets value ++ rest) ≡ Some (value, rest)
unfolding value_at
value_again Here rest is = refl
value_again Gone rest is = refl
value_again (Secret octets) rest is = rw (secret_again octets rest is) refl

pub state_takes : (bytes : List ℕ) (x : State × List ℕ) → IsBytes bytes → state_at bytes ≡ Some x → Takes bytes (state_octets x.0) x.1 × IsState x.0
unfolding state_at
state_takes bytes x fits e =
    let a = found_by (octet_at bytes) _ x e in
    let b = found_by (stamp_at a.0.1) _ x a.2 in
    let c = found_by (targets_at b.0.1) _ x b.2 in
    let d = found_by (value_at a.0.0 c.0.1) _ x c.2 in
    let rank = octet_takes bytes a.0 fits a.1 in
    let stamp = stamp_takes a.0.1 b.0 rank.0.rest_fits b.1 in
    let targets = targets_takes b.0.1 c.0 stamp.0.rest_fits c.1 in
    let value = value_takes a.0.0 c.0.1 d.0 targets.0.rest_fits d.1 in
    let two = Takes-then bytes (a.0.0 ∷ []) a.0.1 (stamp_octets b.0.0) b.0.1 rank.0 stamp.0 in
    let three = Takes-then bytes (a.0.0 ∷ stamp_octets b.0.0) b.0.1 (to_be_bytes w16 c.0.0) c.0.1 two targets.0 in
    let all = Takes-then bytes (a.0.0 ∷ stamp_octets b.0.0 ++ to_be_bytes w16 c.0.0) c.0.1 (secret_octets d.0.0) d.0.1 three value.1 in
    let whole : Takes bytes (state_octets (record { value = d.0.0; stamp = b.0.0; targets = c.0.0 })) d.0.1 =
    subst (λ (r : ℕ). Takes bytes (r ∷ stamp_octets b.0.0 ++ to_be_bytes w16 c.0.0 ++ secret_octets d.0.0) d.0.1) value.0 all in
    subst (λ (y : State × List ℕ). Takes bytes (state_octets y.0) y.1 × IsState y.0)
    (same_some (record { value = d.0.0; stamp = b.0.0; targets = c.0.0 }, d.0.1) x d.2)
    (whole, record { value = value.2; stamp = stamp.1; targets = targets.1 })

pub state_again : (state : State) (rest : List ℕ) → IsState state → state_at (state_octets state ++ rest) ≡ Some (state, rest)
unfolding state_at
state_again state rest is =
    rw (
      stamp_again state.stamp (to_be_bytes w16 state.targets ++ secret_octets state.value ++ rest) is.stamp,
      targets_again state.targets (secret_octets state.value ++ rest) is.targets,
      value_again state.value rest is.value,
    ) refl

-- ---- objects

kind_fits : (key : Key) (value : Value) → is_of_kind key value ≡ true → IsOfKind key value
kind_fits (Profile user) Here e = absurd cc
kind_fits (Profile user) Gone e = absurd cc
kind_fits (Profile user) (Secret octets) e = tt
kind_fits (Message user id) Here e = tt
kind_fits (Message user id) Gone e = tt
kind_fits (Message user id) (Secret octets) e = absurd cc

kind_again : (key : Key) (value : Value) → IsOfKind key value → is_of_kind key value ≡ true
kind_again (Profile user) Here h = absurd h
kind_again (Profile user) Gone h = absurd h
kind_again (Profile user) (Secret octets) h = refl
kind_again (Message user id) Here h = refl
kind_again (Message user id) Gone h = refl
kind_again (Message user id) (Secret octets) h = absurd h

-- all of the octets
pub ended : (bytes text rest : List ℕ) → Takes bytes text rest → is_ended rest ≡ true → bytes ≡ text
ended bytes text rest t e = t.parts ∙ ap (λ (l : List ℕ). text ++ l) (nil_from_length rest (eqb-true (length rest) 0 e)) ∙ append-nil text

pub object_takes : (bytes : List ℕ) (x : Key × State) → IsBytes bytes → object_in bytes ≡ Some x → (bytes ≡ key_octets x.0 ++ state_octets x.1) × IsObject x.0 x.1
unfolding object_in
object_takes bytes x fits e =
    let a = found_by (key_at bytes) _ x e in
    let b = found_by (state_at a.0.1) _ x a.2 in
    let g = when_true (is_ended b.0.1 && is_of_kind a.0.0 b.0.0.value) (a.0.0, b.0.0) x b.2 in
    let tests = and_parts (is_ended b.0.1) (is_of_kind a.0.0 b.0.0.value) g.0 in
    let key = key_takes bytes a.0 fits a.1 in
    let state = state_takes a.0.1 b.0 key.0.rest_fits b.1 in
    let both = Takes-then bytes (key_octets a.0.0) a.0.1 (state_octets b.0.0) b.0.1 key.0 state.0 in
    let whole = ended bytes (key_octets a.0.0 ++ state_octets b.0.0) b.0.1 both tests.0 in
    subst (λ (y : Key × State). (bytes ≡ key_octets y.0 ++ state_octets y.1) × IsObject y.0 y.1) g.1
    (whole, record { key_fits = key.1; state_fits = state.1; kind = kind_fits a.0.0 b.0.0.value tests.1 })

pub object_again : (key : Key) (state : State) → IsObject key state → object_in (key_octets key ++ state_octets state) ≡ Some (key, state)
unfolding object_in
object_again key state is =
    let all : state_at (state_octets state) ≡ Some (state, []) = ap state_at (sym (append-nil (state_octets state))) ∙ state_again state [] is.state_fits in
    rw (key_again key (state_octets state) is.key_fits, all, kind_again key state.value is.kind) refl
