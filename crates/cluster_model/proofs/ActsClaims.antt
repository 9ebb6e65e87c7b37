-- What a node does keeps that what is claimed stands.
use Rattle.std.proofs.Common.{◌≡◌, ◌⊎◌, inl, inr, ⊎_elim, ℕ, List, ◌++◌, Some, sym, ap, ◌∙◌, subst}
use Rattle.mail_model.specs.Identity.{Id}
use Rattle.mail_model.specs.Book.{BookEntry}
use Rattle.object_model.specs.Lists.{Among}
use Rattle.cluster_model.specs.Cluster.{Slot, slot_at, with_slot, NodeFiling}
use Rattle.object_model.specs.Letters.{Letter}
use Rattle.object_model.specs.Letters.Body.{Filed}
use Rattle.cluster_model.specs.Claims.{Fact, SaysFact, FactStands, IsFile, NodesWant}
use Rattle.cluster_model.specs.Claims.Fact.{HasCopies}
use Rattle.cluster_model.specs.Moves.{NodeAct, IsAct, IsBacked, IsFactConfirmed, Opens, Content}
use Rattle.cluster_model.specs.Parts.{IsHeldSomewhere, Contents, Claims}
use Rattle.object_model.proofs.Lists.{among_either, same_some}
use Rattle.cluster_model.proofs.Drawing.{still, own_says, claims_after, wants_before, wants_after, not_drawn}
use Rattle.cluster_model.proofs.ActsContents.{file_holds}

module _ (slots : List Slot) (flying : List Letter) (book : List BookEntry) (act : NodeAct) (here : slot_at slots act.node ≡ Some act.before) (is : IsAct act)
    (flew : (letter : Letter) → act.heard ≡ Some letter → Among letter flying) (held : Contents slots flying book) (p : Claims slots flying book) where
  abbrev After : List Slot
  After = with_slot slots act.node act.after

  up : (m : ℕ) (fact : Fact) → FactStands slots m fact → FactStands After m fact
  up = still slots act here is

  backed : (m : ℕ) (fact : Fact) → IsBacked act m fact → FactStands After m fact
  backed m fact (inl old) = up m fact (p.nodes m fact (record { node = act.node; slot = act.before; here = here; claims = old }))
  backed m fact (inr (inl own)) = own_says slots act here is m fact own.0 own.1
  backed m fact (inr (inr h)) = up m fact (p.letters h.letter (flew h.letter h.is) m fact h.holds)

  confirmed : (m : ℕ) (fact : Fact) → IsFactConfirmed act m fact → FactStands After m fact
  confirmed m fact c =
      let h = c.heard in
      let stands = p.filed h.letter (flew h.letter h.is) c.filing (wants_before slots act here is c.filing c.stood) h.holds.1 in
      up m fact (subst (FactStands slots m) c.is (subst (λ k. FactStands slots k (HasCopies c.filing.users c.filing.id)) h.holds.0 stands))

  file_flies : (letter : Letter) (id : Id) (users : List (List ℕ)) → Among letter flying → (f : IsFile letter id users) → IsHeldSomewhere slots flying id f.octets
  file_flies letter id users m f = record { where_ = inr (letter, m, file_holds letter id users f) }

  -- no File of what a call files was in flight
  unfiled : (content : Content) → act.files ≡ Some content → (id : Id) → content.id ≡ id → (letter : Letter) (users : List (List ℕ)) → Among letter flying → IsFile letter id users → ⊥
  unfiled content e id same letter users m f = not_drawn slots act here is content e id same (held.held_drawn id f.octets (file_flies letter id users m f))

  files : (letter : Letter) → Among letter flying ⊎ Among letter act.out → (filing : NodeFiling) (users : List (List ℕ)) → NodesWant slots filing ⊎ Opens act filing → IsFile letter filing.id users → users ≡ filing.users
  files letter (inl a) filing users (inl b) f = p.files letter a filing users b f
  files letter (inl a) filing users (inr b) f = absurd (unfiled b.content b.is filing.id b.same_id letter users a f)
  files letter (inr a) filing users (inl b) f =
      let c = is.files.file letter a filing.id users f in
      absurd (not_drawn slots act here is c.0 c.1 filing.id c.2 (held.wanted_drawn filing b))
  files letter (inr a) filing users (inr b) f =
      let c = is.files.file letter a filing.id users f in
      sym c.3 ∙ ap (λ (x : Content). x.users) (same_some act.files c.0 b.content c.1 b.is) ∙ b.same_users

  filed : (letter : Letter) → Among letter flying ⊎ Among letter act.out → (filing : NodeFiling) → NodesWant slots filing ⊎ Opens act filing → letter.body ≡ Filed filing.id
      → FactStands After letter.from (HasCopies filing.users filing.id)
  filed letter (inl a) filing (inl b) e = up letter.from (HasCopies filing.users filing.id) (p.filed letter a filing b e)
  filed letter (inl a) filing (inr b) e = absurd (not_drawn slots act here is b.content b.is filing.id b.same_id (held.filed_drawn letter a filing.id e))
  filed letter (inr a) filing (inl b) e =
      let f = is.files.filed letter a filing.id e in
      let h = f.1.1 in
      let same : f.1.0 ≡ filing.users = p.files h.letter (flew h.letter h.is) filing f.1.0 b h.holds in
      own_says slots act here is letter.from (HasCopies filing.users filing.id) f.0 (subst (λ u. SaysFact act.after.disk (HasCopies u filing.id)) same f.1.2)
  filed letter (inr a) filing (inr b) e =
      let f = is.files.filed letter a filing.id e in
      let h = f.1.1 in
      absurd (unfiled b.content b.is filing.id b.same_id h.letter f.1.0 (flew h.letter h.is) h.holds)

  pub claims_acted : Claims After (flying ++ act.out) book
  claims_acted = record {
    nodes = λ m fact claim. ⊎_elim
        (λ old. up m fact (p.nodes m fact old))
        (λ new. ⊎_elim (backed m fact) (confirmed m fact) (is.claims.claimed m fact new))
        (claims_after slots act here is m fact claim);
    letters = λ letter m n fact claim. ⊎_elim
        (λ old. up n fact (p.letters letter old n fact claim))
        (λ new. backed n fact (is.claims.sent letter new n fact claim))
        (among_either letter flying act.out m);
    files = λ letter m filing users want f. files letter (among_either letter flying act.out m) filing users (wants_after slots act here is filing want) f;
    filed = λ letter m filing want e. filed letter (among_either letter flying act.out m) filing (wants_after slots act here is filing want) e;
    booked = λ entry m n fact claim. up n fact (p.booked entry m n fact claim);
  }
