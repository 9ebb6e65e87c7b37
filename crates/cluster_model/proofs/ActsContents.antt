-- What a node does keeps that one id has one content, and is drawn once.
use Rattle.std.proofs.Common.{◌≡◌, ◌⊎◌, inl, inr, ⊎_elim, ℕ, List, ◌++◌, Some, refl, sym, ap, ◌∙◌, subst, true}
use Rattle.mail_model.specs.Identity.{Id}
use Rattle.mail_model.specs.Lines.{ends_in_crlf}
use Rattle.mail_model.specs.Book.{Acked, BookEntry}
use Rattle.mail_model.specs.Book.BookEntry.{Acknowledged}
use Rattle.object_model.specs.Lists.{Among}
use Rattle.cluster_model.specs.Cluster.{Slot, slot_at, with_slot, NodeFiling}
use Rattle.object_model.specs.Letters.{Letter}
use Rattle.object_model.specs.Letters.Body.{Filed}
use Rattle.cluster_model.specs.Claims.{SlotHolds, LetterHolds, BodyHolds, IsFile, NodesWant, AreOf, IsIdDrawn}
use Rattle.cluster_model.specs.Moves.{NodeAct, IsAct, Brings, ComesFrom, Opens, Content}
use Rattle.cluster_model.specs.Parts.{IsHeldSomewhere, Contents}
use Rattle.object_model.proofs.Lists.{among_either, same_some}
use Rattle.cluster_model.proofs.Slots.{read_after}
use Rattle.cluster_model.proofs.Drawing.{wants_after, drawn_more, new_drawn, not_drawn}

-- a File holds its octets
pub file_holds : (letter : Letter) (id : Id) (users : List (List ℕ)) (f : IsFile letter id users) → LetterHolds letter id f.octets
file_holds letter id users f = subst (λ b. BodyHolds b id f.octets) (sym f.is) (refl, refl)

module _ (slots : List Slot) (flying : List Letter) (act : NodeAct) (here : slot_at slots act.node ≡ Some act.before) (is : IsAct act)
    (flew : (letter : Letter) → act.heard ≡ Some letter → Among letter flying) where
  abbrev After : List Slot
  After = with_slot slots act.node act.after

  flies : (letter : Letter) (id : Id) (octets : List ℕ) → Among letter flying → LetterHolds letter id octets → IsHeldSomewhere slots flying id octets
  flies letter id octets m h = record { where_ = inr (letter, m, h) }

  from_before : (id : Id) (octets : List ℕ) → ComesFrom act id octets → IsHeldSomewhere slots flying id octets ⊎ Brings act id octets
  from_before id octets (inl old) = inl (record { where_ = inl (act.node, act.before, here, old) })
  from_before id octets (inr (inl h)) = inl (flies h.letter id octets (flew h.letter h.is) h.holds)
  from_before id octets (inr (inr b)) = inr b

  -- octets were held before, or the call brings them
  pub origin : (id : Id) (octets : List ℕ) → IsHeldSomewhere After (flying ++ act.out) id octets → IsHeldSomewhere slots flying id octets ⊎ Brings act id octets
  origin id octets h = ⊎_elim
      (λ (n, slot, at, holds). ⊎_elim
      (λ new. from_before id octets (is.contents.held id octets (subst (λ (s : Slot). SlotHolds s id octets) new.1 holds)))
      (λ old. inl (record { where_ = inl (n, slot, old, holds) }))
      (read_after slots act.node n act.before act.after slot here at))
      (λ (letter, m, holds). ⊎_elim
      (λ old. inl (flies letter id octets old holds))
      (λ new. from_before id octets (is.contents.sent letter new id octets holds))
      (among_either letter flying act.out m))
      h.where_

  module _ (book : List BookEntry) (p : Contents slots flying book) where
    -- what a call brings was not held, not wanted and not acknowledged
    pub not_held : (content : Content) → act.files ≡ Some content → (id : Id) → content.id ≡ id → (octets : List ℕ) → IsHeldSomewhere slots flying id octets → ⊥
    not_held content e id same octets h = not_drawn slots act here is content e id same (p.held_drawn id octets h)

    one_content : (c d : Content) → act.files ≡ Some c → act.files ≡ Some d → c ≡ d
    one_content c d e f = same_some act.files c d e f

    one : (id : Id) (octets others : List ℕ) → IsHeldSomewhere slots flying id octets ⊎ Brings act id octets → IsHeldSomewhere slots flying id others ⊎ Brings act id others → octets ≡ others
    one id octets others (inl a) (inl b) = p.one id octets others a b
    one id octets others (inl a) (inr b) = absurd (not_held b.content b.is id b.same_id octets a)
    one id octets others (inr a) (inl b) = absurd (not_held a.content a.is id a.same_id others b)
    one id octets others (inr a) (inr b) = sym a.same_octets ∙ ap (λ (c : Content). c.octets) (one_content a.content b.content a.is b.is) ∙ b.same_octets

    wanted : (filing : NodeFiling) (octets : List ℕ) → NodesWant slots filing ⊎ Opens act filing → IsHeldSomewhere slots flying filing.id octets ⊎ Brings act filing.id octets → AreOf filing.size filing.digest octets
    wanted filing octets (inl a) (inl b) = p.wanted filing octets a b
    wanted filing octets (inl a) (inr b) = absurd (not_drawn slots act here is b.content b.is filing.id b.same_id (p.wanted_drawn filing a))
    wanted filing octets (inr a) (inl b) = absurd (not_held a.content a.is filing.id a.same_id octets b)
    wanted filing octets (inr a) (inr b) =
        subst (AreOf filing.size filing.digest) (ap (λ (c : Content). c.octets) (one_content a.content b.content a.is b.is) ∙ b.same_octets) a.octets

    acked : (copy : Acked) (octets : List ℕ) → Among (Acknowledged copy) book → IsHeldSomewhere slots flying copy.id octets ⊎ Brings act copy.id octets → AreOf copy.size copy.digest octets
    acked copy octets m (inl b) = p.acked copy octets m b
    acked copy octets m (inr b) = absurd (not_drawn slots act here is b.content b.is copy.id b.same_id (p.acked_drawn copy m))

    brought : (content : Content) → act.files ≡ Some content → (id : Id) → content.id ≡ id → IsIdDrawn After id
    brought content e id same = subst (IsIdDrawn After) same (new_drawn slots act here is content e)

    more : (id : Id) → IsIdDrawn slots id → IsIdDrawn After id
    more = drawn_more slots act here is

    filed_drawn : (letter : Letter) → Among letter flying ⊎ Among letter act.out → (id : Id) → letter.body ≡ Filed id → IsIdDrawn After id
    filed_drawn letter (inl old) id e = more id (p.filed_drawn letter old id e)
    filed_drawn letter (inr new) id e =
        let f = (is.files.filed letter new id e).1 in
        let h = f.1 in
        more id (p.held_drawn id h.holds.octets (flies h.letter id h.holds.octets (flew h.letter h.is) (file_holds h.letter id f.0 h.holds)))

    pub contents_acted : Contents After (flying ++ act.out) book
    contents_acted = record {
      one = λ id octets others a b. one id octets others (origin id octets a) (origin id others b);
      ended = λ id octets h. ⊎_elim
          (λ old. p.ended id octets old)
          (λ (new : Brings act id octets). subst (λ o. ends_in_crlf o ≡ true) new.same_octets (is.contents.ended new.content new.is))
          (origin id octets h);
      wanted = λ filing octets a b. wanted filing octets (wants_after slots act here is filing a) (origin filing.id octets b);
      acked = λ copy octets m b. acked copy octets m (origin copy.id octets b);
      held_drawn = λ id octets h. ⊎_elim
          (λ old. more id (p.held_drawn id octets old))
          (λ (new : Brings act id octets). brought new.content new.is id new.same_id)
          (origin id octets h);
      wanted_drawn = λ filing h. ⊎_elim
          (λ old. more filing.id (p.wanted_drawn filing old))
          (λ (new : Opens act filing). brought new.content new.is filing.id new.same_id)
          (wants_after slots act here is filing h);
      acked_drawn = λ copy m. more copy.id (p.acked_drawn copy m);
      filed_drawn = λ letter m. filed_drawn letter (among_either letter flying act.out m);
    }
