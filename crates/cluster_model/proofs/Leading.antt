-- One cluster leads to another by moves.
use Rattle.std.proofs.Common.{◌≡◌, inl, inr, ⊎_elim, ℕ, List, [], ◌∷◌, ◌++◌, Some, refl, sym, ap, ◌∙◌, subst}
use Rattle.mail_model.specs.Identity.{Id}
use Rattle.mail_model.specs.Book.{BookEntry}
use Rattle.mail_model.specs.Book.BookEntry.{Struck}
use Rattle.object_model.specs.Lists.{Among}
use Rattle.object_model.specs.Letters.{Number, Letter}
use Rattle.cluster_model.specs.Cluster.{AskedOfNodes, Cluster, slot_at, with_slot}
use Rattle.cluster_model.specs.Claims.{NodesWait, Covers, Covered}
use Rattle.cluster_model.specs.Moves.{NodeAct, Brings, Content, Move, IsReady, IsAct, MayEnter, MayMoves, after_move, after_moves}
use Rattle.cluster_model.specs.Moves.Move.{Acted, Taken, Entered}
use Rattle.cluster_model.specs.Parts.{IsHeldSomewhere, Sound}
use Rattle.cluster_model.specs.World.{Leads}
use Rattle.cluster_model.proofs.ActsContents.{origin}
use Rattle.cluster_model.proofs.Kept.{all_kept}
use Rattle.object_model.proofs.Lists.{among_front, among_behind, among_either}

after_both : (first second : List Move) (c : Cluster) → after_moves (first ++ second) c ≡ after_moves second (after_moves first c)
after_both [] second c = refl
after_both (move ∷ first) second c = after_both first second (after_move move c)

may_both : (confirm : ℕ) (first second : List Move) (c : Cluster) → MayMoves confirm first c → MayMoves confirm second (after_moves first c) → MayMoves confirm (first ++ second) c
may_both confirm [] second c p q = q
may_both confirm (move ∷ first) second c p q = (p.0, may_both confirm first second (after_move move c) p.1 q)

module _ (confirm : ℕ) (May : Id → List ℕ → Type 0) where
  pub no_move : (c d : Cluster) → d ≡ c → Leads confirm May c d
  no_move c d e = record { moves = []; may = tt; is = e; brings = λ sound id octets h. inl (subst (λ (x : Cluster). IsHeldSomewhere x.slots x.flying id octets) e h) }

  pub led_on : (c d e : Cluster) → Leads confirm May c d → Leads confirm May d e → Leads confirm May c e
  led_on c d e p q = record {
    moves = p.moves ++ q.moves;
    may = may_both confirm p.moves q.moves c p.may (subst (MayMoves confirm q.moves) p.is q.may);
    is = q.is ∙ ap (after_moves q.moves) p.is ∙ sym (after_both p.moves q.moves c);
    brings = λ sound id octets h. ⊎_elim
        (λ old. p.brings sound id octets old)
        (λ new. inr new)
        (q.brings (subst (Sound confirm) (sym p.is) (all_kept confirm c p.moves p.may sound)) id octets h);
  }

  pub acted_leads : (c : Cluster) (act : NodeAct) → slot_at c.slots act.node ≡ Some act.before → (IsReady act.node act.before act.heard → IsAct act)
      → ((letter : Letter) → act.heard ≡ Some letter → Among letter c.flying)
      → ((user : List ℕ) (id : Id) → Among (user, id) act.strikes → Among (Struck user id) c.book)
      → ((content : Content) → act.files ≡ Some content → May content.id content.octets)
      → Leads confirm May c (record c { slots = with_slot c.slots act.node act.after; flying = c.flying ++ act.out })
  acted_leads c act here acts flew struck files = record {
    moves = Acted act ∷ [];
    may = ((here, acts, flew, struck), tt);
    is = refl;
    brings = λ sound id octets h.
        let is = acts (record {
          order = sound.order.each act.node act.before here;
          fits = sound.fit.slots_fit act.node act.before here;
          heard_fits = λ letter e. sound.fit.letters_fit letter (flew letter e);
        }) in
        ⊎_elim
        (λ old. inl old)
        (λ (b : Brings act id octets). inr (subst (λ i. May i octets) b.same_id (subst (May b.content.id) b.same_octets (files b.content b.is))))
        (origin c.slots c.flying act here is flew id octets h);
  }

  -- a letter at a place is taken out
  pub taken_leads : (c : Cluster) (letter : Letter) (front back : List Letter) → c.flying ≡ front ++ letter ∷ back
      → ((number : Number) (m : ℕ) (asked : AskedOfNodes) → Covers letter number m asked → NodesWait c.slots number m asked → Covered (front ++ back) number m asked)
      → Leads confirm May c (record c { flying = front ++ back })
  taken_leads c letter front back is missed = record {
    moves = Taken letter (front ++ back) ∷ [];
    may = (
      (
        λ one m. subst (Among one) (sym is) (⊎_elim
            (λ f. among_front one front (letter ∷ back) f)
            (λ b. among_behind one front (letter ∷ back) (inr b))
            (among_either one front back m)),
        λ one m. ⊎_elim
            (λ f. inl (among_front one front back f))
            (λ b. ⊎_elim (λ e. inr (sym e)) (λ k. inl (among_behind one front back k)) b)
            (among_either one front (letter ∷ back) (subst (Among one) is m)),
        missed,
      ),
      tt,
    );
    is = refl;
    brings = λ sound id octets h. inl (record {
      where_ = ⊎_elim
          (λ disk. inl disk)
          (λ (one, m, holds). inr (
            one,
            subst (Among one) (sym is) (⊎_elim
                (λ f. among_front one front (letter ∷ back) f)
                (λ b. among_behind one front (letter ∷ back) (inr b))
                (among_either one front back m)),
            holds,
          ))
          h.where_;
    });
  }

  -- entries that may each be added
  pub entered_leads : (entries : List BookEntry) (c : Cluster) → ((entry : BookEntry) → Among entry entries → MayEnter confirm entry c.slots) → Leads confirm May c (record c { book = c.book ++ entries })
  entered_leads [] c may = no_move c (record c { book = c.book ++ [] }) (ap (λ (b : List BookEntry). record c { book = b }) (nothing c.book))
    where
      nothing : (xs : List BookEntry) → xs ++ [] ≡ xs
      nothing [] = refl
      nothing (x ∷ xs) = ap (λ (l : List BookEntry). x ∷ l) (nothing xs)
  entered_leads (entry ∷ entries) c may =
      let more = entered_leads entries (record c { book = c.book ++ entry ∷ [] }) (λ one m. may one (inr m)) in
      record {
        moves = Entered entry ∷ more.moves;
        may = (may entry (inl refl), more.may);
        is = ap (λ (b : List BookEntry). record c { book = b }) (sym (assoc c.book (entry ∷ []) entries)) ∙ more.is;
        brings = λ sound id octets h. inl h;
      }
    where
      assoc : (xs ys zs : List BookEntry) → (xs ++ ys) ++ zs ≡ xs ++ (ys ++ zs)
      assoc [] ys zs = refl
      assoc (x ∷ xs) ys zs = ap (λ (l : List BookEntry). x ∷ l) (assoc xs ys zs)
