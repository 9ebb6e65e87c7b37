-- What a node does keeps the other parts.
use Rattle.std.proofs.Common.{◌≡◌, inl, inr, ⊎_elim, ℕ, List, ◌++◌, Some, sym, subst}
use Rattle.mail_model.specs.Identity.{Id}
use Rattle.mail_model.specs.Book.{BookEntry}
use Rattle.mail_model.specs.Book.BookEntry.{Struck}
use Rattle.object_model.specs.Lists.{Among}
use Rattle.cluster_model.specs.Cluster.{Slot, slot_at, with_slot, AskedOfNodes}
use Rattle.object_model.specs.Letters.{Letter, Number}
use Rattle.cluster_model.specs.Claims.{SlotSpeaks, Covered}
use Rattle.cluster_model.specs.Moves.{NodeAct, IsAct, IsInOrder, IsSpoken, SlotFits}
use Rattle.cluster_model.specs.Parts.{AllInOrder, Deletions, AllFit, WaitsForLetters}
use Rattle.object_model.proofs.Lists.{among_front, among_behind, among_either}
use Rattle.cluster_model.proofs.Slots.{read_after}
use Rattle.cluster_model.proofs.Drawing.{waits_after}

pub covered_more : (letters more : List Letter) (number : Number) (m : ℕ) (asked : AskedOfNodes) → Covered letters number m asked → Covered (letters ++ more) number m asked
covered_more letters more number m asked c = record { letter = c.letter; inside = among_front c.letter letters more c.inside; covers = c.covers }

pub covered_new : (letters more : List Letter) (number : Number) (m : ℕ) (asked : AskedOfNodes) → Covered more number m asked → Covered (letters ++ more) number m asked
covered_new letters more number m asked c = record { letter = c.letter; inside = among_behind c.letter letters more c.inside; covers = c.covers }

module _ (slots : List Slot) (flying : List Letter) (book : List BookEntry) (act : NodeAct) (here : slot_at slots act.node ≡ Some act.before) (is : IsAct act)
    (flew : (letter : Letter) → act.heard ≡ Some letter → Among letter flying) where
  abbrev After : List Slot
  After = with_slot slots act.node act.after

  pub order_acted : AllInOrder slots → AllInOrder After
  order_acted p = record {
    each = λ n slot at. ⊎_elim
        (λ new. subst IsInOrder (sym new.1) is.order)
        (λ old. p.each n slot old)
        (read_after slots act.node n act.before act.after slot here at);
  }

  module _ (struck : (user : List ℕ) (id : Id) → Among (user, id) act.strikes → Among (Struck user id) book) (p : Deletions slots flying book) where
    spoken : (user : List ℕ) (id : Id) → IsSpoken act user id → Among (Struck user id) book
    spoken user id (inl old) = p.disks act.node act.before here user id old
    spoken user id (inr (inl h)) = p.letters h.letter (flew h.letter h.is) user id h.holds
    spoken user id (inr (inr new)) = struck user id new

    pub deletions_acted : Deletions After (flying ++ act.out) book
    deletions_acted = record {
      disks = λ n slot at user id speaks. ⊎_elim
          (λ new. spoken user id (is.deletions.spoken user id (subst (λ (s : Slot). SlotSpeaks s user id) new.1 speaks)))
          (λ old. p.disks n slot old user id speaks)
          (read_after slots act.node n act.before act.after slot here at);
      letters = λ letter m user id speaks. ⊎_elim
          (λ old. p.letters letter old user id speaks)
          (λ new. spoken user id (is.deletions.sent letter new user id speaks))
          (among_either letter flying act.out m);
    }

  pub fit_acted : AllFit slots flying → AllFit After (flying ++ act.out)
  fit_acted p = record {
    slots_fit = λ n slot at. ⊎_elim
        (λ new. subst (λ k. SlotFits k slot) (sym new.0) (subst (SlotFits act.node) (sym new.1) is.fit.slot))
        (λ old. p.slots_fit n slot old)
        (read_after slots act.node n act.before act.after slot here at);
    letters_fit = λ letter m. ⊎_elim
        (λ old. p.letters_fit letter old)
        (λ new. is.fit.sent letter new)
        (among_either letter flying act.out m);
  }

  pub waits_acted : WaitsForLetters slots flying → WaitsForLetters After (flying ++ act.out)
  waits_acted p = record {
    each = λ number m asked wait. ⊎_elim
        (λ old. covered_more flying act.out number m asked (p.each number m asked old))
        (covered_new flying act.out number m asked)
        (waits_after slots act here is number m asked wait);
  }
