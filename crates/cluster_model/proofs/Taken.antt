-- A letter that is taken out leaves each part as it was.
use Rattle.std.proofs.Common.{◌≡◌, ◌⊎◌, inl, inr, ⊎_elim, ℕ, List, subst}
use Rattle.mail_model.specs.Identity.{Id}
use Rattle.mail_model.specs.Book.{BookEntry}
use Rattle.object_model.specs.Lists.{Among}
use Rattle.cluster_model.specs.Cluster.{Slot, AskedOfNodes}
use Rattle.object_model.specs.Letters.{Letter, Number}
use Rattle.cluster_model.specs.Claims.{NodesWait, Covers, Covered}
use Rattle.cluster_model.specs.Parts.{IsHeldSomewhere, Contents, Deletions, Claims, AllFit, WaitsForLetters}

module _ (slots : List Slot) (flying left : List Letter) (book : List BookEntry) (fewer : (one : Letter) → Among one left → Among one flying) where
  held_less : (id : Id) (octets : List ℕ) → IsHeldSomewhere slots left id octets → IsHeldSomewhere slots flying id octets
  held_less id octets h = record { where_ = ⊎_elim (λ disk. inl disk) (λ (letter, m, holds). inr (letter, fewer letter m, holds)) h.where_ }

  pub contents_taken : Contents slots flying book → Contents slots left book
  contents_taken p = record {
    one = λ id octets others a b. p.one id octets others (held_less id octets a) (held_less id others b);
    ended = λ id octets h. p.ended id octets (held_less id octets h);
    wanted = λ filing octets w h. p.wanted filing octets w (held_less filing.id octets h);
    acked = λ copy octets m h. p.acked copy octets m (held_less copy.id octets h);
    held_drawn = λ id octets h. p.held_drawn id octets (held_less id octets h);
    wanted_drawn = p.wanted_drawn;
    acked_drawn = p.acked_drawn;
    filed_drawn = λ letter m. p.filed_drawn letter (fewer letter m);
  }

  pub deletions_taken : Deletions slots flying book → Deletions slots left book
  deletions_taken p = record { disks = p.disks; letters = λ letter m. p.letters letter (fewer letter m) }

  pub claims_taken : Claims slots flying book → Claims slots left book
  claims_taken p = record {
    nodes = p.nodes;
    letters = λ letter m. p.letters letter (fewer letter m);
    files = λ letter m. p.files letter (fewer letter m);
    filed = λ letter m. p.filed letter (fewer letter m);
    booked = p.booked;
  }

  pub fit_taken : AllFit slots flying → AllFit slots left
  fit_taken p = record { slots_fit = p.slots_fit; letters_fit = λ letter m. p.letters_fit letter (fewer letter m) }

  pub waits_taken : (letter : Letter) → ((one : Letter) → Among one flying → Among one left ⊎ (one ≡ letter))
      → ((number : Number) (m : ℕ) (asked : AskedOfNodes) → Covers letter number m asked → NodesWait slots number m asked → Covered left number m asked)
      → WaitsForLetters slots flying → WaitsForLetters slots left
  waits_taken letter others missed p = record {
    each = λ number m asked wait. let c = p.each number m asked wait in ⊎_elim
        (λ stays. record { letter = c.letter; inside = stays; covers = c.covers })
        (λ gone. missed number m asked (subst (λ (l : Letter). Covers l number m asked) gone c.covers) wait)
        (others c.letter c.inside);
  }
