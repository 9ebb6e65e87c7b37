-- A part over disks and letters in a world of messages: what a node's work, its fall and a lost letter leave of it.
use Rattle.std.proofs.Common.{◌≡◌, inl, inr, ⊎_elim, ℕ, ◌+◌, Bool, true, false, List, [], ◌∷◌, ◌++◌, append-nil, append_assoc, Some, refl, sym, ap, ◌∙◌, subst, if◌then◌else◌}
use Rattle.mail_model.specs.Identity.{Key, State}
use Rattle.mail_model.specs.Record.{Record}
use Rattle.mail_model.specs.Record.Record.{Stated}
use Rattle.object_model.specs.Lists.{Among}
use Rattle.object_model.specs.Letters.{Body, Letter, is_read_body}
use Rattle.object_model.specs.Mishaps.{MishapKind}
use Rattle.object_model.specs.Mishaps.MishapKind.{Crowded}
use Rattle.object_model.proofs.Lists.{among_last}
use Rattle.cluster_model.specs.Cluster.{Node, Slot, slot_at, with_slot}
use Rattle.cluster_model.specs.Cluster.Life.{Down}
use Rattle.cluster_model.specs.Claims.{all_records}
use Rattle.cluster_model.specs.Rules.{Reaction}
use Rattle.cluster_model.specs.Deeds.{slot_up}
use Rattle.cluster_model.specs.Room.{has_room}
use Rattle.cluster_model.specs.World.{World, letters_of, missed, put, Flies}
use Rattle.cluster_model.specs.Makes.{IsUp, after, lost_letter, NodeGoesDown, cut_world}
use Rattle.cluster_model.proofs.Slots.{read_after}
use Rattle.cluster_model.proofs.Stepping.{letters_both}
use Rattle.whole_model.specs.Rules.{IsMapsBody}
use Rattle.whole_world.proofs.Plain.{AllSoft, IsSoft, soft_missed, Flew}
use Rattle.whole_world.proofs.Plain.IsSoft.{Same, Inner}
use Rattle.whole_world.proofs.Stepwise.{flew_on}

-- three appends, from the left
pub four : (xs ys zs ws : List Record) → xs ++ ((ys ++ zs) ++ ws) ≡ ((xs ++ ys) ++ zs) ++ ws
four xs ys zs ws = sym (append_assoc xs (ys ++ zs) ws) ∙ ap (λ (l : List Record). l ++ ws) (sym (append_assoc xs ys zs))

module _ (P : List Record → Type 0) (B : Body → Type 0) where
  -- it holds of each prefix, and records without states and letters of membership and maps, and of calls that read, leave it alone
  pub record Stays : Type 0 where
    pub prefix : (kept lost : List Record) → P (kept ++ lost) → P kept
    pub plain : (disk added : List Record) → ((key : Key) (state : State) → Among (Stated key state) added → ⊥) → P disk → P (disk ++ added)
    pub maps : (body : Body) → IsMapsBody body → B body
    pub reads : (body : Body) → is_read_body body ≡ true → B body

  pub record Holds (w : World) : Type 0 where
    pub disks : (n : ℕ) (slot : Slot) → slot_at w.slots n ≡ Some slot → P (all_records slot)
    pub letters : (letter : Letter) → Among letter (letters_of w.flying) → B letter.body

  -- what a node does keeps it
  abbrev pub Keeps : List Record → Reaction → Type 0
  Keeps disk did = P disk → P did.disk × ((one : Letter) → Among one did.out → B one.body)

  pub same_hold : (old x : World) → x.slots ≡ old.slots → Flew old x → Holds old → Holds x
  same_hold old x same flown h = record {
    disks = λ n slot at. h.disks n slot (subst (λ s. slot_at s n ≡ Some slot) same at);
    letters = λ letter m. h.letters letter (flown letter m);
  }

  pub write_hold : (x new : World) (n : ℕ) (before after : Slot) → slot_at x.slots n ≡ Some before → P (all_records after) → new.slots ≡ with_slot x.slots n after → Flew x new → Holds x → Holds new
  write_hold x new n before after here p is flown h = record {
    disks = λ m z at. ⊎_elim
        (λ one. subst (λ (s : Slot). P (all_records s)) (sym one.1) p)
        (λ stood. h.disks m z stood)
        (read_after x.slots n m before after z here (subst (λ s. slot_at s m ≡ Some z) is at));
    letters = λ letter m. h.letters letter (flown letter m);
  }

  -- tickets and numbers change at most
  pub soft_hold : (mid new : World) → AllSoft mid.slots new.slots → Flew mid new → Holds mid → Holds new
  soft_hold mid new soft flown h = record {
    disks = λ n after at. let q = soft.each n after at in same q.0 after q.2 (h.disks n q.0 q.1);
    letters = λ letter m. h.letters letter (flown letter m);
  }
    where
      same : (before after : Slot) → IsSoft before after → P (all_records before) → P (all_records after)
      same before after (Same e) p = subst (λ (s : Slot). P (all_records s)) e p
      same before after (Inner a b disk ea eb of) p = subst (λ (s : Slot). P (all_records s)) (sym eb) (subst (λ (s : Slot). P (all_records s)) ea p)

  put_hold : (letters : List Letter) → ((one : Letter) → Among one letters → B one.body) → (mid : World) → Holds mid → Holds (put has_room letters mid)
  put_hold [] fits mid h = h
  put_hold (letter ∷ letters) fits mid h = by (λ v k. put_hold letters (λ one m. fits one (inr m)) v k) (has_room mid.flying letter)
    where
      flown : World
      flown = record mid { flying = mid.flying ++ record { number = mid.sent + 1; letter = letter } ∷ []; sent = mid.sent + 1 }

      flies : Holds flown
      flies = record {
        disks = h.disks;
        letters = λ one m. ⊎_elim
            (λ before. h.letters one before)
            (λ is. subst (λ (l : Letter). B l.body) is (fits letter (inl refl)))
            (among_last one (letters_of mid.flying) letter (subst (Among one) (letters_both mid.flying (record { number = mid.sent + 1; letter = letter } ∷ [])) m));
      }

      by : ((v : World) → Holds v → Holds (put has_room letters v)) → (b : Bool)
          → Holds (if b then put has_room letters flown else put has_room letters (record mid { slots = missed Crowded mid.slots letter }))
      by rest true = rest flown flies
      by rest false = rest (record mid { slots = missed Crowded mid.slots letter })
          (soft_hold mid (record mid { slots = missed Crowded mid.slots letter }) (soft_missed Crowded mid.slots letter) (λ one m. m) h)

  -- what the disk of a node that is up has
  pub disk_of : (x : World) → Holds x → (own : ℕ) (node : Node) (disk : List Record) → IsUp x own node disk → P disk
  disk_of x h own node disk up = subst P (append-nil disk) (h.disks own (slot_up node disk) up)

  -- a node does something, and its letters are put in flight
  pub after_hold : (x : World) → Holds x → (own : ℕ) (node : Node) (disk : List Record) → IsUp x own node disk → (did : Reaction) → Keeps disk did → Holds (after x own did)
  after_hold x h own node disk up did keeps =
      let k = keeps (disk_of x h own node disk up) in
      put_hold did.out k.1 (record x { slots = with_slot x.slots own (slot_up did.node did.disk) })
      (write_hold x (record x { slots = with_slot x.slots own (slot_up did.node did.disk) }) own (slot_up node disk) (slot_up did.node did.disk) up (subst P (sym (append-nil did.disk)) k.0) refl (λ letter m. m) h)

  -- it goes down in it
  pub cut_hold : Stays → (x : World) → Holds x → (own : ℕ) (node : Node) (disk : List Record) → IsUp x own node disk → (whole : List Record) → (P disk → P whole)
      → (new : World) → NodeGoesDown x own disk whole new → Holds new
  cut_hold s x h own node disk up whole kept new g = subst Holds (sym g.is)
      (write_hold x (cut_world x own disk g.front g.pending) own (slot_up node disk) (record { life = Down g.pending; disk = disk ++ g.front }) up
      (s.prefix ((disk ++ g.front) ++ g.pending) g.cut.missing (subst P (g.cut.is ∙ four disk g.front g.pending g.cut.missing) (kept (disk_of x h own node disk up))))
      refl (λ letter m. m) h)

  -- a letter is lost
  pub lost_hold : (old : World) → Holds old → (kind : MishapKind) (number : ℕ) (f : Flies old number) (keep : Bool) → Holds (lost_letter kind old number f keep)
  lost_hold old h kind number f keep = soft_hold old (lost_letter kind old number f keep) (soft_missed kind old.slots f.letter) (λ letter m. flew_on old number f keep letter m) h
