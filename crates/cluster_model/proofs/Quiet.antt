-- What a reaction leaves alone.
use Rattle.std.proofs.Common.{◌≡◌, inl, inr, ⊎_elim, ◌≤◌, ℕ, List, [], ◌∷◌, Option, Some, refl, sym, ◌∙◌, subst, max, arith, le_refl, le_trans}
use Rattle.std.specs.FinMap as fin
use Rattle.mail_model.specs.Identity.{Id}
use Rattle.mail_model.specs.Record.{Record}
use Rattle.object_model.specs.Lists.{Among}
use Rattle.object_model.specs.Letters.{Number, Body, Letter}
use Rattle.cluster_model.specs.Cluster.{AskedOfNodes, Want, Tickets, Node, Life}
use Rattle.cluster_model.specs.Cluster.Life.{Up}
use Rattle.cluster_model.specs.Store.{Update}
use Rattle.cluster_model.specs.Claims.{Wants, LifeWaits, Asks, Tells, Covers, Covered}
use Rattle.cluster_model.specs.Moves.{Content}
use Rattle.cluster_model.specs.Rules.{Reaction, answer, greatest_named, drawn_past}
use Rattle.cluster_model.specs.Deeds.{act_of}
use Rattle.cluster_model.proofs.Reacts.{TicketsReact}

pub up_node : (a b : Node) → ◌≡◌ {A = Life} (Up a) (Up b) → a ≡ b
up_node a b e = cc

-- the same tickets ask for the same
pub wants_over : (a b : Node) → a.tickets ≡ b.tickets → (seq : ℕ) (want : Want) → Wants (Up a) seq want → Wants (Up b) seq want
wants_over a b e seq want w = record { ticket = w.ticket; here = subst (λ (t : Tickets). fin.get t seq ≡ Some w.ticket) e w.here; inside = w.inside }

pub waits_over : (a b : Node) → a.tickets ≡ b.tickets → a.boot ≡ b.boot → (number : Number) (m : ℕ) (asked : AskedOfNodes) → LifeWaits (Up a) number m asked → LifeWaits (Up b) number m asked
waits_over a b e boots number m asked w = record {
  node = b;
  up = refl;
  boot = w.boot ∙ subst (λ (x : Node). w.node.boot ≡ x.boot) (sym (up_node a w.node w.up)) refl ∙ boots;
  want = w.want;
  stands = wants_over a b e number.seq w.want w.stands;
  waits = w.waits;
  is = w.is;
}

-- a reaction that leaves the tickets as they were
pub same_tickets : (own : ℕ) (node : Node) (disk : List Record) (did : Reaction) (heard : Option Letter) (files : Option Content) (strikes : List (List ℕ × Id))
    → did.node.tickets ≡ node.tickets → did.node.boot ≡ node.boot
    → ((letter : Letter) → heard ≡ Some letter → (number : Number) (m : ℕ) (asked : AskedOfNodes) → Covers letter number m asked → Covered did.out number m asked)
    → TicketsReact (act_of own node disk did heard files strikes)
same_tickets own node disk did heard files strikes e boots settled = record {
  claimed = λ m fact c. inl (inl (inl (record { seq = c.seq; want = c.want; stands = wants_over did.node node e c.seq c.want c.stands; counts = c.counts; is = c.is })));
  wanted = λ filing w. inl (record { seq = w.seq; want = w.want; stands = wants_over did.node node e w.seq w.want w.stands; is = w.is });
  speaks = λ user id s. inl (record { seq = s.seq; want = s.want; stands = wants_over did.node node e s.seq s.want s.stands; is = s.is });
  waits = λ number here m asked w. inl (waits_over did.node node e boots number m asked w);
  settled = λ letter is number m asked c. inl (settled letter is number m asked c);
}

-- the answer to a letter covers what the letter did
pub answered : (letter : Letter) (body : Body) → ((asked : AskedOfNodes) → Asks letter.body asked → Tells body asked) → ((asked : AskedOfNodes) → Tells letter.body asked → ⊥)
    → (one : Letter) → Some letter ≡ Some one → (number : Number) (m : ℕ) (asked : AskedOfNodes) → Covers one number m asked → Covered (answer letter body ∷ []) number m asked
answered letter body tells nothing one is number m asked c =
    let d : Covers letter number m asked = subst (λ (l : Letter). Covers l number m asked) (sym (same_letter letter one is)) c in
    ⊎_elim
    (λ (from, to, asks). record { letter = answer letter body; inside = inl refl; covers = (d.0, inr (from, to, tells asked asks)) })
    (λ (to, from, told). absurd (nothing asked told))
    d.1
  where
    same_letter : (a b : Letter) → Some a ≡ Some b → a ≡ b
    same_letter a b e = cc

-- one letter goes out
pub sent_one : (P : Letter → Type 0) (one : Letter) → P one → (letter : Letter) → Among letter (one ∷ []) → P letter
sent_one P one p letter m = ⊎_elim (λ e. subst P e p) (λ none. absurd none) m

-- numbers rise
pub drawn_rises : (own boot drawn : ℕ) (updates : List Update) → drawn ≤ drawn_past own boot drawn updates
drawn_rises own boot drawn [] = le_refl drawn
drawn_rises own boot drawn (update ∷ updates) =
    le_trans (above drawn (greatest_named own boot update.key)) (drawn_rises own boot (max drawn (greatest_named own boot update.key)) updates)
  where
    above : (a b : ℕ) → a ≤ max a b
    above a b = omega arith
