-- Moves of a whole cluster keep both invariants.
use Rattle.std.proofs.Common.{◌≡◌, ℕ, zero, suc, List, [], ◌∷◌, ◌++◌, map, Some, refl, sym, ap, ◌∙◌, subst}
use Rattle.cluster_model.specs.Cluster as mail
use Rattle.cluster_model.specs.Moves as mail_moves
use Rattle.cluster_model.specs.Parts as mail_parts
use Rattle.cluster_model.proofs.Kept as mail_kept
use Rattle.maps_model.specs.Cluster as maps
use Rattle.maps_model.specs.Moves as maps_moves
use Rattle.maps_model.specs.Parts as maps_parts
use Rattle.maps_model.proofs.Kept as maps_kept
use Rattle.whole_model.specs.Whole.{Slot, Cluster, slot_at, with_slot, mail_slot, maps_slot, mail_part_of, maps_of}
use Rattle.whole_model.specs.Moves.{mail_act, Move, after_move, after_moves, MayMove, MayMoves, Sound}
use Rattle.whole_model.specs.Moves.Move.{Acted, Taken, Entered}
use Rattle.whole_model.proofs.Seen.{get_seen, set_seen}

mail_here : (slots : List Slot) (n : ℕ) (slot : Slot) → slot_at slots n ≡ Some slot → mail.slot_at (map mail_slot slots) n ≡ Some (mail_slot slot)
mail_here slots zero slot e = absurd (cc e)
mail_here slots (suc k) slot e = get_seen mail_slot slots k slot e

maps_here : (slots : List Slot) (n : ℕ) (slot : Slot) → slot_at slots n ≡ Some slot → maps.slot_at (map maps_slot slots) n ≡ Some (maps_slot slot)
maps_here slots zero slot e = absurd (cc e)
maps_here slots (suc k) slot e = get_seen maps_slot slots k slot e

mail_set : (slots : List Slot) (n : ℕ) (slot : Slot) → map mail_slot (with_slot slots n slot) ≡ mail.with_slot (map mail_slot slots) n (mail_slot slot)
mail_set slots zero slot = refl
mail_set slots (suc k) slot = set_seen mail_slot slots k slot

maps_set : (slots : List Slot) (n : ℕ) (slot : Slot) → map maps_slot (with_slot slots n slot) ≡ maps.with_slot (map maps_slot slots) n (maps_slot slot)
maps_set slots zero slot = refl
maps_set slots (suc k) slot = set_seen maps_slot slots k slot

module _ (confirm : ℕ) where
  -- the same move, as messages see it
  one_mail : (w : Cluster) (move : mail_moves.Move) → mail_moves.MayMove confirm move (mail_part_of w) → mail_parts.Sound confirm (mail_part_of w) → mail_parts.Sound confirm (mail_moves.after_move move (mail_part_of w))
  one_mail w move may s = mail_kept.all_kept confirm (mail_part_of w) (move ∷ []) (may, tt) s

  pub kept : (move : Move) (w : Cluster) → MayMove confirm move w → Sound confirm w → Sound confirm (after_move move w)
  kept (Acted act) w may s =
      let led = may.maps (maps_of w) (maps_here w.slots act.node act.before may.here) may.heard in
      record {
        mail = subst (λ (slots : List mail.Slot). mail_parts.Sound confirm (record { slots = slots; flying = w.flying ++ act.out; book = w.book })) (sym (mail_set w.slots act.node act.after))
            (one_mail w (mail_moves.Move.Acted (mail_act act)) (mail_here w.slots act.node act.before may.here, may.mail, (λ letter e. (may.heard letter e).0), may.struck) s.mail);
        maps = subst maps_parts.Sound (led.is ∙ ap (λ (slots : List maps.Slot). record { slots = slots; flying = w.flying ++ act.out }) (sym (maps_set w.slots act.node act.after)))
            (maps_kept.all_kept (maps_of w) led.moves led.may s.maps);
      }
  kept (Taken letter left) w may s = record {
    mail = one_mail w (mail_moves.Move.Taken letter left) may s.mail;
    maps = maps_kept.all_kept (maps_of w) (maps_moves.Move.Taken left ∷ []) (may.0, tt) s.maps;
  }
  kept (Entered entry) w may s = record { mail = one_mail w (mail_moves.Move.Entered entry) may s.mail; maps = s.maps }

  pub all_kept : (w : Cluster) (moves : List Move) → MayMoves confirm moves w → Sound confirm w → Sound confirm (after_moves moves w)
  all_kept w [] may s = s
  all_kept w (move ∷ moves) may s = all_kept (after_move move w) moves may.1 (kept move w may.0 s)
