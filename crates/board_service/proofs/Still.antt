-- Nothing was acknowledged or struck, by what is told still.
use Rattle.std.proofs.Common.{◌≡◌, List, [], append-nil, Option, Some, None, refl, sym, ap, ◌∙◌, arith}
use Rattle.std.specs.Option.{option_map}
use Rattle.mail_model.specs.Book.{BookEntry, acked_in, struck_in}
use Rattle.call_tickets.specs.Tells.{TellsMore}
use Rattle.call_tickets.specs.Passes.{known_to, IsQuiet, NoneFell}
use Rattle.call_tickets.specs.declared.tally.Tally.{Tally}
use Rattle.desk_model.specs.Tallies.{no_counts}
use Rattle.board_service.specs.Visits.{IsStill}

tells_same : {X : Type 0} (told : Option (List X)) → TellsMore told [] told
tells_same None = tt
tells_same (Some xs) = ap Some (sym (append-nil xs))

tells_both : {X : Type 0} (a b c : Option (List X)) → TellsMore a [] b → TellsMore b [] c → TellsMore a [] c
tells_both a b None p q = tt
tells_both a None (Some zs) p q = absurd (let never : Some zs ≡ None = q in cc)
tells_both a (Some ys) (Some zs) p q = q ∙ ap Some (append-nil ys) ∙ p

pub still_same : (told : Option (List BookEntry)) → IsStill told told
still_same told = record { acked = tells_same (option_map acked_in told); struck = tells_same (option_map struck_in told) }

pub still_both : (a b c : Option (List BookEntry)) → IsStill a b → IsStill b c → IsStill a c
still_both a b c p q = record {
  acked = tells_both (option_map acked_in a) (option_map acked_in b) (option_map acked_in c) p.acked q.acked;
  struck = tells_both (option_map struck_in a) (option_map struck_in b) (option_map struck_in c) p.struck q.struck;
}

-- a pass that knows nothing new of its calls
pub still_known : (old new : Option (List BookEntry)) (x y : Tally) → IsQuiet (known_to old x) (known_to new y) → IsStill old new
still_known old new x y quiet = record { acked = quiet.acked; struck = quiet.struck }

-- no count fell that stands
pub none_fell : NoneFell no_counts no_counts
none_fell = record {
  stored = omega arith;
  listed = omega arith;
  wrong = omega arith;
  in_use = omega arith;
  no_profile = omega arith;
  part = omega arith;
  gone = omega arith;
  dropped = omega arith;
  failed = omega arith;
  down = omega arith;
  worn = omega arith;
  leaves = refl;
}
