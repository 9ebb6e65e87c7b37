-- The machine puts letters in flight as the code does: first those that find room, and then the mishaps of the others.
use Rattle.std.proofs.Common.{◌≡◌, ◌+◌, Bool, true, false, List, [], ◌∷◌, ◌++◌, refl, sym, ap, ◌∙◌, if◌then◌else◌}
use Rattle.object_model.specs.Letters.{Letter}
use Rattle.object_model.specs.Mishaps.{MishapKind}
use Rattle.object_model.specs.Mishaps.MishapKind.{Crowded}
use Rattle.cluster_model.specs.Cluster as plain
use Rattle.cluster_model.specs.Room.{has_room}
use Rattle.cluster_model.specs.World.{World, missed, put}
use Rattle.cluster_world.specs.Flights.{PutDown, with_flight, put_all, put_down}
use Rattle.cluster_world.specs.Missing.{all_missed}

pub missed_more : (kind : MishapKind) (slots : List plain.Slot) (letters : List Letter) (letter : Letter) → all_missed kind slots (letters ++ letter ∷ []) ≡ missed kind (all_missed kind slots letters) letter
missed_more kind slots [] letter = refl
missed_more kind slots (one ∷ letters) letter = missed_more kind (missed kind slots one) letters letter

-- the world with what was put, and the mishaps of what was left
abbrev pub with_put : List plain.Slot → World → PutDown → World
with_put slots w p = record w { slots = all_missed Crowded slots p.left; flying = p.flying.flights; sent = p.flying.sent }

abbrev from_world : World → List Letter → PutDown
from_world w left = record { flying = record { flights = w.flying; sent = w.sent }; left = left }

pub put_from : (slots : List plain.Slot) (letters left : List Letter) (w : World)
    → put has_room letters (record w { slots = all_missed Crowded slots left }) ≡ with_put slots w (put_all letters (from_world w left))
put_from slots [] left w = refl
put_from slots (letter ∷ letters) left w =
    by (has_room w.flying letter)
    (put_from slots letters left (record w { flying = (with_flight (record { flights = w.flying; sent = w.sent }) letter).flights; sent = w.sent + 1 }))
    (put_from slots letters (left ++ letter ∷ []) w)
  where
    by : (b : Bool)
        → put has_room letters (record w { slots = all_missed Crowded slots left; flying = w.flying ++ record { number = w.sent + 1; letter = letter } ∷ []; sent = w.sent + 1 })
        ≡ with_put slots w (put_all letters (record { flying = with_flight (record { flights = w.flying; sent = w.sent }) letter; left = left }))
        → put has_room letters (record w { slots = all_missed Crowded slots (left ++ letter ∷ []) }) ≡ with_put slots w (put_all letters (from_world w (left ++ letter ∷ [])))
        → (if b then put has_room letters (record w { slots = all_missed Crowded slots left; flying = w.flying ++ record { number = w.sent + 1; letter = letter } ∷ []; sent = w.sent + 1 })
        else put has_room letters (record w { slots = missed Crowded (all_missed Crowded slots left) letter }))
        ≡ with_put slots w (put_all letters (if b
        then record { flying = with_flight (record { flights = w.flying; sent = w.sent }) letter; left = left }
        else record { flying = record { flights = w.flying; sent = w.sent }; left = left ++ letter ∷ [] }))
    by true room none = room
    by false room none = ap (λ s. put has_room letters (record w { slots = s })) (sym (missed_more Crowded slots left letter)) ∙ none

-- so a world in which letters are put in flight has those, and the mishaps of the others
pub put_is : (letters : List Letter) (w : World) → put has_room letters w ≡ with_put w.slots w (put_down letters (record { flights = w.flying; sent = w.sent }))
put_is letters w = put_from w.slots letters [] w
