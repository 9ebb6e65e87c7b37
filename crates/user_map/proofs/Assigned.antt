-- The plain program assigns.
use Rattle.std.proofs.Common.{◌≡◌, ℕ, ◌+◌, ◌<◌, List, [], length, None, get_or, refl, sym, ap, Option, ◌∙◌, subst, arith}
use Rattle.mail_model.specs.Identity.{EpochId}
use Rattle.object_model.specs.Letters.{Claim, MapRow, Member}
use Rattle.maps_model.specs.Assign.{IsAssigned}
use Rattle.user_map.specs.Plain.{claimed_cells, claimed_loads, placed, assigned}
use Rattle.user_map.proofs.Best.{CellFor, cells_size, cells_fit}
use Rattle.user_map.proofs.Placing.{Halfway, IsPlaced, each_row, placed_size, claimed_is}

pub some_map : (claims : List Claim) (members : List Member) (buckets : ℕ) (epoch : EpochId) → 0 < length members → IsAssigned claims members buckets epoch (assigned claims members buckets epoch)
some_map claims members buckets epoch some =
    let cells = claimed_cells claims members buckets in
    let full = assigned claims members buckets epoch in
    let start : Halfway claims members epoch some full [] cells (claimed_loads cells) = record {
      is = refl;
      fit = λ i lt. let e : i ≡ 0 + i = omega arith in
          subst (λ (b : ℕ). CellFor claims members b (get_or cells i None)) e (cells_fit claims members buckets i (omega (arith, lt, cells_size claims members buckets)));
      counted = λ n. omega (arith, claimed_is cells n);
    } in
    record {
      size = placed_size epoch members cells (claimed_loads cells) ∙ cells_size claims members buckets;
      each = λ bucket row e. let at : 0 + bucket ≡ bucket = omega arith in
          subst (λ (b : ℕ). IsPlaced claims members epoch some full b row) at (each_row claims members epoch some full cells [] (claimed_loads cells) start bucket row e);
    }

pub map_assigned : (claims : List Claim) (members : List Member) (buckets : ℕ) (epoch : EpochId) (cells : List (Option MapRow)) (map : List MapRow) → 0 < length members
    → cells ≡ claimed_cells claims members buckets → map ≡ placed epoch members (claimed_loads cells) cells → IsAssigned claims members buckets epoch map
map_assigned claims members buckets epoch cells map some e f = subst (λ m. IsAssigned claims members buckets epoch m) (sym (f ∙ ap (λ c. placed epoch members (claimed_loads c) c) e)) (some_map claims members buckets epoch some)
