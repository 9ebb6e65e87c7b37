-- Who manages a user by a map.
use Rattle.std.specs.Prelude.{ℕ, Bool, List, Option, length, slice_get}
use Rattle.object_model.specs.Letters.{MapRow}
use Rattle.mail_base.specs.Buckets.{bucket_at}
use Rattle.maps_model.specs.Cluster.{manager_in, is_that_node}

-- the node that manages the user's bucket
abbrev pub manager_by : List MapRow → List ℕ → Option ℕ
manager_by map user = manager_in (slice_get map (bucket_at user (length map)))

-- whether it is this node
abbrev pub is_managed_by : List MapRow → ℕ → List ℕ → Bool
is_managed_by map node user = is_that_node (manager_by map user) node
