-- What nodes told of messages, message by message, and how what was told of one message is joined.
use Rattle.std.specs.Prelude.{ℕ, nat_le, ◌&&◌, Bool, List, [], ◌∷◌, ◌++◌, map, if◌then◌else◌, bit_or}
use Rattle.std.specs.Ordering.{is_lt, eq_by_cmp}
use Rattle.std.specs.List.Sorted.{IsSortedBy}
use Rattle.object_model.specs.Keys.{id_cmp}
use Rattle.object_model.specs.Sets.{with_node}
use Rattle.object_model.specs.Letters.{ToldItem}
use Rattle.mail_base.specs.declared.item.Item.{Item}
use Rattle.cluster_model.specs.Reads.{ListedCopy, copy_cmp}
use Rattle.login_model.specs.Readings.{ToldList}
use Rattle.login_model.specs.Listing.{LoginItem, as_copy, is_later}

-- a message of the listing, as the machine sees it
abbrev pub login_item : Item → LoginItem
login_item item = record { id = item.id; stamp = item.stamp; targets = item.targets; holders = item.holders; size = item.length }

abbrev pub copy_seen : Item → ListedCopy
copy_seen item = as_copy (login_item item)

-- a message as one node told it, which is its only holder so far
abbrev pub told_by : ℕ → ToldItem → Item
told_by node item = record { id = item.id; stamp = item.stamp; targets = item.targets; holders = with_node 0 node; length = item.size }

-- a list is that of a node
abbrev pub is_of_node : ToldList → Bool
is_of_node list = nat_le 1 list.node && nat_le list.node 16

-- all that was told, list by list
abbrev pub all_told : List ToldList → List Item
all_told [] = []
all_told (list ∷ lists) = map (told_by list.node) list.items ++ all_told lists

-- of two that were told of one message, the one with the later stamp
abbrev pub later : Item → Item → Item
later one other = if is_later other.stamp one.stamp then other else one

-- both as one: the later stamp with its size, and the targets and holders of both
abbrev pub joined : Item → Item → Item
joined one other = record {
  id = one.id;
  stamp = (later one other).stamp;
  targets = bit_or one.targets other.targets;
  holders = bit_or one.holders other.holders;
  length = (later one other).length;
}

-- neighbours of one id are joined, where the first comes before the others
abbrev pub runs : Item → List Item → List Item
runs current [] = current ∷ []
runs current (item ∷ items) = if eq_by_cmp id_cmp current.id item.id then runs (joined current item) items else current ∷ runs item items

abbrev pub runs_of : List Item → List Item
runs_of [] = []
runs_of (item ∷ items) = runs item items

-- in rising order of ids, and of stamps
abbrev pub has_lower_id : Item → Item → Bool
has_lower_id one other = is_lt (id_cmp one.id other.id)

abbrev pub AreByIds : List Item → Type 0
AreByIds items = IsSortedBy has_lower_id items

abbrev pub comes_first : Item → Item → Bool
comes_first one other = is_lt (copy_cmp (copy_seen one) (copy_seen other))

abbrev pub AreByStamps : List Item → Type 0
AreByStamps items = IsSortedBy comes_first items
