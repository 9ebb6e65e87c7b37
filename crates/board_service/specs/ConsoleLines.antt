-- What the lines of the console order.
use Rattle.std.specs.Prelude.{◌&&◌, ℕ, Bool, true, List, Option, Some, None, nat_le, nat_eq, length, codes, option_and_then, if◌then◌else◌}
use Rattle.std.specs.Option.{option_map}
use Rattle.mail_model.specs.Lines.{without_cr}
use Rattle.mail_model.specs.Numbers.{number_of}
use Rattle.mail_model.specs.Plan.{Plan, is_user}
use Rattle.mail_model.specs.Tape.{strip, or_else, name_of_word}
use Rattle.shard_board.specs.declared.order.Order.{Order}
use Rattle.shard_board.specs.declared.order.Order.TheVariants as board
use Rattle.board_service.specs.declared.orders.ConsoleOrder.{ConsoleOrder}
use Rattle.board_service.specs.declared.orders.ConsoleOrder.TheVariants.{Crash, Start, Lose, Group, Settle, Maps, Sum}

-- a word and one number
abbrev pub numbered : (ℕ → ConsoleOrder) → List ℕ → Option ConsoleOrder
numbered order rest = option_map order (number_of rest)

-- `settle` and `sum`, and nothing after it
abbrev pub bare : ConsoleOrder → List ℕ → Option ConsoleOrder
bare order rest = if nat_eq (length rest) 0 then Some order else None

-- `maps NAME`
abbrev pub maps_line : List ℕ → Option ConsoleOrder
maps_line rest = option_map Maps (name_of_word rest)

-- the order that the line spells
abbrev pub order_in : List ℕ → Option ConsoleOrder
order_in line =
    or_else (option_and_then (numbered Crash) (strip (codes "crash ") line))
    (or_else (option_and_then (numbered Start) (strip (codes "start ") line))
    (or_else (option_and_then (numbered Lose) (strip (codes "lose ") line))
    (or_else (option_and_then (numbered Group) (strip (codes "group ") line))
    (or_else (option_and_then (bare Settle) (strip (codes "settle") line))
    (or_else (option_and_then (bare Sum) (strip (codes "sum") line))
    (option_and_then maps_line (strip (codes "maps ") line)))))))

-- a user whose map is asked for is one of the plan
abbrev pub is_known : Plan → ConsoleOrder → Bool
is_known plan (Maps user) = is_user plan user
is_known plan order = true

abbrev pub known_in : Plan → Option ConsoleOrder → Option ConsoleOrder
known_in plan None = None
known_in plan (Some order) = if is_known plan order then Some order else None

-- what the line orders, where it is known; a CR at its end is dropped
abbrev pub order_heard : Plan → List ℕ → Option ConsoleOrder
order_heard plan raw = known_in plan (order_in (without_cr raw))

-- the node of this number; no plan has others
abbrev pub node_of : ℕ → Option ℕ
node_of number = if nat_le 1 number && nat_le number 16 then Some number else None

-- what a board is to do
abbrev pub board_order : ConsoleOrder → Option Order
board_order (Crash number) = option_map board.Crash (node_of number)
board_order (Start number) = option_map board.Start (node_of number)
board_order (Lose number) = option_map board.Lose (node_of number)
board_order (Group number) = option_map board.Regroup (node_of number)
board_order Settle = Some board.Settle
board_order (Maps user) = Some (board.Maps user)
board_order Sum = Some board.Sum
