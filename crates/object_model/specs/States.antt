-- How states of one object are ordered and joined.
use Rattle.std.specs.Prelude.{ℕ, Bool, true, false, not, ◌&&◌, nat_eq, List, [], ◌∷◌, Option, Some, None, if◌then◌else◌, bit_or}
use Rattle.std.specs.Ordering.{nat_cmp, on, then_cmp, is_lt}
use Rattle.std.specs.Cmp.Lexicographic.{slice_cmp, pointwise}
use Rattle.std.specs.declared.cmp.Ordering.{Ordering}
use Rattle.mail_model.specs.Identity.{Stamp, Value, State}
use Rattle.mail_model.specs.Identity.Value.{Here, Gone, Secret}
use Rattle.mail_model.specs.Record.{rank_of}

-- the octets of a secret
abbrev pub secret_in : Value → List ℕ
secret_in Here = []
secret_in Gone = []
secret_in (Secret octets) = octets

-- States by their value, and within one kind of value by stamp and secret: Gone is above Here whatever the stamps. Targets count for nothing here.
abbrev pub state_cmp : State → State → Ordering
state_cmp = then_cmp (on (λ s. rank_of s.value) nat_cmp) (then_cmp (on (λ s. s.stamp.count) nat_cmp) (then_cmp (on (λ s. s.stamp.boot) nat_cmp)
    (then_cmp (on (λ s. s.stamp.node) nat_cmp) (on (λ s. secret_in s.value) (slice_cmp nat_cmp)))))

abbrev pub is_below : State → State → Bool
is_below a b = is_lt (state_cmp a b)

-- the later of both
abbrev pub later : State → State → State
later a b = if is_below a b then b else a

-- the join of two states: the later of both, with the targets of both
abbrev pub joined : State → State → State
joined a b = record { value = (later a b).value; stamp = (later a b).stamp; targets = bit_or a.targets b.targets }

-- with what was held before, if anything was
abbrev pub join_with : Option State → State → State
join_with None state = state
join_with (Some held) state = joined held state

abbrev pub is_same_value : Value → Value → Bool
is_same_value Here Here = true
is_same_value Gone Gone = true
is_same_value (Secret a) (Secret b) = pointwise nat_eq a b
is_same_value Here Gone = false
is_same_value Here (Secret b) = false
is_same_value Gone Here = false
is_same_value Gone (Secret b) = false
is_same_value (Secret a) Here = false
is_same_value (Secret a) Gone = false

abbrev pub is_same_stamp : Stamp → Stamp → Bool
is_same_stamp a b = nat_eq a.count b.count && nat_eq a.boot b.boot && nat_eq a.node b.node

abbrev pub is_same_state : State → State → Bool
is_same_state a b = is_same_value a.value b.value && is_same_stamp a.stamp b.stamp && nat_eq a.targets b.targets

-- whether the state adds anything to what is held
abbrev pub is_news : Option State → State → Bool
is_news None state = true
is_news (Some held) state = not (is_same_state (joined held state) held)

-- the join of these, one after another
abbrev pub join_after : Option State → List State → Option State
join_after held [] = held
join_after held (state ∷ states) = join_after (Some (join_with held state)) states

-- and of these alone; nothing where there are none
abbrev pub join_all : List State → Option State
join_all states = join_after None states
