-- The update log of a node: which other nodes have not yet acknowledged a state.
use Rattle.std.specs.Prelude.{ℕ, Bool, false, ◌&&◌, List, map, take, Option, Some, None, if◌then◌else◌}
use Rattle.std.specs.List.{filter, list_any}
use Rattle.std.specs.FinMap as fin
use Rattle.mail_model.specs.Identity.{Key, State}
use Rattle.object_model.specs.Sets.{has, without_node}
use Rattle.object_model.specs.Keys.{key_cmp}
use Rattle.object_model.specs.States.{is_same_state}

-- an entry: a state, and the targets that have not acknowledged it
pub record Logged : Type 0 where
  pub state : State
  pub remaining : ℕ

abbrev pub Log : Type 0
Log = fin.FinMap key_cmp Logged

-- the entry that a state begins with: all its targets but the own node remain
abbrev pub new_entry : ℕ → State → Logged
new_entry own state = record { state = state; remaining = without_node state.targets own }

-- A state is noted. An entry that stood for the key is replaced.
abbrev pub noted : ℕ → Key → State → Log → Log
noted own key state log = fin.insert log key (new_entry own state)

-- whether the entry is of that very state
abbrev pub is_of : State → Option Logged → Bool
is_of state None = false
is_of state (Some entry) = is_same_state entry.state state

-- whether it is, and the node remains in it
abbrev pub owes_state : State → ℕ → Option Logged → Bool
owes_state state by None = false
owes_state state by (Some entry) = is_same_state entry.state state && has entry.remaining by

-- the entry once the node has acknowledged it
abbrev pub cleared : ℕ → Logged → Logged
cleared by entry = record { state = entry.state; remaining = without_node entry.remaining by }

abbrev pub cleared_at : Key → State → ℕ → Option Logged → Log → Log
cleared_at key state by None log = log
cleared_at key state by (Some entry) log = if is_same_state entry.state state && has entry.remaining by then fin.insert log key (cleared by entry) else log

-- A node acknowledged a state: it is taken out of an entry of that very state, and of no other.
abbrev pub acknowledged : Key → State → ℕ → Log → Log
acknowledged key state by log = cleared_at key state by (fin.get log key) log

-- A state is retired: an entry of that very state is taken out.
abbrev pub retired : Key → State → Log → Log
retired key state log = if is_of state (fin.get log key) then fin.remove log key else log

-- whether some entry has the node remaining
abbrev pub owes : Log → ℕ → Bool
owes log to = list_any (λ entry. has entry.1.remaining to) (fin.entries log)

-- the keys of the entries that have the node remaining, in order of keys
abbrev pub all_due : Log → ℕ → List Key
all_due log to = map (λ entry. entry.0) (filter (λ entry. has entry.1.remaining to) (fin.entries log))

-- the first of them, as many as are wanted
abbrev pub due : Log → ℕ → ℕ → List Key
due log to most = take most (all_due log to)
