-- What is promised of each task holds where memory ran out before anything was done.
use Rattle.std.proofs.Common.{inl, inr, ℕ, List, [], ◌∷◌, ◌<◌, length, drop, Option, refl, arith}
use Rattle.io_edge.proofs.Known.{appends_none}
use Rattle.node_store.specs.Disks.{View}
use Rattle.storm_maker.specs.Tape.{storm_tape}
use Rattle.word_works.specs.declared.found.Found.TheVariants.{NoMemory}
use Rattle.io_edge.specs.declared.yard.Protocol.{Protocol}
use Rattle.serve_word.specs.declared.plan_parts.PlanFault.TheVariants as unread
use Rattle.serve_word.specs.declared.ending.ServeEnd.TheVariants as serve
use Rattle.serve_word.specs.Serving.{Outside, Serves, outside}
use Rattle.porcupine_server.specs.Tasks.{Counts, IsUntouched, Driven, Stormed, Checked, Served}
use Rattle.porcupine_server.proofs.NoMemory.{unchanged_stores, unchanged_ends, follows_nothing, kept_nothing_done}

pub driven_nothing : {D : Type 0} (on : View D) (is_settled : D → Type 0) (handed returned : Option (List (ℕ × ℕ × D))) (left held : Option (List ℕ)) (counts : Counts)
    → Driven on is_settled (unchanged_stores handed returned) (unchanged_ends left held) counts 7
driven_nothing on is_settled handed returned left held counts = record {
  promises = kept_nothing_done on is_settled handed returned left held;
  transcript_follows = follows_nothing on is_settled handed returned left held;
  not_words = λ e. omega (arith, e);
  not_plan = λ e. omega (arith, e);
  read_fault = λ e. absurd (omega (arith, e));
  write_fault = λ e. absurd (omega (arith, e));
  store_fault = λ e. absurd (omega (arith, e));
  complete = λ tape told good read write store. inr refl;
}

untouched : {D : Type 0} (handed returned : Option (List (ℕ × ℕ × D))) (left held : Option (List ℕ)) → IsUntouched (unchanged_stores handed returned) (unchanged_ends left held)
untouched handed returned left held = record { left = refl; handed = refl; returned = refl }

not_empty : (x : ℕ) (xs : List ℕ) → 0 < length (x ∷ xs)
not_empty x xs = omega arith

-- a tape has a plan at least
some_tape : (number size : ℕ) → 0 < length (storm_tape number size)
some_tape number size = not_empty 110 (drop 1 (storm_tape number size))

pub stormed_nothing : {D : Type 0} (handed returned : Option (List (ℕ × ℕ × D))) (left held : Option (List ℕ)) (counts : Counts) (number size : ℕ)
    → Stormed (unchanged_stores handed returned) (unchanged_ends left held) counts 7 number size
stormed_nothing handed returned left held counts number size = record {
  storm = inr (inr refl, ([], storm_tape number size, some_tape number size, refl, appends_none held));
  write_fault = λ e. absurd (omega (arith, e));
  complete = λ write. inr refl;
  untouched = untouched handed returned left held;
}

pub checked_nothing : {D : Type 0} (handed returned : Option (List (ℕ × ℕ × D))) (left held : Option (List ℕ)) (counts : Counts) (told : Option (List ℕ))
    → Checked (unchanged_stores handed returned) (unchanged_ends left held) counts 7 told
checked_nothing handed returned left held counts told = record {
  checks = record { found = NoMemory; finds = inr (inl refl); tells = inr (inr (refl, refl)) };
  some_status = inr (inr (inr (inr refl)));
  plan_fault = λ e. absurd (omega (arith, e));
  read_fault = λ e. absurd (omega (arith, e));
  write_fault = λ e. absurd (omega (arith, e));
  complete = λ octets told keeps read write. inr refl;
  untouched = untouched handed returned left held;
}

-- the same before and after
abbrev pub unchanged_outside : {D G : Type 0} → Option (List (ℕ × ℕ × D)) → Option (List (ℕ × ℕ × D)) → Option (List (ℕ × Protocol × G)) → Option (List (ℕ × Protocol × G)) → Option (List ℕ) → Option (List ℕ) → Outside D G
unchanged_outside handed returned opened closed left held = outside handed handed returned returned opened opened closed closed left left held held

nothing_served : {D G X : Type 0} (on : View D) (is_settled : D → Type 0) (ways : G → Option (List X)) (quiets faults : G → ℕ) (handed returned : Option (List (ℕ × ℕ × D))) (opened closed : Option (List (ℕ × Protocol × G)))
    (left held told : Option (List ℕ)) → Serves on is_settled ways quiets faults told (unchanged_outside handed returned opened closed left held) 7
nothing_served on is_settled ways quiets faults handed returned opened closed left held told = record {
  ending = serve.NoMemory;
  middle = held;
  works = inl (record {
    fault = unread.NoMemory;
    unread = tt;
    is = refl;
    silent = record { opened = refl; closed = refl; left = refl; held = refl };
    untaken = refl;
    ungiven = refl;
  });
  last = inl (refl, appends_none held);
}

pub served_nothing : {D G X : Type 0} (on : View D) (is_settled : D → Type 0) (ways : G → Option (List X)) (quiets faults : G → ℕ) (handed returned : Option (List (ℕ × ℕ × D))) (opened closed : Option (List (ℕ × Protocol × G)))
    (left held : Option (List ℕ)) (counts : Counts) (told : Option (List ℕ)) → Served on is_settled ways quiets faults (unchanged_outside handed returned opened closed left held) counts 7 told
served_nothing on is_settled ways quiets faults handed returned opened closed left held counts told = record {
  served = nothing_served on is_settled ways quiets faults handed returned opened closed left held told;
  some_status = inr (inr (inr (inr (inr (inr (inl refl))))));
  stopped = λ e. absurd (omega (arith, e));
  plan_fault = λ e. absurd (omega (arith, e));
  early = λ e. absurd (omega (arith, e));
  read_fault = λ e. absurd (omega (arith, e));
  write_fault = λ e. absurd (omega (arith, e));
  store_fault = λ e. absurd (omega (arith, e));
  door_fault = λ e. absurd (omega (arith, e));
  complete = λ octets console told keeps input stop unseen read write store doors. inr refl;
}
