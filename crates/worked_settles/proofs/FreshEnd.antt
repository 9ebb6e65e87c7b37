-- The freshly ended tape, with any listing: its run, its sessions and its end.
use Rattle.std.proofs.Common.{inl, List, [], ◌∷◌, ◌++◌, flat_map, refl, sym, subst, codes}
use Rattle.mail_model.specs.PopReplies.{Item}
use Rattle.mail_model.specs.Transcript.{Entry}
use Rattle.session_model.specs.Runs.{Shows}
use Rattle.fresh_sessions.specs.Acts.ShowsMembers.{AtOpening}
use Rattle.fresh_sessions.specs.Tapes.{IsSettledBehind, EndsFresh}
use Rattle.worked_settles.specs.FreshTape.{IsFreshRun, worked_plan, three_members, told_lines, told_acts, teller, reader_acts, fresh_lines, fresh_acts, fresh_entries, fresh_sessions}
use Rattle.worked_settles.proofs.FreshRun.{told_outputs, told_run}
use Rattle.worked_settles.proofs.ReaderRun.{reader_outputs, fresh_handled, fresh_wrote, fresh_run}
use Rattle.worked_settles.proofs.Shown.{shows, all_answered}
use Rattle.worked_settles.proofs.Formed.{none_formed}

module _ (items : List Item) where
  shown : Shows worked_plan fresh_lines (fresh_entries items) (flat_map (λ a. a) (fresh_acts items)) (fresh_sessions items)
  shown = subst (λ (e : List Entry). Shows worked_plan fresh_lines e (flat_map (λ a. a) (fresh_acts items)) (fresh_sessions items)) (sym (fresh_wrote items))
      (shows worked_plan fresh_lines (fresh_acts items) (told_outputs ++ reader_outputs items) (fresh_sessions items) (fresh_handled items))

  pub settled : IsSettledBehind worked_plan told_lines (fresh_acts items) three_members (reader_acts items)
  settled = record {
    front = told_acts;
    split = refl;
    outputs = told_outputs;
    sessions = teller ∷ [];
    handled = told_run;
    none_open = refl;
    faultless = refl;
    shown = AtOpening refl (none_formed (flat_map (λ a. a) told_acts) refl);
  }

  abbrev pub ends : EndsFresh fresh_lines 2 1 (codes "USER alice") (codes "PASS tanstaaf") (codes "UIDL")
  ends = record {
    before = told_lines;
    settles = codes "settle";
    opens = codes "open pop 1";
    names = codes "say 2 USER alice";
    proves = codes "say 2 PASS tanstaaf";
    flows = codes "flow";
    asks = codes "say 2 UIDL";
    are = refl;
    settle = refl;
    opening = refl;
    name = refl;
    prove = refl;
    flow = refl;
    ask = refl;
    number = refl;
  }

  pub is_fresh_run : IsFreshRun items
  is_fresh_run = record {
    run = fresh_run items;
    sessions = shown.are;
    answered = all_answered worked_plan fresh_lines (fresh_acts items) (told_outputs ++ reader_outputs items) (fresh_sessions items) (fresh_handled items);
    logged = shown.logged;
    ended = record {
      node = 1;
      member = inl refl;
      naming = codes "USER alice";
      proving = codes "PASS tanstaaf";
      asking = codes "UIDL";
      ends = ends;
      since = reader_acts items;
      settled = settled;
      named = _;
      proved = _;
      are = refl;
      units = (refl, refl, refl);
      secret = codes "tanstaaf";
      commands = (refl, refl, refl);
      short = refl;
      entered = refl;
    };
  }
