use Rattle.std.proofs.Common.{◌+◌, ◌<◌, true, length, Option, Some, refl, sym, ap, ◌∙◌}
use Rattle.std.specs.Prelude.{slice_set}
use Rattle.std.specs.Vec.{with_item}
use Rattle.std.proofs.lemmas.Option.{slice_get_read}
use Rattle.std.proofs.lemmas.Result.{err_from_is_err_and}
use Rattle.drive_tape.specs.declared.cluster.Cluster.{Cluster}
use Rattle.drive_tape.specs.declared.open_call.OpenCall.{OpenCall}
use Rattle.drive_tape.proofs.FedCloses.{had_none, given_up, kept_up, asked_for, stands_for}
use Rattle.drive_tape.proofs.lines.let_go.Goals as goal

pub returns-in_default-clause-let_go : goal.returns-in_default-clause-let_go
returns-in_default-clause-let_go g c start p plain shows here on =
    let inside : c.args.place < length c.args.cluster.now.sessions.calls.items = rw c.requires.even.calls c.requires.within in
    let was = slice_get_read _ _ _ _ refl inside c.index_mut.ensures.value ∙ ap Some (sym c.take.ensures.value ∙ c.in_default.is) in
    had_none _ start _ p c.args.place plain c.args.cluster.now _ shows here on refl refl refl inside (ap (λ (t : Option OpenCall). slice_set c.args.cluster.now.sessions.calls.items c.args.place t) c.take.ensures.after) refl was

pub returns-in_err-give_up-clause-let_go : goal.returns-in_err-give_up-clause-let_go
returns-in_err-give_up-clause-let_go g c start p plain shows here on =
    let e = err_from_is_err_and c.from_residual.result c.from_residual.ensures.1 in
    let inside : c.args.place < length c.args.cluster.now.sessions.calls.items = rw c.requires.even.calls c.requires.within in
    let was = slice_get_read _ _ _ _ refl inside c.index_mut.ensures.value ∙ ap Some (sym c.take.ensures.value ∙ c.in-Some.is) in
    let kept = ap (λ (t : Option OpenCall). slice_set c.args.cluster.now.sessions.calls.items c.args.place t) c.take.ensures.after in
    let new : Cluster g.row.D.Denot = record {
      world = c.give_up.new.world;
      sessions = record {
        talkers = c.args.cluster.now.sessions.talkers;
        nodes = c.args.cluster.now.sessions.nodes;
        calls = with_item c.args.cluster.now.sessions.calls c.args.place c.take.new.self;
        standing = c.args.cluster.now.sessions.standing;
        over = c.args.cluster.now.sessions.over;
      };
    } in
    rw (e.1, e.2) (kept_up _ start _ p c.args.place plain c.args.cluster.now new shows here on refl refl refl inside kept c.in-Some.open_call was c.in_err-give_up.field-0.0
    (c.in_err-give_up.ensures.gave_up start p.outcomes p.awaited (c.args.place + 1) (asked_for _ start _ p c.args.place plain c.args.cluster.now new shows here on refl refl refl inside kept c.in-Some.open_call was) (stands_for _ start _ p c.args.place plain c.args.cluster.now new shows here on refl refl refl inside kept c.in-Some.open_call was) shows.at))

pub returns-clause-let_go : goal.returns-clause-let_go
returns-clause-let_go g c start p plain shows here on =
    let inside : c.args.place < length c.args.cluster.now.sessions.calls.items = rw c.requires.even.calls c.requires.within in
    let was = slice_get_read _ _ _ _ refl inside c.index_mut.ensures.value ∙ ap Some (sym c.take.ensures.value ∙ c.in-Some.is) in
    let kept = ap (λ (t : Option OpenCall). slice_set c.args.cluster.now.sessions.calls.items c.args.place t) c.take.ensures.after in
    let new : Cluster g.row.D.Denot = record {
      world = c.give_up.new.world;
      sessions = record {
        talkers = c.args.cluster.now.sessions.talkers;
        nodes = c.args.cluster.now.sessions.nodes;
        calls = with_item c.args.cluster.now.sessions.calls c.args.place c.take.new.self;
        standing = c.args.cluster.now.sessions.standing;
        over = c.args.cluster.now.sessions.over;
      };
    } in
    given_up _ start _ p c.args.place plain c.args.cluster.now new shows here on refl refl refl inside kept c.in-Some.open_call was true
    (c.in_ok-give_up.ensures.gave_up start p.outcomes p.awaited (c.args.place + 1) (asked_for _ start _ p c.args.place plain c.args.cluster.now new shows here on refl refl refl inside kept c.in-Some.open_call was) (stands_for _ start _ p c.args.place plain c.args.cluster.now new shows here on refl refl refl inside kept c.in-Some.open_call was) shows.at)
