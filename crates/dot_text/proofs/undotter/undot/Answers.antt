use Rattle.std.proofs.Common.{arith, ◌≡◌, ◌-◌, ◌<◌, ℕ, List, ◌++◌, length, take, drop, sym, ap, subst, ◌∙◌, get_or}
use Rattle.std.proofs.lemmas.List.{take_all, take_rest, length-drop}
use Rattle.dot_text.specs.Places.{UndotsAt, told}
use Rattle.dot_text.proofs.Undotting.{begins, out_more, loop_on, loop_ends}
use Rattle.dot_text.proofs.Runs.{Given, run_out, run_on, no_run}
use Rattle.dot_text.proofs.undotter.undot.Goals as goal

pub loop-at-preserved-then-run-gt0 : goal.loop-at-preserved-then-run-gt0
loop-at-preserved-then-run-gt0 c =
    let loop = c.loop-at in
    let piece = c.args.piece.now in
    let run = c.in_ok-run.run' in
    let Gives : List ℕ → Type 0 = Given loop.place loop.out.items c.give_run.new.out.items run in
    let gives : Given loop.place loop.out.items c.give_run.new.out.items run (drop loop.at piece) = subst Gives (take_rest piece loop.at) c.in_ok-run.ensures.ok in (
      omega (arith, gives.0, length-drop loop.at piece, loop.invariant.0),
      loop.invariant.1 ++ take run (drop loop.at piece),
      run_out loop.place piece loop.invariant.1 loop.out.items c.give_run.new.out.items loop.at run c.args.out.now.items loop.invariant.2 gives.2,
      λ fed given here. run_on loop.place piece loop.invariant.1 loop.out.items c.give_run.new.out.items loop.at run fed given gives.1 (loop.invariant.3 fed given here),
    )

pub returns-in-None-clause-ok : goal.returns-in-None-clause-ok
returns-in-None-clause-ok c =
    let loop = c.loop-at in
    let piece = c.args.piece.now in
    let tells : List ℕ = told loop.place (get_or piece loop.at 0) in
    let within : loop.at < length piece = c.loop-at-test.true in
    let same = no_run loop.place (take (length piece - loop.at) (drop loop.at piece)) loop.out.items c.give_run.new.out.items c.in_ok-run.run' c.if-run-gt0.false c.in_ok-run.ensures.ok.2 in
    let told_it : c.tell.new.out.items ≡ loop.out.items ++ tells = c.in_ok-tell.ensures.ok ∙ ap (λ (l : List ℕ). l ++ tells) same in
    let none = sym c.next_place.ensures ∙ c.in-None.is in (
      loop.invariant.1 ++ tells,
      out_more loop.place piece loop.invariant.1 loop.out.items tells loop.at within c.args.out.now.items c.tell.new.out.items loop.invariant.2 told_it,
      λ fed given here. (loop_ends loop.place piece loop.invariant.1 loop.out.items tells loop.at within fed given none (loop.invariant.3 fed given here), begins),
    )

pub loop-at-preserved : goal.loop-at-preserved
loop-at-preserved c =
    let loop = c.loop-at in
    let piece = c.args.piece.now in
    let tells : List ℕ = told loop.place (get_or piece loop.at 0) in
    let within : loop.at < length piece = c.loop-at-test.true in
    let same = no_run loop.place (take (length piece - loop.at) (drop loop.at piece)) loop.out.items c.give_run.new.out.items c.in_ok-run.run' c.if-run-gt0.false c.in_ok-run.ensures.ok.2 in
    let told_it : c.tell.new.out.items ≡ loop.out.items ++ tells = c.in_ok-tell.ensures.ok ∙ ap (λ (l : List ℕ). l ++ tells) same in
    let some = sym c.next_place.ensures ∙ c.in-Some.is in (
      omega (arith, within),
      loop.invariant.1 ++ tells,
      out_more loop.place piece loop.invariant.1 loop.out.items tells loop.at within c.args.out.now.items c.tell.new.out.items loop.invariant.2 told_it,
      λ fed given here. loop_on loop.place piece loop.invariant.1 loop.out.items tells loop.at within c.in-Some.next fed given some (loop.invariant.3 fed given here),
    )

pub returns-clause-ok : goal.returns-clause-ok
returns-clause-ok c =
    let loop = c.loop-at in
    let all = take_all loop.at c.args.piece.now c.loop-at-test.false in (
      loop.invariant.1,
      loop.invariant.2,
      λ fed given here. let Fed : List ℕ → Type 0 = λ l. UndotsAt loop.place (fed ++ l) (given ++ loop.invariant.1) in subst Fed all (loop.invariant.3 fed given here),
    )
