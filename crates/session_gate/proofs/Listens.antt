-- A connection that is served on.
use Rattle.std.proofs.Common.{inl, inr, ◌≡◌, ◌+◌, ◌++◌, ℕ, List, [], Option, refl, sym, ap, subst, length, length-append, arith}
use Rattle.std.specs.Prelude.{◌⊎◌}
use Rattle.std.proofs.lemmas.List.{append-nil}
use Rattle.std.specs.Io.KnownBytes.{Appends, Consumes, IsAtEnd}
use Rattle.io_edge.proofs.Known.{appends_more, consumes_none, consumes_more}
use Rattle.session_model.specs.Talk.{Standing, IsOn}
use Rattle.session_model.specs.Talk.Standing.{Hearing, Waiting, EndedByQuit, EndedDown, EndedClosed}
use Rattle.session_model.specs.Sessions.{Session}
use Rattle.session_model.specs.Acts.Deed.{IsFed}
use Rattle.session_model.specs.Spoken.{Speaks}
use Rattle.session_model.proofs.Did.{did_speaks}
use Rattle.call_tickets.specs.Moves.{Due, Fed, HasEnded, HearsNothing}
use Rattle.call_tickets.specs.Moves.Due.{Nothing}
use Rattle.call_tickets.specs.Passes.{PassKnows}
use Rattle.session_gate.specs.Connections.{Connection, HasCome, Anyhow, GoesOn, Rests, Talks, IsUp, IsServed, ClosesSo, EndsAs, HeardTo, most_octets}
use Rattle.session_gate.specs.declared.stop.Close.{Close}
use Rattle.session_gate.specs.declared.stop.Close.TheVariants as closes
use Rattle.session_gate.specs.declared.stop.Served.{Served}
use Rattle.session_gate.specs.declared.stop.Served.TheVariants as served
use Rattle.session_gate.proofs.Moves.{at_same, rests_up}

-- The octets that were taken were fed, and all that was said to them was written.
pub record Listens (line : Connection) (speaks : Session → Type 0) (left0 left1 held0 held1 : Option (List ℕ)) (now : PassKnows) (room : ℕ) : Type 0 where
  pub fed : List ℕ
  pub takes : Consumes left0 left1 fed
  pub wrote : List ℕ
  pub appends : Appends held0 held1 wrote
  pub come : HasCome line speaks fed wrote [] now
  pub room_is : length fed + room ≡ most_octets

pub listens_first : (line : Connection) (speaks : Session → Type 0) (left held0 held1 : Option (List ℕ)) (now : PassKnows) (room : ℕ) → room ≡ most_octets → GoesOn line speaks [] [] held0 held1 [] now
    → Listens line speaks left left held0 held1 now room
listens_first line speaks left held0 held1 now room is went = record { fed = []; takes = consumes_none left; wrote = went.more; appends = went.appends; come = went.come; room_is = omega (arith, is) }

-- it was left off as it was heard
pub closes_heard : (close : Close) (line : Connection) (follows : Session → Due → Type 0) (left0 left1 held0 held1 held2 : Option (List ℕ)) (fed wrote : List ℕ) (now : PassKnows) → Consumes left0 left1 fed
    → Appends held0 held1 wrote → HeardTo close line follows fed wrote held1 held2 now → ClosesSo close line follows left0 left1 held0 held2 now
closes_heard close line follows left0 left1 held0 held1 held2 fed wrote now takes wrote_is h = by_close close h
  where
    taken : Consumes left0 left1 (fed ++ [])
    taken = subst (Consumes left0 left1) (sym (append-nil fed)) takes

    by_close : (c : Close) → HeardTo c line follows fed wrote held1 held2 now → ClosesSo c line follows left0 left1 held0 held2 now
    by_close closes.Fell h = (
      served.Ended,
      refl,
      record {
        fed = fed;
        unfed = [];
        takes = taken;
        wrote = wrote ++ h.off.more;
        missing = h.off.missing;
        appends = appends_more held0 held1 held2 wrote h.off.more wrote_is h.off.appends;
        come = h.off.come;
        ends = (refl, h.ends, inl (subst HasEnded (sym h.off.come.at.follows.1) tt));
      },
    )
    by_close closes.FellUnwritten h = (
      served.WriteFault,
      refl,
      record {
        fed = fed;
        unfed = [];
        takes = taken;
        wrote = wrote ++ h.off.more;
        missing = h.off.missing;
        appends = appends_more held0 held1 held2 wrote h.off.more wrote_is h.off.appends;
        come = h.off.come;
        ends = refl;
      },
    )
    by_close closes.Ended h = absurd h.ends
    by_close closes.ReadFault h = absurd h.ends
    by_close closes.WriteFault h = (
      served.WriteFault,
      refl,
      record {
        fed = fed;
        unfed = [];
        takes = taken;
        wrote = wrote ++ h.off.more;
        missing = h.off.missing;
        appends = appends_more held0 held1 held2 wrote h.off.more wrote_is h.off.appends;
        come = h.off.come;
        ends = refl;
      },
    )
    by_close closes.TooLong h = absurd h.ends
    by_close closes.NoMemory h = (
      served.NoMemory,
      refl,
      record {
        fed = fed;
        unfed = [];
        takes = taken;
        wrote = wrote ++ h.off.more;
        missing = h.off.missing;
        appends = appends_more held0 held1 held2 wrote h.off.more wrote_is h.off.appends;
        come = h.off.come;
        ends = tt;
      },
    )

-- one that has not ended hears nothing more in what it was fed
on_hears : (standing : Standing) (rest : List ℕ) → HasEnded standing ⊎ HearsNothing standing rest → IsOn standing → HearsNothing standing rest
on_hears (Hearing state) rest (inl is) on = absurd is
on_hears (Waiting state call) rest (inl is) on = absurd is
on_hears EndedByQuit rest (inl is) on = absurd on
on_hears EndedDown rest (inl is) on = absurd on
on_hears EndedClosed rest (inl is) on = absurd on
on_hears standing rest (inr hears) on = hears

module _ (follows : Session → Due → Type 0) (line : Connection) (left0 left1 held0 held1 : Option (List ℕ)) (now : PassKnows) (room : ℕ)
    (so : Listens line (Rests follows) left0 left1 held0 held1 now room) where
  -- and went no further
  whole : (next : Session → Type 0) (left2 : Option (List ℕ)) (unfed : List ℕ) (result : Served) → next so.come.at.plain → Consumes left1 left2 unfed → EndsAs result so.come.at.plain so.fed unfed [] left2
      → IsServed line next result left0 left2 held0 held1 now
  whole next left2 unfed result follows_so takes ends = record {
    fed = so.fed;
    unfed = unfed;
    takes = consumes_more left0 left1 left2 so.fed unfed so.takes takes;
    wrote = so.wrote;
    missing = [];
    appends = so.appends;
    come = record { at = at_same line (Rests follows) next so.fed (so.wrote ++ []) (so.wrote ++ []) now so.come.at follows_so refl; in_time = so.come.in_time };
    ends = ends;
  }

  up : IsUp follows so.come.at.plain
  up = rests_up follows so.come.at.plain so.come.at.follows

  -- the session ended
  pub ended_serves : HasEnded so.come.at.plain.standing → ClosesSo closes.Ended line follows left0 left1 held0 held1 now
  ended_serves is = (served.Ended, refl, whole (IsUp follows) left1 [] served.Ended up (consumes_none left1) (refl, refl, inl is))

  -- the source was read to its end
  pub read_serves : (left2 : Option (List ℕ)) → Consumes left1 left2 [] → IsAtEnd left2 → IsOn so.come.at.plain.standing → ClosesSo closes.Ended line follows left0 left2 held0 held1 now
  read_serves left2 takes end on = (
    served.Ended,
    refl,
    whole (IsUp follows) left2 [] served.Ended up takes
        (refl, refl, inr (end, on_hears so.come.at.plain.standing so.come.at.plain.rest so.come.at.follows.1 on)),
  )

  -- it could not be read
  pub fault_serves : (left2 : Option (List ℕ)) → Consumes left1 left2 [] → ClosesSo closes.ReadFault line follows left0 left2 held0 held1 now
  fault_serves left2 takes = (served.ReadFault, refl, whole (IsUp follows) left2 [] served.ReadFault up takes (refl, refl))

  -- as much was taken as may be
  pub long_serves : room ≡ 0 → ClosesSo closes.TooLong line follows left0 left1 held0 held1 now
  long_serves none = (served.TooLong, refl, whole (IsUp follows) left1 [] served.TooLong up (consumes_none left1) (refl, refl, (let e = so.room_is in omega (arith, none, e))))

  -- there was no memory for what was taken
  pub unfed_serves : (left2 : Option (List ℕ)) (next : Session → Due → Type 0) (piece : List ℕ) → Consumes left1 left2 piece → ClosesSo closes.NoMemory line next left0 left2 held0 held1 now
  unfed_serves left2 next piece takes = (served.NoMemory, refl, whole Anyhow left2 piece served.NoMemory tt takes tt)

  module _ (next : Session → Due → Type 0) (left2 : Option (List ℕ)) (piece : List ℕ) (takes : Consumes left1 left2 piece) (on : IsOn so.come.at.plain.standing)
      (is_fed : Fed next so.come.at.plain Nothing piece) where
    pub feeds : (out : List ℕ) → out ≡ [] → HasCome line (Talks next) (so.fed ++ piece) so.wrote out now
    feeds out none =
        let at = so.come.at in
        let after : Session = record at.plain { octets = at.plain.octets ++ piece; rest = at.plain.rest ++ piece } in
        let speaks : Speaks line.plan at.lines at.plain = record { talk = at.talk; none = at.others; lines = at.are } in
        let fed : Speaks line.plan (at.lines ++ []) after = did_speaks line.plan at.lines [] at.plain after (IsFed piece) speaks (on, refl, refl) in
        subst (λ (l : List ℕ). HasCome line (Talks next) (so.fed ++ piece) so.wrote l now) (sym none) (record {
          at = record {
            plain = after;
            follows = (is_fed, at.follows.0.1);
            protocol = at.protocol;
            node = at.node;
            fed_is = ap (λ (l : List ℕ). l ++ piece) at.fed_is;
            others = at.others;
            talk = fed.talk;
            lines = at.lines;
            are = at.are;
            says = at.says;
            deals = at.deals;
            down = at.down;
          };
          in_time = so.come.in_time;
        })

    all_takes : Consumes left0 left2 (so.fed ++ piece)
    all_takes = consumes_more left0 left1 left2 so.fed piece so.takes takes

    -- it was fed, and went on
    pub listens_more : (held2 : Option (List ℕ)) (new : PassKnows) (then_follows : Session → Due → Type 0) (left_room : ℕ) → length piece + left_room ≡ room
        → GoesOn line (Rests then_follows) (so.fed ++ piece) so.wrote held1 held2 [] new → Listens line (Rests then_follows) left0 left2 held0 held2 new left_room
    listens_more held2 new then_follows left_room is went = record {
      fed = so.fed ++ piece;
      takes = all_takes;
      wrote = so.wrote ++ went.more;
      appends = appends_more held0 held1 held2 so.wrote went.more so.appends went.appends;
      come = went.come;
      room_is = let e = so.room_is in let l = length-append so.fed piece in omega (arith, is, e, l);
    }

    -- or was left off
    pub cut_more : (held2 : Option (List ℕ)) (new : PassKnows) (then_follows : Session → Due → Type 0) (close : Close) → HeardTo close line then_follows (so.fed ++ piece) so.wrote held1 held2 new
        → ClosesSo close line then_follows left0 left2 held0 held2 new
    cut_more held2 new then_follows close h = closes_heard close line then_follows left0 left2 held0 held1 held2 (so.fed ++ piece) so.wrote new all_takes so.appends h
