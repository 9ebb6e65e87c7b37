-- Work that goes on, and work that stops.
use Rattle.std.proofs.Common.{◌≡◌, ◌++◌, ◌∷◌, ℕ, List, [], Option, refl, sym, ap, ◌∙◌, subst, inl, inr, ⊎_elim, append_assoc}
use Rattle.std.specs.Io.KnownBytes.{Appends}
use Rattle.std.proofs.lemmas.List.{append-nil}
use Rattle.std.proofs.lemmas.Grind.{flat_map-append}
use Rattle.io_edge.proofs.Known.{appends_more, appends_none}
use Rattle.mail_model.specs.Plan.{Plan}
use Rattle.mail_model.specs.Transcript.{Entry, written_of, all_of}
use Rattle.session_model.specs.Sessions.{Session}
use Rattle.session_model.specs.Acts.{Act}
use Rattle.session_model.specs.Turns as turns
use Rattle.session_model.specs.Turns.{Turn}
use Rattle.session_model.specs.Run.{Stop, MayHaveAsked}
use Rattle.session_model.specs.Run.Stop.{SinkFailed, OutOfMemory, BehindLine, Denied}
use Rattle.cluster_world.specs.Outcomes.{Outcome}
use Rattle.drive_tape.specs.Parts.{IsCutEntry}
use Rattle.drive_tape.specs.Led.{AreLed, AreLedTo}
use Rattle.drive_tape.specs.Points.{Point, Work, Cut, OneAct, IsMissingTail, MayLack}
use Rattle.drive_tape.proofs.Replies.{written_more}
use Rattle.drive_tape.proofs.Led.{led_one, led_more, to_whole, to_none, to_more}
use Rattle.drive_tape.proofs.OwnNodes.{goes_stay, at_nodes_more}

pub all_more : (xs ys : List (List Entry)) → all_of (xs ++ ys) ≡ all_of xs ++ all_of ys
all_more xs ys = flat_map-append (λ es. es) xs ys

-- the acts of both, one after the other
pub goes_more : (plan : Plan) (t1 : Turn) (s1 : List Session) (acts : List Act) (outputs : List (List Entry)) (t2 : Turn) (s2 : List Session) (others : List Act) (more : List (List Entry)) (t3 : Turn) (s3 : List Session)
    → turns.ActsGo plan t1 s1 acts outputs t2 s2 → turns.ActsGo plan t2 s2 others more t3 s3 → turns.ActsGo plan t1 s1 (acts ++ others) (outputs ++ more) t3 s3
goes_more plan t1 s1 [] [] t2 s2 others more t3 s3 one two =
    subst (λ (t : Turn). turns.ActsGo plan t s1 others more t3 s3) one.0 (subst (λ (s : List Session). turns.ActsGo plan t2 s others more t3 s3) one.1 two)
goes_more plan t1 s1 [] (o ∷ os) t2 s2 others more t3 s3 one two = absurd one
goes_more plan t1 s1 (a ∷ rest) [] t2 s2 others more t3 s3 one two = absurd one
goes_more plan t1 s1 (a ∷ rest) (o ∷ os) t2 s2 others more t3 s3 one two = (one.0, one.1, one.2, one.3, goes_more plan one.0 one.1 rest os t2 s2 others more t3 s3 one.4 two)

-- nothing was done
pub work_none : (plan : Plan) (p : Point) → Work plan p p
work_none plan p = record {
  acts = [];
  outputs = [];
  outcomes = [];
  goes = (refl, refl);
  linked = refl;
  at_nodes = tt;
  came = sym (append-nil p.outcomes);
  been = sym (append-nil p.been);
  gave = appends_none p.held;
}

-- the one work, and then the other
pub work_more : (plan : Plan) (p q r : Point) → Work plan p q → Work plan q r → Work plan p r
work_more plan p q r one two = record {
  acts = one.acts ++ two.acts;
  outputs = one.outputs ++ two.outputs;
  outcomes = one.outcomes ++ two.outcomes;
  goes = goes_more plan _ _ one.acts one.outputs _ _ two.acts two.outputs _ _ one.goes two.goes;
  linked = led_more plan p.been p.outcomes one.acts one.outcomes two.acts two.outcomes one.linked
      (subst (λ (os : List Outcome). AreLed plan (p.been ++ one.acts) os two.acts two.outcomes) one.came (subst (λ (d : List Act). AreLed plan d q.outcomes two.acts two.outcomes) one.been two.linked));
  at_nodes = at_nodes_more q.sessions r.sessions (goes_stay plan _ _ q.sessions r.sessions two.acts two.outputs two.goes) one.outcomes two.outcomes one.at_nodes two.at_nodes;
  came = two.came ∙ ap (λ l. l ++ two.outcomes) one.came ∙ append_assoc p.outcomes one.outcomes two.outcomes;
  been = two.been ∙ ap (λ l. l ++ two.acts) one.been ∙ append_assoc p.been one.acts two.acts;
  gave = subst (Appends p.held r.held) (sym (ap written_of (all_more one.outputs two.outputs) ∙ written_more (all_of one.outputs) (all_of two.outputs))) (appends_more _ _ _ _ _ one.gave two.gave);
}

pub tail_behind : (outputs more : List (List Entry)) (missing : List Entry) → IsMissingTail more missing → IsMissingTail (outputs ++ more) missing
tail_behind outputs more missing tail = ⊎_elim inl
    (λ (some : (before : List (List Entry)) × (front : List Entry) × (more ≡ before ++ (front ++ missing) ∷ [])).
    inr (outputs ++ some.0, some.1, ap (λ l. outputs ++ l) some.2 ∙ sym (append_assoc outputs some.0 ((some.1 ++ missing) ∷ []))))
    tail

-- the work went on, and then it stopped
unfoldable pub work_cut : (plan : Plan) (stop : Stop) (p q : Point) (held : Option (List ℕ)) (outcomes : List Outcome) → Work plan p q → Cut plan stop q held outcomes → Cut plan stop p held outcomes
work_cut plan stop p q held outcomes one two = record {
  acts = one.acts ++ two.acts;
  outputs = one.outputs ++ two.outputs;
  turn = two.turn;
  sessions = two.sessions;
  goes = goes_more plan _ _ one.acts one.outputs _ _ two.acts two.outputs _ _ one.goes two.goes;
  new = one.outcomes ++ two.new;
  lacking = two.lacking;
  extra = two.extra;
  linked = to_more stop plan p.been p.outcomes one.acts one.outcomes two.acts two.new two.lacking two.extra one.linked
      (subst (λ (os : List Outcome). AreLedTo stop plan (p.been ++ one.acts) os two.acts two.new two.lacking two.extra) one.came
      (subst (λ (d : List Act). AreLedTo stop plan d q.outcomes two.acts two.new two.lacking two.extra) one.been two.linked));
  at_nodes = at_nodes_more q.sessions two.sessions (goes_stay plan _ _ q.sessions two.sessions two.acts two.outputs two.goes) one.outcomes two.new one.at_nodes two.at_nodes;
  came = two.came ∙ ap (λ l. l ++ two.new) one.came ∙ append_assoc p.outcomes one.outcomes two.new;
  asked = two.asked;
  front = all_of one.outputs ++ two.front;
  missing = two.missing;
  parts = all_more one.outputs two.outputs ∙ ap (λ l. all_of one.outputs ++ l) two.parts ∙ sym (append_assoc (all_of one.outputs) two.front two.missing);
  tail = tail_behind one.outputs two.outputs two.missing two.tail;
  may = two.may;
  cut = two.cut;
  is_cut = two.is_cut;
  gave = subst (Appends p.held held) (sym (append_assoc (written_of (all_of one.outputs)) (written_of two.front) two.cut) ∙ ap (λ l. l ++ two.cut) (sym (written_more (all_of one.outputs) two.front)))
      (appends_more _ _ _ _ _ one.gave two.gave);
}

-- memory ran out before anything was done
unfoldable pub cut_none : (plan : Plan) (p : Point) → Cut plan OutOfMemory p p.held p.outcomes
cut_none plan p = record {
  acts = [];
  outputs = [];
  turn = p.turn;
  sessions = p.sessions;
  goes = (refl, refl);
  new = [];
  lacking = [];
  extra = [];
  linked = to_none OutOfMemory plan p.been p.outcomes;
  at_nodes = tt;
  came = sym (append-nil p.outcomes);
  asked = inl refl;
  front = [];
  missing = [];
  parts = refl;
  tail = inl refl;
  may = inl refl;
  cut = [];
  is_cut = inl refl;
  gave = appends_none p.held;
}

-- all of it is written
pub work_act : (plan : Plan) (p q : Point) (act : Act) (entries : List Entry) (outcomes : List Outcome) → OneAct plan p act entries outcomes q.turn q.sessions
    → q.outcomes ≡ p.outcomes ++ outcomes → q.been ≡ p.been ++ act ∷ [] → Appends p.held q.held (written_of entries) → Work plan p q
work_act plan p q act entries outcomes one came been gave = record {
  acts = act ∷ [];
  outputs = entries ∷ [];
  outcomes = outcomes;
  goes = (q.turn, q.sessions, one.next, one.acted, (refl, refl));
  linked = led_one plan p.been p.outcomes act outcomes one.linked;
  at_nodes = one.at_nodes;
  came = came;
  been = been;
  gave = subst (λ es. Appends p.held q.held (written_of es)) (sym (append-nil entries)) gave;
}

-- a prefix of it is written
unfoldable pub cut_act : (plan : Plan) (p : Point) (act : Act) (entries : List Entry) (outcomes : List Outcome) (turn : Turn) (sessions : List Session) (stop : Stop) (held : Option (List ℕ))
    (front missing : List Entry) (cut : List ℕ) → OneAct plan p act entries outcomes turn sessions → entries ≡ front ++ missing → MayLack stop missing [] → IsCutEntry missing cut
    → Appends p.held held (written_of front ++ cut) → Cut plan stop p held (p.outcomes ++ outcomes)
cut_act plan p act entries outcomes turn sessions stop held front missing cut one parts may is_cut gave = record {
  acts = act ∷ [];
  outputs = entries ∷ [];
  turn = turn;
  sessions = sessions;
  goes = (turn, sessions, one.next, one.acted, (refl, refl));
  new = outcomes;
  lacking = [];
  extra = [];
  linked = to_whole stop plan p.been p.outcomes (act ∷ []) outcomes (led_one plan p.been p.outcomes act outcomes one.linked);
  at_nodes = one.at_nodes;
  came = refl;
  asked = nothing_more stop turn sessions;
  front = front;
  missing = missing;
  parts = append-nil entries ∙ parts;
  tail = inr ([], front, ap (λ es. es ∷ []) parts);
  may = may;
  cut = cut;
  is_cut = is_cut;
  gave = gave;
}
  where
    nothing_more : (s : Stop) (t : Turn) (ss : List Session) → MayHaveAsked s t ss []
    nothing_more OutOfMemory t ss = inl refl
    nothing_more SinkFailed t ss = refl
    nothing_more BehindLine t ss = refl
    nothing_more Denied t ss = refl
