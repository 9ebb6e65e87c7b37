-- A run of steps of readers behind a settled epoch, among them a login that is answered.
use Rattle.std.proofs.Common.{◌≡◌, ◌≤◌, ℕ, Bool, List, [], ◌∷◌, ◌++◌, append_assoc, map, refl, sym, ◌∙◌, subst, All}
use Rattle.std.proofs.lemmas.List.Elements.{All-head, All-tail}
use Rattle.mail_model.specs.Plan.{Plan, Proof}
use Rattle.mail_model.specs.Record.{Record}
use Rattle.object_model.specs.Lists.{Among}
use Rattle.object_model.specs.Letters.{Number, Membership}
use Rattle.cluster_model.specs.Cluster.{set_of_members}
use Rattle.cluster_model.specs.Reads.{ListedCopy}
use Rattle.cluster_model.specs.Room.{Flight}
use Rattle.cluster_model.specs.World.{letters_of}
use Rattle.whole_world.specs.Makes.{MadeStep}
use Rattle.whole_world.specs.Settled.{IsSettled}
use Rattle.login_model.specs.Cluster as login
use Rattle.joint_model.proofs.Settled.{members_have}
use Rattle.joint_world.specs.World.{World, whole_world_of, mail_world_of}
use Rattle.joint_world.specs.Makes.{MakesStep, MakesAll}
use Rattle.joint_world.specs.Laws.{Stands}
use Rattle.joint_world.proofs.Standing.{makes_all_stand}
use Rattle.kept_parts.specs.Kept.{PartsHold}
use Rattle.standing_model.specs.Standing.{HasExactly, AreStanding}
use Rattle.settled_logins.specs.Reading.{disks_of, IsReaderStep, login_begun, listing_told, IsListed}
use Rattle.settled_logins.specs.Settled.{ReadersStand, BeganSettled}
use Rattle.settled_logins.proofs.Beginning.{begins_settled, stays_settled}
use Rattle.settled_logins.proofs.Listed.{began_lists}
use Rattle.settled_logins.proofs.Parts.{parts_stay}
use Rattle.settled_logins.proofs.Readers.{steps_stand}

-- where no letter is in flight readers may begin
pub clear_stands : (w : World) (g : Membership) → w.flying ≡ [] → IsSettled (whole_world_of w) g → ReadersStand w g
clear_stands w g clear settled = record { settled = settled; letters = λ letter m. absurd (subst (λ (f : List Flight). Among letter (letters_of f)) clear m) }

module _ (plan : Plan) (tells : Bool) where
  -- what each step keeps holds behind the first steps of a run, and the others are left
  record Ran (S : World → Type 0) (back : List MadeStep) (new : World) : Type 0 where
    mid : World
    state : S mid
    makes : MakesAll plan tells mid back new
    readers : All IsReaderStep back

  run : (S : World → Type 0) → ((a b : World) (made : MadeStep) → MakesStep plan tells a made.step made.outcome b → IsReaderStep made → S a → S b) → (front back : List MadeStep) (old new : World)
      → MakesAll plan tells old (front ++ back) new → All IsReaderStep (front ++ back) → S old → Ran S back new
  run S one [] back old new makes readers s = record { mid = old; state = s; makes = makes; readers = readers }
  run S one (made ∷ front) back old new (mid, first, others) readers s = run S one front back mid new others (All-tail IsReaderStep made (front ++ back) readers)
      (one old mid made first (All-head IsReaderStep made (front ++ back) readers) s)

  module _ (few : plan.nodes ≤ 64) (start : World) (g : Membership) where
    -- what stands all the time
    record Stage (w : World) : Type 0 where
      story : List (List login.Slot)
      stands : Stands plan tells story w
      parts : PartsHold plan (mail_world_of w)
      readers : ReadersStand w g
      disks : disks_of w ≡ disks_of start

    stage_on : (a b : World) (made : MadeStep) → MakesStep plan tells a made.step made.outcome b → IsReaderStep made → Stage a → Stage b
    stage_on a b made makes reader s =
        let now = makes_all_stand plan tells a s.story s.stands made.step made.outcome b makes in
        let still = steps_stand plan tells s.story a b made s.stands g s.readers makes reader in
        record {
          story = now.0;
          stands = now.1;
          parts = parts_stay plan tells s.story a b (made ∷ []) few (b, makes, refl) s.stands s.parts;
          readers = still.0;
          disks = still.1.disks ∙ s.disks;
        }

    module _ (nodes : List ℕ) (exactly : HasExactly (set_of_members g.members) nodes) (user : List ℕ) (items : List ListedCopy) where
      -- a login has begun
      record Began (number : Number) (w : World) : Type 0 where
        stage : Stage w
        began : BeganSettled tells w g number user

      began_on : (number : Number) (a b : World) (made : MadeStep) → MakesStep plan tells a made.step made.outcome b → IsReaderStep made → Began number a → Began number b
      began_on number a b made makes reader s = record {
        stage = stage_on a b made makes reader s.stage;
        began = stays_settled plan tells s.stage.story a b made s.stage.stands g s.stage.readers makes reader number user s.began;
      }

      -- the steps behind the answer
      run_all : (steps : List MadeStep) (a b : World) → MakesAll plan tells a steps b → All IsReaderStep steps → Stage a → Stage b
      run_all [] a b is readers s = subst Stage (sym is) s
      run_all (made ∷ steps) a b (mid, first, others) readers s = run_all steps mid b others (All-tail IsReaderStep made steps readers) (stage_on a mid made first (All-head IsReaderStep made steps readers) s)

      abbrev Shown : World → Type 0
      Shown w = AreStanding (disks_of w) nodes user (map (λ (item : ListedCopy). item.id) items)

      from_ask : (number login_ : Number) (manager asked : ℕ) (last : List MadeStep) (new : World) → Ran (Began number) (listing_told number login_ manager asked items ∷ last) new → Shown new
      from_ask number login_ manager asked last new r =
          let ask = listing_told number login_ manager asked items in
          let s = r.state in
          let after = stage_on r.mid r.makes.0 ask r.makes.1 (All-head IsReaderStep ask last r.readers) s.stage in
          let done = run_all last r.makes.0 new r.makes.2 (All-tail IsReaderStep ask last r.readers) after in
          subst (λ (d : List (List Record)). AreStanding d nodes user (map (λ (item : ListedCopy). item.id) items)) (s.stage.disks ∙ sym done.disks)
          (began_lists plan tells s.stage.story r.mid r.makes.0 s.stage.stands few s.stage.parts g s.stage.readers number user s.began login_ manager asked items r.makes.1 nodes exactly)

      -- the login begins
      from_begin : (n : ℕ) (proof : Proof) (number : Number) (back : List MadeStep) (new : World) → Among n nodes → Ran Stage (login_begun n user proof number ∷ back) new
          → (mid : World) × Began number mid × MakesAll plan tells mid back new × All IsReaderStep back
      from_begin n proof number back new member r =
          let begin = login_begun n user proof number in (
            r.makes.0,
            record {
              stage = stage_on r.mid r.makes.0 begin r.makes.1 (All-head IsReaderStep begin back r.readers) r.state;
              began = begins_settled plan tells r.state.story r.mid r.makes.0 r.state.stands g r.state.readers n (members_have g.members n ((exactly n).1 member)) user proof number r.makes.1;
            },
            r.makes.2,
            All-tail IsReaderStep begin back r.readers,
          )

      from_stage : (steps : List MadeStep) (new : World) → Stage start → MakesAll plan tells start steps new → All IsReaderStep steps → IsListed nodes user items steps → Shown new
      from_stage steps new first makes readers l =
          let back : List MadeStep = listing_told l.number l.login l.manager l.asked items ∷ l.last in
          let middle : List MadeStep = login_begun l.n user l.proof l.number ∷ (l.between ++ back) in
          let split : steps ≡ l.first ++ middle = l.split ∙ append_assoc l.first (login_begun l.n user l.proof l.number ∷ l.between) back in
          let begun = from_begin l.n l.proof l.number (l.between ++ back) new l.member
          (run Stage stage_on l.first middle start new (subst (λ (x : List MadeStep). MakesAll plan tells start x new) split makes) (subst (All IsReaderStep) split readers) first) in
          from_ask l.number l.login l.manager l.asked l.last new (run (Began l.number) (began_on l.number) l.between back begun.0 new begun.2 begun.3 begun.1)

pub login_is_shown : (plan : Plan) (tells : Bool) (story : List (List login.Slot)) (old new : World) (steps : List MadeStep) → Stands plan tells story old → plan.nodes ≤ 64 → PartsHold plan (mail_world_of old)
    → old.flying ≡ [] → (g : Membership) → IsSettled (whole_world_of old) g → MakesAll plan tells old steps new → All IsReaderStep steps
    → (nodes : List ℕ) → HasExactly (set_of_members g.members) nodes → (user : List ℕ) (items : List ListedCopy) → IsListed nodes user items steps
    → AreStanding (disks_of new) nodes user (map (λ (item : ListedCopy). item.id) items)
login_is_shown plan tells story old new steps stands few parts clear g settled makes readers nodes exactly user items l =
    from_stage plan tells few old g nodes exactly user items steps new (record { story = story; stands = stands; parts = parts; readers = clear_stands old g clear settled; disks = refl }) makes readers l
