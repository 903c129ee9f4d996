-- A command that makes a cache, where caches that are kept make room.
use Rattle.std.proofs.Common.{◌≡◌, inl, inr, Option, ℕ, ◌+◌, ◌<◌, ◌≤◌, Bool, true, false, cond, List, [], ◌∷◌, length, take, Some, None, refl, sym, ap, subst, ◌∙◌, arith}
use Rattle.std.specs.Prelude.{◌==◌, ◌^◌, Ok, Err, nat_lt, option_map}
use Rattle.std.specs.List.{AllByRecursion, position_from}
use Rattle.std.proofs.lemmas.Bool.Decides.{nat_tests}
use Rattle.std.proofs.lemmas.List.{length-drop}
use Rattle.vm_ids.specs.declared.command.Command.TheVariants as vm_commands
use Rattle.vm_ids.specs.declared.refusal.Refusal.TheVariants as refusals
use Rattle.vm_ids.specs.declared.reply.Reply.TheVariants as replies
use Rattle.vm_ids.specs.declared.reply.Trouble.TheVariants as troubles
use Rattle.interface_callers.proofs.Words.{Answer, CacheId, Command, GhostsOfGmi, GhostsOfMapper, Machine, MapperCall, MapperCounts, OutcomeAt, PageForest, RaisesMade, Refusal, SegId, Segments, Trouble, answer_of, forest_shown, live_pages, meanings_of, no_counts, open_of, segments_of}
use Rattle.seg_manager.specs.Inner.{first_of}
use Rattle.seg_manager.specs.ReferenceMachine.{ReferenceMachine}
use Rattle.seg_manager.specs.Seen.{kept_segments, references_seen}
use Rattle.seg_manager.specs.Calling.{HasNoRoomWithout}
use Rattle.seg_manager.specs.Thinning.{IsRoomMade, IsTried, MakesRoom, Thins, Tries, Trying, credit, seen_with}
use Rattle.seg_manager.specs.Tying.{AreTied, CanCall}
use Rattle.seg_manager.specs.declared.manager.SegManager.{SegManager}
use Rattle.seg_manager.specs.declared.tables.Named.{Named}
use Rattle.seg_manager.proofs.Opens.FirstSeen.{unnamed}
use Rattle.seg_manager.proofs.Calling.CallAgain.{able_after, backed_before, call_is, denied_after, forest, made_after, seen_after, told_after}
use Rattle.seg_manager.proofs.Calling.Pushed.{Follow, Told}
use Rattle.seg_manager.proofs.Seeing.WithoutSome.{without_none}
use Rattle.seg_manager.proofs.Calling.Pushing.{pushes_call}
use Rattle.seg_manager.proofs.Calling.Staying.{refused_again}
use Rattle.seg_manager.proofs.Opens.FirstBefore.{stored_held}
use Rattle.seg_manager.proofs.Opens.Outcome.{Ends, failed, lacks, made, many, nowhere, open_ends}
use Rattle.seg_manager.proofs.Room.Thinned.{retold, thins_then}

-- Where the machine stays

module _ {Manager X Chooser : Type 0} (M : GhostsOfMapper X) (G : GhostsOfGmi Manager X Chooser) (manager : SegManager Manager) (gmi : Manager) (before after : X) (c : Command) (a : Answer)
    (can : CanCall G manager (M.held before) (M.page_bytes before)) (call : MapperCall M (meanings_of G) before manager.gmi c a after gmi) where
  abbrev m : Machine
  m = G.machine manager.gmi (M.held before)

  abbrev n : Machine
  n = G.machine gmi (M.held after)

  module _ (same : n ≡ m) where
    pub can_same : CanCall G (record manager { gmi = gmi }) (M.held after) (M.page_bytes after)
    can_same = able_after M G manager gmi before after c a can call manager
        (omega (arith, ap (λ (x : Machine). length x.caches) same, can.few))
        (subst (λ (x : Machine). AreTied x (segments_of (M.held after)) manager.caches.items manager.kept.items manager.kept.room manager.regions.items) (sym same)
        (retold m (segments_of (M.held before)) (segments_of (M.held after)) manager.caches.items manager.kept.items manager.kept.room manager.regions.items can.tied (backed_before M G manager gmi before after c a can call)))

    pub seen_same : seen_with M G (record manager { gmi = gmi }) after ≡ seen_with M G manager before
    seen_same = ap (λ (x : Machine). references_seen x (segments_of (M.held after)) manager.caches.items) same ∙ seen_after M G manager gmi before after c a can call manager.caches.items

    abbrev pub thins_refused : (r : Refusal) → a ≡ Err (troubles.Refused r) → Thins M G before manager after (record manager { gmi = gmi })
    thins_refused r e =
        let made_same : G.made gmi ≡ G.made manager.gmi = subst (λ (b : Answer). RaisesMade m c b n (G.made manager.gmi) (G.made gmi)) e call.made in
        record {
          can = can_same;
          seen = seen_same;
          denied = denied_after M G manager gmi before after c a can call;
          limit = refl;
          regions = refl;
          gone = 0;
          gone_few = omega arith;
          kept = refl;
          machine = same ∙ sym (without_none m);
          among = λ test h. h;
          few = omega arith;
          spare = omega arith;
          fits = refl;
          credit = omega (arith, made_same, ap live_pages same);
          rises = (call_is M G manager gmi before after c a can call).rises;
          rose = (call_is M G manager gmi before after c a can call).rose;
          pushed = pushes_call M G manager gmi before after c a can call;
        }

-- A machine refuses a command so by what is beside its caches: whatever forest is told, and where
-- the segments are told, by what was held at first.
pub record IsSameRow (c : Command) (m : Machine) (first was : Option Segments) : Type 0 where
  pub forests : (x : Machine) (f g : PageForest) (h : Segments) → answer_of x f c h ≡ answer_of x g c h
  pub held : (f : PageForest) (h s u : Segments) → first ≡ Some h → was ≡ Some s → Follow m s u → answer_of m f c h ≡ answer_of m f c u

pub temp_row : {m : Machine} {first was : Option Segments} (pages : ℕ) → IsSameRow (vm_commands.MakeTemp pages) m first was
temp_row pages = record { forests = λ x f g h. refl; held = λ f h s u e d follow. refl }

told_first : (m : Machine) (c : Command) (g : Option PageForest) (first was now : Option Segments) → IsSameRow c m first was → Told m was now → option_map (λ (h : Segments). h.denied) was ≡ option_map (λ (h : Segments). h.denied) first
    → OutcomeAt now m g c (Err (troubles.Refused refusals.TooMany)) m no_counts → OutcomeAt first m g c (Err (troubles.Refused refusals.TooMany)) m no_counts
told_first m c g None None now row told e o = subst (λ (x : Option Segments). OutcomeAt x m g c (Err (troubles.Refused refusals.TooMany)) m no_counts) (told.none refl) o
told_first m c g None (Some s) now row told e o = absurd (cc e)
told_first m c g (Some h) None now row told e o = absurd (cc e)
told_first m c g (Some h) (Some s) now row told e o =
    let u = told.some s refl in
    row.held (forest_shown g m) h s u.0 refl refl u.2 ∙ subst (λ (x : Option Segments). OutcomeAt x m g c (Err (troubles.Refused refusals.TooMany)) m no_counts) u.1 o

-- The loop

-- what is noted isn't of the segment
pub none_noted : (s k : ℕ) (cs : List Named) → None ≡ position_from (first_of s) k cs → AllByRecursion (λ (c : Named). first_of s c ≡ false) cs
none_noted s k [] e = tt
none_noted s k (c ∷ cs) e = by (c.seg.0 == s) refl e (none_noted s (k + 1) cs)
  where
    by : (b : Bool) → (c.seg.0 == s) ≡ b → None ≡ cond b (Some k) (position_from (first_of s) (k + 1) cs) → (None ≡ position_from (first_of s) (k + 1) cs → AllByRecursion (λ (c : Named). first_of s c ≡ false) cs) → AllByRecursion (λ (c : Named). first_of s c ≡ false) (c ∷ cs)
    by true t e rest = absurd (cc e)
    by false t e rest = (t, rest e)

pub noted_none : (s k : ℕ) (cs : List Named) → AllByRecursion (λ (c : Named). first_of s c ≡ false) cs → None ≡ position_from (first_of s) k cs
noted_none s k [] h = refl
noted_none s k (c ∷ cs) h = noted_none s (k + 1) cs h.1 ∙ sym (ap (λ (b : Bool). cond b (Some k) (position_from (first_of s) (k + 1) cs)) h.0)

module _ {Manager X Chooser : Type 0} (M : GhostsOfMapper X) (G : GhostsOfGmi Manager X Chooser) (before : X) (old : SegManager Manager) where
  -- A command that leaves the machine where it isn't carried out.
  abbrev pub Leaves : Command → Manager → X → Type 0
  Leaves c gmi mapper = (t : Trouble) (after : X) (then_gmi : Manager) → MapperCall M (meanings_of G) mapper gmi c (Err t) after then_gmi → G.machine then_gmi (M.held after) ≡ G.machine gmi (M.held mapper)

  module _ (c : Command) (middle : X) (by : SegManager Manager) (trying : Trying M G c before old middle by) (leaves : Leaves c by.gmi middle) (row : IsSameRow c (G.machine by.gmi (M.held middle)) (segments_of (M.held before)) (segments_of (M.held middle))) where
    abbrev thins : Thins M G before old middle by
    thins = trying.thins

    pub tries_ok : (cache : CacheId) (after : X) (gmi : Manager) → MapperCall M (meanings_of G) middle by.gmi c (Ok (replies.Cache cache)) after gmi → IsTried M G c before old (Ok cache) after (record by { gmi = gmi })
    tries_ok cache after gmi call = record { middle = middle; by = by; trying = trying; call = call; same = refl }

    module _ (trouble : Trouble) (after : X) (gmi : Manager) (call : MapperCall M (meanings_of G) middle by.gmi c (Err trouble) after gmi) where
      abbrev tried : SegManager Manager
      tried = record by { gmi = gmi }

      stays : G.machine gmi (M.held after) ≡ G.machine by.gmi (M.held middle)
      stays = leaves trouble after gmi call

      pub can_tried : CanCall G tried (M.held after) (M.page_bytes after)
      can_tried = can_same M G by gmi middle after c (Err trouble) thins.can call stays

      pub made_tried : credit M G old before ≤ 2 ^ 61 + 2 ^ 32 → G.made gmi ≤ 2 ^ 62
      made_tried h = omega (arith, h, thins.credit, made_after M G by gmi middle after c (Err trouble) thins.can call)

      tries : Tries M G c before old (Err trouble) after tried
      tries = record { middle = middle; by = by; trying = trying; call = call; same = refl }

      -- It had no room as it was at first, but for those that had gone.
      had_none : trouble ≡ troubles.Refused refusals.TooMany → HasNoRoomWithout G old.gmi (M.held before) c (take thins.gone (kept_segments old.kept.items))
      had_none e =
          let it = call_is M G by gmi middle after c (Err trouble) thins.can call in
          let m = G.machine by.gmi (M.held middle) in
          let g = G.forest old.gmi (M.held before) in
          let again = refused_again (segments_of (M.held after)) m (G.machine gmi (M.held after)) (forest M G by gmi middle after c (Err trouble) thins.can call) g c row.forests trouble it.rises stays it.is.outcome e in
          let asked = subst (λ (x : Machine). OutcomeAt (segments_of (M.held after)) x g c (Err (troubles.Refused refusals.TooMany)) x no_counts) stays again in
          let told = told_first m c g (segments_of (M.held before)) (segments_of (M.held middle)) (segments_of (M.held after)) row (told_after M G by gmi middle after c (Err trouble) thins.can call) thins.denied asked in
          subst (λ (x : Machine). OutcomeAt (segments_of (M.held before)) x g c (Err (troubles.Refused refusals.TooMany)) x no_counts) thins.machine told

      -- one more went for that
      tries_cause : (k : ℕ) → k ≡ 1 → trouble ≡ troubles.Refused refusals.TooMany → (i : ℕ) → i < thins.gone + 0 + k → HasNoRoomWithout G old.gmi (M.held before) c (take i (kept_segments old.kept.items))
      tries_cause k one e i less = of (nat_lt i thins.gone) refl
        where
          of : (b : Bool) → nat_lt i thins.gone ≡ b → HasNoRoomWithout G old.gmi (M.held before) c (take i (kept_segments old.kept.items))
          of true b = trying.cause i (let below : i < thins.gone = grind (arith, nat_tests) in below)
          of false b =
              let above : thins.gone ≤ i = grind (arith, nat_tests) in
              subst (λ (n : ℕ). HasNoRoomWithout G old.gmi (M.held before) c (take n (kept_segments old.kept.items))) (let is : thins.gone ≡ i = omega (arith, above, less, one) in is) (had_none e)

      pub tries_more : (later : X) (new : SegManager Manager) → MakesRoom M G trouble after tried later new → Trying M G c before old later new
      tries_more later new r = record {
        thins =
            thins_then M G before old after tried later new
            (thins_then M G before old middle by after tried thins (thins_refused M G by gmi middle after c (Err trouble) thins.can call stays refusals.TooMany (ap (λ (t : Trouble). Err t) r.wanted)))
            r.thins;
        cause = tries_cause r.thins.gone (omega (arith, r.thins.gone_few, r.less, ap length r.thins.kept, length-drop r.thins.gone by.kept.items, ap length r.one, length-drop 1 by.kept.items)) r.wanted;
      }

      pub tries_err : (answer : Trouble) (later : X) (new : SegManager Manager) → IsRoomMade M G trouble after tried (Err answer) later new → IsTried M G c before old (Err answer) later new
      tries_err answer later new (inl r) = inl (
        subst (λ (x : X). Tries M G c before old (Err answer) x new) (sym r.mapper)
            (subst (λ (x : SegManager Manager). Tries M G c before old (Err answer) after x) (sym r.same)
            (subst (λ (t : Trouble). Tries M G c before old (Err t) after tried) (sym r.is) tries)),
        (λ e. ap (λ (x : SegManager Manager). x.kept.items) r.same ∙ r.none (sym r.is ∙ e)),
      )
      tries_err answer later new (inr r) = inr (record {
        middle = after;
        by = tried;
        tries = subst (λ (t : Trouble). Tries M G c before old (Err t) after tried) r.wanted tries;
        fails = r.fails;
      })

-- A segment that has no cache
module _ {Manager X Chooser : Type 0} (M : GhostsOfMapper X) (G : GhostsOfGmi Manager X Chooser) (manager : SegManager Manager) (mapper : X) (can : CanCall G manager (M.held mapper) (M.page_bytes mapper)) (seg : SegId)
    (anew : None ≡ position_from (first_of seg.0) 0 manager.caches.items) where
  pub open_ended : (a : Answer) (after : X) (gmi : Manager) → (call : MapperCall M (meanings_of G) mapper manager.gmi (vm_commands.OpenSegment seg) a after gmi)
      → Ends (segments_of (M.held after)) (G.machine manager.gmi (M.held mapper)) seg.0 a (G.machine gmi (M.held after)) (call_is M G manager gmi mapper after (vm_commands.OpenSegment seg) a can call).rises
  open_ended a after gmi call =
      let it = call_is M G manager gmi mapper after (vm_commands.OpenSegment seg) a can call in
      open_ends (segments_of (M.held after)) (G.machine manager.gmi (M.held mapper)) (forest M G manager gmi mapper after (vm_commands.OpenSegment seg) a can call) seg a (G.machine gmi (M.held after)) it.rises
      (unnamed (G.machine manager.gmi (M.held mapper)) (segments_of (M.held mapper)) manager.caches.items manager.kept.items manager.kept.room manager.regions.items can.tied seg (sym anew))
      it.is.outcome

  pub open_leaves : Leaves M G mapper manager (vm_commands.OpenSegment seg) manager.gmi mapper
  open_leaves t after gmi call = by (open_ended (Err t) after gmi call)
    where
      by : {rises : MapperCounts} → Ends (segments_of (M.held after)) (G.machine manager.gmi (M.held mapper)) seg.0 (Err t) (G.machine gmi (M.held after)) rises → G.machine gmi (M.held after) ≡ G.machine manager.gmi (M.held mapper)
      by (made p) = absurd (let wrong : Err t ≡ Ok (replies.Cache (record { 0 = length (G.machine manager.gmi (M.held mapper)).caches + 1 })) = p.answer in cc wrong)
      by (many e s) = s
      by (nowhere e s h) = s
      by (failed e s h few) = s
      by (lacks e s) = s

  pub open_row : (before : X) (old : SegManager Manager) → CanCall G old (M.held before) (M.page_bytes before) → Thins M G before old mapper manager → None ≡ position_from (first_of seg.0) 0 old.caches.items
      → IsSameRow (vm_commands.OpenSegment seg) (G.machine manager.gmi (M.held mapper)) (segments_of (M.held before)) (segments_of (M.held mapper))
  open_row before old able thins none = record {
    forests = λ x f g h. refl;
    held = λ f h s u e d follow.
        let t = subst (λ (o : Option Segments). AreTied (G.machine old.gmi (M.held before)) o old.caches.items old.kept.items old.kept.room old.regions.items) e able.tied in
        let w = subst (λ (o : Option Segments). AreTied (G.machine manager.gmi (M.held mapper)) o manager.caches.items manager.kept.items manager.kept.room manager.regions.items) d can.tied in
        let seen = subst (λ (o : Option Segments). references_seen (G.machine manager.gmi (M.held mapper)) (Some s) manager.caches.items ≡ references_seen (G.machine old.gmi (M.held before)) o old.caches.items) e
        (subst (λ (o : Option Segments). references_seen (G.machine manager.gmi (M.held mapper)) o manager.caches.items ≡ references_seen (G.machine old.gmi (M.held before)) (segments_of (M.held before)) old.caches.items) d thins.seen)
        in
        ap (open_of (G.machine manager.gmi (M.held mapper)) seg.0)
        (sym (stored_held (G.machine old.gmi (M.held before)) h old.caches.items old.kept.items old.kept.room old.regions.items t seg none)
        ∙ ap (λ (r : ReferenceMachine). r.stored seg.0) (sym seen)
        ∙ stored_held (G.machine manager.gmi (M.held mapper)) s manager.caches.items manager.kept.items manager.kept.room manager.regions.items w seg anew
        ∙ sym (follow.beside seg.0 (unnamed (G.machine manager.gmi (M.held mapper)) (segments_of (M.held mapper)) manager.caches.items manager.kept.items manager.kept.room manager.regions.items can.tied seg (sym anew))));
  }
