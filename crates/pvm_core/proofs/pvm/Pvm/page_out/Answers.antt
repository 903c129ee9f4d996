use Rattle.std.proofs.Common.{rules, ◌≡◌, refl, sym, ap, subst, ◌∙◌}
use Rattle.std.specs.Prelude.{◌+◌, length, IfSome, OnOk, Result}
use Rattle.local_cache.specs.Arena.{Arena}
use Rattle.residency.specs.Between.{world_at}
use Rattle.residency.proofs.Forests.StillForest.{still_forest}
use Rattle.residency.proofs.Translations.Kept.{still_drops}
use Rattle.fault_path.proofs.Calls.Kept.{still_kept}
use Rattle.vm_ids.specs.declared.command.Command.TheVariants as commands
use Rattle.vm_ids.specs.declared.reply.Reply.TheVariants as replies
use Rattle.vm_ids.specs.declared.reply.Trouble.{Trouble}
use Rattle.vm_model.specs.Answering.{answer_by}
use Rattle.vm_model.specs.Run.{CallIs}
use Rattle.pvm_core.specs.Keeping.{SameMeaning}
use Rattle.pvm_core.specs.Leaving.{FrameCountFalls}
use Rattle.pvm_core.specs.Manager.{Manager, forest_of, machine_by, machine_of, numbered, state_at}
use Rattle.pvm_core.proofs.Answering.Answered.{called, made_stays, on_victim, paged_out, victim}
use Rattle.pvm_core.proofs.Accesses.Seen.{fits_frames, same_grants}
use Rattle.pvm_core.proofs.Homes.Homed.{reached}
use Rattle.pvm_core.proofs.Translating.Dropped.{dropped_right}
use Rattle.pvm_core.proofs.Answering.Kept.{seen, sized_right, valid_seen, call_seen}
use Rattle.pvm_core.proofs.Answering.Standing.{Stands, stands}
use Rattle.pvm_core.proofs.Answering.Recorded.{asks_victim}
use Rattle.gmi_calls.specs.Calling.{AsksFirst}
use Rattle.pvm_core.proofs.pvm.Pvm.page_out.Given.{Over}
use Rattle.pvm_core.proofs.pvm.Pvm.page_out.Goals as goal
use Rattle.pvm_core.proofs.pvm.Pvm.page_out.Goals.{After-page_out, Joined-page_out, in-Ok, in-Err}

-- what the manager stands for stays
paged : (g : Over) (c : After-page_out g) → Stands (seen c.self.inside.caches c.self.inside.store c.self.inside.contexts) c.page_out.new.caches c.page_out.new.self c.self.inside.contexts c.self.inside.live (g.M.Mapper.held c.args.mapper.now) (g.M.Mapper.held c.page_out.new.mapper) (g.M.Mapper.counts c.args.mapper.now) (g.M.Mapper.counts c.page_out.new.mapper)
paged g c =
    let i = c.self.inside in
    let n = c.page_out.new in
    let e = c.page_out.ensures in
    let sound = c.self.invariant.sound in
    let h = g.M.Mapper.held c.args.mapper.now in
    let k = g.M.Mapper.held n.mapper in
    let size = g.M.Mapper.page_bytes c.args.mapper.now in
    let now = g.M.Mapper.page_bytes n.mapper in
    stands i.caches n.caches i.store n.self h k size now (still_kept (world_at g.M.Mapper c.args.mapper.now i.caches i.store) (world_at g.M.Mapper n.mapper n.caches n.self) e.still sound.nodes.sound sound.nodes.consistent.shaped e.pinned) i.contexts i.live sound _ _
    (still_forest (world_at g.M.Mapper c.args.mapper.now i.caches i.store) (world_at g.M.Mapper n.mapper n.caches n.self) e.still) (reached (seen i.caches i.store i.contexts) h sound.nodes sound.apart size now n.caches n.self k _ _ e.later e.told)
    (valid_seen c.self.view_is c.requires.valid)

pub invariant_of-self : goal.invariant_of-self
invariant_of-self g c = record {
  sound = (paged g (goal.at.invariant_of-self g c).After-page_out).sound;
  translated = (
      let i = c.self.inside in
      let n = c.page_out.new in
      let e = c.page_out.ensures in
      let h = g.M.Mapper.held c.args.mapper.now in
      let k = g.M.Mapper.held n.mapper in
      let size = g.M.Mapper.page_bytes c.args.mapper.now in
      let then_size = g.M.Mapper.page_bytes n.mapper in
      let valid = valid_seen c.self.view_is c.requires.valid in
      let fits = subst (λ (p : Manager). IfSome size (λ bytes. bytes ≡ p.page_bytes)) (sym c.self.view_is) c.requires.fits in
      let right = sized_right h size i.caches i.store (fits_frames size i.contexts.page_bytes i.store.frames.page c.self.invariant.sound.page fits) valid.right in
      dropped_right (λ m. ⊥) i.caches n.caches i.store n.self i.contexts
      (still_drops h k size then_size i.caches n.caches i.store n.self right.tied e.still.stays e.tables e.others)
      (same_grants i.caches n.caches (ap (λ (a : Arena). a.caches) e.still.stays.caches.rest)) c.self.invariant.translated
      );
}

-- the answer tells of the victim
turned : (g : Over) (c : Joined-page_out g) → victim c.page_out.result ≡ c.match-page_out.result
turned g c = elim c.match-page_out.branch [
  | in-Ok w ↦ ap victim w.in-Ok.is ∙ sym w.result-is
  | in-Err w ↦ ap victim w.in-Err.is ∙ sym w.result-is
]

pub returns-clause-call : goal.returns-clause-call
returns-clause-call g c = record {
  valid = (paged g (goal.at.returns-clause-call g c).After-page_out).valid;
  answers = (
      let i = c.self.inside in
      let n = c.page_out.new in
      let h = g.M.Mapper.held c.args.mapper.now in
      let k = g.M.Mapper.held n.mapper in
      let before = g.M.Mapper.counts c.args.mapper.now in
      let after = g.M.Mapper.counts n.mapper in
      let p : Manager = seen i.caches i.store i.contexts in
      let q : Manager = seen n.caches n.self i.contexts in
      let command = commands.PageOut c.args.count in
      let s = paged g (goal.at.returns-clause-call g c).After-page_out in
      call_seen h c.self.view_is (subst (λ (r : Result (Unit {0}) Trouble). CallIs before after (state_at p h) command (answer_by (λ _. replies.Done) r) (state_at q k)) (turned g (goal.at.returns-clause-call g c).Joined-page_out)
      (called before after p q h k command (answer_by (λ _. replies.Done) (victim c.page_out.result)) s.reach c.self.invariant.sound.nodes s.sound.nodes s.valid s.forest (λ done m f s none. none) tt tt (λ f. refl) (λ page. refl)
      (λ f g. paged_out (length s.reach.pushes) (machine_by p f) (machine_by q f) (forest_of p h) c.args.count g before after c.page_out.result (s.by f) c.page_out.ensures.cause)))
      );
  asks_first = subst (λ (r : Result (Unit {0}) Trouble). AsksFirst (commands.PageOut c.args.count) (answer_by (λ _. replies.Done) r) (g.M.Mapper.counts c.args.mapper.now) (g.M.Mapper.counts c.page_out.new.mapper)) (turned g (goal.at.returns-clause-call g c).Joined-page_out) (asks_victim (commands.PageOut c.args.count) c.page_out.result (g.M.Mapper.counts c.args.mapper.now) (g.M.Mapper.counts c.page_out.new.mapper));
  made = made_stays (machine_of c.args.self.now (g.M.Mapper.held c.args.mapper.now)) (commands.PageOut c.args.count) (answer_by (λ _. replies.Done) c.match-page_out.result) (machine_of (seen c.page_out.new.caches c.page_out.new.self c.self.inside.contexts) (g.M.Mapper.held c.page_out.new.mapper)) (numbered c.args.self.now) (numbered (seen c.page_out.new.caches c.page_out.new.self c.self.inside.contexts)) (ap (λ (a : Arena). a.made + a.copies) c.page_out.ensures.still.stays.caches.rest ∙ ap numbered c.self.view_is);
  room = refl;
  page = search rules;
}

pub returns-clause-stays : goal.returns-clause-stays
returns-clause-stays g c =
    let s = paged g (goal.at.returns-clause-stays g c).After-page_out in
    let q : Manager = seen c.page_out.new.caches c.page_out.new.self c.self.inside.contexts in
    subst (λ (p : Manager). SameMeaning p q (g.M.Mapper.held c.args.mapper.now) (g.M.Mapper.held c.page_out.new.mapper)) c.self.view_is (record { machine = s.machine; forest = s.forest })

pub returns-clause-fewer : goal.returns-clause-fewer
returns-clause-fewer g c =
    let i = c.self.inside in
    let q : Manager = seen c.page_out.new.caches c.page_out.new.self i.contexts in
    subst (λ (p : Manager). OnOk c.match-page_out.result (FrameCountFalls c.args.count p q)) c.self.view_is
    (subst (λ (r : Result (Unit {0}) Trouble). OnOk r (FrameCountFalls c.args.count (seen i.caches i.store i.contexts) q)) (turned g (goal.at.returns-clause-fewer g c).Joined-page_out)
    (on_victim _ c.page_out.result c.page_out.ensures.fewer))
