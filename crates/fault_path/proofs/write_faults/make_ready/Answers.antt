use Rattle.std.proofs.Common.{rules, sym, ap, subst, ◌∙◌, ◌≡◌, ℕ, ◌+◌, Bool, true, cond, Option, is_some, arith}
use Rattle.std.specs.Prelude.{OnOk}
use Rattle.vm_ids.specs.declared.node_name.NodeName.{NodeName}
use Rattle.vm_ids.specs.declared.numbers.NodeId.{NodeId}
use Rattle.vm_ids.specs.Forest.Rules as forest
use Rattle.local_cache.specs.Arena.{Arena}
use Rattle.local_cache.specs.Own.{is_absent, own_of}
use Rattle.residency.specs.Between.{world_at}
use Rattle.residency.specs.World.{World}
use Rattle.residency.proofs.Worlds.Arms.{if_ok}
use Rattle.fault_path.specs.Answers.{IsFramed}
use Rattle.fault_path.specs.Faults.{readied}
use Rattle.fault_path.proofs.Calls.Kept.{absent_is}
use Rattle.fault_path.proofs.Rules.ReadyForest.{own_ready}
use Rattle.residency.specs.World.{HasOwnPage}
use Rattle.fault_path.specs.Translating.{LeavesHomes}
use Rattle.residency.specs.Causes.{frames_to_bring}
use Rattle.fault_path.specs.Costs.{Takes, TakesAtMost, frames_to_copy, frames_to_write, heirs_to_save, pulls_to_copy, pulls_to_write}
use Rattle.fault_path.proofs.Calls.Costs.{most_more}
use Rattle.fault_path.proofs.OnePage.FoundPage.{each_owner, itself_owner, owner_same}
use Rattle.fault_path.specs.Coming.{IsOfWrite, OnlyCome}
use Rattle.fault_path.specs.Answers.{OnlyVictim}
use Rattle.fault_path.specs.Faults.{is_at_hand}
use Rattle.fault_path.proofs.write_faults.make_ready.Goals as goal

pub returns-in-None-clause-ready : goal.returns-in-None-clause-ready
returns-in-None-clause-ready g c =
    let old : World = world_at g.M.Mapper c.args.mapper.now c.args.caches.now c.args.store.now in
    let w : World = world_at g.M.Mapper c.own_framed.new.mapper c.own_framed.new.caches c.own_framed.new.store in
    let absent : is_absent (own_of c.args.caches.now c.args.node) ≡ true = sym (c.is_absent.ensures.absent ∙ ap is_absent c.own_state.ensures) ∙ c.if-is_absent.true in
    let ready = own_ready old c.requires.right.sound c.requires.right.shaped c.args.node c.requires.node (absent_is _ absent) (sym c.in-None.ensures.heir) in
    let e = c.own_framed.ensures.owned in
    record {
      answered = e.answered;
      done = if_ok (λ f. IsFramed forest.own c.args.node f.0 old w) (λ f. IsFramed readied c.args.node f.0 old w) c.own_framed.result
          (λ f owned. record { forest = owned.forest ∙ ready; bound = owned.bound; resident = owned.resident }) e.done;
      missed = e.missed;
    }

pub returns-in-None-clause-traffic : goal.returns-in-None-clause-traffic
returns-in-None-clause-traffic g c = λ o is.
    let a : Arena = c.args.caches.now in
    let n : NodeId = c.args.node in
    let before = g.M.Mapper.counts c.args.mapper.now in
    let now = g.M.Mapper.counts c.own_framed.new.mapper in
    let many : ℕ = frames_to_copy (own_of a o) in
    let absent : is_absent (own_of a n) ≡ true = sym (c.is_absent.ensures.absent ∙ ap is_absent c.own_state.ensures) ∙ c.if-is_absent.true in
    let pulls : pulls_to_write a n o ≡ pulls_to_copy (own_of a o) = ap (λ (b : Bool). pulls_to_copy (own_of a (cond b o n))) absent in
    let none : many + 0 ≡ many = omega arith in
    let frames : frames_to_write a n o ≡ many = ap (λ (b : Bool). cond b many (frames_to_bring (own_of a n)) + heirs_to_save a n) absent ∙ ap (λ (h : Option NodeName). many + cond (is_some h) 1 0) (sym c.in-None.ensures.heir) ∙ none in
    subst (λ (k : ℕ). OnOk c.own_framed.result (Takes k (frames_to_write a n o) c.args.store.now.frames before now)) (sym pulls)
    (subst (λ (k : ℕ). OnOk c.own_framed.result (Takes (pulls_to_copy (own_of a o)) k c.args.store.now.frames before now)) (sym frames) (c.own_framed.ensures.traffic o is))

pub returns-in-None-clause-most : goal.returns-in-None-clause-most
returns-in-None-clause-most g c = λ o is. most_more _ _ _ _ _ _ (c.own_framed.ensures.most o is) (omega arith) (omega arith)

pub returns-in-Some-heir : goal.returns-in-Some-heir
returns-in-Some-heir g c =
    let own : HasOwnPage c.args.caches.now c.args.node = record { node = c.requires.node; own_page = sym (c.is_absent.ensures.absent ∙ ap is_absent c.own_state.ensures) ∙ c.if-is_absent.false } in
    let itself = itself_owner c.args.caches.now c.requires.right.sound c.requires.right.shaped c.args.node own in
    let old : World = world_at g.M.Mapper c.args.mapper.now c.args.caches.now c.args.store.now in
    let w : World = world_at g.M.Mapper c.hand_own.new.mapper c.hand_own.new.caches c.hand_own.new.store in
    record {
      ready = search rules;
      drops = λ o is. subst (λ (m : NodeId). LeavesHomes c.hand_own.result m c.args.node c.args.caches.now c.args.store.now c.hand_own.new.caches c.hand_own.new.store) (sym (owner_same c.args.caches.now c.requires.right.sound c.args.node o c.args.node is itself)) c.hand_own.ensures.drops;
      frames = (each_owner (λ (m : NodeId). OnlyCome (IsOfWrite c.args.caches.now c.args.node m) old w) c.args.caches.now c.requires.right.sound c.args.node c.args.node
          (itself_owner c.args.caches.now c.requires.right.sound c.requires.right.shaped c.args.node own) c.hand_own.ensures.frames);
      copies = search rules;
      traffic = search rules;
      most = (each_owner (λ (m : NodeId). TakesAtMost (pulls_to_copy (own_of c.args.caches.now m)) 3 c.args.store.now.frames (g.M.Mapper.counts c.args.mapper.now) (g.M.Mapper.counts c.hand_own.new.mapper)) c.args.caches.now c.requires.right.sound c.args.node c.args.node
          (itself_owner c.args.caches.now c.requires.right.sound c.requires.right.shaped c.args.node own) (most_more _ _ _ _ _ _ c.hand_own.ensures.most (omega arith) (omega arith)));
      victim = (each_owner (λ (m : NodeId). is_at_hand (own_of c.args.caches.now m) ≡ true → OnlyVictim c.hand_own.result) c.args.caches.now c.requires.right.sound c.args.node c.args.node
          (itself_owner c.args.caches.now c.requires.right.sound c.requires.right.shaped c.args.node own) c.hand_own.ensures.victim);
    }

pub returns-in-None-heir : goal.returns-in-None-heir
returns-in-None-heir g c =
    let own : HasOwnPage c.args.caches.now c.args.node = record { node = c.requires.node; own_page = sym (c.is_absent.ensures.absent ∙ ap is_absent c.own_state.ensures) ∙ c.if-is_absent.false } in
    let itself = itself_owner c.args.caches.now c.requires.right.sound c.requires.right.shaped c.args.node own in
    let old : World = world_at g.M.Mapper c.args.mapper.now c.args.caches.now c.args.store.now in
    let w : World = world_at g.M.Mapper c.bring_dirty.new.mapper c.bring_dirty.new.caches c.bring_dirty.new.store in
    record {
      ready = search rules;
      drops = λ o is. subst (λ (m : NodeId). LeavesHomes c.bring_dirty.result m c.args.node c.args.caches.now c.args.store.now c.bring_dirty.new.caches c.bring_dirty.new.store) (sym (owner_same c.args.caches.now c.requires.right.sound c.args.node o c.args.node is itself)) c.bring_dirty.ensures.drops;
      frames = (each_owner (λ (m : NodeId). OnlyCome (IsOfWrite c.args.caches.now c.args.node m) old w) c.args.caches.now c.requires.right.sound c.args.node c.args.node
          (itself_owner c.args.caches.now c.requires.right.sound c.requires.right.shaped c.args.node own) c.bring_dirty.ensures.frames);
      copies = search rules;
      traffic = search rules;
      most = (each_owner (λ (m : NodeId). TakesAtMost (pulls_to_copy (own_of c.args.caches.now m)) 3 c.args.store.now.frames (g.M.Mapper.counts c.args.mapper.now) (g.M.Mapper.counts c.bring_dirty.new.mapper)) c.args.caches.now c.requires.right.sound c.args.node c.args.node
          (itself_owner c.args.caches.now c.requires.right.sound c.requires.right.shaped c.args.node own) (most_more _ _ _ _ _ _ c.bring_dirty.ensures.most (omega arith) (omega arith)));
      victim = (each_owner (λ (m : NodeId). is_at_hand (own_of c.args.caches.now m) ≡ true → OnlyVictim c.bring_dirty.result) c.args.caches.now c.requires.right.sound c.args.node c.args.node
          (itself_owner c.args.caches.now c.requires.right.sound c.requires.right.shaped c.args.node own) c.bring_dirty.ensures.victim);
    }
